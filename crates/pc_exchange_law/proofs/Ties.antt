-- The laws of the tie, from its lemmas.
use Rattle.std.proofs.Common.{◌≤◌}
use Rattle.pc_rule_law.specs.Board.{Size, Board}
use Rattle.pc_rule_law.specs.Past.{Past}
use Rattle.pc_protocol.specs.Histories.{History}
use Rattle.pc_protocol.specs.Rules.{Rule}
use Rattle.pc_exchange_law.specs.Slots.{ChangesUsed}
use Rattle.pc_exchange_law.specs.Ties.{IsTied}
use Rattle.pc_exchange_law.specs.TieLaws.{StepsStayTied, WordsServe, SuccessesServe}
use Rattle.pc_exchange_law.proofs.TieDraws.{look_leads, draw_leads, other_draw_leads, may_draw}
use Rattle.pc_exchange_law.proofs.TieWords.{may_refer, word_leads}
use Rattle.pc_exchange_law.proofs.TiePublishing.{publish_leads, may_publish}
use Rattle.pc_exchange_law.proofs.TieDecisions.{success_leads, failure_leads, clearing_leads}
use Rattle.pc_exchange_law.proofs.TieDecisions.{may_commit, may_withdraw, may_end, may_fail, may_lock}
use Rattle.pc_exchange_law.proofs.TieSuccesses.{success_serves}

pub steps_stay_tied : (z : Size) (b : Board) (t : Past) (h : History) → z.seats ≤ 32 → Rule h → IsTied b t h → ChangesUsed h
    → StepsStayTied z b t h
steps_stay_tied z b t h few rule tied changed = record {
  looks = look_leads b t h tied rule;
  words = λ n f c placing' course' may. word_leads z b t h few tied changed n f c may placing' course' rule;
  draws = draw_leads b t h tied rule;
  other_draws = other_draw_leads b t h tied rule;
  publishes = λ p c x small closed can. publish_leads b t h tied p small c x closed rule can;
  succeeds = λ p s cells' plain' small can same now. success_leads b t h tied p small s cells' plain' can same now rule;
  fails = λ p cause small can. failure_leads b t h tied p small cause can rule;
  clears = λ p closed. clearing_leads b t h tied p closed rule;
}

pub words_serve : (z : Size) (b : Board) (t : Past) (h : History) → z.seats ≤ 32 → Rule h → IsTied b t h → ChangesUsed h
    → WordsServe z b t h
words_serve z b t h few rule tied changed = record {
  refer = may_refer z b t h few tied changed;
  draw = may_draw b t h tied;
  publish = λ p c x small past formed raises saw makes. may_publish b t h tied p small z.slots c x past formed raises saw makes;
  commit = λ p a s small u drawn checked. may_commit b t h tied p a small u rule s drawn checked;
  withdraw = may_withdraw b t h tied;
  run_out = may_end b t h tied;
  fail = λ p a n small u noted. may_fail b t h tied p a small u n noted;
  lock = λ p a n v q s small u covers other drawn rivals. may_lock b t h tied p a small u rule n v q s covers other drawn rivals;
}

pub successes_serve : (b : Board) (t : Past) (h : History) → Rule h → IsTied b t h → ChangesUsed h → SuccessesServe b t h
successes_serve b t h rule tied changed p a s small number can = success_serves b t h tied p a small rule changed s can number
