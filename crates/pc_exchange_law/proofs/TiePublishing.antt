-- A pass's next attempt is published: its status goes to the next number, undecided, and its exchange, which nobody
-- knows yet, is the one of the attempt.
use Rattle.std.proofs.Common.{◌≡◌, ◌≢◌, ℕ, ◌+◌, ◌<◌, ◌≤◌, ⊎_elim, refl, sym, ap, ◌∙◌, subst, arith}
use Rattle.std.proofs.lemmas.Bool.{cases_eq}
use Rattle.pc_model.specs.Exchanges.{Changed}
use Rattle.pc_words.specs.declared.status.Stage.TheVariants.{Undecided}
use Rattle.pc_words.specs.declared.status.Status.{Status}
use Rattle.pc_history.proofs.Updates.{updated_here, updated_other, on_updated}
use Rattle.pc_rule_law.specs.Board.{Board, put, put2}
use Rattle.pc_rule_law.specs.Past.{Has, Attempt, Past, IsFormed}
use Rattle.pc_rule_law.specs.Stages.{IsOpen}
use Rattle.pc_rule_law.proofs.Updates.{put2-here, put2-else, at_put}
use Rattle.pc_protocol.specs.Histories.{absent, undecided, History, moments, IsPublished}
use Rattle.pc_protocol.specs.Rules.{Rule}
use Rattle.pc_protocol.specs.Seeing.{Saw}
use Rattle.pc_protocol.specs.Steps.{publish, CanPublish}
use Rattle.pc_protocol.proofs.Publishing.{publish_keeps}
use Rattle.pc_exchange_law.specs.Ties.{code, SaysOf, exchange_of, IsTied}
use Rattle.pc_exchange_law.specs.Changes.{with_status, with_values, Leads, RaisesNodes}
use Rattle.pc_exchange_law.specs.TieLaws.{MayMake}
use Rattle.pc_exchange_law.proofs.Codes.{same_seat, same_number}
use Rattle.pc_exchange_law.proofs.ChangeLists.{apart_is_once}
use Rattle.pc_exchange_law.proofs.Statuses.{undecided_is_open, stages_moved, says_now}

module _ (b : Board) (t : Past) (h : History) (tied : IsTied b t h) (p : ℕ) (small : p < 64) where
  abbrev a : ℕ
  a = (b.status p).number + 1

  abbrev next : Status
  next = record { number = a; stage = Undecided }

  -- the next attempt isn't published
  next_is_new : h.stage (code p a) ≡ absent
  next_is_new = (tied.stages p a small).later (omega arith)

  module _ (c : ℕ) (x : Attempt) (closed : IsOpen (b.status p).stage → ⊥) where
    abbrev h' : History
    h' = publish h (code p a) (exchange_of x) c

    abbrev attempt' : ℕ → ℕ → Attempt
    attempt' = put2 t.attempt p a x

    -- the new status says of the older attempts that none is undecided
    others_say : (i : ℕ) → i ≢ a → SaysOf next i (h.stage (code p i))
    others_say i ne = let says = tied.stages p i small in record {
      before = λ lt u. ⊎_elim
          (λ e. closed (undecided_is_open (b.status p).stage (h.stage (code p i)) (says.present e) u))
          (λ other. says.before (omega arith) u)
          (cases_eq i (b.status p).number);
      present = λ e. absurd (ne e);
      later = λ lt. says.later (omega arith);
    }

    published_still : (q i : ℕ) (y : Changed) → q < 64 → i ≤ (put b.status p next q).number
        → Has (attempt' q i).changes y
        → IsPublished (h'.stage (code q i))
    published_still q i y low = at_put b.status p next
        (λ r s. r < 64 → i ≤ s.number → Has (attempt' r i).changes y → IsPublished (h'.stage (code r i))) q
        (λ _ le has. on_updated h.stage (code p a) undecided IsPublished (code p i) (λ _. tt)
        (λ ne. let other : i ≢ a = λ e. ne (ap (code p) e) in
        tied.published p i y small (omega arith)
        (subst (λ (u : Attempt). Has u.changes y) (put2-else t.attempt p a p i x (λ _. other)) has)))
        (λ ne low_r le has. on_updated h.stage (code p a) undecided IsPublished (code q i) (λ _. tt)
        (λ _. tied.published q i y low_r le
        (subst (λ (u : Attempt). Has u.changes y) (put2-else t.attempt p a q i x (λ e _. ne e)) has)))
        low

    exchange_still : (q i : ℕ) → q < 64 → IsPublished (h'.stage (code q i))
        → h'.op (code q i) ≡ exchange_of (attempt' q i)
    exchange_still q i low published = ⊎_elim
        (λ e. let seat : q ≡ p = same_seat q i p a low small e in let number : i ≡ a = same_number q i p a low small e in
        updated_here h.op (code p a) (exchange_of x) (code q i) e
        ∙ ap exchange_of (sym (here seat number)))
        (λ ne. updated_other h.op (code p a) (exchange_of x) (code q i) ne
        ∙ (tied.exchanges q i low (subst IsPublished (updated_other h.stage (code p a) undecided (code q i) ne) published)
        ∙ ap exchange_of (sym (put2-else t.attempt p a q i x (λ seat number. ne (same seat number))))))
        (cases_eq (code q i) (code p a))
      where
        same : q ≡ p → i ≡ a → code q i ≡ code p a
        same seat number = λ j. code (seat j) (number j)

        here : q ≡ p → i ≡ a → attempt' q i ≡ x
        here seat number = (λ j. attempt' (seat j) (number j)) ∙ put2-here t.attempt p a x

    published_tied : IsTied (with_status b p next) (with_values t t.cells t.plain attempt' (put2 t.words p a (b.word p))) h'
    published_tied = record {
      clock = tied.clock;
      last = tied.last;
      owners = tied.owners;
      references = tied.references;
      seated = tied.seated;
      plain = tied.plain;
      cells = tied.cells;
      stages = stages_moved b t h tied p next undecided small (says_now next undecided refl) others_say;
      published = published_still;
      exchanges = exchange_still;
      uncleared = tied.uncleared;
    }

    pub publish_leads : Rule h → CanPublish h (code p a) (exchange_of x) c
        → Leads h (with_status b p next) (with_values t t.cells t.plain attempt' (put2 t.words p a (b.word p))) h'
    publish_leads rule can = record {
      keeps = publish_keeps h rule (code p a) (exchange_of x) c can;
      tied = published_tied;
    }

  -- an attempt may be published where its form is right and what it visits and reads was seen, whatever the board holds
  pub may_publish : (slots c : ℕ) (x : Attempt) → c ≤ b.clock → IsFormed slots x → RaisesNodes x
      → Saw (moments h) c (exchange_of x) → MayMake h (exchange_of x)
      → CanPublish h (code p a) (exchange_of x) c
  may_publish slots c x past formed raises saw makes = record {
    is_new = next_is_new;
    past = let same : h.clock ≡ b.clock = tied.clock in omega arith;
    well_formed = record {
      once = apart_is_once x.changes formed.apart;
      raises = raises;
      not_fresh = makes.unchanged;
    };
    saw = saw;
    fresh = makes.ready;
    apart = makes.apart;
  }
