-- What a success does, in words of the board: the words of the attempt, which all held its reference, get their new
-- numbers, no other plain value changes, and versions rise.
use Rattle.std.proofs.Common.{◌≡◌, ◌≢◌, ℕ, ◌<◌, ◌≤◌, ⊎_elim, Some, sym, ◌∙◌, subst, arith}
use Rattle.pc_model.specs.declared.cell.Field.{Field}
use Rattle.pc_model.specs.declared.cell.Field.TheVariants.{Version}
use Rattle.pc_model.specs.Exchanges.{Changed, Exchange as PathExchange}
use Rattle.pc_words.specs.declared.word.WordKind.TheVariants.{Exchange}
use Rattle.pc_history.specs.Footprints.{IsAmong, IsOfWord}
use Rattle.pc_rule_law.specs.Board.{Board}
use Rattle.pc_rule_law.specs.Past.{Has, Past}
use Rattle.pc_protocol.specs.Histories.{History, cells_now, IsUsed}
use Rattle.pc_protocol.specs.Rules.{Rule}
use Rattle.pc_protocol.specs.Notes.{visited}
use Rattle.pc_protocol.specs.Steps.{Keeps, commit, CanCommit}
use Rattle.pc_protocol.specs.ProtocolLaws.{CommitChanges}
use Rattle.pc_protocol.proofs.Stages.{undecided_is_published, used_not_spare}
use Rattle.pc_protocol.proofs.Commits.{commit_keeps}
use Rattle.pc_protocol.proofs.Loads.{loads_tell}
use Rattle.pc_protocol.proofs.Protocol.{rule_tells}
use Rattle.pc_exchange_law.specs.Ties.{code, exchange_of, IsTied}
use Rattle.pc_exchange_law.specs.Changes.{Succeeds}
use Rattle.pc_exchange_law.specs.Slots.{ChangesUsed}
use Rattle.pc_exchange_law.proofs.Slots.{used_or_not}
use Rattle.pc_protocol.proofs.Slots.{slots_with-used}
use Rattle.pc_exchange_law.proofs.Codes.{same_seat, same_number}
use Rattle.pc_exchange_law.proofs.ChangeLists.{has_among}
use Rattle.pc_exchange_law.proofs.Statuses.{undecided_on_board}
use Rattle.pc_exchange_law.proofs.TieWords.{reference_is}

module _ (b : Board) (t : Past) (h : History) (tied : IsTied b t h) (p a : ℕ) (small : p < 64) where
  -- a word whose reference in the history is to the attempt holds it
  pub reference_on_board : (n : ℕ) (f : Field) → h.reference n f ≡ Some (code p a) → b.cell n f ≡ Exchange p a
  reference_on_board n f is =
      let word = reference_is (b.cell n f) (code p a) (tied.seated n f) (sym (tied.references n f) ∙ is) in
      let seat : word.0 ≡ p = same_seat word.0 word.1 p a word.2 small word.4 in
      let number : word.1 ≡ a = same_number word.0 word.1 p a word.2 small word.4 in
      word.3 ∙ (λ i. Exchange (seat i) (number i))

  module _ (rule : Rule h) (changed : ChangesUsed h) (s : ℕ) (can : CanCommit h (code p a) s) where
    abbrev h' : History
    h' = commit h (code p a) s

    changes_there : CommitChanges h (code p a) s
    changes_there = (rule_tells h rule).commit_changes (code p a) s can

    is_exchange : h.op (code p a) ≡ exchange_of (t.attempt p a)
    is_exchange = tied.exchanges p a small (undecided_is_published (h.stage (code p a)) can.undecided)

    among_op : (x : Changed) → Has (t.attempt p a).changes x → IsAmong x (h.op (code p a)).changes
    among_op x has = subst (λ (e : PathExchange). IsAmong x e.changes) (sym is_exchange)
        (has_among (t.attempt p a).changes x has)

    held_there : (x : Changed) → Has (t.attempt p a).changes x → b.cell x.node x.field ≡ Exchange p a
    held_there x has = reference_on_board x.node x.field (changes_there.held x (among_op x has))

    -- a word that doesn't hold the reference is none of the attempt's
    not_of_word : (n : ℕ) (f : Field) → b.cell n f ≢ Exchange p a → (x : Changed)
        → IsAmong x (h.op (code p a)).changes
        → IsOfWord n f x
        → ⊥
    not_of_word n f ne x among is = ne (reference_on_board n f
        ((λ i. h.reference (sym is.0 i) (sym is.1 i)) ∙ changes_there.held x among))

    version_before : (n : ℕ) → h.plain n Version ≡ t.plain n Version
    version_before n = tied.plain n Version

    -- by the note that a version was seen, which stays true
    used_rises : (n : ℕ) → IsUsed (h.slot n) → t.plain n Version ≤ h'.plain n Version
    used_rises n in_use =
        let keeps : Keeps h h' = commit_keeps h rule (code p a) s can in
        let after = keeps.notes (visited n (h.plain n Version) h.clock)
        ((loads_tell h rule).version n (used_not_spare (h.slot n) in_use)) in
        let now : h'.plain n Version ≡ cells_now h' n Version = keeps.rule.plain_is n Version
        (used_not_spare (h'.slot n) (slots_with-used (h.op (code p a)).fresh h.slot n in_use)) in
        let least : h.plain n Version ≤ cells_now h' n Version = after.1 in
        let before = version_before n in omega arith

    -- a node that isn't in use has no word of the attempt
    other_stays : (n : ℕ) → (IsUsed (h.slot n) → ⊥) → t.plain n Version ≤ h'.plain n Version
    other_stays n not_used =
        let stays : h'.plain n Version ≡ h.plain n Version = changes_there.others n Version (λ x among is. not_used
        (subst (λ (m : ℕ). IsUsed (h.slot m)) is.0
        (changed (code p a) x (undecided_is_published (h.stage (code p a)) can.undecided) among))) in
        let before = version_before n in omega arith

    versions_rise : (n : ℕ) → t.plain n Version ≤ h'.plain n Version
    versions_rise n = ⊎_elim (used_rises n) (other_stays n) (used_or_not (h.slot n))

    pub success_serves : (b.status p).number ≡ a → Succeeds b t p a h'.plain
    success_serves number = record {
      pending = (undecided_on_board b t h tied p a small can.undecided).1;
      held = held_there;
      gets = λ x has. changes_there.new x (among_op x has);
      stays = λ n f ne. changes_there.others n f (not_of_word n f ne) ∙ tied.plain n f;
      rises = versions_rise;
    }
