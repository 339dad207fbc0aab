-- What the clock, the words and the statuses of a tied board tell is true at once.
use Rattle.std.proofs.Common.{◌≡◌, ◌≢◌, ℕ, ◌<◌, ◌≤◌, Some, refl, sym, ap, ◌∙◌, subst, arith}
use Rattle.pc_model.specs.declared.cell.Field.{Field}
use Rattle.pc_model.specs.declared.cell.Field.TheVariants.{Version}
use Rattle.pc_model.specs.Exchanges.{Changed, Exchange as PathExchange}
use Rattle.pc_words.specs.declared.word.WordKind.TheVariants.{Exchange}
use Rattle.pc_history.specs.Footprints.{IsAmong, IsOfWord, IsWellFormed}
use Rattle.pc_history.proofs.Footprints.{same_change}
use Rattle.pc_rule_law.specs.Board.{Board}
use Rattle.pc_rule_law.specs.Past.{Has, Past, change}
use Rattle.pc_rule_law.specs.Stages.{IsUndecided as IsUndecidedAttempt}
use Rattle.pc_protocol.specs.Histories.{ended, locked, Stage, committed, aborted, History, IsPublished, value_by, IsSpare}
use Rattle.pc_protocol.specs.Seeing.{ChangesVersion}
use Rattle.pc_protocol.specs.Rules.{Refers, Rule}
use Rattle.pc_protocol.specs.Notes.{clock_was, visited, read_word, verdict, outdated, IsTrueNote}
use Rattle.pc_protocol.specs.Bases.{IsBased}
use Rattle.pc_protocol.proofs.Bases.{bases_tell}
use Rattle.pc_protocol.proofs.Loads.{loads_tell}
use Rattle.pc_protocol.proofs.Stages.{committed_is_published, undecided_is_published}
use Rattle.pc_exchange_law.specs.Ties.{code, last_stamp, reference_in, IsSeated, IsStageOf, exchange_of, IsTied}
use Rattle.pc_exchange_law.specs.TieLaws.{BoardTells}
use Rattle.pc_exchange_law.proofs.ChangeLists.{has_among}
use Rattle.pc_exchange_law.proofs.Codes.{of_code}
use Rattle.pc_exchange_law.proofs.Statuses.{busy_is_published, closed_is_decided, same_worth, undecided_in_history, undecided_on_board}

module _ (b : Board) (t : Past) (h : History) (rule : Rule h) (tied : IsTied b t h) where
  says_now : (p : ℕ) → p < 64 → IsStageOf (b.status p).stage (h.stage (code p (b.status p).number))
  says_now p small = (tied.stages p (b.status p).number small).present refl

  clock_told : IsTrueNote h (clock_was b.clock)
  clock_told = subst (λ (c : ℕ). c ≤ h.clock) tied.clock (loads_tell h rule).time

  version_told : (n : ℕ) → (IsSpare (h.slot n) → ⊥) → IsTrueNote h (visited n (t.plain n Version) b.clock)
  version_told n no_spare = subst (λ (c : ℕ). IsTrueNote h (visited n (t.plain n Version) c)) tied.clock
      (subst (λ (v : ℕ). IsTrueNote h (visited n v h.clock)) (tied.plain n Version)
      ((loads_tell h rule).version n no_spare))

  word_told : (n v c : ℕ) (f : Field) → (IsSpare (h.slot n) → ⊥) → IsTrueNote h (visited n v c)
      → IsTrueNote h (read_word n v f (t.plain n f) b.clock)
  word_told n v c f no_spare visit = subst (λ (i : ℕ). IsTrueNote h (read_word n v f (t.plain n f) i)) tied.clock
      (subst (λ (w : ℕ). IsTrueNote h (read_word n v f w h.clock)) (tied.plain n f)
      ((loads_tell h rule).word n v c f no_spare visit))

  -- the change of a word is one
  module _ (p a : ℕ) (small : p < 64) (published : IsPublished (h.stage (code p a))) where
    pub same_op : h.op (code p a) ≡ exchange_of (t.attempt p a)
    same_op = tied.exchanges p a small published

    among_op : (x : Changed) → Has (t.attempt p a).changes x → IsAmong x (h.op (code p a)).changes
    among_op x has = subst (λ (e : PathExchange). IsAmong x e.changes) (sym same_op)
        (has_among (t.attempt p a).changes x has)

    pub one_change : (x y : Changed) → Has (t.attempt p a).changes x → IsAmong y (h.op (code p a)).changes
        → IsOfWord x.node x.field y
        → x ≡ y
    one_change x y has among is =
        let formed : IsWellFormed (h.op (code p a)) = rule.well_formed (code p a) published in
        same_change (h.op (code p a)).changes x y formed.once (among_op x has) among is

  plain_told : (n : ℕ) (f : Field) (p a old new : ℕ) (st : Stage) → b.cell n f ≡ Exchange p a
      → Has (t.attempt p a).changes (change n f old new) → IsTrueNote h (verdict (code p a) st)
      → t.plain n f ≡ value_by st old new
  plain_told n f p a old new st is has noted =
      let refers : Refers h.stage h.op h.plain h.slot n f (code p a) =
      rule.refers n f (code p a) (tied.references n f ∙ ap reference_in is) in
      let small : p < 64 = subst IsSeated is (tied.seated n f) in
      let same : change n f old new ≡ refers.change = one_change p a small refers.published (change n f old new)
      refers.change has refers.among refers.is_of in
      sym (tied.plain n f) ∙ (sym refers.value
      ∙ (ap (λ (x : Changed). value_by (h.stage (code p a)) x.old x.new) (sym same)
      ∙ ap (λ (u : Stage). value_by u old new) noted.0))

  unchanged_told : (n v c : ℕ) (f : Field) (x p a new : ℕ) → b.cell n Version ≡ Exchange p a
      → IsUndecidedAttempt b.status p a
      → Has (t.attempt p a).changes (change n Version v new) → IsTrueNote h (read_word n v f x c) → t.plain n f ≡ x
  unchanged_told n v c f x p a new is u has seen =
      let small : p < 64 = subst IsSeated is (tied.seated n Version) in
      let undecided = undecided_in_history b t h tied p a small u in
      let covers : ChangesVersion (h.op (code p a)) n v = record {
        change = change n Version v new;
        among = among_op p a small (undecided_is_published (h.stage (code p a)) undecided) (change n Version v new) has;
        is_of = (refl, refl);
        old = refl;
      } in
      sym (tied.plain n f) ∙ (loads_tell h rule).held_version n v c (code p a) f x undecided
      (tied.references n Version ∙ ap reference_in is) covers seen

  stands_told : (p a s : ℕ) → p < 64 → IsTrueNote h (verdict (code p a) (committed s))
      → h.item s ≡ Some (exchange_of (t.attempt p a))
  stands_told p a s small noted = (rule.standing (code p a) s noted.0).1
      ∙ ap Some (same_op p a small (committed_is_published (h.stage (code p a)) s noted.0))

  ran_out_told : (x : ℕ) → IsTrueNote h (verdict x (aborted ended)) → last_stamp ≤ b.clock
  ran_out_told x noted =
      let late : h.last ≤ h.clock = rule.caused x ended noted.0 in
      let end : h.last ≡ last_stamp = tied.last in let now : h.clock ≡ b.clock = tied.clock in omega arith

  -- another number than the old one, in a word of an attempt that rests on its old numbers
  outdates_told : (p a : ℕ) (x : Changed) → p < 64 → a ≤ (b.status p).number → Has (t.attempt p a).changes x
      → IsBased h (code p a) → (IsSpare (h.slot x.node) → ⊥) → t.plain x.node x.field ≢ x.old
      → IsTrueNote h (outdated (code p a) x.node)
  outdates_told p a x small le has based no_spare other =
      let published : IsPublished (h.stage (code p a)) = tied.published p a x small le has in
      (bases_tell h rule).other_number (code p a) x published based (among_op p a small published x has) no_spare
      (λ same. other (sym (tied.plain x.node x.field) ∙ same))

  pub board_tells : BoardTells b t h
  board_tells = record {
    clock = clock_told;
    version = version_told;
    word = word_told;
    reference = λ n f p a is. (loads_tell h rule).reference n f (code p a) (tied.references n f ∙ ap reference_in is);
    busy = λ p small busy. busy_is_published (b.status p).stage (h.stage (code p (b.status p).number))
        (says_now p small) busy;
    listed = tied.published;
    undecided = undecided_in_history b t h tied;
    undecided_alone = undecided_on_board b t h tied;
    decided = λ p small busy closed. (
      h.stage (code p (b.status p).number),
      says_now p small,
      (loads_tell h rule).status (code p (b.status p).number)
          (closed_is_decided (b.status p).stage (h.stage (code p (b.status p).number)) (says_now p small) busy closed),
    );
    worth = λ p old new small busy. same_worth (b.status p).stage (h.stage (code p (b.status p).number)) old new
        (says_now p small) busy;
    plain = plain_told;
    unchanged = unchanged_told;
    stands = stands_told;
    ran_out = ran_out_told;
    outdates = outdates_told;
    was_outdated = λ x n noted. (loads_tell h rule).outdated_told n x noted.0;
    was_locked = λ p a n q small noted. let cause = rule.caused (code p a) (locked n q) noted.0 in
        (cause.3, (λ same. cause.2 (same ∙ sym (tied.owners (code p a) ∙ of_code p a small))), (cause.0, cause.1));
  }
