-- One word of a node changes: an install is placed or taken away, or a reference is put or taken away. It is the step
-- of the protocol that changes that word's reference.
use Rattle.std.proofs.Common.{◌≡◌, ℕ, ◌<◌, ◌≤◌, Some, refl, sym, ◌∙◌, subst, arith}
use Rattle.pc_model.specs.declared.cell.Field.{Field}
use Rattle.pc_model.specs.Exchanges.{Changed, Exchange as PathExchange}
use Rattle.pc_words.specs.declared.word.WordKind.{WordKind}
use Rattle.pc_words.specs.declared.word.WordKind.TheVariants.{Plain, Install, Exchange}
use Rattle.pc_history.specs.Footprints.{IsAmong}
use Rattle.pc_history.specs.Updates.{word_updated}
use Rattle.pc_history.proofs.Updates.{word_updated_here, word_updated_other}
use Rattle.pc_rule_law.specs.Board.{Size, Board}
use Rattle.pc_rule_law.specs.Past.{Placing, Past, change}
use Rattle.pc_rule_law.specs.Rule.{Holding}
use Rattle.pc_rule_law.proofs.Updates.{at_put_cell}
use Rattle.pc_protocol.specs.Histories.{History, IsPublished, IsUndecided}
use Rattle.pc_protocol.specs.Rules.{Refers, Rule}
use Rattle.pc_protocol.specs.Steps.{refer, CanRefer}
use Rattle.pc_protocol.proofs.Stages.{none_not_some, some_same}
use Rattle.pc_protocol.proofs.Words.{refer_keeps}
use Rattle.pc_exchange_law.specs.Ties.{code, reference_in, IsSeated, IsTied}
use Rattle.pc_exchange_law.specs.Slots.{ChangesUsed}
use Rattle.pc_exchange_law.specs.Changes.{with_word, with_installs, Leads, MayBecome}
use Rattle.pc_exchange_law.proofs.ChangeLists.{has_among}
use Rattle.pc_exchange_law.proofs.Statuses.{busy_is_published, same_worth, undecided_on_board}

-- a word with a reference is one to an exchange
pub reference_is : (w : WordKind) (y : ℕ) → IsSeated w → reference_in w ≡ Some y
    → (p : ℕ) × (a : ℕ) × (p < 64) × (w ≡ Exchange p a) × (code p a ≡ y)
reference_is (Plain x) y seated is = absurd (none_not_some y is)
reference_is (Install q k) y seated is = absurd (none_not_some y is)
reference_is (Exchange p a) y seated is = (p, a, seated, refl, some_same (code p a) y is)

module _ (z : Size) (b : Board) (t : Past) (h : History) (few : z.seats ≤ 32) (tied : IsTied b t h)
    (changed : ChangesUsed h) where
  -- a reference that holds, by the status and the attempt, refers in the history
  pub holding_refers : (n : ℕ) (f : Field) (p a : ℕ) → Holding z.seats b.status t.attempt (t.plain n f) n f p a
      → Refers h.stage h.op h.plain h.slot n f (code p a)
  holding_refers n f p a ho =
      let small : p < 64 = let lt = ho.owner in omega arith in
      let says = (tied.stages p a small).present (sym ho.present) in
      let published : IsPublished (h.stage (code p a)) = busy_is_published (b.status p).stage (h.stage (code p a)) says ho.uncleared in
      let l = ho.listed in
      let x : Changed = change n f l.0 l.1 in record {
        published = published;
        change = x;
        among = subst (λ (e : PathExchange). IsAmong x e.changes) (sym (tied.exchanges p a small published))
            (has_among (t.attempt p a).changes x l.2);
        is_of = (refl, refl);
        value = same_worth (b.status p).stage (h.stage (code p a)) l.0 l.1 says ho.uncleared ∙ (l.3 ∙ sym (tied.plain n f));
        in_use = changed (code p a) x published
            (subst (λ (e : PathExchange). IsAmong x e.changes) (sym (tied.exchanges p a small published))
            (has_among (t.attempt p a).changes x l.2));
      }

  module _ (n : ℕ) (f : Field) (c : WordKind) (may : MayBecome z b t n f c) where
    refers_by : (w : WordKind) → c ≡ w → (x : ℕ) → reference_in w ≡ Some x
        → Refers h.stage h.op h.plain h.slot n f x
    refers_by (Plain v) is x refers = absurd (none_not_some x refers)
    refers_by (Install q k) is x refers = absurd (none_not_some x refers)
    refers_by (Exchange p a) is x refers = subst (Refers h.stage h.op h.plain h.slot n f) (some_same (code p a) x refers)
        (holding_refers n f p a (may.holds p a is))

    seated_by : (w : WordKind) → c ≡ w → IsSeated w
    seated_by (Plain v) is = tt
    seated_by (Install q k) is = tt
    seated_by (Exchange p a) is = let lt = (may.holds p a is).owner in omega arith

    pub may_refer : CanRefer h n f (reference_in c)
    may_refer = record {
      refers = refers_by c refl;
      uncleared = λ x _. tied.uncleared x;
      stays = λ y is u. let word = reference_is (b.cell n f) y (tied.seated n f) (sym (tied.references n f) ∙ is) in
          absurd (may.decided word.0 word.1 word.3 (undecided_on_board b t h tied word.0 word.1 word.2
          (subst (λ (x : ℕ). IsUndecided (h.stage x)) (sym word.4) u)));
    }

    module _ (placing' : ℕ → ℕ → Placing) (course' : ℕ → ℕ → ℕ) where
      word_tied : IsTied (with_word b n f c) (with_installs t placing' course') (refer h n f (reference_in c))
      word_tied = record {
        clock = tied.clock;
        last = tied.last;
        owners = tied.owners;
        references = λ m g. at_put_cell b.cell n f c
            (λ i l w. word_updated h.reference n f (reference_in c) i l ≡ reference_in w) m g
            (word_updated_here h.reference n f (reference_in c) n f refl refl)
            (λ ne. word_updated_other h.reference n f (reference_in c) m g ne ∙ tied.references m g);
        seated = λ m g. at_put_cell b.cell n f c (λ _ _ w. IsSeated w) m g (seated_by c refl) (λ _. tied.seated m g);
        plain = tied.plain;
        cells = tied.cells;
        stages = tied.stages;
        published = tied.published;
        exchanges = tied.exchanges;
        uncleared = tied.uncleared;
      }

      pub word_leads : Rule h
          → Leads h (with_word b n f c) (with_installs t placing' course') (refer h n f (reference_in c))
      word_leads rule = record { keeps = refer_keeps h rule n f (reference_in c) may_refer; tied = word_tied }
