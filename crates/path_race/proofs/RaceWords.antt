-- What is listed for an exchange of the race: one word more, and what a publication asks of the words.
use Rattle.std.proofs.Common.{◌≡◌, ℕ, zero, suc, ◌+◌, ◌<◌, List, [], ◌∷◌, ◌++◌, length, get_or, inl, refl, sym, ap, ◌∙◌, subst, arith}
use Rattle.std.specs.List.{All}
use Rattle.std.proofs.lemmas.List.{length_push}
use Rattle.std.proofs.lemmas.List.Elements.{All-push, All-weaker}
use Rattle.pc_model.specs.declared.cell.Field.{Field}
use Rattle.pc_model.specs.declared.cell.Field.TheVariants.{Version}
use Rattle.pc_model.specs.Cells.{IsEven}
use Rattle.pc_protocol.specs.Notes.{Note, visited}
use Rattle.pc_rule_law.specs.Board.{Size}
use Rattle.pc_rule_law.specs.Past.{Has}
use Rattle.pc_rule_law.proofs.Places.{one_word}
use Rattle.pc_exchange_law.specs.ExchangeConditions.{KnowsOld, was_read, is_version, was_visited, was_opened, was_written}
use Rattle.pc_exchange_law.specs.Passes.{PassKnows}
use Rattle.pc_rule.specs.declared.opening.Place.{Place}
use Rattle.pc_rule.specs.Listed.{IsUnlisted}
use Rattle.pc_kcas.specs.Exchanges.{RaisesVersions, KnowsOldValues}
use Rattle.path_race.specs.Racing.{turn, KeepsLinked, IsOfRace, AreOfRace}
use Rattle.path_race.proofs.Flat.{KeepsPlace}

-- what was told is told still
abbrev pub Learnt : PassKnows → PassKnows → Type 0
Learnt k k' = (n : Note) → Has k.told n → Has k'.told n

known_still : (z : Size) (k k' : PassKnows) (n v : ℕ) (f : Field) (x : ℕ) → Learnt k k' → KnowsOld z k n v f x → KnowsOld z k' n v f x
known_still z k k' n v f x l (was_read c h) = was_read c (l _ h)
known_still z k k' n v f x l (is_version c version same h) = is_version c version same (l _ h)
known_still z k k' n v f x l (was_visited c e u version same at_node at_version among h) = was_visited c e u version same at_node at_version among (l _ h)
known_still z k k' n v f x l (was_opened version number) = was_opened version number
known_still z k k' n v f x l (was_written y s c before old e decided published wrote_version wrote) =
    was_written y s c before old e (l _ decided) (l _ published) wrote_version wrote

module _ (z : Size) (k : PassKnows) where
  -- the version alone
  pub race_first : (p : Place) (places : List Place) → places ≡ p ∷ [] → (p.node ≡ 1) × (p.field ≡ Version) × (p.new ≡ p.old + 2) → IsEven p.new
      → ((c : ℕ) × Has k.told (visited 1 p.old c)) → (w : AreOfRace z k places 1) × (w.version.old ≡ p.old)
  race_first p places are raised even seen = (
    record {
      version = p;
      others = [];
      are = are;
      raised = raised;
      seen = seen;
      each = subst (All (IsOfRace z k p.old)) (sym are) each;
      turns = subst (All (λ (q : Place). turn q.field < 1)) (sym are) turns;
      counted = ap (λ (l : List Place). length l) are;
    },
    refl,
  )
    where
      each : All (IsOfRace z k p.old) (p ∷ [])
      each zero d lt = record {
        node = raised.0;
        known = is_version seen.0 raised.1 refl (subst (λ (n : ℕ). Has k.told (visited n p.old seen.0)) (sym raised.0) seen.1);
        keeps = subst (λ (f : Field). KeepsLinked f p.new) (sym raised.1) even;
      }
      each (suc i) d lt = absurd (omega arith)

      turns : All (λ (q : Place). turn q.field < 1) (p ∷ [])
      turns zero d lt = let first : turn p.field ≡ 0 = ap turn raised.1 in omega arith
      turns (suc i) d lt = absurd (omega arith)

  -- a field whose turn it is isn't listed yet
  pub race_apart : (places : List Place) (count : ℕ) → AreOfRace z k places count → (p : Place) → turn p.field ≡ count → IsUnlisted places p
  race_apart places count are p next i d lt same =
      let q : Place = get_or places i d in let field : q.field ≡ p.field = (one_word q.node p.node q.field p.field same).1 in
      let turned : turn q.field ≡ turn p.field = ap turn field in let before : turn q.field < count = are.turns i d lt in omega arith

-- one word more, by a pass that has learnt
pub race_more : (z : Size) (k k' : PassKnows) (places now : List Place) (count : ℕ) → (r : AreOfRace z k places count) → Learnt k k' → (p : Place)
    → now ≡ places ++ p ∷ [] → turn p.field ≡ count → IsOfRace z k' r.version.old p
    → (w : AreOfRace z k' now (count + 1)) × (w.version.old ≡ r.version.old)
unfolding known_still
race_more z k k' places now count r l p is next of = (
  record {
    version = r.version;
    others = r.others ++ p ∷ [];
    are = is ∙ ap (λ (l : List Place). l ++ p ∷ []) r.are;
    raised = r.raised;
    seen = (r.seen.0, l (visited 1 r.version.old r.seen.0) r.seen.1);
    each = subst (All (IsOfRace z k' r.version.old)) (sym is) (All-push (IsOfRace z k' r.version.old) places p
        (All-weaker (IsOfRace z k r.version.old) (IsOfRace z k' r.version.old)
        (λ q was. record { node = was.node; known = known_still z k k' q.node r.version.old q.field q.old l was.known; keeps = was.keeps }) places r.each) of);
    turns = subst (All (λ (q : Place). turn q.field < count + 1)) (sym is) (All-push (λ (q : Place). turn q.field < count + 1) places p
        (All-weaker (λ (q : Place). turn q.field < count) (λ (q : Place). turn q.field < count + 1) (λ q lt. omega arith) places r.turns) (omega arith));
    counted = ap (λ (l : List Place). length l) is ∙ (length_push places p ∙ ap (λ (n : ℕ). n + 1) r.counted);
  },
  refl,
)

-- what a publication asks of the words
module _ (z : Size) (k : PassKnows) (places : List Place) (count : ℕ) (r : AreOfRace z k places count) where
  first : Has places r.version
  first = subst (λ (l : List Place). Has l r.version) (sym r.are) (0, refl)

  pub race_raises : RaisesVersions places
  unfolding first
  race_raises i d lt = (
    r.version,
    first,
    r.raised.0 ∙ sym (r.each i d lt).node,
    r.raised.1,
    inl r.raised.2,
    λ version. let of = r.each i d lt in inl (subst (λ (f : Field). KeepsLinked f (get_or places i d).new) version of.keeps),
  )

  pub race_known : KnowsOldValues z k places
  unfolding first
  race_known i d lt = (r.version, first, r.raised.0 ∙ sym (r.each i d lt).node, r.raised.1, (r.each i d lt).known, inl (r.each i d lt).node)

  pub race_keeps : All KeepsPlace places
  race_keeps = All-weaker (IsOfRace z k r.version.old) KeepsPlace (λ p of. (of.node, of.keeps)) places r.each
