-- The map that a list of entries leaves, and whether its replies are right, part by part.
use Rattle.std.proofs.Common.{◌≡◌, ◌≢◌, ◌↔◌, ℕ, suc, ◌+◌, ◌<◌, List, [], ◌∷◌, ◌++◌, length, take, drop, get_or}
use Rattle.std.proofs.Common.{refl, ap, sym, subst, ◌∙◌}
use Rattle.std.proofs.lemmas.List.{take_more}
use Rattle.std.proofs.Math.Seq.{split_at}
use Rattle.std.proofs.lemmas.Option.{slice_get-get_or, get_or_from_slice_get}
use Rattle.pc_model.specs.declared.call.Entry.{Entry}
use Rattle.pc_model.specs.declared.call.Reply.{Reply}
use Rattle.pc_model.specs.declared.first_wrong.Wrong.{Wrong}
use Rattle.pc_model.specs.Map.{Pairs, reply_of, pairs_after}
use Rattle.pc_model.specs.Replay.{fold_from, fold_of, IsRightFrom, IsRight}
use Rattle.pc_model.specs.FirstWrong.{IsFirstWrong}
use Rattle.pc_model.specs.EntryLaws.{GoesInParts}

pub fold_from-append : (ps : Pairs) (a b : List Entry) → fold_from ps (a ++ b) ≡ fold_from (fold_from ps a) b
fold_from-append ps [] b = refl
fold_from-append ps (e ∷ a) b = fold_from-append (pairs_after e.call ps) a b

pub fold_of-append : (a b : List Entry) → fold_of (a ++ b) ≡ fold_from (fold_of a) b
fold_of-append a b = fold_from-append [] a b

pub fold_from-push : (ps : Pairs) (es : List Entry) (e : Entry)
    → fold_from ps (es ++ (e ∷ [])) ≡ pairs_after e.call (fold_from ps es)
fold_from-push ps es e = fold_from-append ps es (e ∷ [])

pub right_join : (ps : Pairs) (a b : List Entry) → IsRightFrom ps a → IsRightFrom (fold_from ps a) b
    → IsRightFrom ps (a ++ b)
right_join ps [] b right_a right_b = right_b
right_join ps (e ∷ a) b right_a right_b = (right_a.0, right_join (pairs_after e.call ps) a b right_a.1 right_b)

pub right_split : (ps : Pairs) (a b : List Entry) → IsRightFrom ps (a ++ b)
    → IsRightFrom ps a × IsRightFrom (fold_from ps a) b
right_split ps [] b right = (tt, right)
right_split ps (e ∷ a) b right = let rest = right_split (pairs_after e.call ps) a b right.1 in
    ((right.0, rest.0), rest.1)

pub right_append : (ps : Pairs) (a b : List Entry)
    → IsRightFrom ps (a ++ b) ↔ (IsRightFrom ps a × IsRightFrom (fold_from ps a) b)
right_append ps a b = (right_split ps a b, λ parts. right_join ps a b parts.0 parts.1)

pub right_push : (ps : Pairs) (es : List Entry) (e : Entry) → IsRightFrom ps es
    → e.reply ≡ reply_of e.call (fold_from ps es) → IsRightFrom ps (es ++ (e ∷ []))
right_push ps es e right same = right_join ps es (e ∷ []) right (same, tt)

pub goes_in_parts : GoesInParts
goes_in_parts = record { map = fold_of-append; right = right_append [] }

-- these pairs are the map that the first n entries leave, and those entries are right
pub record HasReplayed (es : List Entry) (n : ℕ) (ps : Pairs) : Type 0 where
  pub pairs : ps ≡ fold_of (take n es)
  pub right : IsRight (take n es)

-- one right entry more
pub replayed_more : (es : List Entry) (n : ℕ) (ps qs : Pairs) (d : Entry) → n < length es → HasReplayed es n ps
    → (get_or es n d).reply ≡ reply_of (get_or es n d).call ps → qs ≡ pairs_after (get_or es n d).call ps
    → HasReplayed es (n + 1) qs
replayed_more es n ps qs d inside so_far same next =
    let e : Entry = get_or es n d in
    let more : take (n + 1) es ≡ take n es ++ (e ∷ []) = take_more es n d inside in
    record {
      pairs = next ∙ ap (pairs_after e.call) so_far.pairs ∙ sym (fold_from-push [] (take n es) e)
          ∙ ap fold_of (sym more);
      right = rw more (right_push [] (take n es) e so_far.right (same ∙ ap (reply_of e.call) so_far.pairs));
    }

-- the first entry that is wrong
pub wrong_here : (es : List Entry) (n : ℕ) (ps : Pairs) (d : Entry) (x : Reply) → n < length es → HasReplayed es n ps
    → x ≡ reply_of (get_or es n d).call ps → (get_or es n d).reply ≢ x
    → IsFirstWrong es (record { place = n; expected = x })
wrong_here es n ps d x inside so_far expected differs = record {
  inside = inside;
  entry = get_or es n d;
  there = slice_get-get_or es n d inside;
  right_before = so_far.right;
  expected = expected ∙ ap (reply_of (get_or es n d).call) so_far.pairs;
  differs = differs;
}

-- a list with a wrong entry isn't right
pub not_right : (es : List Entry) (w : Wrong) → IsFirstWrong es w → IsRight es → ⊥
not_right es w wrong right =
    let here : get_or es w.place wrong.entry ≡ wrong.entry =
    get_or_from_slice_get es w.place wrong.entry wrong.entry wrong.there in
    let rest : List Entry = drop (suc w.place) es in
    let whole : es ≡ take w.place es ++ (wrong.entry ∷ rest) = split_at es w.place wrong.entry wrong.inside
    ∙ ap (λ (e : Entry). take w.place es ++ (e ∷ rest)) here in
    let parts = right_split [] (take w.place es) (wrong.entry ∷ rest) (subst IsRight whole right) in
    wrong.differs (parts.1.0 ∙ sym wrong.expected)
