-- Reading turn by turn: what was taken so far, and one piece more.
use Rattle.std.proofs.Common.{◌≡◌, ℕ, ◌+◌, ◌<◌, ◌≤◌, List, [], ◌++◌, length, take, Option, Some, None, refl, sym}
use Rattle.std.proofs.Common.{ap, ◌∙◌, subst, append_assoc, arith, length-append}
use Rattle.std.proofs.Math.Seq.{take-append_seam}
use Rattle.std.proofs.lemmas.List.{append-nil, length-take-le}
use Rattle.std.specs.Io.KnownBytes.{Consumes, IsAtEnd}
use Rattle.pc_text.specs.declared.limits.TheConstants.{MOST_BYTES}
use Rattle.pc_run.specs.Reading.{IsInput, IsLongerThan, TakesAtMost, TakesPiece}

-- so far the bytes that are filled were taken, at least one a turn
pub record HasRead (old new : Option (List ℕ)) (bytes : List ℕ) (len filled turn : ℕ) : Type 0 where
  pub takes : Consumes old new (take filled bytes)
  pub same : length bytes ≡ len
  pub within : filled ≤ len
  pub room : len ≤ MOST_BYTES + 1
  pub long : turn ≤ filled
  pub small : filled ≤ MOST_BYTES

pub consumes_none : (left : Option (List ℕ)) → Consumes left left []
consumes_none None = tt
consumes_none (Some xs) = refl

pub consumes_more : (a b c : Option (List ℕ)) (xs ys : List ℕ) → Consumes a b xs → Consumes b c ys
    → Consumes a c (xs ++ ys)
consumes_more None b c xs ys p q = tt
consumes_more (Some is) None c xs ys p q = absurd p
consumes_more (Some is) (Some bs) None xs ys p q = absurd q
consumes_more (Some is) (Some bs) (Some cs) xs ys p q = p ∙ ap (λ (z : List ℕ). xs ++ z) q
    ∙ sym (append_assoc xs ys cs)

pub whole_input : (old new : Option (List ℕ)) (bytes : List ℕ) → Consumes old new bytes → IsAtEnd new
    → IsInput old bytes
whole_input None new bytes c e = tt
whole_input (Some xs) None bytes c e = absurd c
whole_input (Some xs) (Some ys) bytes c e = c ∙ ap (λ (z : List ℕ). bytes ++ z) e ∙ append-nil bytes

pub longer_input : (old new : Option (List ℕ)) (bytes : List ℕ) (n : ℕ) → Consumes old new bytes → n < length bytes
    → IsLongerThan n old
longer_input None new bytes n c lt = tt
longer_input (Some xs) None bytes n c lt = absurd c
longer_input (Some xs) (Some ys) bytes n c lt = let e : length xs ≡ length bytes + length ys = ap length c
    ∙ length-append bytes ys in omega arith

-- one piece more
pub with_piece : (a b c : Option (List ℕ)) (before after : List ℕ) (n : ℕ) → Consumes a b before
    → TakesPiece b c before after n → Consumes a c after
with_piece a b c before after n taken p =
    subst (Consumes a c) (sym p.appended) (consumes_more a b c before p.piece taken p.takes)

pub takes_at_most_more : (a b c : Option (List ℕ)) (bytes : List ℕ) (m n : ℕ) → Consumes a b bytes
    → length bytes + m ≤ n → TakesAtMost m b c → TakesAtMost n a c
takes_at_most_more a b c bytes m n taken le t = let few : length t.taken ≤ m = t.few in
    record {
      taken = bytes ++ t.taken;
      takes = consumes_more a b c bytes t.taken taken t.takes;
      few = let e : length (bytes ++ t.taken) ≡ length bytes + length t.taken = length-append bytes t.taken in
          omega arith;
    }

-- a buffer that was written whole holds what was written
pub written_whole : (written rest : List ℕ) (len : ℕ) → length written ≡ len → take len (written ++ rest) ≡ written
written_whole written rest len e =
    ap (λ n. take n (written ++ rest)) (sym e) ∙ take-append_seam written rest

-- what is taken after the bytes that are filled, with these
pub takes_with_filled : (a b c : Option (List ℕ)) (bytes : List ℕ) (len filled turn m n : ℕ)
    → HasRead a b bytes len filled turn → filled + m ≤ n → TakesAtMost m b c → TakesAtMost n a c
takes_with_filled a b c bytes len filled turn m n h le t =
    let long : length (take filled bytes) ≡ filled = length-take-le filled bytes (omega (arith, h.same, h.within)) in
    takes_at_most_more a b c (take filled bytes) m n h.takes (omega arith) t
