-- Each write sends the next part of the piece; where one fails, a front was sent.
use Rattle.std.proofs.Common.{◌≡◌, ℕ, ◌+◌, ◌-◌, List, ◌++◌, Option, length, take, drop, sym, ap, ◌∙◌, subst, arith}
use Rattle.std.proofs.Common.{length-drop}
use Rattle.std.proofs.Math.Seq.{take-add}
use Rattle.std.proofs.lemmas.List.{take-append-drop, take_all}
use Rattle.std.proofs.lemmas.Result.{err_from_is_err_and}
use Rattle.std.specs.Io.KnownBytes.{Appends, Keeps}
use Rattle.std.proofs.KnownBytes.{Appends-trans}
use Rattle.pc_edge.specs.Sending.{AppendsFront}
use Rattle.pc_edge.proofs.Sends.{AppendsFront-of_Appends, Sends-of_Appends}
use Rattle.pc_edge.proofs.chunk.write_all.Goals as goal

-- `&piece[at..]` is all that comes after the place
rest : (piece : List ℕ) (at : ℕ) → take (length piece - at) (drop at piece) ≡ drop at piece
rest piece at = take_all (length piece - at) (drop at piece) (omega (arith, length-drop at piece))

next : (a b c : Option (List ℕ)) (piece : List ℕ) (at n : ℕ) → Appends a b (take at piece)
    → Appends b c (take n (take (length piece - at) (drop at piece))) → Appends a c (take (at + n) piece)
next a b c piece at n p q =
    let whole : take at piece ++ take n (take (length piece - at) (drop at piece)) ≡ take (at + n) piece =
    ap (λ l. take at piece ++ take n l) (rest piece at) ∙ sym (take-add at n piece) in
    subst (Appends a c) whole
    (Appends-trans a b c (take at piece) (take n (take (length piece - at) (drop at piece))) p q)

front : (a b c : Option (List ℕ)) (piece : List ℕ) (at : ℕ) → Appends a b (take at piece) → Keeps b c
    → AppendsFront a c piece
front a b c piece at p k =
    subst (AppendsFront a c) (take-append-drop at piece)
    (AppendsFront-of_Appends a b c (take at piece) (drop at piece) p k)

pub loop-at-preserved : goal.loop-at-preserved
loop-at-preserved g c = record {
  within = omega (arith, c.in_ok-at.ensures.bound, length-drop c.loop-at.at c.args.piece.now);
  sent = next _ _ _ c.args.piece.now c.loop-at.at c.in_ok-at.field-0 c.loop-at.invariant.sent c.in_ok-at.ensures.bytes;
  kept = omega (arith, c.in_ok-at.ensures.never_falls);
}

pub returns-in_err-at : goal.returns-in_err-at
returns-in_err-at g c =
    let p = err_from_is_err_and c.from_residual.result c.from_residual.ensures.1 in
    let h = c.loop-at.invariant in
    let e = c.in_err-at.ensures in
    rw p.1 (record {
      ok = tt;
      front = front _ _ _ c.args.piece.now c.loop-at.at h.sent e.bytes;
      cause = omega (arith, h.kept, e.cause);
      never_falls = omega (arith, h.kept, e.never_falls);
    })

pub returns : goal.returns
returns g c =
    let h = c.loop-at.invariant in
    let piece = c.args.piece.now in
    let whole = subst (Appends _ _) (take_all c.loop-at.at piece c.loop-at-test.false) h.sent in record {
      ok = Sends-of_Appends _ _ piece whole;
      front = tt;
      cause = tt;
      never_falls = h.kept;
    }
