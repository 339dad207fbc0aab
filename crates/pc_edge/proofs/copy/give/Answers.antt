-- The bytes from a place on are the ones that were copied, and then the others.
use Rattle.std.proofs.Common.{◌≡◌, ℕ, ◌+◌, ◌-◌, ◌≤◌, List, ◌++◌, length, take, drop, sym, ap, ◌∙◌, arith, length-drop}
use Rattle.std.proofs.lemmas.List.{take_at, length-take-le, take-append-drop, drop-drop}
use Rattle.pc_edge.proofs.copy.give.Goals as goal

given : (bytes copied tail : List ℕ) (at n : ℕ) → n ≤ length bytes - at → copied ≡ take (at + n - at) (drop at bytes)
    → drop at bytes ≡ take n (copied ++ tail) ++ drop (at + n) bytes
given bytes copied tail at n fits is =
    let same : at + n - at ≡ n = omega arith in
    let front : copied ≡ take n (drop at bytes) = is ∙ ap (λ k. take k (drop at bytes)) same in
    let long : length copied ≡ n = ap length front
    ∙ length-take-le n (drop at bytes) (omega (arith, length-drop at bytes)) in
    sym (ap (λ l. l ++ drop (at + n) bytes) (take_at copied tail n long ∙ front)
    ∙ ap (λ l. take n (drop at bytes) ++ l) (sym (drop-drop n at bytes))
    ∙ take-append-drop n (drop at bytes))

pub returns-then-count-gt0-clause-given : goal.returns-then-count-gt0-clause-given
returns-then-count-gt0-clause-given c =
    given _ _ _ c.args.at c.min-count.result (omega arith) c.copy_from_slice.ensures.after
