-- A text that is written part by part: what was written so far, and what is still to come.
use Rattle.std.proofs.Common.{◌≡◌, ℕ, List, [], ◌++◌, Option, refl, sym, ap, ◌∙◌, append_assoc, append-nil, subst, arith}
use Rattle.std.specs.Prelude.{Ok, Err}
use Rattle.pc_edge.specs.declared.traits.Failed.{Failed}
use Rattle.pc_edge.specs.Sending.{Writes}
use Rattle.pc_edge.proofs.Sends.{Sends-nothing, Sends-append, Writes-more, Writes-failed}

-- behind what waited before, all but this was written, save what waits in the chunk
pub record HasWritten {K : Type 0} (held : K → Option (List ℕ)) (faults : K → ℕ) (a b : K)
    (before all chunk to_come : List ℕ) : Type 0 where
  pub done : List ℕ
  pub whole : all ≡ done ++ to_come
  pub writes : Writes {T = Unit {0}} {E = Failed} held faults a b (before ++ done) chunk (Ok tt)

pub has_written_none : {K : Type 0} (held : K → Option (List ℕ)) (faults : K → ℕ) (a : K) (before all : List ℕ)
    → HasWritten held faults a a before all before all
has_written_none held faults a before all = record {
  done = [];
  whole = refl;
  writes = subst (λ (text : List ℕ). Writes {T = Unit {0}} {E = Failed} held faults a a text before (Ok tt))
      (sym (append-nil before))
      (record { ok = Sends-nothing (held a) before; front = tt; cause = tt; never_falls = omega arith });
}

-- what comes after the text waits after the rest
pub Writes-append : {K T E : Type 0} (held : K → Option (List ℕ)) (faults : K → ℕ) (a b : K)
    (text rest more : List ℕ) (x : T) → Writes {E = E} held faults a b text rest (Ok x)
    → Writes {E = E} held faults a b (text ++ more) (rest ++ more) (Ok x)
Writes-append held faults a b text rest more x w = record {
  ok = Sends-append _ _ text rest more w.ok;
  front = tt;
  cause = tt;
  never_falls = w.never_falls;
}

-- the next part
pub has_written_more : {K : Type 0} (held : K → Option (List ℕ)) (faults : K → ℕ) (a b c : K)
    (before all chunk to_come part rest later : List ℕ) → HasWritten held faults a b before all chunk to_come
    → to_come ≡ part ++ rest → Writes {T = Unit {0}} {E = Failed} held faults b c (chunk ++ part) later (Ok tt)
    → HasWritten held faults a c before all later rest
has_written_more held faults a b c before all chunk to_come part rest later has cut w = record {
  done = has.done ++ part;
  whole = has.whole ∙ ap (λ l. has.done ++ l) cut ∙ sym (append_assoc has.done part rest);
  writes = subst (λ (text : List ℕ). Writes {T = Unit {0}} {E = Failed} held faults a c text later (Ok tt))
      (append_assoc before has.done part)
      (Writes-more held faults a b c (before ++ has.done) chunk part later tt (Ok tt) has.writes w);
}

-- the sink failed at the next part
pub has_written_failed : {K T U E : Type 0} (held : K → Option (List ℕ)) (faults : K → ℕ) (a b c : K)
    (before all chunk to_come part rest waiting later : List ℕ) (e : Failed) (f : E)
    → HasWritten held faults a b before all chunk to_come → to_come ≡ part ++ rest
    → Writes {T = T} held faults b c (chunk ++ part) waiting (Err e)
    → Writes {T = U} held faults a c (before ++ all) later (Err f)
has_written_failed {T = T} {U = U} held faults a b c before all chunk to_come part rest waiting later e f has cut w =
    let front : Writes {T = T} held faults a c (before ++ has.done ++ part) waiting (Err e) =
    Writes-more held faults a b c (before ++ has.done) chunk part waiting tt (Err e) has.writes w in
    let is : before ++ has.done ++ part ++ rest ≡ before ++ all =
    append_assoc (before ++ has.done) part rest ∙ append_assoc before has.done (part ++ rest)
    ∙ ap (λ l. before ++ l) (sym (has.whole ∙ ap (λ l. has.done ++ l) cut)) in
    subst (λ (text : List ℕ). Writes {T = U} held faults a c text later (Err f)) is
    (Writes-failed held faults a c (before ++ has.done ++ part) rest waiting later e f front)

-- nothing is to come
pub has_written_all : {K : Type 0} (held : K → Option (List ℕ)) (faults : K → ℕ) (a b : K)
    (before all chunk : List ℕ) → HasWritten held faults a b before all chunk []
    → Writes {T = Unit {0}} {E = Failed} held faults a b (before ++ all) chunk (Ok tt)
has_written_all held faults a b before all chunk has =
    subst (λ (text : List ℕ). Writes {T = Unit {0}} {E = Failed} held faults a b text chunk (Ok tt))
    (ap (λ l. before ++ l) (sym (has.whole ∙ append-nil has.done))) has.writes
