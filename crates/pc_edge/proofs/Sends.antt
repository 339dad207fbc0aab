-- What was sent piece by piece was sent as a whole.
use Rattle.std.proofs.Common.{ℕ, List, [], ◌++◌, Option, refl, sym, ap, ◌∙◌, append_assoc, append-nil, arith}
use Rattle.std.specs.Prelude.{Result, Ok, Err}
use Rattle.std.specs.Io.KnownBytes.{Appends, Keeps}
use Rattle.std.proofs.KnownBytes.{Appends-nil, Appends-trans, Appends-kept}
use Rattle.pc_edge.specs.Sending.{Sends, AppendsFront, Writes}

-- nothing was sent yet: all of the text is the rest
pub Sends-nothing : (a : Option (List ℕ)) (text : List ℕ) → Sends a a text text
Sends-nothing a text = record { sent = []; whole = refl; grew = Appends-nil a }

-- what comes after the text comes after the rest
pub Sends-append : (a b : Option (List ℕ)) (text rest more : List ℕ) → Sends a b text rest
    → Sends a b (text ++ more) (rest ++ more)
Sends-append a b text rest more s = record {
  sent = s.sent;
  whole = ap (λ l. l ++ more) s.whole ∙ append_assoc s.sent rest more;
  grew = s.grew;
}

-- of the rest a part was sent too
pub Sends-trans : (a b c : Option (List ℕ)) (text rest later : List ℕ) → Sends a b text rest → Sends b c rest later
    → Sends a c text later
Sends-trans a b c text rest later s t = record {
  sent = s.sent ++ t.sent;
  whole = s.whole ∙ ap (λ l. s.sent ++ l) t.whole ∙ sym (append_assoc s.sent t.sent later);
  grew = Appends-trans a b c s.sent t.sent s.grew t.grew;
}

-- a whole text was sent
pub Sends-of_Appends : (a b : Option (List ℕ)) (text : List ℕ) → Appends a b text → Sends a b text []
Sends-of_Appends a b text p = record { sent = text; whole = sym (append-nil text); grew = p }

-- a front of the text is a front of the text with more after it
pub AppendsFront-append : (a b : Option (List ℕ)) (text more : List ℕ) → AppendsFront a b text
    → AppendsFront a b (text ++ more)
AppendsFront-append a b text more f =
    record { unsent = f.unsent ++ more; sends = Sends-append a b text f.unsent more f.sends }

-- a text was sent but for a rest, and of the rest a front
pub AppendsFront-after : (a b c : Option (List ℕ)) (text rest : List ℕ) → Sends a b text rest
    → AppendsFront b c rest → AppendsFront a c text
AppendsFront-after a b c text rest s f =
    record { unsent = f.unsent; sends = Sends-trans a b c text rest f.unsent s f.sends }

-- what was sent whole was sent as a front of what it begins
pub AppendsFront-of_Appends : (a b c : Option (List ℕ)) (sent rest : List ℕ) → Appends a b sent → Keeps b c
    → AppendsFront a c (sent ++ rest)
AppendsFront-of_Appends a b c sent rest p k =
    record { unsent = rest; sends = record { sent = sent; whole = refl; grew = Appends-kept a b c sent p k } }

-- a text was written but for a rest, and then the rest
pub Writes-then : {K T U E : Type 0} (held : K → Option (List ℕ)) (faults : K → ℕ) (a b c : K)
    (text rest later : List ℕ) (x : T) (r : Result U E) → Writes {E = E} held faults a b text rest (Ok x)
    → Writes held faults b c rest later r → Writes held faults a c text later r
Writes-then held faults a b c text rest later x (Ok y) p q = record {
  ok = Sends-trans _ _ _ text rest later p.ok q.ok;
  front = tt;
  cause = tt;
  never_falls = omega (arith, p.never_falls, q.never_falls);
}
Writes-then held faults a b c text rest later x (Err e) p q = record {
  ok = tt;
  front = AppendsFront-after _ _ _ text rest p.ok q.front;
  cause = omega (arith, p.never_falls, q.cause);
  never_falls = omega (arith, p.never_falls, q.never_falls);
}

-- after a text that was written but for a rest came more
pub Writes-more : {K T U E : Type 0} (held : K → Option (List ℕ)) (faults : K → ℕ) (a b c : K)
    (text rest more later : List ℕ) (x : T) (r : Result U E) → Writes {E = E} held faults a b text rest (Ok x)
    → Writes held faults b c (rest ++ more) later r → Writes held faults a c (text ++ more) later r
Writes-more {E = E} held faults a b c text rest more later x r p q =
    let longer : Writes {E = E} held faults a b (text ++ more) (rest ++ more) (Ok x) = record {
      ok = Sends-append _ _ text rest more p.ok;
      front = tt;
      cause = tt;
      never_falls = p.never_falls;
    } in
    Writes-then held faults a b c (text ++ more) (rest ++ more) later x r longer q

-- where the sink failed at a text, it failed at the text with more after it, whatever was to wait
pub Writes-failed : {K T U E F : Type 0} (held : K → Option (List ℕ)) (faults : K → ℕ) (a b : K)
    (text more rest later : List ℕ) (e : E) (f : F) → Writes {T = T} held faults a b text rest (Err e)
    → Writes {T = U} held faults a b (text ++ more) later (Err f)
Writes-failed held faults a b text more rest later e f p = record {
  ok = tt;
  front = AppendsFront-append _ _ text more p.front;
  cause = p.cause;
  never_falls = p.never_falls;
}

-- where the sink failed, nothing is said of what was to wait, nor of the error
pub Writes-stopped : {K T U E F : Type 0} (held : K → Option (List ℕ)) (faults : K → ℕ) (a b : K)
    (text rest later : List ℕ) (e : E) (f : F) → Writes {T = T} held faults a b text rest (Err e)
    → Writes {T = U} held faults a b text later (Err f)
Writes-stopped held faults a b text rest later e f p =
    record { ok = tt; front = p.front; cause = p.cause; never_falls = p.never_falls }
