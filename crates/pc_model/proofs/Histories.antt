-- Histories that grow by one entry at a time, and the history of one client.
use Rattle.std.proofs.Common.{◌≡◌, ◌≢◌, ℕ, ◌+◌, ◌<◌, ◌≤◌, ◌==◌, List, [], ◌∷◌, ◌++◌, length, slice_index_or, refl}
use Rattle.std.proofs.Common.{ap, sym, subst, zero, suc, inl, inr, ◌∙◌, arith}
use Rattle.std.proofs.lemmas.Bool.{cond-true, cond-false, eq-eqb, ne_eqb, cases_eq}
use Rattle.std.proofs.lemmas.List.{append-nil, map-append}
use Rattle.std.proofs.lemmas.List.Elements.{filter-append}
use Rattle.pc_model.specs.declared.call.Call.{Call}
use Rattle.pc_model.specs.declared.call.Entry.{Entry}
use Rattle.pc_model.specs.History.{entries_of, calls_of, IsNumberedFrom, AllOfPass, AreOfClients, IsHistoryOf}
use Rattle.pc_model.specs.EntryLaws.{IsItsCallsInOrder}

-- One more entry

pub entries_of-same : (client : ℕ) (e : Entry) (es : List Entry) → e.pass ≡ client
    → entries_of client (e ∷ es) ≡ e ∷ entries_of client es
entries_of-same client e es same = cond-true (e.pass == client) _ _ (eq-eqb e.pass client same)

pub entries_of-other : (client : ℕ) (e : Entry) (es : List Entry) → e.pass ≢ client
    → entries_of client (e ∷ es) ≡ entries_of client es
entries_of-other client e es other = cond-false (e.pass == client) _ _ (ne_eqb e.pass client other)

pub entries_of-append : (client : ℕ) (a b : List Entry)
    → entries_of client (a ++ b) ≡ entries_of client a ++ entries_of client b
entries_of-append client a b = filter-append (λ (e : Entry). e.pass == client) a b

pub entries_of-push_same : (client : ℕ) (es : List Entry) (e : Entry) → e.pass ≡ client
    → entries_of client (es ++ (e ∷ [])) ≡ entries_of client es ++ (e ∷ [])
entries_of-push_same client es e same = entries_of-append client es (e ∷ [])
    ∙ ap (λ (last : List Entry). entries_of client es ++ last) (entries_of-same client e [] same)

pub entries_of-push_other : (client : ℕ) (es : List Entry) (e : Entry) → e.pass ≢ client
    → entries_of client (es ++ (e ∷ [])) ≡ entries_of client es
entries_of-push_other client es e other =
    entries_of-append client es (e ∷ [])
    ∙ ap (λ (last : List Entry). entries_of client es ++ last) (entries_of-other client e [] other)
    ∙ append-nil (entries_of client es)

pub calls_of-append : (a b : List Entry) → calls_of (a ++ b) ≡ calls_of a ++ calls_of b
calls_of-append a b = map-append (λ (e : Entry). e.call) a b

pub calls_of-push : (es : List Entry) (e : Entry) → calls_of (es ++ (e ∷ [])) ≡ calls_of es ++ (e.call ∷ [])
calls_of-push es e = calls_of-append es (e ∷ [])

pub IsNumberedFrom_push : (n : ℕ) (es : List Entry) (e : Entry) → IsNumberedFrom n es → e.number ≡ n + length es
    → IsNumberedFrom n (es ++ (e ∷ []))
IsNumberedFrom_push n [] e numbered next = (omega arith, tt)
IsNumberedFrom_push n (d ∷ es) e numbered next =
    (numbered.0, IsNumberedFrom_push (n + 1) es e numbered.1 (omega arith))

pub AreOfClients_push : (clients : ℕ) (es : List Entry) (e : Entry) → AreOfClients clients es → 1 ≤ e.pass
    → e.pass ≤ clients → AreOfClients clients (es ++ (e ∷ []))
AreOfClients_push clients [] e known low high = (low, high, tt)
AreOfClients_push clients (d ∷ es) e known low high =
    (known.0, known.1, AreOfClients_push clients es e known.2 low high)

pub AllOfPass_push : (client : ℕ) (es : List Entry) (e : Entry) → AllOfPass client es → e.pass ≡ client
    → AllOfPass client (es ++ (e ∷ []))
AllOfPass_push client [] e all same = (same, tt)
AllOfPass_push client (d ∷ es) e all same = (all.0, AllOfPass_push client es e all.1 same)

-- One client

pub entries_of-own : (client : ℕ) (es : List Entry) → AllOfPass client es → entries_of client es ≡ es
entries_of-own client [] all = refl
entries_of-own client (e ∷ es) all = entries_of-same client e es all.0
    ∙ ap (λ (rest : List Entry). e ∷ rest) (entries_of-own client es all.1)

pub entries_of-none : (client other : ℕ) (es : List Entry) → AllOfPass client es → other ≢ client
    → entries_of other es ≡ []
entries_of-none client other [] all differs = refl
entries_of-none client other (e ∷ es) all differs =
    entries_of-other other e es (λ same. differs (sym same ∙ all.0)) ∙ entries_of-none client other es all.1 differs

of_one_client : (es : List Entry) → AllOfPass 1 es → AreOfClients 1 es
of_one_client [] all = tt
of_one_client (e ∷ es) all = (omega (arith, all.0), omega (arith, all.0), of_one_client es all.1)

all_of_one : (es : List Entry) → AreOfClients 1 es → AllOfPass 1 es
all_of_one [] known = tt
all_of_one (e ∷ es) known = (omega (arith, known.0, known.1), all_of_one es known.2)

numbered_for_each : (client : ℕ) (es : List Entry) → AllOfPass 1 es → IsNumberedFrom 1 es
    → IsNumberedFrom 1 (entries_of client es)
numbered_for_each client es all numbered = elim (cases_eq client 1) [
  | inl same ↦ subst (λ n. IsNumberedFrom 1 (entries_of n es)) (sym same)
      (subst (IsNumberedFrom 1) (sym (entries_of-own 1 es all)) numbered)
  | inr differs ↦ subst (IsNumberedFrom 1) (sym (entries_of-none 1 client es all differs)) tt
]

only_script : (calls : List Call) (es : List Entry) → AllOfPass 1 es → calls_of es ≡ calls → (k : ℕ) → k < 1
    → calls_of (entries_of (k + 1) es) ≡ slice_index_or (calls ∷ []) k []
only_script calls es all same zero less = ap calls_of (entries_of-own 1 es all) ∙ same
only_script calls es all same (suc k) less = absurd (omega arith)

pub one_client_history : (calls : List Call) (es : List Entry) → AllOfPass 1 es → IsNumberedFrom 1 es
    → calls_of es ≡ calls → IsHistoryOf (calls ∷ []) es
one_client_history calls es all numbered same = record {
  numbered = λ client. numbered_for_each client es all numbered;
  in_order = only_script calls es all same;
  no_others = of_one_client es all;
}

one_client_parts : (calls : List Call) (es : List Entry) → IsHistoryOf (calls ∷ []) es
    → AllOfPass 1 es × IsNumberedFrom 1 es × (calls_of es ≡ calls)
one_client_parts calls es history =
    let all : AllOfPass 1 es = all_of_one es history.no_others in
    let own : entries_of 1 es ≡ es = entries_of-own 1 es all in
    (all, subst (IsNumberedFrom 1) own (history.numbered 1), sym (ap calls_of own) ∙ history.in_order 0 (omega arith))

pub its_calls_in_order : IsItsCallsInOrder
its_calls_in_order calls es = (one_client_parts calls es, λ parts. one_client_history calls es parts.0 parts.1 parts.2)
