-- An exchange that enters a run adds the node that it makes to those that the run makes, and nothing else does.
use Rattle.std.proofs.Common.{◌≡◌, ℕ, zero, suc, ◌+◌, ◌<◌, ◌≤◌, ⊎_elim, Bool, List, [], ◌∷◌, ◌++◌, Option, Some, None, refl, ap, ◌∙◌, arith, ◌&&◌, leb, ltb}
use Rattle.std.proofs.lemmas.Bool.{cases_eq, cases_lt, cond-true, cond-false, le-leb, lt-leb, lt-ltb, le-ltb, and_from, and_left, and_right}
use Rattle.pc_model.specs.Exchanges.{FreshNode, Exchange}
use Rattle.pc_history.specs.Runs.{Items, put_item}
use Rattle.pc_history.specs.WorldRuns.{Stamped, stamped, run_of}
use Rattle.pc_history.proofs.Updates.{updated_here, updated_other}
use Rattle.pc_rule_law.specs.Board.{Size, start_of}
use Rattle.pc_protocol.specs.Histories.{History}
use Rattle.pc_protocol.specs.Steps.{take_read, CanRead}
use Rattle.pc_exchange_law.specs.OwnSlots.{IsOfShare}
use Rattle.pc_exchange_law.specs.SlotCounts.{node_made, nodes_made}

module _ (z : Size) (j : ℕ) where
  -- a node of the share counts, and another doesn't
  abbrev share_test : ℕ → Bool
  share_test n = leb (start_of z j) n && ltb n (start_of z (j + 1))

  pub counts : (f : Option FreshNode) (g : FreshNode) → f ≡ Some g → IsOfShare z j g.node → node_made z j f ≡ 1
  counts f g is share = ap (node_made z j) is ∙ cond-true (share_test g.node) 1 0
      (and_from (leb (start_of z j) g.node) (ltb g.node (start_of z (j + 1))) (le-leb (start_of z j) g.node share.0)
      (lt-ltb g.node (start_of z (j + 1)) share.1))

  pub counts_none : (f : Option FreshNode) → ((g : FreshNode) → f ≡ Some g → IsOfShare z j g.node → ⊥) → node_made z j f ≡ 0
  counts_none None other = refl
  counts_none (Some g) other = ⊎_elim
      (λ below. cond-false (share_test g.node) 1 0
      (and_left (leb (start_of z j) g.node) (ltb g.node (start_of z (j + 1))) (lt-leb (start_of z j) g.node below)))
      (λ from. ⊎_elim
      (λ inside. absurd (other g refl (from, inside)))
      (λ above. cond-false (share_test g.node) 1 0
      (and_right (leb (start_of z j) g.node) (ltb g.node (start_of z (j + 1))) (le-ltb g.node (start_of z (j + 1)) above)))
      (cases_lt g.node (start_of z (j + 1))))
      (cases_lt g.node (start_of z j))

  -- two runs one after the other
  pub made_more : (xs ys : List Stamped) → nodes_made z j (xs ++ ys) ≡ nodes_made z j xs + nodes_made z j ys
  made_more [] ys = omega arith
  made_more (x ∷ xs) ys = let more = made_more xs ys in omega arith

  made_next : (item : Items) (t : ℕ) → nodes_made z j (run_of item (suc t)) ≡ nodes_made z j (run_of item t) + nodes_made z j (stamped t (item t))
  made_next item t = made_more (run_of item t) (stamped t (item t))

  -- a stamp at which nothing stands
  pub made_past : (item : Items) (t : ℕ) → item t ≡ None → nodes_made z j (run_of item (suc t)) ≡ nodes_made z j (run_of item t)
  made_past item t empty = let next = made_next item t in
      let nothing : nodes_made z j (stamped t (item t)) ≡ 0 = ap (λ (o : Option Exchange). nodes_made z j (stamped t o)) empty in omega arith

  -- a run in which nothing stands
  pub made_none : (t : ℕ) → nodes_made z j (run_of (λ s. None) t) ≡ 0
  made_none zero = refl
  made_none (suc t) = let before = made_none t in let next = made_past (λ s. None) t refl in omega arith

  -- an exchange enters the run at a stamp that was empty
  module _ (item : Items) (s : ℕ) (e : Exchange) (empty : item s ≡ None) where
    abbrev item' : Items
    item' = put_item item s e

    made_below : (t : ℕ) → t ≤ s → nodes_made z j (run_of item' t) ≡ nodes_made z j (run_of item t)
    made_below zero le = refl
    made_below (suc t) le = let before = made_below t (omega arith) in let next = made_next item t in let next' = made_next item' t in
        let same : nodes_made z j (stamped t (item' t)) ≡ nodes_made z j (stamped t (item t))
        = ap (λ (o : Option Exchange). nodes_made z j (stamped t o)) (updated_other item s (Some e) t (λ is. absurd (omega arith))) in
        omega arith

    made_there : (t : ℕ) → t ≡ s → nodes_made z j (run_of item' (suc t)) ≡ nodes_made z j (run_of item (suc t)) + node_made z j e.fresh
    made_there t here = let before = made_below t (omega arith) in let next' = made_next item' t in
        let past = made_past item t (ap item here ∙ empty) in
        let one : nodes_made z j (stamped t (item' t)) ≡ node_made z j e.fresh + 0
        = ap (λ (o : Option Exchange). nodes_made z j (stamped t o)) (updated_here item s (Some e) t here) in
        omega arith

    pub made_with : (t : ℕ) → s < t → nodes_made z j (run_of item' t) ≡ nodes_made z j (run_of item t) + node_made z j e.fresh
    made_with zero lt = absurd (omega arith)
    made_with (suc t) lt = ⊎_elim (made_there t)
        (λ other. let before = made_with t (omega arith) in let next = made_next item t in let next' = made_next item' t in
        let same : nodes_made z j (stamped t (item' t)) ≡ nodes_made z j (stamped t (item t))
        = ap (λ (o : Option Exchange). nodes_made z j (stamped t o)) (updated_other item s (Some e) t other) in
        omega arith)
        (cases_eq t s)

  -- a read makes none
  pub made_by_read : (h : History) (p s : ℕ) (e : Exchange) → CanRead h p s e
      → nodes_made z j (run_of (take_read h s e).item h.clock) ≡ nodes_made z j (run_of h.item h.clock)
  made_by_read h p s e can = let entered = made_with h.item s e can.empty h.clock can.drew.0 in
      let nothing = ap (node_made z j) can.no_fresh in omega arith
