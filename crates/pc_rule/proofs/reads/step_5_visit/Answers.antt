-- One visit more, or none, behind those that the pass held.
use Rattle.std.proofs.Common.{◌≡◌, ℕ, ◌≤◌, ◌==◌, rules, List, ◌++◌, length, sym, ap, ◌∙◌, subst}
use Rattle.pc_model.specs.Cells.{IsNode}
use Rattle.pc_words.specs.Words.{kind}
use Rattle.pc_rule_law.specs.Board.{Size}
use Rattle.pc_exchange_law.specs.Wholes.{Whole}
use Rattle.pc_rule.specs.declared.visit.Visit.{Visit}
use Rattle.pc_rule.specs.Walking.{visits_in}
use Rattle.pc_rule.proofs.Walking.{visits_fit, visit_rises, visits_few, visit_with, visit_visits, visit_begun}
use Rattle.pc_rule.proofs.reads.step_5_visit.Goals as goal

pub invariant_of-pass-clause-walking : goal.invariant_of-pass-clause-walking
invariant_of-pass-clause-walking g c = let x : Whole = c.args.pass.now.seat.me.0 in let y : Whole = c.load_visit-found.new.seat.me.0 in
    let held : List Visit = c.args.pass.now.visits.items in let new : List Visit = c.keep_visit.new.visits.items in
    let first : c.is_empty-first.result ≡ (length held == 0) = c.is_empty-first.ensures ∙ ap (λ (n : ℕ). n == 0) c.args.pass.now.visits.ok.0 in
    let more : new ≡ held ++ visits_in c.args.node (kind c.load_visit-found.result) = c.keep_visit.ensures.items ∙ ap (λ (l : List Visit). held ++ l) c.visit_in.ensures in
    let was = c.args.pass.now.walking in record {
      begun = visit_begun x.path y.path c.args.node (kind c.load_visit-found.result) c.is_empty-first.result c.load_visit-found.ensures.path ∙ was.begun;
      visits = visit_visits held new x.path y.path c.args.node (kind c.load_visit-found.result) c.is_empty-first.result first
          c.load_visit-found.ensures.path more was.visits;
      fit = visits_fit x y c.args.node c.load_visit-found.result held new c.load_visit-found.ensures.seat.2.4
          (subst (λ (z : Size). IsNode z.slots c.args.node) (sym c.requires.pass.1) c.requires.inside) was.fit more;
      rising = visit_rises x y c.args.node c.load_visit-found.result _ held new _ was c.load_visit-found.ensures.told more;
      few = visits_few x y c.args.node c.load_visit-found.result held new c.load_visit-found.ensures.seat.2.4
          (subst (λ (z : Size). length held ≤ z.slots) (sym c.requires.pass.1) c.requires.room) more;
      ample = search rules;
    }

pub returns-clause-path : goal.returns-clause-path
returns-clause-path g c = let x : Whole = c.args.pass.now.seat.me.0 in let y : Whole = c.load_visit-found.new.seat.me.0 in
    let held : List Visit = c.args.pass.now.visits.items in let new : List Visit = c.keep_visit.new.visits.items in
    let first : c.is_empty-first.result ≡ (length held == 0) = c.is_empty-first.ensures ∙ ap (λ (n : ℕ). n == 0) c.args.pass.now.visits.ok.0 in
    let more : new ≡ held ++ visits_in c.args.node (kind c.load_visit-found.result) = c.keep_visit.ensures.items ∙ ap (λ (l : List Visit). held ++ l) c.visit_in.ensures in
    visit_with held new x.path y.path c.args.node (kind c.load_visit-found.result) c.is_empty-first.result first
    c.load_visit-found.ensures.path more
