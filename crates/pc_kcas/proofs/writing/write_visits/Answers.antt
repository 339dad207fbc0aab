-- One visit more is stored.
use Rattle.std.proofs.Common.{rules, refl, sym, ap, ◌∙◌, arith}
use Rattle.pc_rule_law.specs.Views.{word_in}
use Rattle.pc_rule.specs.Passes.{view, knows, visits, board_size}
use Rattle.pc_kcas.proofs.Words.{below_written, visits_written, only_then, stored_then}
use Rattle.pc_kcas.proofs.writing.write_visits.Goals as goal

pub loop-i-preserved : goal.loop-i-preserved
loop-i-preserved g c = let inv = c.loop-i.invariant in let one = c.write_visit.ensures in let p = c.loop-i.pass in let q = c.write_visit.new.pass in
    let slots = (board_size c.args.board.now).slots in record {
      below = search rules;
      same = search rules;
      only = only_then (view c.args.pass.now) (view p) (view q) inv.only one.only;
      beside = stored_then (knows c.args.pass.now) (knows p) (knows q) inv.beside one.beside;
      first = below_written slots (word_in (view c.args.pass.now).attempt.words) (word_in (view p).attempt.words) (word_in (view q).attempt.words) c.loop-i.i _ inv.first one.words;
      written = visits_written slots slots (visits p) c.visits.result.now (visits q) (word_in (view p).attempt.words) (word_in (view q).attempt.words) c.loop-i.i _
          c.visits.ensures.visits (ap (λ v. v.items) one.pass.2.1) refl (search rules) inv.written one.words;
    }

pub loop-i-init : goal.loop-i-init
loop-i-init g c = record {
  below = search rules;
  same = search rules;
  only = refl;
  beside = refl;
  first = λ k lt. refl;
  written = λ j v lt at. absurd (omega arith);
}
