use Rattle.std.proofs.Common.{false, length, refl, ap, arith}
use Rattle.pc_rule_law.specs.declared.opening.Opening.{Opening}
use Rattle.pc_rule.proofs.Opened.{all_opened, none_noted, none_known, all_shared, none_installed, none_tried, none_visited}
use Rattle.pc_rule.proofs.Sharing.{none_formed, small_cells}
use Rattle.pc_rule.proofs.boards.open_board.Goals as goal

pub open-requires-clause-may : goal.open-requires-clause-may
open-requires-clause-may g c = λ _ _. let r = c.requires in record {
  seats = (let one = r.shares.0 in omega arith, r.shares.1);
  sound_cells = rw c.all_slots.ensures r.sound;
  small = small_cells c.args.starts.version (let le = r.starts.version.0 in omega arith);
  attempt = (let lt = r.starts.attempt in omega arith);
  none = λ _. refl;
  few = omega arith;
  formed = λ p. none_formed c.all_slots.result;
}

pub open-requires-clause-early : goal.open-requires-clause-early
open-requires-clause-early g c = λ _ _. let lt = c.requires.starts.stamp in omega arith

pub returns-clause-passes : goal.returns-clause-passes
returns-clause-passes g c = let e = c.in-Ok-open.ensures in let o : Opening = (record { seats = length c.args.shares.now; slots = c.all_slots.result; shares = c.in-Ok.own; starts = c.args.starts; given = c.new.result; posted = false }) in all_opened c.in-Ok-open.made.0 o c.in-Ok-open.made.1.items e.2 (let one = c.requires.shares.0 in omega arith) e.0 (ap length e.1)

pub returns-clause-notes : goal.returns-clause-notes
returns-clause-notes g c = let e = c.in-Ok-open.ensures in let o : Opening = (record { seats = length c.args.shares.now; slots = c.all_slots.result; shares = c.in-Ok.own; starts = c.args.starts; given = c.new.result; posted = false }) in none_noted c.in-Ok-open.made.0 o c.in-Ok-open.made.1.items e.2

pub returns-clause-knows : goal.returns-clause-knows
returns-clause-knows g c = let e = c.in-Ok-open.ensures in let o : Opening = (record { seats = length c.args.shares.now; slots = c.all_slots.result; shares = c.in-Ok.own; starts = c.args.starts; given = c.new.result; posted = false }) in none_known c.in-Ok-open.made.0 o c.in-Ok-open.made.1.items e.2

pub returns-clause-shares : goal.returns-clause-shares
returns-clause-shares g c = let e = c.in-Ok-open.ensures in let o : Opening = (record { seats = length c.args.shares.now; slots = c.all_slots.result; shares = c.in-Ok.own; starts = c.args.starts; given = c.new.result; posted = false }) in all_shared c.in-Ok-open.made.0 o c.in-Ok-open.made.1.items e.2 c.args.shares.now e.1

pub returns-clause-tried : goal.returns-clause-tried
returns-clause-tried g c = let e = c.in-Ok-open.ensures in let o : Opening = (record { seats = length c.args.shares.now; slots = c.all_slots.result; shares = c.in-Ok.own; starts = c.args.starts; given = c.new.result; posted = false }) in none_tried c.in-Ok-open.made.0 o c.in-Ok-open.made.1.items e.2 e.0

pub returns-clause-installed : goal.returns-clause-installed
returns-clause-installed g c = let e = c.in-Ok-open.ensures in let o : Opening = (record { seats = length c.args.shares.now; slots = c.all_slots.result; shares = c.in-Ok.own; starts = c.args.starts; given = c.new.result; posted = false }) in none_installed c.in-Ok-open.made.0 o c.in-Ok-open.made.1.items e.2 e.0

pub returns-clause-visited : goal.returns-clause-visited
returns-clause-visited g c = let e = c.in-Ok-open.ensures in let o : Opening = (record { seats = length c.args.shares.now; slots = c.all_slots.result; shares = c.in-Ok.own; starts = c.args.starts; given = c.new.result; posted = false }) in none_visited c.in-Ok-open.made.0 o c.in-Ok-open.made.1.items e.2
