-- One word more isn't the version of the node, or it is.
use Rattle.std.proofs.Common.{rules, ◌≡◌, ◌≢◌, ◌*◌, get_or}
use Rattle.pc_model.specs.declared.cell.Field.TheVariants.{Version}
use Rattle.pc_rule.specs.declared.opening.Place.{Place}
use Rattle.pc_rule.specs.Listed.{word_number}
use Rattle.pc_path.proofs.Seeing.{more_below, listed_here, none_listed}
use Rattle.pc_path.proofs.finishing.listed_from.Goals as goal

pub returns-then-number-from-clause-found : goal.returns-then-number-from-clause-found
returns-then-number-from-clause-found c = let d : Place = record { node = 0; field = Version; old = 0; new = 0 } in
    let is : word_number (get_or c.args.places.now c.loop-i.i d) ≡ 8 * c.args.node = search rules in
    listed_here c.args.places.now c.loop-i.i c.args.node d c.loop-i-test.true is

pub loop-i-preserved : goal.loop-i-preserved
loop-i-preserved c = let d : Place = record { node = 0; field = Version; old = 0; new = 0 } in
    let other : word_number (get_or c.args.places.now c.loop-i.i d) ≢ 8 * c.args.node = search rules in record {
      below = search rules;
      none = more_below c.args.places.now c.loop-i.i c.args.node d other c.loop-i.invariant.none;
    }

pub returns-clause-none : goal.returns-clause-none
returns-clause-none c = none_listed c.args.places.now c.loop-i.i c.args.node (search rules) c.loop-i.invariant.none
