-- The two changes may be published, and their exchange takes the guest aboard.
use Rattle.std.proofs.Common.{List, sym, ap, ap₂, ◌∙◌, ◌≡◌, subst}
use Rattle.pc_exchange_law.specs.Passes.{PassKnows}
use Rattle.pc_exchange_law.specs.Paths.{Path}
use Rattle.pc_rule.specs.declared.opening.Place.{Place}
use Rattle.pc_rule.specs.Passes.{whole, view, knows, path, listed, board_size}
use Rattle.pc_rule.specs.Walking.{path_with}
use Rattle.pc_kcas.specs.declared.mode.Mode.TheVariants.{Path as OfPath}
use Rattle.pc_kcas.specs.Exchanges.{RaisesVersions, KnowsOldValues, FitsByMode}
use Rattle.pc_path.specs.Exchanges.{HasExchanged}
use Rattle.examples.specs.Ferry.{ferry_form, changes_for, path_of, IsAboard}
use Rattle.examples.proofs.Ferries.{raises_sentinel, knows_both, ferry_fits, aboard_by, ok_map}
use Rattle.examples.proofs.ferry.seated.Goals as goal

pub vexec-requires-clause-raises : goal.vexec-requires-clause-raises
vexec-requires-clause-raises c κs = subst RaisesVersions (sym c.add_guest.ensures.added) (raises_sentinel c.args.guest c.args.count c.requires.counted.version.0)

pub vexec-requires-clause-fits : goal.vexec-requires-clause-fits
vexec-requires-clause-fits c κs = let p = c.args.pass.now in let q = c.add_guest.new.pass in let only = c.add_guest.ensures.only in let r = c.requires.counted in
    let same : path q ≡ path_of c.args.count = ap₂ (λ v s. path_with v.items s.me.0.path) only.3 only.0 ∙ r.path_is in
    subst (λ (x : Path). FitsByMode ferry_form (view q).size.slots OfPath x (listed q)) (sym same)
    (subst (FitsByMode ferry_form (view q).size.slots OfPath (path_of c.args.count)) (sym c.add_guest.ensures.added)
    (ferry_fits (view q).size.slots c.args.guest c.args.count r.version.0 c.requires.room))

pub vexec-requires-clause-old : goal.vexec-requires-clause-old
vexec-requires-clause-old c κs = let z = board_size c.args.board.now in let q = c.add_guest.new.pass in let r = c.requires.counted in
    subst (λ (k : PassKnows). KnowsOldValues z k (listed q)) (sym (ap (λ s. s.me.0.knows) c.add_guest.ensures.only.0))
    (subst (KnowsOldValues z (knows c.args.pass.now)) (sym c.add_guest.ensures.added)
    (knows_both z (knows c.args.pass.now) c.args.guest c.args.count r.known r.grown r.children))

pub returns-clause-aboard : goal.returns-clause-aboard
returns-clause-aboard c = let q = c.add_guest.new.pass in let y = whole c.vexec.new.pass in let only = c.add_guest.ensures.only in let count = c.args.count in
    let told = (knows q).told in
    let same : path q ≡ path_of count = ap₂ (λ v s. path_with v.items s.me.0.path) only.3 only.0 ∙ c.requires.counted.path_is in
    ok_map (HasExchanged told y OfPath (path q) (listed q)) (IsAboard c.args.guest y) c.vexec.result
    (λ s done. aboard_by told y c.args.guest count s c.requires.room
    (subst (λ (x : Path). HasExchanged told y OfPath x (changes_for c.args.guest count) s) same
    (subst (λ (l : List Place). HasExchanged told y OfPath (path q) l s) c.add_guest.ensures.added done))) c.vexec.ensures.done
