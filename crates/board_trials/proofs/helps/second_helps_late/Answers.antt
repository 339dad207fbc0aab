-- The next exchange knows its old values, which the one before wrote; and the other pass's stays published over the help.
use Rattle.std.proofs.Common.{[], ◌∷◌, map, inl, refl, sym, ap, ap₂, ◌∙◌, subst}
use Rattle.std.specs.List.Sorted.{IsPermutation}
use Rattle.pc_model.specs.declared.cell.Field.TheVariants.{Version, Value}
use Rattle.pc_rule_law.specs.Past.{Has}
use Rattle.pc_protocol.specs.Notes.{published}
use Rattle.pc_exchange_law.specs.Ties.{code, exchange_of}
use Rattle.pc_rule.specs.Passes.{view, knows, listed, board_size}
use Rattle.pc_rule.specs.Starting.{change_of}
use Rattle.pc_kcas.specs.Exchanges.{attempt_with}
use Rattle.pc_kcas.proofs.Owning.{published_goes}
use Rattle.board_trials.proofs.Written.{next_values}
use Rattle.board_trials.proofs.helps.second_helps_late.Goals as goal

pub finish-requires-2-clause-published : goal.finish-requires-2-clause-published
finish-requires-2-clause-published c κs = let m = c.met_exchange.new.pass in let h = c.help-helped in
    published_goes m h.new.pass h.ensures.pass h.ensures.goes_on c.met_exchange.ensures.published

pub published_from-requires-clause-old : goal.published_from-requires-clause-old
published_from-requires-clause-old c = let o = c.published.new.pass in let p = c.install_first.new.pass in let q = c.finish.new.pass in
    let own = c.install_first.ensures.published.1 in let e = c.in-Won.ensures in let one = c.version.ensures in let two = c.value.ensures in
    next_values (board_size c.args.board.now) (knows q) (code (view q).seat (view q).attempt.number) c.in-Won.stamp own.noted.0 own.visits own.reads (listed p) c.version.result c.value.result
    (record { node = 1; field = Version; old = 2; new = 4 }) (record { node = 1; field = Value; old = 50; new = 70 }) e.won
    (subst (λ y. Has (knows q).told (published y (exchange_of (attempt_with 0 own.visits own.reads (map change_of (listed p)))) own.noted.0))
    (ap₂ (λ s n. code s n) (sym e.seated.2) (sym e.number)) (e.kept.told _ own.noted.1))
    (subst (λ l. IsPermutation (c.version.result ∷ c.value.result ∷ []) l) (sym (ap (λ v. v.items) c.install_first.ensures.pass.1)) c.in-Ok.ensures.each) record {
      version = (one.word.1, sym one.word.0, refl, sym one.numbers.1);
      other = (two.word.0 ∙ sym one.word.0, sym two.word.0, sym two.word.1, sym two.numbers.1);
    } (inl refl)
