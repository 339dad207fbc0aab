-- Each word of the sentinel is known at its visit.
use Rattle.std.proofs.Common.{List, sym, ap, ◌∙◌, subst}
use Rattle.pc_model.specs.declared.cell.Field.TheVariants.{Value, Height}
use Rattle.pc_exchange_law.specs.ExchangeConditions.{KnowsOld}
use Rattle.pc_exchange_law.specs.Passes.{PassKnows}
use Rattle.pc_rule.specs.declared.visit.Visit.{Visit}
use Rattle.pc_rule.specs.Passes.{board_size}
use Rattle.pc_path.specs.Adds.{IsLastVisit}
use Rattle.examples.proofs.Ferries.{only_visit}
use Rattle.examples.proofs.ferry.add_guest.Goals as goal

pub add-requires-clause-known : goal.add-requires-clause-known
add-requires-clause-known c κs = let r = c.requires.counted in let count = c.args.count in (
  count.version,
  subst (λ (vs : List Visit). IsLastVisit vs 1 count.version) (sym r.visited) (only_visit count),
  r.known,
)

pub add-requires-in-Grown-clause-known : goal.add-requires-in-Grown-clause-known
add-requires-in-Grown-clause-known c κs = let r = c.requires.counted in let count = c.args.count in let only = c.add.ensures.only in (
  count.version,
  subst (λ (vs : List Visit). IsLastVisit vs 1 count.version) (sym (ap (λ v. v.items) only.3 ∙ r.visited)) (only_visit count),
  subst (λ (k : PassKnows). KnowsOld (board_size c.args.board.now) k 1 count.version Value count.grown) (sym (ap (λ s. s.me.0.knows) only.0)) r.grown,
)

pub add-requires-in-Child-clause-known : goal.add-requires-in-Child-clause-known
add-requires-in-Child-clause-known c κs = let r = c.requires.counted in let count = c.args.count in let only = c.add.ensures.only in (
  count.version,
  subst (λ (vs : List Visit). IsLastVisit vs 1 count.version) (sym (ap (λ v. v.items) only.3 ∙ r.visited)) (only_visit count),
  subst (λ (k : PassKnows). KnowsOld (board_size c.args.board.now) k 1 count.version Height count.children) (sym (ap (λ s. s.me.0.knows) only.0)) r.children,
)
