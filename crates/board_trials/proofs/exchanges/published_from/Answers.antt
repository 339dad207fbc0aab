-- The words are listed one after the other, and then published.
use Rattle.std.proofs.Common.{refl, ◌∙◌, [], ◌∷◌, ◌++◌, ap, subst, sym}
use Rattle.std.specs.Prelude.{OnOk}
use Rattle.std.specs.List.Sorted.{IsPermutation}
use Rattle.pc_model.specs.Cells.{IsEven}
use Rattle.pc_rule_law.specs.Conditions.{IsFree}
use Rattle.pc_rule.specs.Passes.{view, knows, path, listed, board_size}
use Rattle.pc_dcss.specs.Installs.{KnowsPlace}
use Rattle.pc_kcas.specs.declared.mode.Mode.TheVariants.{Words}
use Rattle.pc_kcas.specs.Exchanges.{KnowsOldValues, own_exchange}
use Rattle.board_trials.proofs.Loosely.{IsLoose, even_next, other_loose, two_loose}
use Rattle.board_trials.proofs.Published.{free_after, known_listed}
use Rattle.board_trials.proofs.exchanges.published_from.Goals as goal

pub publish-requires-clause-fits : goal.publish-requires-clause-fits
publish-requires-clause-fits c κs = let p = c.word-2.new.pass in
    two_loose (view p).size.slots Words (path p) c.args.one c.args.two (listed p) refl
    (c.word-2.ensures.listed ∙ ap (λ l. l ++ c.args.two ∷ []) (c.word.ensures.listed ∙ ap (λ l. l ++ c.args.one ∷ []) c.requires.open.1))
    (subst (λ f. IsLoose c.args.one.node f c.args.one.new) (sym c.requires.one.1) (c.requires.one.0, subst IsEven (sym c.requires.one.3) (even_next c.args.one.old c.requires.one.2)))
    (other_loose c.args.two.node c.args.two.new c.args.two.field c.requires.two.1)

pub publish-requires-clause-old : goal.publish-requires-clause-old
publish-requires-clause-old c κs = let p = c.word-2.new.pass in
    subst (λ k. KnowsOldValues (board_size c.args.board.now) k (listed p)) (sym (ap (λ s. s.me.0.knows) (c.word-2.ensures.only.0 ∙ c.word.ensures.only.0)))
    (subst (λ l. KnowsOldValues (board_size c.args.board.now) (knows c.args.pass.now) l)
    (sym (c.word-2.ensures.listed ∙ ap (λ l. l ++ c.args.two ∷ []) (c.word.ensures.listed ∙ ap (λ l. l ++ c.args.one ∷ []) c.requires.open.1))) c.requires.old)

pub returns-clause-free : goal.returns-clause-free
returns-clause-free c = let p = c.word-2.new.pass in let q = c.publish.new.pass in
    free_after (view p) (view q) _ c.publish.result c.publish.ensures.only c.publish.ensures.dropped
    (subst IsFree (sym (ap (λ s. s.me.0.view) (c.word-2.ensures.only.0 ∙ c.word.ensures.only.0))) c.requires.free)

pub returns-clause-known : goal.returns-clause-known
returns-clause-known c = let p = c.word-2.new.pass in let q = c.publish.new.pass in
    known_listed (KnowsPlace (view q) (own_exchange q)) (listed p) (listed q) ([]) (c.args.two ∷ []) c.args.one c.publish.result
    (c.word-2.ensures.listed ∙ ap (λ l. l ++ c.args.two ∷ []) (c.word.ensures.listed ∙ ap (λ l. l ++ c.args.one ∷ []) c.requires.open.1)) c.publish.ensures.each c.publish.ensures.known

pub returns-clause-second : goal.returns-clause-second
returns-clause-second c = let p = c.word-2.new.pass in let q = c.publish.new.pass in
    known_listed (KnowsPlace (view q) (own_exchange q)) (listed p) (listed q) (c.args.one ∷ []) ([]) c.args.two c.publish.result
    (c.word-2.ensures.listed ∙ ap (λ l. l ++ c.args.two ∷ []) (c.word.ensures.listed ∙ ap (λ l. l ++ c.args.one ∷ []) c.requires.open.1)) c.publish.ensures.each c.publish.ensures.known

pub returns-clause-each : goal.returns-clause-each
returns-clause-each c = let p = c.word-2.new.pass in
    subst (λ l. OnOk c.publish.result (IsPermutation l (listed c.publish.new.pass)))
    (c.word-2.ensures.listed ∙ ap (λ l. l ++ c.args.two ∷ []) (c.word.ensures.listed ∙ ap (λ l. l ++ c.args.one ∷ []) c.requires.open.1)) c.publish.ensures.each
