-- A line that isn't bad has plain bytes; of a bad line a bad byte counts first.
use Rattle.std.proofs.Common.{◌∙◌, ap, ◌≡◌, false, get_or}
use Rattle.std.specs.Prelude.{◌==◌}
use Rattle.std.proofs.lemmas.Bool.{ne_eqb}
use Rattle.pc_text.specs.declared.line.LineClass.TheVariants.{Bad}
use Rattle.pc_text.specs.ScriptLine.{class_after}
use Rattle.pc_text.specs.ScriptWords.{words_of}
use Rattle.pc_text.proofs.PlainLines.{good_class, bad_class}
use Rattle.pc_text.proofs.line.read_line.Goals as goal

pub returns-in-Bad-clause-class : goal.returns-in-Bad-clause-class
returns-in-Bad-clause-class c =
    let command : (get_or c.in-Some.word.now 0 0 == 35) ≡ false = ne_eqb _ 35 c.if-word-eq35.false in
    let words = words_of c.in-Some.rest.now in
    let is = c.in-Bad.ensures.class words c.cut_arguments.ensures
    ∙ ap (λ first. class_after first words) c.read_keyword.ensures in
    ap Bad c.first_kind.ensures
    ∙ bad_class c.args.line.now c.in-Some.word.now words c.in-Bad.kind c.in-Some.ensures.words command is

pub returns-in_default-class_of_words-clause-class : goal.returns-in_default-class_of_words-clause-class
returns-in_default-class_of_words-clause-class c =
    let command : (get_or c.in-Some.word.now 0 0 == 35) ≡ false = ne_eqb _ 35 c.if-word-eq35.false in
    let words = words_of c.in-Some.rest.now in
    let is = c.class_of_words.ensures.class words c.cut_arguments.ensures
    ∙ ap (λ first. class_after first words) c.read_keyword.ensures in
    good_class c.args.line.now c.in-Some.word.now words c.class_of_words.result c.in-Some.ensures.words command is
    c.in_default-class_of_words.not-Bad
