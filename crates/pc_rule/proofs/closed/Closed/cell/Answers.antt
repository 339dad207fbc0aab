use Rattle.std.proofs.Common.{◌≡◌, ℕ, refl, ◌∙◌, sym, ap, slice_index, subst}
use Rattle.pc_model.specs.declared.cell.Field.{Field}
use Rattle.pc_words.specs.declared.word.WordKind.{WordKind}
use Rattle.pc_words.specs.declared.word.WordKind.TheVariants.{Plain, Exchange}
use Rattle.pc_words.specs.Words.{IsWord}
use Rattle.pc_rule_law.specs.Board.{Board}
use Rattle.pc_rule_law.specs.Values.{IsPlainValue}
use Rattle.pc_rule.specs.Left.{words_left, board_left}
use Rattle.pc_rule.proofs.Left.{word_stored, cell_read, no_install_left, refers_left, only_left}
use Rattle.pc_rule.proofs.closed.Closed.cell.Goals as goal

pub kind_of-requires : goal.kind_of-requires
kind_of-requires g c = let left = c.args.self.now in
    subst IsWord (sym (c.word-word.ensures ∙ ap (slice_index (words_left left)) c.cell_place.ensures)) (word_stored left c.args.node c.args.field c.requires)

pub unreachable-requires : goal.unreachable-requires
unreachable-requires g c = let left = c.args.self.now in let b : Board = board_left left in
    let read : c.kind_of.result ≡ b.cell c.args.node c.args.field = cell_read left c.args.node c.args.field c.requires c.kind_of.result c.word-word.result c.cell_place.result c.kind_of.ensures.kind c.word-word.ensures c.cell_place.ensures in
    no_install_left left c.args.node c.args.field c.requires c.in-Install.seat c.in-Install.number (sym read ∙ c.in-Install.is)

pub exchanged-requires-clause-held : goal.exchanged-requires-clause-held
exchanged-requires-clause-held g c κs within = let left = c.args.self.now in let b : Board = board_left left in
    let read : c.kind_of.result ≡ b.cell c.args.node c.args.field = cell_read left c.args.node c.args.field c.requires c.kind_of.result c.word-word.result c.cell_place.result c.kind_of.ensures.kind c.word-word.ensures c.cell_place.ensures in
    let is : b.cell c.args.node c.args.field ≡ Exchange c.in-Exchange.seat c.in-Exchange.number = sym read ∙ c.in-Exchange.is in
    is ∙ ap (Exchange c.in-Exchange.seat) (sym (refers_left left c.args.node c.args.field c.requires c.in-Exchange.seat c.in-Exchange.number is).present)

-- the payload of a plain word, and the value of a reference, are what the words say
plain_says : (b : Board) (n : ℕ) (f : Field) (k : WordKind) (x : ℕ) → k ≡ b.cell n f → k ≡ Plain x → IsPlainValue b n f (b.cell n f) x
plain_says b n f k x read is = subst (λ (w : WordKind). IsPlainValue b n f w x) (sym is ∙ read) refl

pub returns-in-Plain : goal.returns-in-Plain
returns-in-Plain g c = let left = c.args.self.now in let b : Board = board_left left in
    let read : c.kind_of.result ≡ b.cell c.args.node c.args.field = cell_read left c.args.node c.args.field c.requires c.kind_of.result c.word-word.result c.cell_place.result c.kind_of.ensures.kind c.word-word.ensures c.cell_place.ensures in
    record { plain = only_left left c.args.node c.args.field c.requires c.in-Plain.value (plain_says b c.args.node c.args.field c.kind_of.result c.in-Plain.value read c.in-Plain.is) }

pub returns-in-Exchange : goal.returns-in-Exchange
returns-in-Exchange g c = record { plain = only_left c.args.self.now c.args.node c.args.field c.requires c.exchanged.result c.exchanged.ensures }
