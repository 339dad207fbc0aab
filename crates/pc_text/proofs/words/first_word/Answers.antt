use Rattle.std.proofs.Common.{ℕ, ◌<◌, ◌-◌, arith, length, List, take, drop}
use Rattle.std.proofs.lemmas.List.{take_rest}
use Rattle.pc_text.proofs.WordsLemmas.{begins_word_at, words_of-only_blanks}
use Rattle.pc_text.proofs.words.first_word.Goals as goal

pub returns-then-start-line : goal.returns-then-start-line
returns-then-start-line c = record {
  words = words_of-only_blanks c.args.line.now (omega (arith, c.blanks_len-start.ensures.place));
  some_bytes = words_of-only_blanks c.args.line.now (omega (arith, c.blanks_len-start.ensures.place));
}

pub returns : goal.returns
returns c =
    let start = c.blanks_len-start.result in
    let below : start < length c.args.line.now = omega (arith, c.blanks_len-start.ensures.within) in
    let text : List ℕ = take (length c.args.line.now - start) (drop start c.args.line.now) in
    let end = c.word_len-end.result in
    let begins = begins_word_at c.args.line.now text
    (take (length text - end) (drop end text)) start end c.blanks_len-start.ensures.place below
    (take_rest c.args.line.now start) c.word_len-end.ensures.place (take_rest text end) in
    record { words = begins.words; some_bytes = begins.some }
