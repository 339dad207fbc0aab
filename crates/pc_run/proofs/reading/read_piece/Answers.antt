-- What was read stands behind the bytes that were filled.
use Rattle.std.proofs.Common.{◌≡◌, ℕ, ◌+◌, ◌-◌, ◌<◌, ◌≤◌, List, ◌++◌, length, take, sym, ap, ◌∙◌, arith}
use Rattle.std.proofs.Math.Seq.{take-append-add}
use Rattle.std.proofs.lemmas.List.{take-take, length-take-le}
use Rattle.std.proofs.lemmas.Slice.{take-put_mid}
use borrow.Rule.Slice.PartMut.{put_mid}
use Rattle.pc_run.proofs.reading.read_piece.Goals as goal

-- bytes that were written from a place on, as far as so many of them
front : (bytes part : List ℕ) (filled count : ℕ) → filled < length bytes → count ≤ length part
    → take (filled + count) (put_mid filled (length bytes - filled) bytes part) ≡ take filled bytes ++ take count part
front bytes part filled count inside within =
    let whole = take-put_mid filled (length bytes - filled) bytes part (filled + length part) (omega arith)
    (omega arith) in
    let long : length (take filled bytes) ≡ filled = length-take-le filled bytes (omega arith) in
    sym (take-take (filled + count) (filled + length part) _ (omega arith)) ∙ ap (take (filled + count)) whole
    ∙ ap (λ n. take (n + count) (take filled bytes ++ part)) (sym long)
    ∙ take-append-add (take filled bytes) part count

pub returns-in-Ok-clause-piece : goal.returns-in-Ok-clause-piece
returns-in-Ok-clause-piece g c = record {
  piece = take c.in-Ok.count c.read.new.buf;
  takes = c.in-Ok.ensures.bytes.0;
  appended = front c.args.bytes.now c.read.new.buf c.args.filled c.in-Ok.count c.requires.room c.in-Ok.ensures.bound;
  count = length-take-le c.in-Ok.count c.read.new.buf c.in-Ok.ensures.bound;
  end = λ none. c.in-Ok.ensures.bytes.1 none (omega (arith, c.read.auto.buf, c.requires.room));
}
