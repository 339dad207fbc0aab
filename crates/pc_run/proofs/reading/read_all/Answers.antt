-- What a turn takes comes behind what was taken before.
use Rattle.std.proofs.Common.{◌≡◌, ◌+◌, length, take, sym, ap, ◌∙◌, subst, arith}
use Rattle.std.proofs.lemmas.List.{take-take, take-append-le, length-take-le}
use Rattle.std.specs.Io.KnownBytes.{Consumes}
use Rattle.pc_run.specs.Reading.{IsInput}
use Rattle.pc_run.proofs.Turns.{takes_with_filled, with_piece, whole_input, longer_input, written_whole}
use Rattle.pc_run.proofs.reading.read_all.Goals as goal

pub returns-in_err-count-clause-few : goal.returns-in_err-count-clause-few
returns-in_err-count-clause-few g c =
    let small = c.turns.invariant.read.small in
    takes_with_filled _ _ _ _ _ c.turns.filled _ _ _ c.turns.invariant.read
    (omega (arith, c.deref_mut.ensures.len, c.in_ok-make_room.ensures.small, c.in_ok-make_room.ensures.room))
    c.read_piece.ensures.few

pub returns-then-count-eq0-clause-few : goal.returns-then-count-eq0-clause-few
returns-then-count-eq0-clause-few g c =
    takes_with_filled _ _ _ _ _ c.turns.filled _ _ _ c.turns.invariant.read
    (omega (arith, c.deref_mut.ensures.len, c.in_ok-make_room.ensures.small, c.in_ok-make_room.ensures.room))
    c.read_piece.ensures.few

pub returns-then-count-eq0-clause-whole : goal.returns-then-count-eq0-clause-whole
returns-then-count-eq0-clause-whole g c =
    let h = c.turns.invariant.read in
    let same : take c.turns.filled c.deref_mut.result.now ≡ take c.turns.filled c.turns.bytes.items =
    ap (take c.turns.filled) c.deref_mut.ensures.value ∙ c.in_ok-make_room.ensures.kept in
    let none : c.turns.filled + c.in_ok-count.count ≡ c.turns.filled = omega (arith, c.if-count-eq0.true) in
    let cut = c.truncate.ensures.items ∙ take-take c.turns.filled _ _ (omega (arith, c.in_ok-make_room.ensures.room))
    ∙ take-append-le c.turns.filled c.read_piece.new.bytes _
    (omega (arith, c.read_piece.auto.bytes, c.deref_mut.ensures.len, c.in_ok-make_room.ensures.room)) in
    let whole = whole_input _ _ _
    (with_piece _ _ _ _ _ _ (subst (Consumes _ _) (sym same) h.takes) c.in_ok-count.ensures.piece)
    (c.in_ok-count.ensures.piece.end c.if-count-eq0.true) in
    subst (IsInput _) (ap (λ n. take n c.read_piece.new.bytes) none ∙ sym cut) whole

pub returns-then-filled-gt-MOST_BYTES-clause-cause : goal.returns-then-filled-gt-MOST_BYTES-clause-cause
returns-then-filled-gt-MOST_BYTES-clause-cause g c =
    let h = c.turns.invariant.read in
    let same : take c.turns.filled c.deref_mut.result.now ≡ take c.turns.filled c.turns.bytes.items =
    ap (take c.turns.filled) c.deref_mut.ensures.value ∙ c.in_ok-make_room.ensures.kept in
    longer_input _ _ _ _
    (with_piece _ _ _ _ _ _ (subst (Consumes _ _) (sym same) h.takes) c.in_ok-count.ensures.piece)
    (omega (
      arith,
      length-take-le (c.turns.filled + c.in_ok-count.count) c.read_piece.new.bytes
          (omega (arith, c.in_ok-count.ensures.within, c.read_piece.auto.bytes)),
    ))

pub returns-then-filled-gt-MOST_BYTES-clause-few : goal.returns-then-filled-gt-MOST_BYTES-clause-few
returns-then-filled-gt-MOST_BYTES-clause-few g c =
    takes_with_filled _ _ _ _ _ c.turns.filled _ _ _ c.turns.invariant.read
    (omega (arith, c.deref_mut.ensures.len, c.in_ok-make_room.ensures.small, c.in_ok-make_room.ensures.room))
    c.read_piece.ensures.few

pub turns-preserved : goal.turns-preserved
turns-preserved g c =
    let h = c.turns.invariant.read in
    let same : take c.turns.filled c.deref_mut.result.now ≡ take c.turns.filled c.turns.bytes.items =
    ap (take c.turns.filled) c.deref_mut.ensures.value ∙ c.in_ok-make_room.ensures.kept in
    let whole : length c.read_piece.new.bytes ≡ c.make_room.new.bytes.len =
    omega (arith, c.read_piece.auto.bytes, c.deref_mut.ensures.len) in
    rw (written_whole c.read_piece.new.bytes _ c.make_room.new.bytes.len whole) (record {
      read = record {
        takes = with_piece _ _ _ _ _ _ (subst (Consumes _ _) (sym same) h.takes) c.in_ok-count.ensures.piece;
        same = whole;
        within = omega (arith, c.in_ok-count.ensures.within, c.deref_mut.ensures.len);
        room = c.in_ok-make_room.ensures.small;
        long = omega (arith, h.long, c.if-count-eq0.false);
        small = c.if-filled-gt-MOST_BYTES.false;
      };
      kept = omega (arith, c.turns.invariant.kept, c.in_ok-count.ensures.never_falls);
    })
