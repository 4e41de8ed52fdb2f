-- `put_piece` meets its contract: a row of the table, or a signal's name between two.
use native.Mathlib.Omega.{arith}
use Rattle.signal_names.specs.Runs.{puts_length}
use Rattle.layout.specs.PieceLaws.{piece-fits, piece_puts, name-room, name-fits, close-fits, name-puts}
use Rattle.layout.proofs.pieces.put_piece.Goals as goal

pub put_row-name-requires : goal.put_row-name-requires
put_row-name-requires c =
    record { pieces_value = c.requires.pieces_value; done_in_bounds = piece-fits c.requires.writable.0 c.args.at _ c.requires.writable.1 }

pub returns-then-kind-ne-SIGNAL : goal.returns-then-kind-ne-SIGNAL
returns-then-kind-ne-SIGNAL c =
    piece_puts c.requires.writable.0 c.if-kind-ne-SIGNAL.true c.put_row-name.ensures

pub overflow_mul-first : goal.overflow_mul-first
overflow_mul-first c =
    omega (arith, c.requires.writable.0.room c.if-kind-ne-SIGNAL.false)

pub offset_bounds-sizes-first : goal.offset_bounds-sizes-first
offset_bounds-sizes-first c =
    omega (arith, c.requires.writable.0.listed c.if-kind-ne-SIGNAL.false)

pub bounds-sizes-first : goal.bounds-sizes-first
bounds-sizes-first c =
    c.requires.writable.0.listed c.if-kind-ne-SIGNAL.false

pub put_bytes-end-requires : goal.put_bytes-end-requires
put_bytes-end-requires c =
    let w = c.requires.writable.0 in (
      name-room w c.if-kind-ne-SIGNAL.false,
      omega (
        arith,
        name-fits w c.if-kind-ne-SIGNAL.false c.args.at _ c.requires.writable.1 c.put_row-name.ensures.next,
        puts_length
            c.put_row-name.ensures,
      ),
    )

pub put_row-requires : goal.put_row-requires
put_row-requires c =
    let w = c.requires.writable.0 in record {
      pieces_value = (c.requires.pieces_value.0, (c.requires.pieces_value.1.0, omega arith));
      done_in_bounds = omega (
        arith,
        close-fits w c.if-kind-ne-SIGNAL.false c.args.at _ c.requires.writable.1 c.put_row-name.ensures.next c.put_bytes-end.ensures.next,
        puts_length c.put_row-name.ensures,
        puts_length c.put_bytes-end.ensures,
      );
    }

pub returns : goal.returns
returns c =
    name-puts c.requires.writable.0 c.if-kind-ne-SIGNAL.false c.put_row-name.ensures c.put_bytes-end.ensures c.put_row.ensures
