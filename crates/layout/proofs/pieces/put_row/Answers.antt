-- `put_row` meets its contract: by the table's row.
use native.Mathlib.Omega.{arith}
use Rattle.layout.specs.TableLaws.{put_is, in_table}
use Rattle.layout.proofs.pieces.put_row.Goals as goal

pub put_bytes-requires : goal.put_bytes-requires
put_bytes-requires c =
    let e = c.piece_size-size.ensures.0 in
    (omega (arith, e, in_table c.args.kind c.args.done c.requires.pieces_value.0 c.requires.pieces_value.1.0 c.requires.pieces_value.1.1), omega (arith, e, c.requires.done_in_bounds))

pub returns : goal.returns
returns c =
    put_is c.args.kind c.args.done c.requires.pieces_value.0 c.requires.pieces_value.1.0 c.requires.pieces_value.1.1 c.piece_size-size.ensures.0 c.put_bytes.ensures
