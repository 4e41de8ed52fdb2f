-- `write_text` meets its contract: 18 by the size that is told, or the text.
use native.Mathlib.Omega.{arith}
use Rattle.layout.specs.Text.{model_of}
use Rattle.layout.specs.WholeLaws.{delivers_refused, delivers_done, size_real, text_short, text_long, text-fits}
use Rattle.layout.proofs.text.write_text.Goals as goal

pub returns-then-out-size : goal.returns-then-out-size
returns-then-out-size c =
    delivers_refused _ (text_short c.requires.0 (model_of c.args.target) c.args.list.now c.requires.1.0 c.text_size-size.ensures _ c.if-out-size.true)

pub returns-then-size-gt-MAX_TOLD : goal.returns-then-size-gt-MAX_TOLD
returns-then-size-gt-MAX_TOLD c =
    delivers_refused _ (text_long c.requires.0 (model_of c.args.target) c.args.list.now c.requires.1.0 c.text_size-size.ensures _ c.if-size-gt-MAX_TOLD.true)

pub put_text-requires : goal.put_text-requires
put_text-requires c =
    let size = size_real c.requires.0 (model_of c.args.target) c.args.list.now c.requires.1.0 c.text_size-size.ensures c.if-size-gt-MAX_TOLD.false in
    record { table_value = (c.pieces-table.ensures, (c.requires.0, c.requires.1.0)); nodes_in_bounds = omega (arith, size, c.if-out-size.false) }

pub returns : goal.returns
returns c =
    let size = size_real c.requires.0 (model_of c.args.target) c.args.list.now c.requires.1.0 c.text_size-size.ensures c.if-size-gt-MAX_TOLD.false in
    delivers_done (text-fits c.requires.0 (model_of c.args.target) c.args.list.now c.requires.1.0 c.text_size-size.ensures _ c.if-out-size.false c.if-size-gt-MAX_TOLD.false)
    size
    (omega (arith, size, c.if-out-size.false)) c.put_text.ensures
