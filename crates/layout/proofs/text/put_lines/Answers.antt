use native.Mathlib.Omega.{arith}
use Rattle.layout.specs.TextLaws.{held_listed, lines_start, lines-room, lines-kept, lines_more, lines-done}
use Rattle.layout.proofs.text.put_lines.Goals as goal

pub loop-k-init : goal.loop-k-init
loop-k-init c = (omega arith, lines_start)

pub put_line-at-requires : goal.put_line-at-requires
put_line-at-requires c =
    (held_listed c.loop-k.k c.requires.0 (omega arith), omega (arith, lines-room c.loop-k.invariant.1 _ (omega arith) c.requires.1, lines-kept c.loop-k.invariant.1))

pub loop-k-preserved : goal.loop-k-preserved
loop-k-preserved c =
    (omega arith, lines_more c.loop-k.invariant.1 (omega arith) c.put_line-at.ensures)

pub shape_of-out : goal.shape_of-out
shape_of-out c =
    lines-kept c.loop-k.invariant.1

pub returns : goal.returns
returns c =
    lines-done c.loop-k.invariant.1 (omega arith)
