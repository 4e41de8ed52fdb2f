-- `name_size` meets its contract.
use mathlib.Core.Path.{sym}
use native.Mathlib.Omega.{arith}
use Rattle.layout.specs.SizeLaws.{signal-is, signal-not}
use Rattle.layout.proofs.pieces.name_size.Goals as goal

pub returns-then-kind-ne-SIGNAL : goal.returns-then-kind-ne-SIGNAL
returns-then-kind-ne-SIGNAL c =
    (sym (signal-not c.args.kind _ c.if-kind-ne-SIGNAL.true), omega arith)

pub offset_bounds-sizes-first : goal.offset_bounds-sizes-first
offset_bounds-sizes-first c =
    omega (arith, (c.requires c.if-kind-ne-SIGNAL.false).0)

pub bounds-sizes-first : goal.bounds-sizes-first
bounds-sizes-first c =
    (c.requires c.if-kind-ne-SIGNAL.false).0

pub returns : goal.returns
returns c =
    (sym (signal-is c.args.kind _ c.if-kind-ne-SIGNAL.false), (c.requires c.if-kind-ne-SIGNAL.false).1)
