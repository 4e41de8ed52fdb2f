-- `operand_size` meets its contract.
use mathlib.Core.Bool.{true, false}
use native.Mathlib.Omega.{arith}
use lib.ListN.{get_or}
use Rattle.layout.specs.SizeLaws.{operand-is}
use Rattle.layout.proofs.pieces.operand_size.Goals as goal

pub returns-then-not-follows : goal.returns-then-not-follows
returns-then-not-follows c =
    (operand-is c.args.follows false (get_or c.args.lens.now c.args.i 0) c.if-not-follows.true, omega arith)

pub offset_bounds-lens-i : goal.offset_bounds-lens-i
offset_bounds-lens-i c =
    omega (arith, c.requires c.if-not-follows.false)

pub bounds-lens-i : goal.bounds-lens-i
bounds-lens-i c =
    c.requires c.if-not-follows.false

pub overflow_cast-result : goal.overflow_cast-result
overflow_cast-result c =
    omega (arith, c.type_inv.lens c.args.i)

pub returns : goal.returns
returns c =
    (operand-is c.args.follows true (get_or c.args.lens.now c.args.i 0) c.if-not-follows.false, omega (arith, c.type_inv.lens c.args.i))
