-- `line` meets its contract: the machine's answer on the line's expression, and a word for the line.
use native.Mathlib.Omega.{arith}
use Rattle.node.proofs.ReturnedLaws.{raised}
use Rattle.lines.specs.LineLaws.{line_runnable, line-part, room-for-line, line-written, line_refused}
use Rattle.lines.proofs.line.Goals as goal

pub formula_of-requires : goal.formula_of-requires
formula_of-requires c =
    line_runnable c.requires.sizes c.whole.ensures c.requires.some_line

pub returns-in_err-next : goal.returns-in_err-next
returns-in_err-next c =
    line_refused c.formula_of.ensures c.in_err-next.was (raised c.from_residual.ensures)

pub overflow_sub-part : goal.overflow_sub-part
overflow_sub-part c =
    omega (arith, line-part c.requires.some_line)

pub add_line-count-requires : goal.add_line-count-requires
add_line-count-requires c =
    room-for-line c.formula_of.ensures c.in_ok-next.was (omega (arith, line-part c.requires.some_line)) c.requires.some_line c.requires.sizes.lines

pub returns : goal.returns
returns c =
    line-written c.formula_of.ensures c.in_ok-next.was (omega (arith, line-part c.requires.some_line)) c.add_line-count.ensures c.add_line-count.auto.lines
