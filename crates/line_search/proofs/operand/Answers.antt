-- `operand` meets its contract: past the table a word, and so each of its fields, is 0.
use mathlib.Core.Path.{sym, ap, ◌∙◌}
use native.Mathlib.Omega.{arith}
use Rattle.line_search.specs.Walking.{operand_of}
use Rattle.line_search.specs.WalkingLaws.{operand-past}
use Rattle.line_search.proofs.operand.Goals as goal

pub returns-then-nodes-at : goal.returns-then-nodes-at
returns-then-nodes-at c = let a = c.args in sym (operand-past a.nodes.now a.i a.second (omega arith))

pub returns-then-second : goal.returns-then-second
returns-then-second c = c.second.ensures ∙ ap (operand_of c.args.nodes.now c.args.i) (sym c.if-second.true)

pub returns : goal.returns
returns c = c.first.ensures ∙ ap (operand_of c.args.nodes.now c.args.i) (sym c.if-second.false)
