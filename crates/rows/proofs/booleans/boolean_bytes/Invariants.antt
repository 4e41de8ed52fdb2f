-- `boolean_bytes` meets its contract: after j bytes the buffer is what j byte steps make of it.
use mathlib.Core.Path.{◌≡◌}
use Rattle.node.specs.Kinds.{shape_of}
use Rattle.rows.specs.Booleans.{byte_steps}
use Rattle.rows.specs.BooleanLaws.{Bytes}
use Rattle.rows.proofs.booleans.boolean_bytes.Given as goal

abbrev pub invariant-loop-j : goal.invariant-loop-j
invariant-loop-j l = Bytes l.rows × (l.rows ≡ byte_steps (shape_of l.kind) l.initial.rows l.first l.second l.base l.j)
