-- `each_word` meets its contract: after i words the buffer is what 8 * i byte steps make of it.
use Prim.Native.Nat.{◌*◌}
use mathlib.Core.Path.{◌≡◌}
use Rattle.node.specs.Kinds.{shape_of}
use Rattle.rows.specs.Booleans.{byte_steps}
use Rattle.rows.specs.BooleanLaws.{Bytes}
use Rattle.rows.proofs.booleans.each_word.Given as goal

abbrev pub invariant-loop-i : goal.invariant-loop-i
invariant-loop-i l = Bytes l.rows × (l.rows ≡ byte_steps (shape_of l.kind) l.initial.rows l.first l.second l.base (8 * l.i))
