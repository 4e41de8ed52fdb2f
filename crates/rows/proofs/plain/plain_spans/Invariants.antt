-- `plain_spans` meets its contract: before span k the row has its values, and a store there changes no operand.
use Prim.Native.Nat.{◌+◌, ◌*◌}
use Rattle.rows.specs.Memory.{Part}
use Rattle.rows.specs.Ready.{op_row}
use Rattle.rows.proofs.plain.plain_spans.Given as goal

abbrev pub invariant-loop-k : goal.invariant-loop-k
invariant-loop-k l = Part l.lasso.n l.base (op_row l.recording l.initial.rows l.lasso l.op) l.from (l.from + l.size * l.k) l.initial.rows l.rows
