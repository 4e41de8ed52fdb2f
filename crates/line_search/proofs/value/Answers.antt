-- `value` meets its contract: past the rows a byte, and so each of its bits, is 0.
use Prim.Native.Nat.{◌*◌, ◌≤◌}
use mathlib.Core.Path.{sym}
use native.Mathlib.Omega.{arith}
use Rattle.basics.specs.Told.{max_told}
use Rattle.rows.specs.Memory.{row_bytes}
use Rattle.line_search.specs.WalkingLaws.{bit_past, bit-small}
use Rattle.line_search.proofs.value.Goals as goal

-- the row's first bit
start : (c : goal.After-shared_slice_known-1) → c.args.width * c.args.i ≤ row_bytes * max_told
start c = bit-small c.args.width c.args.i (omega arith) (omega arith)

pub overflow_mul-at : goal.overflow_mul-at
overflow_mul-at c = let s = start c in record { fits = omega arith }

pub overflow_mul-at-2 : goal.overflow_mul-at-2
overflow_mul-at-2 c = let s = start c in record { fits = omega arith }

pub overflow_add-at : goal.overflow_add-at
overflow_add-at c = let s = start c in record { fits = omega arith }

pub returns-then-rows-at : goal.returns-then-rows-at
returns-then-rows-at c = sym (bit_past _ _ (omega arith))
