-- Passes backwards over a row: a pass in parts, a pass that comes upon what an earlier one left, twice around.
use Rattle.std.specs.Prelude.{ℕ, ◌≤◌, ◌<◌, ◌≡◌, Bool, List}
use Rattle.rows.specs.Row.{sweep}
use Rattle.rows.specs.Memory.{bits_at, Part}
use Rattle.rows.specs.Ready.{op_step}
use Rattle.rows.specs.declared.Op.{Op}

-- a pass from the value `seed` after position n - 1 down to position `from`, where it has the value r
pub record Swept (n from : ℕ) (op : Op) (base : ℕ) (seed r : Bool) (old new : List ℕ) : Type 0 where
  pub value : r ≡ sweep n (op_step old op) seed from
  pub part : Part n base (sweep n (op_step old op) seed) from n old new

-- the row at `base` has what some pass left from position `from` to before n
pub record Held (n from : ℕ) (op : Op) (base : ℕ) (rows : List ℕ) : Type 0 where
  pub seed : Bool
  pub row : (q : ℕ) → from ≤ q → q < n → bits_at rows base q ≡ sweep n (op_step rows op) seed q
