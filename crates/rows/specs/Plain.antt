-- Where a span of a row lies in its lasso.
use Rattle.std.specs.Prelude.{ℕ, ◌+◌, ◌≤◌, ◌<◌}
use Rattle.bits.specs.Spans.{Aligned}
use Rattle.recordings.specs.Limits.{max_positions}
use Rattle.recordings.specs.declared.Lasso.{Lasso}

-- `size` positions of the lasso from `at` on
pub record Spot (w : Lasso) (at size : ℕ) : Type 0 where
  pub loop : w.l < w.n
  pub few : w.n ≤ max_positions
  pub some : 0 < size
  pub most : size ≤ 64
  pub fits : at + size ≤ w.n
  pub aligned : Aligned size at
