-- What those who read letters ask of a recording.
use Rattle.std.specs.Prelude.{ℕ, ◌+◌, ◌*◌, ◌≤◌, ◌<◌, List, length}
use Rattle.recordings.specs.Limits.{max_positions, max_signals, header_bits}
use Rattle.recordings.specs.declared.Lasso.{Lasso}

-- a recording's bytes and the lasso of its header
pub record Recorded (bs : List ℕ) (w : Lasso) : Type 0 where
  pub loop : w.l < w.n
  pub few : w.n ≤ max_positions
  pub small : w.k ≤ max_signals
  pub room : header_bits + w.n * w.k ≤ 8 * length bs
