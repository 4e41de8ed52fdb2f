-- What an operator that goes round the loop makes of the spans of its operands.
use Rattle.std.specs.Prelude.{ℕ, ◌<◌, ◌≡◌}
use Rattle.node.specs.Kinds.{shape_of}
use Rattle.bits.specs.Bits.{bit_of}
use Rattle.bits.specs.Ripple.{before}
use Rattle.rows.specs.Steps.{step_of}

-- the operators that go round the loop: c is the value after the last position
pub record Goes (kind a b c r : ℕ) : Type 0 where
  pub bits : (s : ℕ) → s < 64 → bit_of r s ≡ step_of (shape_of kind) (bit_of a s) (bit_of b s) (before c r s)
