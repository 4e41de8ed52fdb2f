-- What comes next where a set was made, or refused.
use Rattle.std.specs.Prelude.{ℕ, Ok, Err}
use Rattle.node.specs.Returned.{Returned}
use Rattle.machine.specs.declared.Move.TheVariants.{Next}
use Rattle.machine.specs.Stepped.{Stepped}
use Rattle.machine.specs.declared.Machine.{Machine}
use Rattle.value_steps.specs.Moves.{made-set}

-- the move of a set made
abbrev pub made : Machine → ℕ → Returned ℕ → Stepped
made m base (Ok n) = Ok (Next (made-set m n base))
made m base (Err r) = Err r
