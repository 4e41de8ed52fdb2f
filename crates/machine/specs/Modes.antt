-- The numbers of the code's constants, in their order: modes, and the phases of frames.
use Rattle.std.specs.Prelude.{ℕ, List, [], ◌∷◌}
use Rattle.machine.specs.Came.{Evaluate, Expand}
use Rattle.machine.specs.States.{mode_of}
use Rattle.machine.specs.Telling.{is_number, is_set, is_logic, is_bus, is_unsized, is_choice, is_nodes}

abbrev pub modes : List ℕ
modes = mode_of Evaluate ∷ mode_of Expand ∷ is_number ∷ is_set ∷ is_logic ∷ is_bus ∷ is_unsized ∷ is_choice ∷ is_nodes ∷ []
