-- An entry that is the name of a definition.
use Rattle.std.specs.Prelude.{ℕ, ◌<◌, List, ◌≡◌, get_or}
use Rattle.language.specs.Limits.{max_names}
use Rattle.entries.specs.Kinds as Kind
use Rattle.name_values.specs.Sorts as Sort
use Rattle.machine.specs.Memory.{note_at}
use Rattle.machine.specs.Entering.{Expands}
use Rattle.machine.specs.declared.Machine.{Machine}

-- the reference of the entry's name is that of a definition
pub record Defined (work refs mem : List ℕ) (m : Machine) (r : ℕ) : Type 0 where
  pub named : Expands work m Kind.named Kind.numeral
  pub same : r ≡ get_or refs m.value 0
  pub declared : r < max_names
  pub body : note_at mem r 0 ≡ Sort.body
