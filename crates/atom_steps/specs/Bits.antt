-- An index has come to a declared name.
use Rattle.std.specs.Prelude.{ℕ, ◌+◌, ◌*◌, ◌<◌, List, ◌≡◌, get_or}
use Rattle.language.specs.Limits.{max_names}
use Rattle.name_values.specs.Sorts as Sort
use Rattle.machine.specs.Fields.{entry_field}
use Rattle.machine.specs.Phases as Phase
use Rattle.machine.specs.Memory.{note_words}
use Rattle.machine.specs.Telling.{is_number}
use Rattle.machine.specs.declared.Machine.{Machine}
use Rattle.machine.specs.Entering.{Waiting}

-- the index has come, and the name is a declared one that is no definition
pub record Points (refs mem : List ℕ) (m : Machine) (k r : ℕ) : Type 0 where
  pub waiting : Waiting mem m Phase.indexed
  pub number : m.mode ≡ is_number
  pub entry : k ≡ get_or mem (m.frames + entry_field) 0
  pub reference : r ≡ get_or refs k 0
  pub declared : r < max_names
  pub no_body : get_or mem (note_words * r) 0 ≡ Sort.body → ⊥
