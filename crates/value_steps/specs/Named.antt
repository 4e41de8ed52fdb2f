-- An entry that is a declared name, and a note as it is written.
use Rattle.std.specs.Prelude.{ℕ, ◌+◌, ◌*◌, ◌<◌, List, ◌≡◌, get_or, set}
use Rattle.language.specs.Limits.{max_names}
use Rattle.entries.specs.Kinds as Kind
use Rattle.name_values.specs.Sorts as Sort
use Rattle.machine.specs.Memory.{note_words, note_at}
use Rattle.machine.specs.declared.Machine.{Machine}
use Rattle.machine.specs.Entering.{Evaluates}

-- the reference of the entry's name is that of a declared one, which is no definition whose body has to be worked out
pub record Refers (work refs mem : List ℕ) (m : Machine) (r : ℕ) : Type 0 where
  pub named : Evaluates work m Kind.named Kind.numeral
  pub same : r ≡ get_or refs m.value 0
  pub declared : r < max_names
  pub no_body : note_at mem r 0 ≡ Sort.body → ⊥

-- three words of the note are written
abbrev pub noting : List ℕ → (r sort n a : ℕ) → List ℕ
noting mem r sort n a = set (set (set mem (note_words * r) sort) (note_words * r + 1) n) (note_words * r + 2) a
