-- The notes of all names before any of them has had its turn.
use Rattle.std.specs.Prelude.{ℕ, ◌-◌, ◌≤◌, List, [], ◌≡◌, length}
use Rattle.language.specs.Limits.{max_names}
use Rattle.language.specs.Tokens.{tokens}
use Rattle.language.specs.Tree.{Spec}
use Rattle.entries.specs.Kinds as Kind
use Rattle.names.specs.Resolved.{Stored, Resolved}
use Rattle.name_values.specs.World.{meaning_at}
use Rattle.name_values.specs.Worked.{world_in}
use Rattle.name_values.specs.Sorts as Sort
use Rattle.notes.specs.Notes.{Note}
use Rattle.notes.specs.FirstTable.{first_table}

-- the note of a name by the kind of the entry k that declares it
pub record Sorted (kind k sort n : ℕ) : Type 0 where
  pub definition : kind ≡ Kind.definition → (sort ≡ Sort.body) × (n ≡ k - 1)
  pub identifier : kind ≡ Kind.identifier → (sort ≡ Sort.identifier) × (n ≡ k)
  pub signal : kind ≡ Kind.signal → (sort ≡ Sort.signal) × (n ≡ 0)
  pub bus : kind ≡ Kind.bus → (sort ≡ Sort.bus) × (n ≡ 0)
  pub typed : kind ≡ Kind.typed → (sort ≡ Sort.bus) × (n ≡ 0)
  pub parameter : kind ≡ Kind.parameter → sort ≡ Sort.nothing
  pub enumeration : kind ≡ Kind.enumeration → sort ≡ Sort.nothing

-- what the notes are made from: some tree is stored, and its names are resolved
pub record NotesGiven (w found : List ℕ) (names : ℕ) : Type 0 where
  pub text : List ℕ
  pub refs : List ℕ
  pub count : ℕ
  pub entries : ℕ
  pub tree : Spec
  pub stored : Stored text w count entries tree
  pub resolved : Resolved tree refs found names
  pub room : max_names ≤ length found

-- the name i is noted so
pub record NoteIs (x : Spec) (text w : List ℕ) (i sort n : ℕ) : Type 0 where
  pub is : Note (tokens text) w sort n (meaning_at (world_in x [] (first_table x)) i)
