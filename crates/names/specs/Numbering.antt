-- Declared names are numbered one entry after the other; the place of the first without a number is refusal 8's.
use Rattle.std.specs.Prelude.{ℕ, ◌-◌, ◌≤◌, ◌<◌, List, ◌≡◌, length, drop}
use Rattle.std.proofs.Math.Option.{some}
use Rattle.language.specs.Limits.{max_names}
use Rattle.language.specs.Names.{Names, place_of_first}
use Rattle.entries.specs.Kinds as Kind
use Rattle.names.specs.Walkable.{Walkable, Table}
use Rattle.names.specs.Meeting.{declared_from}
use Rattle.names.specs.References.{number_in, last_first, Where, pushed}

-- the names declared before entry k, the last first: a table of their numbers, how many they are, and where the 257th stands once it is passed
pub record Numbered {w ids : List ℕ} {entries : ℕ} (h : Walkable w ids entries) (k : ℕ) (table declared : List ℕ) (count place : ℕ) : Type 0 where
  pub passed : Names
  pub all : pushed (declared_from h Kind.parameter k) passed ≡ last_first (declared_from h Kind.parameter 0)
  pub counted : count ≡ length passed
  pub few : count ≤ k
  pub shown : Table h table (number_in passed)
  pub found : Where h.es declared passed
  pub before : count ≤ max_names → drop max_names (declared_from h Kind.parameter 0) ≡ drop (max_names - count) (declared_from h Kind.parameter k)
  pub behind : max_names < count → place_of_first (drop max_names (declared_from h Kind.parameter 0)) ≡ some place
