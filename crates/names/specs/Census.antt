-- The declared names of a text: what is asked for before they are read, and what is known of them then.
use Rattle.std.specs.Prelude.{ℕ, ◌≤◌, List, ◌≡◌, length, unwrap_or}
use Rattle.language.specs.Limits.{max_names}
use Rattle.language.specs.Names.{doubled}
use Rattle.language.proofs.Laws.Basics.Lists.{All}
use Rattle.entries.specs.Kinds as Kind
use Rattle.names.specs.Tables.{no_place, place_of, least, Placed}
use Rattle.names.specs.Walkable.{Walkable, Table}
use Rattle.names.specs.Meeting.{declared_from}
use Rattle.names.specs.Numbering.{Numbered}
use Rattle.names.specs.declared.census.Census.{Census}

-- three tables that hold no place
pub record Blanks {w ids : List ℕ} {entries : ℕ} (h : Walkable w ids entries) (met seen table : List ℕ) : Type 0 where
  pub met-blank : Table h met (λ t. no_place)
  pub seen-blank : Table h seen (λ t. no_place)
  pub table-blank : Table h table (λ t. no_place)

pub record Undeclared (w ids : List ℕ) (entries : ℕ) (met seen table found : List ℕ) : Type 0 where
  pub walkable : Walkable w ids entries
  pub blanks : Blanks walkable met seen table
  pub room : max_names ≤ length found

-- where two of them meet; a table of the smallest places of signals and buses; the numbers of all
pub record Declared {w ids : List ℕ} {entries : ℕ} (h : Walkable w ids entries) (seen table found : List ℕ) (census : Census) : Type 0 where
  pub doubles : place_of census.again ≡ doubled (declared_from h Kind.parameter 0)
  pub shown : Table h seen (least (declared_from h Kind.signal 0))
  pub placed : All Placed (declared_from h Kind.signal 0)
  pub numbered : Numbered h entries table found census.tally.count (unwrap_or census.tally.place 0)
