-- Declared names that meet names of their spelling, one entry after the other from the last to the first (refusal 7 among declared names).
use Rattle.std.specs.Prelude.{ℕ, List, ◌≡◌, drop}
use Rattle.language.specs.Names.{Names, doubled}
use Rattle.language.proofs.Laws.Basics.Lists.{All}
use Rattle.names.specs.Declaring.{declared_in}
use Rattle.names.specs.Tables.{place_of, least, Placed}
use Rattle.names.specs.Walkable.{Walkable, Table}

-- the names declared from entry k on, of kinds from `low` on
abbrev pub declared_from : {w ids : List ℕ} {entries : ℕ} → Walkable w ids entries → ℕ → ℕ → Names
declared_from h low k = declared_in low (drop k h.es)

-- a table of their smallest places, and the first place where two of them meet
pub record Met {w ids : List ℕ} {entries : ℕ} (h : Walkable w ids entries) (low k : ℕ) (table : List ℕ) (place : ℕ) : Type 0 where
  pub shown : Table h table (least (declared_from h low k))
  pub placed : All Placed (declared_from h low k)
  pub doubles : place_of place ≡ doubled (declared_from h low k)
