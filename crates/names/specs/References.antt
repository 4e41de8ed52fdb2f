-- What a name refers to, as a number: a declared name by its number in the text's order, a big operator's name by how many of them are outside it.
use Rattle.std.specs.Prelude.{ℕ, ◌+◌, ◌<◌, List, [], ◌∷◌, true, false, ◌≡◌, length, get_or}
use Rattle.language.specs.Bytes.{same}
use Rattle.language.specs.Limits.{max_names}
use Rattle.language.specs.Tokens.{Token}
use Rattle.language.specs.Names.{Names}
use Rattle.entries.specs.Kinds as Kind
use Rattle.entries.specs.Flat.{Entry}
use Rattle.names.specs.Roles.{declares}
use Rattle.names.specs.Scan.{token_of}
use Rattle.names.specs.Tables.{no_place}
use Rattle.names.specs.Walkable.{entry_of}

-- the number of the name of this spelling among names of which the last stands first
unfoldable pub number_in : Names → Token → ℕ
number_in [] t = no_place
number_in (n ∷ ns) t = elim (same n.text t.text) [ true ↦ length ns | false ↦ number_in ns t ]

-- a name under the names of the big operators around it, innermost first; their numbers come after those of declared names ('256 declared names')
unfoldable pub reference : Names → Names → Token → ℕ
reference declared [] t = number_in declared t
reference declared (b ∷ bs) t = elim (same b.text t.text) [ true ↦ max_names + length bs | false ↦ reference declared bs t ]

-- names put before a list, one after the other
abbrev pub pushed : Names → Names → Names
pushed [] ns = ns
pushed (n ∷ l) ns = pushed l (n ∷ ns)

-- names in the text's order, the last first
abbrev pub last_first : Names → Names
last_first ns = pushed ns []

-- entry k declares the name n
pub record DeclaresAt (es : List Entry) (k : ℕ) (n : Token) : Type 0 where
  pub inside : k < length es
  pub declaring : declares Kind.parameter (entry_of es k).kind ≡ true
  pub name : token_of (entry_of es k) ≡ n

-- `declared` holds the entry of each declared name at the name's number, if it has room there
abbrev pub Where : List Entry → List ℕ → Names → Type 0
Where es declared [] = Unit {0}
Where es declared (n ∷ ns) = (length ns < max_names → DeclaresAt es (get_or declared (length ns) 0) n) × Where es declared ns
