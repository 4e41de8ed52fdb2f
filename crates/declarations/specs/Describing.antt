-- Ports by position, as far as no width is needed: the number and the offset of each one's name, and the entry of its enumeration.
use Rattle.std.specs.Prelude.{ℕ, ◌+◌, ◌<◌, true, false, List, ◌≡◌, eqb, get_or}
use Rattle.words.specs.Words.{word_at}
use Rattle.entries.specs.Kinds as Kind
use Rattle.entries.specs.Stored.{first_entry, kind_of}
use Rattle.operands.specs.Entries.{place_at}
use Rattle.declarations.specs.Enumerations.{no_entry, enumeration_of}

-- the first n elements are those of f
abbrev pub Filled : (ℕ → ℕ) → List ℕ → ℕ → Type 0
Filled f xs n = (i : ℕ) → i < n → get_or xs i 0 ≡ f i

-- the entry of the enumeration that a port is declared by; its own is entry k
abbrev pub enumeration_for : List ℕ → List ℕ → List ℕ → ℕ → ℕ
enumeration_for w refs found k = elim (eqb (kind_of (word_at w (first_entry + k))) Kind.typed) [ true ↦ enumeration_of w refs found k | false ↦ no_entry ]

-- the ports' entries are in `places`
pub record Described (w refs found places : List ℕ) (count : ℕ) (order enumerations offsets : List ℕ) : Type 0 where
  pub numbers : Filled (λ i. get_or refs (get_or places i 0) 0) order count
  pub enumerated : Filled (λ i. enumeration_for w refs found (get_or places i 0)) enumerations count
  pub placed : Filled (λ i. place_at w (get_or places i 0)) offsets count
