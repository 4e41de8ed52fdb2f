-- The enumeration that a bus is declared by: its own entry, and the width of its words.
use Rattle.std.specs.Prelude.{ℕ, ◌+◌, ◌-◌, ◌<◌, Bool, true, false, ◌&&◌, List, [], ◌≡◌, eqb, ltb, get_or}
use Rattle.words.specs.Words.{word_at}
use Rattle.language.specs.Limits.{max_names, max_tokens}
use Rattle.language.specs.Tokens.{Token}
use Rattle.language.specs.Grammar.{Tokens}
use Rattle.entries.specs.Kinds as Kind
use Rattle.entries.specs.Stored.{first_entry, kind_of}
use Rattle.name_values.specs.Declaring.{EnumerationAt}

-- no entry has this number
abbrev pub no_entry : ℕ
no_entry = 65_535

abbrev pub is_enumeration : List ℕ → ℕ → Bool
is_enumeration w e = eqb (kind_of (word_at w (first_entry + e))) Kind.enumeration

-- the entry of the enumeration that the entry before k names
abbrev pub enumeration_by : List ℕ → ℕ → ℕ → ℕ
enumeration_by w r e = elim (ltb r max_names && ltb e max_tokens) [ true ↦ elim (is_enumeration w e) [ true ↦ e | false ↦ no_entry ] | false ↦ no_entry ]

abbrev pub enumeration_of : List ℕ → List ℕ → List ℕ → ℕ → ℕ
enumeration_of w refs found k = enumeration_by w (get_or refs (k - 1) 0) (get_or found (get_or refs (k - 1) 0) 0)

-- where its words are, if there is one
pub record Enumerates (ts : Tokens) (w : List ℕ) (e : ℕ) (words : List Token) : Type 0 where
  pub wordless : e ≡ no_entry → words ≡ []
  pub there : (e ≡ no_entry → ⊥) → (e < max_tokens) × EnumerationAt ts w e words
