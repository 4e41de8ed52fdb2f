-- What a name denotes by its number alone: the declared names of a text in a list, and the elements that big operators have come to in another.
use Rattle.std.specs.Prelude.{ℕ, ◌-◌, ◌<◌, true, false, List, [], ◌∷◌, eqb, ltb, length}
use Rattle.node.specs.Ltl.{Formula}
use Rattle.node.specs.Result.{Result, Done, Refused}
use Rattle.language.specs.Limits.{max_names}
use Rattle.language.specs.Tokens.{Token}
use Rattle.language.specs.Tree.{Expr}
use Rattle.language.specs.Values.{Value, Number, misfit, value}
use Rattle.language.specs.DeclaredNames.{Declared, Port, value_at}
use Rattle.language.specs.Expansion.{Context, expansion, signal_of}

-- what a declared name is: one of the table; a definition, with its body's own entry, the names before it and its body ('A definition is worked out at each
-- use'); an enumeration's own name, which stands for no value
pub data Meaning : Type 0 where
  Stands : Declared → Meaning
  Defines : (entry : ℕ) → Context → Expr → Meaning
  NoValue : Meaning

-- what it stands for where it is used
abbrev pub name_value : Meaning → Token → Result Value
name_value (Stands v) t = Done (value_at t v)
name_value (Defines k c e) t = value c.values e
name_value NoValue t = Refused 6 0

-- the formula of it there
abbrev pub formed : List Port → Meaning → Token → Result Formula
formed ps (Stands v) t = signal_of ps t v
formed ps (Defines k c e) t = expansion c e
formed ps NoValue t = Refused 6 0

-- number r of a list of which the last stands first: how many stand after it
unfoldable pub numbered : {A : Type 0} → A → List A → ℕ → A
numbered other [] r = other
numbered other (a ∷ l) r = elim (eqb r (length l)) [ true ↦ a | false ↦ numbered other l r ]

-- the declared names of a text by their bytes, the last first
abbrev pub World : Type 0
World = List (List ℕ × Meaning)

abbrev pub name_at : World → ℕ → List ℕ
name_at W r = (numbered ([], NoValue) W r).0

abbrev pub meaning_at : World → ℕ → Meaning
meaning_at W r = (numbered ([], NoValue) W r).1

-- a reference of crate names: a declared name's number; after those numbers that of a big operator's name, whose element is in `env`, the innermost first
unfoldable pub denote : World → (env : List ℕ) → ℕ → Token → Result Value
denote W env r t = elim (ltb r max_names) [ true ↦ name_value (meaning_at W r) t | false ↦ Done (Number (numbered 0 env (r - max_names))) ]

unfoldable pub denote_formula : List Port → World → ℕ → Token → Result Formula
denote_formula ps W r t = elim (ltb r max_names) [ true ↦ formed ps (meaning_at W r) t | false ↦ misfit ]

-- a body stands before an entry, so that working it out ends
abbrev pub Before : ℕ → Meaning → Type 0
Before limit (Stands v) = Unit {0}
Before limit (Defines k c e) = k < limit
Before limit NoValue = Unit {0}

abbrev pub Earlier : World → ℕ → ℕ → Type 0
Earlier W limit r = r < max_names → Before limit (meaning_at W r)
