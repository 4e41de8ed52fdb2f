-- What the number that is noted of a declared name says of its meaning, for each sort of name.
use Rattle.std.specs.Prelude.{ℕ, suc, ◌+◌, ◌≤◌, ◌<◌, List, ◌≡◌, length}
use Rattle.node.specs.Result.{Done}
use Rattle.words.specs.Words.{word_at}
use Rattle.language.specs.Limits.{max_tokens, max_number, max_width}
use Rattle.language.specs.Tokens.{Token}
use Rattle.language.specs.Grammar.{Tokens}
use Rattle.language.specs.Tree.{Expr}
use Rattle.language.specs.Values.{Number}
use Rattle.language.specs.DeclaredNames.{BusOf, Identifies, WaitingBus}
use Rattle.language.specs.Expansion.{Context}
use Rattle.entries.specs.Kinds as Kind
use Rattle.entries.specs.Flat.{leaf, each}
use Rattle.entries.specs.Stored.{first_entry, kind_of, EntriesFrom}
use Rattle.name_values.specs.World.{Meaning, Stands, Defines, name_value}

-- of a name that means m
pub record IsNumber (m : Meaning) (n : ℕ) : Type 0 where
  pub stands : (t : Token) → name_value m t ≡ Done (Number n)
  pub small : n ≤ max_number

-- the body's own entry
pub record IsBody (m : Meaning) (n : ℕ) : Type 0 where
  pub context : Context
  pub expr : Expr
  pub defines : m ≡ Defines n context expr

-- the width, 0 before its turn
pub record IsBus (m : Meaning) (n : ℕ) : Type 0 where
  pub waiting : n ≡ 0 → m ≡ Stands WaitingBus
  pub sized : 0 < n → m ≡ Stands (BusOf n)
  pub small : n ≤ max_width

-- the identifier's entry; its words are the entries after it, up to one of another kind
pub record IsIdentifier (ts : Tokens) (w : List ℕ) (m : Meaning) (n : ℕ) : Type 0 where
  pub words : List Token
  pub identifies : m ≡ Stands (Identifies words)
  pub stored : EntriesFrom w ts (suc n) (each (leaf Kind.word) words)
  pub fits : suc n + length words ≤ max_tokens
  pub ends : kind_of (word_at w (first_entry + (suc n + length words))) ≡ Kind.word → ⊥
