-- The note of a declared name while declarations are worked out: by what the name means, and no definition's value is kept, so that it holds whatever the table of
-- the other names comes to.
use Rattle.std.specs.Prelude.{ℕ, suc, ◌+◌, ◌≤◌, ◌<◌, List, ◌≡◌, length, get_or}
use Rattle.words.specs.Words.{word_at}
use Rattle.language.specs.Limits.{max_tokens, max_names, max_number, max_width}
use Rattle.language.specs.Tokens.{Token}
use Rattle.language.specs.Grammar.{Tokens}
use Rattle.language.specs.DeclaredNames.{Constant, Single, BusOf, Identifies, WaitingBus}
use Rattle.entries.specs.Kinds as Kind
use Rattle.entries.specs.Flat.{leaf, each}
use Rattle.entries.specs.Stored.{first_entry, kind_of, EntriesFrom}
use Rattle.name_values.specs.World.{Meaning, Stands, Defines, NoValue, World, meaning_at}
use Rattle.name_values.specs.Sorts as Sort

-- the words behind entry n, up to an entry of another kind
pub record WordsAt (ts : Tokens) (w : List ℕ) (n : ℕ) (words : List Token) : Type 0 where
  pub stored : EntriesFrom w ts (suc n) (each (leaf Kind.word) words)
  pub fits : suc n + length words ≤ max_tokens
  pub ends : kind_of (word_at w (first_entry + (suc n + length words))) ≡ Kind.word → ⊥

abbrev pub Note : Tokens → List ℕ → (sort n : ℕ) → Meaning → Type 0
Note ts w sort n (Stands (Constant v)) = (sort ≡ Sort.number) × ((n ≡ v) × (v ≤ max_number))
Note ts w sort n (Stands Single) = (sort ≡ Sort.signal) × (n ≡ 0)
Note ts w sort n (Stands (BusOf v)) = (sort ≡ Sort.bus) × ((n ≡ v) × ((0 < v) × (v ≤ max_width)))
Note ts w sort n (Stands (Identifies words)) = (sort ≡ Sort.identifier) × WordsAt ts w n words
Note ts w sort n (Stands WaitingBus) = (sort ≡ Sort.bus) × (n ≡ 0)
Note ts w sort n (Defines k c e) = (sort ≡ Sort.body) × (n ≡ k)
Note ts w sort n NoValue = sort ≡ Sort.nothing

-- of every name
pub record Notes (ts : Tokens) (w : List ℕ) (W : World) (sorts numbers : List ℕ) : Type 0 where
  pub noted : (r : ℕ) → r < max_names → Note ts w (get_or sorts r 0) (get_or numbers r 0) (meaning_at W r)
