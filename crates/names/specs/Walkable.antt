-- A text's entries in the work buffer, its name tokens numbered: what every walk over the entries asks for.
use Rattle.std.specs.Prelude.{ℕ, ◌≤◌, ◌<◌, List, [], ◌∷◌, Bool, true, ◌||◌, ◌≡◌, length, drop}
use Rattle.std.proofs.Math.Option.{none, some}
use Rattle.language.specs.Limits.{max_tokens}
use Rattle.language.specs.Tokens.{Token, Name, is_of, tokens}
use Rattle.language.proofs.Laws.Basics.Lists.{All}
use Rattle.entries.specs.Kinds as Kind
use Rattle.entries.specs.Flat.{Entry}
use Rattle.entries.specs.Stored.{EntriesFrom}
use Rattle.names.specs.Roles.{uses, binds, declares}
use Rattle.names.specs.Balanced.{Balanced}
use Rattle.spellings.specs.Interned.{token_at, IsName, Lexed, Interned}
use Rattle.names.specs.Tables.{Shows}

-- an entry that uses, brings or declares a name
abbrev pub names : ℕ → Bool
names k = uses k || binds k || declares Kind.parameter k

-- such an entry keeps a token of a name: the grammar takes no other there
pub record Naming (n : Entry) : Type 0 where
  pub token : Token
  pub kept : n.token ≡ some token
  pub name : is_of Name token ≡ true

abbrev pub NamesName : Entry → Type 0
NamesName n = names n.kind ≡ true → Naming n

pub record Walkable (w ids : List ℕ) (entries : ℕ) : Type 0 where
  pub text : List ℕ
  pub count : ℕ
  pub es : List Entry
  pub lexed : Lexed text w count
  pub total : length es ≡ entries
  pub few : entries ≤ max_tokens
  pub stored : EntriesFrom w (tokens text) 0 es
  pub named : All NamesName es
  pub balanced : Balanced 0 es
  pub interned : Interned (tokens text) count ids
  pub room : max_tokens ≤ length ids

-- entry k of a list
abbrev pub head_of : List Entry → Entry
head_of [] = record { kind = Kind.heading; token = none; size = 0 }
head_of (n ∷ es) = n

abbrev pub entry_of : List Entry → ℕ → Entry
entry_of es k = head_of (drop k es)

-- a name token, by its index
pub record NameAt (ts : List Token) (count j : ℕ) (t : Token) : Type 0 where
  pub inside : j < count
  pub name : IsName ts j
  pub token : t ≡ token_at ts j

-- a table over the numbers of the text's names
abbrev pub Table : {w ids : List ℕ} {entries : ℕ} → Walkable w ids entries → List ℕ → (Token → ℕ) → Type 0
Table {ids = ids} h table m = Shows (tokens h.text) h.count ids table m
