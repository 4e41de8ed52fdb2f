-- What a declared name means in a text's world, by the entry that declares it: a definition's body stands before its entry; any other name is as the table says.
use Rattle.std.specs.Prelude.{ℕ, suc, ◌+◌, ◌-◌, ◌≤◌, ◌<◌, true, List, ◌≡◌, length}
use Rattle.node.specs.Result.{Done}
use Rattle.words.specs.Words.{word_at}
use Rattle.language.specs.Limits.{max_tokens}
use Rattle.language.specs.Tokens.{Token, tokens}
use Rattle.language.specs.Tree.{Identifier, Spec}
use Rattle.language.specs.Grammar.{Tokens}
use Rattle.language.specs.Words.{words_in}
use Rattle.language.specs.DeclaredNames.{Identifies, Table, find, identifiers, Port}
use Rattle.entries.specs.Kinds as Kind
use Rattle.entries.specs.Flat.{Entry, leaf, each, flat_identifier, outline}
use Rattle.entries.specs.Stored.{first_entry, kind_of, EntriesFrom}
use Rattle.names.specs.Roles.{declares}
use Rattle.names.specs.Scan.{token_of}
use Rattle.names.specs.Walkable.{entry_of}
use Rattle.name_values.specs.World.{Meaning, name_at, meaning_at}
use Rattle.name_values.specs.Worlds.{in_table}
use Rattle.name_values.specs.Worked.{world_in}
use Rattle.name_values.specs.Facts.{IsBody}

-- m by entry k, which is n
pub record MeansBy (d : Table) (k : ℕ) (n : Entry) (m : Meaning) : Type 0 where
  pub body : n.kind ≡ Kind.definition → IsBody m (k - 1)
  pub other : (n.kind ≡ Kind.definition → ⊥) → m ≡ in_table (find d (token_of n).text)

-- the name r is declared by entry k
pub record DeclaredBy (x : Spec) (ps : List Port) (d : Table) (r k : ℕ) : Type 0 where
  pub inside : k < length (outline x)
  pub declaring : declares Kind.parameter (entry_of (outline x) k).kind ≡ true
  pub spelt : name_at (world_in x ps d) r ≡ (token_of (entry_of (outline x) k)).text
  pub means : MeansBy d k (entry_of (outline x) k) (meaning_at (world_in x ps d) r)

-- the identifiers and words after an enumeration's own entry k, up to an entry of another kind
pub record EnumerationAt (ts : Tokens) (w : List ℕ) (k : ℕ) (words : List Token) : Type 0 where
  pub identifiers : List Identifier
  pub all : words_in identifiers ≡ words
  pub stored : EntriesFrom w ts (suc k) (each flat_identifier identifiers)
  pub few : suc k + length (each flat_identifier identifiers) ≤ max_tokens
  pub no_identifier : kind_of (word_at w (first_entry + (suc k + length (each flat_identifier identifiers)))) ≡ Kind.identifier → ⊥
  pub no_word : kind_of (word_at w (first_entry + (suc k + length (each flat_identifier identifiers)))) ≡ Kind.word → ⊥

-- entry k declares the identifier n: its words in the text's enumerations, and in the buffer, up to an entry of another kind
pub record IdentifierAt (x : Spec) (text w : List ℕ) (k : ℕ) (n : Token) : Type 0 where
  pub words : List Token
  pub listed : find (identifiers x.definitions) n.text ≡ Done (Identifies words)
  pub stored : EntriesFrom w (tokens text) (suc k) (each (leaf Kind.word) words)
  pub fits : suc k + length words ≤ max_tokens
  pub ends : kind_of (word_at w (first_entry + (suc k + length words))) ≡ Kind.word → ⊥
