-- The name of an entry, as it is read.
use Rattle.std.specs.Prelude.{ℕ, ◌+◌, ◌<◌, ◌^◌, List, ◌≡◌, get_or}
use Rattle.words.specs.Words.{word_at}
use Rattle.lexer.specs.Stored.{offset_in}
use Rattle.entries.specs.Stored.{first_entry, index_of}
use Rattle.spellings.specs.Interned.{top}
use Rattle.names.specs.Tables.{table_bits}

-- where it stands in the text, and the number of its spelling
pub record OwnName (w ids : List ℕ) (k at id : ℕ) : Type 0 where
  pub place : at ≡ offset_in (word_at w (index_of (word_at w (first_entry + k))))
  pub number : id ≡ get_or ids (index_of (word_at w (first_entry + k))) 0
  pub inside : id < top ids
  pub small : id < 2 ^ table_bits
