-- Entries as words of the work buffer, behind the tokens' words: an entry's kind, the index of its token, its size.
use Rattle.std.specs.Prelude.{ℕ, suc, ◌+◌, ◌/◌, ◌<◌, ◌^◌, List, [], ◌∷◌, ◌≡◌, length, drop}
use Rattle.std.proofs.Math.Option.{Option, none, some}
use Rattle.node.specs.BitFields.{join, above, below}
use Rattle.words.specs.Words.{word_at, put_word}
use Rattle.language.specs.Limits.{max_tokens, work_bytes}
use Rattle.language.specs.Tokens.{Token}
use Rattle.language.specs.Tree.{Expr}
use Rattle.language.specs.Grammar.{Tokens, front}
use Rattle.entries.specs.Flat.{Entry, flat}

-- the words of the work buffer, of four bytes each
abbrev pub work_words : ℕ
work_words = work_bytes / 4

-- the word of entry 0
abbrev pub first_entry : ℕ
first_entry = max_tokens

-- the bits of a token's index and of a size: 'text .. 8,192 tokens', the first of which has no entry
abbrev pub field_bits : ℕ
field_bits = 13

-- what the code's constants stand for
abbrev pub fields : List ℕ
fields = 2 ^ field_bits ∷ 2 ^ field_bits ∷ first_entry ∷ []

abbrev pub entry_word : ℕ → ℕ → ℕ → ℕ
entry_word kind index size = join field_bits (join field_bits kind index) size

-- what an entry's word holds
abbrev pub kind_of : ℕ → ℕ
kind_of x = above field_bits (above field_bits x)

abbrev pub index_of : ℕ → ℕ
index_of x = below field_bits (above field_bits x)

abbrev pub size_of : ℕ → ℕ
size_of x = below field_bits x

-- the buffer with one more entry, after `out` of them
abbrev pub put_entry : List ℕ → ℕ → ℕ → ℕ → ℕ → List ℕ
put_entry w out kind index size = put_word w (first_entry + out) (entry_word kind index size)

-- an entry that keeps a token has that token's index, and the token is not the text's end
abbrev pub Keeps : Tokens → ℕ → Option Token → Type 0
Keeps ts j none = Unit {0}
Keeps ts j (some t) = (front (drop j ts) ≡ t) × (suc j < length ts)

-- entry i of the buffer is e
pub record EntryAt (w : List ℕ) (ts : Tokens) (i : ℕ) (e : Entry) : Type 0 where
  pub index : ℕ
  pub word : word_at w (first_entry + i) ≡ entry_word e.kind index e.size
  pub keeps : Keeps ts index e.token
  pub index-fits : index < 2 ^ field_bits
  pub size_fits : e.size < 2 ^ field_bits

-- the entries from i on are es
abbrev pub EntriesFrom : List ℕ → Tokens → ℕ → List Entry → Type 0
EntriesFrom w ts i [] = Unit {0}
EntriesFrom w ts i (e ∷ es) = EntryAt w ts i e × EntriesFrom w ts (suc i) es

-- the entries es end with entry k
pub record EndsAt (w : List ℕ) (ts : Tokens) (k : ℕ) (es : List Entry) : Type 0 where
  pub start : ℕ
  pub size : start + length es ≡ suc k
  pub entries : EntriesFrom w ts start es

-- the expression's own entry is entry k
abbrev pub At : List ℕ → Tokens → ℕ → Expr → Type 0
At w ts k e = EndsAt w ts k (flat e)
