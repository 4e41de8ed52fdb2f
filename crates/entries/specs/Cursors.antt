-- Where the parser stands, and what its cursor's methods answer, as functions of the buffer.
use Rattle.std.specs.Prelude.{ℕ, ◌+◌, ◌≤◌, ◌<◌, List, true, ◌≡◌, ltb, eqb, length, drop, Ok, Err}
use Rattle.node.specs.Returned.{refusal}
use Rattle.words.specs.Words.{word_at}
use Rattle.language.specs.Bytes.{if◌then◌otherwise◌}
use Rattle.language.specs.Limits.{max_bytes, max_tokens, work_bytes}
use Rattle.language.specs.Tokens.{End, is_of}
use Rattle.language.specs.Grammar.{Tokens, front}
use Rattle.lexer.specs.Stored.{TokensStored, number_in, offset_in}
use Rattle.entries.specs.Kinds as Kind
use Rattle.entries.specs.declared.Cursor.{Cursor}
use Rattle.entries.specs.Parse.{Parse}

-- the buffer has room, the numbers are within document 01's limits
pub record Fits (w : List ℕ) (c : Cursor) : Type 0 where
  pub room : work_bytes ≤ length w
  pub few : c.count ≤ max_tokens
  pub short : c.end ≤ max_bytes
  pub inside : c.at ≤ c.count

-- the tokens are those of the buffer, with the text's end behind them
pub record Tells (ts : Tokens) (w : List ℕ) (count end : ℕ) : Type 0 where
  pub total : length ts ≡ count + 1
  pub stored : TokensStored w ts
  pub places : (i : ℕ) → (front (drop i ts)).at ≤ end
  pub last : is_of End (front (drop count ts)) ≡ true
  pub last-place : (front (drop count ts)).at ≡ end

-- a function may read on from here; the text's first token, INFO, has no entry
pub record Ready (ts : Tokens) (w : List ℕ) (c : Cursor) : Type 0 where
  pub fits : Fits w c
  pub tells : Tells ts w c.count c.end
  pub less : c.out < c.at

-- for some tokens
pub record Readied (w : List ℕ) (c : Cursor) : Type 0 where
  pub tokens : Tokens
  pub ready : Ready tokens w c

-- the number of the next token, 0 at the text's end
abbrev pub number_at : List ℕ → Cursor → ℕ
number_at w c = if ltb c.at c.count then number_in (word_at w c.at) otherwise 0

-- its place
abbrev pub place_at : List ℕ → Cursor → ℕ
place_at w c = if ltb c.at c.count then offset_in (word_at w c.at) otherwise c.end

abbrev pub next_of : Cursor → Cursor
next_of c = record { at = c.at + 1; out = c.out; count = c.count; end = c.end }

abbrev pub emitted_of : Cursor → Cursor
emitted_of c = record { at = c.at; out = c.out + 1; count = c.count; end = c.end }

-- 'first token that no accepted grammar continues': refusal 4
abbrev pub refused_at : List ℕ → Cursor → Parse
refused_at w c = Err (refusal 4 (place_at w c))

-- past the next token if it has the number, else refused
abbrev pub expected : List ℕ → Cursor → ℕ → Parse
expected w c k = if eqb (number_at w c) k then Ok (next_of c) otherwise refused_at w c

-- what an entry asks for
pub record Writes (w : List ℕ) (c : Cursor) (kind index size : ℕ) : Type 0 where
  pub room : work_bytes ≤ length w
  pub few : c.out < max_tokens
  pub kind_fits : kind < Kind.limit
  pub index-fits : index < max_tokens
  pub size_fits : size < max_tokens
