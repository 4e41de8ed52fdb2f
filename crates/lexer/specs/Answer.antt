-- What the lexer promises: its answer is the definition's, and the tokens stand in the lower half of the work buffer.
use Rattle.std.specs.Prelude.{ℕ, suc, ◌*◌, List, ◌≡◌, Ok, Err, length}
use Rattle.node.specs.Result.{Done, Refused}
use Rattle.node.specs.Returned.{Returned}
use Rattle.words.specs.Words.{past}
use Rattle.language.specs.Limits.{max_tokens}
use Rattle.language.specs.Tokens.{tokens}
use Rattle.lexer.specs.Stored.{TokensStored}
use Rattle.lexer.specs.Lexing.{lexing}

-- n tokens, the text's end not counted, and their words
pub record Tokenized (text v : List ℕ) (n : ℕ) : Type 0 where
  pub read : lexing text ≡ Done (tokens text)
  pub count : suc n ≡ length (tokens text)
  pub stored : TokensStored v (tokens text)

abbrev pub Answers : List ℕ → List ℕ → Returned ℕ → Type 0
Answers text v (Ok n) = Tokenized text v n
Answers text v (Err r) = lexing text ≡ Refused r.number r.place

-- the bytes of the tokens' words, one word for each of the most tokens that a text may have
abbrev pub token_bytes : ℕ
token_bytes = 4 * max_tokens

-- from the buffer w to the buffer v
pub record Lexes (text w v : List ℕ) (r : Returned ℕ) : Type 0 where
  pub answer : Answers text v r
  pub kept : past token_bytes v ≡ past token_bytes w
  pub size : length v ≡ length w
