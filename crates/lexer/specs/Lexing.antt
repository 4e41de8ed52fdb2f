-- Refusals 1 to 3: from a text's bytes to its tokens. Reading a text is this, then its grammar.
use Rattle.std.specs.Prelude.{ℕ, suc, ◌≤◌, List, ◌≡◌, leb, length}
use Rattle.std.proofs.Math.Option.{none}
use Rattle.node.specs.Result.{Result, Done, guard}
use Rattle.language.specs.Limits.{max_bytes, max_tokens}
use Rattle.language.specs.Tokens.{Token, tokens}
use Rattle.language.specs.Places.{refuse_at}
use Rattle.language.specs.Parsing.{no_token, too_many_tokens}

-- 'Reader order: .. 1 to 10 each over the whole text': the first three
unfoldable pub lexing : List ℕ → Result (List Token)
lexing text =
    guard (leb (length text) max_bytes) 1 max_bytes
    (refuse_at 2 (no_token (tokens text)) (refuse_at 3 (too_many_tokens (tokens text)) (Done (tokens text))))

-- the tokens of a text that is not refused
pub record Lexical (text : List ℕ) (ts : List Token) : Type 0 where
  pub whole : ts ≡ tokens text
  pub short : length text ≤ max_bytes
  pub right : no_token (tokens text) ≡ none
  pub few : length (tokens text) ≤ suc max_tokens
