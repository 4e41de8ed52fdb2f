-- Every name token has a number that tells its spelling: names are equal where their numbers are.
use Rattle.std.specs.Prelude.{ℕ, suc, ◌+◌, ◌≤◌, ◌<◌, max, List, [], ◌∷◌, true, ◌≡◌, eqb, length, get_or, drop}
use Rattle.language.specs.Bytes.{same}
use Rattle.language.specs.Limits.{max_tokens, work_bytes}
use Rattle.language.specs.Tokens.{Token, Name, is_of, tokens}
use Rattle.language.specs.Grammar.{front}
use Rattle.lexer.specs.Stored.{TokensStored}
use Rattle.lexer.specs.Lexing.{Lexical}
use Rattle.spellings.specs.Trie.{Trie}

-- token j of a text
abbrev pub token_at : List Token → ℕ → Token
token_at ts j = front (drop j ts)

abbrev pub IsName : List Token → ℕ → Type 0
IsName ts j = is_of Name (token_at ts j) ≡ true

-- a text that refusals 1 to 3 let pass, with its tokens in the work buffer
pub record Lexed (text w : List ℕ) (count : ℕ) : Type 0 where
  pub lexical : Lexical text (tokens text)
  pub stored : TokensStored w (tokens text)
  pub total : length (tokens text) ≡ count + 1
  pub room : work_bytes ≤ length w

-- above all numbers: how long a table over them is at least
unfoldable pub top : List ℕ → ℕ
top [] = 1
top (x ∷ xs) = max (suc x) (top xs)

-- the numbers of the first `count` tokens
pub record Interned (ts : List Token) (count : ℕ) (ids : List ℕ) : Type 0 where
  pub told : (j k : ℕ) → j < count → k < count → IsName ts j → IsName ts k → eqb (get_or ids j 0) (get_or ids k 0) ≡ same (token_at ts j).text (token_at ts k).text

-- while they are made: the numbers of the first j tokens are nodes of a tree of spellings, which has at most as many nodes as bytes were passed, and one
pub record Indexed (ts : List Token) (j : ℕ) (links byte : List ℕ) (n : ℕ) (ids : List ℕ) : Type 0 where
  pub trie : Trie links byte n
  pub few : n ≤ (token_at ts j).at + 1
  pub room : max_tokens ≤ length ids
  pub inside : (i : ℕ) → get_or ids i 0 < n
  pub spells : (i : ℕ) → i < j → IsName ts i → trie.str (get_or ids i 0) ≡ (token_at ts i).text

-- before the first token, in arrays with room for a node for each byte
pub record Begun (text links byte ids : List ℕ) : Type 0 where
  pub indexed : Indexed (tokens text) 0 links byte 1 ids
  pub room : length text < length byte
