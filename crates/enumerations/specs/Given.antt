-- What refusal 10's stage is given: tokens whose words spell them, and enumerations whose words stand in the text's order.
use Rattle.std.specs.Prelude.{ℕ, min, List, true, ◌≡◌, length}
use Rattle.language.specs.Tokens.{Marks, Token, is_of}
use Rattle.language.specs.Tree.{Identifier, Definition, Defined, Enumerated}
use Rattle.language.specs.Lists.{All}
use Rattle.lexer.specs.Stored.{longest, offset_in, length_in}
use Rattle.enumerations.specs.Scan.{Word, words_from, Ascends}
use Rattle.enumerations.specs.Pass.{bytes_at}

-- the word x of a token t of the text, its length kept up to 255
pub record Spelled (text : List ℕ) (x : ℕ) (t : Token) : Type 0 where
  pub place : offset_in x ≡ t.at
  pub size : length_in x ≡ min longest (length t.text)
  pub bytes : bytes_at text t.at (length t.text) ≡ t.text

-- the words of enumerations' tokens spell them
abbrev pub Spells : List ℕ → ℕ → Token → Type 0
Spells text x t = is_of Marks t ≡ true → Spelled text x t

-- an enumeration's words are words, in the text's order
pub record WordsOf (is : List Identifier) : Type 0 where
  pub marks : All (λ (v : Word). is_of Marks v.token ≡ true) (words_from 1 is)
  pub ascend : Ascends (words_from 1 is)

abbrev pub GoodDefinition : Definition → Type 0
GoodDefinition (Defined x e) = Unit {0}
GoodDefinition (Enumerated x is) = WordsOf is
