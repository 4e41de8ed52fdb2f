-- A token as a word, and the tokens of a text as the words of a buffer.
use Rattle.std.specs.Prelude.{ℕ, suc, ◌<◌, ◌^◌, min, List, [], ◌∷◌, ◌≡◌, length, drop}
use Rattle.node.specs.BitFields.{join, above, below}
use Rattle.words.specs.Words.{word_at}
use Rattle.language.specs.Tokens.{Token}
use Rattle.language.specs.Grammar.{front}
use Rattle.lexer.specs.Numbers.{number}

-- 16 bits for the offset, 8 for the length
abbrev pub offset_bits : ℕ
offset_bits = 16

abbrev pub length_bits : ℕ
length_bits = 8

-- lengths are kept up to this one: names are shorter, and where a longer numeral, string or word of marks ends is found again in the text
abbrev pub longest : ℕ
longest = 255

-- what the code's constants stand for
abbrev pub fields : List ℕ
fields = 2 ^ offset_bits ∷ 2 ^ length_bits ∷ longest ∷ []

-- number, offset and length
abbrev pub word_of : ℕ → ℕ → ℕ → ℕ
word_of number offset size = join length_bits (join offset_bits number offset) (min longest size)

unfoldable pub token_word : Token → ℕ
token_word t = word_of (number t) t.at (length t.text)

-- what a token's word holds
abbrev pub number_in : ℕ → ℕ
number_in x = above offset_bits (above length_bits x)

abbrev pub offset_in : ℕ → ℕ
offset_in x = below offset_bits (above length_bits x)

abbrev pub length_in : ℕ → ℕ
length_in x = below length_bits x

-- word i is token i, for each token but the last, which is the text's end
pub record TokensStored (w : List ℕ) (ts : List Token) : Type 0 where
  pub words : (i : ℕ) → suc i < length ts → word_at w i ≡ token_word (front (drop i ts))
