-- Which number the code knows a sign, a word or a class of tokens by.
use Rattle.std.specs.Prelude.{ℕ, true, ◌≡◌}
use Prim.Native.String.{String}
use Rattle.language.specs.Bytes.{ascii, is_one_of}
use Rattle.language.specs.Tokens.{Class}
use Rattle.lexer.specs.Numbers.{spellings, fixed, class_number}
use Rattle.lexer.specs.NumberLaws.{is_plain}

pub record Spells (s : String) (number : ℕ) : Type 0 where
  pub known : is_one_of spellings (ascii s) ≡ true
  pub same : fixed s ≡ number

pub record Numbers (k : Class) (number : ℕ) : Type 0 where
  pub plain : is_plain k ≡ true
  pub same : class_number k ≡ number

-- a number that some sign or word has
pub record Spelt (number : ℕ) : Type 0 where
  pub spelling : String
  pub spells : Spells spelling number
