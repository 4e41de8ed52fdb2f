-- What refusal 10 leaves: the words of an enumeration are as wide as the first, at most 8 marks each, and at most 16.
use Rattle.std.specs.Prelude.{◌≤◌, List, ◌≡◌, length}
use Rattle.language.specs.Limits.{max_words, max_marks}
use Rattle.language.specs.Tokens.{Token}
use Rattle.language.specs.Tree.{Definition, Defined, Enumerated}
use Rattle.language.specs.Words.{words_in}
use Rattle.language.specs.DeclaredNames.{word_width, Port}
use Rattle.language.specs.Lists.{All}

pub record Regular (words : List Token) : Type 0 where
  pub equal : All (λ v. length v.text ≡ word_width words) words
  pub narrow : word_width words ≤ max_marks
  pub few : length words ≤ max_words

abbrev pub RegularDefinition : Definition → Type 0
RegularDefinition (Defined x e) = Unit {0}
RegularDefinition (Enumerated x is) = Regular (words_in is)

-- a port's words are as wide as it is
abbrev pub PortRegular : Port → Type 0
PortRegular p = All (λ v. length v.text ≡ p.width) p.words
