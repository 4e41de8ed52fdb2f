-- Refusal 10: 'words unequal, too long or many, or one valuation under two identifiers', at 'the later word'.
use Rattle.std.specs.Prelude.{ℕ, List, [], ◌∷◌, ◌++◌, Bool, true, ◌||◌, ◌&&◌, eqb, leb, length, drop}
use Rattle.std.proofs.Math.Option.{Option, none, some}
use Rattle.language.specs.Limits.{max_words, max_marks}
use Rattle.language.specs.Bytes.{if◌then◌otherwise◌}
use Rattle.language.specs.Tokens.{Token}
use Rattle.language.specs.Tree.{Identifier, Definition, Defined, Enumerated, Spec}
use Rattle.language.specs.Places.{first, first_in, unless}
use Rattle.language.specs.Names.{place_of_first}

-- do two words match one valuation? A star (42) matches both
abbrev pub meet : List ℕ → List ℕ → Bool
meet [] v = true
meet (a ∷ u) [] = true
meet (a ∷ u) (b ∷ v) = (eqb a b || eqb a 42 || eqb b 42) && meet u v

-- all words of an enumeration in the text's order
abbrev pub words_in : List Identifier → List Token
words_in [] = []
words_in (i ∷ is) = i.words ++ words_in is

-- a word of n marks, at most 8
abbrev pub wrong_length : ℕ → Token → Option ℕ
wrong_length n w = unless (eqb (length w.text) n && leb n max_marks) w.at

abbrev pub wrong_lengths : List Token → Option ℕ
wrong_lengths [] = none
wrong_lengths (w ∷ ws) = first_in (wrong_length (length w.text)) (w ∷ ws)

-- words of an identifier against those of the later ones
abbrev pub clash : Token → Token → Option ℕ
clash u v = if meet u.text v.text then some v.at otherwise none

abbrev pub clashes : List Identifier → Option ℕ
clashes [] = none
clashes (i ∷ is) = first (first_in (λ u. first_in (clash u) (words_in is)) i.words) (clashes is)

abbrev pub bad_words : Definition → Option ℕ
bad_words (Defined x e) = none
bad_words (Enumerated x is) = first (wrong_lengths (words_in is)) (first (place_of_first (drop max_words (words_in is))) (clashes is))

-- refusal 10
abbrev pub wrong_words : Spec → Option ℕ
wrong_words x = first_in bad_words x.definitions
