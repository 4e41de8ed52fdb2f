-- Refusal 10 from word to word: in an enumeration whose words stand in the text's order the first bad word is the place, and the words before it are at most 16.
use Rattle.std.specs.Prelude.{ℕ, suc, ◌≤◌, List, [], ◌∷◌, ◌++◌, map, Bool, true, false, ◌&&◌, ◌||◌, not, eqb, leb, ltb, length}
use Rattle.std.proofs.Math.Option.{Option, none, some}
use Rattle.language.specs.Limits.{max_words, max_marks}
use Rattle.language.specs.Tokens.{Token}
use Rattle.language.specs.Tree.{Identifier}
use Rattle.language.specs.Words.{meet}
use Rattle.language.specs.Lists.{All}

-- a word and the number of its identifier
pub record Word : Type 0 where
  pub owner : ℕ
  pub token : Token

abbrev pub owned : ℕ → List Token → List Word
owned o ws = map (λ w. record { owner = o; token = w }) ws

-- the words of an enumeration, its identifiers numbered from o on
abbrev pub words_from : ℕ → List Identifier → List Word
words_from o [] = []
words_from o (i ∷ is) = owned o i.words ++ words_from (suc o) is

-- 'one valuation under two identifiers'
abbrev pub meets : Word → Word → Bool
meets u v = not (eqb u.owner v.owner) && meet u.token.text v.token.text

abbrev pub any_meets : List Word → Word → Bool
any_meets [] v = false
any_meets (u ∷ us) v = meets u v || any_meets us v

-- a word of n marks, at most 8, and at most the 16th, that shares no valuation with an earlier word of another identifier
abbrev pub good : ℕ → List Word → Word → Bool
good n us v = (eqb (length v.token.text) n && leb n max_marks) && (ltb (length us) max_words && not (any_meets us v))

-- the first word that is not good, after the words us
abbrev pub scan : ℕ → List Word → List Word → Option ℕ
scan n us [] = none
scan n us (v ∷ vs) = elim (good n us v) [ true ↦ scan n (us ++ (v ∷ [])) vs | false ↦ some v.token.at ]

-- all words have as many marks as the first
abbrev pub scan_all : List Word → Option ℕ
scan_all [] = none
scan_all (v ∷ vs) = scan (length v.token.text) [] (v ∷ vs)

-- words in the text's order
abbrev pub Ascends : List Word → Type 0
Ascends [] = Unit {0}
Ascends (v ∷ vs) = All (λ (u : Word). v.token.at ≤ u.token.at) vs × Ascends vs
