-- The places of refusals 9 and 10 are at most the text's length n.
use Rattle.std.specs.Prelude.{ℕ, List, [], ◌∷◌, ◌&&◌, eqb, leb, length}
use Rattle.language.specs.Limits.{max_words, max_marks}
use Rattle.language.specs.Tokens.{Token}
use Rattle.language.specs.Operators.{Infix, Calculates, Combines, Compares, Equal, Unequal, Less, AtMost, Greater, AtLeast, Membership, Connects}
use Rattle.language.specs.Tree.{
  Expr,
  Named,
  Numeral,
  Truth,
  Index,
  Paren,
  Prefixed,
  Joined,
  Nexts,
  InWindow,
  Each,
  Between,
  Listed,
  Empty,
  Element,
  Range,
  Identifier,
  Definition,
  Defined,
  Enumerated,
  OneSignal,
  OfWidth,
  OfType,
  Spec,
}
use Rattle.language.specs.Places.{start, first_in, TextLine, ParameterLine, DefinitionLine, DeclarationLine, FormulaLine, all_lines}
use Rattle.language.specs.Types.{
  ExprType,
  ANumber,
  ASet,
  AFormula,
  ABus,
  AType,
  is_type,
  Typings,
  type_in,
  type_of,
  big_gives,
  prefix_takes,
  with_number,
  wrong,
  comparable,
  fitting,
  wrong_sides,
  wrong_both,
  wrong_operands,
  mistyped,
  demanded,
  definable,
  mistyped_line,
  typed_after,
  typed_signals,
  mistyped_lines,
  wrong_type,
}
use Rattle.language.specs.Words.{meet, words_in, wrong_length, wrong_lengths, clash, clashes, bad_words, wrong_words}
use Rattle.language.proofs.Laws.Basics.Lists.{All, all_append}
use Rattle.language.proofs.Laws.Basics.Tests.{split}
use Rattle.language.proofs.Laws.Grammar.TreeTokens.{InExpr, InIdentifier, InDefinition, InSpec}
use Rattle.language.proofs.Laws.Places.PlaceBounds.{Low, At, InEntry, nowhere-low, here-low, low_first, low-first_in, low-unless, low-start, in_all_lines}
use Rattle.language.proofs.Laws.Places.NamePlaces.{low-place_of_first}

module _ (n : ℕ) where
  abbrev OfText : Expr → Type 0
  OfText = InExpr (At n)

  low-wrong : (k : ExprType) (ys : Typings) (e : Expr) → OfText e → Low n (wrong k ys e)
  low-wrong k ys e h = low-unless n (is_type k (type_of ys e)) (start e) (low-start n e h)

  low-wrong_both : (k : ExprType) (ys : Typings) (a b : Expr) → OfText a → OfText b → Low n (wrong_both k ys a b)
  low-wrong_both k ys a b h g = low_first n (low-wrong k ys a h) (low-wrong k ys b g)

  low-wrong_sides : (ys : Typings) (a b : Expr) → OfText a → OfText b → Low n (wrong_sides ys a b)
  low-wrong_sides ys a b h g =
      split (Low n) (comparable (type_of ys a)) (λ _. low-unless n (fitting (type_of ys a) (type_of ys b)) (start b) (low-start n b g)) (λ _. here-low n (low-start n a h))

  low-wrong_operands : (ys : Typings) (o : Infix) (a b : Expr) → OfText a → OfText b → Low n (wrong_operands ys o a b)
  low-wrong_operands ys (Calculates o) a b h g = low-wrong_both ANumber ys a b h g
  low-wrong_operands ys (Combines o) a b h g = low-wrong_both ASet ys a b h g
  low-wrong_operands ys (Compares Equal) a b h g = low-wrong_sides ys a b h g
  low-wrong_operands ys (Compares Unequal) a b h g = low-wrong_sides ys a b h g
  low-wrong_operands ys (Compares Less) a b h g = low-wrong_both ANumber ys a b h g
  low-wrong_operands ys (Compares AtMost) a b h g = low-wrong_both ANumber ys a b h g
  low-wrong_operands ys (Compares Greater) a b h g = low-wrong_both ANumber ys a b h g
  low-wrong_operands ys (Compares AtLeast) a b h g = low-wrong_both ANumber ys a b h g
  low-wrong_operands ys Membership a b h g = low_first n (low-wrong ANumber ys a h) (low-wrong ASet ys b g)
  low-wrong_operands ys (Connects o) a b h g = low-wrong_both AFormula ys a b h g

  low-mistyped : (ys : Typings) (e : Expr) → OfText e → Low n (mistyped ys e)
  low-mistyped ys (Named t) h = nowhere-low n
  low-mistyped ys (Numeral t) h = nowhere-low n
  low-mistyped ys (Truth t b) h = nowhere-low n
  low-mistyped ys (Index t e) h = low_first n (low-unless n (is_type ABus (type_in ys t)) t.at h.0) (low_first n (low-wrong ANumber ys e h.1) (low-mistyped ys e h.1))
  low-mistyped ys (Paren t e) h = low-mistyped ys e h.1
  low-mistyped ys (Prefixed t o e) h = low_first n (low-wrong (prefix_takes o) ys e h.1) (low-mistyped ys e h.1)
  low-mistyped ys (Joined t o a b) h = low_first n (low-wrong_operands ys o a b h.1 h.2) (low_first n (low-mistyped ys a h.1) (low-mistyped ys b h.2))
  low-mistyped ys (Nexts t m e) h =
      low_first n (low_first n (low-wrong ANumber ys m h.1) (low-mistyped ys m h.1)) (low_first n (low-wrong AFormula ys e h.2) (low-mistyped ys e h.2))
  low-mistyped ys (InWindow t o l m e) h =
      low_first n (low_first n (low-wrong ANumber ys l h.1) (low-mistyped ys l h.1))
      (low_first n (low_first n (low-wrong ANumber ys m h.2) (low-mistyped ys m h.2)) (low_first n (low-wrong AFormula ys e h.3) (low-mistyped ys e h.3)))
  low-mistyped ys (Each t o further i s e) h =
      low_first n (low_first n (low-wrong ASet ys s h.2) (low-mistyped ys s h.2))
      (low_first n (low-wrong (big_gives o) (with_number i ys) e h.3) (low-mistyped (with_number i ys) e h.3))
  low-mistyped ys (Between t l u a b) h = low_first n (low-wrong_both ANumber ys a b h.1 h.2) (low_first n (low-mistyped ys a h.1) (low-mistyped ys b h.2))
  low-mistyped ys (Listed t es) h = low-mistyped ys es h.1
  low-mistyped ys Empty h = nowhere-low n
  low-mistyped ys (Element e es) h = low_first n (low_first n (low-wrong ANumber ys e h.0) (low-mistyped ys e h.0)) (low-mistyped ys es h.1)
  low-mistyped ys (Range t x y z) h =
      low_first n (low_first n (low-wrong ANumber ys x h.1) (low-mistyped ys x h.1))
      (low_first n (low_first n (low-wrong ANumber ys y h.2) (low-mistyped ys y h.2)) (low_first n (low-wrong ANumber ys z h.3) (low-mistyped ys z h.3)))

  low-demanded : (k : ExprType) (ys : Typings) (e : Expr) → OfText e → Low n (demanded k ys e)
  low-demanded k ys e h = low_first n (low-wrong k ys e h) (low-mistyped ys e h)

  low-mistyped_line : (ys : Typings) (l : TextLine) → InEntry (At n) l → Low n (mistyped_line ys l)
  low-mistyped_line ys (ParameterLine x e) h = low-demanded ANumber ys e h.1
  low-mistyped_line ys (DefinitionLine (Defined x e)) h = low_first n (low-unless n (definable (type_of ys e)) (start e) (low-start n e h.1)) (low-mistyped ys e h.1)
  low-mistyped_line ys (DefinitionLine (Enumerated x is)) h = nowhere-low n
  low-mistyped_line ys (DeclarationLine (OneSignal x)) h = nowhere-low n
  low-mistyped_line ys (DeclarationLine (OfWidth x e)) h = low-demanded ANumber ys e h.1
  low-mistyped_line ys (DeclarationLine (OfType u x)) h = low-unless n (is_type AType (type_in ys u)) u.at h.0
  low-mistyped_line ys (FormulaLine e) h = low-demanded AFormula ys e h

  low-mistyped_lines : (ys : Typings) (ls : List TextLine) → All (InEntry (At n)) ls → Low n (mistyped_lines ys ls)
  low-mistyped_lines ys [] h = nowhere-low n
  low-mistyped_lines ys (l ∷ ls) h = low_first n (low-mistyped_line ys l h.0) (low-mistyped_lines (typed_after ys l) ls h.1)

  pub low-wrong_type : (x : Spec) → InSpec (At n) x → Low n (wrong_type x)
  low-wrong_type x h = low-mistyped_lines (typed_signals (all_lines x)) (all_lines x) (in_all_lines (At n) x h)

  -- refusal 10
  words-low : (is : List Identifier) → All (InIdentifier (At n)) is → All (At n) (words_in is)
  words-low [] h = tt
  words-low (i ∷ is) h = all_append (At n) i.words (words_in is) h.0.1 (words-low is h.1)

  low-wrong_lengths : (ws : List Token) → All (At n) ws → Low n (wrong_lengths ws)
  low-wrong_lengths [] h = nowhere-low n
  low-wrong_lengths (w ∷ ws) h =
      let m = length w.text in
      low-first_in n (At n) (wrong_length m) (w ∷ ws) (λ v g. low-unless n (eqb (length v.text) m && leb m max_marks) v.at g) h

  low-clash : (u v : Token) → At n v → Low n (clash u v)
  low-clash u v h = split (Low n) (meet u.text v.text) (λ _. here-low n h) (λ _. nowhere-low n)

  low-clashes : (is : List Identifier) → All (InIdentifier (At n)) is → Low n (clashes is)
  low-clashes [] h = nowhere-low n
  low-clashes (i ∷ is) h =
      low_first n
      (low-first_in n (At n) (λ u. first_in (clash u) (words_in is)) i.words (λ u g. low-first_in n (At n) (clash u) (words_in is) (low-clash u) (words-low is h.1)) h.0.1)
      (low-clashes is h.1)

  low-bad_words : (d : Definition) → InDefinition (At n) d → Low n (bad_words d)
  low-bad_words (Defined x e) h = nowhere-low n
  low-bad_words (Enumerated x is) h =
      let ws = words-low is h.1 in
      low_first n (low-wrong_lengths (words_in is) ws) (low_first n (low-place_of_first n max_words (words_in is) ws) (low-clashes is h.1))

  pub low-wrong_words : (x : Spec) → InSpec (At n) x → Low n (wrong_words x)
  low-wrong_words x h = low-first_in n (InDefinition (At n)) bad_words x.definitions low-bad_words h.definitions
