-- Refusals 6, 7 and 8: a name not visible, a visible name declared again, too many names.
use Rattle.std.specs.Prelude.{ℕ, max, List, [], ◌∷◌, ◌++◌, Bool, true, false, ◌||◌, drop}
use Rattle.std.proofs.Math.Option.{Option, none, some}
use Rattle.language.specs.Limits.{max_names}
use Rattle.language.specs.Bytes.{same}
use Rattle.language.specs.Tokens.{Token}
use Rattle.language.specs.Tree.{
  Expr,
  Named,
  Numeral,
  Truth,
  Index,
  Paren,
  Prefixed,
  Joined,
  Nexts,
  InWindow,
  Each,
  Between,
  Listed,
  Empty,
  Element,
  Range,
  Identifier,
  Defined,
  Enumerated,
  OneSignal,
  OfWidth,
  OfType,
  Spec,
}
use Rattle.language.specs.Places.{first, first_in, unless, TextLine, ParameterLine, DefinitionLine, DeclarationLine, FormulaLine, all_lines}

abbrev pub Names : Type 0
Names = List Token

abbrev pub visible : Names → Token → Bool
visible [] t = false
visible (n ∷ ns) t = same n.text t.text || visible ns t

-- the place of a name that is not visible
abbrev pub hidden : Names → Token → Option ℕ
hidden ns t = unless (visible ns t) t.at

-- 'visible name declared again': 'the later name in the text'
abbrev pub again : Names → Token → Option ℕ
again ns t = first_in (λ n. elim (same n.text t.text) [ true ↦ some (max n.at t.at) | false ↦ none ]) ns

-- The first place in an expression: `used` at each name that it uses, `bound` at each that a big operator brings, under the names visible there. 'a big
-- operator's name in the rest of its operator', so not in its own set
abbrev pub walk : (Names → Token → Option ℕ) → (Names → Token → Option ℕ) → Names → Expr → Option ℕ
walk used bound ns (Named t) = used ns t
walk used bound ns (Numeral t) = none
walk used bound ns (Truth t b) = none
walk used bound ns (Index t e) = first (used ns t) (walk used bound ns e)
walk used bound ns (Paren t e) = walk used bound ns e
walk used bound ns (Prefixed t o e) = walk used bound ns e
walk used bound ns (Joined t o a b) = first (walk used bound ns a) (walk used bound ns b)
walk used bound ns (Nexts t n e) = first (walk used bound ns n) (walk used bound ns e)
walk used bound ns (InWindow t o n m e) = first (walk used bound ns n) (first (walk used bound ns m) (walk used bound ns e))
walk used bound ns (Each t o further i s e) = first (bound ns i) (first (walk used bound ns s) (walk used bound (i ∷ ns) e))
walk used bound ns (Between t l h a b) = first (walk used bound ns a) (walk used bound ns b)
walk used bound ns (Listed t es) = walk used bound ns es
walk used bound ns Empty = none
walk used bound ns (Element e es) = first (walk used bound ns e) (walk used bound ns es)
walk used bound ns (Range t x y z) = first (walk used bound ns x) (first (walk used bound ns y) (walk used bound ns z))

abbrev pub identifier_names : List Identifier → Names
identifier_names [] = []
identifier_names (i ∷ is) = i.name ∷ identifier_names is

-- the names that a line declares, in the text's order
abbrev pub declares : TextLine → Names
declares (ParameterLine x e) = x ∷ []
declares (DefinitionLine (Defined x e)) = x ∷ []
declares (DefinitionLine (Enumerated x is)) = x ∷ identifier_names is
declares (DeclarationLine (OneSignal x)) = x ∷ []
declares (DeclarationLine (OfWidth x e)) = x ∷ []
declares (DeclarationLine (OfType u x)) = x ∷ []
declares (FormulaLine e) = []

-- of these the ones of signals and buses, visible everywhere
abbrev pub declares_signal : TextLine → Names
declares_signal (ParameterLine x e) = []
declares_signal (DefinitionLine d) = []
declares_signal (DeclarationLine d) = declares (DeclarationLine d)
declares_signal (FormulaLine e) = []

abbrev pub over : (TextLine → Names) → List TextLine → Names
over f [] = []
over f (l ∷ ls) = f l ++ over f ls

abbrev pub walk_line : (Names → Token → Option ℕ) → (Names → Token → Option ℕ) → Names → TextLine → Option ℕ
walk_line used bound ns (ParameterLine x e) = walk used bound ns e
walk_line used bound ns (DefinitionLine (Defined x e)) = walk used bound ns e
walk_line used bound ns (DefinitionLine (Enumerated x is)) = none
walk_line used bound ns (DeclarationLine (OneSignal x)) = none
walk_line used bound ns (DeclarationLine (OfWidth x e)) = walk used bound ns e
walk_line used bound ns (DeclarationLine (OfType u x)) = used ns u
walk_line used bound ns (FormulaLine e) = walk used bound ns e

-- 'A parameter, enumeration or definition is visible after its line, signals and buses everywhere'
abbrev pub walk_lines : (Names → Token → Option ℕ) → (Names → Token → Option ℕ) → Names → List TextLine → Option ℕ
walk_lines used bound ns [] = none
walk_lines used bound ns (l ∷ ls) = first (walk_line used bound ns l) (walk_lines used bound (declares l ++ ns) ls)

abbrev pub nowhere : Names → Token → Option ℕ
nowhere ns t = none

-- refusal 6
abbrev pub not_visible : Spec → Option ℕ
not_visible x = walk_lines hidden nowhere (over declares_signal (all_lines x)) (all_lines x)

-- names declared again among themselves
abbrev pub doubled : Names → Option ℕ
doubled [] = none
doubled (n ∷ ns) = first (again ns n) (doubled ns)

-- refusal 7: two declared names, or a big operator's name and one visible there
abbrev pub declared_again : Spec → Option ℕ
declared_again x =
    first (doubled (over declares (all_lines x))) (walk_lines nowhere again (over declares_signal (all_lines x)) (all_lines x))

abbrev pub place_of_first : List Token → Option ℕ
place_of_first [] = none
place_of_first (t ∷ ts) = some t.at

-- refusal 8: 'the 257th'
abbrev pub too_many : Spec → Option ℕ
too_many x = place_of_first (drop max_names (over declares (all_lines x)))
