-- Where an expression starts and how deep it is; the first of several places; a text's lines in its own order (refusal 5).
use Rattle.std.specs.Prelude.{ℕ, suc, min, max, List, [], ◌∷◌, Bool, true, false, leb}
use Rattle.std.proofs.Math.Option.{Option, none, some}
use Rattle.node.specs.Result.{Result, Refused}
use Rattle.language.specs.Limits.{max_levels}
use Rattle.language.specs.Bytes.{if◌then◌otherwise◌}
use Rattle.language.specs.Tokens.{Token}
use Rattle.language.specs.Tree.{
  Expr,
  Named,
  Numeral,
  Truth,
  Index,
  Paren,
  Prefixed,
  Joined,
  Nexts,
  InWindow,
  Each,
  Between,
  Listed,
  Empty,
  Element,
  Range,
  Definition,
  Defined,
  Enumerated,
  Parameter,
  Declaration,
  OneSignal,
  OfWidth,
  OfType,
  Subsection,
  Inputs,
  Outputs,
  Lines,
  Spec,
}

-- the offset of the first token
abbrev pub start : Expr → ℕ
start (Named t) = t.at
start (Numeral t) = t.at
start (Truth t b) = t.at
start (Index t e) = t.at
start (Paren t e) = t.at
start (Prefixed t o e) = t.at
start (Joined t o a b) = start a
start (Nexts t n e) = t.at
start (InWindow t o n m e) = t.at
start (Each t o further i s e) = t.at
start (Between t l h a b) = start a
start (Listed t es) = t.at
start Empty = 0
start (Element e es) = start e
start (Range t x y z) = t.at

-- 'a parenthesis or a leaf is a level'; a big operator is one, however many names it has
abbrev pub levels : Expr → ℕ
levels (Named t) = 1
levels (Numeral t) = 1
levels (Truth t b) = 1
levels (Index t e) = suc (levels e)
levels (Paren t e) = suc (levels e)
levels (Prefixed t o e) = suc (levels e)
levels (Joined t o a b) = suc (max (levels a) (levels b))
levels (Nexts t n e) = suc (max (levels n) (levels e))
levels (InWindow t o n m e) = suc (max (levels n) (max (levels m) (levels e)))
levels (Each t o false i s e) = suc (max (levels s) (levels e))
levels (Each t o true i s e) = max (levels s) (levels e)
levels (Between t l h a b) = max (levels a) (levels b)
levels (Listed t es) = suc (levels es)
levels Empty = 0
levels (Element e es) = max (levels e) (levels es)
levels (Range t x y z) = suc (max (levels x) (max (levels y) (levels z)))

-- 'first place first': the smaller of two places
abbrev pub first : Option ℕ → Option ℕ → Option ℕ
first none q = q
first (some p) none = some p
first (some p) (some q) = some (min p q)

abbrev pub first_in : {A : Type 0} → (A → Option ℕ) → List A → Option ℕ
first_in f [] = none
first_in f (x ∷ xs) = first (f x) (first_in f xs)

-- a place unless the test passes
abbrev pub unless : Bool → ℕ → Option ℕ
unless b p = if b then none otherwise some p

-- a refusal if there is a place for it
unfoldable pub refuse_at : {A : Type 0} → ℕ → Option ℕ → Result A → Result A
refuse_at number none r = r
refuse_at number (some p) r = Refused number p

-- a line of a text that is worked out or declares a name, in the text's order
pub data TextLine : Type 0 where
  ParameterLine : Token → Expr → TextLine
  DefinitionLine : Definition → TextLine
  DeclarationLine : Declaration → TextLine
  FormulaLine : Expr → TextLine

abbrev pub parameter_lines : List Parameter → List TextLine → List TextLine
parameter_lines [] rest = rest
parameter_lines (p ∷ ps) rest = ParameterLine p.name p.value ∷ parameter_lines ps rest

abbrev pub definition_lines : List Definition → List TextLine → List TextLine
definition_lines [] rest = rest
definition_lines (d ∷ ds) rest = DefinitionLine d ∷ definition_lines ds rest

abbrev pub declaration_lines : List Declaration → List TextLine → List TextLine
declaration_lines [] rest = rest
declaration_lines (d ∷ ds) rest = DeclarationLine d ∷ declaration_lines ds rest

abbrev pub formula_lines : List Expr → List TextLine → List TextLine
formula_lines [] rest = rest
formula_lines (e ∷ es) rest = FormulaLine e ∷ formula_lines es rest

abbrev pub main_lines : List Subsection → List TextLine
main_lines [] = []
main_lines (Inputs ds ∷ ss) = declaration_lines ds (main_lines ss)
main_lines (Outputs ds ∷ ss) = declaration_lines ds (main_lines ss)
main_lines (Lines p es ∷ ss) = formula_lines es (main_lines ss)

abbrev pub all_lines : Spec → List TextLine
all_lines x = parameter_lines x.parameters (definition_lines x.definitions (main_lines x.main))

-- refusal 5: 'tree too deep', at the 'outermost expression's first token'
abbrev pub deep : Expr → Option ℕ
deep e = unless (leb (levels e) max_levels) (start e)

abbrev pub deep_line : TextLine → Option ℕ
deep_line (ParameterLine x e) = deep e
deep_line (DefinitionLine (Defined x e)) = deep e
deep_line (DefinitionLine (Enumerated x is)) = none
deep_line (DeclarationLine (OneSignal x)) = none
deep_line (DeclarationLine (OfWidth x e)) = deep e
deep_line (DeclarationLine (OfType u x)) = none
deep_line (FormulaLine e) = deep e

abbrev pub too_deep : Spec → Option ℕ
too_deep x = first_in deep_line (all_lines x)
