-- The declared names of a text's entries are those of its lines, all of them or the signals and buses alone.
use Rattle.std.specs.Prelude.{ℕ, ◌+◌, ◌≤◌, Bool, true, false, ◌≡◌}
use mathlib.Core.List.{List, [], ◌∷◌, ◌++◌, append_assoc}
use Rattle.std.proofs.Math.Option.{Option, none, some}
use Rattle.std.proofs.Math.Path.{refl}
use Rattle.std.proofs.Common.{ap, ◌∙◌, arith}
use Rattle.language.specs.Tokens.{Token}
use Rattle.language.specs.Tree.{Expr, Identifier, Definition, Defined, Enumerated, Parameter, Declaration, OneSignal, OfWidth, OfType, part_code, Subsection, Inputs, Outputs, Lines, Spec}
use Rattle.language.specs.Places.{TextLine as Line, ParameterLine, DefinitionLine, DeclarationLine, FormulaLine, parameter_lines, definition_lines, declaration_lines, formula_lines, main_lines, all_lines}
use Rattle.language.specs.Names.{Names, identifier_names, declares as declaresLine, declares_signal, over}
use Rattle.language.proofs.Laws.Basics.Lists.{All}
use Rattle.language.proofs.Laws.Basics.Tests.{leave}
use Rattle.entries.specs.Kinds as Kind
use Rattle.entries.specs.Flat.{Entry, leaf, flat, each, flat_parameter, flat_identifier, flat_definition, flat_declaration, flat_line, flat_subsection, outline}
use Rattle.names.specs.Roles.{declares}
use Rattle.names.specs.Declaring.{declared_in, fewer, Inner, inner-flat}

-- are signals and buses alone meant? The first kind of what declares them
abbrev pub lowest : Bool → ℕ
lowest false = Kind.parameter
lowest true = Kind.signal

-- what a line declares
abbrev pub names_of : Bool → Line → Names
names_of false l = declaresLine l
names_of true l = declares_signal l

low_enough : (b : Bool) → Kind.parameter ≤ lowest b
low_enough false = omega arith
low_enough true = omega arith

module _ (b : Bool) where
  abbrev found : List Entry → Names
  found es = declared_in (lowest b) es

  -- entries of an expression declare nothing
  skipped : (ops es : List Entry) → All Inner ops → found (ops ++ es) ≡ found es
  unfolding declared_in
  skipped [] es h = refl
  skipped (n ∷ ops) es h = leave (declares (lowest b) n.kind) _ _ (fewer (lowest b) n.kind (low_enough b) h.0) ∙ skipped ops es h.1

  -- the entry of a line behind its expression
  behind : (e : Expr) (n : Entry) (es more : List Entry) → found (((flat e ++ (n ∷ [])) ++ es) ++ more) ≡ found (n ∷ (es ++ more))
  behind e n es more =
      ap found (append_assoc (flat e ++ (n ∷ [])) es more ∙ append_assoc (flat e) (n ∷ []) (es ++ more)) ∙ skipped (flat e) (n ∷ (es ++ more)) (inner-flat e)

  -- the names of these entries are those of these lines
  abbrev Lists : List Entry → List Line → Type 0
  Lists es ls = found es ≡ over (names_of b) ls

-- what the entry of each line declares
parameter-names : (b : Bool) (x : Token) (e : Expr) (size : ℕ) (es : List Entry)
    → found b (record { kind = Kind.parameter; token = some x; size = size } ∷ es) ≡ names_of b (ParameterLine x e) ++ found b es
unfolding declared_in
parameter-names false x e size es = refl
parameter-names true x e size es = refl

definition-names : (b : Bool) (x : Token) (e : Expr) (size : ℕ) (es : List Entry)
    → found b (record { kind = Kind.definition; token = some x; size = size } ∷ es) ≡ names_of b (DefinitionLine (Defined x e)) ++ found b es
unfolding declared_in
definition-names false x e size es = refl
definition-names true x e size es = refl

signal-names : (b : Bool) (x : Token) (es : List Entry) → found b (leaf Kind.signal x ++ es) ≡ x ∷ found b es
unfolding declared_in
signal-names false x es = refl
signal-names true x es = refl

bus-names : (b : Bool) (x : Token) (size : ℕ) (es : List Entry) → found b (record { kind = Kind.bus; token = some x; size = size } ∷ es) ≡ x ∷ found b es
unfolding declared_in
bus-names false x size es = refl
bus-names true x size es = refl

typed-names : (b : Bool) (u x : Token) (es : List Entry) → found b (flat_declaration (OfType u x) ++ es) ≡ x ∷ found b es
unfolding declared_in
typed-names false u x es = refl
typed-names true u x es = refl

signal-line : (b : Bool) (d : Declaration) → names_of b (DeclarationLine d) ≡ declaresLine (DeclarationLine d)
signal-line false d = refl
signal-line true d = refl

quiet_names : (b : Bool) (t : Option Token) (size : ℕ) (es : List Entry) → found b (record { kind = Kind.line; token = t; size = size } ∷ es) ≡ found b es
unfolding declared_in
quiet_names false t size es = refl
quiet_names true t size es = refl

heading-names : (b : Bool) (size : ℕ) (es : List Entry) → found b (record { kind = Kind.heading; token = none; size = size } ∷ es) ≡ found b es
unfolding declared_in
heading-names false size es = refl
heading-names true size es = refl

words-names : (b : Bool) (ws : List Token) (es : List Entry) → found b (each (leaf Kind.word) ws ++ es) ≡ found b es
unfolding declared_in
words-names b [] es = refl
words-names false (w ∷ ws) es = words-names false ws es
words-names true (w ∷ ws) es = words-names true ws es

identifier_names_lem : (is : List Identifier) (es : List Entry) → found false (each flat_identifier is ++ es) ≡ identifier_names is ++ found false es
unfolding declared_in
identifier_names_lem [] es = refl
identifier_names_lem (i ∷ is) es =
    ap (found false) (append_assoc (flat_identifier i) (each flat_identifier is) es)
    ∙ ap (i.name ∷◌) (words-names false i.words (each flat_identifier is ++ es) ∙ identifier_names_lem is es)

identifier-signals : (is : List Identifier) (es : List Entry) → found true (each flat_identifier is ++ es) ≡ found true es
unfolding declared_in
identifier-signals [] es = refl
identifier-signals (i ∷ is) es =
    ap (found true) (append_assoc (flat_identifier i) (each flat_identifier is) es)
    ∙ words-names true i.words (each flat_identifier is ++ es) ∙ identifier-signals is es

enumeration-names : (b : Bool) (x : Token) (is : List Identifier) (es : List Entry) → found b (flat_definition (Enumerated x is) ++ es) ≡ names_of b (DefinitionLine (Enumerated x is)) ++ found b es
unfolding declared_in
enumeration-names false x is es = ap (x ∷◌) (identifier_names_lem is es)
enumeration-names true x is es = identifier-signals is es

-- the lines, one group after the other
module _ (b : Bool) where
  names_parameters : (ps : List Parameter) (es : List Entry) (ls : List Line) → Lists b es ls → Lists b (each flat_parameter ps ++ es) (parameter_lines ps ls)
  names_parameters [] es ls h = h
  names_parameters (p ∷ ps) es ls h =
      behind b p.value _ (each flat_parameter ps) es
      ∙ parameter-names b p.name p.value _ (each flat_parameter ps ++ es)
      ∙ ap (names_of b (ParameterLine p.name p.value) ++◌) (names_parameters ps es ls h)

  names_definitions : (ds : List Definition) (es : List Entry) (ls : List Line) → Lists b es ls → Lists b (each flat_definition ds ++ es) (definition_lines ds ls)
  names_definitions [] es ls h = h
  names_definitions (Defined x e ∷ ds) es ls h =
      behind b e _ (each flat_definition ds) es
      ∙ definition-names b x e _ (each flat_definition ds ++ es)
      ∙ ap (names_of b (DefinitionLine (Defined x e)) ++◌) (names_definitions ds es ls h)
  names_definitions (Enumerated x is ∷ ds) es ls h =
      ap (found b) (append_assoc (flat_definition (Enumerated x is)) (each flat_definition ds) es)
      ∙ enumeration-names b x is (each flat_definition ds ++ es)
      ∙ ap (names_of b (DefinitionLine (Enumerated x is)) ++◌) (names_definitions ds es ls h)

  names-declarations : (ds : List Declaration) (es : List Entry) (ls : List Line) → Lists b es ls → Lists b (each flat_declaration ds ++ es) (declaration_lines ds ls)
  names-declarations [] es ls h = h
  names-declarations (OneSignal x ∷ ds) es ls h =
      signal-names b x (each flat_declaration ds ++ es)
      ∙ rw (signal-line b (OneSignal x)) (ap (x ∷◌) (names-declarations ds es ls h))
  names-declarations (OfWidth x e ∷ ds) es ls h =
      behind b e _ (each flat_declaration ds) es
      ∙ bus-names b x _ (each flat_declaration ds ++ es)
      ∙ rw (signal-line b (OfWidth x e)) (ap (x ∷◌) (names-declarations ds es ls h))
  names-declarations (OfType u x ∷ ds) es ls h =
      ap (found b) (append_assoc (flat_declaration (OfType u x)) (each flat_declaration ds) es)
      ∙ typed-names b u x (each flat_declaration ds ++ es)
      ∙ rw (signal-line b (OfType u x)) (ap (x ∷◌) (names-declarations ds es ls h))

  line-nothing : (e : Expr) → names_of b (FormulaLine e) ≡ []
  line-nothing e = nothing b
    where
      nothing : (b : Bool) → names_of b (FormulaLine e) ≡ []
      nothing false = refl
      nothing true = refl

  names-lines : (fs : List Expr) (es : List Entry) (ls : List Line) → Lists b es ls → Lists b (each flat_line fs ++ es) (formula_lines fs ls)
  names-lines [] es ls h = h
  names-lines (e ∷ fs) es ls h =
      behind b e _ (each flat_line fs) es
      ∙ quiet_names b none _ (each flat_line fs ++ es)
      ∙ rw (line-nothing e) (names-lines fs es ls h)

  none_names : found b [] ≡ []
  unfolding declared_in
  none_names = refl

  names-main : (ss : List Subsection) → Lists b (each flat_subsection ss) (main_lines ss)
  names-main [] = none_names
  names-main (Inputs ds ∷ ss) = heading-names b 0 (each flat_declaration ds ++ each flat_subsection ss) ∙ names-declarations ds (each flat_subsection ss) (main_lines ss) (names-main ss)
  names-main (Outputs ds ∷ ss) = heading-names b 1 (each flat_declaration ds ++ each flat_subsection ss) ∙ names-declarations ds (each flat_subsection ss) (main_lines ss) (names-main ss)
  names-main (Lines p es ∷ ss) = heading-names b (2 + part_code p) (each flat_line es ++ each flat_subsection ss) ∙ names-lines es (each flat_subsection ss) (main_lines ss) (names-main ss)

  pub declared-outline : (x : Spec) → declared_in (lowest b) (outline x) ≡ over (names_of b) (all_lines x)
  declared-outline x = names_parameters x.parameters _ _ (names_definitions x.definitions _ _ (names-main x.main))
