-- What holds of each parameter, definition, declaration and formula of a tree holds of all its lines.
use Rattle.std.specs.Prelude.{List, [], ◌∷◌}
use Rattle.language.specs.Tree.{Expr, Definition, Parameter, Declaration, Subsection, Inputs, Outputs, Lines, Spec}
use Rattle.language.specs.Places.{
  TextLine,
  ParameterLine,
  DefinitionLine,
  DeclarationLine,
  FormulaLine,
  parameter_lines,
  definition_lines,
  declaration_lines,
  formula_lines,
  main_lines,
  all_lines,
}
use Rattle.language.proofs.Laws.Basics.Lists.{All}

module _ (P : TextLine → Type 0) where
  parameters_all : (ps : List Parameter) (ls : List TextLine) → All (λ p. P (ParameterLine p.name p.value)) ps → All P ls → All P (parameter_lines ps ls)
  parameters_all [] ls h g = g
  parameters_all (p ∷ ps) ls h g = (h.0, parameters_all ps ls h.1 g)

  definitions_all : (ds : List Definition) (ls : List TextLine) → All (λ d. P (DefinitionLine d)) ds → All P ls → All P (definition_lines ds ls)
  definitions_all [] ls h g = g
  definitions_all (d ∷ ds) ls h g = (h.0, definitions_all ds ls h.1 g)

  declarations-all : (ds : List Declaration) (ls : List TextLine) → All (λ d. P (DeclarationLine d)) ds → All P ls → All P (declaration_lines ds ls)
  declarations-all [] ls h g = g
  declarations-all (d ∷ ds) ls h g = (h.0, declarations-all ds ls h.1 g)

  formulas-all : (es : List Expr) (ls : List TextLine) → All (λ e. P (FormulaLine e)) es → All P ls → All P (formula_lines es ls)
  formulas-all [] ls h g = g
  formulas-all (e ∷ es) ls h g = (h.0, formulas-all es ls h.1 g)

  abbrev pub OfSubsection : Subsection → Type 0
  OfSubsection (Inputs ds) = All (λ d. P (DeclarationLine d)) ds
  OfSubsection (Outputs ds) = All (λ d. P (DeclarationLine d)) ds
  OfSubsection (Lines p es) = All (λ e. P (FormulaLine e)) es

  main-all : (ss : List Subsection) → All OfSubsection ss → All P (main_lines ss)
  main-all [] h = tt
  main-all (Inputs ds ∷ ss) h = declarations-all ds (main_lines ss) h.0 (main-all ss h.1)
  main-all (Outputs ds ∷ ss) h = declarations-all ds (main_lines ss) h.0 (main-all ss h.1)
  main-all (Lines p es ∷ ss) h = formulas-all es (main_lines ss) h.0 (main-all ss h.1)

  pub lines-all : (x : Spec) → All (λ p. P (ParameterLine p.name p.value)) x.parameters → All (λ d. P (DefinitionLine d)) x.definitions
      → All OfSubsection x.main → All P (all_lines x)
  lines-all x hp hd hm = parameters_all x.parameters (definition_lines x.definitions (main_lines x.main)) hp (definitions_all x.definitions (main_lines x.main) hd (main-all x.main hm))
