-- The lines that the definitions go through are the text's, and so are the names that they declare and the signals among them; 5 is refused at the first too
-- deep expression of them.
use Rattle.std.specs.Prelude.{◌≡◌, refl, List, [], ◌∷◌, ◌++◌, map}
use Rattle.std.proofs.Common.{sym, ◌∙◌, ap, ap₂, subst}
use Rattle.language.specs.Tokens.{Token}
use Rattle.language.specs.Tree.{Expr, Identifier, Definition, Defined, Enumerated, Parameter, Declaration, OneSignal, OfWidth, OfType, Subsection, Inputs, Outputs, Lines, Spec}
use Rattle.language.specs.Places.{
  start,
  first_in,
  TextLine,
  ParameterLine,
  DefinitionLine,
  DeclarationLine,
  FormulaLine,
  parameter_lines,
  definition_lines,
  declaration_lines,
  formula_lines,
  main_lines,
  all_lines,
  too_deep,
  deep_line,
}
use Rattle.language.specs.Names.{identifier_names, declares, declares_signal, over}
use Rattle.language.proofs.Laws.Basics.Lists.{Any, all_any}
use Rattle.refusal_laws.specs.Refusals.{Among, FirstPlace, joined, subsection_lines, text_lines, expressions, brings, signals_of, Deep, DeepAt}
use Rattle.refusal_laws.proofs.Places.{in_list}
use Rattle.refusal_laws.proofs.LevelLaws.{deep_line_lem}

parameters_are : (ps : List Parameter) (ls : List TextLine) → parameter_lines ps ls ≡ map (λ p. ParameterLine p.name p.value) ps ++ ls
parameters_are [] ls = refl
parameters_are (p ∷ ps) ls = ap (ParameterLine p.name p.value ∷◌) (parameters_are ps ls)

definitions_are : (ds : List Definition) (ls : List TextLine) → definition_lines ds ls ≡ map DefinitionLine ds ++ ls
definitions_are [] ls = refl
definitions_are (d ∷ ds) ls = ap (DefinitionLine d ∷◌) (definitions_are ds ls)

declarations_are : (ds : List Declaration) (ls : List TextLine) → declaration_lines ds ls ≡ map DeclarationLine ds ++ ls
declarations_are [] ls = refl
declarations_are (d ∷ ds) ls = ap (DeclarationLine d ∷◌) (declarations_are ds ls)

formulas_are : (es : List Expr) (ls : List TextLine) → formula_lines es ls ≡ map FormulaLine es ++ ls
formulas_are [] ls = refl
formulas_are (e ∷ es) ls = ap (FormulaLine e ∷◌) (formulas_are es ls)

main_are : (ss : List Subsection) → main_lines ss ≡ joined subsection_lines ss
main_are [] = refl
main_are (Inputs ds ∷ ss) = declarations_are ds (main_lines ss) ∙ ap (map DeclarationLine ds ++◌) (main_are ss)
main_are (Outputs ds ∷ ss) = declarations_are ds (main_lines ss) ∙ ap (map DeclarationLine ds ++◌) (main_are ss)
main_are (Lines p es ∷ ss) = formulas_are es (main_lines ss) ∙ ap (map FormulaLine es ++◌) (main_are ss)

pub lines_are : (x : Spec) → all_lines x ≡ text_lines x
lines_are x =
    parameters_are x.parameters (definition_lines x.definitions (main_lines x.main))
    ∙ ap (λ ls. map (λ p. ParameterLine p.name p.value) x.parameters ++ ls)
    (definitions_are x.definitions (main_lines x.main) ∙ ap (map DefinitionLine x.definitions ++◌) (main_are x.main))

-- the names of a line
identifiers_are : (is : List Identifier) → identifier_names is ≡ map (λ i. i.name) is
identifiers_are [] = refl
identifiers_are (i ∷ is) = ap (i.name ∷◌) (identifiers_are is)

pub declares_are : (l : TextLine) → declares l ≡ brings l
declares_are (ParameterLine x e) = refl
declares_are (DefinitionLine (Defined x e)) = refl
declares_are (DefinitionLine (Enumerated x is)) = ap (x ∷◌) (identifiers_are is)
declares_are (DeclarationLine (OneSignal x)) = refl
declares_are (DeclarationLine (OfWidth x e)) = refl
declares_are (DeclarationLine (OfType u x)) = refl
declares_are (FormulaLine e) = refl

signals_are : (l : TextLine) → declares_signal l ≡ signals_of l
signals_are (ParameterLine x e) = refl
signals_are (DefinitionLine d) = refl
signals_are (DeclarationLine (OneSignal x)) = refl
signals_are (DeclarationLine (OfWidth x e)) = refl
signals_are (DeclarationLine (OfType u x)) = refl
signals_are (FormulaLine e) = refl

over-joined : (f g : TextLine → List Token) → ((l : TextLine) → f l ≡ g l) → (ls : List TextLine) → over f ls ≡ joined g ls
over-joined f g e [] = refl
over-joined f g e (l ∷ ls) = ap₂ ◌++◌ (e l) (over-joined f g e ls)

pub names_are : (x : Spec) → over declares (all_lines x) ≡ joined brings (text_lines x)
names_are x = over-joined declares brings declares_are (all_lines x) ∙ ap (joined brings) (lines_are x)

pub signal-names_are : (x : Spec) → over declares_signal (all_lines x) ≡ joined signals_of (text_lines x)
signal-names_are x = over-joined declares_signal signals_of signals_are (all_lines x) ∙ ap (joined signals_of) (lines_are x)

-- 5
pub deep-is-first : (x : Spec) → FirstPlace (DeepAt x) (too_deep x)
deep-is-first x =
    subst (λ (ls : List TextLine). FirstPlace (DeepAt x) (first_in deep_line ls)) (sym (lines_are x))
    (in_list Any (λ l p. Among (λ e. Deep e × (p ≡ start e)) (expressions l)) deep_line (λ l _. deep_line_lem l) (text_lines x) (all_any (text_lines x)))
