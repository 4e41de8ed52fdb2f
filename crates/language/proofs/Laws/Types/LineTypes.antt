-- The lines of a text one after the other: what refusals 7 and 9 say of each parameter, definition, declaration and formula.
use Rattle.std.specs.Prelude.{◌≡◌, List, [], ◌∷◌, map, false}
use Rattle.std.proofs.Math.Option.{none}
use Rattle.language.specs.Tokens.{Token}
use Rattle.language.specs.Tree.{Expr, Definition, Defined, Enumerated, Parameter, Declaration, OneSignal, OfWidth, OfType, Part, Subsection, Inputs, Outputs, Lines}
use Rattle.language.specs.Places.{TextLine, ParameterLine, DefinitionLine, DeclarationLine, FormulaLine, parameter_lines, definition_lines, declaration_lines, formula_lines, main_lines}
use Rattle.language.specs.Types.{ExprType, ANumber, AFormula, ABus, Typings, mistyped_line, mistyped_lines, typed_after}
use Rattle.language.specs.DeclaredNames.{inputs, outputs}
use Rattle.language.specs.Lines.{Line, Written, Implied, written_lines}
use Rattle.language.specs.Braces.{Proper, ProperDeclaration, ProperSubsection}
use Rattle.language.proofs.Laws.Basics.Lists.{All, all_append}
use Rattle.language.proofs.Laws.Basics.NoPlace.{first-left, first-right}
use Rattle.language.proofs.Laws.Types.TypeSoundness.{Taken, taken}
use Rattle.language.proofs.Laws.Types.KnownTypes.{typings, Knows}
use Rattle.language.proofs.Laws.Types.DefinitionTypes.{values_right, typed_through}

-- the two facts about the lines from here on
pub record Passed (g : Token → ExprType) (ys : Typings) (ls : List TextLine) : Type 0 where
  pub known : All (Knows g) (typings ys ls)
  pub fitting : mistyped_lines ys ls ≡ none

after_line : (ys : Typings) (l : TextLine) (ls : List TextLine) → mistyped_lines ys (l ∷ ls) ≡ none → mistyped_lines (typed_after ys l) ls ≡ none
after_line ys l ls m = first-right (mistyped_line ys l) (mistyped_lines (typed_after ys l) ls) m

at-line : (ys : Typings) (l : TextLine) (ls : List TextLine) → mistyped_lines ys (l ∷ ls) ≡ none → mistyped_line ys l ≡ none
at-line ys l ls m = first-left (mistyped_line ys l) (mistyped_lines (typed_after ys l) ls) m

abbrev pub typed_parameters : Typings → List Parameter → Typings
typed_parameters ys [] = ys
typed_parameters ys (p ∷ ps) = typed_parameters (typed_after ys (ParameterLine p.name p.value)) ps

-- the lines of the sections
abbrev pub LineFits : Typings → Line → Type 0
LineFits ys (Written e) = Taken AFormula ys e × Proper false e
LineFits ys (Implied p) = Unit {0}

abbrev pub SectionFits : Typings → Part × List Line → Type 0
SectionFits ys s = All (LineFits ys) s.1

module _ (g : Token → ExprType) where
  pub passed-parameter : (ys : Typings) (p : Parameter) (ls : List TextLine) → Passed g ys (ParameterLine p.name p.value ∷ ls)
      → Passed g (typed_after ys (ParameterLine p.name p.value)) ls
  passed-parameter ys p ls h = record { known = h.known.1; fitting = after_line ys (ParameterLine p.name p.value) ls h.fitting }

  pub parameter-taken : (ys : Typings) (p : Parameter) (ls : List TextLine) → Passed g ys (ParameterLine p.name p.value ∷ ls) → Taken ANumber ys p.value
  parameter-taken ys p ls h = taken ANumber ys p.value (at-line ys (ParameterLine p.name p.value) ls h.fitting)

  pub passed_parameters : (ps : List Parameter) (ys : Typings) (ls : List TextLine) → Passed g ys (parameter_lines ps ls) → Passed g (typed_parameters ys ps) ls
  passed_parameters [] ys ls h = h
  passed_parameters (p ∷ ps) ys ls h =
      passed_parameters ps (typed_after ys (ParameterLine p.name p.value)) ls (passed-parameter ys p (parameter_lines ps ls) h)

  pub passed_definitions : (ds : List Definition) (ys : Typings) (ls : List TextLine) → Passed g ys (definition_lines ds ls) → Passed g (typed_through ys ds) ls
  passed_definitions [] ys ls h = h
  passed_definitions (Defined x e ∷ ds) ys ls h =
      let l = DefinitionLine (Defined x e) in
      passed_definitions ds (typed_after ys l) ls (record { known = h.known.1; fitting = after_line ys l (definition_lines ds ls) h.fitting })
  passed_definitions (Enumerated x is ∷ ds) ys ls h =
      let l = DefinitionLine (Enumerated x is) in
      passed_definitions ds (typed_after ys l) ls
      (record { known = values_right g is (typings (typed_after ys l) (definition_lines ds ls)) h.known.1; fitting = after_line ys l (definition_lines ds ls) h.fitting })

  -- a declaration's name is known, its width a number
  abbrev pub DeclarationFits : Typings → Declaration → Type 0
  DeclarationFits ys (OneSignal x) = Knows g (record { name = x; type = AFormula })
  DeclarationFits ys (OfWidth x e) = Knows g (record { name = x; type = ABus }) × Taken ANumber ys e × Proper false e
  DeclarationFits ys (OfType u x) = Knows g (record { name = x; type = ABus })

  pub record Declares (ys : Typings) (ds : List Declaration) (ls : List TextLine) : Type 0 where
    pub fits : All (DeclarationFits ys) ds
    pub passed : Passed g ys ls

  pub passed-declarations : (ds : List Declaration) (ys : Typings) (ls : List TextLine) → All ProperDeclaration ds → Passed g ys (declaration_lines ds ls) → Declares ys ds ls
  passed-declarations [] ys ls s h = record { fits = tt; passed = h }
  passed-declarations (OneSignal x ∷ ds) ys ls s h =
      let r = passed-declarations ds ys ls s.1
      (record { known = h.known.1; fitting = after_line ys (DeclarationLine (OneSignal x)) (declaration_lines ds ls) h.fitting }) in
      record { fits = (h.known.0, r.fits); passed = r.passed }
  passed-declarations (OfWidth x e ∷ ds) ys ls s h =
      let l = DeclarationLine (OfWidth x e) in
      let r = passed-declarations ds ys ls s.1 (record { known = h.known.1; fitting = after_line ys l (declaration_lines ds ls) h.fitting }) in
      record { fits = ((h.known.0, taken ANumber ys e (at-line ys l (declaration_lines ds ls) h.fitting), s.0.1), r.fits); passed = r.passed }
  passed-declarations (OfType u x ∷ ds) ys ls s h =
      let r = passed-declarations ds ys ls s.1
      (record { known = h.known.1; fitting = after_line ys (DeclarationLine (OfType u x)) (declaration_lines ds ls) h.fitting }) in
      record { fits = (h.known.0, r.fits); passed = r.passed }

  pub record Formulates (ys : Typings) (es : List Expr) (ls : List TextLine) : Type 0 where
    pub fits : All (LineFits ys) (map Written es)
    pub passed : Passed g ys ls

  passed-formulas : (es : List Expr) (ys : Typings) (ls : List TextLine) → All (Proper false) es → Passed g ys (formula_lines es ls) → Formulates ys es ls
  passed-formulas [] ys ls s h = record { fits = tt; passed = h }
  passed-formulas (e ∷ es) ys ls s h =
      let r = passed-formulas es ys ls s.1 (record { known = h.known; fitting = after_line ys (FormulaLine e) (formula_lines es ls) h.fitting }) in
      record { fits = ((taken AFormula ys e (at-line ys (FormulaLine e) (formula_lines es ls) h.fitting), s.0), r.fits); passed = r.passed }

  pub record MainFits (ys : Typings) (ss : List Subsection) : Type 0 where
    pub ins : All (DeclarationFits ys) (inputs ss)
    pub outs : All (DeclarationFits ys) (outputs ss)
    pub written : (rest : List (Part × List Line)) → All (SectionFits ys) rest → All (SectionFits ys) (written_lines ss rest)

  pub main-fits : (ss : List Subsection) (ys : Typings) → All ProperSubsection ss → Passed g ys (main_lines ss) → MainFits ys ss
  main-fits [] ys s h = record { ins = tt; outs = tt; written = λ rest f. f }
  main-fits (Inputs ds ∷ ss) ys s h =
      let r = passed-declarations ds ys (main_lines ss) s.0 h in
      let m = main-fits ss ys s.1 r.passed in
      record { ins = all_append (DeclarationFits ys) ds (inputs ss) r.fits m.ins; outs = m.outs; written = m.written }
  main-fits (Outputs ds ∷ ss) ys s h =
      let r = passed-declarations ds ys (main_lines ss) s.0 h in
      let m = main-fits ss ys s.1 r.passed in
      record { ins = m.ins; outs = all_append (DeclarationFits ys) ds (outputs ss) r.fits m.outs; written = m.written }
  main-fits (Lines p es ∷ ss) ys s h =
      let r = passed-formulas es ys (main_lines ss) s.0 h in
      let m = main-fits ss ys s.1 r.passed in
      record { ins = m.ins; outs = m.outs; written = λ rest f. (r.fits, m.written rest f) }
