-- The entries of a text give the places that the walk over its lines gives (refusals 6 and 7).
use Rattle.std.specs.Prelude.{ℕ, ◌≡◌}
use mathlib.Core.List.{List, [], ◌∷◌, ◌++◌, append_assoc}
use Rattle.std.proofs.Math.Option.{Option}
use Rattle.std.proofs.Math.Path.{refl, ap}
use Rattle.std.proofs.Common.{◌∙◌}
use Rattle.language.specs.Tokens.{Token}
use Rattle.language.specs.Tree.{Expr, Identifier, Definition, Defined, Enumerated, Parameter, Declaration, OneSignal, OfWidth, OfType, Subsection, Inputs, Outputs, Lines, Spec}
use Rattle.language.specs.Places.{first, TextLine as Line, parameter_lines, definition_lines, declaration_lines, formula_lines, main_lines, all_lines}
use Rattle.language.specs.Names.{Names, walk, identifier_names, walk_lines}
use Rattle.entries.specs.Kinds as Kind
use Rattle.entries.specs.Flat.{Entry, leaf, flat, each, flat_parameter, flat_identifier, flat_definition, flat_declaration, flat_line, flat_subsection, outline}
use Rattle.names.specs.Scan.{after, here, scan}
use Rattle.names.proofs.ScanLaws.{walk-flat}
use Rattle.names.proofs.AlikeLaws.{alike-pushed, Steady, walk_lines-alike}
use Rattle.names.specs.References.{pushed}

module _ (used bound : Names → Token → Option ℕ) (steady-used : Steady used) (steady-bound : Steady bound) where
  abbrev places : Names → List Entry → Option ℕ
  places = scan used bound

  -- these entries, under any visible names, are those of these lines
  abbrev Lists : List Entry → List Line → Type 0
  Lists es ls = (ns : Names) → places ns es ≡ walk_lines used bound ns ls

  -- entries in groups
  regrouped : (ns : Names) (a b es : List Entry) → places ns ((a ++ b) ++ es) ≡ places ns (a ++ (b ++ es))
  regrouped ns a b es = ap (places ns) (append_assoc a b es)

  scan_parameters : (ps : List Parameter) (es : List Entry) (ls : List Line) → Lists es ls → Lists (each flat_parameter ps ++ es) (parameter_lines ps ls)
  unfolding scan here after
  scan_parameters [] es ls h ns = h ns
  scan_parameters (p ∷ ps) es ls h ns =
      regrouped ns (flat_parameter p) (each flat_parameter ps) es
      ∙ regrouped ns (flat p.value) _ (each flat_parameter ps ++ es)
      ∙ walk-flat used bound ns p.value _
      ∙ ap (first (walk used bound ns p.value)) (scan_parameters ps es ls h (p.name ∷ ns))

  scan-words : (ws : List Token) (es : List Entry) (ns : Names) → places ns (each (leaf Kind.word) ws ++ es) ≡ places ns es
  unfolding scan here after
  scan-words [] es ns = refl
  scan-words (w ∷ ws) es ns = scan-words ws es ns

  scan-identifiers : (is : List Identifier) (es : List Entry) (ns : Names) → places ns (each flat_identifier is ++ es) ≡ places (pushed (identifier_names is) ns) es
  unfolding scan here after
  scan-identifiers [] es ns = refl
  scan-identifiers (i ∷ is) es ns =
      regrouped ns (flat_identifier i) (each flat_identifier is) es
      ∙ scan-words i.words (each flat_identifier is ++ es) (i.name ∷ ns)
      ∙ scan-identifiers is es (i.name ∷ ns)

  scan_definitions : (ds : List Definition) (es : List Entry) (ls : List Line) → Lists es ls → Lists (each flat_definition ds ++ es) (definition_lines ds ls)
  unfolding scan here after
  scan_definitions [] es ls h ns = h ns
  scan_definitions (Defined x e ∷ ds) es ls h ns =
      regrouped ns (flat_definition (Defined x e)) (each flat_definition ds) es
      ∙ regrouped ns (flat e) _ (each flat_definition ds ++ es)
      ∙ walk-flat used bound ns e _
      ∙ ap (first (walk used bound ns e)) (scan_definitions ds es ls h (x ∷ ns))
  scan_definitions (Enumerated x is ∷ ds) es ls h ns =
      regrouped ns (flat_definition (Enumerated x is)) (each flat_definition ds) es
      ∙ scan-identifiers is (each flat_definition ds ++ es) (x ∷ ns)
      ∙ scan_definitions ds es ls h (pushed (identifier_names is) (x ∷ ns))
      ∙ walk_lines-alike used bound steady-used steady-bound _ _ (definition_lines ds ls) (alike-pushed (x ∷ identifier_names is) ns)

  scan-declarations : (ds : List Declaration) (es : List Entry) (ls : List Line) → Lists es ls → Lists (each flat_declaration ds ++ es) (declaration_lines ds ls)
  unfolding scan here after
  scan-declarations [] es ls h ns = h ns
  scan-declarations (OneSignal x ∷ ds) es ls h ns = scan-declarations ds es ls h (x ∷ ns)
  scan-declarations (OfWidth x e ∷ ds) es ls h ns =
      regrouped ns (flat_declaration (OfWidth x e)) (each flat_declaration ds) es
      ∙ regrouped ns (flat e) _ (each flat_declaration ds ++ es)
      ∙ walk-flat used bound ns e _
      ∙ ap (first (walk used bound ns e)) (scan-declarations ds es ls h (x ∷ ns))
  scan-declarations (OfType u x ∷ ds) es ls h ns = ap (first (used ns u)) (scan-declarations ds es ls h (x ∷ ns))

  scan-lines : (fs : List Expr) (es : List Entry) (ls : List Line) → Lists es ls → Lists (each flat_line fs ++ es) (formula_lines fs ls)
  unfolding scan here after
  scan-lines [] es ls h ns = h ns
  scan-lines (e ∷ fs) es ls h ns =
      regrouped ns (flat_line e) (each flat_line fs) es
      ∙ regrouped ns (flat e) _ (each flat_line fs ++ es)
      ∙ walk-flat used bound ns e _
      ∙ ap (first (walk used bound ns e)) (scan-lines fs es ls h ns)

  scan-main : (ss : List Subsection) → Lists (each flat_subsection ss) (main_lines ss)
  unfolding scan here after
  scan-main [] ns = refl
  scan-main (Inputs ds ∷ ss) ns = scan-declarations ds (each flat_subsection ss) (main_lines ss) (scan-main ss) ns
  scan-main (Outputs ds ∷ ss) ns = scan-declarations ds (each flat_subsection ss) (main_lines ss) (scan-main ss) ns
  scan-main (Lines p es ∷ ss) ns = scan-lines es (each flat_subsection ss) (main_lines ss) (scan-main ss) ns

  pub scan-outline : (x : Spec) (ns : Names) → places ns (outline x) ≡ walk_lines used bound ns (all_lines x)
  scan-outline x =
      scan_parameters x.parameters _ _ (scan_definitions x.definitions _ _ (scan-main x.main))
