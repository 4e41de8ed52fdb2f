-- The formulas of the lines as the walk meets them are those of the sections.
use mathlib.Core.List.{List, [], ◌∷◌, ◌++◌, map, append_assoc}
use Rattle.std.specs.Prelude.{◌≡◌}
use Rattle.std.proofs.Math.Path.{refl, sym, ap}
use Rattle.std.proofs.Common.{◌∙◌}
use Rattle.node.specs.Ltl.{Formula}
use Rattle.node.specs.Result.{Result, Done, Refused, ◌>>=◌}
use Rattle.node.proofs.ResultLaws.{bind_value}
use Rattle.language.specs.Tree.{Expr, Part, Subsection, Inputs, Outputs, Lines, Spec}
use Rattle.language.specs.Lines.{Line as SectionLine, Written, written_lines}
use Rattle.language.specs.Expansion.{Context, expansion, gather, expand_line, expand_section, Sections}
use Rattle.entries.specs.Flat.{Entry, flat, each, flat_parameter, flat_definition, flat_declaration}
use Rattle.assembly.specs.Gathered.{in_turn}
use Rattle.lines.specs.Items.{Item, Passed, Line, items_each, line_items, subsection_items, items, worked}

module _ (c : Context) where
  worked_passed : (es : List Entry) (is : List Item) → worked c (map Passed es ++ is) ≡ worked c is
  worked_passed [] is = refl
  worked_passed (e ∷ es) is = worked_passed es is

  line_then : (p : Part) (r : Result Formula) (s : Result (List Formula)) (t : Result (List (Part × Formula)))
      → (r >>= λ f. (s >>= λ fs. t >>= λ gs. Done (map (λ g. (p, g)) fs ++ gs)) >>= λ hs. Done ((p, f) ∷ hs))
      ≡ ((r >>= λ f. s >>= λ fs. Done (f ∷ fs)) >>= λ fs. t >>= λ gs. Done (map (λ g. (p, g)) fs ++ gs))
  unfolding ◌>>=◌
  line_then p (Refused n q) s t = refl
  line_then p (Done f) (Refused n q) t = refl
  line_then p (Done f) (Done fs) (Refused n q) = refl
  line_then p (Done f) (Done fs) (Done gs) = refl

  worked_lines : (p : Part) (es : List Expr) (is : List Item)
      → worked c (items_each (line_items p) es ++ is) ≡ (gather (expand_line c) (map Written es) >>= λ fs. worked c is >>= λ gs. Done (map (λ g. (p, g)) fs ++ gs))
  unfolding ◌>>=◌
  worked_lines p [] is = sym (bind_value (worked c is))
  worked_lines p (e ∷ es) is =
      ap (worked c) (append_assoc (line_items p e) (items_each (line_items p) es) is ∙ append_assoc (map Passed (flat e)) (Line p e ∷ []) (items_each (line_items p) es ++ is))
      ∙ worked_passed (flat e) (Line p e ∷ (items_each (line_items p) es ++ is))
      ∙ ap (λ (s : Result (List (Part × Formula))). expansion c e >>= λ f. s >>= λ hs. Done ((p, f) ∷ hs)) (worked_lines p es is)
      ∙ line_then p (expansion c e) (gather (expand_line c) (map Written es)) (worked c is)

  section_then : (p : Part) (r : Result (List Formula)) (s : Result Sections)
      → (((r >>= λ fs. Done (p, fs)) >>= λ b. s >>= λ bs. Done (b ∷ bs)) >>= λ u. Done (in_turn u))
      ≡ (r >>= λ fs. (s >>= λ u. Done (in_turn u)) >>= λ ls. Done (map (λ g. (p, g)) fs ++ ls))
  unfolding ◌>>=◌
  section_then p (Refused n q) s = refl
  section_then p (Done fs) (Refused n q) = refl
  section_then p (Done fs) (Done u) = refl

  lines_then : (p : Part) (r : Result (List Formula)) (w : Result (List (Part × Formula))) (s : Result Sections)
      → (r >>= λ fs. (w >>= λ gs. s >>= λ u. Done (gs ++ in_turn u)) >>= λ ls. Done (map (λ g. (p, g)) fs ++ ls))
      ≡ ((r >>= λ fs. w >>= λ gs. Done (map (λ g. (p, g)) fs ++ gs)) >>= λ hs. s >>= λ u. Done (hs ++ in_turn u))
  unfolding ◌>>=◌
  lines_then p (Refused n q) w s = refl
  lines_then p (Done fs) (Refused n q) s = refl
  lines_then p (Done fs) (Done gs) (Refused n q) = refl
  lines_then p (Done fs) (Done gs) (Done u) = ap Done (sym (append_assoc (map (λ g. (p, g)) fs) gs (in_turn u)))

  -- the sections' lines in turn: the written ones, as the walk meets them, and behind them those of `rest`
  abbrev Turned : List Subsection → List (Part × List SectionLine) → Type 0
  Turned ss rest =
      (gather (expand_section c) (written_lines ss rest) >>= λ u. Done (in_turn u))
      ≡ (worked c (items_each subsection_items ss) >>= λ fs. gather (expand_section c) rest >>= λ u. Done (fs ++ in_turn u))

  turned-main : (ss : List Subsection) (rest : List (Part × List SectionLine)) → Turned ss rest
  unfolding ◌>>=◌
  turned-main [] rest = refl
  turned-main (Inputs ds ∷ ss) rest =
      turned-main ss rest ∙ ap (λ (w : Result (List (Part × Formula))). w >>= λ fs. gather (expand_section c) rest >>= λ u. Done (fs ++ in_turn u))
      (sym (worked_passed (each flat_declaration ds) (items_each subsection_items ss)))
  turned-main (Outputs ds ∷ ss) rest =
      turned-main ss rest ∙ ap (λ (w : Result (List (Part × Formula))). w >>= λ fs. gather (expand_section c) rest >>= λ u. Done (fs ++ in_turn u))
      (sym (worked_passed (each flat_declaration ds) (items_each subsection_items ss)))
  turned-main (Lines p es ∷ ss) rest =
      let r = gather (expand_line c) (map Written es) in
      section_then p r (gather (expand_section c) (written_lines ss rest))
      ∙ ap (λ (s : Result (List (Part × Formula))). r >>= λ fs. s >>= λ ls. Done (map (λ g. (p, g)) fs ++ ls)) (turned-main ss rest)
      ∙ lines_then p r (worked c (items_each subsection_items ss)) (gather (expand_section c) rest)
      ∙ ap (λ (w : Result (List (Part × Formula))). w >>= λ fs. gather (expand_section c) rest >>= λ u. Done (fs ++ in_turn u)) (sym (worked_lines p es (items_each subsection_items ss)))

  pub sections-in_turn : (x : Spec) (rest : List (Part × List SectionLine))
      → (gather (expand_section c) (written_lines x.main rest) >>= λ u. Done (in_turn u)) ≡ (worked c (items x) >>= λ fs. gather (expand_section c) rest >>= λ u. Done (fs ++ in_turn u))
  sections-in_turn x rest =
      turned-main x.main rest
      ∙ ap (λ (w : Result (List (Part × Formula))). w >>= λ fs. gather (expand_section c) rest >>= λ u. Done (fs ++ in_turn u))
      (sym (worked_passed (each flat_parameter x.parameters ++ each flat_definition x.definitions) (items_each subsection_items x.main)))
