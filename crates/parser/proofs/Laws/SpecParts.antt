-- The grammar of a text is INFO, then GLOBAL and MAIN, then the end: the parts that the code reads make the whole.
use mathlib.Core.List.{List, []}
use mathlib.Core.Bool.{Bool, true, false}
use mathlib.Core.Path.{◌≡◌, sym, ◌∙◌}
use Rattle.node.specs.Result.{Result, Done, ◌>>=◌}
use Rattle.node.proofs.ResultLaws.{bind_again, bind_at, bind_same}
use Rattle.language.specs.Tokens.{Token, End}
use Rattle.language.specs.Tree.{Subsection, Model, Spec}
use Rattle.language.specs.Grammar.{Tokens, Read, front, rest, next, expect, expect_of}
use Rattle.language.specs.Sections.{described, model_of, strict_of, info_end, info_of, parameter_of, definition_of, optional, global_of, subsections_of, spec_of}
use Rattle.parser.specs.Parts.{Globals, globals_of}
use Rattle.parser.specs.Information.{pair_of, titles_of, to_semantics, to_target, closing_of, Info, information_of}
use Rattle.parser.specs.Outlines.{sections_of}

-- a text of which INFO, or all, is read
abbrev from_info : Info → Spec
from_info i = record { semantics = i.semantics; strict = i.strict; target = i.target; target_word = i.target_word; parameters = []; definitions = []; main = [] }

abbrev pub spec_with : Info → Globals × List Subsection → Spec
spec_with i y = record { semantics = i.semantics; strict = i.strict; target = i.target; target_word = i.target_word; parameters = y.0.0; definitions = y.0.1; main = y.1 }

abbrev info : Model → Bool → Model → Token → Info
info m s n t = record { semantics = m; strict = s; target = n; target_word = t }

module _ {B : Type 0} (H : Info × Tokens → Result B) where
  -- INFO after its word, and what follows it, in one row
  abbrev row : Tokens → Result B
  row ts = do
    (w, ts) ← expect "{" ts
    (w, ts) ← described "TITLE" ts
    (w, ts) ← described "DESCRIPTION" ts
    (w, ts) ← expect "SEMANTICS" ts
    (w, ts) ← expect ":" ts
    (m, ts) ← model_of ts
    (s, ts) ← strict_of ts
    (w, ts) ← expect "TARGET" ts
    (w, ts) ← expect ":" ts
    (n, us) ← model_of ts
    (w, vs) ← info_end us
    H (info m s n (front ts), vs)

  titles_row : (ts : Tokens) (K : Token × Tokens → Result B) → titles_of ts >>= K ≡ (expect "{" ts >>= λ (w, ts). described "TITLE" ts >>= λ (w, ts). described "DESCRIPTION" ts >>= K)
  titles_row ts K = bind_again (expect "{" ts) _ K ∙ bind_same (expect "{" ts) _ _ (λ (w, us). bind_again (described "TITLE" us) _ K)

  information_row : (ts : Tokens) → information_of ts >>= H ≡ row ts
  information_row ts =
      bind_again (to_semantics ts) _ H ∙ bind_again (titles_of ts) _ _ ∙ titles_row ts _
      ∙ bind_same (expect "{" ts) _ _ (λ (w, ts). bind_same (described "TITLE" ts) _ _ (λ (w, ts). bind_same (described "DESCRIPTION" ts) _ _ (λ (w, ts).
      bind_again (expect "SEMANTICS" ts) _ _ ∙ bind_same (expect "SEMANTICS" ts) _ _ (λ (w, ts). bind_same (expect ":" ts) _ _ (λ (w, ts).
      bind_again (model_of ts) _ H ∙ bind_same (model_of ts) _ _ (λ (m, ts).
      bind_again (to_target ts) _ H ∙ bind_again (strict_of ts) _ _ ∙ bind_same (strict_of ts) _ _ (λ (s, ts).
      bind_again (pair_of "TARGET" ":" ts) _ _ ∙ bind_again (expect "TARGET" ts) _ _ ∙ bind_same (expect "TARGET" ts) _ _ (λ (w, ts). bind_same (expect ":" ts) _ _ (λ (w, ts).
      bind_at (s, ts) _ ∙ bind_again (closing_of ts) _ H ∙ bind_again (model_of ts) _ _ ∙ bind_same (model_of ts) _ _ (λ (n, us).
      bind_again (info_end us) _ _ ∙ bind_same (info_end us) _ _ (λ (w, vs). bind_at (n, vs) _ ∙ bind_at (info m s n (front ts), vs) H)))))))))))

info-row : {B : Type 0} (K : Spec × Tokens → Result B) (ts : Tokens) → info_of ts >>= K ≡ (expect "INFO" ts >>= λ (w, ts). row (λ (i, us). K (from_info i, us)) ts)
info-row K ts =
    bind_again (expect "INFO" ts) _ K ∙ bind_same (expect "INFO" ts) _ _ (λ (w, ts). bind_again (expect "{" ts) _ K ∙ bind_same (expect "{" ts) _ _ (λ (w, ts).
    bind_again (described "TITLE" ts) _ K ∙ bind_same (described "TITLE" ts) _ _ (λ (w, ts). bind_again (described "DESCRIPTION" ts) _ K ∙ bind_same (described "DESCRIPTION" ts) _ _ (λ (w, ts).
    bind_again (expect "SEMANTICS" ts) _ K ∙ bind_same (expect "SEMANTICS" ts) _ _ (λ (w, ts). bind_again (expect ":" ts) _ K ∙ bind_same (expect ":" ts) _ _ (λ (w, ts).
    bind_again (model_of ts) _ K ∙ bind_same (model_of ts) _ _ (λ (m, ts). bind_again (strict_of ts) _ K ∙ bind_same (strict_of ts) _ _ (λ (s, ts).
    bind_again (expect "TARGET" ts) _ K ∙ bind_same (expect "TARGET" ts) _ _ (λ (w, ts). bind_again (expect ":" ts) _ K ∙ bind_same (expect ":" ts) _ _ (λ (w, ts).
    bind_again (model_of ts) _ K ∙ bind_same (model_of ts) _ _ (λ (n, us). bind_again (info_end us) _ K ∙ bind_same (info_end us) _ _ (λ (w, vs).
    bind_at (from_info (info m s n (front ts)), vs) K))))))))))))

-- GLOBAL
abbrev with_globals : Info → Globals → Spec
with_globals i g = spec_with i (g, [])

global_row : {B : Type 0} (i : Info) (K : Spec × Tokens → Result B) (ts : Tokens) → global_of (from_info i) ts >>= K ≡ (globals_of ts >>= λ (g, us). K (with_globals i g, us))
global_row {B} i K ts = go (next "GLOBAL" ts)
  where
    found : Read Spec
    found =
        expect "{" (rest ts) >>= λ (c, ts). optional "PARAMETERS" parameter_of ts >>= λ (ps, ts). optional "DEFINITIONS" definition_of ts >>= λ (ds, ts).
        expect "}" ts >>= λ (c, ts). Done (with_globals i (ps, ds), ts)

    pairs : Read Globals
    pairs =
        expect "{" (rest ts) >>= λ (c, ts). optional "PARAMETERS" parameter_of ts >>= λ (ps, ts). optional "DEFINITIONS" definition_of ts >>= λ (ds, ts).
        expect "}" ts >>= λ (c, ts). Done ((ps, ds), ts)

    K' : Globals × Tokens → Result B
    K' (g, us) = K (with_globals i g, us)

    same : found >>= K ≡ pairs >>= K'
    same =
        bind_again (expect "{" (rest ts)) _ K ∙ bind_same (expect "{" (rest ts)) _ _
        (λ (c, ts). bind_again (optional "PARAMETERS" parameter_of ts) _ K ∙ bind_same (optional "PARAMETERS" parameter_of ts) _ _ (λ (ps, ts).
        bind_again (optional "DEFINITIONS" definition_of ts) _ K ∙ bind_same (optional "DEFINITIONS" definition_of ts) _ _
        (λ (ds, ts). bind_again (expect "}" ts) _ K ∙ bind_same (expect "}" ts) _ _ (λ (c, ts).
        bind_at (with_globals i (ps, ds), ts) K ∙ sym (bind_at ((ps, ds), ts) K'))
        ∙ sym (bind_again (expect "}" ts) _ K')) ∙ sym (bind_again (optional "DEFINITIONS" definition_of ts) _ K')) ∙ sym (bind_again (optional "PARAMETERS" parameter_of ts) _ K')) ∙ sym
        (bind_again (expect "{" (rest ts)) _ K')

    go : (b : Bool) → (elim b [ true ↦ found | false ↦ Done (from_info i, ts) ]) >>= K ≡ (elim b [ true ↦ pairs | false ↦ Done (([], []), ts) ]) >>= K'
    go true = same
    go false = bind_at (from_info i, ts) K ∙ sym (bind_at (([], []), ts) K')

sections-row : {B : Type 0} (K : (Globals × List Subsection) × Tokens → Result B) (ts : Tokens) →
    (globals_of ts >>= λ (g, ts). expect "MAIN" ts >>= λ (w, ts). expect "{" ts >>= λ (w, ts). subsections_of 9 [] ts >>= λ (m, us). K ((g, m), us)) ≡ sections_of ts >>= K
sections-row K ts =
    sym
    (bind_again (globals_of ts) _ K ∙ bind_same (globals_of ts) _ _ (λ (g, ts). bind_again (expect "MAIN" ts) _ K ∙ bind_same (expect "MAIN" ts) _ _ (λ (w, ts).
    bind_again (expect "{" ts) _ K ∙ bind_same (expect "{" ts) _ _ (λ (w, ts). bind_again (subsections_of 9 [] ts) _ K ∙ bind_same (subsections_of 9 [] ts) _ _ (λ (m, us). bind_at ((g, m), us) K)))))

-- MAIN and the end, after a text's other sections
abbrev main_after : Spec × Tokens → Result Spec
main_after (s, ts) = do
  (w, ts) ← expect "MAIN" ts
  (w, ts) ← expect "{" ts
  (m, ts) ← subsections_of 9 [] ts
  (w, ts) ← expect_of End ts
  Done (record { semantics = s.semantics; strict = s.strict; target = s.target; target_word = s.target_word; parameters = s.parameters; definitions = s.definitions; main = m })

-- the whole
pub spec_parts : (ts : Tokens) → spec_of ts ≡ (expect "INFO" ts >>= λ (w, ts). information_of ts >>= λ (i, ts). sections_of ts >>= λ (y, ts). expect_of End ts >>= λ (w, ts). Done (spec_with i y))
spec_parts ts =
    info-row _ ts ∙ bind_same (expect "INFO" ts) _ _ (λ (w, ts).
    sym (information_row _ ts) ∙ bind_same (information_of ts) _ _ (λ (i, ts). global_row i main_after ts ∙ sections-row (λ (y, ts). expect_of End ts >>= λ (w, ts). Done (spec_with i y)) ts))
