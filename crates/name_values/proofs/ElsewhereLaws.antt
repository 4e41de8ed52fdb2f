-- The names visible at a line: no definition that is still to come defines one of them (refusal 7).
use Rattle.std.specs.Prelude.{true, List, [], ◌∷◌, ◌++◌, ◌≡◌, refl}
use Rattle.std.proofs.Common.{append_assoc, sym, ap, ◌∙◌, subst}
use Rattle.language.specs.Tokens.{Token}
use Rattle.language.specs.Tree.{Expr, Identifier, Definition, Defined, Enumerated, Declaration, Parameter, Spec}
use Rattle.language.specs.Places.{TextLine, DefinitionLine, parameter_lines, definition_lines, main_lines, all_lines}
use Rattle.language.specs.Names.{Names, visible, identifier_names, declares, declares_signal, over}
use Rattle.language.specs.Listed.{declared_name}
use Rattle.language.proofs.Laws.Basics.Lists.{All, all_left, all_right, all_append, all_both}
use Rattle.language.proofs.Laws.Values.DistinctNames.{Apart, apart_sym, Distinct, distinct_right, Across, across, across_sym, declared_names}
use Rattle.names.proofs.VisibleLaws.{of_signals, visible_apart}
use Rattle.name_values.specs.Worlds.{Elsewhere}

-- the names of some definitions
abbrev pub own_names : List Definition → Names
own_names ds = over declares (definition_lines ds [])

pub apart_elsewhere : (ds : List Definition) (t : Token) → All (Apart t) (own_names ds) → All (Elsewhere t) ds
apart_elsewhere [] t h = tt
apart_elsewhere (Defined x e ∷ ds) t h = (apart_sym t x h.0, apart_elsewhere ds t h.1)
apart_elsewhere (Enumerated x is ∷ ds) t h = (tt, apart_elsewhere ds t (all_right (Apart t) (declares (DefinitionLine (Enumerated x is))) (own_names ds) h))

pub visible_elsewhere : (ns : Names) (ds : List Definition) → Across ns (own_names ds) → (t : Token) → visible ns t ≡ true → All (Elsewhere t) ds
visible_elsewhere ns ds h t y = apart_elsewhere ds t (visible_apart ns (own_names ds) h t y)

-- names of lines, by the lines' sections
module _ (P : Token → Type 0) where
  pub by_identifier : (is : List Identifier) → All P (identifier_names is) → All (λ i. P i.name) is
  by_identifier [] h = tt
  by_identifier (i ∷ is) h = (h.0, by_identifier is h.1)

  pub by_declaration : (ds : List Declaration) → All P (declared_names ds) → All (λ m. P (declared_name m)) ds
  by_declaration [] h = tt
  by_declaration (m ∷ ds) h = (h.0, by_declaration ds h.1)

  pub behind_parameters : (ps : List Parameter) (ls : List TextLine) → All P (over declares (parameter_lines ps ls)) → All P (over declares ls)
  behind_parameters [] ls h = h
  behind_parameters (p ∷ ps) ls h = behind_parameters ps ls h.1

  pub of_definitions : (ds : List Definition) (ls : List TextLine) → All P (over declares (definition_lines ds ls)) → All P (own_names ds)
  of_definitions [] ls h = tt
  of_definitions (d ∷ ds) ls h =
      let own = declares (DefinitionLine d) in
      all_append P own (own_names ds) (all_left P own (over declares (definition_lines ds ls)) h) (of_definitions ds ls (all_right P own (over declares (definition_lines ds ls)) h))

-- no definition defines a parameter
pub parameters_elsewhere : (ds : List Definition) (ps : List Parameter) (ls : List TextLine) → Distinct (over declares (parameter_lines ps (definition_lines ds ls)))
    → All (λ p. All (Elsewhere p.name) ds) ps
parameters_elsewhere ds [] ls h = tt
parameters_elsewhere ds (p ∷ ps) ls h = (
  apart_elsewhere ds p.name (of_definitions (Apart p.name) ds ls (behind_parameters (Apart p.name) ps (definition_lines ds ls) h.0)),
  parameters_elsewhere ds ps ls h.1,
)

pub over_definitions : (ds : List Definition) (ls : List TextLine) → over declares (definition_lines ds ls) ≡ own_names ds ++ over declares ls
over_definitions [] ls = refl
over_definitions (d ∷ ds) ls = ap (declares (DefinitionLine d) ++◌) (over_definitions ds ls) ∙ sym (append_assoc (declares (DefinitionLine d)) (own_names ds) (over declares ls))

own-append : (ds later : List Definition) → own_names (ds ++ later) ≡ own_names ds ++ own_names later
own-append [] later = refl
own-append (d ∷ ds) later = ap (declares (DefinitionLine d) ++◌) (own-append ds later) ∙ sym (append_assoc (declares (DefinitionLine d)) (own_names ds) (own_names later))

signals_parameters : (ps : List Parameter) (ls : List TextLine) → over declares_signal (parameter_lines ps ls) ≡ over declares_signal ls
signals_parameters [] ls = refl
signals_parameters (p ∷ ps) ls = signals_parameters ps ls

signals_definitions : (ds : List Definition) (ls : List TextLine) → over declares_signal (definition_lines ds ls) ≡ over declares_signal ls
signals_definitions [] ls = refl
signals_definitions (d ∷ ds) ls = signals_definitions ds ls

-- no definition defines a name of MAIN, signals among them
pub main_apart : (x : Spec) → Distinct (over declares (definition_lines x.definitions (main_lines x.main))) → Across (over declares (main_lines x.main)) (own_names x.definitions)
main_apart x h =
    let F = own_names x.definitions in
    let M = over declares (main_lines x.main) in
    across_sym F M (across F M (subst Distinct (over_definitions x.definitions (main_lines x.main)) h))

pub signals_apart : (x : Spec) → Distinct (over declares (definition_lines x.definitions (main_lines x.main))) → Across (over declares_signal (all_lines x)) (own_names x.definitions)
signals_apart x h =
    let F = own_names x.definitions in
    subst (λ l. Across l F) (sym (signals_parameters x.parameters _ ∙ signals_definitions x.definitions _))
    (of_signals (λ n. All (Apart n) F) (main_lines x.main) (main_apart x h))

-- names among the definitions: after a definition no other defines its name, and none defines a name of an enumeration
module _ (before later : List Definition) where
  own_names_lem : (d : Definition) → Distinct (own_names (before ++ d ∷ later)) → Distinct (own_names before ++ (declares (DefinitionLine d) ++ own_names later))
  own_names_lem d h = subst Distinct (own-append before (d ∷ later)) h

  pub defined_later : (x : Token) (e : Expr) → Distinct (own_names (before ++ Defined x e ∷ later)) → All (Elsewhere x) later
  defined_later x e h = apart_elsewhere later x (distinct_right (own_names before) (x ∷ own_names later) (own_names_lem (Defined x e) h)).0

  pub enumerated_elsewhere : (x : Token) (is : List Identifier) → Distinct (own_names (before ++ Enumerated x is ∷ later))
      → All (λ n. All (Elsewhere n) (before ++ Enumerated x is ∷ later)) (declares (DefinitionLine (Enumerated x is)))
  enumerated_elsewhere x is h =
      let A = own_names before in
      let O = declares (DefinitionLine (Enumerated x is)) in
      let B = own_names later in
      let D = own_names_lem (Enumerated x is) h in
      all_both (λ n a b. all_append (Elsewhere n) before (Enumerated x is ∷ later) (apart_elsewhere before n a) (tt, apart_elsewhere later n b)) O
      (all_left (λ n. All (Apart n) A) O B (across_sym A (O ++ B) (across A (O ++ B) D))) (across O B (distinct_right A (O ++ B) D))
