-- Parameters and signals have such names.
use Rattle.std.specs.Prelude.{List, [], ◌∷◌, ◌≡◌}
use Rattle.std.proofs.Math.Option.{none}
use Rattle.std.proofs.Common.{subst}
use Rattle.language.specs.Tokens.{Token}
use Rattle.language.specs.Tree.{Parameter, Spec}
use Rattle.language.specs.Places.{TextLine, parameter_lines, definition_lines, main_lines}
use Rattle.language.specs.Names.{declares, over, declared_again}
use Rattle.language.specs.DeclaredNames.{inputs, outputs}
use Rattle.language.proofs.Laws.Basics.Lists.{All, all_both, all_right, all_more}
use Rattle.language.specs.Listed.{declared_name}
use Rattle.language.proofs.Laws.Values.DistinctNames.{signals-among, distinct_names, distinct_definitions}
use Rattle.names.specs.Resolved.{declared_names as allNames}
use Rattle.names.proofs.VisibleLaws.{In, in_declared}
use Rattle.name_values.proofs.ElsewhereLaws.{own_names, apart_elsewhere, by_declaration, behind_parameters, parameters_elsewhere, over_definitions, main_apart}
use Rattle.declarations.specs.Turnable.{Turnable}

of_parameters : (P : Token → Type 0) (ps : List Parameter) (ls : List TextLine) → All P (over declares (parameter_lines ps ls)) → All (λ p. P p.name) ps
of_parameters P [] ls h = tt
of_parameters P (p ∷ ps) ls h = (h.0, of_parameters P ps ls h.1)

module _ (x : Spec) (once : declared_again x ≡ none) where
  abbrev rest : List TextLine
  rest = definition_lines x.definitions (main_lines x.main)

  pub parameters_turnable : All (λ p. Turnable x p.name) x.parameters
  parameters_turnable =
      all_both (λ p a b. record { shown = a; undefined = b }) x.parameters (of_parameters (In (allNames x)) x.parameters rest (in_declared x))
      (parameters_elsewhere x.definitions x.parameters (main_lines x.main) (distinct_names x once))

  pub signals-turnable : All (λ m. Turnable x (declared_name m)) (inputs x.main) × All (λ m. Turnable x (declared_name m)) (outputs x.main)
  signals-turnable =
      let F = own_names x.definitions in
      let M = over declares (main_lines x.main) in
      let seen : All (In (allNames x)) M = all_right (In (allNames x)) F M
      (subst (All (In (allNames x))) (over_definitions x.definitions (main_lines x.main)) (behind_parameters (In (allNames x)) x.parameters rest (in_declared x))) in
      let free = all_more (λ n a. apart_elsewhere x.definitions n a) M (main_apart x (distinct_definitions x once)) in
      let both : All (Turnable x) M = all_both (λ n a b. record { shown = a; undefined = b }) M seen free in
      let s = signals-among (Turnable x) x.main both in
      (by_declaration (Turnable x) (inputs x.main) s.0, by_declaration (Turnable x) (outputs x.main) s.1)
