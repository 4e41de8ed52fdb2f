-- The entries that are chosen are those of the parameters, of the inputs and of the outputs, and there is room for them.
use Rattle.std.specs.Prelude.{ℕ, zero, suc, ◌+◌, ◌-◌, ◌≤◌, ◌<◌, List, [], ◌∷◌, ◌≡◌, refl, length, get_or}
use Rattle.std.proofs.Common.{ap, ◌∙◌, subst, arith, length-append}
use Rattle.names.specs.References.{pushed}
use Rattle.language.specs.Limits.{max_names}
use Rattle.language.specs.Tree.{Expr, Parameter, Declaration, OneSignal, OfWidth, OfType, Subsection, Inputs, Outputs, Lines, Spec}
use Rattle.language.specs.Places.{TextLine, parameter_lines, definition_lines, declaration_lines, formula_lines, main_lines, all_lines}
use Rattle.language.specs.Names.{Names, declares, over}
use Rattle.language.specs.DeclaredNames.{inputs, outputs}
use Rattle.language.specs.Listed.{declared_name}
use Rattle.entries.specs.Headings.{no_heading}
use Rattle.entries.specs.Flat.{outline}
use Rattle.name_values.proofs.ElsewhereLaws.{own_names, over_definitions}
use Rattle.name_values.proofs.WorkedLaws.{tree_worked}
use Rattle.notes.specs.Chosen.{chosen}
use Rattle.notes.specs.Choosing.{Chooses}
use Rattle.notes.specs.ChosenLaws.{parameter_choice, port_choice, parameters_chosen, inputs-chosen, outputs-chosen}
use Rattle.notes.specs.Owned.{ParameterAt, DeclarationAt}
use Rattle.notes.specs.OwnedLaws.{parameters_at, declarations-at}
use Rattle.basics.specs.Lists.{get_or-sets-below}
use Rattle.declarations.specs.Along.{Along}
use Rattle.declarations.specs.AlongLaws.{along_from, along_both, pairs-length, sets-read}
use Rattle.declarations.specs.Turnable.{Turnable}
use Rattle.declarations.specs.TurnableLaws.{parameters_turnable, signals-turnable}
use Rattle.declarations.specs.Trees.{Tree}
use Rattle.declarations.specs.Placing.{PortsPlaced}

-- how many names there are
pushed-length : (ns ms : Names) → length (pushed ns ms) ≡ length ns + length ms
pushed-length [] ms = omega arith
pushed-length (n ∷ ns) ms = let h = pushed-length ns (n ∷ ms) in omega arith

parameters_length : (ps : List Parameter) (ls : List TextLine) → length (over declares (parameter_lines ps ls)) ≡ length ps + length (over declares ls)
parameters_length [] ls = omega arith
parameters_length (p ∷ ps) ls = let h = parameters_length ps ls in omega arith

declarations-length : (ds : List Declaration) (ls : List TextLine) → length (over declares (declaration_lines ds ls)) ≡ length ds + length (over declares ls)
declarations-length [] ls = omega arith
declarations-length (OneSignal n ∷ ds) ls = let h = declarations-length ds ls in omega arith
declarations-length (OfWidth n e ∷ ds) ls = let h = declarations-length ds ls in omega arith
declarations-length (OfType u n ∷ ds) ls = let h = declarations-length ds ls in omega arith

formulas-length : (es : List Expr) (ls : List TextLine) → length (over declares (formula_lines es ls)) ≡ length (over declares ls)
formulas-length [] ls = refl
formulas-length (e ∷ es) ls = formulas-length es ls

main-length : (ss : List Subsection) → length (over declares (main_lines ss)) ≡ length (inputs ss) + length (outputs ss)
main-length [] = omega arith
main-length (Inputs ds ∷ ss) = let h = main-length ss in let g = declarations-length ds (main_lines ss) in let a = length-append ds (inputs ss) in omega arith
main-length (Outputs ds ∷ ss) = let h = main-length ss in let g = declarations-length ds (main_lines ss) in let a = length-append ds (outputs ss) in omega arith
main-length (Lines p es ∷ ss) = formulas-length es (main_lines ss) ∙ main-length ss

module _ {text w refs found : List ℕ} {entries names : ℕ} {x : Spec} (t : Tree text w refs found entries names x) where
  all_few : length x.parameters + (length (inputs x.main) + length (outputs x.main)) ≤ max_names
  all_few =
      let a = t.resolved.count in
      let b = t.resolved.few in
      let c = pushed-length (over declares (all_lines x)) [] in
      let d = parameters_length x.parameters (definition_lines x.definitions (main_lines x.main)) in
      let e = ap length (over_definitions x.definitions (main_lines x.main)) in
      let f = length-append (own_names x.definitions) (over declares (main_lines x.main)) in
      let g = main-length x.main in
      omega arith

  pub parameters_few : length x.parameters ≤ max_names
  parameters_few = let a = all_few in omega arith

  pub parameters_placed : (old new : List ℕ) (count : ℕ) → max_names ≤ length old → Chooses parameter_choice (outline x) old 0 new count
      → Along (λ p k. ParameterAt x text w refs p k × Turnable x p.name) new 0 x.parameters × (length x.parameters ≡ count)
  parameters_placed old new count room h =
      let ks = chosen parameter_choice no_heading 0 (outline x) in
      let P = ParameterAt x text w refs in
      let pairs = parameters_chosen P x (parameters_at t.stored t.resolved (tree_worked t.stored t.resolved)) in
      let n = pairs-length P x.parameters ks pairs in
      let few = all_few in
      let e = h.end in (
        along_both P (λ p. Turnable x p.name) new 0 x.parameters
            (along_from P new ks 0 x.parameters pairs (λ i l. ap (λ s. get_or s (0 + i) 0) h.stored ∙ sets-read old 0 ks i (omega arith) l)) (parameters_turnable x t.resolved.distinct),
        omega
            arith,
      )

  abbrev Port : Declaration → ℕ → Type 0
  Port m k = DeclarationAt x text w refs m k × Turnable x (declared_name m)

  pub ins_few : (old new : List ℕ) (ins : ℕ) → Chooses (port_choice 0) (outline x) old 0 new ins → ins ≤ max_names
  ins_few old new ins h =
      let P = DeclarationAt x text w refs in
      let a = pairs-length P (inputs x.main) (chosen (port_choice 0) no_heading 0 (outline x)) (inputs-chosen P x (declarations-at t.stored t.resolved (tree_worked t.stored t.resolved)))
      in
      let few = all_few in
      let e = h.end in
      omega arith

  pub ports_placed : (old mid new : List ℕ) (ins count : ℕ) → max_names ≤ length old → length mid ≡ length old → Chooses (port_choice 0) (outline x) old 0 mid ins
      → Chooses (port_choice 1) (outline x) mid ins new count → PortsPlaced t new ins count
  ports_placed old mid new ins count room size h g =
      let P = DeclarationAt x text w refs in
      let at = declarations-at t.stored t.resolved (tree_worked t.stored t.resolved) in
      let I = inputs x.main in
      let O = outputs x.main in
      let is = chosen (port_choice 0) no_heading 0 (outline x) in
      let os = chosen (port_choice 1) no_heading 0 (outline x) in
      let ip = inputs-chosen P x at in
      let op = outputs-chosen P x at in
      let a = pairs-length P I is ip in
      let b = pairs-length P O os op in
      let few = all_few in
      let e = h.end in
      let f = g.end in
      let turn = signals-turnable x t.resolved.distinct in
      record {
        ins-along = along_both P (λ m. Turnable x (declared_name m)) new 0 I
            (along_from P new is 0 I ip (λ i l. ap (λ s. get_or s (0 + i) 0) g.stored ∙ get_or-sets-below mid ins os (0 + i) (omega arith) ∙ ap (λ s. get_or s (0 + i) 0) h.stored ∙ sets-read old 0 is
            i (omega arith) l)) turn.0;
        outs-along = along_both P (λ m. Turnable x (declared_name m)) new ins O
            (along_from P new os ins O op (λ i l. ap (λ s. get_or s (ins + i) 0) g.stored ∙ sets-read mid ins os i (omega arith) l)) turn.1;
        ins_total = omega arith;
        outs_total = omega arith;
        few = omega arith;
      }

-- what holds of all entries along things
pub along_each : {A : Type 0} (P : A → ℕ → Type 0) (Q : ℕ → Type 0) → ((a : A) (k : ℕ) → P a k → Q k) → (order : List ℕ) (j : ℕ) (l : List A) → Along P order j l → (i : ℕ) → j ≤ i → i < j + length l
    → Q (get_or order i 0)
along_each P Q f order j [] h i a b = absurd (omega arith)
along_each P Q f order j (x ∷ l) h i a b = go (i - j) refl (along_each P Q f order (suc j) l h.1 i)
  where
    go : (d : ℕ) → i - j ≡ d → (suc j ≤ i → i < suc j + length l → Q (get_or order i 0)) → Q (get_or order i 0)
    go zero e ih = subst (λ n. Q (get_or order n 0)) (omega arith) (f x (get_or order j 0) h.0)
    go (suc d) e ih = ih (omega arith) (omega arith)
