-- Every expression of a tree stands in the buffer, and for all ports and every table of declared names the context in which it is worked out agrees with their
-- world.
use Rattle.std.specs.Prelude.{ℕ, suc, ◌+◌, ◌-◌, false, List, [], ◌∷◌, ◌++◌, length}
use Rattle.language.specs.Tokens.{tokens}
use Rattle.language.specs.Tree.{Expr, Named, Parameter, Definition, Defined, Enumerated, Declaration, OneSignal, OfWidth, OfType, Subsection, Inputs, Outputs, Lines, Spec}
use Rattle.language.specs.DeclaredNames.{Table, Port}
use Rattle.language.specs.Expansion.{context_of, define_all}
use Rattle.entries.specs.Flat.{Entry, flat, each, flat_parameter, flat_definition, flat_declaration, flat_line, flat_subsection}
use Rattle.names.specs.Resolved.{declared_names}
use Rattle.name_values.specs.World.{World}
use Rattle.name_values.specs.Known.{Known}
use Rattle.name_values.specs.Worlds.{world_of}
use Rattle.name_values.specs.Passing.{Here}

-- where the definitions' entries start, and MAIN's
abbrev pub definitions_start : Spec → ℕ
definitions_start x = length (each flat_parameter x.parameters)

abbrev pub main_start : Spec → ℕ
main_start x = definitions_start x + length (each flat_definition x.definitions)

-- the world of a text's names, by ports and a table
abbrev pub world_in : Spec → List Port → Table → World
world_in x ps d = world_of ps d (definitions_start x) x.definitions (declared_names x)

-- the expression at entry k, after some of the definitions
pub record Worked (x : Spec) (text w refs : List ℕ) (before : List Definition) (k : ℕ) (e : Expr) : Type 0 where
  pub here : Here x text w refs k e
  pub known : (ps : List Port) (d : Table) → Known (tokens text) w refs (world_in x ps d) [] (define_all (context_of ps d) before) false k e

-- P of all things of a list and of the entries where theirs start
abbrev pub EachFrom : {A : Type 0} → (A → List Entry) → (ℕ → A → Type 0) → ℕ → List A → Type 0
EachFrom flatten P start [] = Unit {0}
EachFrom flatten P start (a ∷ l) = P start a × EachFrom flatten P (start + length (flatten a)) l

module _ (x : Spec) (text w refs : List ℕ) where
  -- what starts with entry `start`; the enumeration of a bus is a name that it uses
  abbrev pub Parameterwise : ℕ → Parameter → Type 0
  Parameterwise start p = Worked x text w refs [] (start + length (flat p.value) - 1) p.value

  abbrev pub Definitionwise : List Definition → ℕ → List Definition → Type 0
  Definitionwise before start [] = Unit {0}
  Definitionwise before start (Defined n e ∷ ds) =
      Worked x text w refs before (start + length (flat e) - 1) e × Definitionwise (before ++ Defined n e ∷ []) (start + length (flat_definition (Defined n e))) ds
  Definitionwise before start (Enumerated n is ∷ ds) = Definitionwise (before ++ Enumerated n is ∷ []) (start + length (flat_definition (Enumerated n is))) ds

  abbrev pub Linewise : ℕ → Expr → Type 0
  Linewise start e = Worked x text w refs x.definitions (start + length (flat e) - 1) e

  abbrev pub Declarationwise : ℕ → Declaration → Type 0
  Declarationwise start (OneSignal n) = Unit {0}
  Declarationwise start (OfWidth n e) = Linewise start e
  Declarationwise start (OfType u n) = Linewise start (Named u)

  abbrev pub Subsectionwise : ℕ → Subsection → Type 0
  Subsectionwise start (Inputs ds) = EachFrom flat_declaration Declarationwise (suc start) ds
  Subsectionwise start (Outputs ds) = EachFrom flat_declaration Declarationwise (suc start) ds
  Subsectionwise start (Lines p es) = EachFrom flat_line Linewise (suc start) es

  pub record TreeWorked : Type 0 where
    pub parameters : EachFrom flat_parameter Parameterwise 0 x.parameters
    pub definitions : Definitionwise [] (definitions_start x) x.definitions
    pub main : EachFrom flat_subsection Subsectionwise (main_start x) x.main
