-- The entries of the inputs and of the outputs are in a slice.
use Rattle.std.specs.Prelude.{ℕ, ◌+◌, ◌≤◌, List, ◌≡◌, length}
use Rattle.language.specs.Limits.{max_names}
use Rattle.language.specs.Tree.{Spec}
use Rattle.language.specs.DeclaredNames.{inputs, outputs}
use Rattle.language.specs.Listed.{declared_name}
use Rattle.notes.specs.Owned.{DeclarationAt}
use Rattle.declarations.specs.Along.{Along}
use Rattle.declarations.specs.Turnable.{Turnable}
use Rattle.declarations.specs.Trees.{Tree}

module _ {text w refs found : List ℕ} {entries names : ℕ} {x : Spec} (t : Tree text w refs found entries names x) where
  -- inputs from the first position on, then outputs
  pub record PortsPlaced (places : List ℕ) (ins count : ℕ) : Type 0 where
    pub ins-along : Along (λ m k. DeclarationAt x text w refs m k × Turnable x (declared_name m)) places 0 (inputs x.main)
    pub outs-along : Along (λ m k. DeclarationAt x text w refs m k × Turnable x (declared_name m)) places ins (outputs x.main)
    pub ins_total : length (inputs x.main) ≡ ins
    pub outs_total : ins + length (outputs x.main) ≡ count
    pub few : count ≤ max_names
