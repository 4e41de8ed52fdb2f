-- The deepest tables: a signal, and nodes of one kind, each over the node before.
use Rattle.std.specs.Prelude.{ℕ, ◌-◌, ◌≤◌, ◌<◌, ◌≡◌, Bool, true, false, List, get_or}
use Rattle.node.specs.Fields.{pack}

-- the second operand: the node before once more where nodes are shared, otherwise node 0
abbrev pub second_of : Bool → ℕ → ℕ
second_of true before = before
second_of false before = 0

-- the nodes below number n are those of the chain
pub record ChainTo (kind : ℕ) (shared : Bool) (nodes : List ℕ) (n : ℕ) : Type 0 where
  pub leaf : get_or nodes 0 0 ≡ pack 2 0 0
  pub each : (i : ℕ) → 1 ≤ i → i < n → get_or nodes i 0 ≡ pack kind (i - 1) (second_of shared (i - 1))
