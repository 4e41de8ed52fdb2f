-- A table of the format, what is known of its nodes, and what the code's test of it tells. Laws in TableLaws.
use Rattle.std.specs.Prelude.{ℕ, suc, ◌<◌, ◌≤◌, ◌≡◌, List, [], ◌∷◌, Bool, true, ◌&&◌, length, get_or}
use Rattle.node.specs.Limits.{max_nodes}
use Rattle.node.specs.Kinds.{Shape, Truth, Falsehood, Atom, UnaryOf, BinaryOf, Unused, build}
use Rattle.node.specs.Result.{Result, Done, Counts}
use Rattle.node.specs.Table.{tree_at, node_fits}

-- a table of the format, its signal numbers below `limit`
pub record Formed (limit : ℕ) (ws : List ℕ) : Type 0 where
  pub some : 0 < length ws
  pub few : length ws ≤ max_nodes
  pub each : (i : ℕ) → i < length ws → node_fits limit i (get_or ws i 0) ≡ true

-- a node's operands come before it, its signal's number lies below the limit
abbrev pub Below : ℕ → Shape → ℕ → ℕ → ℕ → Type 0
Below limit Truth n a b = Unit {0}
Below limit Falsehood n a b = Unit {0}
Below limit Atom n a b = a < limit
Below limit (UnaryOf o) n a b = a < n
Below limit (BinaryOf o) n a b = (a < n) × (b < n)
Below limit Unused n a b = ⊥

-- what is known of node i: its formula, of its operands' formulas, and that these come before it
pub record NodeIs (limit : ℕ) (ws : List ℕ) (i : ℕ) (s : Shape) (a b : ℕ) : Type 0 where
  pub tree : tree_at ws i ≡ build s (tree_at ws) a b
  pub lower : Below limit s i a b

-- does each word fit, the first of them as node n?
unfoldable pub all_fit : ℕ → ℕ → List ℕ → Bool
all_fit limit n [] = true
all_fit limit n (w ∷ ws) = node_fits limit n w && all_fit limit (suc n) ws

-- the counts of a table that is accepted
abbrev pub counted : ℕ → List ℕ → Result Counts
counted limit ws = Done (record { nodes = length ws; signals = limit })
