-- Rows that are right, one after the other: what the loop over the nodes has done.
use Rattle.std.specs.Prelude.{ℕ, ◌*◌, ◌≤◌, ◌<◌, ◌≡◌, List, length, get_or}
use Rattle.node.specs.Limits.{max_nodes}
use Rattle.node.specs.Fields.{kind_of, first_of, second_of}
use Rattle.node.specs.Kinds.{Shape, shape_of, build}
use Rattle.node.specs.Table.{tree_at}
use Rattle.rows.specs.Memory.{bits_at, Kept}
use Rattle.bits.specs.Bits.{width}
use Rattle.rows.specs.Row.{node_row, shown}
use Rattle.rows.specs.Shapes.{Uses}
use Rattle.recordings.specs.Promise.{Recorded}
use Rattle.recordings.specs.declared.Lasso.{Lasso}

-- a table in order, as the rows need it: each node's tree is made of the trees of earlier nodes
pub record NodeOf (ws : List ℕ) (i : ℕ) (s : Shape) (a b : ℕ) : Type 0 where
  pub tree : tree_at ws i ≡ build s (tree_at ws) a b
  pub uses : Uses s (a < i) (b < i)

pub record Trees (ws : List ℕ) : Type 0 where
  pub few : length ws ≤ max_nodes
  pub each : (i : ℕ) → i < length ws → NodeOf ws i (shape_of (kind_of (get_or ws i 0))) (first_of (get_or ws i 0)) (second_of (get_or ws i 0))

-- row i is right, spare bits included
abbrev pub RightRow : List ℕ → Lasso → List ℕ → List ℕ → ℕ → Type 0
RightRow bs w ws rows i = (p : ℕ) → p < 8 * width w.n → bits_at rows (width w.n * i) p ≡ shown w.n (node_row bs w ws i) p

-- rows 0 to count - 1 are right, and bytes past them as before
pub record Evaluated (bs : List ℕ) (w : Lasso) (ws : List ℕ) (count : ℕ) (old new : List ℕ) : Type 0 where
  pub size : length new ≡ length old
  pub right : (i : ℕ) → i < count → RightRow bs w ws new i
  pub beyond : (k : ℕ) → width w.n * count ≤ k → get_or new k 0 ≡ get_or old k 0

pub record RowDone (bs : List ℕ) (w : Lasso) (ws : List ℕ) (i : ℕ) (old new : List ℕ) : Type 0 where
  pub kept : Kept (width w.n * i) (width w.n) old new
  pub right : RightRow bs w ws new i

-- what the evaluation of node i requires
pub record Turn (ws bs : List ℕ) (w : Lasso) (i : ℕ) (rows : List ℕ) : Type 0 where
  pub trees : Trees ws
  pub recorded : Recorded bs w
  pub here : i < length ws
  pub room : width w.n * length ws ≤ length rows
  pub right : (j : ℕ) → j < i → RightRow bs w ws rows j

-- what the evaluation of all nodes requires
pub record Table (ws bs : List ℕ) (w : Lasso) (rows : List ℕ) : Type 0 where
  pub some : 0 < length ws
  pub trees : Trees ws
  pub recorded : Recorded bs w
  pub room : width w.n * length ws ≤ length rows
