-- The nodes that are being written, on a stack: a node's number, and how many of its operands are written; and what of them is left to be written.
use Rattle.std.specs.Prelude.{ℕ, zero, suc, ◌+◌, ◌/◌, ◌%◌, ◌<◌, ◌≤◌, ◌≡◌, List, [], ◌++◌, length, get_or}
use Rattle.node.specs.Limits.{max_nodes}
use Rattle.node.specs.Fields.{kind_of}
use Rattle.node.specs.Kinds.{Shape, shape_of}
use Rattle.node.specs.Table.{tree_at}
use Rattle.node.specs.Formed.{Formed}
use Rattle.signal_names.specs.Promise.{Held, Puts}
use Rattle.layout.specs.Layout.{operands, left}
use Rattle.layout.specs.declared.formula.Turn.{Turn}

abbrev pub owner : ℕ → ℕ
owner e = e % max_nodes

abbrev pub written : ℕ → ℕ
written e = e / max_nodes

abbrev pub owed : (name : ℕ → List ℕ) (nodes : List ℕ) → ℕ → List ℕ
owed name nodes e = left name (written e) (tree_at nodes (owner e))

-- what the lowest h entries owe, the highest first
abbrev pub todo : (name : ℕ → List ℕ) (nodes stack : List ℕ) → ℕ → List ℕ
todo name nodes stack zero = []
todo name nodes stack (suc h) = owed name nodes (get_or stack h 0) ++ todo name nodes stack h

abbrev pub shape_at : List ℕ → ℕ → Shape
shape_at nodes i = shape_of (kind_of (get_or nodes i 0))

-- an entry at index k: numbers fall towards the top, so there is room for all
pub record Entry (nodes : List ℕ) (k e : ℕ) : Type 0 where
  pub low : owner e + k < length nodes
  pub some : written e ≤ operands (shape_at nodes (owner e))

pub record Stacked (nodes stack : List ℕ) (h : ℕ) : Type 0 where
  pub each : (k : ℕ) → k < h → Entry nodes k (get_or stack k 0)
  pub room : max_nodes ≤ length stack

-- a table of the format, with the names of its signals
pub record Scene (nodes names sizes : List ℕ) : Type 0 where
  pub limit : ℕ
  pub formed : Formed limit nodes
  pub held : Held names sizes limit

-- operand k
abbrev pub operand_at : ℕ → ℕ → ℕ → ℕ
operand_at zero a b = a
operand_at (suc k) a b = b

-- one turn: some bytes of what was owed are written
pub record Turns (name : ℕ → List ℕ) (nodes stack stack' out out' : List ℕ) (h at : ℕ) (r : Turn) : Type 0 where
  pub bytes : List ℕ
  pub split : todo name nodes stack h ≡ bytes ++ todo name nodes stack' r.height
  pub puts : Puts bytes out out' at r.at
  pub some : 0 < length bytes
  pub stacked : Stacked nodes stack' r.height
  pub kept : length stack' ≡ length stack
