-- What is done with a node of a table whose formula is written into a shared table, and what has become of the array that holds that table (document 02, F-10).
use Rattle.std.specs.Prelude.{ℕ, zero, suc, ◌≤◌, ◌<◌, ◌≡◌, List, length, get_or}
use Rattle.node.specs.Limits.{max_nodes}
use Rattle.node.specs.Ltl.{Formula}
use Rattle.node.specs.Fields.{pack, kind_of, first_of, second_of}
use Rattle.node.specs.Kinds.{Shape, Truth, Falsehood, Atom, UnaryOf, BinaryOf, Unused, shape_of}
use Rattle.node.specs.Table.{tree_at}
use Rattle.node.specs.Formed.{Formed}
use Rattle.sharing.specs.Sharing.{write}
use Rattle.shared_table.specs.Shared.{capacity, Shares, Shared}
use Rattle.ordering.specs.declared.Next.{Next}
use Rattle.ordering.specs.declared.Next.TheVariants.{Operand, Word}

-- how many operands a shape has
abbrev pub arity : Shape → ℕ
arity Truth = 0
arity Falsehood = 0
arity Atom = 0
arity (UnaryOf o) = 1
arity (BinaryOf o) = 2
arity Unused = 2

abbrev pub arity_of : ℕ → ℕ
arity_of kind = arity (shape_of kind)

-- an operand whose number plus 1 is m comes next if that is 0, for no number; else what follows of its number
abbrev pub numbered : ℕ → ℕ → (ℕ → Next) → Next
numbered a zero rest = Operand a
numbered a (suc v) rest = rest v

-- what comes next at a node of this kind, these fields and n operands, where `memo` has the nodes' numbers plus 1: the first operand that has none, or the node's word over theirs
abbrev pub next_by : List ℕ → ℕ → ℕ → ℕ → ℕ → Next
next_by memo kind a b zero = Word (pack kind a b)
next_by memo kind a b (suc zero) = numbered a (get_or memo a 0) (λ v. Word (pack kind v 0))
next_by memo kind a b (suc (suc n)) = numbered a (get_or memo a 0) (λ v. numbered b (get_or memo b 0) (λ u. Word (pack kind v u)))

unfoldable pub next_of : List ℕ → ℕ → Next
next_of memo word = next_by memo (kind_of word) (first_of word) (second_of word) (arity_of (kind_of word))

-- the operands of the word are nodes of a table, and the numbers are those of one
pub record Readable (memo : List ℕ) (word : ℕ) : Type 0 where
  pub first : 1 ≤ arity_of (kind_of word) → first_of word < max_nodes
  pub second : 2 ≤ arity_of (kind_of word) → second_of word < max_nodes
  pub few : (k : ℕ) → get_or memo k 0 ≤ max_nodes

-- a table of the format with a node `root`, and an array that holds a shared table
pub record Orderable (nodes : List ℕ) (root : ℕ) (out : List ℕ) : Type 0 where
  pub limit : ℕ
  pub formed : Formed limit nodes
  pub inside : root < length nodes
  pub shared : Shared out

-- the formula is written behind table t, and its node has number r - 1
pub record Written (f : Formula) (out' t : List ℕ) (r : ℕ) : Type 0 where
  pub shares : Shares out' (write t f).table
  pub number : r ≡ suc (write t f).number

-- What has become of an array into which the formula of node `root` was written, whichever table it held; r past the last node's number plus 1 stands for no room.
pub record Orders (nodes : List ℕ) (root : ℕ) (out out' : List ℕ) (r : ℕ) : Type 0 where
  pub most : r ≤ suc max_nodes
  pub done : r ≤ max_nodes → (t : List ℕ) → Shares out t → Written (tree_at nodes root) out' t r
  pub refused : max_nodes < r → (t : List ℕ) → Shares out t → capacity (length out) < length (write t (tree_at nodes root)).table
