-- What the writing functions ensure: the array's table with a formula's nodes, each unless it stands there already, and the index behind the formula's own; or that
-- there is no room for them. Laws: of arrays in StayLaws, of a formula in WritingLaws, of one that is kept in KeptLaws, of one alone in OwnLaws, of one among others in
-- BelongLaws, of each function in StepLaws and WindowLaws.
use Rattle.std.specs.Prelude.{ℕ, suc, ◌+◌, ◌-◌, ◌*◌, ◌<◌, ◌≤◌, ◌≡◌, List, length}
use Rattle.node.specs.Limits.{max_nodes, field_limit}
use Rattle.node.specs.Ltl.{Unary, Binary, Formula, One, Two}
use Rattle.node.specs.Kinds.{unary_kind, binary_kind}
use Rattle.node.specs.Postorder.{SignalsBelow}
use Rattle.sharing.specs.Sharing.{write}
use Rattle.sharing.proofs.WriteLaws.{Grows}
use Rattle.sharing.proofs.StandsLaws.{Stands}
use Rattle.shared_table.specs.Shared.{nodes_start, capacity, Shares}
pub use Rattle.node.specs.Derived.{truth, repeats, chain_by}

-- how many words an array has that holds a table of 8,192 nodes
abbrev pub table_words : ℕ
table_words = nodes_start + 3 * max_nodes

-- the array holds table t with more behind it
pub record Grown (t out' : List ℕ) : Type 0 where
  pub table : List ℕ
  pub shares : Shares out' table
  pub grows : Grows t table

-- whatever was written after index n, up to r: the array is as long as it was, its table has only grown, and after an index past the last there comes no other
pub record Stays (out out' : List ℕ) (n r : ℕ) : Type 0 where
  pub long : length out' ≡ length out
  pub further : r ≤ max_nodes → n ≤ max_nodes
  pub grown : (t : List ℕ) → Shares out t → Grown t out'

-- table t with the formula's nodes is held, and r stands behind the formula's own
pub record Held (f : Formula) (out' t : List ℕ) (r : ℕ) : Type 0 where
  pub shares : Shares out' (write t f).table
  pub number : r ≡ suc (write t f).number

-- the formula is written, and its signal numbers fit their field; or an index past the last for nodes that do not fit, or where `at` was such an index
pub record Wrote (f : Formula) (out out' : List ℕ) (at r : ℕ) : Type 0 where
  pub stays : Stays out out' at r
  pub held : r ≤ max_nodes → (t : List ℕ) → Shares out t → Held f out' t r
  pub many : max_nodes < r → at ≤ max_nodes → (t : List ℕ) → Shares out t → capacity (length out) < length (write t f).table
  pub signals : r ≤ max_nodes → SignalsBelow field_limit f

-- the operator of one operand numbered `op`, over what was written up to m
pub record Caps (op : ℕ) (out out' : List ℕ) (m r : ℕ) : Type 0 where
  pub stays : Stays out out' m r
  pub wrote : (o : Unary) → op ≡ unary_kind o → {a : Formula} {before : List ℕ} {at : ℕ} → Wrote a before out at m → Wrote (One o a) before out' at r

-- the operator of two operands numbered `op`, over what was written up to m and after that up to n
pub record Joins (op : ℕ) (out out' : List ℕ) (m n r : ℕ) : Type 0 where
  pub stays : Stays out out' n r
  pub wrote : (o : Binary) → op ≡ binary_kind o → {a b : Formula} {before between : List ℕ} {at : ℕ}
      → Wrote a before between at m → Wrote b between out m n → Wrote (Two o a b) before out' at r

-- n times the next numbered `next` over what was written up to m
pub record Nexts (next n : ℕ) (out out' : List ℕ) (m r : ℕ) : Type 0 where
  pub stays : Stays out out' m r
  pub wrote : (x : Unary) → next ≡ unary_kind x → {a : Formula} {before : List ℕ} {at : ℕ} → Wrote a before out at m → Wrote (repeats x n a) before out' at r

-- n + 1 times what was written up to m, in a chain of the operator of two operands numbered `op` and the next numbered `next`
pub record Windowed (op next n : ℕ) (out out' : List ℕ) (m r : ℕ) : Type 0 where
  pub stays : Stays out out' m r
  pub wrote : (o : Binary) → op ≡ binary_kind o → (x : Unary) → next ≡ unary_kind x → {a : Formula} {before : List ℕ} {at : ℕ}
      → Wrote a before out at m → Wrote (chain_by x o n a) before out' at r

-- the formula stands in the array's table as the node before v: what is kept of one that was written
pub record Kept (f : Formula) (out : List ℕ) (v : ℕ) : Type 0 where
  pub some : 1 ≤ v
  pub stands : (t : List ℕ) → Shares out t → Stands t f (v - 1)
  pub signals : SignalsBelow field_limit f
