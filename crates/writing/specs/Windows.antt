-- Several copies of a formula's nodes one after another, and the chain that is linked over them.
use Rattle.std.specs.Prelude.{ℕ, zero, suc, ◌+◌, ◌-◌, ◌≡◌, List, length}
use Rattle.std.proofs.lemmas.List.Edits.{sets}
use Rattle.node.specs.Limits.{max_nodes, field_limit}
use Rattle.node.specs.Ltl.{Unary, Binary, Formula}
use Rattle.node.specs.Kinds.{unary_kind, binary_kind}
use Rattle.node.specs.Postorder.{size, nodes_from, SignalsBelow}
use Rattle.writing.specs.Writing.{Wrote, chain_by}

-- the index after n parts of the same size from `from` on
unfoldable pub place : ℕ → ℕ → ℕ → ℕ
place from size zero = from
place from size (suc n) = place from size n + size

-- a table with the formula's nodes n times from `from` on
unfoldable pub layers : Formula → ℕ → ℕ → List ℕ → List ℕ
layers a from zero out = out
layers a from (suc n) out = sets (layers a from n out) (place from (size a) n) (nodes_from (place from (size a) n) a)

-- n further copies of whatever formula was written from `from` on
pub record Layered (n from width : ℕ) (out out' : List ℕ) : Type 0 where
  pub copies : {a : Formula} {before : List ℕ} → length before ≡ max_nodes → Wrote a before out from (from + width) → out' ≡ layers a from (suc n) before

-- of n + 1 copies, the chain over those from the j-th on
pub record Linked (op next n j from width : ℕ) (out out' : List ℕ) (r : ℕ) : Type 0 where
  pub wrote : (o : Binary) → op ≡ binary_kind o → (x : Unary) → next ≡ unary_kind x → (a : Formula) (before : List ℕ) → size a ≡ width → SignalsBelow field_limit a
      → out ≡ layers a from (suc n) before → Wrote (chain_by x o (n - j) a) (layers a from j before) out' (place from width j) r

-- whatever formula a was written from `from` up to m: now its chain is, up to r. A list in a contract has any length; the table has 8,192 words.
pub record Windowed (op next n : ℕ) (out out' : List ℕ) (from m r : ℕ) : Type 0 where
  pub wrote : (o : Binary) → op ≡ binary_kind o → (x : Unary) → next ≡ unary_kind x → {a : Formula} {before : List ℕ} → length before ≡ max_nodes
      → Wrote a before out from m → Wrote (chain_by x o n a) before out' from r
