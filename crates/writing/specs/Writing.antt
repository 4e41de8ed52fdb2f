-- What the writing functions ensure: words stored from an index on, with the next index; or that they do not fit a table of 8,192.
use Rattle.std.specs.Prelude.{ℕ, ◌+◌, ◌<◌, ◌≤◌, ◌≡◌, List, length}
use Rattle.std.proofs.lemmas.List.Edits.{sets}
use Rattle.node.specs.Limits.{max_nodes, field_limit}
use Rattle.node.specs.Ltl.{Unary, Binary, Formula, One, Two}
use Rattle.node.specs.Kinds.{unary_kind, binary_kind}
use Rattle.node.specs.Postorder.{nodes_from, SignalsBelow}
pub use Rattle.node.specs.Derived.{truth, repeats, nexts, chain_by, chain}

-- the words vs from index `at` on, and r is the next index
pub record Stored (vs out out' : List ℕ) (at r : ℕ) : Type 0 where
  pub next : r ≡ at + length vs
  pub words : out' ≡ sets out at vs

-- stored; or an index past the last for words that do not fit
pub record Puts (vs out out' : List ℕ) (at r : ℕ) : Type 0 where
  pub stored : r ≤ max_nodes → Stored vs out out' at r
  pub many : max_nodes < r → max_nodes < at + length vs

-- the formula's nodes, numbered from `at`; its signal numbers fit their field
pub record Wrote (f : Formula) (out out' : List ℕ) (at r : ℕ) : Type 0 where
  pub puts : Puts (nodes_from at f) out out' at r
  pub signals : r ≤ max_nodes → SignalsBelow field_limit f

-- whatever formula a was written from `at` up to m: now `g a` is, up to r
pub record Becomes (g : Formula → Formula) (out out' : List ℕ) (at m r : ℕ) : Type 0 where
  pub wrote : {a : Formula} {before : List ℕ} → Wrote a before out at m → Wrote (g a) before out' at r

-- the operator of one operand numbered `op`, over what was written up to m
abbrev pub Caps : ℕ → List ℕ → List ℕ → ℕ → ℕ → Type 0
Caps op out out' m r = (o : Unary) → op ≡ unary_kind o → (at : ℕ) → Becomes (One o) out out' at m r

-- the operator of two operands numbered `op`, over what was written up to m and from there up to n
pub record Joins (op : ℕ) (out out' : List ℕ) (m n r : ℕ) : Type 0 where
  pub wrote : (o : Binary) → op ≡ binary_kind o → {a b : Formula} {before between : List ℕ} {at : ℕ}
      → Wrote a before between at m → Wrote b between out m n → Wrote (Two o a b) before out' at r

-- n times the next numbered `next` over what was written up to m
abbrev pub Nexts : ℕ → ℕ → List ℕ → List ℕ → ℕ → ℕ → Type 0
Nexts next n out out' m r = (x : Unary) → next ≡ unary_kind x → (at : ℕ) → Becomes (repeats x n) out out' at m r
