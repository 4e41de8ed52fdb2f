-- A formula's own nodes are a table of the format, and its root is the formula.
use Prim.Native.Nat.{ℕ, suc, ◌+◌, ◌-◌, ◌<◌, ◌≤◌}
use Rattle.std.specs.Prelude.{◌≡◌, true, length}
use Rattle.std.proofs.Math.Path.{refl, ap}
use Rattle.std.proofs.Common.{◌∙◌, sym}
use mathlib.Core.List.{List, [], ◌∷◌, ◌++◌, append_assoc, append-nil}
use native.Mathlib.Omega.{arith}
use borrow.Author.Tests.{lt-ltb, le-leb}
use Rattle.node.specs.Limits.{max_nodes, field_limit}
use Rattle.node.specs.Ltl.{Formula, True, False, Signal, One, Two}
use Rattle.node.specs.Fields.{pack}
use Rattle.node.proofs.FieldLaws.{kind-pack, first-pack, second-pack}
use Rattle.node.specs.Kinds.{Shape, shape_of, unary_kind, binary_kind, true_kind, false_kind, signal_kind}
use Rattle.node.proofs.KindLaws.{unary-shape, binary-shape}
use Rattle.node.specs.Result.{Result, Done, Counts}
use Rattle.node.proofs.ResultLaws.{guard-pass}
use Rattle.node.specs.Table.{tree_at, root, fits, node_fits, scanned, checked}
use Rattle.node.specs.Postorder.{size, nodes_from, SignalsBelow}
use Rattle.node.proofs.PostorderLaws.{size_pos, length-nodes, root_is}

-- a word put together fits as its fields do
pub fits-pack : (limit n k a b : ℕ) {s : Shape} → a < field_limit → b < field_limit → shape_of k ≡ s → fits limit n s a b ≡ true → node_fits limit n (pack k a b) ≡ true
fits-pack limit n k a b ha hb e h = simp (kind-pack k ha hb, first-pack k ha hb, second-pack k a hb, e) h

module _ {A : Type 0} (limit : ℕ) (small : limit ≤ field_limit) (r : Result A) where
  scan-one : (n m w : ℕ) (ws : List ℕ) → node_fits limit n w ≡ true → suc n ≡ m → scanned limit n (w ∷ ws) r ≡ scanned limit m ws r
  unfolding scanned
  scan-one n m w ws h e = guard-pass 19 n _ h ∙ ap (λ (k : ℕ). scanned limit k ws r) e

  -- the scan passes a formula's own nodes
  scan-nodes : (base : ℕ) (f : Formula) (ws : List ℕ) → SignalsBelow limit f → base + size f ≤ field_limit
      → scanned limit base (nodes_from base f ++ ws) r ≡ scanned limit (base + size f) ws r
  unfolding nodes_from size SignalsBelow
  scan-nodes base True ws s h = scan-one base (base + 1) (pack true_kind 0 0) ws (fits-pack limit base true_kind 0 0 (omega arith) (omega arith) refl refl) (omega arith)
  scan-nodes base False ws s h = scan-one base (base + 1) (pack false_kind 0 0) ws (fits-pack limit base false_kind 0 0 (omega arith) (omega arith) refl refl) (omega arith)
  scan-nodes base (Signal k) ws s h =
      scan-one base (base + 1) (pack signal_kind k 0) ws (fits-pack limit base signal_kind k 0 (omega arith) (omega arith) refl (rw (lt-ltb k limit s))) (omega arith)
  scan-nodes base (One o a) ws s h =
      let p = size_pos a in
      let n : ℕ = base + size a in
      let w : ℕ = pack (unary_kind o) (n - 1) 0 in
      let low : n - 1 < n = omega arith in
      ap (λ (x : List ℕ). scanned limit base x r) (append_assoc (nodes_from base a) (w ∷ []) ws)
      ∙ scan-nodes base a (w ∷ ws) s (omega arith)
      ∙ scan-one n (base + (size a + 1)) w ws (fits-pack limit n (unary_kind o) (n - 1) 0 (omega arith) (omega arith) (unary-shape o) (rw (lt-ltb (n - 1) n low))) (omega arith)
  scan-nodes base (Two o a b) ws s h =
      let p = size_pos a in
      let q = size_pos b in
      let m : ℕ = base + size a in
      let n : ℕ = m + size b in
      let w : ℕ = pack (binary_kind o) (m - 1) (n - 1) in
      let first : m - 1 < n = omega arith in
      let second : n - 1 < n = omega arith in
      ap (λ (x : List ℕ). scanned limit base x r)
      (append_assoc (nodes_from base a) (nodes_from m b ++ (w ∷ [])) ws ∙ ap (λ (x : List ℕ). nodes_from base a ++ x) (append_assoc (nodes_from m b) (w ∷ []) ws))
      ∙ scan-nodes base a (nodes_from m b ++ (w ∷ ws)) s.0 (omega arith)
      ∙ scan-nodes m b (w ∷ ws) s.1 (omega arith)
      ∙ scan-one n (base + (size a + size b + 1)) w ws
      (fits-pack limit n (binary_kind o) (m - 1) (n - 1) (omega arith) (omega arith) (binary-shape o) (rw (lt-ltb (m - 1) n first, lt-ltb (n - 1) n second)))
      (omega arith)

-- a formula's own nodes pass the test of a table
pub own-checked : (limit : ℕ) (f : Formula) → limit ≤ field_limit → SignalsBelow limit f → size f ≤ max_nodes
    → checked limit (nodes_from 0 f) ≡ Done (record { nodes = size f; signals = limit })
unfolding checked scanned
own-checked limit f small s h =
    let p = size_pos f in
    let l = length-nodes 0 f in
    let counts : Result Counts = Done (record { nodes = length (nodes_from 0 f); signals = limit }) in
    guard-pass 19 0 _ (lt-ltb 0 (length (nodes_from 0 f)) (omega arith))
    ∙ guard-pass 19 max_nodes _ (le-leb (length (nodes_from 0 f)) max_nodes (omega arith))
    ∙ ap (λ (x : List ℕ). scanned limit 0 x counts) (sym (append-nil (nodes_from 0 f)))
    ∙ scan-nodes limit small counts 0 f [] s (omega arith)
    ∙ ap (λ (k : ℕ). Done (record { nodes = k; signals = limit })) l

-- their root is the formula
pub own_root : (f : Formula) → SignalsBelow field_limit f → size f ≤ max_nodes → root (nodes_from 0 f) ≡ f
own_root f s h =
    ap (λ (k : ℕ). tree_at (nodes_from 0 f) (k - 1)) (length-nodes 0 f)
    ∙ ap (λ (x : List ℕ). tree_at x (size f - 1)) (sym (append-nil (nodes_from 0 f)))
    ∙ root_is f [] s (omega arith)
