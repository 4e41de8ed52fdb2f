-- Laws of any table of the format: each node's subformulas are nodes; without equal nodes each tree is found at its number, so that no two trees are equal.
use Rattle.std.specs.Prelude.{ℕ, zero, suc, ◌<◌, ◌≡◌, refl, List, true, length, get_or, eqb, ltb}
use Rattle.std.proofs.Common.{ap, ap₂, ◌∙◌, sym, div-add-mod', arith}
use Rattle.std.proofs.Math.Path.{subst}
use Rattle.std.proofs.lemmas.Bool.{false≢true}
use borrow.Author.Tests.{ltb-true, eqb-true}
use Rattle.node.specs.Limits.{field_bits}
use Rattle.node.specs.Ltl.{Formula}
use Rattle.node.specs.Fields.{join, above, below, pack, kind_of, first_of, second_of}
use Rattle.node.specs.Kinds.{Shape, Truth, Falsehood, Atom, UnaryOf, BinaryOf, Unused, shape_of, build, unary_kind, binary_kind, true_kind, false_kind, signal_kind}
use Rattle.node.proofs.KindLaws.{no_shape, by_kind}
use Rattle.node.specs.Tests.{and_left, and_right}
use Rattle.node.specs.Formed.{Formed, Below}
use Rattle.node.specs.Table.{tree_at, fits}
use Rattle.node.proofs.TableLaws.{tree-step, node-is}
use Rattle.sharing.proofs.PlaceLaws.{Distinct, own-place}
use Rattle.sharing.proofs.StandsLaws.{At, Found, found-same}
use Rattle.sharing.specs.Subformulas.{Everywhere}

-- what holds of each tree holds of each subformula of a tree
module _ (P : Formula → Type 0) where
  build_everywhere : (limit : ℕ) (s : Shape) (t : ℕ → Formula) (n a b : ℕ) → Below limit s n a b → P (build s t a b) → ((k : ℕ) → k < n → Everywhere P (t k))
      → Everywhere P (build s t a b)
  unfolding Everywhere
  build_everywhere limit Truth t n a b l p e = p
  build_everywhere limit Falsehood t n a b l p e = p
  build_everywhere limit Atom t n a b l p e = p
  build_everywhere limit (UnaryOf o) t n a b l p e = (e a l, p)
  build_everywhere limit (BinaryOf o) t n a b l p e = (e a l.0, e b l.1, p)
  build_everywhere limit Unused t n a b l p e = absurd l

  below_everywhere : {limit : ℕ} {ws : List ℕ} → Formed limit ws → ((i : ℕ) → i < length ws → P (tree_at ws i)) → (d i : ℕ) → i < d → i < length ws → Everywhere P (tree_at ws i)
  below_everywhere f p zero i l h = absurd (omega arith)
  below_everywhere {limit} {ws} f p (suc d) i l h =
      let w : ℕ = get_or ws i 0 in
      let n = node-is i (kind_of w) (first_of w) (second_of w) f h refl refl refl in
      rw n.tree (build_everywhere limit (shape_of (kind_of w)) (tree_at ws) i (first_of w) (second_of w) n.lower (rw n.tree at (p i h))
      (λ k hk. below_everywhere f p d k (omega arith) (omega arith)))

  pub tree_everywhere : {limit : ℕ} {ws : List ℕ} → Formed limit ws → ((i : ℕ) → i < length ws → P (tree_at ws i)) → (i : ℕ) → i < length ws → Everywhere P (tree_at ws i)
  tree_everywhere f p i h = below_everywhere f p (suc i) i (omega arith) h

-- the kind of a shape
abbrev pub kind_for : Shape → ℕ
kind_for Truth = 0
kind_for Falsehood = 1
kind_for Atom = 2
kind_for (UnaryOf o) = unary_kind o
kind_for (BinaryOf o) = binary_kind o
kind_for Unused = 14

pub kind_for_lem : (k : ℕ) → (shape_of k ≡ Unused → ⊥) → kind_for (shape_of k) ≡ k
kind_for_lem =
    by_kind (λ k. (shape_of k ≡ Unused → ⊥) → kind_for (shape_of k) ≡ k) (
      (((((((((((((tt, λ n. refl), λ n. refl), λ n. refl), λ n. refl), λ n. refl), λ n. refl), λ n. refl), λ n. refl), λ n. refl), λ n. refl), λ n. refl), λ n. refl), λ n. refl),
      λ n. refl,
    )
    (λ k h n. absurd (n (no_shape h)))

-- a word is its fields put together
split-join : (w x : ℕ) → join w (above w x) (below w x) ≡ x
split-join w x = div-add-mod' x _

pub split-pack : (x : ℕ) → pack (kind_of x) (first_of x) (second_of x) ≡ x
split-pack x = ap (λ (y : ℕ). join field_bits y (second_of x)) (split-join field_bits (above field_bits x)) ∙ split-join field_bits x

-- a shape that fits is one that is used
pub fits-used : (limit n : ℕ) (s : Shape) (a b : ℕ) → fits limit n s a b ≡ true → s ≡ Unused → ⊥
fits-used limit n s a b ok e = false≢true (subst (λ (x : Shape). fits limit n x a b ≡ true) e ok)

module _ (ws : List ℕ) where
  -- a node that fits, over operands that are found, is found
  build-found : (limit n : ℕ) (s : Shape) (a b : ℕ) → fits limit n s a b ≡ true → At ws (pack (kind_for s) a b) n → ((k : ℕ) → k < n → Found ws (tree_at ws k) k)
      → Found ws (build s (tree_at ws) a b) n
  unfolding Found
  build-found limit n Truth a b ok h e =
      let p = eqb-true a 0 (and_left (eqb a 0) (eqb b 0) ok) in
      let q = eqb-true b 0 (and_right (eqb a 0) (eqb b 0) ok) in
      subst (λ (x : ℕ). At ws x n) (ap₂ (pack true_kind) p q) h
  build-found limit n Falsehood a b ok h e =
      let p = eqb-true a 0 (and_left (eqb a 0) (eqb b 0) ok) in
      let q = eqb-true b 0 (and_right (eqb a 0) (eqb b 0) ok) in
      subst (λ (x : ℕ). At ws x n) (ap₂ (pack false_kind) p q) h
  build-found limit n Atom a b ok h e =
      let q = eqb-true b 0 (and_right (ltb a limit) (eqb b 0) ok) in
      subst (λ (x : ℕ). At ws x n) (ap (pack signal_kind a) q) h
  build-found limit n (UnaryOf o) a b ok h e =
      let l = ltb-true a n (and_left (ltb a n) (eqb b 0) ok) in
      let q = eqb-true b 0 (and_right (ltb a n) (eqb b 0) ok) in
      (a, e a l, subst (λ (x : ℕ). At ws x n) (ap (pack (unary_kind o) a) q) h)
  build-found limit n (BinaryOf o) a b ok h e =
      let l = ltb-true a n (and_left (ltb a n) (ltb b n) ok) in
      let r = ltb-true b n (and_right (ltb a n) (ltb b n) ok) in
      (a, b, e a l, e b r, h)
  build-found limit n Unused a b ok h e = absurd (false≢true ok)

  module _ (limit : ℕ) (f : Formed limit ws) (d : Distinct ws) where
    below-found : (m i : ℕ) → i < m → i < length ws → Found ws (tree_at ws i) i
    below-found zero i l h = absurd (omega arith)
    below-found (suc m) i l h =
        let w : ℕ = get_or ws i 0 in
        let s : Shape = shape_of (kind_of w) in
        let ok = f.each i h in
        let k : kind_for s ≡ kind_of w = kind_for_lem (kind_of w) (fits-used limit i s (first_of w) (second_of w) ok) in
        let p : pack (kind_for s) (first_of w) (second_of w) ≡ w = ap (λ (x : ℕ). pack x (first_of w) (second_of w)) k ∙ split-pack w in
        let at : At ws w i = record { inside = h; found = own-place ws d i h } in
        subst (λ (g : Formula). Found ws g i) (sym (tree-step limit ws i h ok))
        (build-found limit i s (first_of w) (second_of w) ok (subst (λ (x : ℕ). At ws x i) (sym p) at) (λ j hj. below-found m j (omega arith) (omega arith)))

    -- without equal nodes each tree is found at its number
    pub formed-found : (i : ℕ) → i < length ws → Found ws (tree_at ws i) i
    formed-found i h = below-found (suc i) i (omega arith) h

    -- so no two trees are equal
    pub distinct-trees : (i j : ℕ) → i < length ws → j < length ws → tree_at ws i ≡ tree_at ws j → i ≡ j
    distinct-trees i j hi hj e = found-same ws (tree_at ws j) i j (subst (λ (g : Formula). Found ws g i) e (formed-found i hi)) (formed-found j hj)
