-- A formula's nodes moved are its nodes from the other place on.
use Rattle.std.specs.Prelude.{ℕ, ◌+◌, ◌-◌, ◌*◌, ◌≤◌, ◌<◌, ◌≡◌}
use Rattle.std.proofs.Math.Path.{refl, ap, ap₂}
use Rattle.std.proofs.Common.{◌∙◌}
use mathlib.Core.List.{List, [], ◌∷◌, ◌++◌, map, map-append}
use native.Mathlib.Omega.{arith}
use Rattle.node.specs.Limits.{field_limit}
use Rattle.node.specs.Ltl.{Unary, Binary, Formula, True, False, Signal, One, Two}
use Rattle.node.specs.Fields.{pack, kind_of}
use Rattle.node.proofs.FieldLaws.{kind-pack}
use Rattle.node.specs.Kinds.{shape_of, unary_kind, binary_kind}
use Rattle.node.proofs.KindLaws.{unary-shape, binary-shape}
use Rattle.node.specs.Postorder.{size, nodes_from, SignalsBelow}
use Rattle.node.proofs.PostorderLaws.{size_pos}
use Rattle.writing.specs.Moving.{weight, moved}

module _ (from to : ℕ) where
  moved-leaf : (k a : ℕ) → weight (shape_of k) ≡ 0 → a < field_limit → moved from to (pack k a 0) ≡ pack k a 0
  unfolding moved
  moved-leaf k a e h =
      let z : weight (shape_of (kind_of (pack k a 0))) ≡ 0 = ap (λ j. weight (shape_of j)) (kind-pack k h (omega arith)) ∙ e in
      ap (λ x. pack k a 0 - from * x + to * x) z ∙ omega arith

  moved-unary : (o : Unary) {a b : ℕ} → a < field_limit → from ≤ a → a - from + to ≡ b → moved from to (pack (unary_kind o) a 0) ≡ pack (unary_kind o) b 0
  unfolding moved
  moved-unary o {a} h l e =
      let z : weight (shape_of (kind_of (pack (unary_kind o) a 0))) ≡ field_limit = ap (λ j. weight (shape_of j)) (kind-pack (unary_kind o) h (omega arith)) ∙ ap weight (unary-shape o) in
      ap (λ x. pack (unary_kind o) a 0 - from * x + to * x) z ∙ omega arith

  moved-binary : (o : Binary) {a b c d : ℕ} → a < field_limit → b < field_limit → from ≤ a → from ≤ b → a - from + to ≡ c → b - from + to ≡ d
      → moved from to (pack (binary_kind o) a b) ≡ pack (binary_kind o) c d
  unfolding moved
  moved-binary o {a} {b} h g l m e f =
      let z : weight (shape_of (kind_of (pack (binary_kind o) a b))) ≡ field_limit + 1 = ap (λ j. weight (shape_of j)) (kind-pack (binary_kind o) h g) ∙ ap weight (binary-shape o) in
      ap (λ x. pack (binary_kind o) a b - from * x + to * x) z ∙ omega arith

  -- a formula's nodes from `base` on, moved
  pub moved-nodes : (base : ℕ) (f : Formula) → from ≤ base → base + size f ≤ field_limit → SignalsBelow field_limit f → map (moved from to) (nodes_from base f) ≡ nodes_from (base - from + to) f
  unfolding nodes_from size SignalsBelow
  moved-nodes base True h l s = ap (λ w. w ∷ []) (moved-leaf 0 0 refl (omega arith))
  moved-nodes base False h l s = ap (λ w. w ∷ []) (moved-leaf 1 0 refl (omega arith))
  moved-nodes base (Signal k) h l s = ap (λ w. w ∷ []) (moved-leaf 2 k refl s)
  moved-nodes base (One o a) h l s =
      let pos = size_pos a in
      map-append (moved from to) (nodes_from base a) _
      ∙ ap₂ (λ (x y : List ℕ). x ++ y) (moved-nodes base a h (omega arith) s) (ap (λ w. w ∷ []) (moved-unary o (omega arith) (omega arith) (omega arith)))
  moved-nodes base (Two o a b) h l s =
      let pos = size_pos a in
      let next : base + size a - from + to ≡ base - from + to + size a = omega arith in
      map-append (moved from to) (nodes_from base a) _
      ∙ ap₂ (λ (x y : List ℕ). x ++ y) (moved-nodes base a h (omega arith) s.0)
      (map-append (moved from to) (nodes_from (base + size a) b) _
      ∙ ap₂ (λ (x y : List ℕ). x ++ y) (moved-nodes (base + size a) b (omega arith) (omega arith) s.1 ∙ ap (λ n. nodes_from n b) next)
      (ap (λ w. w ∷ []) (moved-binary o (omega arith) (omega arith) (omega arith) (omega arith) (omega arith) (omega arith))))
