-- What the code reads of a node, and the size that it makes of it.
use Rattle.std.specs.Prelude.{ℕ, ◌+◌, ◌<◌, ◌≤◌, ◌≡◌, refl, Bool, true, List, length, get_or}
use Rattle.std.proofs.Common.{ap, ◌∙◌, sym, arith}
use Rattle.node.specs.Fields.{kind_of, first_of, second_of}
use Rattle.node.specs.Kinds.{kind_count, shape_of, signal_kind}
use Rattle.node.specs.Formed.{Below}
use Rattle.language.specs.Limits.{max_name}
use Rattle.layout.specs.Layout.{piece, sized, nth}
use Rattle.layout.specs.Table.{following, of_signal, of_operand, Measurable}
use Rattle.layout.specs.SizeLaws.{kind-below, atom_below, first_below, second_below, summed-is}

module _ {sizes : List ℕ} {n word k a b : ℕ} (m : Measurable sizes n word) (ek : k ≡ kind_of word) (ea : a ≡ first_of word) (eb : b ≡ second_of word) where
  below : Below m.limit (shape_of k) n a b
  below = rw (ek, ea, eb) m.below

  pub kind-told : k < kind_count
  kind-told = kind-below m.limit n a b k below

  pub name-told : k ≡ signal_kind → (a < length sizes) × (get_or sizes a 0 ≤ max_name)
  name-told e = let l = atom_below m.limit n a b k below e in (omega (arith, m.listed), m.small a l)

  pub left-told : {t : Bool} → t ≡ following (shape_of k) 0 → t ≡ true → a < n
  left-told t e = first_below m.limit n a b (shape_of k) below (sym t ∙ e)

  pub right-told : {t : Bool} → t ≡ following (shape_of k) 1 → t ≡ true → b < n
  right-told t e = second_below m.limit n a b (shape_of k) below (sym t ∙ e)

  pub size-told : {p q r s u v : ℕ} {f g : Bool} (lens : List ℕ) → p ≡ length (piece (shape_of k) 0) → q ≡ length (piece (shape_of k) 1) → r ≡ length (piece (shape_of k) 2)
      → s ≡ of_signal k (get_or sizes a 0) → f ≡ following (shape_of k) 0 → u ≡ of_operand f (get_or lens a 0) → g ≡ following (shape_of k) 1 → v ≡ of_operand g (get_or lens b 0)
      → p + q + r + s + u + v ≡ sized (shape_of (kind_of word)) (nth sizes) (nth lens) (first_of word) (second_of word)
  size-told lens ep eq er es ef eu eg ev =
      let left = eu ∙ ap (λ (t : Bool). of_operand t (get_or lens a 0)) ef in
      let right = ev ∙ ap (λ (t : Bool). of_operand t (get_or lens b 0)) eg in
      let sum = summed-is (nth sizes) (nth lens) a b k kind-told in
      let same : sized (shape_of k) (nth sizes) (nth lens) a b ≡ sized (shape_of (kind_of word)) (nth sizes) (nth lens) (first_of word) (second_of word) = rw (ek, ea, eb) refl in
      omega arith
