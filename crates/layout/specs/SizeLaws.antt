-- The size of a node's text from its pieces', its name's and its operands'.
use Rattle.std.specs.Prelude.{ℕ, ◌+◌, ◌<◌, ◌≤◌, min, ◌≡◌, Bool, true, eqb, length}
use Rattle.std.proofs.Math.Path.{refl}
use Rattle.std.proofs.Common.{ap, sym, arith, eq-eqb, ne_eqb}
use Rattle.std.proofs.lemmas.Bool.{false≢true}
use Rattle.std.proofs.Math.Decide.{dec_lt}
use Rattle.node.specs.Kinds.{Shape, Truth, Falsehood, Atom, UnaryOf, BinaryOf, Unused, kind_count, shape_of, build, signal_kind}
use Rattle.node.proofs.KindLaws.{Each, each_below, no_shape}
use Rattle.node.specs.Ltl.{Formula}
use Rattle.node.specs.Formed.{Below}
use Rattle.language.proofs.Laws.Basics.Tests.{pick, leave}
use Rattle.layout.specs.Layout.{piece, sized, weight}
use Rattle.layout.specs.Table.{following, of_signal, of_operand}

module _ (limit n a b : ℕ) where
  -- a node that fits has one of the fourteen kinds
  pub kind-below : (k : ℕ) → Below limit (shape_of k) n a b → k < kind_count
  kind-below k h = go (dec_lt k kind_count)
    where
      go : Dec (k < kind_count) → k < kind_count
      go (yes l) = l
      go (no l) = let above : kind_count ≤ k = omega arith in let e : shape_of k ≡ Unused = no_shape above in let g : Below limit Unused n a b = rw e at h in absurd g

  -- a signal's number lies below the limit, operands before the node
  pub atom_below : (k : ℕ) → Below limit (shape_of k) n a b → k ≡ signal_kind → a < limit
  atom_below k h e = let g : Below limit Atom n a b = rw e at h in g

  pub first_below : (s : Shape) → Below limit s n a b → following s 0 ≡ true → a < n
  first_below Truth h e = absurd (false≢true e)
  first_below Falsehood h e = absurd (false≢true e)
  first_below Atom h e = absurd (false≢true e)
  first_below (UnaryOf o) h e = h
  first_below (BinaryOf o) h e = h.0
  first_below Unused h e = absurd h

  pub second_below : (s : Shape) → Below limit s n a b → following s 1 ≡ true → b < n
  second_below Truth h e = absurd (false≢true e)
  second_below Falsehood h e = absurd (false≢true e)
  second_below Atom h e = absurd (false≢true e)
  second_below (UnaryOf o) h e = absurd (false≢true e)
  second_below (BinaryOf o) h e = h.1
  second_below Unused h e = absurd h

  -- a node's size from its operands', as much of them as is told
  pub sized-weight : (s : Shape) (size : ℕ → ℕ) (tree : ℕ → Formula) → Below limit s n a b → sized s size (λ i. weight size (tree i)) a b ≡ weight size (build s tree a b)
  unfolding weight
  sized-weight Truth size tree h = refl
  sized-weight Falsehood size tree h = refl
  sized-weight Atom size tree h = refl
  sized-weight (UnaryOf o) size tree h = refl
  sized-weight (BinaryOf o) size tree h = refl
  sized-weight Unused size tree h = absurd h

  pub sized-capped : (m : ℕ) (s : Shape) (size told real : ℕ → ℕ) → Below limit s n a b → ((i : ℕ) → i < n → told i ≡ min m (real i))
      → min m (sized s size told a b) ≡ min m (sized s size real a b)
  sized-capped m Truth size told real h t = refl
  sized-capped m Falsehood size told real h t = refl
  sized-capped m Atom size told real h t = refl
  sized-capped m (UnaryOf o) size told real h t = omega (arith, t a h)
  sized-capped m (BinaryOf o) size told real h t = omega (arith, t a h.0, t b h.1)
  sized-capped m Unused size told real h t = absurd h

-- what a name and an operand add
pub operand-is : (b t : Bool) (n : ℕ) → b ≡ t → of_operand t n ≡ of_operand b n
operand-is b t n e = ap (λ (u : Bool). of_operand u n) (sym e)

pub signal-is : (kind n : ℕ) → kind ≡ signal_kind → of_signal kind n ≡ n
signal-is kind n e = pick (eqb kind signal_kind) n 0 (eq-eqb kind signal_kind e)

pub signal-not : (kind n : ℕ) → (kind ≡ signal_kind → ⊥) → of_signal kind n ≡ 0
signal-not kind n e = leave (eqb kind signal_kind) n 0 (ne_eqb kind signal_kind e)

-- the sum that the code makes
module _ (size operand : ℕ → ℕ) (a b : ℕ) where
  abbrev summed : ℕ → ℕ
  summed k =
      length (piece (shape_of k) 0) + length (piece (shape_of k) 1) + length (piece (shape_of k) 2) + of_signal k (size a) + of_operand (following (shape_of k) 0) (operand a)
      + of_operand (following (shape_of k) 1) (operand b)

  abbrev Sum : ℕ → Type 0
  Sum k = summed k ≡ sized (shape_of k) size operand a b

  sums : Each Sum kind_count
  sums = (
    (
      ((((((((((((tt, omega arith), omega arith), omega arith), omega arith), omega arith), omega arith), omega arith), omega arith), omega arith), omega arith), omega arith), omega arith),
      omega arith,
    ),
    omega arith,
  )

  pub summed-is : (k : ℕ) → k < kind_count → summed k ≡ sized (shape_of k) size operand a b
  summed-is k h = each_below Sum kind_count sums k h
