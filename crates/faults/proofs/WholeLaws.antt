-- The text's formula and its lines: what is done to every node alike is done to every line; the signals of a line are the formula's; equivalent sections put for
-- sections.
use Rattle.std.specs.Prelude.{ℕ, ◌≡◌, refl, Bool}
use Rattle.std.proofs.Common.{ap, ap₂, ◌∙◌}
use Rattle.std.proofs.Math.Bool.{true, false}
use mathlib.Core.List.{List, [], ◌∷◌, map}
use Rattle.std.proofs.Math.Logic.Iff as Equiv
use Rattle.node.proofs.LogicLaws.{or_same, to_same}
use Rattle.node.specs.Temporal.{Property}
use Rattle.node.proofs.TemporalLaws.{Same, always_same}
use Rattle.node.specs.Operators.{Unary, Binary, Not, G, And, Implies, W}
use Rattle.node.specs.Ltl.{Formula, True, One, Two}
use Rattle.node.specs.Postorder.{SignalsBelow}
use Rattle.language.specs.Tree.{Part, Initially, Preset, Require, Assert, Assume, Guarantee, Model, Mealy, Moore}
use Rattle.language.specs.Expansion.{joined, conjunction, whole}
use Rattle.language.specs.Shifting.{adapted}
use Rattle.language.specs.Meaning.{WholeMeans}
use Rattle.language.proofs.Laws.Basics.Lists.{All}
use Rattle.language.proofs.Laws.Meaning.OwedLaws.{owed_same}

-- operators stay: only leaves are changed, and true is not
pub record Rebuilds (g : Formula → Formula) : Type 0 where
  pub always : g True ≡ True
  pub one : (o : Unary) (a : Formula) → g (One o a) ≡ One o (g a)
  pub two : (o : Binary) (a b : Formula) → g (Two o a b) ≡ Two o (g a) (g b)

pub adapted_rebuilds : (m n : Model) (list : List ℕ) → Rebuilds (adapted m n list)
adapted_rebuilds Mealy Mealy list = record { always = refl; one = λ o a. refl; two = λ o a b. refl }
adapted_rebuilds Mealy Moore list = record { always = refl; one = λ o a. refl; two = λ o a b. refl }
adapted_rebuilds Moore Mealy list = record { always = refl; one = λ o a. refl; two = λ o a b. refl }
adapted_rebuilds Moore Moore list = record { always = refl; one = λ o a. refl; two = λ o a b. refl }

module _ (g : Formula → Formula) (r : Rebuilds g) where
  rebuilt_joined : (a : Formula) (fs : List Formula) → g (joined And a fs) ≡ joined And (g a) (map g fs)
  rebuilt_joined a [] = refl
  rebuilt_joined a (b ∷ bs) = rebuilt_joined (Two And a b) bs ∙ ap (λ (x : Formula). joined And x (map g bs)) (r.two And a b)

  pub rebuilt_conjunction : (fs : List Formula) → g (conjunction fs) ≡ conjunction (map g fs)
  rebuilt_conjunction [] = r.always
  rebuilt_conjunction (a ∷ fs) = rebuilt_joined a fs

  two_of : (o : Binary) (a b : Formula) {x y : Formula} → g a ≡ x → g b ≡ y → g (Two o a b) ≡ Two o x y
  two_of o a b h k = r.two o a b ∙ ap₂ (Two o) h k

  one_of : (o : Unary) (a : Formula) {x : Formula} → g a ≡ x → g (One o a) ≡ One o x
  one_of o a h = r.one o a ∙ ap (One o) h

  pub rebuilt_whole : (strict : Bool) (f h : Part → Formula) → ((q : Part) → g (f q) ≡ h q) → g (whole strict f) ≡ whole strict h
  rebuilt_whole false f h e =
      two_of Implies _ _ (e Initially)
      (two_of And _ _ (e Preset)
      (two_of Implies _ _ (two_of And _ _ (one_of G _ (e Require)) (e Assume)) (two_of And _ _ (one_of G _ (e Assert)) (e Guarantee))))
  rebuilt_whole true f h e =
      two_of Implies _ _ (e Initially)
      (two_of And _ _ (two_of And _ _ (e Preset) (two_of W _ _ (e Assert) (one_of Not _ (e Require))))
      (two_of Implies _ _ (two_of And _ _ (one_of G _ (e Require)) (e Assume)) (e Guarantee)))

-- the signals of a section, and of a line
module _ (n : ℕ) where
  pub whole_below : (strict : Bool) (f : Part → Formula) → SignalsBelow n (whole strict f) → (q : Part) → SignalsBelow n (f q)
  unfolding SignalsBelow
  whole_below false f b Initially = b.0
  whole_below false f b Preset = b.1.0
  whole_below false f b Require = b.1.1.0.0
  whole_below false f b Assume = b.1.1.0.1
  whole_below false f b Assert = b.1.1.1.0
  whole_below false f b Guarantee = b.1.1.1.1
  whole_below true f b Initially = b.0
  whole_below true f b Preset = b.1.0.0
  whole_below true f b Assert = b.1.0.1.0
  whole_below true f b Require = b.1.1.0.0
  whole_below true f b Assume = b.1.1.0.1
  whole_below true f b Guarantee = b.1.1.1

  joined-below : (a : Formula) (fs : List Formula) → SignalsBelow n (joined And a fs) → SignalsBelow n a × All (SignalsBelow n) fs
  unfolding SignalsBelow
  joined-below a [] b = (b, tt)
  joined-below a (f ∷ fs) b = let c = joined-below (Two And a f) fs b in (c.0.0, (c.0.1, c.1))

  pub conjunction-below : (fs : List Formula) → SignalsBelow n (conjunction fs) → All (SignalsBelow n) fs
  conjunction-below [] b = tt
  conjunction-below (a ∷ fs) b = let c = joined-below a fs b in (c.0, c.1)

-- equivalents put for equivalents
pub whole_same : (strict : Bool) (P Q : Part → Property) → ((q : Part) → Same (P q) (Q q)) → Same (WholeMeans strict P) (WholeMeans strict Q)
whole_same false P Q h t =
    or_same (Equiv.not (h Initially t))
    (Equiv.and (h Preset t) (to_same (Equiv.and (always_same (h Require) t) (h Assume t)) (Equiv.and (always_same (h Assert) t) (h Guarantee t))))
whole_same true P Q h t =
    let owed = owed_same (h Assert) (h Require) t in
    let promised = to_same (Equiv.and (always_same (h Require) t) (h Assume t)) (h Guarantee t) in
    or_same (Equiv.not (h Initially t))
    (λ p. ((h Preset t).0 p.0, owed.0 p.1, promised.0 p.2), λ p. ((h Preset t).1 p.0, owed.1 p.1, promised.1 p.2))
