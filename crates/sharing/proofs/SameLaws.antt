-- Formulas are the same where they are equal; a formula occurs in a list where a member is equal to it.
use Rattle.std.specs.Prelude.{ℕ, zero, suc, ◌<◌, ◌≡◌, refl, List, [], ◌∷◌, Bool, true, false, ◌&&◌, ◌||◌, length, eqb}
use Rattle.std.proofs.Common.{ap, ap₂, ◌∙◌, sym, subst, arith, eqb-true, eq-eqb}
use Rattle.std.proofs.lemmas.Bool.{false≢true}
use Rattle.node.specs.Ltl.{Unary, Binary, Formula, True, False, Signal, One, Two}
use Rattle.node.specs.Kinds.{UnaryOf, BinaryOf, shape_of, unary_kind, binary_kind}
use Rattle.node.proofs.KindLaws.{unary-shape, binary-shape}
use Rattle.node.specs.Tests.{and_left, and_right}
use Rattle.node.specs.Table.{among}
use Rattle.sharing.proofs.Once.{same, occurs}

-- an operator is told by its kind
unary_equal : (o p : Unary) → eqb (unary_kind o) (unary_kind p) ≡ true → o ≡ p
unary_equal o p e =
    let s : UnaryOf o ≡ UnaryOf p = sym (unary-shape o) ∙ ap shape_of (eqb-true (unary_kind o) (unary_kind p) e) ∙ unary-shape p in
    cc

binary_equal : (o p : Binary) → eqb (binary_kind o) (binary_kind p) ≡ true → o ≡ p
binary_equal o p e =
    let s : BinaryOf o ≡ BinaryOf p = sym (binary-shape o) ∙ ap shape_of (eqb-true (binary_kind o) (binary_kind p) e) ∙ binary-shape p in
    cc

pub same_equal : (f g : Formula) → same f g ≡ true → f ≡ g
unfolding same
same_equal True True e = refl
same_equal True False e = absurd (false≢true e)
same_equal True (Signal k) e = absurd (false≢true e)
same_equal True (One p c) e = absurd (false≢true e)
same_equal True (Two p c d) e = absurd (false≢true e)
same_equal False True e = absurd (false≢true e)
same_equal False False e = refl
same_equal False (Signal k) e = absurd (false≢true e)
same_equal False (One p c) e = absurd (false≢true e)
same_equal False (Two p c d) e = absurd (false≢true e)
same_equal (Signal n) True e = absurd (false≢true e)
same_equal (Signal n) False e = absurd (false≢true e)
same_equal (Signal n) (Signal k) e = ap Signal (eqb-true n k e)
same_equal (Signal n) (One p c) e = absurd (false≢true e)
same_equal (Signal n) (Two p c d) e = absurd (false≢true e)
same_equal (One o a) True e = absurd (false≢true e)
same_equal (One o a) False e = absurd (false≢true e)
same_equal (One o a) (Signal k) e = absurd (false≢true e)
same_equal (One o a) (One p c) e =
    let t : Bool = eqb (unary_kind o) (unary_kind p) in
    ap₂ One (unary_equal o p (and_left t (same a c) e)) (same_equal a c (and_right t (same a c) e))
same_equal (One o a) (Two p c d) e = absurd (false≢true e)
same_equal (Two o a b) True e = absurd (false≢true e)
same_equal (Two o a b) False e = absurd (false≢true e)
same_equal (Two o a b) (Signal k) e = absurd (false≢true e)
same_equal (Two o a b) (One p c) e = absurd (false≢true e)
same_equal (Two o a b) (Two p c d) e =
    let t : Bool = eqb (binary_kind o) (binary_kind p) in
    let both = and_right t (same a c && same b d) e in
    let u = binary_equal o p (and_left t (same a c && same b d) e) in
    let v = same_equal a c (and_left (same a c) (same b d) both) in
    let w = same_equal b d (and_right (same a c) (same b d) both) in
    cc

same_self : (f : Formula) → same f f ≡ true
unfolding same
same_self True = refl
same_self False = refl
same_self (Signal k) = eq-eqb k k refl
same_self (One o a) = rw (eq-eqb (unary_kind o) (unary_kind o) refl, same_self a)
same_self (Two o a b) = rw (eq-eqb (binary_kind o) (binary_kind o) refl, same_self a, same_self b)

pub equal_same : (f g : Formula) → f ≡ g → same f g ≡ true
equal_same f g e = subst (λ (x : Formula). same f x ≡ true) e (same_self f)

-- a formula that occurs has a number
pub occurs-at : (gs : List Formula) (f : Formula) → occurs gs f ≡ true → (i : ℕ) × (i < length gs) × (among gs i ≡ f)
unfolding occurs
occurs-at [] f e = absurd (false≢true e)
occurs-at (g ∷ gs) f e = go (same g f) refl e (occurs-at gs f)
  where
    go : (b : Bool) → same g f ≡ b → (b || occurs gs f) ≡ true → (occurs gs f ≡ true → (i : ℕ) × (i < length gs) × (among gs i ≡ f))
        → (i : ℕ) × (i < suc (length gs)) × (among (g ∷ gs) i ≡ f)
    go true s o below = (zero, omega arith, same_equal g f s)
    go false s o below = let r = below o in (suc r.0, omega arith, r.2)

pub at-occurs : (gs : List Formula) (f : Formula) (i : ℕ) → i < length gs → among gs i ≡ f → occurs gs f ≡ true
unfolding occurs
at-occurs [] f i h e = absurd (omega arith)
at-occurs (g ∷ gs) f zero h e = rw (equal_same g f e)
at-occurs (g ∷ gs) f (suc i) h e = go (same g f) (at-occurs gs f i (omega arith) e)
  where
    go : (b : Bool) → occurs gs f ≡ true → (b || occurs gs f) ≡ true
    go true o = refl
    go false o = o
