-- Operators that a form keeps, or turns into their duals, above its operands: what lets `copy`, `plain`, `negated` and `core` treat them in one arm each.
use Rattle.std.specs.Prelude.{ℕ, ◌≤◌, ◌<◌, ◌+◌, ◌-◌, ◌≡◌, ◌⊎◌, List}
use Rattle.std.proofs.Math.Path.{refl, ap}
use Rattle.std.proofs.Common.{◌∙◌, sym, subst, inl, inr, arith}
use Rattle.std.proofs.Math.Decide.{dec_lt}
use Rattle.node.specs.Limits.{field_limit, kind_limit}
use Rattle.node.specs.Ltl.{Not, X, And, Or, Implies, Iff, U, R, W, Formula, One, Two, G, F}
use Rattle.node.specs.Kinds.{UnaryOf, BinaryOf, Unused, shape_of, kind_count, unary_kind, binary_kind}
use Rattle.node.proofs.KindLaws.{no_shape, Each, each_below}
use Rattle.node.specs.Table.{tree_at}
use Rattle.node.specs.Formed.{NodeIs}
use Rattle.forms.specs.Forms.{plain, negated, core}
use Rattle.form_writers.specs.Writing.{IsUnary, IsBinary, unary_of, binary_of, dual_kind, base_kind}

-- the rule at from, from + 1, .., one by one
each_from : (P : ℕ → Type 0) (from n : ℕ) → Each (λ j. P (from + j)) n → (k : ℕ) → from ≤ k → k < from + n → P k
each_from P from n e k h l =
    let s : from + (k - from) ≡ k = omega arith in
    subst P s (each_below (λ j. P (from + j)) n e (k - from) (omega arith))

-- X, G and F; the kinds of two operands, from `&&` to `<->` and from U to W
abbrev pub OfOne : ℕ → Type 0
OfOne k = (unary_kind X ≤ k) × (k < binary_kind U)

abbrev pub OfTwo : ℕ → Type 0
OfTwo k = ((binary_kind And ≤ k) × (k < unary_kind X)) ⊎ ((binary_kind U ≤ k) × (k < kind_count))

each-one : (P : ℕ → Type 0) → P (unary_kind X) → P (unary_kind G) → P (unary_kind F) → (k : ℕ) → OfOne k → P k
each-one P next globally finally k h = each_from P (unary_kind X) 3 (((tt, next), globally), finally) k h.0 h.1

each_two : (P : ℕ → Type 0) → P (binary_kind And) → P (binary_kind Or) → P (binary_kind Implies) → P (binary_kind Iff) → P (binary_kind U) → P (binary_kind R) → P (binary_kind W) → (k : ℕ) → OfTwo k → P k
each_two P and or implies iff until release weak k (inl h) = each_from P (binary_kind And) 4 ((((tt, and), or), implies), iff) k h.0 h.1
each_two P and or implies iff until release weak k (inr h) = each_from P (binary_kind U) 3 (((tt, until), release), weak) k h.0 h.1

-- node i is, in the form f, an operator above its operand in the form f
pub record OneStep (f : Formula → Formula) (ws : List ℕ) (i a op : ℕ) : Type 0 where
  pub operator : IsUnary op
  pub below : a < i
  pub tree : f (tree_at ws i) ≡ One (unary_of op) (f (tree_at ws a))

-- or above its two
pub record TwoStep (f : Formula → Formula) (ws : List ℕ) (i a b op : ℕ) : Type 0 where
  pub operator : IsBinary op
  pub below : (a < i) × (b < i)
  pub tree : f (tree_at ws i) ≡ Two (binary_of op) (f (tree_at ws a)) (f (tree_at ws b))

-- the form turns an operator's kind k into op
pub record TurnsOne (f : Formula → Formula) (k op : ℕ) : Type 0 where
  pub operator : IsUnary op
  pub turned : (g : Formula) → f (One (unary_of k) g) ≡ One (unary_of op) (f g)

pub record TurnsTwo (f : Formula → Formula) (k op : ℕ) : Type 0 where
  pub operator : IsBinary op
  pub turned : (g h : Formula) → f (Two (binary_of k) g h) ≡ Two (binary_of op) (f g) (f h)

module _ {f : Formula → Formula} {ws : List ℕ} {i a b k op : ℕ} where
  pub one-step : OfOne k → NodeIs field_limit ws i (shape_of k) a b → TurnsOne f k op → OneStep f ws i a op
  one-step h n t =
      let s : shape_of k ≡ UnaryOf (unary_of k) = each-one (λ j. shape_of j ≡ UnaryOf (unary_of j)) refl refl refl k h in
      let m : NodeIs field_limit ws i (UnaryOf (unary_of k)) a b = rw s at n in
      record { operator = t.operator; below = m.lower; tree = ap f m.tree ∙ t.turned (tree_at ws a) }

  pub two-step : OfTwo k → NodeIs field_limit ws i (shape_of k) a b → TurnsTwo f k op → TwoStep f ws i a b op
  two-step h n t =
      let s : shape_of k ≡ BinaryOf (binary_of k) = each_two (λ j. shape_of j ≡ BinaryOf (binary_of j)) refl refl refl refl refl refl refl k h in
      let m : NodeIs field_limit ws i (BinaryOf (binary_of k)) a b = rw s at n in
      record { operator = t.operator; below = m.lower; tree = ap f m.tree ∙ t.turned (tree_at ws a) (tree_at ws b) }

-- what the last arm of a `match` knows: a node that fits has one of the kinds of two operands
module _ {ws : List ℕ} {i a b k : ℕ} where
  pub of_two : NodeIs field_limit ws i (shape_of k) a b → binary_kind And ≤ k → (k < unary_kind X) ⊎ (unary_kind F < k) → OfTwo k
  of_two n h (inl l) = inl (h, l)
  of_two n h (inr l) = go (dec_lt k kind_count)
    where
      go : Dec (k < kind_count) → OfTwo k
      go (yes m) = inr (l, m)
      go (no m) =
          let e : shape_of k ≡ Unused = no_shape {kind = k} (omega arith) in
          let u : NodeIs field_limit ws i Unused a b = rw e at n in absurd u.lower

turns-one : {f : Formula → Formula} {k op : ℕ} → op < kind_limit → unary_kind (unary_of op) ≡ op → ((g : Formula) → f (One (unary_of k) g) ≡ One (unary_of op) (f g)) → TurnsOne f k op
turns-one l e t = record { operator = record { small = l; number = e }; turned = t }

turns-two : {f : Formula → Formula} {k op : ℕ} → op < kind_limit → binary_kind (binary_of op) ≡ op
    → ((g h : Formula) → f (Two (binary_of k) g h) ≡ Two (binary_of op) (f g) (f h)) → TurnsTwo f k op
turns-two l e t = record { operator = record { small = l; number = e }; turned = t }

-- form 0 keeps every operator
abbrev pub same : Formula → Formula
same f = f

pub same-one : (k : ℕ) → OfOne k → TurnsOne same k k
same-one =
    each-one (λ k. TurnsOne same k k)
    (turns-one (omega arith) refl (λ g. refl))
    (turns-one (omega arith) refl (λ g. refl))
    (turns-one (omega arith) refl (λ g. refl))

pub same-two : (k : ℕ) → OfTwo k → TurnsTwo same k k
same-two =
    each_two (λ k. TurnsTwo same k k)
    (turns-two (omega arith) refl (λ g h. refl))
    (turns-two (omega arith) refl (λ g h. refl))
    (turns-two (omega arith) refl (λ g h. refl))
    (turns-two (omega arith) refl (λ g h. refl))
    (turns-two (omega arith) refl (λ g h. refl))
    (turns-two (omega arith) refl (λ g h. refl))
    (turns-two (omega arith) refl (λ g h. refl))

-- negation form keeps all but `!`, `->` and `<->`
pub plain-one : (k : ℕ) → OfOne k → TurnsOne plain k k
unfolding plain negated
plain-one =
    each-one (λ k. TurnsOne plain k k)
    (turns-one (omega arith) refl (λ g. refl))
    (turns-one (omega arith) refl (λ g. refl))
    (turns-one (omega arith) refl (λ g. refl))

pub plain-two : (k : ℕ) → OfTwo k → (k ≡ binary_kind Implies → ⊥) → (k ≡ binary_kind Iff → ⊥) → TurnsTwo plain k k
unfolding plain negated
plain-two =
    each_two (λ k. (k ≡ binary_kind Implies → ⊥) → (k ≡ binary_kind Iff → ⊥) → TurnsTwo plain k k)
    (λ x y. turns-two (omega arith) refl (λ g h. refl))
    (λ x y. turns-two (omega arith) refl (λ g h. refl))
    (λ x y. absurd (x refl))
    (λ x y. absurd (y refl))
    (λ x y. turns-two (omega arith) refl (λ g h. refl))
    (λ x y. turns-two (omega arith) refl (λ g h. refl))
    (λ x y. turns-two (omega arith) refl (λ g h. refl))

-- negated, it turns all but those and W into their duals
pub negated-one : (k : ℕ) → OfOne k → TurnsOne negated k (dual_kind k)
unfolding plain negated
negated-one =
    each-one (λ k. TurnsOne negated k (dual_kind k))
    (turns-one (omega arith) refl (λ g. refl))
    (turns-one (omega arith) refl (λ g. refl))
    (turns-one (omega arith) refl (λ g. refl))

pub negated-two : (k : ℕ) → OfTwo k → (k ≡ binary_kind Implies → ⊥) → (k ≡ binary_kind Iff → ⊥) → (k ≡ binary_kind W → ⊥) → TurnsTwo negated k (dual_kind k)
unfolding plain negated
negated-two =
    each_two (λ k. (k ≡ binary_kind Implies → ⊥) → (k ≡ binary_kind Iff → ⊥) → (k ≡ binary_kind W → ⊥) → TurnsTwo negated k (dual_kind k))
    (λ x y z. turns-two (omega arith) refl (λ g h. refl))
    (λ x y z. turns-two (omega arith) refl (λ g h. refl))
    (λ x y z. absurd (x refl))
    (λ x y z. absurd (y refl))
    (λ x y z. turns-two (omega arith) refl (λ g h. refl))
    (λ x y z. turns-two (omega arith) refl (λ g h. refl))
    (λ x y z. absurd (z refl))

-- core form keeps `!`, X, `||` and U, and derives `&&` and R from them
pub record DualStep (ws : List ℕ) (i a b op : ℕ) : Type 0 where
  pub operator : IsBinary op
  pub below : (a < i) × (b < i)
  pub tree : core (tree_at ws i) ≡ One Not (Two (binary_of op) (One Not (core (tree_at ws a))) (One Not (core (tree_at ws b))))

one_of : (P : ℕ → Type 0) (j l : ℕ) → P j → P l → (k : ℕ) → (k ≡ j) ⊎ (k ≡ l) → P k
one_of P j l x y k (inl e) = subst P (sym e) x
one_of P j l x y k (inr e) = subst P (sym e) y

module _ {ws : List ℕ} {i a b : ℕ} where
  pub core-one : (k : ℕ) → (k ≡ unary_kind Not) ⊎ (k ≡ unary_kind X) → NodeIs field_limit ws i (shape_of k) a b → OneStep core ws i a k
  unfolding core
  core-one =
      one_of (λ k. NodeIs field_limit ws i (shape_of k) a b → OneStep core ws i a k) (unary_kind Not) (unary_kind X)
      (λ n. record { operator = record { small = omega arith; number = refl }; below = n.lower; tree = ap core n.tree })
      (λ n. record { operator = record { small = omega arith; number = refl }; below = n.lower; tree = ap core n.tree })

  pub core-two : (k : ℕ) → (k ≡ binary_kind Or) ⊎ (k ≡ binary_kind U) → NodeIs field_limit ws i (shape_of k) a b → TwoStep core ws i a b k
  unfolding core
  core-two =
      one_of (λ k. NodeIs field_limit ws i (shape_of k) a b → TwoStep core ws i a b k) (binary_kind Or) (binary_kind U)
      (λ n. record { operator = record { small = omega arith; number = refl }; below = n.lower; tree = ap core n.tree })
      (λ n. record { operator = record { small = omega arith; number = refl }; below = n.lower; tree = ap core n.tree })

  pub core-dual : (k : ℕ) → (k ≡ binary_kind And) ⊎ (k ≡ binary_kind R) → NodeIs field_limit ws i (shape_of k) a b → DualStep ws i a b (base_kind k)
  unfolding core
  core-dual =
      one_of (λ k. NodeIs field_limit ws i (shape_of k) a b → DualStep ws i a b (base_kind k)) (binary_kind And) (binary_kind R)
      (λ n. record { operator = record { small = omega arith; number = refl }; below = n.lower; tree = ap core n.tree })
      (λ n. record { operator = record { small = omega arith; number = refl }; below = n.lower; tree = ap core n.tree })
