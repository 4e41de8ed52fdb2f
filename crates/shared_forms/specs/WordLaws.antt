-- The word that is put for a recipe's node is the one by which its formula is written, where its operands stand.
use Rattle.std.specs.Prelude.{ℕ, ◌-◌, ◌≤◌, ◌<◌, ◌≡◌, refl, Bool, true, false, cond, List, ltb}
use Rattle.std.proofs.Common.{ap, ap₂, ◌∙◌, arith}
use Rattle.node.specs.Limits.{max_nodes, field_limit}
use Rattle.node.specs.Ltl.{Unary, Not, X, G, F, Binary, And, Or, Implies, Iff, U, R, W, Formula, Signal, One, Two}
use Rattle.node.specs.Fields.{pack}
use Rattle.node.specs.Kinds.{Shape, Truth, Falsehood, Atom, UnaryOf, BinaryOf, Unused, kind_count, shape_of, build, true_kind, false_kind, signal_kind, unary_kind, binary_kind, has_two}
use Rattle.node.proofs.KindLaws.{each_below}
use Rattle.sharing.specs.Sharing.{Placed, place, write}
use Rattle.sharing.proofs.StandsLaws.{Found, found_adds}
use Rattle.shared_forms.specs.Templates.{substitute}
use Rattle.shared_forms.specs.Building.{first_field, second_field, word_over}

-- a node over operands that stand
one : (t : List ℕ) (o : Unary) (g : Formula) (m : ℕ) → Found t g m → write t (One o g) ≡ place t (pack (unary_kind o) m 0)
unfolding write
one t o g m h = ap (λ (x : Placed). place x.table (pack (unary_kind o) x.number 0)) (found_adds t g m h)

two : (t : List ℕ) (o : Binary) (g k : Formula) (m n : ℕ) → Found t g m → Found t k n → write t (Two o g k) ≡ place t (pack (binary_kind o) m n)
unfolding write
two t o g k m n h l =
    ap (λ (x : Placed). let y = write x.table k in place y.table (pack (binary_kind o) x.number y.number)) (found_adds t g m h)
    ∙ ap (λ (y : Placed). place y.table (pack (binary_kind o) m y.number)) (found_adds t k n l)

-- what is known of the operands, by the node's shape
abbrev pub Ready : List ℕ → (ℕ → Formula) → (ℕ → Formula) → Shape → ℕ → ℕ → ℕ → ℕ → Type 0
Ready t e tree Truth x y m n = Unit {0}
Ready t e tree Falsehood x y m n = Unit {0}
Ready t e tree Atom x y m n = Unit {0}
Ready t e tree (UnaryOf o) x y m n = Found t (substitute e (tree x)) m
Ready t e tree (BinaryOf o) x y m n = Found t (substitute e (tree x)) m × Found t (substitute e (tree y)) n
Ready t e tree Unused x y m n = ⊥

-- the word of kind k writes the formula
abbrev Writes : ℕ → Type 0
Writes k =
    (t : List ℕ) (e tree : ℕ → Formula) (own x y m n : ℕ) → (k ≡ signal_kind → e x ≡ Signal own) → Ready t e tree (shape_of k) x y m n
    → write t (substitute e (build (shape_of k) tree x y)) ≡ place t (pack k (first_field k own m) (second_field k n))

pub step-writes : (k : ℕ) → k < kind_count → Writes k
unfolding write substitute
step-writes k h =
    each_below Writes kind_count
    ((((((((((((((tt, truth), falsehood), signal), single Not), both And), both Or), both Implies), both Iff), single X), single G), single F), both U), both R), both W)
    k h
  where
    truth : Writes true_kind
    truth t e tree own x y m n q r = refl

    falsehood : Writes false_kind
    falsehood t e tree own x y m n q r = refl

    signal : Writes signal_kind
    signal t e tree own x y m n q r = ap (write t) (q refl)

    single : (o : Unary) (t : List ℕ) (e tree : ℕ → Formula) (own x y m n : ℕ) → (unary_kind o ≡ signal_kind → e x ≡ Signal own) → Found t (substitute e (tree x)) m
        → write t (One o (substitute e (tree x))) ≡ place t (pack (unary_kind o) m 0)
    single o t e tree own x y m n q r = one t o (substitute e (tree x)) m r

    both : (o : Binary) (t : List ℕ) (e tree : ℕ → Formula) (own x y m n : ℕ) → (binary_kind o ≡ signal_kind → e x ≡ Signal own) → Found t (substitute e (tree x)) m × Found t (substitute e (tree y)) n
        → write t (Two o (substitute e (tree x)) (substitute e (tree y))) ≡ place t (pack (binary_kind o) m n)
    both o t e tree own x y m n q r = two t o (substitute e (tree x)) (substitute e (tree y)) m n r.0 r.1

-- the fields as the code chooses them: they fit, and are those of the word
cond_below : (b : Bool) {x y n : ℕ} → x < n → y < n → cond b x y < n
cond_below true h k = h
cond_below false h k = k

module _ (k own m n : ℕ) {r₁ r₂ r₃ : ℕ} {b : Bool} (first : r₁ ≡ cond (ltb k (unary_kind Not)) own (m - 1)) (either : r₂ ≡ cond (ltb k signal_kind) 0 r₁)
    (operands : b ≡ has_two k) (second : r₃ ≡ cond b (n - 1) 0) where
  first-is : r₂ ≡ first_field k own (m - 1)
  first-is = either ∙ ap (cond (ltb k signal_kind) 0) first

  second_is : r₃ ≡ second_field k (n - 1)
  second_is = second ∙ ap (λ (t : Bool). cond t (n - 1) 0) operands

  pub first_below : own < field_limit → m ≤ max_nodes → r₂ < field_limit
  first_below h l = rw first-is (cond_below (ltb k signal_kind) (omega arith) (cond_below (ltb k (unary_kind Not)) h (omega arith)))

  pub second_below : n ≤ max_nodes → r₃ < field_limit
  second_below l = rw second (cond_below b (omega arith) (omega arith))

  pub word-is : pack k r₂ r₃ ≡ word_over k own m n
  word-is = ap₂ (pack k) first-is second_is
