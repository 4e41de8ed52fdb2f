-- A form's own nodes, each distinct subformula once, have none that the form rules out.
use Rattle.std.specs.Prelude.{ℕ, zero, suc, ◌+◌, ◌<◌, ◌≤◌, ◌≡◌, List, [], ◌∷◌, Bool, false, cond, length, get_or}
use Rattle.std.proofs.Math.Path.{refl}
use Rattle.std.proofs.Common.{ap, ap₂, ◌∙◌, subst, arith}
use Rattle.node.specs.Limits.{field_limit}
use Rattle.node.specs.Ltl.{Not, X, G, F, And, Or, Implies, Iff, U, R, W, Formula, True, False, Signal, One, Two}
use Rattle.node.specs.Fields.{pack, kind_of}
use Rattle.node.proofs.FieldLaws.{kind-pack, first-pack}
use Rattle.node.specs.Kinds.{Shape, Truth, Falsehood, Atom, UnaryOf, BinaryOf, shape_of, unary_kind, binary_kind, true_kind, false_kind, signal_kind}
use Rattle.node.proofs.KindLaws.{unary-shape, binary-shape}
use Rattle.node.specs.Postorder.{SignalsBelow}
use Rattle.forms.specs.Forms.{plain, negated, core, form}
use Rattle.forms.specs.Forbidden.{forbids, shape_at, forbids_word, tally, forbidden}
use Rattle.forms.proofs.ForbiddenLaws.{top}
use Rattle.sharing.specs.Sharing.{write, distinct_nodes, distinct_count}
use Rattle.sharing.proofs.PlaceLaws.{word_at}
use Rattle.sharing.proofs.StandsLaws.{At, Found, found_inside}
use Rattle.sharing.specs.Subformulas.{Everywhere}
use Rattle.sharing.proofs.SubformulaLaws.{everywhere_both, everywhere_signals}
use Rattle.sharing.proofs.NameLaws.{Named, named_none, named-write}

-- the form allows the formula's own node
Allowed : ℕ → Formula → Type 0
Allowed n True = (s : Shape) → forbids n Truth s ≡ false
Allowed n False = (s : Shape) → forbids n Falsehood s ≡ false
Allowed n (Signal k) = (s : Shape) → forbids n Atom s ≡ false
Allowed n (One o a) = forbids n (UnaryOf o) (top a) ≡ false
Allowed n (Two o a b) = forbids n (BinaryOf o) (top a) ≡ false

-- no word of the table that the form allows counts
tally_none : (test : ℕ → Bool) (t : List ℕ) → ((i : ℕ) → i < length t → test (get_or t i 0) ≡ false) → tally test t ≡ 0
unfolding tally
tally_none test [] h = refl
tally_none test (w ∷ t) h = ap₂ (λ (b : Bool) (n : ℕ). cond b 1 0 + n) (h 0 (omega arith)) (tally_none test t (λ i k. h (suc i) (omega arith)))

module _ (t : List ℕ) (few : length t ≤ field_limit) where
  word-is : (w v : ℕ) → At t w v → get_or t v 0 ≡ w
  word-is w v h =
      let i = h.inside in
      let p = h.found in
      subst (λ (n : ℕ). get_or t n 0 ≡ w) p (word_at t w (omega arith))

  -- a node has its formula's shape
  shape-pack : (k a b v : ℕ) {s : Shape} → a < field_limit → b < field_limit → shape_of k ≡ s → At t (pack k a b) v → shape_at t v ≡ s
  shape-pack k a b v ha hb e h = ap (λ (x : ℕ). shape_of (kind_of x)) (word-is (pack k a b) v h) ∙ ap shape_of (kind-pack k ha hb) ∙ e

  found-shape : (f : Formula) (v : ℕ) → SignalsBelow field_limit f → Found t f v → shape_at t v ≡ top f
  unfolding Found SignalsBelow
  found-shape True v s h = shape-pack true_kind 0 0 v (omega arith) (omega arith) refl h
  found-shape False v s h = shape-pack false_kind 0 0 v (omega arith) (omega arith) refl h
  found-shape (Signal k) v s h = shape-pack signal_kind k 0 v s (omega arith) refl h
  found-shape (One o a) v s h =
      let i = found_inside t a h.0 h.1 in
      shape-pack (unary_kind o) h.0 0 v (omega arith) (omega arith) (unary-shape o) h.2
  found-shape (Two o a b) v s h =
      let i = found_inside t a h.0 h.2 in
      let j = found_inside t b h.1 h.3 in
      shape-pack (binary_kind o) h.0 h.1 v (omega arith) (omega arith) (binary-shape o) h.4

  -- so it is ruled out as its formula is
  word-allowed : (n k a b v : ℕ) {s r : Shape} → a < field_limit → b < field_limit → shape_of k ≡ s → shape_at t a ≡ r → At t (pack k a b) v → forbids n s r ≡ false
      → forbids_word n t (get_or t v 0) ≡ false
  word-allowed n k a b v ha hb es er h ok =
      ap (forbids_word n t) (word-is (pack k a b) v h)
      ∙ ap₂ (forbids n) (ap shape_of (kind-pack k ha hb) ∙ es) (ap (shape_at t) (first-pack k ha hb) ∙ er) ∙ ok

  found-allowed : (n : ℕ) (f : Formula) (v : ℕ) → SignalsBelow field_limit f → Allowed n f → Found t f v → forbids_word n t (get_or t v 0) ≡ false
  unfolding Found SignalsBelow Allowed
  found-allowed n True v s ok h = word-allowed n 0 0 0 v (omega arith) (omega arith) refl refl h (ok _)
  found-allowed n False v s ok h = word-allowed n 1 0 0 v (omega arith) (omega arith) refl refl h (ok _)
  found-allowed n (Signal k) v s ok h = word-allowed n 2 k 0 v s (omega arith) refl refl h (ok _)
  found-allowed n (One o a) v s ok h =
      let i = found_inside t a h.0 h.1 in
      word-allowed n (unary_kind o) h.0 0 v (omega arith) (omega arith) (unary-shape o) (found-shape a h.0 s h.1) h.2 ok
  found-allowed n (Two o a b) v s ok h =
      let i = found_inside t a h.0 h.2 in
      let j = found_inside t b h.1 h.3 in
      word-allowed n (binary_kind o) h.0 h.1 v (omega arith) (omega arith) (binary-shape o) (found-shape a h.0 s.0 h.2) h.4 ok

-- a formula each of whose subformulas is allowed
allowed_none : (n : ℕ) (f : Formula) → SignalsBelow field_limit f → distinct_count f ≤ field_limit → Everywhere (Allowed n) f → forbidden n (distinct_nodes f) ≡ 0
unfolding distinct_nodes distinct_count
allowed_none n f s h each =
    let t : List ℕ = (write [] f).table in
    let P : Formula → Type 0 = λ g. Allowed n g × SignalsBelow field_limit g in
    let names : Named P t = named-write P [] f (everywhere_both (Allowed n) (SignalsBelow field_limit) f each (everywhere_signals field_limit f s)) (named_none P) in
    tally_none (forbids_word n t) t (λ i k. let m = names i k in found-allowed t h n m.formula i m.such.1 m.such.0 m.found)

-- what the forms have is allowed
forms_allowed : (f : Formula) → Everywhere (Allowed 1) (plain f) × Everywhere (Allowed 1) (negated f)
unfolding Everywhere Allowed plain negated
forms_allowed True = ((λ s. refl), (λ s. refl))
forms_allowed False = ((λ s. refl), (λ s. refl))
forms_allowed (Signal k) = ((λ s. refl), ((λ s. refl), refl))
forms_allowed (One Not a) = let x = forms_allowed a in (x.1, x.0)
forms_allowed (One X a) = let x = forms_allowed a in ((x.0, refl), (x.1, refl))
forms_allowed (One G a) = let x = forms_allowed a in ((x.0, refl), (x.1, refl))
forms_allowed (One F a) = let x = forms_allowed a in ((x.0, refl), (x.1, refl))
forms_allowed (Two And a b) = let x = forms_allowed a in let y = forms_allowed b in ((x.0, y.0, refl), (x.1, y.1, refl))
forms_allowed (Two Or a b) = let x = forms_allowed a in let y = forms_allowed b in ((x.0, y.0, refl), (x.1, y.1, refl))
forms_allowed (Two Implies a b) = let x = forms_allowed a in let y = forms_allowed b in ((x.1, y.0, refl), (x.0, y.1, refl))
forms_allowed (Two Iff a b) =
    let x = forms_allowed a in
    let y = forms_allowed b in
    (((x.0, y.0, refl), (x.1, y.1, refl), refl), ((x.0, y.1, refl), (x.1, y.0, refl), refl))
forms_allowed (Two U a b) = let x = forms_allowed a in let y = forms_allowed b in ((x.0, y.0, refl), (x.1, y.1, refl))
forms_allowed (Two R a b) = let x = forms_allowed a in let y = forms_allowed b in ((x.0, y.0, refl), (x.1, y.1, refl))
forms_allowed (Two W a b) = let x = forms_allowed a in let y = forms_allowed b in ((x.0, y.0, refl), (y.1, (x.1, y.1, refl), refl))

core-allowed : (n : ℕ) (f : Formula) → Everywhere (Allowed (suc (suc n))) (core f)
unfolding Everywhere Allowed core
core-allowed n True = λ s. refl
core-allowed n False = ((λ s. refl), refl)
core-allowed n (Signal k) = λ s. refl
core-allowed n (One Not a) = (core-allowed n a, refl)
core-allowed n (One X a) = (core-allowed n a, refl)
core-allowed n (One G a) = (((λ s. refl), (core-allowed n a, refl), refl), refl)
core-allowed n (One F a) = ((λ s. refl), core-allowed n a, refl)
core-allowed n (Two And a b) = (((core-allowed n a, refl), (core-allowed n b, refl), refl), refl)
core-allowed n (Two Or a b) = (core-allowed n a, core-allowed n b, refl)
core-allowed n (Two Implies a b) = ((core-allowed n a, refl), core-allowed n b, refl)
core-allowed n (Two Iff a b) =
    let x = core-allowed n a in
    let y = core-allowed n b in
    (((((x, refl), y, refl), refl), (((y, refl), x, refl), refl), refl), refl)
core-allowed n (Two U a b) = (core-allowed n a, core-allowed n b, refl)
core-allowed n (Two R a b) = (((core-allowed n a, refl), (core-allowed n b, refl), refl), refl)
core-allowed n (Two W a b) = ((core-allowed n a, core-allowed n b, refl), (((λ s. refl), (core-allowed n a, refl), refl), refl), refl)

whole-allowed : (f : Formula) → Everywhere (Allowed 0) f
unfolding Everywhere Allowed
whole-allowed True = λ s. refl
whole-allowed False = λ s. refl
whole-allowed (Signal k) = λ s. refl
whole-allowed (One o a) = (whole-allowed a, refl)
whole-allowed (Two o a b) = (whole-allowed a, whole-allowed b, refl)

form-allowed : (n : ℕ) (f : Formula) → Everywhere (Allowed n) (form n f)
form-allowed zero f = whole-allowed f
form-allowed (suc zero) f = (forms_allowed f).0
form-allowed (suc (suc n)) f = core-allowed n f

-- a form's own nodes: none is forbidden
pub none_forbidden : (n : ℕ) (f : Formula) → SignalsBelow field_limit (form n f) → distinct_count (form n f) ≤ field_limit → forbidden n (distinct_nodes (form n f)) ≡ 0
none_forbidden n f s h = allowed_none n (form n f) s h (form-allowed n f)
