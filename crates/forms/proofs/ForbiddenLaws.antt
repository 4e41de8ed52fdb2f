-- A form's own nodes have none that the form rules out.
use Rattle.std.specs.Prelude.{ℕ, zero, suc, ◌+◌, ◌-◌, ◌<◌, ◌≤◌, ◌≡◌, refl, List, [], ◌∷◌, ◌++◌, Bool, false, cond, length}
use Rattle.std.proofs.Common.{ap, ap₂, ◌∙◌, sym, append_assoc, append-nil, length-append, arith}
use Rattle.std.proofs.lemmas.List.{get_or_at}
use Rattle.node.specs.Limits.{field_limit}
use Rattle.node.specs.Ltl.{Not, X, G, F, And, Or, Implies, Iff, U, R, W, Formula, True, False, Signal, One, Two}
use Rattle.node.specs.Fields.{pack, kind_of}
use Rattle.node.proofs.FieldLaws.{kind-pack, first-pack}
use Rattle.node.specs.Kinds.{Shape, Truth, Falsehood, Atom, UnaryOf, BinaryOf, shape_of, unary_kind, binary_kind, true_kind, false_kind, signal_kind}
use Rattle.node.proofs.KindLaws.{unary-shape, binary-shape}
use Rattle.node.specs.Postorder.{size, nodes_from, SignalsBelow}
use Rattle.node.proofs.PostorderLaws.{size_pos, length-nodes}
use Rattle.node.specs.Written.{nodes_of, count}
use Rattle.forms.specs.Forms.{plain, negated, core, form}
use Rattle.forms.specs.Forbidden.{forbids, shape_at, forbids_word, tally, forbidden}

tally-append : (test : ℕ → Bool) (us vs : List ℕ) → tally test (us ++ vs) ≡ tally test us + tally test vs
unfolding tally
tally-append test [] vs = omega arith
tally-append test (u ∷ us) vs = let h = tally-append test us vs in omega arith

-- the shape of a formula's own node
abbrev pub top : Formula → Shape
top True = Truth
top False = Falsehood
top (Signal k) = Atom
top (One o a) = UnaryOf o
top (Two o a b) = BinaryOf o

-- no subformula has an operator that the form rules out
Clean : ℕ → Formula → Type 0
Clean n True = (s : Shape) → forbids n Truth s ≡ false
Clean n False = (s : Shape) → forbids n Falsehood s ≡ false
Clean n (Signal k) = (s : Shape) → forbids n Atom s ≡ false
Clean n (One o a) = (forbids n (UnaryOf o) (top a) ≡ false) × Clean n a
Clean n (Two o a b) = (forbids n (BinaryOf o) (top a) ≡ false) × Clean n a × Clean n b

-- a word put together has its kind's shape
shape-pack : (k a b : ℕ) {s : Shape} → a < field_limit → b < field_limit → shape_of k ≡ s → shape_of (kind_of (pack k a b)) ≡ s
shape-pack k a b ha hb e = ap shape_of (kind-pack k ha hb) ∙ e

-- the last of a formula's nodes has the formula's shape
record Last (base : ℕ) (f : Formula) : Type 0 where
  init : List ℕ
  word : ℕ
  split : nodes_from base f ≡ init ++ (word ∷ [])
  count : length init + 1 ≡ size f
  shape : shape_of (kind_of word) ≡ top f

last_of : (base : ℕ) (f : Formula) → SignalsBelow field_limit f → base + size f ≤ field_limit → Last base f
unfolding nodes_from size SignalsBelow
last_of base True s h = record { init = []; word = pack true_kind 0 0; split = refl; count = refl; shape = shape-pack true_kind 0 0 (omega arith) (omega arith) refl }
last_of base False s h = record { init = []; word = pack false_kind 0 0; split = refl; count = refl; shape = shape-pack false_kind 0 0 (omega arith) (omega arith) refl }
last_of base (Signal k) s h = record { init = []; word = pack signal_kind k 0; split = refl; count = refl; shape = shape-pack signal_kind k 0 s (omega arith) refl }
last_of base (One o a) s h =
    let p = size_pos a in
    record {
      init = nodes_from base a;
      word = pack (unary_kind o) (base + size a - 1) 0;
      split = refl;
      count = ap (λ (n : ℕ). n + 1) (length-nodes base a);
      shape = shape-pack (unary_kind o) (base + size a - 1) 0 (omega arith) (omega arith) (unary-shape o);
    }
last_of base (Two o a b) s h =
    let p = size_pos a in
    let q = size_pos b in
    let l = length-nodes base a in
    let r = length-nodes (base + size a) b in
    record {
      init = nodes_from base a ++ nodes_from (base + size a) b;
      word = pack (binary_kind o) (base + size a - 1) (base + size a + size b - 1);
      split = sym (append_assoc (nodes_from base a) (nodes_from (base + size a) b) _);
      count = simp length-append (omega arith);
      shape = shape-pack (binary_kind o) (base + size a - 1) (base + size a + size b - 1) (omega arith) (omega arith) (binary-shape o);
    }

-- the node before the end of a formula's nodes has the formula's shape
shape-last : (us ws : List ℕ) (base i : ℕ) (f : Formula) → SignalsBelow field_limit f → base + size f ≤ field_limit → length us ≡ base → i ≡ base + size f - 1
    → shape_at (us ++ (nodes_from base f ++ ws)) i ≡ top f
shape-last us ws base i f s h e g =
    let l = last_of base f s h in
    let c = l.count in
    let n : length (us ++ l.init) ≡ i = simp length-append (omega arith) in
    ap (λ (x : List ℕ). shape_at x i)
    (ap (λ (x : List ℕ). us ++ (x ++ ws)) l.split ∙ ap (λ (x : List ℕ). us ++ x) (append_assoc l.init (l.word ∷ []) ws) ∙ sym (append_assoc us l.init (l.word ∷ ws)))
    ∙ ap (λ (x : ℕ). shape_of (kind_of x)) (get_or_at (us ++ l.init) l.word ws 0 i n) ∙ l.shape

-- one word that the form allows
tally-one : (n : ℕ) (all : List ℕ) (k a b : ℕ) {s t : Shape} → a < field_limit → b < field_limit → shape_of k ≡ s → shape_at all a ≡ t → forbids n s t ≡ false
    → tally (forbids_word n all) (pack k a b ∷ []) ≡ 0
unfolding tally
tally-one n all k a b ha hb es et e =
    let p : forbids_word n all (pack k a b) ≡ false =
    ap₂ (forbids n) (shape-pack k a b ha hb es) (ap (shape_at all) (first-pack k ha hb) ∙ et) ∙ e in
    ap (λ (x : Bool). cond x 1 0 + 0) p

-- a clean formula's nodes, wherever they stand in a table
tally_clean : (n base : ℕ) (f : Formula) (us ws : List ℕ) → SignalsBelow field_limit f → base + size f ≤ field_limit → length us ≡ base → Clean n f
    → tally (forbids_word n (us ++ (nodes_from base f ++ ws))) (nodes_from base f) ≡ 0
unfolding nodes_from size SignalsBelow Clean
tally_clean n base True us ws s h e c = tally-one n (us ++ (pack true_kind 0 0 ∷ ws)) true_kind 0 0 (omega arith) (omega arith) refl refl (c _)
tally_clean n base False us ws s h e c = tally-one n (us ++ (pack false_kind 0 0 ∷ ws)) false_kind 0 0 (omega arith) (omega arith) refl refl (c _)
tally_clean n base (Signal k) us ws s h e c = tally-one n (us ++ (pack signal_kind k 0 ∷ ws)) signal_kind k 0 s (omega arith) refl refl (c _)
tally_clean n base (One o a) us ws s h e c =
    let p = size_pos a in
    let w : ℕ = pack (unary_kind o) (base + size a - 1) 0 in
    let x : us ++ ((nodes_from base a ++ (w ∷ [])) ++ ws) ≡ us ++ (nodes_from base a ++ (w ∷ ws)) =
    ap (λ (x : List ℕ). us ++ x) (append_assoc (nodes_from base a) (w ∷ []) ws) in
    let l = tally_clean n base a us (w ∷ ws) s (omega arith) e c.1 in
    let r = tally-one n (us ++ (nodes_from base a ++ (w ∷ ws))) (unary_kind o) (base + size a - 1) 0 (omega arith) (omega arith) (unary-shape o)
    (shape-last us (w ∷ ws) base (base + size a - 1) a s (omega arith) e refl) c.0 in
    rw x (tally-append _ (nodes_from base a) (w ∷ []) ∙ ap₂ ◌+◌ l r)
tally_clean n base (Two o a b) us ws s h e c =
    let p = size_pos a in
    let q = size_pos b in
    let i : ℕ = base + size a - 1 in
    let j : ℕ = base + size a + size b - 1 in
    let w : ℕ = pack (binary_kind o) i j in
    let m : ℕ = base + size a in
    let right : List ℕ = nodes_from m b ++ (w ∷ []) in
    let lu : length (us ++ nodes_from base a) ≡ m = let g = length-nodes base a in simp length-append (omega arith) in
    let x : us ++ ((nodes_from base a ++ right) ++ ws) ≡ us ++ (nodes_from base a ++ (right ++ ws)) = ap (λ (x : List ℕ). us ++ x) (append_assoc (nodes_from base a) right ws) in
    let y : us ++ (nodes_from base a ++ (right ++ ws)) ≡ (us ++ nodes_from base a) ++ (nodes_from m b ++ (w ∷ ws)) =
    ap (λ (x : List ℕ). us ++ (nodes_from base a ++ x)) (append_assoc (nodes_from m b) (w ∷ []) ws) ∙ sym (append_assoc us (nodes_from base a) (nodes_from m b ++ (w ∷ ws))) in
    let test : ℕ → Bool = forbids_word n (us ++ (nodes_from base a ++ (right ++ ws))) in
    let l = tally_clean n base a us (right ++ ws) s.0 (omega arith) e c.1 in
    let r : tally test (nodes_from m b) ≡ 0 =
    ap (λ (x : List ℕ). tally (forbids_word n x) (nodes_from m b)) y ∙ tally_clean n m b (us ++ nodes_from base a) (w ∷ ws) s.1 (omega arith) lu c.2 in
    let t = tally-one n (us ++ (nodes_from base a ++ (right ++ ws))) (binary_kind o) i j (omega arith) (omega arith) (binary-shape o)
    (shape-last us (right ++ ws) base i a s.0 (omega arith) e refl) c.0 in
    rw x (tally-append test (nodes_from base a) right ∙ ap₂ ◌+◌ l (tally-append test (nodes_from m b) (w ∷ []) ∙ ap₂ ◌+◌ r t))

mutual
  unfolding plain negated Clean

  plain_clean : (f : Formula) → Clean 1 (plain f)
  plain_clean True = λ s. refl
  plain_clean False = λ s. refl
  plain_clean (Signal k) = λ s. refl
  plain_clean (One Not a) = negated_clean a
  plain_clean (One X a) = (refl, plain_clean a)
  plain_clean (One G a) = (refl, plain_clean a)
  plain_clean (One F a) = (refl, plain_clean a)
  plain_clean (Two And a b) = (refl, plain_clean a, plain_clean b)
  plain_clean (Two Or a b) = (refl, plain_clean a, plain_clean b)
  plain_clean (Two Implies a b) = (refl, negated_clean a, plain_clean b)
  plain_clean (Two Iff a b) = (refl, (refl, plain_clean a, plain_clean b), (refl, negated_clean a, negated_clean b))
  plain_clean (Two U a b) = (refl, plain_clean a, plain_clean b)
  plain_clean (Two R a b) = (refl, plain_clean a, plain_clean b)
  plain_clean (Two W a b) = (refl, plain_clean a, plain_clean b)

  negated_clean : (f : Formula) → Clean 1 (negated f)
  negated_clean True = λ s. refl
  negated_clean False = λ s. refl
  negated_clean (Signal k) = (refl, λ s. refl)
  negated_clean (One Not a) = plain_clean a
  negated_clean (One X a) = (refl, negated_clean a)
  negated_clean (One G a) = (refl, negated_clean a)
  negated_clean (One F a) = (refl, negated_clean a)
  negated_clean (Two And a b) = (refl, negated_clean a, negated_clean b)
  negated_clean (Two Or a b) = (refl, negated_clean a, negated_clean b)
  negated_clean (Two Implies a b) = (refl, plain_clean a, negated_clean b)
  negated_clean (Two Iff a b) = (refl, (refl, plain_clean a, negated_clean b), (refl, negated_clean a, plain_clean b))
  negated_clean (Two U a b) = (refl, negated_clean a, negated_clean b)
  negated_clean (Two R a b) = (refl, negated_clean a, negated_clean b)
  negated_clean (Two W a b) = (refl, negated_clean b, (refl, negated_clean a, negated_clean b))

core_clean : (n : ℕ) (f : Formula) → Clean (suc (suc n)) (core f)
unfolding core Clean
core_clean n True = λ s. refl
core_clean n False = (refl, λ s. refl)
core_clean n (Signal k) = λ s. refl
core_clean n (One Not a) = (refl, core_clean n a)
core_clean n (One X a) = (refl, core_clean n a)
core_clean n (One G a) = (refl, (refl, (λ s. refl), (refl, core_clean n a)))
core_clean n (One F a) = (refl, (λ s. refl), core_clean n a)
core_clean n (Two And a b) = (refl, (refl, (refl, core_clean n a), (refl, core_clean n b)))
core_clean n (Two Or a b) = (refl, core_clean n a, core_clean n b)
core_clean n (Two Implies a b) = (refl, (refl, core_clean n a), core_clean n b)
core_clean n (Two Iff a b) =
    (refl, (refl, (refl, (refl, (refl, core_clean n a), core_clean n b)), (refl, (refl, (refl, core_clean n b), core_clean n a))))
core_clean n (Two U a b) = (refl, core_clean n a, core_clean n b)
core_clean n (Two R a b) = (refl, (refl, (refl, core_clean n a), (refl, core_clean n b)))
core_clean n (Two W a b) = (refl, (refl, core_clean n a, core_clean n b), (refl, (refl, (λ s. refl), (refl, core_clean n a))))

whole_clean : (f : Formula) → Clean 0 f
unfolding Clean
whole_clean True = λ s. refl
whole_clean False = λ s. refl
whole_clean (Signal k) = λ s. refl
whole_clean (One o a) = (refl, whole_clean a)
whole_clean (Two o a b) = (refl, whole_clean a, whole_clean b)

form_clean : (n : ℕ) (f : Formula) → Clean n (form n f)
form_clean zero f = whole_clean f
form_clean (suc zero) f = plain_clean f
form_clean (suc (suc n)) f = core_clean n f

-- a form's own nodes: none is forbidden
pub none_forbidden : (n : ℕ) (f : Formula) → SignalsBelow field_limit (form n f) → count (form n f) ≤ field_limit → forbidden n (nodes_of (form n f)) ≡ 0
unfolding nodes_of count
none_forbidden n f s h =
    let all : List ℕ = nodes_from 0 (form n f) in
    ap (λ (x : List ℕ). tally (forbids_word n x) all) (sym (append-nil all)) ∙ tally_clean n 0 (form n f) [] [] s (omega arith) refl (form_clean n f)
