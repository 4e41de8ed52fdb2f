-- What comes next at a node means of its formula: an operand without a number is what is written next; where each operand has one, writing the formula is placing the node's
-- word over their numbers.
use Prim.Native.Nat.{ℕ, zero, suc, ◌≤◌, ◌<◌}
use Rattle.std.specs.Prelude.{◌≡◌, List, true, length, eqb, ltb}
use Rattle.std.proofs.Math.Path.{refl, ap}
use Rattle.std.proofs.Common.{ap₂, ◌∙◌, sym, subst, arith}
use Rattle.std.proofs.lemmas.Bool.{false≢true}
use Rattle.std.proofs.Math.ListN.{get_or}
use borrow.Author.Tests.{ltb-true, eqb-true}
use Rattle.node.specs.Limits.{max_nodes}
use Rattle.node.specs.Ltl.{Formula}
use Rattle.node.specs.Fields.{pack, kind_of, first_of, second_of}
use Rattle.node.specs.Kinds.{Shape, Truth, Falsehood, Atom, UnaryOf, BinaryOf, Unused, shape_of, build, unary_kind, binary_kind, true_kind, false_kind, signal_kind}
use Rattle.node.specs.Tests.{and_left, and_right}
use Rattle.node.specs.Formed.{Formed}
use Rattle.node.specs.Table.{tree_at, fits, node_fits}
use Rattle.node.proofs.TableLaws.{tree-step}
use Rattle.sharing.specs.Sharing.{Placed, place, write}
use Rattle.sharing.proofs.StandsLaws.{Found, found_adds}
use Rattle.sharing.proofs.FormedLaws.{kind_for, kind_for_lem, fits-used}
use Rattle.ordering.specs.declared.Next.TheVariants.{Operand, Word}
use Rattle.ordering.specs.Ordering.{arity, numbered, next_by, next_of, Readable}
use Rattle.ordering.specs.FirstLaws.{First, itself, operand, left, right}

-- the nodes' numbers plus 1, 0 for none: a node that has one has its formula there
pub record Remembers (tree : ℕ → Formula) (memo t : List ℕ) : Type 0 where
  pub noted : (k v : ℕ) → get_or memo k 0 ≡ suc v → Found t (tree k) v

-- operand c of node n, whose formula is f, comes next: it has no number, and its formula is what is written next of f
pub record Awaited (tree : ℕ → Formula) (memo t : List ℕ) (n : ℕ) (f : Formula) (c : ℕ) : Type 0 where
  pub below : c < n
  pub fresh : get_or memo c 0 ≡ 0
  pub next : First t (tree c) f

apart : {x c : ℕ} → Word x ≡ Operand c → ⊥
apart e = let z : ◌≡◌ {A = ℕ} 0 1 = cc in omega arith

same_operand : {a c : ℕ} → Operand a ≡ Operand c → a ≡ c
same_operand e = cc

same_word : {x y : ℕ} → Word x ≡ Word y → x ≡ y
same_word e = cc

module _ {tree : ℕ → Formula} {memo t : List ℕ} (r : Remembers tree memo t) (limit n : ℕ) where
  awaits : {a c : ℕ} {f : Formula} → a < n → get_or memo a 0 ≡ 0 → First t (tree a) f → Operand a ≡ Operand c → Awaited tree memo t n f c
  awaits {f = f} l e p q = subst (Awaited tree memo t n f) (same_operand q) (record { below = l; fresh = e; next = p })

  -- an operand without a number is what is written next
  awaited_by : (s : Shape) (a b c : ℕ) → fits limit n s a b ≡ true → next_by memo (kind_for s) a b (arity s) ≡ Operand c → Awaited tree memo t n (build s tree a b) c
  awaited_by Truth a b c ok q = absurd (apart q)
  awaited_by Falsehood a b c ok q = absurd (apart q)
  awaited_by Atom a b c ok q = absurd (apart q)
  awaited_by (UnaryOf o) a b c ok q = go (get_or memo a 0) refl q
    where
      go : (m : ℕ) → get_or memo a 0 ≡ m → numbered a m (λ v. Word (pack (unary_kind o) v 0)) ≡ Operand c → Awaited tree memo t n (build (UnaryOf o) tree a b) c
      go zero e q = awaits (ltb-true a n (and_left (ltb a n) (eqb b 0) ok)) e (operand itself) q
      go (suc v) e q = absurd (apart q)
  awaited_by (BinaryOf o) a b c ok q = go (get_or memo a 0) (get_or memo b 0) refl refl q
    where
      go : (m l : ℕ) → get_or memo a 0 ≡ m → get_or memo b 0 ≡ l → numbered a m (λ v. numbered b l (λ u. Word (pack (binary_kind o) v u))) ≡ Operand c
          → Awaited tree memo t n (build (BinaryOf o) tree a b) c
      go zero l e g q = awaits (ltb-true a n (and_left (ltb a n) (ltb b n) ok)) e (left itself) q
      go (suc v) zero e g q = awaits (ltb-true b n (and_right (ltb a n) (ltb b n) ok)) g (right v (r.noted a v e) itself) q
      go (suc v) (suc u) e g q = absurd (apart q)
  awaited_by Unused a b c ok q = absurd (false≢true ok)

  -- where each operand has one, writing the formula is placing the word over their numbers
  settled_by : (s : Shape) (a b w : ℕ) → fits limit n s a b ≡ true → next_by memo (kind_for s) a b (arity s) ≡ Word w → write t (build s tree a b) ≡ place t w
  unfolding write
  settled_by Truth a b w ok q =
      let p = eqb-true a 0 (and_left (eqb a 0) (eqb b 0) ok) in
      let z = eqb-true b 0 (and_right (eqb a 0) (eqb b 0) ok) in
      ap (place t) (sym (ap₂ (pack true_kind) p z) ∙ same_word q)
  settled_by Falsehood a b w ok q =
      let p = eqb-true a 0 (and_left (eqb a 0) (eqb b 0) ok) in
      let z = eqb-true b 0 (and_right (eqb a 0) (eqb b 0) ok) in
      ap (place t) (sym (ap₂ (pack false_kind) p z) ∙ same_word q)
  settled_by Atom a b w ok q =
      let z = eqb-true b 0 (and_right (ltb a limit) (eqb b 0) ok) in
      ap (place t) (sym (ap (pack signal_kind a) z) ∙ same_word q)
  settled_by (UnaryOf o) a b w ok q = go (get_or memo a 0) refl q
    where
      go : (m : ℕ) → get_or memo a 0 ≡ m → numbered a m (λ v. Word (pack (unary_kind o) v 0)) ≡ Word w → write t (build (UnaryOf o) tree a b) ≡ place t w
      go zero e q = absurd (apart (sym q))
      go (suc v) e q =
          ap (λ (x : Placed). place x.table (pack (unary_kind o) x.number 0)) (found_adds t (tree a) v (r.noted a v e)) ∙ ap (place t) (same_word q)
  settled_by (BinaryOf o) a b w ok q = go (get_or memo a 0) (get_or memo b 0) refl refl q
    where
      go : (m l : ℕ) → get_or memo a 0 ≡ m → get_or memo b 0 ≡ l → numbered a m (λ v. numbered b l (λ u. Word (pack (binary_kind o) v u))) ≡ Word w
          → write t (build (BinaryOf o) tree a b) ≡ place t w
      go zero l e g q = absurd (apart (sym q))
      go (suc v) zero e g q = absurd (apart (sym q))
      go (suc v) (suc u) e g q =
          ap (λ (x : Placed). let z = write x.table (tree b) in place z.table (pack (binary_kind o) x.number z.number)) (found_adds t (tree a) v (r.noted a v e))
          ∙ ap (λ (z : Placed). place z.table (pack (binary_kind o) v z.number)) (found_adds t (tree b) u (r.noted b u g)) ∙ ap (place t) (same_word q)
  settled_by Unused a b w ok q = absurd (false≢true ok)

-- the operands of a node come before it
fits-first : (limit n : ℕ) (s : Shape) (a b : ℕ) → fits limit n s a b ≡ true → 1 ≤ arity s → a < n
fits-first limit n Truth a b ok h = absurd (omega arith)
fits-first limit n Falsehood a b ok h = absurd (omega arith)
fits-first limit n Atom a b ok h = absurd (omega arith)
fits-first limit n (UnaryOf o) a b ok h = ltb-true a n (and_left (ltb a n) (eqb b 0) ok)
fits-first limit n (BinaryOf o) a b ok h = ltb-true a n (and_left (ltb a n) (ltb b n) ok)
fits-first limit n Unused a b ok h = absurd (false≢true ok)

fits-second : (limit n : ℕ) (s : Shape) (a b : ℕ) → fits limit n s a b ≡ true → 2 ≤ arity s → b < n
fits-second limit n Truth a b ok h = absurd (omega arith)
fits-second limit n Falsehood a b ok h = absurd (omega arith)
fits-second limit n Atom a b ok h = absurd (omega arith)
fits-second limit n (UnaryOf o) a b ok h = absurd (omega arith)
fits-second limit n (BinaryOf o) a b ok h = ltb-true b n (and_right (ltb a n) (ltb b n) ok)
fits-second limit n Unused a b ok h = absurd (false≢true ok)

-- so they can be read
pub formed-readable : {limit : ℕ} {nodes memo : List ℕ} {i : ℕ} → Formed limit nodes → i < length nodes → ((k : ℕ) → get_or memo k 0 ≤ max_nodes) → Readable memo (get_or nodes i 0)
formed-readable {limit} {nodes} {memo} {i} formed h small =
    let w : ℕ = get_or nodes i 0 in
    let few = formed.few in
    record {
      first = λ m. let l = fits-first limit i (shape_of (kind_of w)) (first_of w) (second_of w) (formed.each i h) m in omega arith;
      second = λ m. let l = fits-second limit i (shape_of (kind_of w)) (first_of w) (second_of w) (formed.each i h) m in omega arith;
      few = small;
    }

-- the same of a node of a table
module _ {limit : ℕ} {nodes memo t : List ℕ} (formed : Formed limit nodes) (r : Remembers (tree_at nodes) memo t) {i : ℕ} (h : i < length nodes) where
  abbrev word : ℕ
  word = get_or nodes i 0

  abbrev shape : Shape
  shape = shape_of (kind_of word)

  ok : node_fits limit i word ≡ true
  ok = formed.each i h

  own_kind_lem : kind_for shape ≡ kind_of word
  own_kind_lem = kind_for_lem (kind_of word) (fits-used limit i shape (first_of word) (second_of word) ok)

  by_shape : next_by memo (kind_for shape) (first_of word) (second_of word) (arity shape) ≡ next_of memo word
  unfolding next_of
  by_shape = ap (λ (k : ℕ). next_by memo k (first_of word) (second_of word) (arity shape)) own_kind_lem

  tree_is : tree_at nodes i ≡ build shape (tree_at nodes) (first_of word) (second_of word)
  tree_is = tree-step limit nodes i h ok

  pub awaited : {c : ℕ} → Operand c ≡ next_of memo word → Awaited (tree_at nodes) memo t i (tree_at nodes i) c
  awaited {c} e = rw tree_is (awaited_by r limit i shape (first_of word) (second_of word) c ok (by_shape ∙ sym e))

  pub settled : {w : ℕ} → Word w ≡ next_of memo word → write t (tree_at nodes i) ≡ place t w
  settled {w} e = rw tree_is (settled_by r limit i shape (first_of word) (second_of word) w ok (by_shape ∙ sym e))
