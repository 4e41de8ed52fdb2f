-- The numbers of the code stand for the spans, node by node.
use Rattle.std.specs.Prelude.{ℕ, ◌+◌, ◌-◌, ◌≤◌, ◌<◌, max, ◌≡◌, refl, List, true, ltb, eqb, length, get_or}
use Rattle.std.proofs.Math.Bool.{and-eq-true_iff}
use Rattle.std.proofs.Math.Decide.{ℕ_discrete, dec_lt}
use Rattle.std.proofs.Common.{arith, ltb-true, eqb-true, le-leb, lt-ltb, le-ltb, eq-eqb, ne_eqb}
use Rattle.std.proofs.lemmas.Bool.{lt-leb}
use Rattle.node.specs.Limits.{max_nodes}
use Rattle.node.specs.Ltl.{Not, X, F, Formula}
use Rattle.node.specs.Fields.{kind_of, first_of, second_of}
use Rattle.node.specs.Kinds.{Shape, Truth, Falsehood, Atom, UnaryOf, BinaryOf, Unused, shape_of, kind_count, unary_kind, build, signal_kind}
use Rattle.node.proofs.KindLaws.{each_below, by_kind, no_shape}
use Rattle.node.specs.Result.{Done}
use Rattle.node.specs.Table.{tree_at, root, fits}
use Rattle.node.specs.Formed.{Formed, NodeIs}
use Rattle.node.proofs.TableLaws.{node-is}
use Rattle.lookahead.specs.Span.{Span, Silent, Ahead, Endless, later, wider, forever, unary_span, binary_span, span}
use Rattle.lookahead.specs.Reaching.{reported}
use Rattle.lookahead.proofs.Low.{Low, low-more, node-low}
use Rattle.lookahead.specs.Codes.{here, endless, Coded, forever_code, joined_code, code_of, node_code, near_count, narrow_code, widened, number_at, Sized, Narrow, InTable, told_code, Spanned}
use Rattle.lookahead.proofs.KeptLaws.{KeepsOne, coded_narrow}

-- the numbers of spans of a table: nodes before n, and node n
module _ (n : ℕ) (few : n ≤ max_nodes) where
  coded_more : (m s : ℕ) (t : Span) → m ≤ n → Coded m s t → Coded n s t
  coded_more m s Silent h c = omega arith
  coded_more m s (Ahead k) h c = c
  coded_more m s Endless h c = (c.0, omega arith)

  coded_later : (m s : ℕ) (t : Span) → m < n → Coded m s t → Coded n (s + 1) (later t)
  coded_later m s Silent h c = omega arith
  coded_later m s (Ahead k) h c = omega arith
  coded_later m s Endless h c = (omega arith, omega arith)

  coded_forever : (s : ℕ) (t : Span) → Coded n s t → Coded n (forever_code s) (forever t)
  coded_forever s Silent c = rw (lt-ltb s here (omega arith)) c
  coded_forever s (Ahead k) c = rw (le-ltb s here (omega arith)) (omega arith, omega arith)
  coded_forever s Endless c = rw (le-ltb s here (omega arith)) (omega arith, omega arith)

  coded_wider : (s r : ℕ) (t u : Span) → Low n t → Low n u → Coded n s t → Coded n r u → Coded n (max s r) (wider t u)
  coded_wider s r Silent Silent l h c d = omega arith
  coded_wider s r Silent (Ahead m) l h c d = omega arith
  coded_wider s r Silent Endless l h c d = (omega arith, omega arith)
  coded_wider s r (Ahead k) Silent l h c d = omega arith
  coded_wider s r (Ahead k) (Ahead m) l h c d = omega arith
  coded_wider s r (Ahead k) Endless l h c d = (omega arith, omega arith)
  coded_wider s r Endless Silent l h c d = (omega arith, omega arith)
  coded_wider s r Endless (Ahead m) l h c d = (omega arith, omega arith)
  coded_wider s r Endless Endless l h c d = (omega arith, omega arith)

pub code-told : (n s : ℕ) (t : Span) → n ≤ max_nodes → Low n t → Coded n s t → told_code s ≡ Done (reported t)
code-told n s Silent f l c = let e : s - here ≡ 0 = omega arith in rw (lt-leb endless s (omega arith), e)
code-told n s (Ahead k) f l c = let e : s - here ≡ k = omega arith in rw (lt-leb endless s (omega arith), e)
code-told n s Endless f l c = rw (le-leb endless s c.0)

-- the shapes of the operators
abbrev Operator : Shape → Type 0
Operator Truth = ⊥
Operator Falsehood = ⊥
Operator Atom = ⊥
Operator (UnaryOf o) = Unit {0}
Operator (BinaryOf o) = Unit {0}
Operator Unused = ⊥

-- what a kind makes of its operands' spans
abbrev pub shape_span : Shape → Span → Span → Span
shape_span Truth s t = Silent
shape_span Falsehood s t = Silent
shape_span Atom s t = Ahead 0
shape_span (UnaryOf o) s t = unary_span o s
shape_span (BinaryOf o) s t = binary_span o s t
shape_span Unused s t = Silent

span-build : (s : Shape) (tree : ℕ → Formula) (a b : ℕ) → span (build s tree a b) ≡ shape_span s (span (tree a)) (span (tree b))
unfolding span
span-build Truth tree a b = refl
span-build Falsehood tree a b = refl
span-build Atom tree a b = refl
span-build (UnaryOf o) tree a b = refl
span-build (BinaryOf o) tree a b = refl
span-build Unused tree a b = refl

module _ (n : ℕ) (few : n ≤ max_nodes) (m p x y : ℕ) (s t : Span) (lm : m < n) (lp : p < n) (ls : Low m s) (lt : Low p t) (cx : Coded m x s) (cy : Coded p y t) where
  one : Coded n x s
  one = coded_more n few m x s (omega arith) cx

  both : Coded n (max x y) (wider s t)
  both = coded_wider n few x y s t (low-more n s (omega arith) ls) (low-more n t (omega arith) lt) one (coded_more n few p y t (omega arith) cy)

  code-kind : (kind : ℕ) → kind < kind_count → Coded n (code_of kind x y) (shape_span (shape_of kind) s t)
  code-kind =
      by_kind (λ k. k < kind_count → Coded n (code_of k x y) (shape_span (shape_of k) s t)) (
        (
          (
            (
              (
                (((((((((tt, λ b. omega arith), λ b. omega arith), λ b. refl), λ b. one), λ b. both), λ b. both), λ b. both), λ b. both), λ b. coded_later n few m x s lm cx),
                λ b. coded_forever n few x s one,
              ),
              λ b. coded_forever n few x s one,
            ),
            λ b. coded_forever n few (max x y) (wider s t) both,
          ),
          λ b. coded_forever n few (max x y) (wider s t) both,
        ),
        λ b. coded_forever n few (max x y) (wider s t) both,
      )
      (λ k above below. absurd (omega arith))

-- an operator's operands come before it; the field that one of one operand does not use is 0
operands-lower : (limit n : ℕ) (s : Shape) (a b : ℕ) → fits limit n s a b ≡ true → Operator s → (a < n) × (b < n)
operands-lower limit n (UnaryOf o) a b ok u =
    let p = (and-eq-true_iff (ltb a n) (eqb b 0)).0 ok in
    let l = ltb-true a n p.0 in
    let z = eqb-true b 0 p.1 in
    (l, omega arith)
operands-lower limit n (BinaryOf o) a b ok u =
    let p = (and-eq-true_iff (ltb a n) (ltb b n)).0 ok in (ltb-true a n p.0, ltb-true b n p.1)
operands-lower limit n Truth a b ok u = absurd u
operands-lower limit n Falsehood a b ok u = absurd u
operands-lower limit n Atom a b ok u = absurd u
operands-lower limit n Unused a b ok u = absurd u

kind-operator : (kind : ℕ) → kind < kind_count → unary_kind Not ≤ kind → Operator (shape_of kind)
kind-operator =
    by_kind (λ k. k < kind_count → unary_kind Not ≤ k → Operator (shape_of k)) (
      (
        ((((((((((((tt, λ b o. omega arith), λ b o. omega arith), λ b o. omega arith), λ b o. tt), λ b o. tt), λ b o. tt), λ b o. tt), λ b o. tt), λ b o. tt), λ b o. tt), λ b o. tt), λ b o. tt),
        λ b o.
            tt,
      ),
      λ b o. tt,
    )
    (λ k above below o. absurd (omega arith))

-- constants and signals look at nothing else
code-leaf : (n x y : ℕ) (s t : Span) (kind : ℕ) → kind < unary_kind Not → Coded n (code_of kind x y) (shape_span (shape_of kind) s t)
code-leaf n x y s t = each_below (λ k. Coded n (code_of k x y) (shape_span (shape_of k) s t)) (unary_kind Not) (((tt, omega arith), omega arith), refl)

-- node i of a table of the format
module _ {limit : ℕ} {ws : List ℕ} (f : Formed limit ws) (i : ℕ) (h : i < length ws) where
  abbrev word : ℕ
  word = get_or ws i 0

  is : NodeIs limit ws i (shape_of (kind_of word)) (first_of word) (second_of word)
  is = node-is i (kind_of word) (first_of word) (second_of word) f h refl refl refl

  known : kind_of word < kind_count
  known = go (dec_lt (kind_of word) kind_count)
    where
      go : Dec (kind_of word < kind_count) → kind_of word < kind_count
      go (yes l) = l
      go (no l) =
          let e : shape_of (kind_of word) ≡ Unused = no_shape {kind = kind_of word} (omega arith) in
          let n : NodeIs limit ws i Unused (first_of word) (second_of word) = rw e at is in absurd n.lower

  lower : unary_kind Not ≤ kind_of word → (first_of word < i) × (second_of word < i)
  lower o = operands-lower limit i (shape_of (kind_of word)) (first_of word) (second_of word) (f.each i h) (kind-operator (kind_of word) known o)

  pub in_table : {bytes words : List ℕ} → Spanned ws i bytes words → InTable word (number_at bytes words)
  in_table {bytes} {words} e o =
      let p = lower o in
      let m = f.few in
      let j : ℕ = first_of word in
      let l = coded-low j (number_at bytes words j) (span (tree_at ws j)) (node-low f j (omega arith)) (e.right j p.0) in
      (omega arith, omega arith, omega arith)
    where
      coded-low : (j s : ℕ) (t : Span) → Low j t → Coded j s t → s ≤ endless + j
      coded-low j s Silent l c = omega arith
      coded-low j s (Ahead k) l c = omega arith
      coded-low j s Endless l c = c.1

  node_code_lem : {bytes words : List ℕ} → Spanned ws i bytes words → Coded i (node_code word (number_at bytes words)) (span (tree_at ws i))
  node_code_lem {bytes} {words} e =
      rw (is.tree, span-build (shape_of (kind_of word)) (tree_at ws) (first_of word) (second_of word)) (go (dec_lt (kind_of word) (unary_kind Not)))
    where
      s : Span
      s = span (tree_at ws (first_of word))

      t : Span
      t = span (tree_at ws (second_of word))

      go : Dec (kind_of word < unary_kind Not) → Coded i (node_code word (number_at bytes words)) (shape_span (shape_of (kind_of word)) s t)
      go (yes l) = code-leaf i (number_at bytes words (first_of word)) (number_at bytes words (second_of word)) s t (kind_of word) l
      go (no l) =
          let p = lower (omega arith) in
          let m = f.few in
          let a : ℕ = first_of word in
          let b : ℕ = second_of word in
          code-kind i (omega arith) a b (number_at bytes words a) (number_at bytes words b) s t p.0 p.1 (node-low f a (omega arith)) (node-low f b (omega arith))
          (e.right a p.0) (e.right b p.1) (kind_of word) known

  -- one of the first fits a byte
  pub narrow_code_lem : {bytes words : List ℕ} {r : ℕ} → i < near_count → Spanned ws i bytes words → r ≡ node_code word (number_at bytes words) → Narrow r
  narrow_code_lem {r = r} g e q n = bounded (span (tree_at ws i)) (node-low f i h) (rw q (node_code_lem e))
    where
      bounded : (t : Span) → Low i t → Coded i r t → r < here + near_count
      bounded Silent l c = omega arith
      bounded (Ahead k) l c = omega arith
      bounded Endless l c = absurd (omega (arith, n, c.0))

  -- one node more
  pub spanned_more : {bytes words bytes' words' : List ℕ} {r : ℕ} → Spanned ws i bytes words → Coded i r (span (tree_at ws i)) → KeepsOne i r bytes words bytes' words' →
      Spanned ws (i + 1) bytes' words'
  spanned_more {bytes' = bytes'} {words' = words'} e q k = record { sized = k.sized; right = λ j l. go j l (ℕ_discrete j i) }
    where
      go : (j : ℕ) → j < i + 1 → Dec (j ≡ i) → Coded j (number_at bytes' words' j) (span (tree_at ws j))
      go j l (yes b) = rw (b, k.here) q
      go j l (no b) = rw (k.others j b) (e.right j (omega arith))

  -- one of the others, and one of the first
  pub far_more : {bytes words bytes' words' : List ℕ} {r : ℕ} → Spanned ws i bytes words → r ≡ node_code word (number_at bytes words) → KeepsOne i r bytes words bytes' words' →
      Spanned ws (i + 1) bytes' words'
  far_more e q k = spanned_more e (rw q (node_code_lem e)) k

  pub near_more : {bytes words bytes' words' : List ℕ} {r : ℕ} → i < near_count → Spanned ws i bytes words → r ≡ narrow_code (node_code word (number_at bytes words)) →
      KeepsOne i (widened r) bytes words bytes' words' → Spanned ws (i + 1) bytes' words'
  near_more {bytes} {words} g e q k =
      spanned_more e (rw q (coded_narrow i (node_code word (number_at bytes words)) (span (tree_at ws i)) g (node-low f i h) (node_code_lem e))) k

-- all nodes: the last number is the root's reach
pub root_told : {limit : ℕ} {ws bytes words : List ℕ} → Formed limit ws → Spanned ws (length ws) bytes words →
    told_code (number_at bytes words (length ws - 1)) ≡ Done (reported (span (root ws)))
root_told {limit} {ws} {bytes} {words} f e =
    let p = f.some in
    let m = f.few in
    let j : ℕ = length ws - 1 in code-told j (number_at bytes words j) (span (root ws)) (omega arith) (node-low f j (omega arith)) (e.right j (omega arith))

-- the ways to a node's number
module _ (w : ℕ) {k : ℕ} (at : ℕ → ℕ) (e : k ≡ kind_of w) where
  pub node_constant : k < signal_kind → 0 ≡ node_code w at
  node_constant h = rw (← e, lt-ltb k signal_kind h)

  pub node-signal : signal_kind ≤ k → k < unary_kind Not → here ≡ node_code w at
  node-signal l h = rw (← e, le-ltb k signal_kind l, lt-ltb k (unary_kind Not) h)

  module _ {x : ℕ} (o : unary_kind Not ≤ k) (ex : x ≡ first_of w) where
    pub node-next : k ≡ unary_kind X → at x + 1 ≡ node_code w at
    node-next n = rw (← e, ← ex, le-ltb k signal_kind (omega arith), le-ltb k (unary_kind Not) o, eq-eqb k (unary_kind X) n)

    pub node-not : (k ≡ unary_kind X → ⊥) → k ≡ unary_kind Not → at x ≡ node_code w at
    node-not n q = rw (← e, ← ex, le-ltb k signal_kind (omega arith), le-ltb k (unary_kind Not) o, ne_eqb k (unary_kind X) n, eq-eqb k (unary_kind Not) q)

    module _ {y : ℕ} (n : k ≡ unary_kind X → ⊥) (q : k ≡ unary_kind Not → ⊥) (ey : y ≡ second_of w) where
      pub node-joined : joined_code k (at x) (at y) ≡ node_code w at
      node-joined = rw (← e, ← ex, ← ey, le-ltb k signal_kind (omega arith), le-ltb k (unary_kind Not) o, ne_eqb k (unary_kind X) n, ne_eqb k (unary_kind Not) q)

-- the ways of an operator other than X and !
module _ (k a b : ℕ) where
  pub joined-boolean : k < unary_kind X → max a b ≡ joined_code k a b
  joined-boolean h = rw (lt-ltb k (unary_kind X) h)

  pub joined-one : unary_kind X ≤ k → k ≤ unary_kind F → forever_code a ≡ joined_code k a b
  joined-one l h = rw (le-ltb k (unary_kind X) l, le-leb k (unary_kind F) h)

  pub joined-two : unary_kind X ≤ k → unary_kind F < k → forever_code (max a b) ≡ joined_code k a b
  joined-two l h = rw (le-ltb k (unary_kind X) l, lt-leb k (unary_kind F) h)

-- no node yet
pub spanned_none : (ws : List ℕ) {bytes words : List ℕ} → Sized bytes words → Spanned ws 0 bytes words
spanned_none ws z = record { sized = z; right = λ j h. absurd (omega arith) }
