-- Node n of a table looks at most n letters ahead, so the spans of a table stay below the number that means no bound.
use Rattle.std.specs.Prelude.{ℕ, zero, suc, ◌≤◌, ◌<◌, refl, List, length, get_or}
use native.Mathlib.Omega.{arith}
use Rattle.node.specs.Ltl.{Unary, Not, X, G, F, Binary, And, Or, Implies, Iff, U, R, W, Formula}
use Rattle.node.specs.Fields.{kind_of, first_of, second_of}
use Rattle.node.specs.Kinds.{Shape, Truth, Falsehood, Atom, UnaryOf, BinaryOf, Unused, shape_of, build}
use Rattle.node.specs.Table.{tree_at}
use Rattle.node.specs.Formed.{Formed, Below}
use Rattle.node.proofs.TableLaws.{node-is}
use Rattle.lookahead.specs.Span.{Span, Silent, Ahead, Endless, later, wider, forever, unary_span, binary_span, span}

-- a span of at most n letters ahead, if it has a bound
abbrev pub Low : ℕ → Span → Type 0
Low n Silent = Unit {0}
Low n (Ahead m) = m ≤ n
Low n Endless = Unit {0}

module _ (n : ℕ) where
  pub low-more : {m : ℕ} (s : Span) → m ≤ n → Low m s → Low n s
  low-more Silent h l = tt
  low-more (Ahead k) h l = omega arith
  low-more Endless h l = tt

  low-later : {m : ℕ} (s : Span) → m < n → Low m s → Low n (later s)
  low-later Silent h l = tt
  low-later (Ahead k) h l = omega arith
  low-later Endless h l = tt

  low-forever : (s : Span) → Low n (forever s)
  low-forever Silent = tt
  low-forever (Ahead k) = tt
  low-forever Endless = tt

  pub low-wider : (s t : Span) → Low n s → Low n t → Low n (wider s t)
  low-wider Silent t l h = h
  low-wider (Ahead k) Silent l h = l
  low-wider (Ahead k) (Ahead m) l h = omega arith
  low-wider (Ahead k) Endless l h = tt
  low-wider Endless t l h = tt

  low-unary : {m : ℕ} (o : Unary) (s : Span) → m < n → Low m s → Low n (unary_span o s)
  low-unary Not s h l = low-more s (omega arith) l
  low-unary X s h l = low-later s h l
  low-unary G s h l = low-forever s
  low-unary F s h l = low-forever s

  low-binary : (o : Binary) (s t : Span) → Low n s → Low n t → Low n (binary_span o s t)
  low-binary And s t l h = low-wider s t l h
  low-binary Or s t l h = low-wider s t l h
  low-binary Implies s t l h = low-wider s t l h
  low-binary Iff s t l h = low-wider s t l h
  low-binary U s t l h = low-forever (wider s t)
  low-binary R s t l h = low-forever (wider s t)
  low-binary W s t l h = low-forever (wider s t)

  low-build : (limit : ℕ) (s : Shape) (tree : ℕ → Formula) (a b : ℕ) → Below limit s n a b → ((k : ℕ) → k < n → Low k (span (tree k))) → Low n (span (build s tree a b))
  unfolding span
  low-build limit Truth tree a b h e = tt
  low-build limit Falsehood tree a b h e = tt
  low-build limit Atom tree a b h e = omega arith
  low-build limit (UnaryOf o) tree a b h e = low-unary o (span (tree a)) h (e a h)
  low-build limit (BinaryOf o) tree a b h e =
      low-binary o (span (tree a)) (span (tree b)) (low-more (span (tree a)) (let g = h.0 in omega arith) (e a h.0))
      (low-more (span (tree b)) (let g = h.1 in omega arith) (e b h.1))
  low-build limit Unused tree a b h e = absurd h

below-low : (limit : ℕ) (ws : List ℕ) → Formed limit ws → (d i : ℕ) → i < d → i < length ws → Low i (span (tree_at ws i))
below-low limit ws f zero i l h = absurd (omega arith)
below-low limit ws f (suc d) i l h =
    let w : ℕ = get_or ws i 0 in
    let n = node-is i (kind_of w) (first_of w) (second_of w) f h refl refl refl in
    rw n.tree (low-build i limit (shape_of (kind_of w)) (tree_at ws) (first_of w) (second_of w) n.lower (λ k hk. below-low limit ws f d k (omega arith) (omega arith)))

-- the spans of a table of the format
pub node-low : {limit : ℕ} {ws : List ℕ} → Formed limit ws → (i : ℕ) → i < length ws → Low i (span (tree_at ws i))
node-low {limit} {ws} f i h = below-low limit ws f (suc i) i (omega arith) h
