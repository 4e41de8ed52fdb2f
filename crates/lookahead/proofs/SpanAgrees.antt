-- 'Two words that agree on letters 0 to the reach give the same verdict, however they differ later' (document 02, F-3), at any position.
use Rattle.std.specs.Prelude.{ℕ, suc, ◌+◌, ◌≤◌, ◌≡◌, ◌↔◌}
use Rattle.std.proofs.Math.Path.{subst}
use Rattle.std.proofs.Common.{sym, arith}
use Rattle.std.proofs.Math.Bool.{So}
use Rattle.std.proofs.Math.Logic.Iff as Equiv
use Rattle.node.proofs.LogicLaws.{or_same, to_same}
use Rattle.node.specs.Temporal.{Property}
use Rattle.node.proofs.TemporalLaws.{Same, always_same, eventually_same, until_same, release_same, weak_same}
use Rattle.node.specs.Ltl.{Unary, Not, X, G, F, Binary, And, Or, Implies, Iff, U, R, W, UnaryMeans, BinaryMeans, Formula, True, False, Signal, One, Two, Word, Holds}
use Rattle.lookahead.specs.Span.{Span, Silent, Ahead, Endless, later, wider, forever, unary_span, binary_span, span}

module _ (u v : Word) where
  -- the words agree on what a span looks at from position t: nothing, so many letters on, or every letter
  abbrev pub Shared : Span → ℕ → Type 0
  Shared Silent t = Unit {0}
  Shared (Ahead n) t = (p : ℕ) → t ≤ p → p ≤ t + n → (k : ℕ) → u p k ≡ v p k
  Shared Endless t = (p k : ℕ) → u p k ≡ v p k

  shared_later : (s : Span) (t : ℕ) → Shared (later s) t → Shared s (suc t)
  shared_later Silent t h = tt
  shared_later (Ahead n) t h = λ p l m. h p (omega arith) (omega arith)
  shared_later Endless t h = h

  shared_forever : (s : Span) (t : ℕ) → Shared (forever s) t → (p : ℕ) → Shared s p
  shared_forever Silent t h p = tt
  shared_forever (Ahead n) t h p = λ q l m. h q
  shared_forever Endless t h p = h

  shared_left : (s r : Span) (t : ℕ) → Shared (wider s r) t → Shared s t
  shared_left Silent r t h = tt
  shared_left (Ahead n) Silent t h = h
  shared_left (Ahead n) (Ahead m) t h = λ p l g. h p l (omega arith)
  shared_left (Ahead n) Endless t h = λ p l g. h p
  shared_left Endless r t h = h

  shared_right : (s r : Span) (t : ℕ) → Shared (wider s r) t → Shared r t
  shared_right Silent r t h = h
  shared_right (Ahead n) Silent t h = tt
  shared_right (Ahead n) (Ahead m) t h = λ p l g. h p l (omega arith)
  shared_right (Ahead n) Endless t h = h
  shared_right Endless Silent t h = tt
  shared_right Endless (Ahead m) t h = λ p l g. h p
  shared_right Endless Endless t h = h

  -- a property that a span decides
  abbrev Alike : Span → Property → Property → Type 0
  Alike s P Q = (t : ℕ) → Shared s t → P t ↔ Q t

  -- the operators: the Boolean ones and X look at one position of their operands, the others at all
  unary-agrees : (o : Unary) (s : Span) {P Q : Property} → Alike s P Q → Alike (unary_span o s) (UnaryMeans o P) (UnaryMeans o Q)
  unary-agrees Not s e t h = Equiv.not (e t h)
  unary-agrees X s e t h = e (suc t) (shared_later s t h)
  unary-agrees G s e t h = always_same (λ p. e p (shared_forever s t h p)) t
  unary-agrees F s e t h = eventually_same (λ p. e p (shared_forever s t h p)) t

  binary-agrees : (o : Binary) (s r : Span) {P P' Q Q' : Property} → Alike s P P' → Alike r Q Q' → Alike (binary_span o s r) (BinaryMeans o P Q) (BinaryMeans o P' Q')
  binary-agrees o s r {P} {P'} {Q} {Q'} e f = go o
    where
      left : Alike (wider s r) P P'
      left t h = e t (shared_left s r t h)

      right : Alike (wider s r) Q Q'
      right t h = f t (shared_right s r t h)

      first : (t : ℕ) → Shared (forever (wider s r)) t → Same P P'
      first t h p = left p (shared_forever (wider s r) t h p)

      second : (t : ℕ) → Shared (forever (wider s r)) t → Same Q Q'
      second t h p = right p (shared_forever (wider s r) t h p)

      go : (o : Binary) → Alike (binary_span o s r) (BinaryMeans o P Q) (BinaryMeans o P' Q')
      go And t h = Equiv.and (left t h) (right t h)
      go Or t h = or_same (left t h) (right t h)
      go Implies t h = to_same (left t h) (right t h)
      go Iff t h = Equiv.and (to_same (left t h) (right t h)) (to_same (right t h) (left t h))
      go U t h = until_same (first t h) (second t h) t
      go R t h = release_same (first t h) (second t h) t
      go W t h = weak_same (first t h) (second t h) t

  -- two words that agree on what a formula looks at from a position: it holds there in both or in neither
  pub span-agrees : (f : Formula) → Alike (span f) (Holds f u) (Holds f v)
  unfolding Holds span
  span-agrees True t h = Equiv.rfl
  span-agrees False t h = Equiv.rfl
  span-agrees (Signal k) t h = let e : u t k ≡ v t k = h t (omega arith) (omega arith) k in (subst So e, subst So (sym e))
  span-agrees (One o a) t h = unary-agrees o (span a) (span-agrees a) t h
  span-agrees (Two o a b) t h = binary-agrees o (span a) (span b) (span-agrees a) (span-agrees b) t h
