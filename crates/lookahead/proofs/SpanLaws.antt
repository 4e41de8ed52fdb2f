-- Laws of spans: of two spans the wider, in any order, grouping and number; and a formula is silent exactly if no signal is below it.
use Rattle.std.specs.Prelude.{ℕ, max, ◌≡◌, refl, ◌↔◌}
use Rattle.std.proofs.Common.{ap, ap₂, ◌∙◌, arith}
use Rattle.node.specs.Ltl.{Unary, Not, X, G, F, Binary, And, Or, Implies, Iff, U, R, W, Formula, True, False, Signal, One, Two}
use Rattle.node.specs.Postorder.{SignalsBelow}
use Rattle.lookahead.specs.Span.{Span, Silent, Ahead, Endless, later, wider, forever, unary_span, binary_span, span}

pub wider_self : (s : Span) → wider s s ≡ s
wider_self Silent = refl
wider_self (Ahead n) = let e : max n n ≡ n = omega arith in ap Ahead e
wider_self Endless = refl

pub wider_comm : (s t : Span) → wider s t ≡ wider t s
wider_comm Silent Silent = refl
wider_comm Silent (Ahead m) = refl
wider_comm Silent Endless = refl
wider_comm (Ahead n) Silent = refl
wider_comm (Ahead n) (Ahead m) = let e : max n m ≡ max m n = omega arith in ap Ahead e
wider_comm (Ahead n) Endless = refl
wider_comm Endless Silent = refl
wider_comm Endless (Ahead m) = refl
wider_comm Endless Endless = refl

-- a span that is among the two adds nothing
pub wider-again : (s t : Span) → wider t (wider s t) ≡ wider s t
wider-again Silent t = wider_self t
wider-again (Ahead n) Silent = refl
wider-again (Ahead n) (Ahead m) = let e : max m (max n m) ≡ max n m = omega arith in ap Ahead e
wider-again (Ahead n) Endless = refl
wider-again Endless Silent = refl
wider-again Endless (Ahead m) = refl
wider-again Endless Endless = refl

pub wider-forever : (s t : Span) → wider (forever (wider s t)) (forever s) ≡ forever (wider s t)
wider-forever Silent Silent = refl
wider-forever Silent (Ahead m) = refl
wider-forever Silent Endless = refl
wider-forever (Ahead n) Silent = refl
wider-forever (Ahead n) (Ahead m) = refl
wider-forever (Ahead n) Endless = refl
wider-forever Endless t = refl

-- which spans are silent
ahead-not : {n : ℕ} → Ahead n ≡ Silent → ⊥
ahead-not e = let z : ◌≡◌ {A = ℕ} 0 1 = cc in omega arith

endless-not : Endless ≡ Silent → ⊥
endless-not e = let z : ◌≡◌ {A = ℕ} 0 1 = cc in omega arith

later_silent : (s : Span) → later s ≡ Silent → s ≡ Silent
later_silent Silent e = refl
later_silent (Ahead n) e = absurd (ahead-not e)
later_silent Endless e = e

forever_silent : (s : Span) → forever s ≡ Silent → s ≡ Silent
forever_silent Silent e = refl
forever_silent (Ahead n) e = absurd (endless-not e)
forever_silent Endless e = e

wider_silent : (s t : Span) → wider s t ≡ Silent → (s ≡ Silent) × (t ≡ Silent)
wider_silent Silent t e = (refl, e)
wider_silent (Ahead n) Silent e = absurd (ahead-not e)
wider_silent (Ahead n) (Ahead m) e = absurd (ahead-not e)
wider_silent (Ahead n) Endless e = absurd (endless-not e)
wider_silent Endless t e = absurd (endless-not e)

operand_silent : (o : Unary) (s : Span) → unary_span o s ≡ Silent → s ≡ Silent
operand_silent Not s e = e
operand_silent X s e = later_silent s e
operand_silent G s e = forever_silent s e
operand_silent F s e = forever_silent s e

operands_silent : (o : Binary) (s t : Span) → binary_span o s t ≡ Silent → (s ≡ Silent) × (t ≡ Silent)
operands_silent And s t e = wider_silent s t e
operands_silent Or s t e = wider_silent s t e
operands_silent Implies s t e = wider_silent s t e
operands_silent Iff s t e = wider_silent s t e
operands_silent U s t e = wider_silent s t (forever_silent (wider s t) e)
operands_silent R s t e = wider_silent s t (forever_silent (wider s t) e)
operands_silent W s t e = wider_silent s t (forever_silent (wider s t) e)

silent_unary : (o : Unary) → unary_span o Silent ≡ Silent
silent_unary Not = refl
silent_unary X = refl
silent_unary G = refl
silent_unary F = refl

silent_binary : (o : Binary) → binary_span o Silent Silent ≡ Silent
silent_binary And = refl
silent_binary Or = refl
silent_binary Implies = refl
silent_binary Iff = refl
silent_binary U = refl
silent_binary R = refl
silent_binary W = refl

-- 'a node with no signal below it', no signal number being below 0
silent_none : (f : Formula) → span f ≡ Silent → SignalsBelow 0 f
unfolding span SignalsBelow
silent_none True e = tt
silent_none False e = tt
silent_none (Signal k) e = absurd (ahead-not e)
silent_none (One o a) e = silent_none a (operand_silent o (span a) e)
silent_none (Two o a b) e = let both = operands_silent o (span a) (span b) e in (silent_none a both.0, silent_none b both.1)

none_silent : (f : Formula) → SignalsBelow 0 f → span f ≡ Silent
unfolding span SignalsBelow
none_silent True s = refl
none_silent False s = refl
none_silent (Signal k) s = absurd (omega arith)
none_silent (One o a) s = ap (unary_span o) (none_silent a s) ∙ silent_unary o
none_silent (Two o a b) s = ap₂ (binary_span o) (none_silent a s.0) (none_silent b s.1) ∙ silent_binary o

pub silent_signals : (f : Formula) → (span f ≡ Silent) ↔ SignalsBelow 0 f
silent_signals f = (silent_none f, none_silent f)
