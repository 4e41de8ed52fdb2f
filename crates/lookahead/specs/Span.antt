-- How far ahead a formula looks: document 02, F-3. Laws in SpanLaws, SpanAgrees and SpanForms.
use Rattle.std.specs.Prelude.{ℕ, suc, max}
use Rattle.node.specs.Ltl.{Unary, Not, X, G, F, Binary, And, Or, Implies, Iff, U, R, W, Formula, True, False, Signal, One, Two}

-- what a formula looks at: no signal; signals, so many letters ahead at most; signals, without a bound
pub data Span : Type 0 where
  Silent Endless : Span
  Ahead : ℕ → Span

-- '1 more than its operand for X'
abbrev pub later : Span → Span
later Silent = Silent
later (Ahead n) = Ahead (suc n)
later Endless = Endless

-- 'the greater operand for the Boolean kinds'
abbrev pub wider : Span → Span → Span
wider Silent t = t
wider (Ahead n) Silent = Ahead n
wider (Ahead n) (Ahead m) = Ahead (max n m)
wider (Ahead n) Endless = Endless
wider Endless t = Endless

-- 'unbounded for G, F, U, R or W above a signal'
abbrev pub forever : Span → Span
forever Silent = Silent
forever (Ahead n) = Endless
forever Endless = Endless

abbrev pub unary_span : Unary → Span → Span
unary_span Not s = s
unary_span X s = later s
unary_span G s = forever s
unary_span F s = forever s

abbrev pub binary_span : Binary → Span → Span → Span
binary_span And s t = wider s t
binary_span Or s t = wider s t
binary_span Implies s t = wider s t
binary_span Iff s t = wider s t
binary_span U s t = forever (wider s t)
binary_span R s t = forever (wider s t)
binary_span W s t = forever (wider s t)

-- '0 for a node with no signal below it and for a signal': of the first nothing is looked at, whatever stands above it; of the second the letter at hand
unfoldable pub span : Formula → Span
span True = Silent
span False = Silent
span (Signal k) = Ahead 0
span (One o a) = unary_span o (span a)
span (Two o a b) = binary_span o (span a) (span b)
