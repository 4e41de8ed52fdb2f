-- 'The reach is the same number in all three forms' (document 02, F-3): each form of a formula has the formula's span.
use Rattle.std.specs.Prelude.{ℕ, zero, suc, ◌≡◌, refl}
use Rattle.std.proofs.Common.{ap, ap₂, ◌∙◌}
use Rattle.node.specs.Ltl.{Not, X, G, F, And, Or, Implies, Iff, U, R, W, Formula, True, False, Signal, One, Two}
use Rattle.forms.specs.Forms.{plain, negated, core, form}
use Rattle.lookahead.specs.Span.{Span, later, wider, forever, span}
use Rattle.lookahead.proofs.SpanLaws.{wider_self, wider_comm, wider-again, wider-forever}

-- the spans of two operands in what is made of them
same-wider : {a b s t : Span} → a ≡ s → b ≡ t → wider a b ≡ wider s t
same-wider e f = ap₂ wider e f

same-forever : {a b s t : Span} → a ≡ s → b ≡ t → forever (wider a b) ≡ forever (wider s t)
same-forever e f = ap forever (same-wider e f)

-- `<->` has each operand twice
twice : {a b c d s t : Span} → a ≡ s → b ≡ t → c ≡ s → d ≡ t → wider (wider a b) (wider c d) ≡ wider s t
twice {s = s} {t = t} e f g h = same-wider (same-wider e f) (same-wider g h) ∙ wider_self (wider s t)

mutual
  unfolding span plain negated

  plain-span : (f : Formula) → span (plain f) ≡ span f
  plain-span True = refl
  plain-span False = refl
  plain-span (Signal k) = refl
  plain-span (One Not a) = negated-span a
  plain-span (One X a) = ap later (plain-span a)
  plain-span (One G a) = ap forever (plain-span a)
  plain-span (One F a) = ap forever (plain-span a)
  plain-span (Two And a b) = same-wider (plain-span a) (plain-span b)
  plain-span (Two Or a b) = same-wider (plain-span a) (plain-span b)
  plain-span (Two Implies a b) = same-wider (negated-span a) (plain-span b)
  plain-span (Two Iff a b) = twice (plain-span a) (plain-span b) (negated-span a) (negated-span b)
  plain-span (Two U a b) = same-forever (plain-span a) (plain-span b)
  plain-span (Two R a b) = same-forever (plain-span a) (plain-span b)
  plain-span (Two W a b) = same-forever (plain-span a) (plain-span b)

  negated-span : (f : Formula) → span (negated f) ≡ span f
  negated-span True = refl
  negated-span False = refl
  negated-span (Signal k) = refl
  negated-span (One Not a) = plain-span a
  negated-span (One X a) = ap later (negated-span a)
  negated-span (One G a) = ap forever (negated-span a)
  negated-span (One F a) = ap forever (negated-span a)
  negated-span (Two And a b) = same-wider (negated-span a) (negated-span b)
  negated-span (Two Or a b) = same-wider (negated-span a) (negated-span b)
  negated-span (Two Implies a b) = same-wider (plain-span a) (negated-span b)
  negated-span (Two Iff a b) = twice (plain-span a) (negated-span b) (negated-span a) (plain-span b)
  negated-span (Two U a b) = same-forever (negated-span a) (negated-span b)
  negated-span (Two R a b) = same-forever (negated-span a) (negated-span b)
  negated-span (Two W a b) =
      ap forever (same-wider (negated-span b) (same-wider (negated-span a) (negated-span b)) ∙ wider-again (span a) (span b))

core-span : (f : Formula) → span (core f) ≡ span f
unfolding span core
core-span True = refl
core-span False = refl
core-span (Signal k) = refl
core-span (One Not a) = core-span a
core-span (One X a) = ap later (core-span a)
core-span (One G a) = ap forever (core-span a)
core-span (One F a) = ap forever (core-span a)
core-span (Two And a b) = same-wider (core-span a) (core-span b)
core-span (Two Or a b) = same-wider (core-span a) (core-span b)
core-span (Two Implies a b) = same-wider (core-span a) (core-span b)
core-span (Two Iff a b) =
    same-wider (same-wider (core-span a) (core-span b)) (same-wider (core-span b) (core-span a) ∙ wider_comm (span b) (span a))
    ∙ wider_self (wider (span a) (span b))
core-span (Two U a b) = same-forever (core-span a) (core-span b)
core-span (Two R a b) = same-forever (core-span a) (core-span b)
core-span (Two W a b) = same-wider (same-forever (core-span a) (core-span b)) (ap forever (core-span a)) ∙ wider-forever (span a) (span b)

pub form-span : (number : ℕ) (f : Formula) → span (form number f) ≡ span f
form-span zero f = refl
form-span (suc zero) f = plain-span f
form-span (suc (suc k)) f = core-span f
