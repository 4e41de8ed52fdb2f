-- The forms of a formula: document 01, 'Forms'. Laws in FormLaws and FormSignals.
use Rattle.std.specs.Prelude.{ℕ, zero, suc, List, [], ◌∷◌}
use Rattle.node.specs.Ltl.{Not, X, G, F, And, Or, Implies, Iff, U, R, W, Formula, True, False, Signal, One, Two}

-- '1 (negation form)': 'Form 1 pushes `!` down, and the negated side of one operator is the plain side of another'
unfoldable mutual
  -- the formula; 'a <-> b gives (a && b) || (!a && !b)', 'a -> b gives !a || b'
  pub plain : Formula → Formula
  plain True = True
  plain False = False
  plain (Signal k) = Signal k
  plain (One Not a) = negated a
  plain (One X a) = One X (plain a)
  plain (One G a) = One G (plain a)
  plain (One F a) = One F (plain a)
  plain (Two And a b) = Two And (plain a) (plain b)
  plain (Two Or a b) = Two Or (plain a) (plain b)
  plain (Two Implies a b) = Two Or (negated a) (plain b)
  plain (Two Iff a b) = Two Or (Two And (plain a) (plain b)) (Two And (negated a) (negated b))
  plain (Two U a b) = Two U (plain a) (plain b)
  plain (Two R a b) = Two R (plain a) (plain b)
  plain (Two W a b) = Two W (plain a) (plain b)

  -- its negation; '(a && !b) || (!a && b)' for `<->`, '!(a W b) gives !b U (!a && !b). Others are the usual duals'
  pub negated : Formula → Formula
  negated True = False
  negated False = True
  negated (Signal k) = One Not (Signal k)
  negated (One Not a) = plain a
  negated (One X a) = One X (negated a)
  negated (One G a) = One F (negated a)
  negated (One F a) = One G (negated a)
  negated (Two And a b) = Two Or (negated a) (negated b)
  negated (Two Or a b) = Two And (negated a) (negated b)
  negated (Two Implies a b) = Two And (plain a) (negated b)
  negated (Two Iff a b) = Two Or (Two And (plain a) (negated b)) (Two And (negated a) (plain b))
  negated (Two U a b) = Two R (negated a) (negated b)
  negated (Two R a b) = Two U (negated a) (negated b)
  negated (Two W a b) = Two U (negated b) (Two And (negated a) (negated b))

-- Appendix A.1's derivations: a && b, a -> b, true U a for F a, G a, a R b
abbrev pub both_of : Formula → Formula → Formula
both_of a b = One Not (Two Or (One Not a) (One Not b))

abbrev pub implies_of : Formula → Formula → Formula
implies_of a b = Two Or (One Not a) b

abbrev pub finally_of : Formula → Formula
finally_of a = Two U True a

abbrev pub globally_of : Formula → Formula
globally_of a = One Not (finally_of (One Not a))

abbrev pub release_of : Formula → Formula → Formula
release_of a b = One Not (Two U (One Not a) (One Not b))

-- 'Form 2 uses Appendix A.1's derivations, false being !true, removing no double `!`'
unfoldable pub core : Formula → Formula
core True = True
core False = One Not True
core (Signal k) = Signal k
core (One Not a) = One Not (core a)
core (One X a) = One X (core a)
core (One G a) = globally_of (core a)
core (One F a) = finally_of (core a)
core (Two And a b) = both_of (core a) (core b)
core (Two Or a b) = Two Or (core a) (core b)
core (Two Implies a b) = implies_of (core a) (core b)
core (Two Iff a b) = both_of (implies_of (core a) (core b)) (implies_of (core b) (core a))
core (Two U a b) = Two U (core a) (core b)
core (Two R a b) = release_of (core a) (core b)
core (Two W a b) = Two Or (Two U (core a) (core b)) (globally_of (core a))

-- '0: as expanded', '1 (negation form)', '2 (core form)': the forms by their numbers
abbrev pub as_expanded : ℕ
as_expanded = 0

abbrev pub negation_form : ℕ
negation_form = 1

abbrev pub core_form : ℕ
core_form = 2

-- in their order
abbrev pub form_numbers : List ℕ
form_numbers = as_expanded ∷ negation_form ∷ core_form ∷ []

-- the last of them
abbrev pub last_form : ℕ
last_form = core_form

-- a formula in a form
abbrev pub form : ℕ → Formula → Formula
form zero f = f
form (suc zero) f = plain f
form (suc (suc n)) f = core f
