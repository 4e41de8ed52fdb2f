-- Each dual and each derivation of the forms on operands that differ, so that an operand left out, put twice or swapped is refused here.
use Rattle.std.specs.Prelude.{ℕ, ◌≡◌}
use Rattle.std.proofs.Math.Path.{refl}
use Rattle.node.specs.Ltl.{Not, X, G, F, And, Or, Implies, Iff, U, R, W, Formula, True, False, Signal, One, Two}
use Rattle.forms.specs.Forms.{plain, negated, core, form}

module _ (a b : ℕ) where
  abbrev pub p : Formula
  p = Signal a

  abbrev pub q : Formula
  q = Signal b

  -- '0: as expanded'
  pub as_expanded_lem : form 0 (Two Implies p q) ≡ Two Implies p q
  unfolding plain negated core
  as_expanded_lem = refl

  -- negation form, plain: `!` stays on signals alone, 'a -> b gives !a || b'
  pub next-plain : form 1 (One X p) ≡ One X p
  unfolding plain negated core
  next-plain = refl

  pub always_plain : form 1 (One G p) ≡ One G p
  unfolding plain negated core
  always_plain = refl

  pub eventually_plain : form 1 (One F p) ≡ One F p
  unfolding plain negated core
  eventually_plain = refl

  pub and-plain : form 1 (Two And p q) ≡ Two And p q
  unfolding plain negated core
  and-plain = refl

  pub or-plain : form 1 (Two Or p q) ≡ Two Or p q
  unfolding plain negated core
  or-plain = refl

  pub implies_plain : form 1 (Two Implies p q) ≡ Two Or (One Not p) q
  unfolding plain negated core
  implies_plain = refl

  -- 'a <-> b gives (a && b) || (!a && !b), negated (a && !b) || (!a && b)'
  pub iff_plain : form 1 (Two Iff p q) ≡ Two Or (Two And p q) (Two And (One Not p) (One Not q))
  unfolding plain negated core
  iff_plain = refl

  pub until_plain : form 1 (Two U p q) ≡ Two U p q
  unfolding plain negated core
  until_plain = refl

  pub release_plain : form 1 (Two R p q) ≡ Two R p q
  unfolding plain negated core
  release_plain = refl

  pub weak_plain : form 1 (Two W p q) ≡ Two W p q
  unfolding plain negated core
  weak_plain = refl

  -- negation form, negated: 'Others are the usual duals'
  pub not_true : form 1 (One Not True) ≡ False
  unfolding plain negated core
  not_true = refl

  pub not_false : form 1 (One Not False) ≡ True
  unfolding plain negated core
  not_false = refl

  pub not_signal_lem : form 1 (One Not p) ≡ One Not p
  unfolding plain negated core
  not_signal_lem = refl

  pub not-not : form 1 (One Not (One Not p)) ≡ p
  unfolding plain negated core
  not-not = refl

  pub not-next : form 1 (One Not (One X p)) ≡ One X (One Not p)
  unfolding plain negated core
  not-next = refl

  pub not_always : form 1 (One Not (One G p)) ≡ One F (One Not p)
  unfolding plain negated core
  not_always = refl

  pub not_eventually : form 1 (One Not (One F p)) ≡ One G (One Not p)
  unfolding plain negated core
  not_eventually = refl

  pub not-and : form 1 (One Not (Two And p q)) ≡ Two Or (One Not p) (One Not q)
  unfolding plain negated core
  not-and = refl

  pub not-or : form 1 (One Not (Two Or p q)) ≡ Two And (One Not p) (One Not q)
  unfolding plain negated core
  not-or = refl

  pub not_implies : form 1 (One Not (Two Implies p q)) ≡ Two And p (One Not q)
  unfolding plain negated core
  not_implies = refl

  pub not_iff : form 1 (One Not (Two Iff p q)) ≡ Two Or (Two And p (One Not q)) (Two And (One Not p) q)
  unfolding plain negated core
  not_iff = refl

  pub not_until : form 1 (One Not (Two U p q)) ≡ Two R (One Not p) (One Not q)
  unfolding plain negated core
  not_until = refl

  pub not_release : form 1 (One Not (Two R p q)) ≡ Two U (One Not p) (One Not q)
  unfolding plain negated core
  not_release = refl

  -- '!(a W b) gives !b U (!a && !b)'
  pub not_weak : form 1 (One Not (Two W p q)) ≡ Two U (One Not q) (Two And (One Not p) (One Not q))
  unfolding plain negated core
  not_weak = refl

  -- core form: 'false being !true, removing no double `!`'
  pub false_core : form 2 (One Not (One Not False)) ≡ One Not (One Not (One Not True))
  unfolding plain negated core
  false_core = refl

  pub next-core : form 2 (One X p) ≡ One X p
  unfolding plain negated core
  next-core = refl

  -- Appendix A.1's derivations
  pub always_core : form 2 (One G p) ≡ One Not (Two U True (One Not p))
  unfolding plain negated core
  always_core = refl

  pub eventually_core : form 2 (One F p) ≡ Two U True p
  unfolding plain negated core
  eventually_core = refl

  pub and-core : form 2 (Two And p q) ≡ One Not (Two Or (One Not p) (One Not q))
  unfolding plain negated core
  and-core = refl

  pub or-core : form 2 (Two Or p q) ≡ Two Or p q
  unfolding plain negated core
  or-core = refl

  pub implies_core : form 2 (Two Implies p q) ≡ Two Or (One Not p) q
  unfolding plain negated core
  implies_core = refl

  pub iff_core : form 2 (Two Iff p q) ≡ One Not (Two Or (One Not (Two Or (One Not p) q)) (One Not (Two Or (One Not q) p)))
  unfolding plain negated core
  iff_core = refl

  pub until_core : form 2 (Two U p q) ≡ Two U p q
  unfolding plain negated core
  until_core = refl

  pub release_core : form 2 (Two R p q) ≡ One Not (Two U (One Not p) (One Not q))
  unfolding plain negated core
  release_core = refl

  pub weak_core : form 2 (Two W p q) ≡ Two Or (Two U p q) (One Not (Two U True (One Not p)))
  unfolding plain negated core
  weak_core = refl
