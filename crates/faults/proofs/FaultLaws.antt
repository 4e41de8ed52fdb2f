-- The named line is at fault: from rows that are right at every time of a lasso, of lines of any kind.
use Rattle.std.specs.Prelude.{ℕ, zero, suc, ◌≤◌, ◌<◌, ◌≡◌, Bool, List, ◌↔◌}
use Rattle.std.proofs.Math.Path.{refl}
use Rattle.std.proofs.Common.{sym, ◌∙◌, subst, arith}
use Rattle.std.proofs.Math.Bool.{true, false, So}
use Rattle.std.proofs.lemmas.Bool.{false≢true}
use Rattle.std.proofs.Math.Option.{Option, none, some}
use Rattle.std.proofs.Math.Decide.{dec_lt}
use Rattle.node.specs.Logic.{Stable}
use Rattle.node.proofs.LogicLaws.{stable_so, stable-and, not-or, not_implies}
use Rattle.node.specs.Temporal.{Property, Always}
use Rattle.node.proofs.TemporalLaws.{StableAll, stable_always}
use Rattle.bits.specs.Bits.{Values}
use Rattle.recordings.specs.Lasso.{place}
use Rattle.recordings.specs.LassoLaws.{place-lt, place_same}
use Rattle.language.specs.Tree.{Part, Initially, Preset, Require, Assert, Assume, Guarantee}
use Rattle.language.specs.Meaning.{Owed, WholeMeans}
use Rattle.faults.specs.Naming.{Finding, NoFault, FaultIn, first_false, all_true, broken_from, after_preset, or_else, line_named}
use Rattle.faults.specs.Diagnosing.{Every, FirstFails, FaultAt}
use Rattle.faults.proofs.NamingLaws.{Right, every_true, none_false, first_there, fails_first, Breaks, Unbroken, Found, broken_found}

module _ {A : Type 0} (M : A → Property) (ls : Part → List A) (rows : Part → List Values) (n l : ℕ) (inside : l < n)
    (right : (q : Part) (t : ℕ) → Right M (ls q) (rows q) t (place n l t)) where
  abbrev pub P : Part → Property
  P q = Every M (ls q)

  abbrev all : Part → Values
  all q = all_true (rows q)

  told : (q : Part) (t : ℕ) → P q t ↔ So (all q (place n l t))
  told q t = every_true M t (place n l t) (ls q) (rows q) (right q t)

  -- at a position of the lasso itself
  here : (q : Part) (p : ℕ) → p < n → Right M (ls q) (rows q) p p
  here q p h = subst (Right M (ls q) (rows q) p) (place_same n l p h) (right q p)

  at : (q : Part) (p : ℕ) → p < n → P q p ↔ So (all q p)
  at q p h = every_true M p p (ls q) (rows q) (here q p h)

  stable : (q : Part) → StableAll (P q)
  stable q t s = (told q t).1 (stable_so (all q (place n l t)) (λ k. s (λ h. k ((told q t).0 h))))

  any : 0 < n
  any = omega arith

  abbrev pub Blames : Bool → Finding → Type 0
  Blames strict NoFault = ⊥
  Blames strict (FaultIn q k) = FaultAt strict P M (ls q) q k

  abbrev Conditions : Type 0
  Conditions = Always (P Require) 0 × P Assume 0

  conditions_stable : Stable Conditions
  conditions_stable = stable-and (stable_always (stable Require) 0) (stable Assume 0)

  -- a line of GUARANTEE, where that section fails
  in-guarantee : (strict : Bool) → P Initially 0 → P Preset 0 → Conditions → ¬ P Guarantee 0 → Blames strict (FaultIn Guarantee (first_false 1 (rows Guarantee) 0))
  in-guarantee strict i s c u =
      record { p = 0; placed = refl; first = fails_first M 0 0 (ls Guarantee) (rows Guarantee) (here Guarantee 0 any) u; assumed = given strict }
    where
      given : (b : Bool) → P Initially 0 × P Preset 0 × Always (P Require) 0 × P Assume 0
      given b = (i, s, c.0, c.1)

  -- a line of ASSERT, at its smallest break
  module _ (strict : Bool) (p : ℕ) (b : Breaks strict (all Require) (all Assert) 0 n p) where
    low : p < n
    low = let h = b.within in omega arith

    first-broken : FirstFails M (ls Assert) (first_false 1 (rows Assert) p) p
    first-broken = fails_first M p p (ls Assert) (rows Assert) (here Assert p low) (λ h. false≢true (sym b.broken ∙ (at Assert p low).0 h))

    kept-before : (j : ℕ) → j < p → P Assert j
    kept-before j h = let q = low in (at Assert j (omega arith)).1 (b.kept j (omega arith) h)

    required-there : strict ≡ true → (j : ℕ) → j ≤ p → P Require j
    required-there e j h = let q = low in (at Require j (omega arith)).1 (b.required e j (omega arith) h)

  -- no break: ASSERT is owed nowhere in vain
  module _ (strict : Bool) (u : Unbroken strict (all Require) (all Assert) 0 n) where
    kept-within : (p : ℕ) → p < n → (strict ≡ true → (j : ℕ) → j ≤ p → P Require j) → P Assert p
    kept-within p h r =
        (at Assert p h).1 (u.kept p (omega arith) (omega arith) (λ e i x y. (at Require i (omega arith)).0 (r e i y)))

    -- and past the end of the recording, where positions repeat
    kept_on : (t : ℕ) → (strict ≡ true → (j : ℕ) → j ≤ t → P Require j) → P Assert t
    kept_on t r = go (dec_lt t n)
      where
        go : Dec (t < n) → P Assert t
        go (yes h) = kept-within t h r
        go (no h) =
            let p : ℕ = place n l t in
            let low : p < n = place-lt n l t inside in
            (told Assert t).1 ((at Assert p low).0 (kept-within p low (λ e j y. r e j (omega arith))))

  -- after PRESET
  behind-standard : P Initially 0 → P Preset 0 → ¬ (Conditions → (Always (P Assert) 0 × P Guarantee 0)) → (o : Option ℕ) → Found false (all Require) (all Assert) 0 n o
      → Blames false (after_preset (rows Assert) (rows Guarantee) o)
  behind-standard i s h (some p) b =
      let c = ((not_implies conditions_stable).0 h).0 in
      record { p = p; placed = kept-before false p b; first = first-broken false p b; assumed = (i, s, c.0, c.1) }
  behind-standard i s h none u =
      let c = (not_implies conditions_stable).0 h in
      in-guarantee false i s c.0 (λ g. c.1 (λ t a. kept_on false u t (λ e. absurd (false≢true e)), g))

  behind-strict : P Initially 0 → P Preset 0 → ¬ (Owed (P Assert) (P Require) 0 × (Conditions → P Guarantee 0)) → (o : Option ℕ) → Found true (all Require) (all Assert) 0 n o
      → Blames true (after_preset (rows Assert) (rows Guarantee) o)
  behind-strict i s h (some p) b =
      record { p = p; placed = kept-before true p b; first = first-broken true p b; assumed = (i, s, required-there true p b refl) }
  behind-strict i s h none u =
      let owed : Owed (P Assert) (P Require) 0 = λ p a r. kept_on true u p (λ e j y. r j (omega arith) y) in
      let c = (not_implies conditions_stable).0 (λ f. h (owed, f)) in
      in-guarantee true i s c.0 c.1

  -- PRESET first
  from-preset : (strict : Bool) → P Initially 0 → (k : ℕ) → first_false 1 (rows Preset) 0 ≡ k → (other : Finding) → (P Preset 0 → Blames strict other) → Blames strict (or_else k other)
  from-preset strict i zero e other f = f (none_false M 0 0 0 (ls Preset) (rows Preset) (here Preset 0 any) e)
  from-preset strict i (suc k) e other f =
      let first = first_there M 0 0 (ls Preset) (rows Preset) (here Preset 0 any) (subst (λ (x : ℕ). 0 < x) (sym e) (omega arith)) in
      record { p = 0; placed = refl; first = subst (λ (m : ℕ). FirstFails M (ls Preset) m 0) e first; assumed = i }

  -- 'Whenever a line is named, the assumptions that the semantics put before it hold': a line is named, it is false, and they do
  pub named-fault : (strict : Bool) → ¬ WholeMeans strict P 0 → Blames strict (line_named strict rows n)
  unfolding line_named
  named-fault false h =
      let o = not-or.0 h in
      let i = stable Initially 0 o.0 in
      let b = broken_from false (all Require) (all Assert) 0 n in
      from-preset false i (first_false 1 (rows Preset) 0) refl (after_preset (rows Assert) (rows Guarantee) b)
      (λ s. behind-standard i s (λ f. o.1 (s, f)) b (broken_found false (all Require) (all Assert) 0 n))
  named-fault true h =
      let o = not-or.0 h in
      let i = stable Initially 0 o.0 in
      let b = broken_from true (all Require) (all Assert) 0 n in
      from-preset true i (first_false 1 (rows Preset) 0) refl (after_preset (rows Assert) (rows Guarantee) b)
      (λ s. behind-strict i s (λ f. o.1 (s, f.0, f.1)) b (broken_found true (all Require) (all Assert) 0 n))
