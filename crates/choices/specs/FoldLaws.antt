-- A fold by its steps: no formula, the first, one more, the end.
use Rattle.std.specs.Prelude.{ℕ, Bool, true, false, List, [], ◌∷◌, ◌++◌, ◌≡◌, refl}
use Rattle.std.proofs.Common.{sym, ap, ◌∙◌, subst, arith}
use Rattle.node.specs.Ltl.{Binary, And, Or, Formula, Two}
use Rattle.node.specs.Kinds.{binary_kind}
use Rattle.language.specs.Expansion.{joined}
use Rattle.writing.specs.Writing.{Wrote, Joins, truth}
use Rattle.choices.specs.declared.folds.Fold.{Fold}
use Rattle.choices.specs.Folds.{over, Begun, Folded, Furthers, Finishes}

abbrev pub operator : Bool → Binary
operator true = And
operator false = Or

joined-more : (o : Binary) (a : Formula) (bs : List Formula) (b : Formula) → joined o a (bs ++ (b ∷ [])) ≡ Two o (joined o a bs) b
joined-more o a [] b = refl
joined-more o a (c ∷ bs) b = joined-more o (Two o a c) bs b

pub over-more : (all : Bool) (fs : List Formula) (a : Formula) → (fs ≡ [] → ⊥) → over all (fs ++ (a ∷ [])) ≡ Two (operator all) (over all fs) a
over-more all [] a h = absurd (h refl)
over-more true (f ∷ fs) a h = joined-more And f fs a
over-more false (f ∷ fs) a h = joined-more Or f fs a

pub over-one : (all : Bool) (a : Formula) → over all (a ∷ []) ≡ a
over-one true a = refl
over-one false a = refl

over_none : (all : Bool) → over all [] ≡ truth all
over_none true = refl
over_none false = refl

not_none : (fs : List Formula) (a : Formula) → fs ++ (a ∷ []) ≡ [] → ⊥
not_none [] a e = let z : ◌≡◌ {A = ℕ} 0 1 = cc in omega arith
not_none (f ∷ fs) a e = let z : ◌≡◌ {A = ℕ} 0 1 = cc in omega arith

pub folded_none : (all : Bool) (out : List ℕ) (at : ℕ) → Folded all (record { some = false; end = at }) [] out out at
folded_none all out at = record { begun = (refl, (refl, refl)) }

module _ {all : Bool} {f : Fold} where
  begun_of : {b : Bool} {fs : List Formula} {out out' : List ℕ} {at : ℕ} → f.some ≡ b → Folded all f fs out out' at → Begun b all fs out out' at f.end
  begun_of {b} {fs} {out} {out'} {at} e h = subst (λ (c : Bool). Begun c all fs out out' at f.end) e h.begun

  pub furthers_first : (r : ℕ) (out : List ℕ) → f.some ≡ false → Furthers all f r out out (record { some = true; end = r })
  furthers_first r out e = record {
    folded = λ {fs} {a} {before} {between} {at} h w.
        let b = begun_of e h in
        let none : fs ++ (a ∷ []) ≡ a ∷ [] = ap (λ (l : List Formula). l ++ (a ∷ [])) b.0 in
        let same : over all (fs ++ (a ∷ [])) ≡ a = ap (over all) none ∙ over-one all a in
        record { begun = (not_none fs a, rw (same, ← b.1.0, ← b.1.1) w) };
  }

  pub furthers_more : (op r r' : ℕ) (out out' : List ℕ) → f.some ≡ true → op ≡ binary_kind (operator all) → Joins op out out' f.end r r'
      → Furthers all f r out out' (record { some = true; end = r' })
  furthers_more op r r' out out' e k j = record {
    folded = λ {fs} {a} {before} {between} {at} h w.
        let b = begun_of e h in
        record { begun = (not_none fs a, subst (λ (g : Formula). Wrote g before out' at r') (sym (over-more all fs a b.0)) (j.wrote (operator all) k b.1 w)) };
  }

  pub finishes_some : (out : List ℕ) → f.some ≡ true → Finishes all f out out f.end
  finishes_some out e = record { wrote = λ h. (begun_of e h).1 }

  pub finishes_none : (out out' : List ℕ) (r : ℕ) → f.some ≡ false → Wrote (truth all) out out' f.end r → Finishes all f out out' r
  finishes_none out out' r e w = record {
    wrote = λ {fs} {before} {at} h.
        let b = begun_of e h in
        let same : over all fs ≡ truth all = ap (over all) b.0 ∙ over_none all in
        rw (same, ← b.1.0, ← b.1.1) w;
  }
