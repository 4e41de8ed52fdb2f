-- The first false line, and the smallest break of ASSERT, from rows that are right.
use Prim.Native.Nat.{ℕ, zero, suc, ◌+◌, ◌≤◌, ◌<◌}
use Rattle.std.specs.Prelude.{◌≡◌, Bool, not, ◌&&◌, ◌↔◌, length}
use Rattle.std.proofs.Math.Path.{refl, ap, subst}
use Rattle.std.proofs.Common.{sym, ◌∙◌, arith}
use Rattle.std.proofs.Math.Bool.{true, false, So, false≢true}
use mathlib.Core.List.{List, [], ◌∷◌, ◌++◌}
use Rattle.std.proofs.Math.Option.{Option, none, some}
use Rattle.std.proofs.Math.Decide.{ℕ_discrete}
use Rattle.node.specs.Temporal.{Property}
use Rattle.bits.specs.Bits.{Values}
use Rattle.language.specs.Bytes.{if◌then◌otherwise◌}
use Rattle.faults.specs.Naming.{first_false, all_true, broken_from}
use Rattle.faults.specs.Diagnosing.{Every, FirstFails}

-- the rows of lines, right at a position: at t of the word, which is p of the recording
abbrev pub Right : {A : Type 0} → (A → Property) → List A → List Values → ℕ → ℕ → Type 0
Right M [] [] t p = Unit {0}
Right M [] (b ∷ bs) t p = ⊥
Right M (a ∷ us) [] t p = ⊥
Right M (a ∷ us) (b ∷ bs) t p = (M a t ↔ So (b p)) × Right M us bs t p

module _ {A : Type 0} (M : A → Property) (t p : ℕ) where
  -- a section's row
  pub every_true : (us : List A) (bs : List Values) → Right M us bs t p → Every M us t ↔ So (all_true bs p)
  unfolding all_true
  every_true [] (b ∷ bs) r = elim r [ ]
  every_true (a ∷ us) [] r = elim r [ ]
  every_true [] [] r = (λ u. λ i. true, λ e. tt)
  every_true (a ∷ us) (b ∷ bs) r = go (b p) r.0 (every_true us bs r.1)
    where
      go : (x : Bool) → M a t ↔ So x → Every M us t ↔ So (all_true bs p) → (M a t × Every M us t) ↔ So (x && all_true bs p)
      go true h k = (λ u. k.0 u.1, λ e. (h.1 (λ i. true), k.1 e))
      go false h k = (λ u. absurd (false≢true (h.0 u.0)), λ e. absurd (false≢true e))

  -- none is false
  pub none_false : (k : ℕ) (us : List A) (bs : List Values) → Right M us bs t p → first_false (suc k) bs p ≡ 0 → Every M us t
  unfolding first_false
  none_false k [] (b ∷ bs) r e = elim r [ ]
  none_false k (a ∷ us) [] r e = elim r [ ]
  none_false k [] [] r e = tt
  none_false k (a ∷ us) (b ∷ bs) r e = go (b p) r.0 (none_false (suc k) us bs r.1) e
    where
      go : (x : Bool) → M a t ↔ So x → (first_false (suc (suc k)) bs p ≡ 0 → Every M us t) → (if x then first_false (suc (suc k)) bs p otherwise suc k) ≡ 0 → M a t × Every M us t
      go true h f e = (h.1 (λ i. true), f e)
      go false h f e = absurd (omega (arith, e))

  -- one is: of rows numbered from k + 1 on
  record FromHere (k : ℕ) (us : List A) (m : ℕ) : Type 0 where
    pub before : List A
    pub line : A
    pub behind : List A
    pub there : us ≡ before ++ (line ∷ behind)
    pub number : m ≡ suc (k + length before)
    pub earlier : Every M before t
    pub fails : ¬ M line t

  first_false_lem : (k : ℕ) (us : List A) (bs : List Values) → Right M us bs t p → 0 < first_false (suc k) bs p → FromHere k us (first_false (suc k) bs p)
  unfolding first_false
  first_false_lem k [] (b ∷ bs) r l = elim r [ ]
  first_false_lem k (a ∷ us) [] r l = elim r [ ]
  first_false_lem k [] [] r l = absurd (omega (arith, l))
  first_false_lem k (a ∷ us) (b ∷ bs) r l = go (b p) r.0 (first_false_lem (suc k) us bs r.1) l
    where
      go : (x : Bool) → M a t ↔ So x → (0 < first_false (suc (suc k)) bs p → FromHere (suc k) us (first_false (suc (suc k)) bs p))
          → 0 < (if x then first_false (suc (suc k)) bs p otherwise suc k) → FromHere k (a ∷ us) (if x then first_false (suc (suc k)) bs p otherwise suc k)
      go true h f l =
          let g = f l in
          let n = g.number in
          record {
            before = a ∷ g.before;
            line = g.line;
            behind = g.behind;
            there = ap (λ (x : List A). a ∷ x) g.there;
            number = omega (arith, n);
            earlier = (h.1 (λ i. true), g.earlier);
            fails = g.fails;
          }
      go false h f l =
          record { before = []; line = a; behind = us; there = refl; number = omega arith; earlier = tt; fails = λ m. false≢true (h.0 m) }

  pub first_there : (us : List A) (bs : List Values) → Right M us bs t p → 0 < first_false 1 bs p → FirstFails M us (first_false 1 bs p) t
  first_there us bs r l =
      let f = first_false_lem 0 us bs r l in
      let n = f.number in
      record { before = f.before; line = f.line; behind = f.behind; there = f.there; number = omega arith; earlier = f.earlier; fails = f.fails }

  -- so a section that fails has a first line that does
  pub fails_first : (us : List A) (bs : List Values) → Right M us bs t p → ¬ Every M us t → FirstFails M us (first_false 1 bs p) t
  fails_first us bs r h = go (first_false 1 bs p) refl
    where
      go : (m : ℕ) → first_false 1 bs p ≡ m → FirstFails M us (first_false 1 bs p) t
      go zero e = absurd (h (none_false 0 us bs r e))
      go (suc m) e = first_there us bs r (subst (λ (x : ℕ). 0 < x) (sym e) (omega arith))

-- what the search for a break finds, among n positions from p on
module _ (strict : Bool) (require assert : Values) where
  -- the smallest; strict: REQUIRE is true up to it
  pub record Breaks (p n q : ℕ) : Type 0 where
    pub from : p ≤ q
    pub within : q < p + n
    pub broken : assert q ≡ false
    pub kept : (j : ℕ) → p ≤ j → j < q → So (assert j)
    pub required : strict ≡ true → (j : ℕ) → p ≤ j → j ≤ q → So (require j)

  -- none: what is owed there is kept
  pub record Unbroken (p n : ℕ) : Type 0 where
    pub kept : (j : ℕ) → p ≤ j → j < p + n → (strict ≡ true → (i : ℕ) → p ≤ i → i ≤ j → So (require i)) → So (assert j)

  abbrev pub Found : ℕ → ℕ → Option ℕ → Type 0
  Found p n (some q) = Breaks p n q
  Found p n none = Unbroken p n

  -- one position more in front, where ASSERT holds
  further : (p n : ℕ) → So (assert p) → (strict ≡ true → So (require p)) → (o : Option ℕ) → Found (suc p) n o → Found p (suc n) o
  further p n a r (some q) f =
      let from = f.from in
      let within = f.within in
      record {
        from = omega arith;
        within = omega arith;
        broken = f.broken;
        kept = λ j u v. kept j u v (ℕ_discrete j p);
        required = λ e j u v. required e j u v (ℕ_discrete j p);
      }
    where
      kept : (j : ℕ) → p ≤ j → j < q → Dec (j ≡ p) → So (assert j)
      kept j u v (yes e) = subst (λ (x : ℕ). So (assert x)) (sym e) a
      kept j u v (no e) = f.kept j (omega arith) v

      required : strict ≡ true → (j : ℕ) → p ≤ j → j ≤ q → Dec (j ≡ p) → So (require j)
      required s j u v (yes e) = subst (λ (x : ℕ). So (require x)) (sym e) (r s)
      required s j u v (no e) = f.required s j (omega arith) v
  further p n a r none f = record { kept = λ j u v h. kept j u v h (ℕ_discrete j p) }
    where
      kept : (j : ℕ) → p ≤ j → j < p + suc n → (strict ≡ true → (i : ℕ) → p ≤ i → i ≤ j → So (require i)) → Dec (j ≡ p) → So (assert j)
      kept j u v h (yes e) = subst (λ (x : ℕ). So (assert x)) (sym e) a
      kept j u v h (no e) = f.kept j (omega arith) (omega arith) (λ s i x y. h s i (omega arith) y)

  pub broken_found : (p n : ℕ) → Found p n (broken_from strict require assert p n)
  unfolding broken_from
  broken_found p zero = record { kept = λ j u v. absurd (omega arith) }
  broken_found p (suc n) = go strict (require p) (assert p) refl refl refl (broken_found (suc p) n)
    where
      here : (strict ≡ true → So (require p)) → assert p ≡ false → Breaks p (suc n) p
      here r a =
          record {
            from = omega arith;
            within = omega arith;
            broken = a;
            kept = λ j u v. absurd (omega arith);
            required = λ e j u v. subst (λ (x : ℕ). So (require x)) (omega arith) (r e);
          }

      go : (s r a : Bool) → strict ≡ s → require p ≡ r → assert p ≡ a → Found (suc p) n (broken_from strict require assert (suc p) n)
          → Found p (suc n) (if s && not r then none otherwise (if a then broken_from strict require assert (suc p) n otherwise some p))
      go true false a es er ea f = record { kept = λ j u v h. absurd (false≢true (sym er ∙ h es p (omega arith) u)) }
      go true true true es er ea f = further p n ea (λ e. er) (broken_from strict require assert (suc p) n) f
      go true true false es er ea f = here (λ e. er) ea
      go false r true es er ea f = further p n ea (λ e. absurd (false≢true (sym es ∙ e))) (broken_from strict require assert (suc p) n) f
      go false r false es er ea f = here (λ e. absurd (false≢true (sym es ∙ e))) ea
