-- A row says where its formula holds on the infinite word, for every operator (document 01, 'Recordings'; document 001, Appendix A.1).
-- U: sound by induction along the two sweeps, complete by the fixed point and induction on the distance; F, R, W and G from U, by duality.
use Prim.Native.Nat.{ℕ, zero, suc, ◌+◌, ◌-◌, ◌≤◌, ◌<◌}
use Rattle.std.specs.Prelude.{◌≡◌, Bool, not, ◌&&◌, ◌||◌, ◌↔◌}
use Rattle.std.proofs.Math.Path.{refl}
use Rattle.std.proofs.Common.{sym, ap, ◌∙◌, subst, arith, add-zero}
use Rattle.std.proofs.Math.Bool
use Rattle.std.proofs.Math.Bool.{true, false, So}
use Rattle.std.specs.Bool.{beq}
use Rattle.std.proofs.lemmas.Bool.{false≢true}
use Rattle.std.proofs.Math.Logic.Iff as Equiv
use Rattle.std.proofs.Math.Decide.{dec_lt, ℕ_discrete}
use Rattle.node.specs.Logic.{Either}
use Rattle.node.proofs.LogicLaws.{or_left, or_right, or_cases, some_at_lem, some_cases, stable-not, stable_so, so_and, not-not, or_same, to_same}
use Rattle.node.specs.Temporal.{Property, Always, Eventually, Until, Release, WeakUntil}
use Rattle.node.proofs.TemporalLaws.{StableAll, eventually_until, always_not_eventually, not_weak}
use Rattle.node.specs.Ltl.{Unary, Not, X, G, F, Binary, And, Or, Implies, Iff, U, R, W, Formula, True, False, Signal, One, Two, UnaryMeans, BinaryMeans, Holds}
use Rattle.recordings.specs.Lasso.{place, word_of}
use Rattle.recordings.specs.LassoLaws.{next_on, next-back, place-lt, place_same}
use Rattle.rows.specs.Row.{sweep_from, sweep, around, row, row_unary, row_binary}
use Rattle.rows.specs.RowLaws.{sweep-end, sweep-step, around_ext, around-dual, dual}

-- values as statements
abbrev yes! : So true
yes! = λ i. true

so_not : (x : Bool) → ¬ So x ↔ So (not x)
so_not true = (λ h. absurd (h yes!), λ e h. false≢true e)
so_not false = (λ h. yes!, λ e h. false≢true h)

so_or : (x y : Bool) → Either (So x) (So y) ↔ So (x || y)
so_or true y = (λ h. yes!, λ h. or_left yes!)
so_or false y = (λ o. or_cases (stable_so y) (λ h. absurd (false≢true h)) (λ h. h) o, λ h. or_right h)

so_imp : (x y : Bool) → (So x → So y) ↔ So (not x || y)
so_imp true y = (λ h. h yes!, λ h e. h)
so_imp false y = (λ h. yes!, λ h e. absurd (false≢true e))

so_iff : (x y : Bool) → (So x ↔ So y) ↔ So (beq x y)
so_iff true true = (λ h. yes!, λ h. Equiv.rfl)
so_iff true false = (λ h. h.0 yes!, λ h. absurd (false≢true h))
so_iff false true = (λ h. h.1 yes!, λ h. absurd (false≢true h))
so_iff false false = (λ h. yes!, λ h. Equiv.rfl)

-- the values a of a row say where P holds along the infinite word
abbrev pub Tells : ℕ → ℕ → (ℕ → Bool) → Property → Type 0
Tells n l a P = (t : ℕ) → P t ↔ So (a (place n l t))

tells-not : (n l : ℕ) (a : ℕ → Bool) {P : Property} → Tells n l a P → Tells n l (λ q. not (a q)) (λ t. ¬ P t)
tells-not n l a h t = Equiv.trans (Equiv.not (h t)) (so_not (a (place n l t)))

tells-stable : (n l : ℕ) (a : ℕ → Bool) {P : Property} → Tells n l a P → StableAll P
tells-stable n l a h t nn = (h t).1 (stable_so (a (place n l t)) (λ k. nn (λ p. k ((h t).0 p))))

until_now : {P Q : Property} (t : ℕ) → Q t → Until P Q t
until_now t q = some_at_lem t (omega arith, q, λ j a b. absurd (omega arith))

until_later : (P Q : Property) (t : ℕ) → P t → Until P Q (suc t) → Until P Q t
until_later P Q t p u = some_cases stable-not (λ m c. some_at_lem m (later m c.0, c.1, λ j a b. go m c j a b (ℕ_discrete j t))) u
  where
    later : (m : ℕ) → suc t ≤ m → t ≤ m
    later m h = omega arith

    go : (m : ℕ) → ((suc t ≤ m) × Q m × ((j : ℕ) → suc t ≤ j → j < m → P j)) → (j : ℕ) → t ≤ j → j < m → Dec (j ≡ t) → P j
    go m c j a b (yes e) = subst P (sym e) p
    go m c j a b (no d) = c.2 j (omega arith) b

module _ (n l : ℕ) (inside : l < n) (P Q : Property) (a b : ℕ → Bool) (at_p : Tells n l a P) (at-q : Tells n l b Q) where
  abbrev step : ℕ → Bool → Bool
  step q v = b q || (a q && v)

  one-step : (t : ℕ) (v : Bool) → (So v → Until P Q (suc t)) → So (step (place n l t) v) → Until P Q t
  one-step t v h s =
      or_cases stable-not (λ q. until_now t ((at-q t).1 q))
      (λ r. let c = (so_and (a (place n l t)) v).1 r in until_later P Q t ((at_p t).1 c.0) (h c.1))
      ((so_or (b (place n l t)) (a (place n l t) && v)).1 s)

  back : (k t : ℕ) → place n l t + suc k ≡ n → (s : Bool) → (So s → (u : ℕ) → place n l u ≡ l → Until P Q u)
      → So (sweep_from step s (place n l t) (suc k)) → Until P Q t
  unfolding sweep_from place
  back zero t m s h v = one-step t s (λ r. h r (suc t) (next-back n l (place n l t) (omega arith))) v
  back (suc k) t m s h v =
      let e : place n l (suc t) ≡ suc (place n l t) = next_on n l (place n l t) (omega arith) in
      one-step t (sweep_from step s (suc (place n l t)) (suc k))
      (λ r. back k (suc t) (omega arith) s h (subst (λ x. So (sweep_from step s x (suc k))) (sym e) r)) v

  swept : (t : ℕ) (s : Bool) → (So s → (u : ℕ) → place n l u ≡ l → Until P Q u) → So (sweep n step s (place n l t)) → Until P Q t
  swept t s h v =
      let d = place-lt n l t inside in
      let k : ℕ = n - place n l t - 1 in
      let e : n - place n l t ≡ suc k = omega arith in
      back k t (omega arith) s h (subst (λ x. So (sweep_from step s (place n l t) x)) e v)

  sound : (t : ℕ) → So (around n l false step (place n l t)) → Until P Q t
  unfolding around
  sound t v = swept t (sweep n step false l) (λ r u e. swept u false (λ f. absurd (false≢true f)) (subst (λ x. So (sweep n step false x)) (sym e) r)) v

  -- the values go on round the loop
  more : (q : ℕ) (u v : Bool) → (So u → So v) → So (step q u) → So (step q v)
  more q u v h s = or-in (b q) (a q) u v h s
    where
      or-in : (x y u v : Bool) → (So u → So v) → So (x || (y && u)) → So (x || (y && v))
      or-in true y u v h s = yes!
      or-in false true u v h s = h s
      or-in false false u v h s = s

  found : So (around n l false step l) → So (sweep n step false l)
  unfolding around
  found v = go (sweep n step false l) refl v
    where
      go : (x : Bool) → sweep n step false l ≡ x → So (sweep n step x l) → So (sweep n step false l)
      go true e r = e
      go false e r = r

  enters : (t : ℕ) → So (step (place n l t) (around n l false step (place n l (suc t)))) → So (around n l false step (place n l t))
  unfolding around place
  enters t s = go (dec_lt (place n l t + 1) n)
    where
      p : ℕ
      p = place n l t

      x : Bool
      x = sweep n step false l

      go : Dec (p + 1 < n) → So (sweep n step x p)
      go (yes d) = subst So (sym (sweep-step n step x p (omega arith))) (subst (λ y. So (step p (sweep n step x y))) (next_on n l p d) s)
      go (no d) =
          let h = place-lt n l t inside in
          let e : suc p ≡ n = omega arith in
          subst So (sym (sweep-step n step x p h ∙ ap (λ y. step p (sweep n step x y)) e ∙ ap (step p) (sweep-end n step x)))
          (more p (around n l false step l) x found (subst (λ y. So (step p (sweep n step x y))) (next-back n l p (omega arith)) s))

  complete : (d t : ℕ) → Q (t + d) → ((j : ℕ) → t ≤ j → j < t + d → P j) → So (around n l false step (place n l t))
  complete zero t q h = enters t ((so_or (b (place n l t)) _).0 (or_left ((at-q t).0 (subst Q (add-zero t) q))))
  complete (suc d) t q h =
      let e : t + suc d ≡ suc t + d = omega arith in
      enters t ((so_or (b (place n l t)) _).0 (or_right ((so_and (a (place n l t)) _).0
      ((at_p t).0 (h t (omega arith) (omega arith)), complete d (suc t) (subst Q e q) (λ j x y. h j (omega arith) (omega arith))))))

  pub until_tells : Tells n l (around n l false step) (Until P Q)
  until_tells t =
      (some_cases (stable_so (around n l false step (place n l t))) (λ m c. complete-at m c.0 c.1 c.2), sound t)
    where
      complete-at : (m : ℕ) → t ≤ m → Q m → ((j : ℕ) → t ≤ j → j < m → P j) → So (around n l false step (place n l t))
      complete-at m h q f =
          let e : m ≡ t + (m - t) = omega arith in
          complete (m - t) t (subst Q e q) (λ j x y. f j x (omega arith))

-- a row with the seed true is the contrary of one with the seed false
around-not : (n l : ℕ) (f g : ℕ → Bool → Bool) → ((q : ℕ) (v : Bool) → not (f q (not v)) ≡ g q v) → (p : ℕ) → not (around n l false g p) ≡ around n l true f p
around-not n l f g h p =
    ap not (sym (around-dual n l true f p ∙ around_ext n l (dual f) g false (λ q m v. h q v) p)) ∙ Bool.not-not (around n l true f p)

release_dual : (x y v : Bool) → not (y && (x || not v)) ≡ (not y || (not x && v))
release_dual true true v = refl
release_dual false true true = refl
release_dual false true false = refl
release_dual true false v = refl
release_dual false false v = refl

weak_dual : (x y v : Bool) → not (y || (x && not v)) ≡ ((not x && not y) || (not y && v))
weak_dual true true v = refl
weak_dual false true v = refl
weak_dual true false true = refl
weak_dual true false false = refl
weak_dual false false v = refl

always_dual : (x v : Bool) → not (x && not v) ≡ (not x || (true && v))
always_dual true true = refl
always_dual true false = refl
always_dual false v = refl

flip : (n l : ℕ) (g f : ℕ → Bool → Bool) {P : Property} → ((q : ℕ) (v : Bool) → not (f q (not v)) ≡ g q v)
    → Tells n l (around n l false g) P → Tells n l (around n l true f) (λ t. ¬ P t)
flip n l g f {P} h u t = subst (λ x. (¬ P t) ↔ So x) (around-not n l f g h (place n l t)) (tells-not n l (around n l false g) u t)

module _ (n l : ℕ) (inside : l < n) {P Q : Property} (a b : ℕ → Bool) (at_p : Tells n l a P) (at-q : Tells n l b Q) where
  release_tells : Tells n l (row_binary n l R a b) (Release P Q)
  release_tells =
      flip n l _ (λ q v. b q && (a q || v)) (λ q v. release_dual (a q) (b q) v)
      (until_tells n l inside _ _ (λ q. not (a q)) (λ q. not (b q)) (tells-not n l a at_p) (tells-not n l b at-q))

  weak_tells : Tells n l (row_binary n l W a b) (WeakUntil P Q)
  weak_tells t =
      Equiv.trans (Equiv.trans (Equiv.symm (not-not stable-not)) (Equiv.not (not_weak (tells-stable n l a at_p) t)))
      (flip n l _ (λ q v. b q || (a q && v)) (λ q v. weak_dual (a q) (b q) v)
      (until_tells n l inside _ _ (λ q. not (b q)) (λ q. not (a q) && not (b q)) (tells-not n l b at-q)
      (λ i. Equiv.trans (Equiv.and (tells-not n l a at_p i) (tells-not n l b at-q i)) (so_and (not (a (place n l i))) (not (b (place n l i)))))) t)

  eventually_tells : Tells n l (row_unary n l F a) (Eventually P)
  eventually_tells t = Equiv.trans (Equiv.symm (eventually_until P t)) (until_tells n l inside _ _ (λ q. true) a (λ i. (λ u. yes!, λ e. tt)) at_p t)

  always_tells : Tells n l (row_unary n l G a) (Always P)
  always_tells t =
      Equiv.trans (Equiv.symm (always_not_eventually (tells-stable n l a at_p) t))
      (flip n l _ (λ q v. a q && v) (λ q v. always_dual (a q) v)
      (λ i. Equiv.trans (Equiv.symm (eventually_until (λ j. ¬ P j) i)) (until_tells n l inside _ _ (λ q. true) (λ q. not (a q)) (λ j. (λ u. yes!, λ e. tt)) (tells-not n l a at_p) i)) t)

unary-tells : (n l : ℕ) → l < n → (o : Unary) (a : ℕ → Bool) {P : Property} → Tells n l a P → Tells n l (row_unary n l o a) (UnaryMeans o P)
unfolding place
unary-tells n l h Not a p t = tells-not n l a p t
unary-tells n l h X a p t = p (suc t)
unary-tells n l h G a p t = always_tells n l h a a p p t
unary-tells n l h F a p t = eventually_tells n l h a a p p t

binary-tells : (n l : ℕ) → l < n → (o : Binary) (a b : ℕ → Bool) {P Q : Property} → Tells n l a P → Tells n l b Q → Tells n l (row_binary n l o a b) (BinaryMeans o P Q)
binary-tells n l h And a b p q t = Equiv.trans (Equiv.and (p t) (q t)) (so_and (a (place n l t)) (b (place n l t)))
binary-tells n l h Or a b p q t = Equiv.trans (or_same (p t) (q t)) (so_or (a (place n l t)) (b (place n l t)))
binary-tells n l h Implies a b p q t = Equiv.trans (to_same (p t) (q t)) (so_imp (a (place n l t)) (b (place n l t)))
binary-tells n l h Iff a b p q t =
    Equiv.trans (Equiv.and (to_same (p t) (q t)) (to_same (q t) (p t))) (so_iff (a (place n l t)) (b (place n l t)))
binary-tells n l h U a b p q t = until_tells n l h _ _ a b p q t
binary-tells n l h R a b p q t = release_tells n l h a b p q t
binary-tells n l h W a b p q t = weak_tells n l h a b p q t

-- the theorem: a row's value at the place of a time is true exactly where the formula holds at that time
pub row-tells : (n l : ℕ) (letter : ℕ → ℕ → Bool) → l < n → (f : Formula) → Tells n l (row n l letter f) (Holds f (word_of n l letter))
unfolding row Holds
row-tells n l letter h True t = (λ u. yes!, λ e. tt)
row-tells n l letter h False t = (λ e. absurd e, λ e. false≢true e)
row-tells n l letter h (Signal k) t = Equiv.rfl
row-tells n l letter h (One o f) t = unary-tells n l h o (row n l letter f) (row-tells n l letter h f) t
row-tells n l letter h (Two o f g) t = binary-tells n l h o (row n l letter f) (row n l letter g) (row-tells n l letter h f) (row-tells n l letter h g) t

-- and at each of the lasso's positions
pub row-right : (n l : ℕ) (letter : ℕ → ℕ → Bool) → l < n → (f : Formula) (p : ℕ) → p < n
    → So (row n l letter f p) ↔ Holds f (word_of n l letter) p
row-right n l letter h f p m = Equiv.symm (subst (λ x. Holds f (word_of n l letter) p ↔ So (row n l letter f x)) (place_same n l p m) (row-tells n l letter h f p))
