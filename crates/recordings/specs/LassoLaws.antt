-- Laws of the positions of a lasso.
use Rattle.std.specs.Prelude.{ℕ, zero, suc, ◌+◌, ◌-◌, ◌%◌, ◌≤◌, ◌<◌, ◌≡◌, refl}
use Rattle.std.proofs.Common.{sym, ap, ◌∙◌, add-one, mod-eq_of_lt, mod-lt, arith, lt-ltb, le-ltb}
use Rattle.std.proofs.Math.Decide.{dec_lt}
use Rattle.std.proofs.Math.Nat.{mod_self, suc-mod}
use Rattle.recordings.specs.Lasso.{next, place}

pub next_on : (n l p : ℕ) → p + 1 < n → next n l p ≡ suc p
unfolding next
next_on n l p h = rw (lt-ltb (p + 1) n h) (add-one p)

pub next-back : (n l p : ℕ) → n ≤ p + 1 → next n l p ≡ l
unfolding next
next-back n l p h = rw (le-ltb (p + 1) n h)

pub next-lt : (n l p : ℕ) → l < n → next n l p < n
next-lt n l p h = go (dec_lt (p + 1) n)
  where
    go : Dec (p + 1 < n) → next n l p < n
    go (yes d) = rw (next_on n l p d) (omega arith)
    go (no d) = rw (next-back n l p (omega arith)) h

pub place-lt : (n l i : ℕ) → l < n → place n l i < n
unfolding place
place-lt n l zero h = omega arith
place-lt n l (suc i) h = next-lt n l (place n l i) h

pub place_same : (n l i : ℕ) → i < n → place n l i ≡ i
unfolding place
place_same n l zero h = refl
place_same n l (suc i) h = ap (next n l) (place_same n l i (omega arith)) ∙ next_on n l i (omega arith)

-- in closed form: past the end the loop is gone round
pub place_round : (n l i : ℕ) → l < n → n ≤ i → place n l i ≡ l + (i - l) % (n - l)
unfolding place
place_round n l zero h m = absurd (omega arith)
place_round n l (suc i) h m = go (dec_lt i n) (place_round n l i h)
  where
    d : ℕ
    d = n - l

    turned : (q : ℕ) → l + q < n → next n l (l + q) ≡ l + suc q % d
    turned q b = turn (dec_lt (l + q + 1) n)
      where
        turn : Dec (l + q + 1 < n) → next n l (l + q) ≡ l + suc q % d
        turn (yes c) =
            let e : suc q % d ≡ suc q = mod-eq_of_lt (omega arith) in
            next_on n l (l + q) c ∙ omega arith
        turn (no c) =
            let x : suc q ≡ d = omega arith in
            let e : suc q % d ≡ 0 = ap (λ y. y % d) x ∙ mod_self d in
            next-back n l (l + q) (omega arith) ∙ omega arith

    go : Dec (i < n) → (n ≤ i → place n l i ≡ l + (i - l) % d) → next n l (place n l i) ≡ l + (suc i - l) % d
    go (yes b) ih =
        let x : i ≡ l + (i - l) = omega arith in
        let y : suc (i - l) ≡ suc i - l = omega arith in
        ap (next n l) (place_same n l i b ∙ x) ∙ turned (i - l) (omega arith) ∙ ap (λ z. l + z % d) y
    go (no b) ih =
        let y : suc (i - l) ≡ suc i - l = omega arith in
        let k : (i - l) % d < d = mod-lt (i - l) (omega arith) in
        ap (next n l) (ih (omega arith)) ∙ turned ((i - l) % d) (omega arith) ∙ ap (λ z. l + z) (sym (suc-mod (i - l) d)) ∙ ap (λ z. l + z % d) y
