-- Laws of recordings: the test for zero bits step by step, the ways through refusal 20, and what a recording of the format has.
use Rattle.std.specs.Prelude.{ℕ, suc, ◌+◌, ◌*◌, ◌-◌, ◌^◌, ◌≤◌, ◌<◌, min, ◌≡◌, refl, Bool, true, false, not, ◌&&◌, List, ltb, leb, eqb, length}
use Rattle.std.proofs.Common.{sym, ap, ◌∙◌, add-one, arith, ltb-true, leb-true, eqb-true, le-leb, eq-eqb, ne_eqb}
use Rattle.std.proofs.lemmas.Bool.{lt-leb}
use Rattle.basics.specs.Told.{max_told}
use Rattle.node.specs.Result.{Result, Done, Refused, ◌>>=◌, guard}
use Rattle.node.specs.Tests.{and_left, and_right}
use Rattle.node.proofs.ResultLaws.{guard-pass, guard-stop, guard-done, guard-refused, not_done}
use Rattle.recordings.specs.Limits.{max_positions, signal_bits, header_bytes, header_bits, told}
use Rattle.bits.specs.Bits.{bit_at, width}
use Rattle.bits.specs.BitLaws.{number_lt}
use Rattle.recordings.specs.Recording.{lasso_of, header_fits, blank, filled, readable, counted}
use Rattle.recordings.specs.declared.Lasso.{Lasso}

blank_step : (bs : List ℕ) (i to : ℕ) → i < to → blank bs i (to - i) ≡ (not (bit_at bs i) && blank bs (i + 1) (to - (i + 1)))
unfolding blank
blank_step bs i to h =
    let e : to - i ≡ suc (to - suc i) = omega arith in
    rw (add-one i, e)

pub blank-stop : (bs : List ℕ) (i to : ℕ) → i < to → bit_at bs i ≡ true → blank bs i (to - i) ≡ false
blank-stop bs i to h e = blank_step bs i to h ∙ ap (λ b. not b && blank bs (i + 1) (to - (i + 1))) e

pub blank_on : (bs : List ℕ) (i to : ℕ) → i < to → bit_at bs i ≡ false → blank bs i (to - i) ≡ blank bs (i + 1) (to - (i + 1))
blank_on bs i to h e = blank_step bs i to h ∙ ap (λ b. not b && blank bs (i + 1) (to - (i + 1))) e

pub blank-end : (bs : List ℕ) (i to : ℕ) → to ≤ i → blank bs i (to - i) ≡ true
unfolding blank
blank-end bs i to h = let e : to - i ≡ 0 = omega arith in rw e

-- a place is told as far as an answer can
pub told_is : (place : ℕ) → min max_told place ≡ told place
unfolding told
told_is place = refl

-- what a header of the format says
pub record Heads (signals : ℕ) (w : Lasso) : Type 0 where
  pub some : 0 < w.n
  pub few : w.n ≤ max_positions
  pub loop : w.l < w.n
  pub known : w.k ≤ signals

pub heads : (signals : ℕ) (w : Lasso) → header_fits signals w ≡ true → Heads signals w
heads signals w e =
    let p = and_right (ltb 0 w.n) _ e in
    let q = and_right (leb w.n max_positions) _ p in
    record {
      some = ltb-true 0 w.n (and_left (ltb 0 w.n) _ e);
      few = leb-true w.n max_positions (and_left (leb w.n max_positions) _ p);
      loop = ltb-true w.l w.n (and_left (ltb w.l w.n) _ q);
      known = leb-true w.k signals (and_right (ltb w.l w.n) _ q);
    }

-- the ways through the test of the letters
module _ {A : Type 0} (bs : List ℕ) (w : Lasso) (r : Result A) where
  pub filled_long : (length bs ≡ header_bytes + width (w.n * w.k) → ⊥) → filled bs w r ≡ Refused 20 (told (length bs))
  unfolding filled
  filled_long h = guard-stop 20 (told (length bs)) _ (ne_eqb (length bs) (header_bytes + width (w.n * w.k)) h)

  filled-bits : length bs ≡ header_bytes + width (w.n * w.k)
      → filled bs w r ≡ guard (blank bs (header_bits + w.n * w.k) (8 * length bs - (header_bits + w.n * w.k))) 20 (length bs - 1) r
  unfolding filled
  filled-bits h = guard-pass 20 (told (length bs)) _ (eq-eqb (length bs) (header_bytes + width (w.n * w.k)) h)

  pub filled-spare : {b : Bool} → length bs ≡ header_bytes + width (w.n * w.k) → b ≡ blank bs (header_bits + w.n * w.k) (8 * length bs - (header_bits + w.n * w.k)) → b ≡ false
      → filled bs w r ≡ Refused 20 (length bs - 1)
  filled-spare h e f = filled-bits h ∙ guard-stop 20 (length bs - 1) r (sym e ∙ f)

  pub filled-good : {b : Bool} → length bs ≡ header_bytes + width (w.n * w.k) → b ≡ blank bs (header_bits + w.n * w.k) (8 * length bs - (header_bits + w.n * w.k)) → b ≡ true → filled bs w r ≡ r
  filled-good h e f = filled-bits h ∙ guard-pass 20 (length bs - 1) r (sym e ∙ f)

-- the ways through the test of the whole
module _ {A : Type 0} (signals : ℕ) (bs : List ℕ) (r : Result A) where
  pub readable_short : length bs < header_bytes → readable signals bs r ≡ Refused 20 (length bs)
  unfolding readable
  readable_short h = guard-stop 20 (length bs) _ (lt-leb header_bytes (length bs) h)

  readable_long : header_bytes ≤ length bs → readable signals bs r ≡ guard (header_fits signals (lasso_of bs)) 20 0 (filled bs (lasso_of bs) r)
  unfolding readable
  readable_long h = guard-pass 20 (length bs) _ (le-leb header_bytes (length bs) h)

  pub readable_header : {b : Bool} → header_bytes ≤ length bs → b ≡ header_fits signals (lasso_of bs) → b ≡ false → readable signals bs r ≡ Refused 20 0
  readable_header h e f = readable_long h ∙ guard-stop 20 0 (filled bs (lasso_of bs) r) (sym e ∙ f)

  pub readable_letters : {b : Bool} → header_bytes ≤ length bs → b ≡ header_fits signals (lasso_of bs) → b ≡ true → readable signals bs r ≡ filled bs (lasso_of bs) r
  readable_letters h e f = readable_long h ∙ guard-pass 20 0 (filled bs (lasso_of bs) r) (sym e ∙ f)

-- what a recording of the format has
pub record Reads (signals : ℕ) (bs : List ℕ) : Type 0 where
  pub long : header_bytes ≤ length bs
  pub header : Heads signals (lasso_of bs)
  pub whole : length bs ≡ header_bytes + width ((lasso_of bs).n * (lasso_of bs).k)

pub readable-done : {A : Type 0} {a : A} (signals : ℕ) (bs : List ℕ) (r : Result A) → readable signals bs r ≡ Done a → Reads signals bs × (r ≡ Done a)
unfolding readable filled
readable-done signals bs r e =
    let w : Lasso = lasso_of bs in
    let spare : Result _ = guard (blank bs (header_bits + w.n * w.k) (8 * length bs - (header_bits + w.n * w.k))) 20 (length bs - 1) r in
    let p = guard-done (leb header_bytes (length bs)) 20 (length bs) (guard (header_fits signals w) 20 0 (filled bs w r)) e in
    let q = guard-done (header_fits signals w) 20 0 (filled bs w r) p.1 in
    let s = guard-done (eqb (length bs) (header_bytes + width (w.n * w.k))) 20 (told (length bs)) spare q.1 in
    let t = guard-done (blank bs (header_bits + w.n * w.k) (8 * length bs - (header_bits + w.n * w.k))) 20 (length bs - 1) r s.1 in
    (record { long = leb-true header_bytes (length bs) p.0; header = heads signals w q.0; whole = eqb-true (length bs) _ s.0 }, t.1)

pub readable-refused : {A B : Type 0} (a : A) (signals : ℕ) (bs : List ℕ) (s : Result B) {x y : ℕ} → readable signals bs (Done a) ≡ Refused x y → readable signals bs s ≡ Refused x y
unfolding readable filled
readable-refused a signals bs s e =
    guard-refused (leb header_bytes (length bs)) 20 (length bs) _ _
    (guard-refused (header_fits signals (lasso_of bs)) 20 0 _ _
    (guard-refused (eqb (length bs) (header_bytes + width ((lasso_of bs).n * (lasso_of bs).k))) 20 (told (length bs)) _ _
    (guard-refused (blank bs (header_bits + (lasso_of bs).n * (lasso_of bs).k) (8 * length bs - (header_bits + (lasso_of bs).n * (lasso_of bs).k))) 20 (length bs - 1) _ s (λ d. absurd (done_refused d))))) e
  where
    done_refused : {A : Type 0} {a : A} {x y : ℕ} → Done a ≡ Refused x y → ⊥
    done_refused d = not_done (sym d)

guard-done_as : {A B : Type 0} {a : A} (b : Bool) (number place : ℕ) (r : Result A) (s t : Result B) → (r ≡ Done a → s ≡ t) → guard b number place r ≡ Done a → guard b number place s ≡ t
unfolding guard
guard-done_as true number place r s t f e = f e
guard-done_as false number place r s t f e = absurd (not_done e)

-- what the test of the letters requires
pub letters_fit : (signals : ℕ) (bs : List ℕ) {w : Lasso} {b : Bool} → w ≡ lasso_of bs → b ≡ header_fits signals w → b ≡ true → (w.n ≤ max_positions) × (w.k < 2 ^ signal_bits)
letters_fit signals bs {w} e h t =
    let k : (lasso_of bs).k < 2 ^ signal_bits = number_lt _ signal_bits in
    let ek : w.k ≡ (lasso_of bs).k = ap (λ x. x.k) e in
    ((heads signals w (sym h ∙ t)).few, omega arith)

pub letters_read : (signals : ℕ) (bs : List ℕ) {w : Lasso} {b : Bool} → w ≡ lasso_of bs → header_bytes ≤ length bs → b ≡ header_fits signals w → b ≡ true
    → filled bs w (counted w) ≡ readable signals bs (counted (lasso_of bs))
letters_read signals bs {w} e l h t =
    ap (λ x. filled bs x (counted x)) e ∙ sym (readable_letters signals bs (counted (lasso_of bs)) l (h ∙ ap (header_fits signals) e) t)

-- what comes after a test matters only where it passes
pub guard-same : {A : Type 0} (b : Bool) (number place : ℕ) {r s : Result A} → (b ≡ true → r ≡ s) → guard b number place r ≡ guard b number place s
unfolding guard
guard-same true number place h = h refl
guard-same false number place h = refl

pub bind_same : {A B : Type 0} (r : Result A) {f g : A → Result B} → ((a : A) → r ≡ Done a → f a ≡ g a) → r >>= f ≡ r >>= g
unfolding ◌>>=◌
bind_same (Done a) h = h a refl
bind_same (Refused n p) h = refl

pub readable-same : {A : Type 0} (signals : ℕ) (bs : List ℕ) {r s : Result A} → (Heads signals (lasso_of bs) → r ≡ s) → readable signals bs r ≡ readable signals bs s
unfolding readable
readable-same signals bs h =
    guard-same (leb header_bytes (length bs)) 20 (length bs)
    (λ _. guard-same (header_fits signals (lasso_of bs)) 20 0 (λ e. ap (filled bs (lasso_of bs)) (h (heads signals (lasso_of bs) e))))

-- a recording that passed whatever came after passes with anything else after it
pub readable-reads : {A B : Type 0} {a : A} (signals : ℕ) (bs : List ℕ) (r : Result A) (s : Result B) → readable signals bs r ≡ Done a → readable signals bs s ≡ s
unfolding readable filled
readable-reads signals bs r s e =
    guard-done_as (leb header_bytes (length bs)) 20 (length bs) _ _ s
    (guard-done_as (header_fits signals (lasso_of bs)) 20 0 _ _ s
    (guard-done_as (eqb (length bs) (header_bytes + width ((lasso_of bs).n * (lasso_of bs).k))) 20 (told (length bs)) _ _ s
    (guard-done_as (blank bs (header_bits + (lasso_of bs).n * (lasso_of bs).k) (8 * length bs - (header_bits + (lasso_of bs).n * (lasso_of bs).k))) 20 (length bs - 1) r s s (λ d. refl)))) e
