-- Bits of a number in n bytes of a list, for any n.
use Rattle.std.specs.Prelude.{◌≡◌, ℕ, zero, suc, ◌+◌, ◌-◌, ◌*◌, ◌/◌, ◌%◌, ◌^◌, ◌<◌, ◌≤◌, ◌⊎◌, List, length, nat_eq, slice_index, slice_set, refl}
use Rattle.std.proofs.Common.{sym, ap, ap₂, ◌∙◌, subst, inl, inr, arith, pow-add, get_or-set_same, get_or-set_other}
use Rattle.std.proofs.Math.Decide.{dec_lt}
use Rattle.std.proofs.Math.Nat.{div-div-eq-div-mul}
use Rattle.words.specs.Words.{read_at, write_at}
use Rattle.words.specs.WordLaws.{length-write}
use Rattle.bits.specs.Bits.{bit_of, bit_at}
use Rattle.bits.specs.Bitwise.{bit-under}

-- eight bits further up
bit_up : (x s : ℕ) → bit_of x (s + 8) ≡ bit_of (x / 256) s
bit_up x s =
    let e : x / 2 ^ (s + 8) ≡ x / 256 / 2 ^ s = ap (λ z. x / z) (pow-add 2 s 8 ∙ omega arith) ∙ sym (div-div-eq-div-mul x 256 (2 ^ s)) in
    ap (λ z. nat_eq (z % 2) 1) e

-- a bit of the last byte
bit-low : (x s : ℕ) → s < 8 → bit_of (x % 256) s ≡ bit_of x s
bit-low x s h = bit-under 8 x s h

-- bit s of the n bytes from `at` on
pub read-bit : (w : List ℕ) → ((k : ℕ) → slice_index w k < 256) → (at n s : ℕ) → s < 8 * n → bit_of (read_at w at n) s ≡ bit_of (slice_index w (at + (n - 1 - s / 8))) (s % 8)
unfolding read_at
read-bit w small at zero s h = absurd (omega arith)
read-bit w small at (suc n) s h = go (λ t l. read-bit w small at n t l) (dec_lt s 8)
  where
    r : ℕ
    r = read_at w at n

    b : ℕ
    b = slice_index w (at + n)

    go : ((t : ℕ) → t < 8 * n → bit_of r t ≡ bit_of (slice_index w (at + (n - 1 - t / 8))) (t % 8)) → Dec (s < 8)
        → bit_of (read_at w at (suc n)) s ≡ bit_of (slice_index w (at + (suc n - 1 - s / 8))) (s % 8)
    go ih (yes l) =
        let m = small (at + n) in
        let e : (r * 256 + b) % 256 ≡ b = omega arith in
        let i : at + n ≡ at + (suc n - 1 - s / 8) = omega arith in
        let j : s ≡ s % 8 = omega arith in
        sym (bit-low (r * 256 + b) s l) ∙ ap (λ z. bit_of z s) e ∙ ap₂ (λ y z. bit_of (slice_index w y) z) i j
    go ih (no l) =
        let m = small (at + n) in
        let t : ℕ = s - 8 in
        let d : s ≡ t + 8 = omega arith in
        let e : (r * 256 + b) / 256 ≡ r = omega arith in
        let i : at + (n - 1 - t / 8) ≡ at + (suc n - 1 - s / 8) = omega arith in
        let j : t % 8 ≡ s % 8 = omega arith in
        ap (bit_of (r * 256 + b)) d ∙ bit_up (r * 256 + b) t ∙ ap (λ z. bit_of z t) e ∙ ih t (omega arith) ∙ ap₂ (λ y z. bit_of (slice_index w y) z) i j

-- the bytes beside those written
pub write_other : (w : List ℕ) (at n v k : ℕ) → (k < at) ⊎ (at + n ≤ k) → slice_index (write_at w at n v) k ≡ slice_index w k
unfolding write_at
write_other w at zero v k h = refl
write_other w at (suc n) v k (inl h) = get_or-set_other (write_at w at n (v / 256)) (at + n) k (v % 256) 0 (omega arith) ∙ write_other w at n (v / 256) k (inl h)
write_other w at (suc n) v k (inr h) = get_or-set_other (write_at w at n (v / 256)) (at + n) k (v % 256) 0 (omega arith) ∙ write_other w at n (v / 256) k (inr (omega arith))

-- bit t of the bytes written
pub write-bit : (w : List ℕ) (at n v : ℕ) → at + n ≤ length w → (t : ℕ) → t < 8 * n → bit_at (write_at w at n v) (8 * at + t) ≡ bit_of v (8 * n - 1 - t)
unfolding write_at bit_at
write-bit w at zero v room t h = absurd (omega arith)
write-bit w at (suc n) v room t h = go (λ l. write-bit w at n (v / 256) (omega arith) t l) (dec_lt t (8 * n))
  where
    m : List ℕ
    m = write_at w at n (v / 256)

    go : (t < 8 * n → bit_at m (8 * at + t) ≡ bit_of (v / 256) (8 * n - 1 - t)) → Dec (t < 8 * n) → bit_at (write_at w at (suc n) v) (8 * at + t) ≡ bit_of v (8 * suc n - 1 - t)
    go ih (yes l) =
        let e : 8 * n - 1 - t + 8 ≡ 8 * suc n - 1 - t = omega arith in
        ap (λ x. bit_of x (7 - (8 * at + t) % 8)) (get_or-set_other m (at + n) ((8 * at + t) / 8) (v % 256) 0 (omega arith))
        ∙ ih l ∙ sym (bit_up v (8 * n - 1 - t)) ∙ ap (bit_of v) e
    go ih (no l) =
        let e : (8 * at + t) / 8 ≡ at + n = omega arith in
        let i : 7 - (8 * at + t) % 8 ≡ 8 * suc n - 1 - t = omega arith in
        let room' : at + n < length m = subst (λ x. at + n < x) (sym (length-write w at n (v / 256))) (omega arith) in
        ap (λ y. bit_of (slice_index (slice_set m (at + n) (v % 256)) y) (7 - (8 * at + t) % 8)) e
        ∙ ap (λ x. bit_of x (7 - (8 * at + t) % 8)) (get_or-set_same m (at + n) (v % 256) 0 room')
        ∙ bit-low v (7 - (8 * at + t) % 8) (omega arith) ∙ ap (bit_of v) i
