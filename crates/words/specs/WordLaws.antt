-- What a word reads after a store at its own index and at another, and what the store keeps: over any number of bytes, then for words.
use Rattle.std.specs.Prelude.{◌≡◌, refl, ◌≢◌, List, ℕ, zero, suc, ◌+◌, ◌*◌, ◌/◌, ◌%◌, ◌^◌, ◌≤◌, ◌<◌, length, set}
use Rattle.std.proofs.Common.{◌∙◌, div-add-mod', div-lt_iff_lt-mul, pow-suc, arith, lit<, length-set, get_or-set_same, get_or-set_other, drop-set-lt}
use Rattle.words.specs.Words.{read_at, write_at, word_at, put_word, past}

pub length-write : (w : List ℕ) (at n v : ℕ) → length (write_at w at n v) ≡ length w
unfolding write_at
length-write w at zero v = refl
length-write w at (suc n) v = simp length-set (length-write w at n (v / 256))

-- a store outside the n bytes
read-set_out : (w : List ℕ) (k x at n : ℕ) → ((j : ℕ) → j < n → at + j ≢ k) → read_at (set w k x) at n ≡ read_at w at n
unfolding read_at
read-set_out w k x at zero h = refl
read-set_out w k x at (suc n) h =
    rw (read-set_out w k x at n (λ j l. h j (omega arith)), get_or-set_other w k (at + n) x 0 (h n (omega arith)))

pub read-write_other : (w : List ℕ) (at n v to m : ℕ) → ((j k : ℕ) → j < m → k < n → to + j ≢ at + k) → read_at (write_at w at n v) to m ≡ read_at w to m
unfolding write_at
read-write_other w at zero v to m h = refl
read-write_other w at (suc n) v to m h =
    read-set_out (write_at w at n (v / 256)) (at + n) (v % 256) to m (λ j l. h j n l (omega arith))
    ∙ read-write_other w at n (v / 256) to m (λ j k l r. h j k l (omega arith))

pub read-write-same : (w : List ℕ) (at n v : ℕ) → at + n ≤ length w → v < 256 ^ n → read_at (write_at w at n v) at n ≡ v
unfolding read_at write_at
read-write-same w at zero v h l = omega arith
read-write-same w at (suc n) v h l =
    let inside : at + n < length (write_at w at n (v / 256)) = rw (length-write w at n (v / 256)) (omega arith) in
    let small : v / 256 < 256 ^ n = (div-lt_iff_lt-mul (lit< tt)).1 (rw pow-suc at l) in
    let low : at + n ≤ length w = omega arith in
    rw (
      read-set_out (write_at w at n (v / 256)) (at + n) (v % 256) at n (λ j l. omega arith),
      get_or-set_same (write_at w at n (v / 256)) (at + n) (v % 256) 0 inside,
      read-write-same w at n (v / 256)
          low small,
    ) (div-add-mod' v 256)

-- the bytes behind stay
past-write : (m : ℕ) (w : List ℕ) (at n v : ℕ) → at + n ≤ m → past m (write_at w at n v) ≡ past m w
unfolding write_at past
past-write m w at zero v h = refl
past-write m w at (suc n) v h = drop-set-lt m (write_at w at n (v / 256)) (at + n) (v % 256) (omega arith) ∙ past-write m w at n (v / 256) (omega arith)

-- words
pub length-put : (w : List ℕ) (i v : ℕ) → length (put_word w i v) ≡ length w
unfolding put_word
length-put w i v = length-write w (4 * i) 4 v

pub word_same : (w : List ℕ) (i v : ℕ) → 4 * i + 4 ≤ length w → v < 2 ^ 32 → word_at (put_word w i v) i ≡ v
unfolding word_at put_word
word_same w i v h l = read-write-same w (4 * i) 4 v h l

pub word_other : (w : List ℕ) (i v j : ℕ) → j ≢ i → word_at (put_word w i v) j ≡ word_at w j
unfolding word_at put_word
word_other w i v j h = read-write_other w (4 * i) 4 v (4 * j) 4 (λ a b l r e. h (omega arith))

pub past-put : (m : ℕ) (w : List ℕ) (i v : ℕ) → 4 * i + 4 ≤ m → past m (put_word w i v) ≡ past m w
unfolding put_word
past-put m w i v h = past-write m w (4 * i) 4 v h
