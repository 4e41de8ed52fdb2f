-- The letters of a recording lie in its bytes.
use Rattle.std.specs.Prelude.{ℕ, ◌+◌, ◌*◌, ◌≤◌, ◌<◌, List, length}
use Rattle.std.proofs.Common.{mul-le-mul, arith}
use Rattle.std.proofs.Math.Arith.{digits_lt}
use Rattle.recordings.specs.Limits.{max_positions, max_signals, header_bits}
use Rattle.recordings.specs.declared.Lasso.{Lasso}
use Rattle.recordings.specs.Promise.{Recorded}

pub bits_few : {n k : ℕ} → n ≤ max_positions → k ≤ max_signals → n * k ≤ max_positions * max_signals
bits_few h l = mul-le-mul h l

-- the letters of any header
pub bits_below : {n k : ℕ} (most : ℕ) → n ≤ max_positions → k < most → n * k ≤ max_positions * most
bits_below most h l = mul-le-mul h (omega arith)

-- a letter's bit lies among the letters
pub record LetterIn (bs : List ℕ) (w : Lasso) (p signal : ℕ) : Type 0 where
  pub inside : header_bits + (p * w.k + signal) < 8 * length bs
  pub small : p * w.k + signal < max_positions * max_signals

pub letter_in : {bs : List ℕ} {w : Lasso} {p signal : ℕ} → Recorded bs w → p < w.n → signal < w.k → LetterIn bs w p signal
letter_in {bs} {w} {p} {signal} r h l =
    let i : p * w.k + signal < w.n * w.k = digits_lt h l in
    let b = bits_few r.few r.small in
    let m = r.room in
    record { inside = omega arith; small = omega arith }
