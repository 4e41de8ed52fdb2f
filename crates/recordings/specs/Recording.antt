-- Recordings: their header, letters and format (document 01, 'Recordings' and refusal 20). Laws in RecordingLaws.
use Rattle.std.specs.Prelude.{ℕ, zero, suc, ◌+◌, ◌*◌, ◌-◌, Bool, true, not, ◌&&◌, List, ltb, leb, eqb, length}
use Rattle.node.specs.Result.{Result, Done, guard, Counts}
use Rattle.recordings.specs.Limits.{max_positions, position_bits, start_bits, signal_bits, header_bytes, header_bits, told}
use Rattle.bits.specs.Bits.{bit_at, number, width}
use Rattle.recordings.specs.declared.Lasso.{Lasso}

-- the number in `count` bits from bit `at` on
abbrev pub field_at : List ℕ → ℕ → ℕ → ℕ
field_at bs at count = number (λ i. bit_at bs (at + i)) count

-- the header: positions N, loop start L, signal count K
abbrev pub lasso_of : List ℕ → Lasso
lasso_of bs = record { n = field_at bs 0 position_bits; l = field_at bs position_bits start_bits; k = field_at bs (position_bits + start_bits) signal_bits }

-- 'then N letters of K bits, signal 0 first'; 'Signals K and above are absent throughout': is the signal present at position p?
abbrev pub letter_of : List ℕ → ℕ → ℕ → ℕ → Bool
letter_of bs count p signal = ltb signal count && bit_at bs (header_bits + (p * count + signal))

-- N is 1 to 2,048, L below N, K not 'above the signal count'
abbrev pub header_fits : ℕ → Lasso → Bool
header_fits signals w = ltb 0 w.n && (leb w.n max_positions && (ltb w.l w.n && leb w.k signals))

-- 'zero bits to a full byte': n zero bits from bit i on
unfoldable pub blank : List ℕ → ℕ → ℕ → Bool
blank bs i zero = true
blank bs i (suc n) = not (bit_at bs i) && blank bs (suc i) n

-- the letters of a header fill the recording, and the bits after them are 0: 'the length if wrong; last byte for spare bits'
unfoldable pub filled : {A : Type 0} → List ℕ → Lasso → Result A → Result A
filled bs w r =
    guard (eqb (length bs) (header_bytes + width (w.n * w.k))) 20 (told (length bs))
    (guard (blank bs (header_bits + w.n * w.k) (8 * length bs - (header_bits + w.n * w.k))) 20 (length bs - 1) r)

-- refusal 20, 'in this order: the length if under 4 bytes; 0 for the header; the length if wrong; last byte for spare bits'
unfoldable pub readable : {A : Type 0} → ℕ → List ℕ → Result A → Result A
readable signals bs r = guard (leb header_bytes (length bs)) 20 (length bs) (guard (header_fits signals (lasso_of bs)) 20 0 (filled bs (lasso_of bs) r))

-- the counts of a recording: its positions and its signals
abbrev pub counted : Lasso → Result Counts
counted w = Done (record { nodes = w.n; signals = w.k })
