-- Where the spans of a stretch lie, and what storing one makes of a row.
use Rattle.std.specs.Prelude.{ℕ, ◌+◌, ◌*◌, ◌-◌, ◌%◌, ◌≤◌, ◌<◌, ◌≡◌, refl, ◌⊎◌, List, length}
use Rattle.std.proofs.Common.{sym, ap, ◌∙◌, subst, inl, inr, mul-le-mul_left, arith}
use Rattle.std.proofs.Math.Decide.{dec_lt}
use Rattle.bits.specs.Bits.{Values, bit_at, width}
use Rattle.bits.specs.Spans.{Span, Aligned, Within, Stored}
use Rattle.recordings.specs.Limits.{max_positions}
use Rattle.rows.specs.Memory.{rows_limit, bits_at, Kept, Part}
use Rattle.rows.specs.Ready.{Placed}
use Rattle.rows.specs.declared.Op.{Op}
use Rattle.rows.specs.declared.Stretch.{Stretch}
use Rattle.rows.specs.Stretches.{end_of, Regular, in_words, in_bytes, in_bits, Inner}

-- where span j of a stretch lies
pub record Place (from size count j : ℕ) : Type 0 where
  pub some : 0 < size
  pub most : size ≤ 64
  pub next : from + size * (j + 1) ≡ from + size * j + size
  pub last : from + size * j + size ≤ from + size * count

pub place : (from size count j : ℕ) → Aligned size from → j < count → Place from size count j
place from size count j a h =
    let last : size * (j + 1) ≤ size * count = mul-le-mul_left size (omega arith) in
    record { some = some a; most = most a; next = omega arith; last = omega arith }
  where
    some : Aligned size from → 0 < size
    some (inl e) = omega arith
    some (inr (inl e, whole)) = omega arith
    some (inr (inr e, whole)) = omega arith

    most : Aligned size from → size ≤ 64
    most (inl e) = omega arith
    most (inr (inl e, whole)) = omega arith
    most (inr (inr e, whole)) = omega arith

-- the same from above
pub place-back : (from size count k : ℕ) → Aligned size from → 0 < k → k ≤ count → (from + size * k ≡ from + size * (k - 1) + size) × Place from size count (k - 1)
place-back from size count k a h l =
    let p = place from size count (k - 1) a (omega arith) in
    let e : k ≡ k - 1 + 1 = omega arith in (ap (λ x. from + size * x) e ∙ p.next, p)

pub aligned_on : (from size j : ℕ) → Aligned size from → Aligned size (from + size * j)
aligned_on from size j (inl e) = inl e
aligned_on from size j (inr (inl e, whole)) = inr (inl e, subst (λ z. (from + z * j) % 8 ≡ 0) (sym e) (omega arith))
aligned_on from size j (inr (inr e, whole)) = inr (inr e, subst (λ z. (from + z * j) % 8 ≡ 0) (sym e) (omega arith))

pub aligned_row : (at size p : ℕ) → Aligned size p → Aligned size (8 * at + p)
aligned_row at size p (inl e) = inl e
aligned_row at size p (inr (e, whole)) = inr (e, omega arith)

-- a span of a row lies in the buffer
within : (from size j at : ℕ) (bs : List ℕ) → Aligned size from → 8 * at + (from + size * j + size) ≤ 8 * length bs → Within size (8 * at + (from + size * j)) bs
within from size j at bs a h = record { aligned = aligned_row at size (from + size * j) (aligned_on from size j a); inside = omega arith }

-- bits of the bytes as values of a row
pub span-row : (bs : List ℕ) (base p m r : ℕ) → Span m (bit_at bs) (8 * base + p) r → Span m (bits_at bs base) p r
span-row bs base p m r h = record { bits = λ s l. h.bits s l ∙ (let e : 8 * base + p + (m - 1 - s) ≡ 8 * base + (p + (m - 1 - s)) = omega arith in ap (bit_at bs) e) }

-- a span more
module _ (n base : ℕ) (f : Values) (p m v : ℕ) {mid new : List ℕ} (fits : p + m ≤ n) (span : Span m f p v) (stored : Stored m (8 * base + p) v mid new) where
  spanned : (q : ℕ) → p ≤ q → q < p + m → bits_at new base q ≡ f q
  spanned q a b =
      let t : ℕ = q - p in
      let i : 8 * base + q ≡ 8 * base + p + t = omega arith in
      let j : p + (m - 1 - (m - 1 - t)) ≡ q = omega arith in
      ap (bit_at new) i ∙ stored.here t (omega arith) ∙ span.bits (m - 1 - t) (omega arith) ∙ ap f j

  outside : (q : ℕ) → (q < p) ⊎ (p + m ≤ q) → bits_at new base q ≡ bits_at mid base q
  outside q (inl a) = stored.beside (8 * base + q) (inl (omega arith))
  outside q (inr a) = stored.beside (8 * base + q) (inr (omega arith))

  bytes : {old : List ℕ} → Kept base (width n) old mid → Kept base (width n) old new
  bytes h =
      record {
        size = stored.size ∙ h.size;
        below = λ k a. stored.apart k (inl (omega arith)) ∙ h.below k a;
        beyond = λ k a. stored.apart k (inr (omega arith)) ∙ h.beyond k a;
      }

  pub part_up : {old : List ℕ} {from : ℕ} → from ≤ p → Part n base f from p old mid → Part n base f from (p + m) old new
  part_up {old} {from} low h = record { kept = bytes h.kept; here = λ q a b. go q a b (dec_lt q p); other = λ q a. rest q a }
    where
      go : (q : ℕ) → from ≤ q → q < p + m → Dec (q < p) → bits_at new base q ≡ f q
      go q a b (yes d) = outside q (inl d) ∙ h.here q a d
      go q a b (no d) = spanned q (omega arith) b

      rest : (q : ℕ) → (q < from) ⊎ (p + m ≤ q) → bits_at new base q ≡ bits_at old base q
      rest q (inl a) = outside q (inl (omega arith)) ∙ h.other q (inl a)
      rest q (inr a) = outside q (inr a) ∙ h.other q (inr (omega arith))

  pub part_down : {old : List ℕ} {to : ℕ} → p + m ≤ to → Part n base f (p + m) to old mid → Part n base f p to old new
  part_down {old} {to} high h = record { kept = bytes h.kept; here = λ q a b. go q a b (dec_lt q (p + m)); other = λ q a. rest q a }
    where
      go : (q : ℕ) → p ≤ q → q < to → Dec (q < p + m) → bits_at new base q ≡ f q
      go q a b (yes d) = spanned q a d
      go q a b (no d) = let c : p + m ≤ q = omega arith in outside q (inr c) ∙ h.here q c b

      rest : (q : ℕ) → (q < p) ⊎ (to ≤ q) → bits_at new base q ≡ bits_at old base q
      rest q (inl a) = outside q (inl a) ∙ h.other q (inl (omega arith))
      rest q (inr a) = outside q (inr (omega arith)) ∙ h.other q (inr a)

-- span j of a stretch, in the rows of an operator's operands and in its own
pub record Fits (rows : List ℕ) (op : Op) (base : ℕ) (s : Stretch) (j : ℕ) : Type 0 where
  pub place : Place s.from s.size s.count j
  pub few : s.from + s.size * j + s.size ≤ max_positions
  pub first-low : op.first ≤ rows_limit
  pub second-low : op.second ≤ rows_limit
  pub low : base ≤ rows_limit
  pub first : Within s.size (8 * op.first + (s.from + s.size * j)) rows
  pub second : Within s.size (8 * op.second + (s.from + s.size * j)) rows
  pub target : Within s.size (8 * base + (s.from + s.size * j)) rows

pub fits : {rows : List ℕ} {op : Op} {base : ℕ} (s : Stretch) (j : ℕ) → Regular s → Placed rows (end_of s) op base → j < s.count → Fits rows op base s j
fits {rows} {op} {base} s j a r h =
    let p = place s.from s.size s.count j a h in
    record {
      place = p;
      few = omega arith;
      first-low = omega arith;
      second-low = omega arith;
      low = r.low;
      first = within s.from s.size j op.first rows a (omega arith);
      second = within s.from s.size j op.second rows a (omega arith);
      target = within s.from s.size j base rows a (omega arith);
    }

pub words-inner : (n : ℕ) {s : Stretch} → s ≡ in_words n → Inner n s
words-inner n e = subst (λ s. Inner n s) (sym e) (record { end = omega arith; regular = inr (inr refl, refl) })

pub bytes-inner : (n : ℕ) {s : Stretch} → s ≡ in_bytes n → Inner n s
bytes-inner n e = subst (λ s. Inner n s) (sym e) (record { end = omega arith; regular = inr (inl refl, omega arith) })

pub odd-inner : (n : ℕ) {s : Stretch} → s ≡ in_bits n → Inner n s
odd-inner n e = subst (λ s. Inner n s) (sym e) (record { end = omega arith; regular = inl refl })
