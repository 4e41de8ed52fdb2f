-- Passes over a row span by span, and once and twice around the loop.
use Rattle.std.specs.Prelude.{ℕ, zero, suc, ◌+◌, ◌*◌, ◌-◌, ◌/◌, ◌%◌, ◌^◌, ◌≤◌, ◌<◌, ◌≡◌, refl, ◌⊎◌, Bool, true, false, List, eqb}
use Rattle.std.proofs.Common.{sym, ap, ◌∙◌, subst, inl, inr, arith}
use Rattle.std.specs.Bool.{beq}
use Rattle.std.proofs.Math.Decide.{dec_lt}
use Rattle.node.specs.Kinds.{shape_of}
use Rattle.bits.specs.Bits.{Values, digit, bit_at}
use Rattle.bits.specs.Spans.{Span, Aligned, Stored}
use Rattle.bits.specs.SpanLaws.{span_as, span-first}
use Rattle.recordings.specs.declared.Lasso.{Lasso}
use Rattle.rows.specs.Row.{sweep_from, sweep, around}
use Rattle.rows.specs.RowLaws.{sweep_ext, sweep-end}
use Rattle.rows.specs.Steps.{seed_of}
use Rattle.rows.specs.Memory.{bits_at, Part, Filled}
use Rattle.rows.specs.MemoryLaws.{kept_trans, part_none, part_from_lem, part_as, part-before}
use Rattle.rows.specs.Ready.{Placed, op_step, loop_row}
use Rattle.rows.specs.ReadyLaws.{placed-still, same_step}
use Rattle.rows.specs.Stretches.{end_of, Regular, in_words, in_bytes, in_bits}
use Rattle.rows.specs.StretchesLaws.{Place, place-back, Fits, fits, span-row, part_down}
use Rattle.rows.specs.declared.Stretch.{Stretch}
use Rattle.rows.specs.SpanSteps.{Goes}
use Rattle.rows.specs.SpanStepsLaws.{span_goes}
use Rattle.rows.specs.declared.Op.{Op}
use Rattle.rows.specs.Sweeping.{Swept, Held}

-- a sweep in two parts
sweep-parts : (f : ℕ → Bool → Bool) (s : Bool) (p j k : ℕ) → sweep_from f s p (j + k) ≡ sweep_from f (sweep_from f s (p + j) k) p j
unfolding sweep_from
sweep-parts f s p zero k = let e : 0 + k ≡ k = omega arith in let i : p ≡ p + 0 = omega arith in ap (sweep_from f s p) e ∙ ap (λ z. sweep_from f s z k) i
sweep-parts f s p (suc j) k =
    let e : suc j + k ≡ suc (j + k) = omega arith in
    let i : suc p + j ≡ p + suc j = omega arith in
    ap (sweep_from f s p) e ∙ ap (f p) (sweep-parts f s (suc p) j k ∙ ap (λ z. sweep_from f (sweep_from f s z k) (suc p) j) i)

pub sweep-split : (n m p : ℕ) (f : ℕ → Bool → Bool) (s : Bool) → p ≤ m → m ≤ n → sweep n f s p ≡ sweep m f (sweep n f s m) p
sweep-split n m p f s h l =
    let e : n - p ≡ (m - p) + (n - m) = omega arith in
    let i : p + (m - p) ≡ m = omega arith in
    ap (sweep_from f s p) e ∙ sweep-parts f s p (m - p) (n - m) ∙ ap (λ z. sweep_from f (sweep_from f s z (n - m)) p (m - p)) i

-- two passes that agree at m agree below
pub sweep_settled : (n m : ℕ) (f : ℕ → Bool → Bool) (s t : Bool) → m ≤ n → sweep n f s m ≡ sweep n f t m → (p : ℕ) → p ≤ m → sweep n f s p ≡ sweep n f t p
sweep_settled n m f s t l e p h = sweep-split n m p f s h l ∙ ap (λ v. sweep m f v p) e ∙ sym (sweep-split n m p f t h l)

-- a value as a digit
pub digit-start : {c : ℕ} (v : Bool) → c ≡ digit v → eqb c 1 ≡ v
digit-start true e = ap (λ z. eqb z 1) e
digit-start false e = ap (λ z. eqb z 1) e

pub digit-small : {c : ℕ} (v : Bool) → c ≡ digit v → c < 2
digit-small true e = omega arith
digit-small false e = omega arith

pub same_bit : (a b : Bool) → beq a b ≡ true → a ≡ b
same_bit true true e = refl
same_bit true false e = sym e
same_bit false true e = e
same_bit false false e = refl

-- a pass that has come down to position p: the row from there on, and its value there as a digit
pub record Passed (n base : ℕ) (f : ℕ → Bool → Bool) (seed : Bool) (c p : ℕ) (old new : List ℕ) : Type 0 where
  pub digit_lt : c < 2
  pub value : eqb c 1 ≡ sweep n f seed p
  pub part : Part n base (sweep n f seed) p n old new

pub passed_none : {c : ℕ} (n base : ℕ) (f : ℕ → Bool → Bool) (seed : Bool) (rows : List ℕ) → c ≡ digit seed → Passed n base f seed c n rows rows
passed_none n base f seed rows e = record { digit_lt = digit-small seed e; value = digit-start seed e ∙ sym (sweep-end n f seed); part = part_none n base _ n rows }

-- one span further: k - 1 of a stretch
pub passed_on : {old mid new : List ℕ} {op : Op} {base x y c r d : ℕ} (from size count k : ℕ) (seed : Bool) → Aligned size from → Placed old (from + size * count) op base → 0 < k → k ≤ count
    → Passed (from + size * count) base (op_step old op) seed c (from + size * k) old mid → Goes op.kind x y c r → Span size (bit_at mid) (8 * op.first + (from + size * (k - 1))) x
    → Span size (bit_at mid) (8 * op.second + (from + size * (k - 1))) y → (d ≡ r / 2 ^ (size - 1) % 2) × (d < 2) → Stored size (8 * base + (from + size * (k - 1))) r mid new
    → Passed (from + size * count) base (op_step old op) seed d (from + size * (k - 1)) old new
passed_on {old} {mid} {new} {op} {base} {c = c} {r = r} from size count k seed aligned placed pos h pass goes a b e stored =
    record { digit_lt = e.1; value = ap (λ z. eqb z 1) e.0 ∙ span-first here.some span; part = part_down n base f p size r here.last span stored here.last (part_from_lem next pass.part) }
  where
    n : ℕ
    n = from + size * count

    p : ℕ
    p = from + size * (k - 1)

    f : Values
    f = sweep n (op_step old op) seed

    here : Place from size count (k - 1)
    here = (place-back from size count k aligned pos h).1

    next : from + size * k ≡ p + size
    next = (place-back from size count k aligned pos h).0

    same : (q : ℕ) → sweep n (op_step mid op) seed q ≡ f q
    same = sweep_ext n (op_step mid op) (op_step old op) seed (same_step placed pass.part.kept)

    span : Span size f p r
    span =
        span_as (span_goes n seed goes here.most (span-row mid op.first p size _ a) (span-row mid op.second p size _ b) here.last (pass.value ∙ ap f next ∙ sym (same (p + size))))
        (λ q i j. same q)

-- span k - 1 of a stretch, where a pass has come down to span k
pub passed-fits : {old mid : List ℕ} {op : Op} {base c : ℕ} {f : ℕ → Bool → Bool} {seed : Bool} (s : Stretch) (k : ℕ) → Regular s → Placed old (end_of s) op base → 0 < k → k ≤ s.count
    → Passed (end_of s) base f seed c (s.from + s.size * k) old mid → Fits mid op base s (k - 1)
passed-fits s k regular placed pos h pass = fits s (k - 1) regular (placed-still placed pass.part.kept.size) (omega arith)

-- down to the first
pub passed-whole : {old new : List ℕ} {op : Op} {base c : ℕ} {seed : Bool} (s : Stretch) (k : ℕ) → k ≡ 0 → Passed (end_of s) base (op_step old op) seed c (s.from + s.size * k) old new
    → Swept (end_of s) s.from op base seed (eqb c 1) old new
passed-whole {old} {op = op} {seed = seed} s k z pass =
    let e : s.from + s.size * k ≡ s.from = ap (λ x. s.from + s.size * x) z ∙ omega arith in
    record { value = pass.value ∙ ap (sweep (end_of s) (op_step old op) seed) e; part = part_from_lem e pass.part }

-- and further down
pub swept_on : {old mid new : List ℕ} {op : Op} {base : ℕ} {seed v r : Bool} (n m from : ℕ) → Placed old n op base → m ≤ n → from ≤ m → Swept n m op base seed v old mid
    → Swept m from op base v r mid new → Swept n from op base seed r old new
swept_on {old} {mid} {new} {op} {base} {seed} {v} n m from place l a h g =
    record { value = g.value ∙ same from a; part = part-before n m m from n base _ _ a l l h.part g.part (λ p i j. same p (omega arith)) }
  where
    same : (p : ℕ) → p ≤ m → sweep m (op_step mid op) v p ≡ sweep n (op_step old op) seed p
    same p i =
        sweep_ext m (op_step mid op) (op_step old op) v (λ q k u. same_step place h.part.kept q (omega arith) u) p ∙ ap (λ z. sweep m (op_step old op) z p) h.value
        ∙ sym (sweep-split n m p (op_step old op) seed i l)

-- below what a second pass has done
pub held_on : {old mid : List ℕ} {op : Op} {base : ℕ} {s v : Bool} (n m from : ℕ) → Placed old n op base → m ≤ n → Held n 0 op base old → Swept n m op base s v old mid
    → Held m from op base mid
held_on {old} {mid} {op} {base} n m from place l h g =
    record { seed = sweep n (op_step old op) h.seed m; row = λ q a b. g.part.other q (inl b) ∙ h.row q (omega arith) (omega arith) ∙ sym (same q b) }
  where
    same : (q : ℕ) → q < m → sweep m (op_step mid op) (sweep n (op_step old op) h.seed m) q ≡ sweep n (op_step old op) h.seed q
    same q b =
        sweep_ext m (op_step mid op) (op_step old op) _ (λ x k u. same_step place g.part.kept x (omega arith) u) q ∙ sym (sweep-split n m q (op_step old op) h.seed (omega arith) l)

-- a second pass has nothing to change below a position at which it has what the first left
pub settled : {old new : List ℕ} {op : Op} {base : ℕ} (v : Bool) (n from p : ℕ) → from ≤ p → p < n → (h : Held n from op base old)
    → sweep n (op_step old op) v p ≡ sweep n (op_step old op) h.seed p → Part n base (sweep n (op_step old op) v) p n old new → Part n base (sweep n (op_step old op) v) from n old new
settled {old} {new} {op} {base} v n from p a b h e g = record { kept = g.kept; here = λ q i j. go q i j (dec_lt q p); other = λ q i. rest q i }
  where
    go : (q : ℕ) → from ≤ q → q < n → Dec (q < p) → bits_at new base q ≡ sweep n (op_step old op) v q
    go q i j (yes d) = g.other q (inl d) ∙ h.row q i j ∙ sym (sweep_settled n p (op_step old op) v h.seed (omega arith) e q (omega arith))
    go q i j (no d) = g.here q (omega arith) j

    rest : (q : ℕ) → (q < from) ⊎ (n ≤ q) → bits_at new base q ≡ bits_at old base q
    rest q (inl i) = g.other q (inl (omega arith))
    rest q (inr i) = g.other q (inr i)

-- one pass is enough where it has at the loop's start what it began with
pub around-once : {old new : List ℕ} (w : Lasso) (op : Op) {base : ℕ} {seed s r : Bool} → seed ≡ seed_of (shape_of op.kind) → Swept w.n 0 op base seed r old new
    → s ≡ sweep w.n (op_step old op) seed w.l → s ≡ seed → Filled w.n base (loop_row old w op) old new
unfolding around
around-once {old} w op {base} {seed} e h es d =
    part_as h.part (λ p a b. ap (λ x. sweep w.n (op_step old op) x p) (sym (sym (ap (λ x. sweep w.n (op_step old op) x w.l) e) ∙ sym es ∙ d)))

-- twice around
pub around_twice : {old mid new : List ℕ} (w : Lasso) (op : Op) {base : ℕ} {seed s q r : Bool} → Placed old w.n op base → seed ≡ seed_of (shape_of op.kind)
    → Swept w.n 0 op base seed q old mid → s ≡ sweep w.n (op_step old op) seed w.l → Swept w.n 0 op base s r mid new → Filled w.n base (loop_row old w op) old new
unfolding around
around_twice {old} {mid} {new} w op {base} {seed} {s} place e h es g =
    record { kept = kept_trans h.part.kept g.part.kept; here = λ p a b. g.part.here p a b ∙ same p; other = λ p a. rest p a }
  where
    same : (p : ℕ) → sweep w.n (op_step mid op) s p ≡ loop_row old w op p
    same p =
        sweep_ext w.n (op_step mid op) (op_step old op) s (same_step place h.part.kept) p
        ∙ ap (λ x. sweep w.n (op_step old op) x p) (es ∙ ap (λ x. sweep w.n (op_step old op) x w.l) e)

    rest : (p : ℕ) → (p < 0) ⊎ (w.n ≤ p) → bits_at new base p ≡ bits_at old base p
    rest p (inl a) = absurd (omega arith)
    rest p (inr a) = g.part.other p (inr a) ∙ h.part.other p (inr a)

-- the whole row: the odd positions, the odd bytes, the words
module _ (n : ℕ) (op : Op) (base : ℕ) {one two three : Stretch} (odd : one ≡ in_bits n) (bytes : two ≡ in_bytes n) (words : three ≡ in_words n) {old : List ℕ} (place : Placed old n op base) where
  swept_odd : {mid : List ℕ} {seed u : Bool} → Swept (end_of one) one.from op base seed u old mid → Swept n (8 * (n / 8)) op base seed u old mid
  swept_odd {mid} {seed} {u} h =
      let e : 8 * (n / 8) + 1 * (n % 8) ≡ n = omega arith in
      subst (λ x. Swept x (8 * (n / 8)) op base seed u old mid) e (subst (λ s. Swept (end_of s) s.from op base seed u old mid) odd h)

  swept_bytes : {mid new : List ℕ} {seed u v : Bool} → Swept (end_of one) one.from op base seed u old mid → Swept (end_of two) two.from op base u v mid new
      → Swept n (64 * (n / 64)) op base seed v old new
  swept_bytes {mid} {new} {seed} {u} {v} h g =
      let e : 64 * (n / 64) + 8 * (n / 8 % 8) ≡ 8 * (n / 8) = omega arith in
      swept_on n (8 * (n / 8)) (64 * (n / 64)) place (omega arith) (omega arith) (swept_odd h)
      (subst (λ x. Swept x (64 * (n / 64)) op base u v mid new) e (subst (λ s. Swept (end_of s) s.from op base u v mid new) bytes g))

  pub swept_words : {mid next new : List ℕ} {seed u v r : Bool} → Swept (end_of one) one.from op base seed u old mid → Swept (end_of two) two.from op base u v mid next
      → Swept (end_of three) three.from op base v r next new → Swept n 0 op base seed r old new
  swept_words {mid} {next} {new} {seed} {u} {v} {r} h g k =
      let e : 0 + 64 * (n / 64) ≡ 64 * (n / 64) = omega arith in
      swept_on n (64 * (n / 64)) 0 place (omega arith) (omega arith) (swept_bytes h g)
      (subst (λ x. Swept x 0 op base v r next new) e (subst (λ s. Swept (end_of s) s.from op base v r next new) words k))

  module _ (held : Held n 0 op base old) where
    pub held-odd : Held (end_of one) one.from op base old
    held-odd =
        let e : n ≡ 8 * (n / 8) + 1 * (n % 8) = omega arith in
        let h : Held n (8 * (n / 8)) op base old = record { seed = held.seed; row = λ q a b. held.row q (omega arith) b } in
        subst (λ s. Held (end_of s) s.from op base old) (sym odd) (subst (λ x. Held x (8 * (n / 8)) op base old) e h)

    pub held_bytes : {mid : List ℕ} {seed u : Bool} → Swept (end_of one) one.from op base seed u old mid → Held (end_of two) two.from op base mid
    held_bytes {mid} h =
        let e : 8 * (n / 8) ≡ 64 * (n / 64) + 8 * (n / 8 % 8) = omega arith in
        subst (λ s. Held (end_of s) s.from op base mid) (sym bytes)
        (subst (λ x. Held x (64 * (n / 64)) op base mid) e (held_on n (8 * (n / 8)) (64 * (n / 64)) place (omega arith) held (swept_odd h)))

    pub held_words : {mid next : List ℕ} {seed u v : Bool} → Swept (end_of one) one.from op base seed u old mid → Swept (end_of two) two.from op base u v mid next
        → Held (end_of three) three.from op base next
    held_words {mid} {next} h g =
        let e : 64 * (n / 64) ≡ 0 + 64 * (n / 64) = omega arith in
        subst (λ s. Held (end_of s) s.from op base next) (sym words)
        (subst (λ x. Held x 0 op base next) e (held_on n (64 * (n / 64)) 0 place (omega arith) held (swept_bytes h g)))

-- what a pass has left, for the next
pub held_after : {n : ℕ} {op : Op} {base : ℕ} {seed r : Bool} {old new : List ℕ} → Placed old n op base → Swept n 0 op base seed r old new → Held n 0 op base new
held_after {n} {op} {base} {seed} {r} {old} {new} place h =
    record { seed = seed; row = λ q a b. h.part.here q a b ∙ sym (sweep_ext n (op_step new op) (op_step old op) seed (same_step place h.part.kept) q) }
