-- Rows of constants, signals and X span by span, and in their three stretches.
use Rattle.std.specs.Prelude.{ℕ, ◌+◌, ◌*◌, ◌/◌, ◌%◌, ◌^◌, ◌≤◌, ◌<◌, ◌≡◌, ◌≢◌, List}
use Rattle.std.proofs.Common.{subst, inl, inr, arith, pow_mono}
use Rattle.node.specs.Ltl.{X}
use Rattle.node.specs.Kinds.{true_kind, false_kind, signal_kind, unary_kind}
use Rattle.bits.specs.Bits.{Values, number}
use Rattle.bits.specs.BitLaws.{number_lt}
use Rattle.bits.specs.Spans.{Within}
use Rattle.recordings.specs.declared.Lasso.{Lasso}
use Rattle.rows.specs.Memory.{rows_limit, Part, Filled}
use Rattle.rows.specs.MemoryLaws.{part-before}
use Rattle.rows.specs.Ready.{Ready, Inside, Plain, op_row}
use Rattle.rows.specs.ReadyLaws.{same_row}
use Rattle.rows.specs.Stretches.{end_of, in_words, in_bytes, in_bits, Inner}
use Rattle.rows.specs.StretchesLaws.{place, aligned_on, aligned_row}
use Rattle.rows.specs.declared.Op.{Op}
use Rattle.rows.specs.declared.Stretch.{Stretch}
use Rattle.rows.specs.Plain.{Spot}

-- the last of the plain kinds
pub plain-next : (op : Op) → Plain op → op.kind ≢ true_kind → op.kind ≢ false_kind → op.kind ≢ signal_kind → op.kind ≡ unary_kind X
plain-next op (inl h) a b c = absurd (omega arith)
plain-next op (inr e) a b c = e

-- they lie in the buffer
pub spot_within : {w : Lasso} {at size first : ℕ} {rows : List ℕ} → Spot w at size → Inside w.n first rows → Within size (8 * first + at) rows
spot_within {w} {at} {size} {first} {rows} s i = record { aligned = aligned_row first size at s.aligned; inside = omega arith }

-- span k of a stretch: its positions, and its bits in the row
pub record Lies (rows : List ℕ) (w : Lasso) (base at size : ℕ) : Type 0 where
  pub spot : Spot w at size
  pub target : Within size (8 * base + at) rows
  pub low : base ≤ rows_limit

pub lies : {bs rows : List ℕ} {w : Lasso} {op : Op} {base : ℕ} {s : Stretch} (k : ℕ) → Ready bs rows w op base → Inner w.n s → k < s.count
    → Lies rows w base (s.from + s.size * k) s.size
lies {rows = rows} {w = w} {base = base} {s = s} k r i h =
    let p = place s.from s.size s.count k i.regular h in
    let e = i.end in
    let spot : Spot w (s.from + s.size * k) s.size =
    record {
      loop = r.recorded.loop;
      few = r.recorded.few;
      some = p.some;
      most = p.most;
      fits = omega (arith, p.last, e);
      aligned = aligned_on s.from s.size k i.regular;
    } in
    record { spot = spot; target = spot_within spot (r.room, r.low); low = r.low }

-- fewer than 64 bits make up less than 2^63
pub number_half : (g : Values) (i : ℕ) {v : ℕ} → v ≡ number g i → i < 64 → v < 2 ^ 63
number_half g i e h = let l = number_lt g i in let m : 2 ^ i ≤ 2 ^ 63 = pow_mono {i = i} {j = 63} (omega arith) in omega arith

-- the whole row: the odd positions, the odd bytes, the words
module _ (w : Lasso) (op : Op) (base : ℕ) {bs old mid next new : List ℕ} {one two three : Stretch} (odd : one ≡ in_bits w.n) (bytes : two ≡ in_bytes w.n) (words : three ≡ in_words w.n)
    (ready : Ready bs old w op base) where
  pub plain-words : Part w.n base (op_row bs old w op) one.from (end_of one) old mid → Part w.n base (op_row bs mid w op) two.from (end_of two) mid next
      → Part w.n base (op_row bs next w op) three.from (end_of three) next new → Filled w.n base (op_row bs old w op) old new
  plain-words h g k =
      let e : 8 * (w.n / 8) + 1 * (w.n % 8) ≡ w.n = omega arith in
      let d : 64 * (w.n / 64) + 8 * (w.n / 8 % 8) ≡ 8 * (w.n / 8) = omega arith in
      let c : 0 + 64 * (w.n / 64) ≡ 64 * (w.n / 64) = omega arith in
      let f : Values = op_row bs old w op in
      let x : Part w.n base f (8 * (w.n / 8)) w.n old mid = subst (λ z. Part w.n base f (8 * (w.n / 8)) z old mid) e (subst (λ s. Part w.n base f s.from (end_of s) old mid) odd h) in
      let y : Part w.n base (op_row bs mid w op) (64 * (w.n / 64)) (8 * (w.n / 8)) mid next =
      subst (λ z. Part w.n base (op_row bs mid w op) (64 * (w.n / 64)) z mid next) d (subst (λ s. Part w.n base (op_row bs mid w op) s.from (end_of s) mid next) bytes g) in
      let z : Part w.n base (op_row bs next w op) 0 (64 * (w.n / 64)) next new =
      subst (λ z. Part w.n base (op_row bs next w op) 0 z next new) c (subst (λ s. Part w.n base (op_row bs next w op) s.from (end_of s) next new) words k) in
      let xy : Part w.n base f (64 * (w.n / 64)) w.n old next =
      part-before w.n w.n (8 * (w.n / 8)) (64 * (w.n / 64)) w.n base f _ (omega arith) (omega arith) (omega arith) x y (λ p a b. same_row ready x.kept p (omega arith)) in
      part-before w.n w.n (64 * (w.n / 64)) 0 w.n base f _ (omega arith) (omega arith) (omega arith) xy z (λ p a b. same_row ready xy.kept p (omega arith))
