-- A step on n bytes is n steps on one byte, for any n; the row that these steps leave.
use Prim.Native.Nat.{ℕ, zero, suc, ◌+◌, ◌*◌, ◌-◌, ◌/◌, ◌%◌, ◌^◌, ◌≤◌, ◌<◌}
use Rattle.std.specs.Prelude.{◌≡◌, ◌≢◌, false, not, ◌||◌, eqb, length}
use Rattle.std.proofs.Math.Path.{refl, ap, ap₂}
use Rattle.std.proofs.Common.{sym, ◌∙◌, subst, add-zero, pow-suc, pow-add, pow_pos, get_or-set_same}
use Rattle.std.specs.Bool.{beq}
use Rattle.std.proofs.Math.Bool.{not-not}
use mathlib.Core.List.{List}
use Rattle.std.proofs.Math.Decide.{ℕ_discrete, dec_lt}
use Rattle.std.proofs.Math.Nat.{zero-div, mul-add-div_right, mul-add-mod_self_right, div-div-eq-div-mul}
use native.Mathlib.Omega.{arith}
use Rattle.std.proofs.Math.Arith.{digits_div, digits_mod}
use Rattle.std.proofs.lemmas.Nat.{and_block, or_block, or_lt, xor_block, xor_lt}
use Rattle.std.specs.Int.Bits.{and_lt, bit_or, bit_xor}
use Rattle.std.proofs.Math.ListN.{get_or, set, length-set}
use Rattle.std.proofs.Math.Seq.{get_or-set_other}
use Rattle.words.specs.Words.{read_at, write_at}
use Rattle.node.specs.Ltl.{Not, X}
use Rattle.node.specs.Kinds.{Shape, shape_of, unary_kind}
use Rattle.bits.specs.Bits.{bit_of, bit_at, width}
use Rattle.bits.specs.Bitwise.{and_acts, or_acts, xor_acts, flip-bit}
use Rattle.rows.specs.Row.{shown}
use Rattle.rows.specs.RowLaws.{shown_in, shown_out}
use Rattle.rows.specs.Steps.{pair_of}
use Rattle.rows.specs.Memory.{rows_limit, bits_at, Written}
use Rattle.rows.specs.Ready.{Placed, Boolean, pair_row}
use Rattle.rows.specs.ReadyLaws.{boolean}
use Rattle.rows.specs.Booleans.{flip, bytes_of, byte_steps, blanked, Bound}
use Rattle.rows.specs.declared.Op.{Op}

-- every element is a byte
abbrev pub Bytes : List ℕ → Type 0
Bytes bs = (k : ℕ) → get_or bs k 0 < 256

power : (n : ℕ) → 256 ^ n ≡ 2 ^ (8 * n)
power zero = refl
power (suc n) =
    let e : 8 * suc n ≡ 8 * n + 8 = omega arith in
    pow-suc 256 n ∙ ap (λ z. z * 256) (power n) ∙ sym (ap (λ z. 2 ^ z) e ∙ pow-add 2 (8 * n) 8)

pub read-lt : (bs : List ℕ) → Bytes bs → (at n : ℕ) → read_at bs at n < 256 ^ n
unfolding read_at
read-lt bs small at zero = omega arith
read-lt bs small at (suc n) = let h = read-lt bs small at n in let l = small (at + n) in let e : 256 ^ suc n ≡ 256 ^ n * 256 = pow-suc 256 n in omega arith

-- a step whose last byte is the step on the last bytes
record Bytewise (f : ℕ → ℕ → ℕ → ℕ) : Type 0 where
  last : (n a b r s : ℕ) → a < 256 ^ n → b < 256 ^ n → r < 256 → s < 256 → f (suc n) (a * 256 + r) (b * 256 + s) ≡ f n a b * 256 + f 1 r s
  small : (r s : ℕ) → r < 256 → s < 256 → f 1 r s < 256

flip-last : (n a r : ℕ) → a < 256 ^ n → r < 256 → flip (suc n) (a * 256 + r) ≡ flip n a * 256 + (255 - r)
flip-last n a r h l = let e : 256 ^ suc n ≡ 256 ^ n * 256 = pow-suc 256 n in omega arith

under : (r : ℕ) → 255 - r < 256
under r = omega arith

xor_wide : (n a b : ℕ) → a < 256 ^ n → b < 256 ^ n → bit_xor a b < 256 ^ n
xor_wide n a b g k = rw (power n) (xor_lt (8 * n) a b (rw (power n) at g) (rw (power n) at k))

bytewise : (k : ℕ) → unary_kind Not ≤ k → k < unary_kind X → Bytewise (bytes_of (shape_of k))
bytewise =
    boolean (λ k. Bytewise (bytes_of (shape_of k)))
    (record { last = λ n a b r s g k h l. flip-last n a r g h; small = λ r s h l. omega arith })
    (record { last = λ n a b r s g k h l. and_block 8 a b r s h l; small = λ r s h l. and_lt 8 r s h l })
    (record { last = λ n a b r s g k h l. or_block 8 a b r s h l; small = λ r s h l. or_lt 8 r s h l })
    (record {
      last = λ n a b r s g k h l. ap (λ z. bit_or z (b * 256 + s)) (flip-last n a r g h) ∙ or_block 8 (flip n a) b (255 - r) s (under r) l;
      small = λ r s h l. or_lt 8 (255 - r) s (under r) l;
    })
    (record {
      last = λ n a b r s g k h l. ap (flip (suc n)) (xor_block 8 a b r s h l) ∙ flip-last n (bit_xor a b) (bit_xor r s) (xor_wide n a b g k) (xor_lt 8 r s h l);
      small = λ r s h l. omega arith;
    })

steps-same : (s : Shape) → Bytewise (bytes_of s) → (rows : List ℕ) → Bytes rows → (a b c n : ℕ) → write_at rows c n (bytes_of s n (read_at rows a n) (read_at rows b n)) ≡ byte_steps s rows a b c n
unfolding read_at write_at byte_steps
steps-same s e rows small a b c zero = refl
steps-same s e rows small a b c (suc n) =
    let p : ℕ = get_or rows (a + n) 0 in
    let q : ℕ = get_or rows (b + n) 0 in
    let x : ℕ = bytes_of s n (read_at rows a n) (read_at rows b n) in
    let d : bytes_of s (suc n) (read_at rows a n * 256 + p) (read_at rows b n * 256 + q) ≡ x * 256 + bytes_of s 1 p q =
    e.last n (read_at rows a n) (read_at rows b n) p q (read-lt rows small a n) (read-lt rows small b n) (small (a + n)) (small (b + n)) in
    let h : bytes_of s 1 p q < 256 = e.small p q (small (a + n)) (small (b + n)) in
    ap₂ (λ u v. set (write_at rows c n u) (c + n) v) (ap (λ z. z / 256) d ∙ digits_div x h) (ap (λ z. z % 256) d ∙ digits_mod x h)
    ∙ ap (λ l. set l (c + n) (bytes_of s 1 p q)) (steps-same s e rows small a b c n)

-- 'Each word step equals the eight byte steps it stands for', and a step on any n bytes the n byte steps
pub word-step : (kind : ℕ) → unary_kind Not ≤ kind → kind < unary_kind X → (rows : List ℕ) → Bytes rows → (a b c n : ℕ)
    → write_at rows c n (bytes_of (shape_of kind) n (read_at rows a n) (read_at rows b n)) ≡ byte_steps (shape_of kind) rows a b c n
word-step kind low high rows small a b c n = steps-same (shape_of kind) (bytewise kind low high) rows small a b c n

module _ (s : Shape) where
  pub length-steps : (rows : List ℕ) (a b c n : ℕ) → length (byte_steps s rows a b c n) ≡ length rows
  unfolding byte_steps
  length-steps rows a b c zero = refl
  length-steps rows a b c (suc n) = length-set (byte_steps s rows a b c n) (c + n) _ ∙ length-steps rows a b c n

  pub steps_none : (rows : List ℕ) (a b c : ℕ) → rows ≡ byte_steps s rows a b c 0
  unfolding byte_steps
  steps_none rows a b c = refl

  steps-below : (rows : List ℕ) (a b c n k : ℕ) → k < c → get_or (byte_steps s rows a b c n) k 0 ≡ get_or rows k 0
  unfolding byte_steps
  steps-below rows a b c zero k h = refl
  steps-below rows a b c (suc n) k h = get_or-set_other (byte_steps s rows a b c n) (c + n) k _ 0 (omega arith) ∙ steps-below rows a b c n k h

  steps_beyond : (rows : List ℕ) (a b c n k : ℕ) → c + n ≤ k → get_or (byte_steps s rows a b c n) k 0 ≡ get_or rows k 0
  unfolding byte_steps
  steps_beyond rows a b c zero k h = refl
  steps_beyond rows a b c (suc n) k h = get_or-set_other (byte_steps s rows a b c n) (c + n) k _ 0 (omega arith) ∙ steps_beyond rows a b c n k (omega arith)

  steps-here : (rows : List ℕ) (a b c n : ℕ) → c + n ≤ length rows → (j : ℕ) → j < n
      → get_or (byte_steps s rows a b c n) (c + j) 0 ≡ bytes_of s 1 (get_or rows (a + j) 0) (get_or rows (b + j) 0)
  unfolding byte_steps
  steps-here rows a b c zero room j h = absurd (omega arith)
  steps-here rows a b c (suc n) room j h = go (λ l. steps-here rows a b c n (omega arith) j l) (ℕ_discrete j n)
    where
      mid : List ℕ
      mid = byte_steps s rows a b c n

      v : ℕ
      v = bytes_of s 1 (get_or rows (a + n) 0) (get_or rows (b + n) 0)

      go : (j < n → get_or mid (c + j) 0 ≡ bytes_of s 1 (get_or rows (a + j) 0) (get_or rows (b + j) 0)) → Dec (j ≡ n)
          → get_or (set mid (c + n) v) (c + j) 0 ≡ bytes_of s 1 (get_or rows (a + j) 0) (get_or rows (b + j) 0)
      go ih (yes d) =
          let room' : c + n < length mid = subst (λ x. c + n < x) (sym (length-steps rows a b c n)) (omega arith) in
          ap (λ k. get_or (set mid (c + n) v) (c + k) 0) d ∙ get_or-set_same mid (c + n) v 0 room' ∙ ap (λ k. bytes_of s 1 (get_or rows (a + k) 0) (get_or rows (b + k) 0)) (sym d)
      go ih (no d) = get_or-set_other mid (c + n) (c + j) v 0 (omega arith) ∙ ih (omega arith)

  -- m more of them, where the operands lie before
  pub steps-join : (rows : List ℕ) (a b c n m : ℕ) → a + (n + m) ≤ c → b + (n + m) ≤ c → byte_steps s (byte_steps s rows a b c n) (a + n) (b + n) (c + n) m ≡ byte_steps s rows a b c (n + m)
  unfolding byte_steps
  steps-join rows a b c n zero h l = ap (byte_steps s rows a b c) (sym (add-zero n))
  steps-join rows a b c n (suc m) h l =
      let mid : List ℕ = byte_steps s rows a b c n in
      let e : suc (n + m) ≡ n + suc m = omega arith in
      let ec : c + n + m ≡ c + (n + m) = omega arith in
      let ea : a + n + m ≡ a + (n + m) = omega arith in
      let eb : b + n + m ≡ b + (n + m) = omega arith in
      let x : get_or mid (a + n + m) 0 ≡ get_or rows (a + (n + m)) 0 = steps-below rows a b c n (a + n + m) (omega arith) ∙ ap (λ k. get_or rows k 0) ea in
      let y : get_or mid (b + n + m) 0 ≡ get_or rows (b + (n + m)) 0 = steps-below rows a b c n (b + n + m) (omega arith) ∙ ap (λ k. get_or rows k 0) eb in
      ap₂ (λ k v. set (byte_steps s mid (a + n) (b + n) (c + n) m) k v) ec (ap₂ (bytes_of s 1) x y)
      ∙ ap (λ r. set r (c + (n + m)) (bytes_of s 1 (get_or rows (a + (n + m)) 0) (get_or rows (b + (n + m)) 0))) (steps-join rows a b c n m (omega arith) (omega arith))
      ∙ ap (byte_steps s rows a b c) e

-- one step of the code, on n bytes: eight or one
pub steps-more : (op : Op) → Boolean op → (start : List ℕ) {rows new : List ℕ} {x y r count : ℕ} (base j n : ℕ) → Bytes rows → Bound start op base count → j + n ≤ count
    → rows ≡ byte_steps (shape_of op.kind) start op.first op.second base j → x ≡ read_at rows (op.first + j) n → y ≡ read_at rows (op.second + j) n
    → r ≡ bytes_of (shape_of op.kind) n x y → new ≡ write_at rows (base + j) n r → new ≡ byte_steps (shape_of op.kind) start op.first op.second base (j + n)
steps-more op (low, high) start {rows} base j n small bound h e ex ey er en =
    let s = shape_of op.kind in
    let a = op.first in
    let b = op.second in
    en ∙ ap (write_at rows (base + j) n) (er ∙ ap₂ (bytes_of s n) ex ey) ∙ word-step op.kind low high rows small (a + j) (b + j) (base + j) n
    ∙ ap (λ l. byte_steps s l (a + j) (b + j) (base + j) n) e ∙ steps-join s start a b base j n (omega (arith, bound.first_in_lem)) (omega (arith, bound.second_in))

-- the words of a row, then its odd bytes
pub steps-row : (start : List ℕ) {mid new : List ℕ} (s : Shape) (a b c n count : ℕ) → n ≤ count → a + count ≤ c → b + count ≤ c → mid ≡ byte_steps s start a b c n
    → new ≡ byte_steps s mid (a + n) (b + n) (c + n) (count - n) → new ≡ byte_steps s start a b c count
steps-row start s a b c n count h ha hb em en =
    let e : n + (count - n) ≡ count = omega arith in
    en ∙ ap (λ r. byte_steps s r (a + n) (b + n) (c + n) (count - n)) em ∙ steps-join s start a b c n (count - n) (omega arith) (omega arith) ∙ ap (byte_steps s start a b c) e

pub bound : {rows : List ℕ} {n : ℕ} {op : Op} {base : ℕ} → Placed rows n op base → Bound rows op base (width n)
bound r =
    let f = r.few in
    let l = r.low in
    record { first_in_lem = r.first_in_lem; second_in = r.second_in; room = r.room; low = omega arith; few = omega arith }

-- what is left after the first n of its bytes
pub bound-rest : {old new : List ℕ} {op : Op} {base count : ℕ} (n : ℕ) → n ≤ count → base ≤ rows_limit → length new ≡ length old → Bound old op base count
    → Bound new (record { kind = op.kind; signal = op.signal; first = op.first + n; second = op.second + n }) (base + n) (count - n)
bound-rest n h low e b =
    let f = b.first_in_lem in
    let s = b.second_in in
    let r = b.room in
    let m = b.few in
    record { first_in_lem = omega arith; second_in = omega arith; room = omega arith; low = omega arith; few = omega arith }

-- a step on one byte gives each bit its value
step-bit : (x y t : ℕ) → x < 256 → y < 256 → t < 8 → (k : ℕ) → unary_kind Not ≤ k → k < unary_kind X → bit_of (bytes_of (shape_of k) 1 x y) t ≡ pair_of (shape_of k) (bit_of x t) (bit_of y t)
step-bit x y t hx hy h =
    boolean (λ k. bit_of (bytes_of (shape_of k) 1 x y) t ≡ pair_of (shape_of k) (bit_of x t) (bit_of y t))
    (flip-bit 8 x t hx h)
    (and_acts x y t)
    (or_acts x y t)
    (or_acts (flip 1 x) y t ∙ ap (λ z. z || bit_of y t) (flip-bit 8 x t hx h))
    (flip-bit 8 (bit_xor x y) t (xor_lt 8 x y hx hy) h ∙ ap not (xor_acts x y t) ∙ not-not (beq (bit_of x t) (bit_of y t)))

-- the low bits of a byte, and the others
blanked-low : (x s t : ℕ) → t < s → bit_of (blanked x s) t ≡ false
blanked-low x s t h =
    let r : ℕ = s - t - 1 in
    let q : ℕ = x / 2 ^ s in
    let e : q * 2 ^ s ≡ q * 2 ^ r * 2 * 2 ^ t + 0 = (let m : s ≡ r + 1 + t = omega arith in
    ap (λ z. q * z) (ap (λ z. 2 ^ z) m ∙ pow-add 2 (r + 1) t ∙ ap (λ z. z * 2 ^ t) (pow-add 2 r 1)) ∙ omega arith) in
    ap (λ z. eqb (z / 2 ^ t % 2) 1) e ∙ ap (λ z. eqb (z % 2) 1) (mul-add-div_right (pow_pos t) (q * 2 ^ r * 2) 0 ∙ ap (λ z. q * 2 ^ r * 2 + z) (zero-div (2 ^ t)))
    ∙ ap (λ z. eqb z 1) (mul-add-mod_self_right (q * 2 ^ r) 2 0)

blanked-high : (x s t : ℕ) → s ≤ t → bit_of (blanked x s) t ≡ bit_of x t
blanked-high x s t h =
    let r : ℕ = t - s in
    let e : 2 ^ t ≡ 2 ^ s * 2 ^ r = (let m : t ≡ s + r = omega arith in ap (λ z. 2 ^ z) m ∙ pow-add 2 s r) in
    let whole : blanked x s / 2 ^ s ≡ x / 2 ^ s =
    (let z : blanked x s ≡ x / 2 ^ s * 2 ^ s + 0 = omega arith in ap (λ y. y / 2 ^ s) z ∙ digits_div (x / 2 ^ s) (pow_pos s)) in
    let down : (y : ℕ) → y / 2 ^ t ≡ y / 2 ^ s / 2 ^ r = λ y. ap (λ z. y / z) e ∙ sym (div-div-eq-div-mul y (2 ^ s) (2 ^ r)) in
    ap (λ z. eqb (z % 2) 1) (down (blanked x s) ∙ ap (λ z. z / 2 ^ r) whole ∙ sym (down x))

-- the row that the steps leave, its last byte blanked
pub boolean-written : {old mid new : List ℕ} {op : Op} {base : ℕ} (n : ℕ) → 0 < n → Placed old n op base → Boolean op → Bytes old
    → mid ≡ byte_steps (shape_of op.kind) old op.first op.second base (width n)
    → new ≡ set mid (base + width n - 1) (blanked (get_or mid (base + width n - 1) 0) (8 * width n - n)) → Written n base (pair_row old op) old new
unfolding bit_at
boolean-written {old} {mid} {new} {op} {base} n pos place b small em en =
    record {
      kept =
          record {
            size = ap length en ∙ length-set mid last _ ∙ length-mid;
            below = λ k h. other k (omega arith) ∙ ap (λ r. get_or r k 0) em ∙ steps-below s old op.first op.second base w k h;
            beyond = λ k h. other k (omega arith) ∙ ap (λ r. get_or r k 0) em ∙ steps_beyond s old op.first op.second base w k h;
          };
      right = λ p h. go p h (dec_lt p n) (ℕ_discrete (p / 8) (w - 1));
    }
  where
    s : Shape
    s = shape_of op.kind

    w : ℕ
    w = width n

    last : ℕ
    last = base + width n - 1

    length-mid : length mid ≡ length old
    length-mid = ap length em ∙ length-steps s old op.first op.second base w

    other : (k : ℕ) → k ≢ last → get_or new k 0 ≡ get_or mid k 0
    other k d = ap (λ r. get_or r k 0) en ∙ get_or-set_other mid last k _ 0 d

    -- the bits of byte j of a row
    bit : (bs : List ℕ) (at p : ℕ) → bit_at bs (8 * at + p) ≡ bit_of (get_or bs (at + p / 8) 0) (7 - p % 8)
    bit bs at p =
        let e : (8 * at + p) / 8 ≡ at + p / 8 = omega arith in
        let r : (8 * at + p) % 8 ≡ p % 8 = omega arith in ap₂ (λ x y. bit_of (get_or bs x 0) (7 - y)) e r

    mid-bit : (p : ℕ) → p < 8 * w → bit_of (get_or mid (base + p / 8) 0) (7 - p % 8) ≡ pair_row old op p
    mid-bit p h =
        ap (λ r. bit_of (get_or r (base + p / 8) 0) (7 - p % 8)) em
        ∙ ap (λ x. bit_of x (7 - p % 8)) (steps-here s old op.first op.second base w place.room (p / 8) (omega arith))
        ∙ step-bit (get_or old (op.first + p / 8) 0) (get_or old (op.second + p / 8) 0) (7 - p % 8) (small (op.first + p / 8)) (small (op.second + p / 8)) (omega arith) op.kind b.0 b.1
        ∙ ap₂ (pair_of s) (sym (bit old op.first p)) (sym (bit old op.second p))

    last_bit : (p : ℕ) → p / 8 ≡ w - 1 → bits_at new base p ≡ bit_of (blanked (get_or mid (base + p / 8) 0) (8 * w - n)) (7 - p % 8)
    last_bit p d =
        let e : base + p / 8 ≡ last = omega arith in
        let room : last < length mid = subst (λ x. last < x) (sym length-mid) (let r = place.room in omega arith) in
        bit new base p ∙ ap (λ k. bit_of (get_or new k 0) (7 - p % 8)) e ∙ ap (λ r. bit_of (get_or r last 0) (7 - p % 8)) en
        ∙ ap (λ x. bit_of x (7 - p % 8)) (get_or-set_same mid last _ 0 room) ∙ ap (λ k. bit_of (blanked (get_or mid k 0) (8 * w - n)) (7 - p % 8)) (sym e)

    go : (p : ℕ) → p < 8 * w → Dec (p < n) → Dec (p / 8 ≡ w - 1) → bits_at new base p ≡ shown n (pair_row old op) p
    go p h (yes i) (yes d) = last_bit p d ∙ blanked-high _ (8 * w - n) (7 - p % 8) (omega arith) ∙ mid-bit p h ∙ sym (shown_in n (pair_row old op) p i)
    go p h (yes i) (no d) = bit new base p ∙ ap (λ x. bit_of x (7 - p % 8)) (other (base + p / 8) (omega arith)) ∙ mid-bit p h ∙ sym (shown_in n (pair_row old op) p i)
    go p h (no i) (yes d) = last_bit p d ∙ blanked-low _ (8 * w - n) (7 - p % 8) (omega arith) ∙ sym (shown_out n (pair_row old op) p (omega arith))
    go p h (no i) (no d) = absurd (omega arith)
