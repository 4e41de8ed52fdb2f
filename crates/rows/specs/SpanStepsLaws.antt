-- What operators make of the spans of their operands: each bit of the result is the operator's value at its position.
use Rattle.std.specs.Prelude.{ℕ, zero, suc, ◌+◌, ◌-◌, ◌%◌, ◌^◌, ◌≤◌, ◌<◌, ◌≡◌, refl, Bool, true, false, not, ◌&&◌, ◌||◌, eqb}
use Rattle.std.proofs.Common.{sym, ap, ap₂, ◌∙◌, arith, div-one}
use Rattle.std.proofs.Math.Arith.{digits_div, digits_mod}
use Rattle.std.specs.Int.Bits.{bit_and}
use Rattle.node.specs.Ltl.{G, F, U, R, W}
use Rattle.node.specs.Kinds.{shape_of, unary_kind, binary_kind}
use Rattle.bits.specs.Bits.{Values, digit, bit_of}
use Rattle.bits.specs.BitLaws.{digit_lt, digit-eqb}
use Rattle.bits.specs.Bitwise.{and_acts, zero_bit, flip-bit, bit-under}
use Rattle.bits.specs.Ripple.{ripple, before}
use Rattle.bits.specs.RippleLaws.{bit-suc, ripple-bit}
use Rattle.bits.specs.Spans.{Span, ahead}
use Rattle.recordings.specs.Lasso.{next}
use Rattle.recordings.specs.LassoLaws.{next_on}
use Rattle.rows.specs.Row.{sweep}
use Rattle.rows.specs.RowLaws.{sweep-step}
use Rattle.rows.specs.Steps.{step_of}
use Rattle.rows.specs.SpanSteps.{Goes}

-- X: the values one position later
pub span-next : (n l at m : ℕ) (f : Values) (x c : ℕ) → at + m ≤ n → m ≤ 64 → Span m f at x → c ≡ digit (f (next n l (at + (m - 1)))) → Span m (λ q. f (next n l q)) at (ahead x c)
span-next n l at m f x c room most h e = record { bits = λ s k. go s k }
  where
    v : Bool
    v = f (next n l (at + (m - 1)))

    small : c < 2
    small = let d = digit_lt v in omega arith

    go : (s : ℕ) → s < m → bit_of (ahead x c) s ≡ f (next n l (at + (m - 1 - s)))
    go zero k =
        let i : at + (m - 1) ≡ at + (m - 1 - 0) = omega arith in
        ap (λ z. eqb (z % 2) 1) (div-one (ahead x c)) ∙ ap (λ z. eqb z 1) (digits_mod (x % 2 ^ 63) small) ∙ ap (λ z. eqb z 1) e ∙ digit-eqb v
        ∙ ap (λ q. f (next n l q)) i
    go (suc s) k =
        let p : ℕ = at + (m - 1 - suc s) in
        let i : at + (m - 1 - s) ≡ suc p = omega arith in
        bit-suc (ahead x c) s ∙ ap (λ z. bit_of z s) (digits_div (x % 2 ^ 63) small) ∙ bit-under 63 x s (omega arith) ∙ h.bits s (omega arith) ∙ ap f i
        ∙ ap f (sym (next_on n l p (omega arith)))

turned : (x y v : Bool) → ((x && y) || (y && v)) ≡ (y && (x || v))
turned true true v = refl
turned true false v = refl
turned false true v = refl
turned false false v = refl

module _ (a b c : ℕ) {r : ℕ} (h : c < 2) where
  rippled : (p g : ℕ) → r ≡ ripple p g c → (s : ℕ) → bit_of r s ≡ (bit_of g s || (bit_of p s && before c r s))
  rippled p g e s = ap (λ z. bit_of z s) e ∙ ripple-bit s p g c h ∙ ap (λ z. bit_of g s || (bit_of p s && before c z s)) (sym e)

  pub goes_until : r ≡ ripple a b c → Goes (binary_kind U) a b c r
  goes_until e = record { bits = λ s l. rippled a b e s }

  pub goes_weak : r ≡ ripple a b c → Goes (binary_kind W) a b c r
  goes_weak e = record { bits = λ s l. rippled a b e s }

  pub goes_globally : r ≡ ripple a 0 c → Goes (unary_kind G) a b c r
  goes_globally e = record { bits = λ s l. rippled a 0 e s ∙ ap (λ z. z || (bit_of a s && before c r s)) (zero_bit s) }

  pub goes_finally : r ≡ ripple (2 ^ 64 - 1) a c → Goes (unary_kind F) a b c r
  goes_finally e = record { bits = λ s l. rippled (2 ^ 64 - 1) a e s ∙ ap (λ z. bit_of a s || (z && before c r s)) (flip-bit 64 0 s (omega arith) l ∙ ap not (zero_bit s)) }

  pub goes_release : r ≡ ripple b (bit_and a b) c → Goes (binary_kind R) a b c r
  goes_release e = record { bits = λ s l. rippled b (bit_and a b) e s ∙ ap (λ z. z || (bit_of b s && before c r s)) (and_acts a b s) ∙ turned (bit_of a s) (bit_of b s) (before c r s) }

-- a span of a sweep, from the value after it
span-sweep : (n at m : ℕ) (f : ℕ → Bool → Bool) (seed : Bool) (c r : ℕ) → at + m ≤ n → ((s : ℕ) → s < m → bit_of r s ≡ f (at + (m - 1 - s)) (before c r s))
    → eqb c 1 ≡ sweep n f seed (at + m) → Span m (sweep n f seed) at r
span-sweep n at m f seed c r room step e = record { bits = λ s h. go s h }
  where
    go : (s : ℕ) → s < m → bit_of r s ≡ sweep n f seed (at + (m - 1 - s))
    go zero h =
        let i : at + m ≡ suc (at + (m - 1 - 0)) = omega arith in
        step 0 h ∙ ap (f (at + (m - 1 - 0))) (e ∙ ap (sweep n f seed) i) ∙ sym (sweep-step n f seed (at + (m - 1 - 0)) (omega arith))
    go (suc s) h =
        let i : at + (m - 1 - s) ≡ suc (at + (m - 1 - suc s)) = omega arith in
        step (suc s) h ∙ ap (f (at + (m - 1 - suc s))) (go s (omega arith) ∙ ap (sweep n f seed) i) ∙ sym (sweep-step n f seed (at + (m - 1 - suc s)) (omega arith))

-- the spans of two rows and a step give a span of the sweep
pub span_goes : {kind x y r c at m : ℕ} {a b : Values} (n : ℕ) (seed : Bool) → Goes kind x y c r → m ≤ 64 → Span m a at x → Span m b at y → at + m ≤ n
    → eqb c 1 ≡ sweep n (λ q v. step_of (shape_of kind) (a q) (b q) v) seed (at + m) → Span m (sweep n (λ q v. step_of (shape_of kind) (a q) (b q) v) seed) at r
span_goes {kind} {x} {y} {r} {c} {at} {m} {a} {b} n seed g most h l room e =
    span-sweep n at m (λ q v. step_of (shape_of kind) (a q) (b q) v) seed c r room
    (λ s k. g.bits s (omega arith) ∙ ap₂ (λ u v. step_of (shape_of kind) u v (before c r s)) (h.bits s k) (l.bits s k)) e
