-- One number kept: that of node i is the new one, the others stay.
use Rattle.std.specs.Prelude.{ℕ, ◌+◌, ◌-◌, ◌≤◌, ◌<◌, ◌≡◌, refl, List, get_or, set}
use Rattle.std.proofs.Common.{ap, ◌∙◌, sym, arith, length-set, get_or-set_same, get_or-set_other, lt-ltb, le-ltb, le-leb, eq-eqb, ne_eqb}
use Rattle.std.proofs.Math.Decide.{dec_le}
use Rattle.std.proofs.lemmas.Bool.{lt-leb}
use Rattle.node.specs.Limits.{max_nodes}
use Rattle.lookahead.specs.Span.{Span, Silent, Ahead, Endless}
use Rattle.lookahead.proofs.Low.{Low}
use Rattle.lookahead.specs.Codes.{here as hereCode, endless, Coded, near_count, near_endless, narrow_code, widened, number_at, Sized}

pub record KeepsOne (i s : ℕ) (bytes words bytes' words' : List ℕ) : Type 0 where
  pub sized : Sized bytes' words'
  pub here : number_at bytes' words' i ≡ s
  pub others : (j : ℕ) → (j ≡ i → ⊥) → number_at bytes' words' j ≡ number_at bytes words j

module _ (bytes words : List ℕ) where
  pub number_far : (i : ℕ) → near_count ≤ i → number_at bytes words i ≡ get_or words (i - near_count) 0
  number_far i h = rw (le-leb near_count i h)

  pub number_near : (i : ℕ) → i < near_count → number_at bytes words i ≡ widened (get_or bytes i 0)
  number_near i h = rw (lt-leb near_count i h)

module _ {bytes words : List ℕ} (z : Sized bytes words) (i s : ℕ) where
  pub keeps_far : i < max_nodes → near_count ≤ i → KeepsOne i s bytes words bytes (set words (i - near_count) s)
  keeps_far l h =
      let b = z.1 in
      record {
        sized = (z.0, length-set words (i - near_count) s ∙ z.1);
        here = number_far bytes (set words (i - near_count) s) i h ∙ get_or-set_same words (i - near_count) s 0 (omega arith);
        others = λ j n. go j n (dec_le near_count j);
      }
    where
      go : (j : ℕ) → (j ≡ i → ⊥) → Dec (near_count ≤ j) → number_at bytes (set words (i - near_count) s) j ≡ number_at bytes words j
      go j n (yes l) =
          number_far bytes (set words (i - near_count) s) j l ∙ get_or-set_other words (i - near_count) (j - near_count) s 0 (λ e. n (omega arith)) ∙ sym (number_far bytes words j l)
      go j n (no l) = number_near bytes (set words (i - near_count) s) j (omega arith) ∙ sym (number_near bytes words j (omega arith))

  -- what a byte stands for
  pub keeps_near : (b : ℕ) → i < near_count → KeepsOne i (widened b) bytes words (set bytes i b) words
  keeps_near b h =
      let q = z.0 in
      record {
        sized = (length-set bytes i b ∙ z.0, z.1);
        here = number_near (set bytes i b) words i h ∙ ap widened (get_or-set_same bytes i b 0 (omega arith));
        others = λ j n. go j n (dec_le near_count j);
      }
    where
      go : (j : ℕ) → (j ≡ i → ⊥) → Dec (near_count ≤ j) → number_at (set bytes i b) words j ≡ number_at bytes words j
      go j n (yes l) = number_far (set bytes i b) words j l ∙ sym (number_far bytes words j l)
      go j n (no l) =
          number_near (set bytes i b) words j (omega arith) ∙ ap widened (get_or-set_other bytes i j b 0 n) ∙ sym (number_near bytes words j (omega arith))

-- the ways from a byte
module _ (b : ℕ) where
  pub widened_silent : b ≡ 0 → widened b ≡ 0
  widened_silent h = rw (eq-eqb b 0 h)

  pub widened-endless : (b ≡ 0 → ⊥) → b ≡ near_endless → widened b ≡ endless
  widened-endless z h = rw (ne_eqb b 0 z, eq-eqb b near_endless h)

  pub widened-bounded : (b ≡ 0 → ⊥) → (b ≡ near_endless → ⊥) → widened b ≡ b + (hereCode - 1)
  widened-bounded z h = rw (ne_eqb b 0 z, ne_eqb b near_endless h)

-- and to it
module _ (s : ℕ) where
  pub narrow_silent : s < hereCode → narrow_code s ≡ 0
  narrow_silent h = rw (lt-ltb s hereCode h)

  pub narrow_endless : hereCode ≤ s → endless ≤ s → narrow_code s ≡ near_endless
  narrow_endless l h = rw (le-ltb s hereCode l, le-leb endless s h)

  pub narrow_bounded : hereCode ≤ s → s < endless → narrow_code s ≡ s - hereCode + 1
  narrow_bounded l h = rw (le-ltb s hereCode l, lt-leb endless s h)

-- a byte stands for the span that the number stood for
pub coded_narrow : (i s : ℕ) (t : Span) → i < near_count → Low i t → Coded i s t → Coded i (widened (narrow_code s)) t
coded_narrow i s Silent h l c = rw (narrow_silent s (omega arith), widened_silent 0 refl) (omega arith)
coded_narrow i s (Ahead k) h l c =
    rw (narrow_bounded s (omega arith) (omega arith), widened-bounded (s - hereCode + 1) (λ e. omega arith) (λ e. omega arith)) (omega arith)
coded_narrow i s Endless h l c = rw (narrow_endless s (omega arith) c.0, widened-endless near_endless (λ e. omega arith) refl) (omega arith, omega arith)
