-- Laws of sets of numbers at equal steps: how they are filled into an array, and what {x, y .. z} and bounds answer.
use Rattle.std.specs.Prelude.{ℕ, zero, suc, ◌+◌, ◌-◌, ◌*◌, ◌/◌, ◌≤◌, ◌<◌, ◌≡◌, refl, Bool, true, false, not, List, [], ◌∷◌, ◌++◌, leb, length, take, set, Ok, Err}
use Rattle.std.proofs.Common.{sym, ap, ap₂, ◌∙◌, take-suc-set, arith, suc-mul, zero-mul, le-div_iff_mul-le, le-leb, lt-ltb, le-ltb}
use Rattle.std.proofs.lemmas.Bool.{lt-leb}
use Rattle.node.specs.Result.{Done, guard}
use Rattle.node.proofs.ResultLaws.{guard-pass, guard-stop}
use Rattle.node.specs.Returned.{refusal}
use Rattle.language.specs.Limits.{max_elements}
use Rattle.language.specs.Bytes.{if◌then◌otherwise◌}
use Rattle.language.specs.Sets.{steps, range_size}
use Rattle.language.specs.Values.{range, between}
use Rattle.sets.specs.Answers.{SetIs}

-- numbers at equal steps: one more at the end
pub steps-more : (n start step : ℕ) → steps (suc n) start step ≡ steps n start step ++ ((start + n * step) ∷ [])
steps-more zero start step = ap (λ k. ◌∷◌ k []) (simp zero-mul (omega arith))
steps-more (suc n) start step =
    let product = suc-mul n step in
    let place : start + step + n * step ≡ start + suc n * step = omega arith in
    ap (◌∷◌ start) (steps-more n (start + step) step ∙ ap (λ k. steps n (start + step) step ++ (k ∷ [])) place)

-- an array while it is filled: the first i numbers are there, v is next
pub record Filled (start step : ℕ) (a : List ℕ) (v i : ℕ) : Type 0 where
  pub next : v ≡ start + i * step
  pub there : take i a ≡ steps i start step

pub filled_none : (start step : ℕ) (a : List ℕ) → Filled start step a start 0
filled_none start step a = record { next = simp zero-mul (omega arith); there = refl }

pub filled_more : (start step : ℕ) (a : List ℕ) (v i : ℕ) → Filled start step a v i → i < length a → Filled start step (set a i v) (v + step) (suc i)
filled_more start step a v i h l = record {
  next = let product = suc-mul i step in let now = h.next in omega arith;
  there = take-suc-set a i v l ∙ ap₂ (λ xs k. xs ++ (k ∷ [])) h.there h.next ∙ sym (steps-more i start step);
}

-- {x, y .. z}: each element is at most z
pub range-fits : (x y z : ℕ) → x < y → x ≤ z → (i : ℕ) → i < (z - x) / (y - x) + 1 → x + i * (y - x) ≤ z
range-fits x y z up h i l =
    let positive : 0 < y - x = omega arith in
    let within : i * (y - x) ≤ z - x = (le-div_iff_mul-le positive).0 (omega arith) in
    omega arith

module _ (place x y z : ℕ) (a : List ℕ) where
  pub range-flat : y ≤ x → SetIs (Err (refusal 12 place)) a (range place x y z)
  range-flat h = record { says = sym (guard-stop _ _ _ (le-ltb x y h)); few = omega arith }

  module _ (up : x < y) where
    sized : (n : ℕ) → range_size x y z ≡ n → range place x y z ≡ guard (leb n max_elements) 12 place (Done (steps n x (y - x)))
    sized n e = guard-pass _ _ _ (lt-ltb x y up) ∙ ap (λ n. guard (leb n max_elements) 12 place (Done (steps n x (y - x)))) e

    pub range_none : z < x → SetIs (Ok 0) a (range place x y z)
    range_none h = record {
      says = sym (sized 0 (ap (λ (b : Bool). if b then 0 otherwise suc ((z - x) / (y - x))) (lt-ltb z x h)) ∙ guard-pass _ _ _ refl);
      few = omega arith;
    }

    size : x ≤ z → range_size x y z ≡ suc ((z - x) / (y - x))
    size h = ap (λ (b : Bool). if b then 0 otherwise suc ((z - x) / (y - x))) (le-ltb z x h)

    pub range-over : x ≤ z → max_elements ≤ (z - x) / (y - x) → SetIs (Err (refusal 12 place)) a (range place x y z)
    range-over h over = record {
      says = sym (sized (suc ((z - x) / (y - x))) (size h) ∙ guard-stop _ _ _ (lt-leb (suc ((z - x) / (y - x))) max_elements (omega arith)));
      few = omega arith;
    }

    pub range-filled : x ≤ z → (m : ℕ) → m ≡ (z - x) / (y - x) → m < max_elements → take (m + 1) a ≡ steps (m + 1) x (y - x) → SetIs (Ok (m + 1)) a (range place x y z)
    range-filled h m e few there = record {
      says = ap Done there ∙ sym (sized (m + 1) (size h ∙ omega arith) ∙ guard-pass _ _ _ (le-leb (m + 1) max_elements (omega arith)));
      few = omega arith;
    }

-- bounds: from `start` to before `end`
abbrev pub start_of : Bool → ℕ → ℕ
start_of after a = if after then suc a otherwise a

pub start-bound : (after : Bool) (a : ℕ) → start_of after a ≤ suc a
start-bound true a = omega arith
start-bound false a = omega arith

end_of : (before : Bool) (b : ℕ) → start_of (not before) b ≡ (if before then b otherwise suc b)
end_of true b = refl
end_of false b = refl

module _ (place : ℕ) (after before : Bool) (low high : ℕ) (a : List ℕ) (start end : ℕ) (s : start ≡ start_of after low) (e : end ≡ start_of (not before) high) where
  numbered : (n : ℕ) → end - start ≡ n → between place after before low high ≡ guard (leb n max_elements) 12 place (Done (steps n start 1))
  numbered n q =
      ap₂ (λ from to. guard (leb (to - from) max_elements) 12 place (Done (steps (to - from) from 1))) (sym s) (sym (e ∙ end_of before high)) ∙
      ap (λ n. guard (leb n max_elements) 12 place (Done (steps n start 1))) q

  pub between_none : end ≤ start → SetIs (Ok 0) a (between place after before low high)
  between_none h = record { says = sym (numbered 0 (omega arith) ∙ guard-pass _ _ _ refl); few = omega arith }

  pub between-over : (n : ℕ) → n ≡ end - start → max_elements < n → SetIs (Err (refusal 12 place)) a (between place after before low high)
  between-over n q over = record { says = sym (numbered n (sym q) ∙ guard-stop _ _ _ (lt-leb n max_elements over)); few = omega arith }

  pub between-filled : (n : ℕ) → n ≡ end - start → n ≤ max_elements → take n a ≡ steps n start 1 → SetIs (Ok n) a (between place after before low high)
  between-filled n q few there = record { says = ap Done there ∙ sym (numbered n (sym q) ∙ guard-pass _ _ _ (le-leb n max_elements few)); few = few }
