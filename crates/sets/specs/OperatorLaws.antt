-- Laws of operators by number: one that is none of some numbers stands for the last operator.
use Rattle.std.specs.Prelude.{ℕ, ◌≡◌, Bool, true, false}
use Rattle.std.proofs.Common.{ap, ◌∙◌, arith, ne_eqb}
use Rattle.node.proofs.TableLaws.{Rest, rest-above}
use Rattle.language.specs.Operators.{Plus, Minus, Times, Divide, Modulo, Equal, Unequal, Less, AtMost, Greater, AtLeast, Size, Min, Max}
use Rattle.operators.specs.Codes.{arithmetic_code, comparison_code, measure_code}
use Rattle.sets.specs.Operators.{numbered, arithmetic, comparison, measurement}

pub another : {A : Type 0} (code : A → ℕ) (k : ℕ) (o : A) {other : A} → ¬ (k ≡ code o) → numbered code k o other ≡ other
another code k o {other} h = ap (λ (b : Bool). elim b [ true ↦ o | false ↦ other ]) (ne_eqb k (code o) h)

pub modulo : (k : ℕ) → Rest (arithmetic_code Modulo) k → arithmetic k ≡ Modulo
modulo k r =
    let l = rest-above (arithmetic_code Modulo) k r in
    another arithmetic_code k Plus (λ e. omega arith) ∙ another arithmetic_code k Minus (λ e. omega arith) ∙ another arithmetic_code k Times (λ e. omega arith) ∙ another arithmetic_code k Divide (λ e. omega arith)

pub at_least : (k : ℕ) → Rest (comparison_code AtLeast) k → comparison k ≡ AtLeast
at_least k r =
    let l = rest-above (comparison_code AtLeast) k r in
    another comparison_code k Equal (λ e. omega arith) ∙ another comparison_code k Unequal (λ e. omega arith) ∙ another comparison_code k Less (λ e. omega arith) ∙ another comparison_code k AtMost (λ e. omega arith)
    ∙ another comparison_code k Greater (λ e. omega arith)

pub greatest : (k : ℕ) → ¬ (k ≡ measure_code Size) → ¬ (k ≡ measure_code Min) → measurement k ≡ Max
greatest k h g = another measure_code k Size h ∙ another measure_code k Min g
