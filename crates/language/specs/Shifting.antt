-- Texts that state one model and target the other (document 001, 3.2, 'Conversion between system models'). The expansion's side alone.
use Rattle.std.specs.Prelude.{ℕ, Bool, true, false, not, List, ltb, get_or}
use Rattle.node.specs.BitFields.{above}
use Rattle.node.specs.Operators.{X}
use Rattle.node.specs.Ltl.{Formula, True, False, Signal, One, Two}
use Rattle.language.specs.Limits.{offset_bits, index_bits, width_bits}
use Rattle.language.specs.Tree.{Model, Mealy, Moore}

-- is signal k an output? '1 output flag' on top of its entry's other fields
abbrev pub is_output : List ℕ → ℕ → Bool
is_output list k = ltb 0 (above offset_bits (above index_bits (above width_bits (get_or list k 0))))

-- 'prefixing all occurrences of .. atomic propositions with an additional X-operator': of those that are late
abbrev pub shifted : (ℕ → Bool) → Formula → Formula
shifted late True = True
shifted late False = False
shifted late (Signal k) = elim (late k) [ true ↦ One X (Signal k) | false ↦ Signal k ]
shifted late (One o a) = One o (shifted late a)
shifted late (Two o a b) = Two o (shifted late a) (shifted late b)

-- 'From Moore to Mealy each input node gets an X above it; from Mealy to Moore each output node does. .. Files with equal models give the nodes they gave':
-- the stated model, the targeted one, the signal list and the formula
abbrev pub adapted : Model → Model → List ℕ → Formula → Formula
adapted Mealy Mealy list f = f
adapted Mealy Moore list f = shifted (is_output list) f
adapted Moore Mealy list f = shifted (λ k. not (is_output list k)) f
adapted Moore Moore list f = f
