-- Which line is named, from the rows of each section's lines (document 02, F-7: 'For a recording that fails, name a line'). Laws in NamingLaws and FaultLaws.
use Rattle.std.specs.Prelude.{ℕ, zero, suc, Bool, true, not, ◌&&◌, List, [], ◌∷◌}
use Rattle.std.proofs.Math.Option.{Option, none, some}
use Rattle.bits.specs.Bits.{Values}
use Rattle.language.specs.Bytes.{if◌then◌otherwise◌}
use Rattle.language.specs.Tree.{Part, Preset, Require, Assert, Guarantee}

-- 'A recording that holds yields "holds" and no line'; else a section and a number
pub data Finding : Type 0 where
  NoFault : Finding
  FaultIn : Part → (line : ℕ) → Finding

-- the first of the rows that is false at p, the first row counting k; 0 if none is
unfoldable pub first_false : ℕ → List Values → ℕ → ℕ
first_false k [] p = 0
first_false k (a ∷ us) p = if a p then first_false (suc k) us p otherwise k

-- a section holds where all its lines do
unfoldable pub all_true : List Values → Values
all_true [] p = true
all_true (a ∷ us) p = a p && all_true us p

-- 'the smallest position where ASSERT is broken (under strict semantics, with REQUIRE true up to it)', among the n positions from p on
unfoldable pub broken_from : (strict : Bool) (require assert : Values) → ℕ → ℕ → Option ℕ
broken_from strict require assert p zero = none
broken_from strict require assert p (suc n) =
    if strict && not (require p) then none otherwise (if assert p then broken_from strict require assert (suc p) n otherwise some p)

-- 'the first ASSERT line false there. Failing that, it is the first GUARANTEE line false at 0'
abbrev pub after_preset : (assert guarantee : List Values) → Option ℕ → Finding
after_preset assert guarantee (some p) = FaultIn Assert (first_false 1 assert p)
after_preset assert guarantee none = FaultIn Guarantee (first_false 1 guarantee 0)

-- 'If there is none', a line of PRESET
abbrev pub or_else : ℕ → Finding → Finding
or_else zero other = other
or_else (suc k) other = FaultIn Preset (suc k)

-- 'The line is the first PRESET line false at position 0. If there is none, ..'; 'Lines count from 1 in their section': the rows of each section's lines over n
-- positions
unfoldable pub line_named : Bool → (Part → List Values) → ℕ → Finding
line_named strict rows n =
    or_else (first_false 1 (rows Preset) 0)
    (after_preset (rows Assert) (rows Guarantee) (broken_from strict (all_true (rows Require)) (all_true (rows Assert)) 0 n))
