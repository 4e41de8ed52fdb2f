-- A buffer with its first bytes cleared. Laws in ClearingLaws.
use Rattle.std.specs.Prelude.{ℕ, zero, suc, List, [], ◌∷◌}

-- w with its first n bytes 0
unfoldable pub cleared : ℕ → List ℕ → List ℕ
cleared zero w = w
cleared (suc n) [] = []
cleared (suc n) (b ∷ w) = 0 ∷ cleared n w
