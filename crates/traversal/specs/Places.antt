-- Places as the code has them.
use Rattle.std.specs.Prelude as std
use Rattle.std.specs.Prelude.{ℕ, Some, None}
use Rattle.std.proofs.Math.Option.{Option, none, some}

-- a place in the text, or none, as the code's functions answer it
abbrev pub Place : Type 0
Place = std.Option ℕ

-- the code's answer for a place
unfoldable pub placed : Option ℕ → Place
placed none = None
placed (some p) = Some p

-- the place of an answer
unfoldable pub place_in : Place → Option ℕ
place_in None = none
place_in (Some p) = some p
