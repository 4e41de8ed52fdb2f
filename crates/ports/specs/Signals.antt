-- What the listing of signals returns: how many there are, or the place of the declared name with which they pass 255.
use Rattle.std.specs.Prelude.{ℕ, Result}
use Rattle.ports.specs.declared.TooMany.{TooMany}

abbrev pub Signals : Type 0
Signals = Result ℕ TooMany

abbrev pub too_many : ℕ → TooMany
too_many p = record { place = p }
