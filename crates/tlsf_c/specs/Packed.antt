-- An answer in one 64-bit word, for callers in C and Rust: accepted = nodes * 2^32 + signals; refused = 2^63 + number * 2^32 + place.
use Rattle.std.specs.Prelude.{ℕ, ◌+◌, ◌^◌, ◌<◌}
use Rattle.node.specs.BitFields.{join}
use Rattle.node.specs.Result.{Result, Done, Refused, Counts}

abbrev pub packed : Result Counts → ℕ
packed (Done c) = join 32 c.nodes c.signals
packed (Refused number place) = 2 ^ 63 + join 32 number place

-- what fits such a word: the top bit tells the two apart
abbrev pub Fits : {A : Type 0} → Result A → Type 0
Fits (Done a) = Unit {0}
Fits (Refused number place) = number < 2 ^ 31
