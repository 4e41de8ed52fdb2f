-- What the writer's answer says: the count of bytes, or a refusal with its number and place.
use Rattle.std.specs.Prelude.{ℕ, Ok, Err}
use Rattle.node.specs.Result.{Result, Done}
use Rattle.node.specs.Returned.{Returned}

abbrev pub tells : Returned ℕ → Result ℕ
tells (Ok n) = Done n
tells (Err r) = Result.Refused r.number r.place
