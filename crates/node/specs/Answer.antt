-- What an entry point's answer says: 'Every answer is either accepted with its counts or a refusal, number and place' (document 01).
use Rattle.std.specs.Prelude.{ℕ, Ok, Err}
use Rattle.node.specs.Result.{Result, Done, Counts}
use Rattle.node.specs.Returned.{Returned}

abbrev pub Answer : Type 0
Answer = Returned (ℕ × ℕ)

abbrev pub says : Answer → Result Counts
says (Ok (n, s)) = Done (record { nodes = n; signals = s })
says (Err r) = Result.Refused r.number r.place
