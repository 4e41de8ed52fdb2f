-- The reach of a table's root, and the whole answer: document 02, F-3. Laws in ReachingLaws.
use Rattle.std.specs.Prelude.{ℕ, List, Ok, Err}
use Rattle.node.specs.Limits.{field_limit}
use Rattle.node.specs.Result.{Result, Done, ◌>>=◌, Counts}
use Rattle.node.specs.Returned.{Returned}
use Rattle.node.specs.Table.{root, checked}
use Rattle.lookahead.specs.Span.{Span, Silent, Ahead, Endless, span}
use Rattle.lookahead.specs.declared.Reach.{Reach}

-- what is reported: a number of letters, or 'unbounded'
pub data Distance : Type 0 where
  Letters : ℕ → Distance
  Unbounded : Distance

-- '0 for a node with no signal below it'
abbrev pub reported : Span → Distance
reported Silent = Letters 0
reported (Ahead n) = Letters n
reported Endless = Unbounded

-- 'Report the reach of a node table's root', 'Errors: 19 as before'
unfoldable pub reaching : List ℕ → Result Distance
reaching nodes = checked field_limit nodes >>= λ _. Done (reported (span (root nodes)))

-- what is answered: a `Reach`, or a refusal
abbrev pub looks : Returned Reach → Result Distance
looks (Ok (Reach.Letters n)) = Done (Letters n)
looks (Ok Reach.Unbounded) = Done Unbounded
looks (Err r) = Result.Refused r.number r.place

-- its values in an accepted answer: a bounded reach n is (n, 0), unbounded (0, 1)
abbrev pub valued : Result Distance → Result Counts
valued (Done (Letters n)) = Done (record { nodes = n; signals = 0 })
valued (Done Unbounded) = Done (record { nodes = 0; signals = 1 })
valued (Result.Refused number place) = Result.Refused number place
