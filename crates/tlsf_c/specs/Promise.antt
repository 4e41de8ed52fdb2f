-- What an exported function promises: the word packs an answer, and the answer has the promise of the library's own function.
use Rattle.std.specs.Prelude.{ℕ, List, ◌≡◌}
use Rattle.node.specs.Answer.{Answer, says}
use Rattle.node.specs.Returned.{Returned}
use Rattle.node.specs.Result.{Result, Done, Refused, Counts}
use Rattle.evaluator.specs.Promise.{Evaluates}
use Rattle.lookahead.specs.Reaching.{looks, valued}
use Rattle.lookahead.specs.Promise.{Reaches}
use Rattle.lookahead.specs.declared.Reach.{Reach}
use Rattle.basic.specs.Answer.{tells}
use Rattle.diagnosis.specs.Promise.{valued as line_of}
use Rattle.diagnosis.specs.declared.Diagnosis.{Diagnosis}
use Rattle.tlsf_c.specs.Packed.{packed}

pub record Packs (word : ℕ) (Promise : Answer → Type 0) : Type 0 where
  pub answer : Answer
  pub packs : word ≡ packed (says answer)
  pub promise : Promise answer

-- the evaluator's promise, of an answer
abbrev pub EvaluatesTo : List ℕ → ℕ → List ℕ → List ℕ → List ℕ → Answer → Type 0
EvaluatesTo nodes signals recording rows rows' answer = Evaluates answer nodes signals recording rows rows'

-- the promise of a reach, of the answer that has its values
pub record ReachesTo (nodes : List ℕ) (answer : Answer) : Type 0 where
  pub reach : Returned Reach
  pub values : says answer ≡ valued (looks reach)
  pub promise : Reaches reach nodes

-- a count of bytes in the place of nodes
abbrev pub counted : Result ℕ → Result Counts
counted (Done n) = Done (record { nodes = n; signals = 0 })
counted (Refused number place) = Refused number place

-- the writer's, which tells bytes
pub record PacksBytes (word : ℕ) (Promise : Returned ℕ → Type 0) : Type 0 where
  pub answer : Returned ℕ
  pub packs : word ≡ packed (counted (tells answer))
  pub promise : Promise answer

-- a section and a line in the place of nodes and signals
abbrev pub paired : Result (ℕ × ℕ) → Result Counts
paired (Done p) = Done (record { nodes = p.0; signals = p.1 })
paired (Refused number place) = Refused number place

-- the diagnosis', which tells a line
pub record PacksLine (word : ℕ) (Promise : Returned Diagnosis → Type 0) : Type 0 where
  pub answer : Returned Diagnosis
  pub packs : word ≡ packed (paired (line_of answer))
  pub promise : Promise answer
