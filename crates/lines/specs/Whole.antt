-- All lines of a text: the written ones, and behind them the implied ones of its inputs and of its outputs.
use Rattle.std.specs.Prelude.{ℕ, List}
use Rattle.node.specs.Returned.{Returned}
use Rattle.assembly.specs.declared.implied.Ends.{Ends}
use Rattle.language.specs.Tree.{Spec}
use Rattle.language.specs.DeclaredNames.{Declarations}
use Rattle.language.specs.Numbering.{in_order}
use Rattle.language.specs.Lines.{lines}
use Rattle.operands.specs.Working.{Source}
use Rattle.assembly.specs.Gathered.{GatheredFrom, lines_in_turn}
use Rattle.assembly.specs.Implied.{Buses}
use Rattle.assembly.specs.declared.implied.Ports.{Ports}
use Rattle.lines.specs.Gathering.{Buffers, Begins, Answered}
use Rattle.lines.specs.declared.Plan.{Plan}

-- the start, with the ports: those before position `ins` are the inputs
pub record Given (s : Source) (b : Buffers) (a : Ports) (plan : Plan) (x : Spec) (d : Declarations) : Type 0 where
  pub begins : Begins s b plan.entries plan.start x d
  pub inputs : Buses s.text s.work a (in_order d) plan.start 0 plan.ins d.inputs
  pub outputs : Buses s.text s.work a (in_order d) plan.start plan.ins plan.count d.outputs

pub record SomeGiven (s : Source) (b : Buffers) (a : Ports) (plan : Plan) : Type 0 where
  pub x : Spec
  pub d : Declarations
  pub given : Given s b a plan x d

-- of whatever text the entries are, the formulas of all its lines are gathered, in the order of its sections
pub record Gathers (s : Source) (b : Buffers) (table' words' : List ℕ) (a : Ports) (plan : Plan) (r : Returned Ends) : Type 0 where
  pub says : {x : Spec} {d : Declarations} → Given s b a plan x d → Answered (λ n m all. GatheredFrom plan.start all words' n table' m) r (lines_in_turn x d (lines x d))
