-- `ending` meets its contract: a subsection is missing, or `}` is expected.
use Rattle.parser.proofs.Laws.SubsectionReads.{marked_none, marked_some, left_false, right_false, ending-refused, ending-closed}
use Rattle.parser.specs.Headings.{marked}
use mathlib.Core.Bool.{◌&&◌}
use mathlib.Core.Path.{ap₂}
use Rattle.parser.proofs.subsections.ending.Goals as goal

pub returns-then-inputs-eq0 : goal.returns-then-inputs-eq0
returns-then-inputs-eq0 c =
    λ ts ready. ending-refused ready (left_false (marked c.args.outputs) (marked_none _ c.if-inputs-eq0.true)) c.refuse.ensures

pub returns-then-outputs-eq0 : goal.returns-then-outputs-eq0
returns-then-outputs-eq0 c =
    λ ts ready. ending-refused ready (right_false (marked c.args.inputs) (marked_none _ c.if-outputs-eq0.true)) c.refuse-then-outputs-eq0.ensures

pub returns : goal.returns
returns c =
    λ ts ready. ending-closed ready (ap₂ ◌&&◌ (marked_some _ c.if-inputs-eq0.false) (marked_some _ c.if-outputs-eq0.false)) c.expect.ensures
