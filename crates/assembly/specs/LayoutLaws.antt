-- The parts put together are the whole formula.
use Rattle.std.specs.Prelude.{ℕ, Bool, true, false, List}
use Rattle.node.specs.Ltl.{And, Implies, Formula, Two}
use Rattle.language.specs.Tree.{Part, Initially}
use Rattle.language.specs.Expansion.{whole}
use Rattle.writing.specs.Writing.{Wrote}
use Rattle.assembly.specs.Layout.{preset, assumed, promised}

-- the layout put together
pub assembled : (strict : Bool) (f : Part → Formula) {out out' : List ℕ} {r : ℕ}
    → Wrote (Two Implies (f Initially) (Two And (preset strict f) (Two Implies (assumed f) (promised strict f)))) out out' 0 r
    → Wrote (whole strict f) out out' 0 r
assembled false f w = w
assembled true f w = w
