-- 15 and 16, which come behind all lines.
use Rattle.std.specs.Prelude.{ℕ, List, leb}
use Rattle.node.specs.Limits.{max_nodes}
use Rattle.node.specs.Ltl.{Formula}
use Rattle.node.specs.Result.{Result, Done, ◌>>=◌, guard}
use Rattle.node.specs.Written.{count}
use Rattle.language.specs.Tree.{Spec}
use Rattle.language.specs.Places.{refuse_at}
use Rattle.language.specs.DeclaredNames.{Declarations}
use Rattle.language.specs.Numbering.{in_order, signal_list, too_many_signals}
use Rattle.language.specs.Shifting.{adapted}
use Rattle.language.specs.Reading.{NumberedFormula}

-- 16
abbrev pub fitted : Formula → List ℕ → Result NumberedFormula
fitted f list = guard (leb (count f) max_nodes) 16 0 (Done (record { formula = f; signals = list }))

-- 15 before it
abbrev pub ended : Spec → Declarations → Formula → Result NumberedFormula
ended x d f =
    let list = signal_list (in_order d) in
    refuse_at 15 (too_many_signals 0 (in_order d)) (fitted (adapted x.semantics x.target list f) list)
