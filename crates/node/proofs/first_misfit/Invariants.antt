-- `first_misfit` meets its contract: the nodes before i fit, one from i on does not.
use mathlib.Core.Path.{◌≡◌}
use mathlib.Core.Bool.{false}
use lib.ListN.{drop}
use Rattle.node.specs.Table.{scanned}
use Rattle.node.specs.Formed.{all_fit, counted}
use Rattle.node.proofs.first_misfit.Given as goal

abbrev pub invariant-loop-i : goal.invariant-loop-i
invariant-loop-i l =
    (all_fit l.limit l.i (drop l.i l.nodes) ≡ false) × (scanned l.limit 0 l.nodes (counted l.limit l.nodes) ≡ scanned l.limit l.i (drop l.i l.nodes) (counted l.limit l.nodes))
