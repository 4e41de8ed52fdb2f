-- The answer by its cases, for whoever goes on with the tree.
use Rattle.std.specs.Prelude.{ℕ, List, ◌≡◌, Ok, Err}
use Rattle.std.proofs.Common.{subst}
use Rattle.node.specs.Result.{Done, Refused as RefusedAt}
use Rattle.node.specs.declared.Refusal.{Refusal}
use Rattle.node.specs.Returned.{Returned}
use Rattle.language.specs.Tree.{Spec}
use Rattle.language.specs.Parsing.{parsed}
use Rattle.parser.specs.declared.Facts.{Facts}
use Rattle.checked.specs.declared.Counts.{Counts}
use Rattle.checked.specs.declared.Checked.{Checked}
use Rattle.checked.specs.Checking.{Tree, Says, Checks}

module _ {text w v refs found : List ℕ} {r : Returned Checked} (h : Checks text w v refs found r) where
  pub accepted : {c : Checked} → r ≡ Ok c → Tree text v refs found c.counts c.facts
  accepted e = subst (Says text v refs found) e h.says

  pub refused : {d : Refusal} → r ≡ Err d → parsed text ≡ RefusedAt d.number d.place
  refused e = subst (Says text v refs found) e h.says

-- the tree is the text's
pub tree-parsed : {text v refs found : List ℕ} {c : Counts} {f : Facts} {x : Spec} (t : Tree text v refs found c f) → parsed text ≡ Done x → t.tree ≡ x
tree-parsed t e = let d = t.read in cc
