-- What the stages promise together: refusals 1 to 10 of a text, or its checked tree in the work buffer with what each of its names refers to.
use Rattle.std.specs.Prelude.{ℕ, List, ◌≡◌, Ok, Err, length}
use Rattle.node.specs.Result.{Done, Refused as RefusedAt}
use Rattle.node.specs.Returned.{Returned}
use Rattle.words.specs.Words.{past}
use Rattle.language.specs.Limits.{work_bytes}
use Rattle.language.specs.Tree.{Spec}
use Rattle.language.specs.Parsing.{well_formed, parsed}
use Rattle.parser.specs.declared.Facts.{Facts}
use Rattle.parser.specs.Outlines.{facts_of}
use Rattle.names.specs.Resolved.{Stored, Resolved}
use Rattle.checked.specs.declared.Counts.{Counts}
use Rattle.checked.specs.declared.Checked.{Checked}

-- refusals 5 to 10 of a tree, or what its names refer to
abbrev pub Finds : Spec → List ℕ → List ℕ → Returned ℕ → Type 0
Finds x refs found (Ok n) = (well_formed x ≡ Done x) × Resolved x refs found n
Finds x refs found (Err r) = well_formed x ≡ RefusedAt r.number r.place

pub record Forms (x : Spec) (refs found : List ℕ) (r : Returned ℕ) : Type 0 where
  pub says : Finds x refs found r

-- an accepted text's tree: it stands in the buffer v, its names are resolved, the facts are its INFO's
pub record Tree (text v refs found : List ℕ) (c : Counts) (f : Facts) : Type 0 where
  pub tree : Spec
  pub read : parsed text ≡ Done tree
  pub stored : Stored text v c.tokens c.entries tree
  pub resolved : Resolved tree refs found c.names
  pub facts : f ≡ facts_of tree

abbrev pub Says : List ℕ → List ℕ → List ℕ → List ℕ → Returned Checked → Type 0
Says text v refs found (Ok c) = Tree text v refs found c.counts c.facts
Says text v refs found (Err r) = parsed text ≡ RefusedAt r.number r.place

-- from the buffer w to the buffer v
pub record Checks (text w v refs found : List ℕ) (r : Returned Checked) : Type 0 where
  pub says : Says text v refs found r
  pub size : length v ≡ length w
  pub beyond : past work_bytes v ≡ past work_bytes w
