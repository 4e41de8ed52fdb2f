-- The walk goes on, whatever the tree.
use Rattle.std.specs.Prelude.{ℕ, List, ◌≡◌}
use Rattle.std.proofs.Common.{sym}
use Rattle.language.specs.Names.{Names}
use Rattle.names.specs.Walkable.{Walkable}
use Rattle.names.specs.Walking.{Walking}

-- the same entry by another number
pub walking_at : {w ids seen table stack refs : List ℕ} {entries k d depth p q : ℕ} {h : Walkable w ids entries} {declared : Names} → Walking h declared k seen table stack refs depth p q → k ≡ d
    → Walking h declared d seen table stack refs depth p q
walking_at s e = rw (sym e) s
