-- A formula written into an array that holds nothing yet: then it holds the formula's own nodes, each distinct subformula once, the formula the last; and there is no
-- room only where these are more than 8,192.
use Rattle.std.specs.Prelude.{ℕ, ◌<◌, ◌≤◌, ◌≡◌, length}
use mathlib.Core.List.{List, []}
use Rattle.std.proofs.Common.{arith}
use Rattle.node.specs.Limits.{max_nodes}
use Rattle.node.specs.Ltl.{Formula}
use Rattle.sharing.specs.Sharing.{distinct_nodes, distinct_count}
use Rattle.sharing.proofs.LastLaws.{last-number}
use Rattle.sharing.proofs.DistinctLaws.{length_of}
use Rattle.shared_table.specs.Shared.{Shares}
use Rattle.shared_table.specs.SharedLaws.{shares_few}
use Rattle.shared_writing.specs.Writing.{table_words, Wrote}
use Rattle.shared_writing.specs.WritingLaws.{wrote_many}

module _ {f : Formula} {out out' : List ℕ} {at r : ℕ} (w : Wrote f out out' at r) (e : Shares out []) where
  pub own-nodes : r ≤ max_nodes → Shares out' (distinct_nodes f)
  unfolding distinct_nodes
  own-nodes h = (w.held h [] e).shares

  pub own-count : r ≤ max_nodes → r ≡ distinct_count f
  own-count h =
      let few = shares_few (own-nodes h) in
      let l = length_of f in
      let last = last-number f (w.signals h) (omega arith) in
      let m = (w.held h [] e).number in
      omega arith

  pub own_many : length out ≡ table_words → max_nodes < r → at ≤ max_nodes → max_nodes < distinct_count f
  unfolding distinct_nodes distinct_count
  own_many l h k = wrote_many l w h k [] e
