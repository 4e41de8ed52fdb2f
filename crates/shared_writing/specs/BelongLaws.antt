-- Subformulas of one formula, written one after another: the table has no other nodes, so where there is no room for one of them the formula has more than 8,192.
use Rattle.std.specs.Prelude.{ℕ, ◌<◌, ◌≤◌, List, [], ◌≡◌, length}
use Rattle.std.proofs.Common.{subst, arith}
use Rattle.node.specs.Limits.{max_nodes, field_limit}
use Rattle.node.specs.Ltl.{Formula}
use Rattle.node.specs.Postorder.{SignalsBelow}
use Rattle.sharing.specs.Sharing.{write, distinct_count}
use Rattle.sharing.proofs.NameLaws.{Named, named_none, named-write}
use Rattle.sharing.proofs.WithinLaws.{Within, within_all}
use Rattle.sharing.proofs.CountLaws.{more-named}
use Rattle.shared_table.specs.Shared.{Shares, Shared}
use Rattle.shared_table.specs.SharedLaws.{shares_one}
use Rattle.shared_writing.specs.Writing.{table_words, Wrote}
use Rattle.shared_writing.specs.WritingLaws.{wrote_many}

-- each node of the array's table is a subformula of f
pub record Belongs (f : Formula) (out : List ℕ) : Type 0 where
  pub named : (t : List ℕ) → Shares out t → Named (Within f) t

pub belongs_none : (f : Formula) {out : List ℕ} → Shares out [] → Belongs f out
belongs_none f e = record { named = λ t q. subst (Named (Within f)) (shares_one e q) (named_none (Within f)) }

module _ (f : Formula) {g : Formula} {out out' : List ℕ} {at r : ℕ} (m : Within f g) (s : Shared out) (b : Belongs f out) (w : Wrote g out out' at r) where
  with_it : Named (Within f) (write s.table g).table
  with_it = named-write (Within f) s.table g (within_all f m) (b.named s.table s.shares)

  pub belongs_wrote : r ≤ max_nodes → Belongs f out'
  belongs_wrote h = record { named = λ u q. subst (Named (Within f)) (shares_one (w.held h s.table s.shares).shares q) with_it }

  pub belongs_many : SignalsBelow field_limit f → length out ≡ table_words → max_nodes < r → at ≤ max_nodes → max_nodes < distinct_count f
  belongs_many signals l h k =
      more-named f (write s.table g).table signals with_it max_nodes (omega arith) (wrote_many l w h k s.table s.shares)
