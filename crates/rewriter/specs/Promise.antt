-- What `rewrite` promises: the answer and the buffer that the definition gives; and so, where it accepts, demand 3 on the nodes left in the buffer.
use Rattle.std.specs.Prelude.{ℕ, ◌-◌, ◌≡◌, ◌↔◌, List, length, take, Ok}
use Rattle.node.specs.Ltl.{Word, Holds}
use Rattle.node.specs.Table.{root, NodeHolds}
use Rattle.node.specs.Answer.{Answer, says}
use Rattle.forms.specs.Forbidden.{forbidden}
use Rattle.rewriter.specs.Rewriting.{rewriting, rewritten}

pub record Rewrites (form : ℕ) (nodes out out' : List ℕ) (r : Answer) : Type 0 where
  -- accepted or refused as the definition says
  pub answer : says r ≡ rewriting form nodes (length out)
  -- the result buffer is the definition's
  pub buffer : out' ≡ rewritten form nodes out
  -- accepted: the last node written holds where the table's root does, at every position of every word
  pub meaning : (n s : ℕ) → r ≡ Ok (n, s) → (w : Word) (t : ℕ) → NodeHolds out' (n - 1) w t ↔ Holds (root nodes) w t
  -- accepted: none of the nodes written is one that the form forbids
  pub clean : (n s : ℕ) → r ≡ Ok (n, s) → forbidden form (take n out') ≡ 0
