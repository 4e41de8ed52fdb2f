-- What `reach_of` promises (document 02, F-3).
use Rattle.std.specs.Prelude.{ℕ, ◌≤◌, ◌≡◌, ◌↔◌, List}
use Rattle.node.specs.Ltl.{Word, Holds}
use Rattle.node.specs.Returned.{Returned}
use Rattle.node.specs.Result.{Done}
use Rattle.node.specs.Table.{root}
use Rattle.forms.specs.Forms.{form}
use Rattle.lookahead.specs.Span.{span}
use Rattle.lookahead.specs.declared.Reach.{Reach}
use Rattle.lookahead.specs.Reaching.{Distance, Letters, reported, reaching, looks}

-- what `reach_of` promises
pub record Reaches (r : Returned Reach) (nodes : List ℕ) : Type 0 where
  -- the reach, or the refusal, is the definition's
  pub answer : looks r ≡ reaching nodes
  -- 'Two words that agree on letters 0 to the reach give the same verdict, however they differ later'
  pub agrees : (n : ℕ) → looks r ≡ Done (Letters n) → (u v : Word) → ((t : ℕ) → t ≤ n → (k : ℕ) → u t k ≡ v t k)
      → Holds (root nodes) u 0 ↔ Holds (root nodes) v 0
  -- 'The reach is the same number in all three forms'
  pub forms : (d : Distance) → looks r ≡ Done d → (number : ℕ) → reported (span (form number (root nodes))) ≡ d
