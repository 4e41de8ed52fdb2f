-- How many nodes the rewriter is lent: none where the signal list does not fit, so that 18 stands for either result buffer and comes after 21 and 16.
use Rattle.std.specs.Prelude.{ℕ, ◌≤◌, ◌≡◌, cond, leb}
use Rattle.node.specs.Result.{Result, Done, ◌>>=◌, Counts}

abbrev pub room : (nodes signals listed : ℕ) → ℕ
room nodes signals listed = cond (leb listed signals) nodes 0

pub record Lends (nodes signals listed n : ℕ) : Type 0 where
  pub is : n ≡ room nodes signals listed
  pub inside : n ≤ nodes

-- the rewriter's answer with the text's signals in place of none
abbrev pub with_signals : ℕ → Result Counts → Result Counts
with_signals s r = r >>= λ k. Done (record { nodes = k.nodes; signals = s })
