-- 16 and 18, and the handing over: the formula's nodes, converted or not, and the signal list in front of the lent buffers.
use Rattle.std.specs.Prelude.{ℕ, ◌≤◌, Bool, List, ◌≡◌, length}
use Rattle.node.specs.Limits.{max_nodes}
use Rattle.node.specs.Ltl.{Formula}
use Rattle.node.specs.Result.{◌>>=◌}
use Rattle.node.specs.Written.{count}
use Rattle.node.specs.Answer.{Answer}
use Rattle.language.specs.Limits.{max_signals}
use Rattle.language.specs.Expansion.{Sections, section, whole}
use Rattle.language.specs.Shifting.{shifted}
use Rattle.language.specs.Reading.{delivered}
use Rattle.writing.specs.Writing.{Wrote}
use Rattle.assembly.specs.Gathered.{in_turn, Gathered, SomeGathered}
use Rattle.shifting.specs.Passing.{late_by}
use Rattle.ending.specs.Endings.{fitted}
use Rattle.ending.specs.Hands.{Hands}

-- the lines are gathered in a whole table, and the list has signals as a text may have
pub record Assemblable (words : List ℕ) (count : ℕ) (table : List ℕ) (at : ℕ) (list : List ℕ) : Type 0 where
  pub gathered : SomeGathered words count table at
  pub few : length list ≤ max_signals

-- 16, 18, or a formula that was written to a table up to m and the list
pub record Delivers (whole : List ℕ) (m : ℕ) (list : List ℕ) (nodes signals nodes' signals' : List ℕ) (r : Answer) : Type 0 where
  pub delivers : {f : Formula} {before : List ℕ} → length before ≡ max_nodes → Wrote f before whole 0 m
      → Hands (fitted f list >>= delivered (length nodes) (length signals)) nodes signals nodes' signals' r

-- what is made of the formula, by the signal list: nothing; an X above each output, or above each input
abbrev pub as_expanded : List ℕ → Formula → Formula
as_expanded list f = f

abbrev pub as_shifted : Bool → List ℕ → Formula → Formula
as_shifted outputs list f = shifted (late_by outputs list) f

-- of whatever sections the lines are: what is made of their formula, with the list
pub record HandsOver (make : List ℕ → Formula → Formula) (strict : Bool) (words : List ℕ) (count : ℕ) (table : List ℕ) (at : ℕ) (list : List ℕ)
    (nodes signals nodes' signals' : List ℕ) (r : Answer) : Type 0 where
  pub hands : (ss : Sections) → Gathered (in_turn ss) words count table at
      → Hands (fitted (make list (whole strict (section ss))) list >>= delivered (length nodes) (length signals)) nodes signals nodes' signals' r
