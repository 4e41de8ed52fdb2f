-- What `write_out` promises, of any table and list: the form's nodes and the list in front of the lent buffers, or neither.
use Rattle.std.specs.Prelude.{ℕ, ◌≡◌, List, ◌++◌, length, drop}
use Rattle.node.specs.Result.{Result, Done, Refused, Counts}
use Rattle.node.specs.Answer.{Answer, says}
use Rattle.rewriter.specs.Rewriting.{target, rewriting, leaves}
use Rattle.converter.specs.Room.{room}

-- the lent signals after the answer
abbrev pub list_left : Result Counts → List ℕ → List ℕ → List ℕ
list_left (Done counts) list signals = list ++ drop (length list) signals
list_left (Refused number place) list signals = signals

pub record WritesOut (number : ℕ) (table list nodes signals nodes' signals' : List ℕ) (r : Answer) : Type 0 where
  pub answer : says r ≡ rewriting number table (room (length nodes) (length signals) (length list))
  pub nodes_left : nodes' ≡ leaves (says r) (target number table) nodes
  pub signals_left : signals' ≡ list_left (says r) list signals
