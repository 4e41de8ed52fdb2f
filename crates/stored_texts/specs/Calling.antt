-- What the programs' calls promise: what the reader or the converter promises of the fronts of the buffers, and the rest of them as it was.
use Rattle.std.specs.Prelude.{ℕ, min, List, ◌++◌, ◌≡◌, length, take, drop}
use Rattle.node.specs.Answer.{Answer}
use Rattle.claim.specs.Reads.{Reads}
use Rattle.claim.specs.Converts.{Converts}
use Rattle.stored_texts.specs.declared.calls.Call.{Call}
use Rattle.stored_texts.specs.declared.calls.Room.{Room}

abbrev pub Says : Call → (text work nodes signals work' nodes' signals' : List ℕ) → Answer → Type 0
Says Call.Read text work nodes signals work' nodes' signals' r = Reads text work nodes signals work' nodes' signals' r
Says (Call.Convert form) text work nodes signals work' nodes' signals' r = Converts text form work nodes signals work' nodes' signals' r

pub record Calls (how : Call) (text work nodes signals work' nodes' signals' : List ℕ) (r : Answer) : Type 0 where
  pub says : Says how text work nodes signals work' nodes' signals' r

-- so many of a buffer's entries, or all
abbrev pub lent : ℕ → List ℕ → List ℕ
lent n l = take (min n (length l)) l

abbrev pub kept : ℕ → List ℕ → List ℕ
kept n l = drop (min n (length l)) l

pub record CallsWith (room : Room) (how : Call) (text work nodes signals work' nodes' signals' : List ℕ) (r : Answer) : Type 0 where
  pub work_front : List ℕ
  pub nodes_front : List ℕ
  pub signals_front : List ℕ
  pub called : Calls how text (lent room.work work) (lent room.nodes nodes) (lent room.signals signals) work_front nodes_front signals_front r
  pub work_left : work' ≡ work_front ++ kept room.work work
  pub nodes_left : nodes' ≡ nodes_front ++ kept room.nodes nodes
  pub signals_left : signals' ≡ signals_front ++ kept room.signals signals
