-- What the reader tells of a text before it clears the work buffer.
use Rattle.std.specs.Prelude.{ℕ, List, ◌≡◌, Ok}
use Rattle.reader.specs.declared.Told.{Told}
use Rattle.reader.specs.Answers.{Answers}
use Rattle.reader.specs.Promise.{Informed, TextCounts}

-- the answer on a text, with what INFO says, and the counts of an accepted one
pub record Tells (text work nodes signals used nodes' signals' : List ℕ) (r : Told) : Type 0 where
  pub answers : Answers text work nodes signals used nodes' signals' r.answer
  pub facts : Informed text r.facts
  pub lines : (n s : ℕ) → r.answer ≡ Ok (n, s) → TextCounts text r.lines
