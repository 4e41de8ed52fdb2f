-- The reader's whole answer: 17, or the answer on the text with the work buffer cleared behind it.
use Rattle.std.specs.Prelude.{ℕ, List, ◌≡◌, length}
use Rattle.node.specs.Result.{◌>>=◌}
use Rattle.node.specs.Answer.{Answer}
use Rattle.words.specs.Words.{past}
use Rattle.language.specs.Limits.{work_bytes}
use Rattle.language.specs.Reading.{text_expansion, delivered}
use Rattle.ending.specs.Hands.{Hands}

-- the answer on a text, from the work buffer `work` to `used`: of it the bytes beyond the first 65,536 are as before
pub record Answers (text work nodes signals used nodes' signals' : List ℕ) (r : Answer) : Type 0 where
  pub hands : Hands (text_expansion text >>= delivered (length nodes) (length signals)) nodes signals nodes' signals' r
  pub size : length used ≡ length work
  pub beyond : past work_bytes used ≡ past work_bytes work
