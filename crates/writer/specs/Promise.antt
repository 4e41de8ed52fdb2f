-- What `write_basic` promises: the answer and the buffers that the definition gives; and so, of the bytes that stand in the lent buffer, that they read back.
use Rattle.std.specs.Prelude.{ℕ, ◌≡◌, List, length, take}
use Rattle.node.specs.Result.{Done}
use Rattle.node.specs.Returned.{Returned}
use Rattle.language.specs.Reading.{work_after}
use Rattle.basic.specs.Answer.{tells}
use Rattle.basic.specs.Writing.{writing, bytes_told, text_after}
use Rattle.basic.specs.Statements.{Kept, ReadsBack}

pub record Writes (text work out work' out' : List ℕ) (r : Returned ℕ) : Type 0 where
  pub answer : tells r ≡ bytes_told (writing text (length work) (length out))
  pub text_left : out' ≡ text_after (writing text (length work) (length out)) out
  pub work_left : work' ≡ work_after work
  pub back : (s : List ℕ) → writing text (length work) (length out) ≡ Done s → (take (length s) out' ≡ s) × (Kept s → ReadsBack text s)
