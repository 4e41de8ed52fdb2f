-- `write_basic` keeps its promise where it gives the definition's answer and buffers: what is told stands in the lent buffer and reads back.
use Rattle.std.specs.Prelude.{ℕ, ◌≡◌, List, length}
use Rattle.language.specs.Reading.{work_after}
use Rattle.basic.specs.Answer.{tells}
use Rattle.basic.specs.Writing.{writing, bytes_told, text_after}
use Rattle.basic.proofs.WritingLaws.{stands-back}
use Rattle.node.specs.Returned.{Returned}
use Rattle.writer.specs.Promise.{Writes}

pub writes : {text work out work' out' : List ℕ} {r : Returned ℕ} → tells r ≡ bytes_told (writing text (length work) (length out)) → out' ≡ text_after (writing text (length work) (length out)) out
    → work' ≡ work_after work → Writes text work out work' out' r
writes {text} {work} {out} a t w = record { answer = a; text_left = t; work_left = w; back = λ s e. rw t (stands-back text out (length work) (length out) e) }
