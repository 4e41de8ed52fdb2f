-- `frame` meets its contract: seven words are written, one after the other.
use Rattle.machine.specs.MemoryLaws.{framed_seven}
use Rattle.machine.proofs.frame.Goals as goal

pub returns : goal.returns
returns c =
    framed_seven _ _ _ c.requires.frame_words_in_bounds
