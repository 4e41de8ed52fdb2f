-- `expand_checked` meets its contract: each memory is enough for the entries of any text.
use native.Mathlib.Omega.{arith}
use Rattle.machine_run.specs.Running.{max_memory, apart_memory}
use Rattle.reader.specs.Memories.{some_memory}
use Rattle.reader.specs.MemoriesLaws.{roomy}
use Rattle.reader.proofs.memories.expand_checked.Goals as goal

pub expand_checked_with-requires : goal.expand_checked_with-requires
expand_checked_with-requires c = record { some_parsed = c.requires; roomy = roomy c.requires max_memory (omega arith) (omega arith) }

pub expand_checked_with-requires-then-weight-gt-SOME_DEFINITIONS : goal.expand_checked_with-requires-then-weight-gt-SOME_DEFINITIONS
expand_checked_with-requires-then-weight-gt-SOME_DEFINITIONS c = record { some_parsed = c.requires; roomy = roomy c.requires apart_memory (omega arith) (omega arith) }

pub expand_checked_with-requires-2 : goal.expand_checked_with-requires-2
expand_checked_with-requires-2 c = record { some_parsed = c.requires; roomy = roomy c.requires some_memory (omega arith) (omega arith) }
