-- `expand_checked_few` meets its contract: a little memory is enough for few entries, and one of some words for any.
use native.Mathlib.Omega.{arith}
use Rattle.reader.specs.Memories.{some_memory}
use Rattle.reader.specs.MemoriesLaws.{few_roomy, roomy}
use Rattle.reader.proofs.memories.expand_checked_few.Goals as goal

pub expand_checked_with-requires : goal.expand_checked_with-requires
expand_checked_with-requires c = record { some_parsed = c.requires; roomy = few_roomy (omega arith) }

pub expand_checked_with-requires-2 : goal.expand_checked_with-requires-2
expand_checked_with-requires-2 c = record { some_parsed = c.requires; roomy = roomy c.requires some_memory (omega arith) (omega arith) }
