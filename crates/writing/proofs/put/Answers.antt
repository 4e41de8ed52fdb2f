-- `put` meets its contract: an index past the last is told by one above it.
use Rattle.writing.specs.WritingLaws.{put_whole}
use native.Mathlib.Omega.{arith}
use Rattle.writing.proofs.put.Goals as goal

pub returns-then-at-gt-MAX_NODES : goal.returns-then-at-gt-MAX_NODES
returns-then-at-gt-MAX_NODES c = record { stored = λ h. absurd (omega arith); many = λ h. omega arith }

pub returns : goal.returns
returns c = put_whole _ c.told-out c.unwrap_or.ensures c.put.ensures
