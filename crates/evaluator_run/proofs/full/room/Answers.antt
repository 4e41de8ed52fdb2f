-- By the law on the length of a repeated element, which computes no list. Its arguments are written out so that none is sought.
use Rattle.std.proofs.Common.{◌≡◌, ℕ, length, replicate, sym}
use Rattle.std.proofs.lemmas.List.{length-replicate}
use Rattle.evaluator_run.proofs.full.room.Goals as goal

long : (n a : ℕ) → n ≡ length (replicate n a)
long n a = sym (length-replicate n a)

pub returns : goal.returns
returns c = long 2_097_152 255
