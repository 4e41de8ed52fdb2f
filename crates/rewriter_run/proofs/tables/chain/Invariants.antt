-- The nodes below number i are those of the chain.
use Rattle.std.proofs.Common.{◌≡◌, length}
use Rattle.rewriter_run.specs.Chain.{ChainTo}
use Rattle.rewriter_run.proofs.tables.chain.Given as goal

abbrev pub invariant-loop-i : goal.invariant-loop-i
invariant-loop-i l = (length l.nodes ≡ length l.fn.nodes) × ChainTo l.kind l.shared l.nodes l.i
