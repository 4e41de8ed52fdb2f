-- The lines so far are those of the nodes so far.
use Rattle.std.specs.Io.KnownBytes.{Appends}
use Rattle.listing.specs.Lines.{node_lines}
use Rattle.listing.proofs.nodes.Given as goal

abbrev pub invariant-loop-i : goal.invariant-loop-i
invariant-loop-i g l = Appends (g.W.Write.contents l.initial.to) (g.W.Write.contents l.to) (node_lines l.i l.nodes)
