-- `written_lines` meets its contract: before each entry the lines before it are written.
use Rattle.operands.specs.Working.{source}
use Rattle.lines.specs.Gathering.{buffers, Lengths, Walking}
use Rattle.lines.proofs.written_lines.Given as goal

abbrev pub invariant-loop-i : goal.invariant-loop-i
invariant-loop-i l =
    Lengths (buffers l.initial.memory l.initial.table l.initial.lines) (buffers l.memory l.table l.lines)
    × Walking (source l.source.text.now l.source.work.now l.source.refs.now) (buffers l.initial.memory l.initial.table l.initial.lines) (buffers l.memory l.table l.lines) l.e l.entries l.start l.heading l.i
