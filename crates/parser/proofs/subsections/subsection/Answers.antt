-- `subsection` meets its contract: its heading's entry, then declarations or formulas.
use Rattle.parser.proofs.Laws.Passing.{next_of_lem}
use Rattle.parser.proofs.Laws.SubsectionReads.{heading-writes, block-ready, declarations-read, formulas-read}
use Rattle.parser.proofs.subsections.subsection.Goals as goal

pub emit-d-requires : goal.emit-d-requires
emit-d-requires c =
    heading-writes c.requires.0.ready c.requires.1 (next_of_lem c.next.ensures) _ c.requires.2

pub block-requires : goal.block-requires
block-requires c =
    record {
      tokens = c.requires.0.tokens;
      ready = block-ready
          c.requires.0.ready c.requires.1
          (next_of_lem c.next.ensures) _ c.requires.2
          c.emit-d.ensures.0 c.emit-d.ensures.1;
    }

pub returns-then-n-lt-FIRST_FORMULAS : goal.returns-then-n-lt-FIRST_FORMULAS
returns-then-n-lt-FIRST_FORMULAS c =
    λ h code ts ready. declarations-read ready c.requires.1 (next_of_lem c.next.ensures) _ c.requires.2 c.emit-d.ensures.0 c.emit-d.ensures.1 h code c.if-n-lt-FIRST_FORMULAS.true
    (c.block.ensures ts (block-ready ready c.requires.1 (next_of_lem c.next.ensures) _ c.requires.2 c.emit-d.ensures.0 c.emit-d.ensures.1))

pub block-requires-2 : goal.block-requires-2
block-requires-2 c =
    record {
      tokens = c.requires.0.tokens;
      ready = block-ready
          c.requires.0.ready c.requires.1
          (next_of_lem c.next.ensures) _ c.requires.2
          c.emit-d.ensures.0 c.emit-d.ensures.1;
    }

pub returns : goal.returns
returns c =
    λ h code ts ready. formulas-read ready c.requires.1 (next_of_lem c.next.ensures) _ c.requires.2 c.emit-d.ensures.0 c.emit-d.ensures.1 h code c.if-n-lt-FIRST_FORMULAS.false
    (c.block-2.ensures ts (block-ready ready c.requires.1 (next_of_lem c.next.ensures) _ c.requires.2 c.emit-d.ensures.0 c.emit-d.ensures.1))
