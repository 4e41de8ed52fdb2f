-- `optional` meets its contract: no word, or a subsection behind it.
use Rattle.parser.proofs.Laws.Blocks.{optional-missing, optional-read}
use Rattle.parser.proofs.Laws.Passing.{next_of_lem, next_fits, inside, past-ready}
use mathlib.Core.Path.{sym, ◌∙◌}
use Rattle.parser.proofs.blocks.optional.Goals as goal

pub returns-then-number-word : goal.returns-then-number-word
returns-then-number-word c =
    λ s spells ts ready. optional-missing c.args.which ready s spells (λ e. c.if-number-word.true (c.number.ensures ∙ e))

pub next-requires : goal.next-requires
next-requires c =
    next_fits c.requires.0.ready (sym c.number.ensures ∙ c.if-number-word.false) c.requires.1

pub block-requires : goal.block-requires
block-requires c =
    record {
      tokens = c.requires.0.tokens;
      ready = past-ready c.requires.0.ready
          (next_of_lem c.next.ensures) (inside c.requires.0.ready
          (sym c.number.ensures ∙ c.if-number-word.false) c.requires.1);
    }

pub returns : goal.returns
returns c =
    λ s spells ts ready. optional-read c.args.which ready s spells (sym c.number.ensures ∙ c.if-number-word.false) c.requires.1 (next_of_lem c.next.ensures)
    (c.block.ensures ts (past-ready ready (next_of_lem c.next.ensures) (inside ready (sym c.number.ensures ∙ c.if-number-word.false) c.requires.1)))
