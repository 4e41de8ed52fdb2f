-- `definition` meets its contract: an enumeration after its word, or a name and its value.
use Rattle.parser.proofs.Laws.LineReads.{definition_enum, definition-valued}
use Rattle.parser.proofs.Laws.Passing.{next_of_lem, next_fits, inside, past-ready}
use mathlib.Core.Path.{sym, ◌∙◌}
use native.Mathlib.Omega.{arith}
use Rattle.parser.proofs.lines.definition.Goals as goal

pub next-requires : goal.next-requires
next-requires c =
    let z = c.requires in next_fits z.ready (sym c.number.ensures ∙ c.if-number-eq-ENUM.true) (omega arith)

pub enumeration-requires : goal.enumeration-requires
enumeration-requires c =
    let z = c.requires in
    record {
      tokens = z.tokens;
      ready = past-ready z.ready (next_of_lem c.next.ensures)
          (inside z.ready (sym c.number.ensures ∙ c.if-number-eq-ENUM.true) (omega arith));
    }

pub returns-then-number-eq-ENUM : goal.returns-then-number-eq-ENUM
returns-then-number-eq-ENUM c =
    λ ts ready. definition_enum ready (sym c.number.ensures ∙ c.if-number-eq-ENUM.true) (next_of_lem c.next.ensures) (c.enumeration.ensures ts (past-ready ready (next_of_lem
    c.next.ensures) (inside ready (sym c.number.ensures ∙ c.if-number-eq-ENUM.true) (omega arith))))

pub returns : goal.returns
returns c =
    λ ts ready. definition-valued ready (λ e. c.if-number-eq-ENUM.false (c.number.ensures ∙ e)) (c.valued.ensures ts ready)
