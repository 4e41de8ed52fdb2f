-- `line` meets its contract: each kind of line by its own function, behind the token before it.
use Rattle.language.specs.Grammar.{rest}
use Rattle.language.specs.Sections.{parameter_of, definition_of, declaration_of}
use Rattle.parser.proofs.Laws.Blocks.{line_as}
use Rattle.parser.proofs.Laws.Passing.{next_of_lem, past-ready, rest-past, reads-behind}
use Rattle.parser.specs.declared.Line.TheVariants.{Parameters, Definitions, Declarations, Formulas}
use lib.ListN.{drop}
use mathlib.Core.Path.{ap}
use native.Mathlib.Omega.{arith}
use Rattle.parser.proofs.lines.line.Goals as goal

pub valued-requires : goal.valued-requires
valued-requires c = (
  record {
    tokens = c.requires.0.tokens;
    ready = past-ready c.requires.0.ready
        (next_of_lem c.next.ensures) c.requires.1;
  },
  omega arith,
)

pub definition-requires : goal.definition-requires
definition-requires c =
    record {
      tokens = c.requires.0.tokens;
      ready = past-ready c.requires.0.ready
          (next_of_lem c.next-in-Definitions.ensures) c.requires.1;
    }

pub declaration-requires : goal.declaration-requires
declaration-requires c =
    record {
      tokens = c.requires.0.tokens;
      ready = past-ready c.requires.0.ready
          (next_of_lem c.next-in-Declarations.ensures) c.requires.1;
    }

pub returns-in-Parameters : goal.returns-in-Parameters
returns-in-Parameters c =
    λ ts ready. line_as (rest (drop c.args.c.at ts)) Parameters c.in-Parameters.is (reads-behind ready (next_of_lem c.next.ensures) c.requires.1 (ap parameter_of
    (rest-past ts (next_of_lem c.next.ensures))) (c.valued.ensures ts (past-ready ready (next_of_lem c.next.ensures) c.requires.1)))

pub returns-in-Definitions : goal.returns-in-Definitions
returns-in-Definitions c =
    λ ts ready. line_as (rest (drop c.args.c.at ts)) Definitions c.in-Definitions.is (reads-behind ready (next_of_lem c.next-in-Definitions.ensures) c.requires.1 (ap
    definition_of (rest-past ts (next_of_lem c.next-in-Definitions.ensures))) (c.definition.ensures ts (past-ready ready (next_of_lem c.next-in-Definitions.ensures) c.requires.1)))

pub returns-in-Declarations : goal.returns-in-Declarations
returns-in-Declarations c =
    λ ts ready. line_as (rest (drop c.args.c.at ts)) Declarations c.in-Declarations.is (reads-behind ready (next_of_lem c.next-in-Declarations.ensures) c.requires.1 (ap
    declaration_of (rest-past ts (next_of_lem c.next-in-Declarations.ensures))) (c.declaration.ensures ts (past-ready ready (next_of_lem c.next-in-Declarations.ensures) c.requires.1)))

pub returns-in-Formulas : goal.returns-in-Formulas
returns-in-Formulas c =
    λ ts ready. line_as (rest (drop c.args.c.at ts)) Formulas c.in-Formulas.is (c.formula.ensures ts ready)
