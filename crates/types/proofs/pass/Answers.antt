-- One entry: an expression's part is pushed in place of its operands, a line takes them away.
use native.Mathlib.Omega.{arith}
use Rattle.types.specs.ProgressLaws.{passes-part, passes_line}
use Rattle.types.proofs.pass.Goals as goal

pub define-requires : goal.define-requires
define-requires c =
    c.requires.0.table

pub offset_bounds-types-below : goal.offset_bounds-types-below
offset_bounds-types-below c =
    omega (arith, c.saturating_sub-below.ensures, c.requires.0.few, c.requires.1)

pub bounds-types-below : goal.bounds-types-below
bounds-types-below c =
    omega (arith, c.saturating_sub-below.ensures, c.requires.0.few, c.requires.1, c.requires.0.types)

pub offset_bounds-starts-below : goal.offset_bounds-starts-below
offset_bounds-starts-below c =
    omega (arith, c.saturating_sub-below.ensures, c.requires.0.few, c.requires.1)

pub bounds-starts-below : goal.bounds-starts-below
bounds-starts-below c =
    omega (arith, c.saturating_sub-below.ensures, c.requires.0.few, c.requires.1, c.requires.0.starts)

pub overflow_add-result : goal.overflow_add-result
overflow_add-result c =
    omega (arith, c.saturating_sub-below.ensures, c.requires.0.few, c.requires.1)

pub returns-then-kind-lt-LINES : goal.returns-then-kind-lt-LINES
returns-then-kind-lt-LINES c =
    passes-part c.requires.0 c.requires.1 c.named_cell-c.ensures.0 c.operand_count.ensures c.saturating_sub-below.ensures c.type_at-name.ensures
    c.place_of-place.ensures c.first_of-operand.ensures c.first_of-start.ensures c.indexed-unbound.ensures c.wrong_at.ensures
    c.first-wrong.ensures c.first-found.ensures c.define.ensures c.if-kind-lt-LINES.true c.gives_of.ensures c.start_of.ensures

pub returns : goal.returns
returns c =
    passes_line c.requires.0 c.requires.1 c.named_cell-c.ensures.0 c.operand_count.ensures c.saturating_sub-below.ensures c.type_at-name.ensures
    c.place_of-place.ensures c.first_of-operand.ensures c.first_of-start.ensures c.indexed-unbound.ensures c.wrong_at.ensures
    c.first-wrong.ensures c.first-found.ensures c.define.ensures c.if-kind-lt-LINES.false
