-- `ordering::next_of` meets its contract: it goes the ways through the definition.
use Rattle.ordering.specs.NextLaws.{kind_fits, number_fits, FieldsRead, first-inside, second-inside, next-none, next-first, next_one, next-second, next-two}
use Rattle.ordering.proofs.next_of.Goals as goal

-- the fields that were read
fields : (c : goal.Then-operands-eq0) → FieldsRead c.args.word c.kind-kind.result c.first-a.result c.second-b.result c.arity-operands.result
fields c =
    record {
      kind = c.kind-kind.ensures;
      first = c.first-a.ensures;
      second = c.second-b.ensures;
      arity = c.arity-operands.ensures;
    }

pub returns-then-operands-eq0 : goal.returns-then-operands-eq0
returns-then-operands-eq0 c = next-none (fields c) _ c.if-operands-eq0.true

fields-2 : (c : goal.After-way_told-1) → FieldsRead c.args.word c.kind-kind.result c.first-a.result c.second-b.result c.arity-operands.result
fields-2 c =
    record {
      kind = c.kind-kind.ensures;
      first = c.first-a.ensures;
      second = c.second-b.ensures;
      arity = c.arity-operands.ensures;
    }

pub bounds-memo-a : goal.bounds-memo-a
bounds-memo-a c = first-inside (fields-2 c) c.requires c.if-operands-eq0.false

fields-3 : (c : goal.Then-first-eq0) → FieldsRead c.args.word c.kind-kind.result c.first-a.result c.second-b.result c.arity-operands.result
fields-3 c =
    record {
      kind = c.kind-kind.ensures;
      first = c.first-a.ensures;
      second = c.second-b.ensures;
      arity = c.arity-operands.ensures;
    }

pub returns-then-first-eq0 : goal.returns-then-first-eq0
returns-then-first-eq0 c =
    next-first (fields-3 c) _ c.from-first.ensures c.if-operands-eq0.false c.if-first-eq0.true

pub unary-requires : goal.unary-requires
unary-requires c =
    (kind_fits c.ranges.word.fits c.kind-kind.ensures, number_fits _ c.requires c.from-first.ensures)

fields-4 : (c : goal.After-unary) → FieldsRead c.args.word c.kind-kind.result c.first-a.result c.second-b.result c.arity-operands.result
fields-4 c =
    record {
      kind = c.kind-kind.ensures;
      first = c.first-a.ensures;
      second = c.second-b.ensures;
      arity = c.arity-operands.ensures;
    }

pub returns-then-operands-eq1 : goal.returns-then-operands-eq1
returns-then-operands-eq1 c =
    next_one (fields-4 c) _ c.from-first.ensures c.if-operands-eq0.false c.if-first-eq0.false c.if-operands-eq1.true c.unary.ensures

fields-5 : (c : goal.Else-operands-eq1) → FieldsRead c.args.word c.kind-kind.result c.first-a.result c.second-b.result c.arity-operands.result
fields-5 c =
    record {
      kind = c.kind-kind.ensures;
      first = c.first-a.ensures;
      second = c.second-b.ensures;
      arity = c.arity-operands.ensures;
    }

pub bounds-memo-b : goal.bounds-memo-b
bounds-memo-b c =
    second-inside (fields-5 c) c.requires c.if-operands-eq0.false c.if-operands-eq1.false

fields-6 : (c : goal.Then-second-eq0) → FieldsRead c.args.word c.kind-kind.result c.first-a.result c.second-b.result c.arity-operands.result
fields-6 c =
    record {
      kind = c.kind-kind.ensures;
      first = c.first-a.ensures;
      second = c.second-b.ensures;
      arity = c.arity-operands.ensures;
    }

pub returns-then-second-eq0 : goal.returns-then-second-eq0
returns-then-second-eq0 c =
    next-second (fields-6 c) _ c.from-first.ensures c.if-operands-eq0.false c.if-first-eq0.false c.if-operands-eq1.false c.from-second.ensures c.if-second-eq0.true

pub binary-requires : goal.binary-requires
binary-requires c = (
  kind_fits c.ranges.word.fits c.kind-kind.ensures,
  (number_fits _ c.requires c.from-first.ensures, number_fits _ c.requires c.from-second.ensures),
)

fields-7 : (c : goal.After-binary) → FieldsRead c.args.word c.kind-kind.result c.first-a.result c.second-b.result c.arity-operands.result
fields-7 c =
    record {
      kind = c.kind-kind.ensures;
      first = c.first-a.ensures;
      second = c.second-b.ensures;
      arity = c.arity-operands.ensures;
    }

pub returns : goal.returns
returns c =
    next-two (fields-7 c) _ c.from-first.ensures c.if-operands-eq0.false c.if-first-eq0.false c.if-operands-eq1.false c.from-second.ensures
    c.if-second-eq0.false c.binary.ensures
