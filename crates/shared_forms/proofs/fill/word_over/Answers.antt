-- `fill::word_over` meets its contract: the fields are those of the kind.
use mathlib.Core.Path.{◌∙◌}
use native.Mathlib.Omega.{arith}
use Rattle.shared_forms.specs.WordLaws.{first_below, second_below, word-is}
use Rattle.shared_forms.proofs.fill.word_over.Goals as goal

pub overflow_cast-own : goal.overflow_cast-own
overflow_cast-own c = let l = c.requires.1.0 in record { fits = omega arith }

pub overflow_cast-m : goal.overflow_cast-m
overflow_cast-m c = let l = c.requires.1.1.0.1 in record { fits = omega arith }

pub overflow_cast-n : goal.overflow_cast-n
overflow_cast-n c =
    let l = c.requires.1.1.1.1 in
    record { fits = omega arith }

pub binary-node-requires : goal.binary-node-requires
binary-node-requires c =
    let a = c.args in
    let p = c.requires.1 in
    let k = c.requires.0 in (
      omega arith,
      (
        first_below a.kind a.own a.m a.n c.either-operand.ensures c.either-first.ensures c.has_two.ensures c.either-second.ensures p.0 p.1.0.1,
        second_below a.kind a.own a.m a.n c.either-operand.ensures c.either-first.ensures c.has_two.ensures c.either-second.ensures p.1.1.1,
      ),
    )

pub returns : goal.returns
returns c =
    let a = c.args in
    c.binary-node.ensures
    ∙ word-is a.kind a.own a.m a.n c.either-operand.ensures c.either-first.ensures c.has_two.ensures c.either-second.ensures
