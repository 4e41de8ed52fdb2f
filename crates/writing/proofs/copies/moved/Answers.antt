-- `moved` meets its contract: neither the difference nor the sum leaves the word.
use native.Mathlib.Omega.{arith}
use Rattle.writing.proofs.Weights.{in_word, moved-is}
use Rattle.writing.proofs.copies.moved.Goals as goal

pub overflow_mul-result : goal.overflow_mul-result
overflow_mul-result c = let h = in_word c.args.word _ _ c.args.from c.kind.ensures c.weight-w.ensures (omega arith) (omega arith) in omega arith

pub overflow_sub-result : goal.overflow_sub-result
overflow_sub-result c = (in_word c.args.word _ _ c.args.from c.kind.ensures c.weight-w.ensures (omega arith) (omega arith)).0

pub overflow_mul-result-2 : goal.overflow_mul-result-2
overflow_mul-result-2 c = let h = in_word c.args.word _ _ c.args.to c.kind.ensures c.weight-w.ensures (omega arith) (omega arith) in omega arith

pub overflow_add-result : goal.overflow_add-result
overflow_add-result c = let h = in_word c.args.word _ _ c.args.to c.kind.ensures c.weight-w.ensures (omega arith) (omega arith) in omega arith

pub returns : goal.returns
returns c =
    moved-is c.args.word _ _ c.args.from c.args.to c.kind.ensures c.weight-w.ensures
