-- `boolean` meets its contract: the values at one position are those of the row.
use mathlib.Core.Logic.{inl}
use native.Mathlib.Omega.{arith}
use Rattle.rows.specs.MemoryLaws.{written_as}
use Rattle.rows.specs.ReadyLaws.{boolean-placed, boolean-is}
use Rattle.rows.proofs.boolean.Goals as goal

pub paired-requires : goal.paired-requires
paired-requires c =
    inl c.requires.boolean

pub boolean_row-requires : goal.boolean_row-requires
boolean_row-requires c =
    rw c.paired.ensures record { placed = (boolean-placed c.requires.ready c.requires.boolean, c.requires.boolean); n_nonzero = (let l = c.requires.ready.recorded.loop in omega arith) }

pub returns : goal.returns
returns c =
    let paired = c.paired in
    let boolean-row = c.boolean_row in
    let w = c.args.lasso in
    written_as w.n c.args.base _ _ (rw paired.ensures at boolean-row.ensures)
    (λ p h. boolean-is c.args.recording.now c.args.rows.now w c.args.op c.requires.boolean p)
