use native.Mathlib.Numerals.{add-one}
use native.Mathlib.Omega.{arith}
use Rattle.assembly.specs.ImpliedLaws.{next_port, going_untyped, going-ready, going-typed, going_all}
use Rattle.assembly.proofs.implied.implied.Goals as goal
use Rattle.assembly.proofs.implied.implied.Goals.{then-enumeration-lt-MAX_TOKENS, else-enumeration-lt-MAX_TOKENS}

pub bounds-ports-name : goal.bounds-ports-name
bounds-ports-name c =
    let ports = c.requires.ports in
    let n = next_port _ _ _ _ _ _ _ _ ports c.requires.some (c.loop-j.invariant ports c.requires.some c.requires.buses) (omega (arith, c.loop-j-test.true)) in
    omega (arith, c.from-name.ensures, n.bus.named)

pub imply-r-requires : goal.imply-r-requires
imply-r-requires c =
    let ports = c.requires.ports in
    let n = next_port _ _ _ _ _ _ _ _ ports c.requires.some (c.loop-j.invariant ports c.requires.some c.requires.buses) (omega (arith, c.loop-j-test.true)) in
    going-ready _ _ _ _ _ _ _ _ ports c.requires.some c.requires.room n c.from-enumeration.ensures c.from-name.ensures (omega arith) (omega arith)

pub loop-j-preserved : goal.loop-j-preserved
loop-j-preserved c =
    λ ps qs b.
    let n = next_port _ _ _ _ _ _ _ _ ps qs (c.loop-j.invariant ps qs b) (omega (arith, c.loop-j-test.true)) in
    rw add-one
    (elim c.if-enumeration-lt-MAX_TOKENS.branch [
      | then-enumeration-lt-MAX_TOKENS w ↦ rw (w.table-is, w.lines-is, w.r-is) (going-typed _ _ _ _ _ _ _ _ ps qs c.requires.room n c.from-enumeration.ensures w.from-name.ensures (omega arith) w.imply-r.ensures)
      | else-enumeration-lt-MAX_TOKENS w ↦ rw (w.table-is, w.lines-is, w.r-is) (going_untyped _ _ _ _ _ _ _ _ ps qs n c.from-enumeration.ensures (omega arith))
    ])

pub returns : goal.returns
returns c =
    λ ps qs b. going_all _ _ _ _ _ _ _ _ ps qs (c.loop-j.invariant ps qs b) (omega (arith, c.loop-j-test.false))
