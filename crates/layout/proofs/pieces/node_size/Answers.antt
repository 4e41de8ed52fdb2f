-- `node_size` meets its contract: the code's sum is the node's size.
use native.Mathlib.Omega.{arith}
use Rattle.layout.specs.NodeLaws.{kind-told, name-told, left-told, right-told, size-told}
use Rattle.layout.proofs.pieces.node_size.Goals as goal

pub piece_size-requires : goal.piece_size-requires
piece_size-requires c =
    (c.requires.0, (kind-told c.requires.1 c.kind-k.ensures c.first-first.ensures c.second-second.ensures, omega arith))

pub piece_size-requires-2 : goal.piece_size-requires-2
piece_size-requires-2 c =
    (c.requires.0, (kind-told c.requires.1 c.kind-k.ensures c.first-first.ensures c.second-second.ensures, omega arith))

pub piece_size-requires-3 : goal.piece_size-requires-3
piece_size-requires-3 c =
    (c.requires.0, (kind-told c.requires.1 c.kind-k.ensures c.first-first.ensures c.second-second.ensures, omega arith))

pub name_size-name-requires : goal.name_size-name-requires
name_size-name-requires c =
    name-told c.requires.1 c.kind-k.ensures c.first-first.ensures c.second-second.ensures

pub follows-requires : goal.follows-requires
follows-requires c =
    (c.requires.0, (kind-told c.requires.1 c.kind-k.ensures c.first-first.ensures c.second-second.ensures, omega arith))

pub operand_size-left-requires : goal.operand_size-left-requires
operand_size-left-requires c =
    left-told c.requires.1 c.kind-k.ensures c.first-first.ensures c.second-second.ensures c.follows.ensures

pub follows-requires-2 : goal.follows-requires-2
follows-requires-2 c =
    (c.requires.0, (kind-told c.requires.1 c.kind-k.ensures c.first-first.ensures c.second-second.ensures, omega arith))

pub operand_size-right-requires : goal.operand_size-right-requires
operand_size-right-requires c =
    right-told c.requires.1 c.kind-k.ensures c.first-first.ensures c.second-second.ensures c.follows-2.ensures

pub returns : goal.returns
returns c =
    let all = size-told c.requires.1 c.kind-k.ensures c.first-first.ensures c.second-second.ensures c.args.lens.now c.piece_size.ensures.0
    c.piece_size-2.ensures.0
    c.piece_size-3.ensures.0 c.name_size-name.ensures.0 c.follows.ensures c.operand_size-left.ensures.0 c.follows-2.ensures
    c.operand_size-right.ensures.0 in
    omega (arith, all)
