-- `bits::indexed` meets its contract: a number has come; a definition's body is worked out next, any other name is looked up.
use native.Mathlib.Omega.{arith}
use mathlib.Core.Path.{refl}
use Rattle.atom_steps.specs.BitLaws.{indexed_scope, element-misfits, body-steps, reference-inside}
use Rattle.machine.specs.OperandLaws.{topped_to_write-entry}
use Rattle.machine.specs.MisfitLaws.{number-misfits, misfits-still}
use Rattle.atom_steps.proofs.bits.indexed.Goals as goal

pub returns-then-m-ne-NUMBER : goal.returns-then-m-ne-NUMBER
returns-then-m-ne-NUMBER c =
    let at-if1 = c.if-m-ne-NUMBER in
    misfits-still (number-misfits c.requires.waiting refl at-if1.true)

pub overflow_cast-j : goal.overflow_cast-j
overflow_cast-j c =
    let f = (topped_to_write-entry c.requires.topped_to_write).few in omega arith

pub offset_bounds-source-j : goal.offset_bounds-source-j
offset_bounds-source-j c =
    let f = (topped_to_write-entry c.requires.topped_to_write).few in omega arith

pub bounds-source-j : goal.bounds-source-j
bounds-source-j c =
    reference-inside c.requires.topped_to_write

pub returns-then-r-ge-MAX_NAMES : goal.returns-then-r-ge-MAX_NAMES
returns-then-r-ge-MAX_NAMES c =
    let at-if1 = c.if-m-ne-NUMBER in
    let at-if2 = c.if-r-ge-MAX_NAMES in
    element-misfits c.requires.waiting at-if1.false refl refl at-if2.true

pub bit_of_name-requires : goal.bit_of_name-requires
bit_of_name-requires c =
    let at-if1 = c.if-m-ne-NUMBER in
    let at-if2 = c.if-r-ge-MAX_NAMES in
    let at-if3 = c.if-memory-r in
    record {
      topped_to_write = c.requires.topped_to_write;
      points = record {
        waiting = c.requires.waiting;
        number = at-if1.false;
        entry = refl;
        reference = refl;
        declared = (let l = at-if2.false in omega arith);
        no_body = at-if3.true;
      };
    }

pub overflow_cast-m-2 : goal.overflow_cast-m-2
overflow_cast-m-2 c =
    let l = indexed_scope c.requires.waiting c.requires.topped_to_write in omega arith

pub returns : goal.returns
returns c =
    let at-if1 = c.if-m-ne-NUMBER in
    let at-if2 = c.if-r-ge-MAX_NAMES in
    let at-if3 = c.if-memory-r in
    let at-frame = c.frame in
    body-steps c.requires.waiting at-if1.false refl refl (let l = at-if2.false in omega arith) refl refl at-if3.false refl refl at-frame.ensures
