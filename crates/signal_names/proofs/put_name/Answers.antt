-- `put_name` meets its contract: too long, a single signal's name, or a bus's name with the mark and the index.
use native.Mathlib.Omega.{arith}
use mathlib.Core.Path.{◌∙◌}
use lib.ListN.{length-set}
use Rattle.signal_names.specs.Runs.{puts_byte, puts_length, part_length}
use Rattle.signal_names.specs.NameLaws.{size-within, name-long, name-single, name-bit}
use Rattle.signal_names.proofs.put_name.Goals as goal

pub returns-then-size-gt-MAX_NAME : goal.returns-then-size-gt-MAX_NAME
returns-then-size-gt-MAX_NAME c =
    name-long c.args.text.now c.args.entry _ _ c.offset_of-offset.ensures c.name_size-size.ensures c.if-size-gt-MAX_NAME.true

pub put_bytes-mark-requires : goal.put_bytes-mark-requires
put_bytes-mark-requires c =
    let w = size-within c.args.text.now c.args.entry _ _ c.offset_of-offset.ensures c.name_size-size.ensures in
    (w, omega arith)

pub returns-then-width_of-eq0 : goal.returns-then-width_of-eq0
returns-then-width_of-eq0 c =
    name-single c.args.text.now c.args.entry _ _ c.offset_of-offset.ensures c.name_size-size.ensures c.width_of.ensures
    c.put_bytes-mark.ensures
    c.if-width_of-eq0.true (omega arith)

pub bounds-names-mark : goal.bounds-names-mark
bounds-names-mark c =
    let w = size-within c.args.text.now c.args.entry _ _ c.offset_of-offset.ensures c.name_size-size.ensures in
    let n = part_length c.args.text.now c.offset_of-offset.result c.name_size-size.result w in
    omega (arith, puts_length c.put_bytes-mark.ensures, c.put_bytes-mark.ensures.next, n, c.requires)

pub overflow_add-mark : goal.overflow_add-mark
overflow_add-mark c =
    let w = size-within c.args.text.now c.args.entry _ _ c.offset_of-offset.ensures c.name_size-size.ensures in
    let n = part_length c.args.text.now c.offset_of-offset.result c.name_size-size.result w in
    omega (arith, c.put_bytes-mark.ensures.next, n, c.requires)

pub put_index-end-requires : goal.put_index-end-requires
put_index-end-requires c =
    let w = size-within c.args.text.now c.args.entry _ _ c.offset_of-offset.ensures c.name_size-size.ensures in
    let n = part_length c.args.text.now c.offset_of-offset.result c.name_size-size.result w in
    (c.index_of.ensures.1, simp length-set (omega (arith, puts_length c.put_bytes-mark.ensures, c.put_bytes-mark.ensures.next, n, c.requires)))

pub shape_of-names : goal.shape_of-names
shape_of-names c =
    puts_length c.put_index-end.ensures ∙ simp length-set (puts_length c.put_bytes-mark.ensures)

pub returns : goal.returns
returns c =
    name-bit c.args.text.now c.args.entry _ _ c.offset_of-offset.ensures c.name_size-size.ensures c.width_of.ensures c.put_bytes-mark.ensures
    c.if-width_of-eq0.false c.index_of.ensures.0 (puts_byte _ _ 64) c.put_index-end.ensures
