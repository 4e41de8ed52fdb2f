-- `plain_row` meets its contract: the odd positions, the odd bytes, the words.
use mathlib.Core.Path.{◌∙◌}
use Rattle.rows.specs.MemoryLaws.{kept_trans}
use Rattle.rows.specs.ReadyLaws.{ready-still}
use Rattle.rows.specs.StretchesLaws.{words-inner, bytes-inner, odd-inner}
use Rattle.rows.specs.PlainLaws.{plain-words}
use Rattle.rows.proofs.plain.plain_row.Goals as goal

pub plain_spans-requires : goal.plain_spans-requires
plain_spans-requires c =
    record { ready = c.requires.ready; plain = (c.requires.plain, odd-inner _ c.odd.ensures) }

pub plain_spans-requires-2 : goal.plain_spans-requires-2
plain_spans-requires-2 c =
    let plain-spans = c.plain_spans in
    record { ready = ready-still c.requires.ready plain-spans.ensures.kept; plain = (c.requires.plain, bytes-inner _ c.bytes.ensures) }

pub plain_spans-requires-3 : goal.plain_spans-requires-3
plain_spans-requires-3 c =
    let plain-spans = c.plain_spans in
    record { ready = ready-still c.requires.ready (kept_trans plain-spans.ensures.kept c.plain_spans-2.ensures.kept); plain = (c.requires.plain, words-inner _ c.words.ensures) }

pub shape_of-rows : goal.shape_of-rows
shape_of-rows c =
    let plain-spans = c.plain_spans in
    c.plain_spans-3.ensures.kept.size ∙ c.plain_spans-2.ensures.kept.size ∙ plain-spans.ensures.kept.size

pub returns : goal.returns
returns c =
    let odd = c.odd in
    let bytes = c.bytes in
    let words = c.words in
    let plain-spans = c.plain_spans in
    plain-words c.args.lasso c.args.op c.args.base odd.ensures bytes.ensures words.ensures c.requires.ready plain-spans.ensures c.plain_spans-2.ensures
    c.plain_spans-3.ensures
