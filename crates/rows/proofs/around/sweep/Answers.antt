-- `sweep` meets its contract: the odd positions, the odd bytes, the words, in a second pass each over what the first left there.
use Rattle.rows.specs.ReadyLaws.{placed-part, placed-still}
use Rattle.rows.specs.StretchesLaws.{words-inner, bytes-inner, odd-inner}
use Rattle.rows.specs.SweepingLaws.{swept_words, held-odd, held_bytes, held_words}
use mathlib.Core.Path.{refl, ◌∙◌}
use Rattle.rows.proofs.around.sweep.Goals as goal

pub sweep_spans-u-requires : goal.sweep_spans-u-requires
sweep_spans-u-requires c =
    let n = c.args.n in
    let i = odd-inner n c.odd.ensures in record {
      placed = placed-part _ c.requires.placed.0 i.end;
      temporal = (c.requires.placed.1, i.regular);
      held = λ f. held-odd n c.args.op c.args.base c.odd.ensures refl refl c.requires.placed.0 (c.requires.held f);
    }

pub sweep_spans-v-requires : goal.sweep_spans-v-requires
sweep_spans-v-requires c =
    let sweep-spans = c.sweep_spans-u in
    let odd = c.odd in
    let n = c.args.n in
    let i = bytes-inner n c.bytes.ensures in
    let first = sweep-spans.ensures in record {
      placed = placed-still (placed-part _ c.requires.placed.0 i.end) first.part.kept.size;
      temporal = (c.requires.placed.1, i.regular);
      held = λ f. held_bytes n c.args.op c.args.base odd.ensures c.bytes.ensures refl c.requires.placed.0 (c.requires.held f) first;
    }

pub sweep_spans-requires : goal.sweep_spans-requires
sweep_spans-requires c =
    let sweep-spans = c.sweep_spans-u in
    let sweep-spans2 = c.sweep_spans-v in
    let odd = c.odd in
    let bytes = c.bytes in
    let n = c.args.n in
    let i = words-inner n c.words.ensures in
    let first = sweep-spans.ensures in
    let second = sweep-spans2.ensures in record {
      placed = placed-still (placed-part _ c.requires.placed.0 i.end) (second.part.kept.size ∙ first.part.kept.size);
      temporal = (c.requires.placed.1, i.regular);
      held = λ f. held_words n c.args.op c.args.base odd.ensures bytes.ensures c.words.ensures c.requires.placed.0 (c.requires.held f) first second;
    }

pub shape_of-rows : goal.shape_of-rows
shape_of-rows c =
    let sweep-spans3 = c.sweep_spans in
    let sweep-spans2 = c.sweep_spans-v in
    let sweep-spans = c.sweep_spans-u in
    sweep-spans3.ensures.part.kept.size ∙ sweep-spans2.ensures.part.kept.size ∙ sweep-spans.ensures.part.kept.size

pub returns : goal.returns
returns c =
    let odd = c.odd in
    let bytes = c.bytes in
    let words = c.words in
    let sweep-spans = c.sweep_spans-u in
    let sweep-spans2 = c.sweep_spans-v in
    let sweep-spans3 = c.sweep_spans in
    let n = c.args.n in
    swept_words n c.args.op c.args.base odd.ensures bytes.ensures words.ensures c.requires.placed.0 sweep-spans.ensures sweep-spans2.ensures sweep-spans3.ensures
