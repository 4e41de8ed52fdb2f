-- `name_line` meets its contract: the nodes of the sections stand at the ends of their paths.
use mathlib.Core.Path.{◌≡◌, refl, ap, ◌∙◌}
use native.Mathlib.Omega.{arith}
use Rattle.node.specs.Result.{Done}
use Rattle.language.specs.Bytes.{if◌then◌otherwise◌}
use Rattle.language.specs.Tree.{Preset}
use Rattle.line_search.specs.Walking.{or_end, false_at, break_at}
use Rattle.line_search.specs.WalkingLaws.{chosen}
use Rattle.line_search.specs.Findings.{section-line, found-preset, found-assert, found-guarantee, break_at_lem}
use Rattle.diagnosis.proofs.name_line.Goals as goal

-- the first false line of PRESET
preset : (c : goal.Then-line-gt0) → let a = c.args in
    c.first_false-line.result ≡ false_at a.nodes.now a.rows.now a.strict Preset a.n a.lines.preset 0
preset c =
    let a = c.args in
    section-line a.nodes.now a.rows.now a.strict a.lines a.n c.walk-preset.result 1 c.either.result 1 (if a.strict then 3 otherwise 2) 0 a.lines.preset
    refl (c.either.ensures ∙ chosen a.strict 3 2) c.walk-preset.ensures c.first_false-line.ensures

pub returns-then-line-gt0 : goal.returns-then-line-gt0
returns-then-line-gt0 c =
    let a = c.args in
    ap Done (found-preset a.nodes.now a.rows.now a.strict a.lines a.n (preset c) (omega arith))

preset-2 : (c : goal.After-first_false) → let a = c.args in
    c.first_false-line.result ≡ false_at a.nodes.now a.rows.now a.strict Preset a.n a.lines.preset 0
preset-2 c =
    let a = c.args in
    section-line a.nodes.now a.rows.now a.strict a.lines a.n c.walk-preset.result 1 c.either.result 1 (if a.strict then 3 otherwise 2) 0 a.lines.preset
    refl (c.either.ensures ∙ chosen a.strict 3 2) c.walk-preset.ensures c.first_false-line.ensures

-- the break of ASSERT
broken : (c : goal.After-first_false) → let a = c.args in
    c.broken-p.result ≡ or_end a.n (break_at a.nodes.now a.rows.now a.strict a.n)
broken c =
    let a = c.args in
    break_at_lem a.nodes.now a.rows.now a.strict a.lines a.n c.walk-require.result c.walk-assert.result c.broken-p.result c.either-2.result c.either-3.result
    c.walk-require.ensures (c.either-2.ensures ∙ chosen a.strict 5 7) (c.either-3.ensures ∙ chosen a.strict 4 5) c.walk-assert.ensures c.broken-p.ensures

pub returns-then-p-n : goal.returns-then-p-n
returns-then-p-n c =
    let a = c.args in
    ap Done (found-assert a.nodes.now a.rows.now a.strict a.lines a.n (preset-2 c) (omega arith) (broken c) (omega arith)
    (section-line a.nodes.now a.rows.now a.strict a.lines a.n c.walk-assert.result c.either-2.result c.either-3.result (if a.strict then 5 otherwise 7)
    (if a.strict then 4 otherwise 5)
    c.broken-p.result a.lines.assert (c.either-2.ensures ∙ chosen a.strict 5 7) (c.either-3.ensures ∙ chosen a.strict 4 5) c.walk-assert.ensures c.first_false.ensures))

pub first_false-requires-2 : goal.first_false-requires-2
first_false-requires-2 c =
    let h = c.requires.1.1 in
    (omega arith, omega arith)

preset-3 : (c : goal.After-first_false-2) → let a = c.args in
    c.first_false-line.result ≡ false_at a.nodes.now a.rows.now a.strict Preset a.n a.lines.preset 0
preset-3 c =
    let a = c.args in
    section-line a.nodes.now a.rows.now a.strict a.lines a.n c.walk-preset.result 1 c.either.result 1 (if a.strict then 3 otherwise 2) 0 a.lines.preset
    refl (c.either.ensures ∙ chosen a.strict 3 2) c.walk-preset.ensures c.first_false-line.ensures

broken-2 : (c : goal.After-first_false-2) → let a = c.args in
    c.broken-p.result ≡ or_end a.n (break_at a.nodes.now a.rows.now a.strict a.n)
broken-2 c =
    let a = c.args in
    break_at_lem a.nodes.now a.rows.now a.strict a.lines a.n c.walk-require.result c.walk-assert.result c.broken-p.result c.either-2.result c.either-3.result
    c.walk-require.ensures (c.either-2.ensures ∙ chosen a.strict 5 7) (c.either-3.ensures ∙ chosen a.strict 4 5) c.walk-assert.ensures c.broken-p.ensures

pub returns : goal.returns
returns c =
    let a = c.args in
    let none_there = c.if-line-gt0.false in
    let none-broken = c.if-p-n.false in
    ap Done (found-guarantee a.nodes.now a.rows.now a.strict a.lines a.n (preset-3 c) (omega arith) (broken-2 c) (omega arith)
    (section-line a.nodes.now a.rows.now a.strict a.lines a.n c.walk-guarantee.result c.either-4.result c.either-5.result (if a.strict then 7 otherwise 15)
    (if a.strict then 3 otherwise 4)
    0 a.lines.guarantee (c.either-4.ensures ∙ chosen a.strict 7 15) (c.either-5.ensures ∙ chosen a.strict 3 4) c.walk-guarantee.ensures c.first_false-2.ensures))
