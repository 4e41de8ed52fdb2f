use native.Mathlib.Omega.{arith}
use Prim.Native.Nat.{◌≤◌, ◌<◌}
use mathlib.Core.Path.{◌≡◌, refl, ◌∙◌}
use Rattle.std.proofs.Common.{⊎_elim}
use Rattle.std.proofs.lemmas.Bool.{cases_lt}
use Rattle.language.specs.Limits.{max_tokens}
use Rattle.choices.specs.Entries.{end_from}
use Rattle.choices.specs.EntryLaws.{end-past, end_low, end-high, end_more}
use Rattle.choices.proofs.end_from.Goals as goal

pub loop-j-init : goal.loop-j-init
loop-j-init c = refl

pub returns-then-kind-low : goal.returns-then-kind-low
returns-then-kind-low c =
    end_low c.args.work.now c.args.low c.loop-j.j c.loop-j-test.true c.cell_at-kind.ensures.0 c.if-kind-low.true ∙ c.loop-j.invariant

pub returns-then-kind-gt-WORD : goal.returns-then-kind-gt-WORD
returns-then-kind-gt-WORD c =
    end-high c.args.work.now c.args.low c.loop-j.j c.loop-j-test.true c.cell_at-kind.ensures.0 c.if-kind-gt-WORD.true ∙ c.loop-j.invariant

pub loop-j-preserved : goal.loop-j-preserved
loop-j-preserved c =
    end_more c.args.work.now c.args.low c.loop-j.j c.loop-j-test.true c.cell_at-kind.ensures.0 c.if-kind-low.false c.if-kind-gt-WORD.false ∙
    c.loop-j.invariant

pub returns : goal.returns
returns c =
    let past : c.loop-j.j ≡ end_from c.args.work.now c.args.low c.args.i = end-past c.args.work.now c.args.low c.loop-j.j c.loop-j-test.false ∙ c.loop-j.invariant in
    ⊎_elim (λ (l : c.args.i < max_tokens). let e : c.max.result ≡ c.loop-j.j = omega arith in e ∙ past)
    (λ (l : max_tokens ≤ c.args.i). let e : c.max.result ≡ c.args.i = omega arith in e ∙ end-past c.args.work.now c.args.low c.args.i l) (cases_lt c.args.i max_tokens)
