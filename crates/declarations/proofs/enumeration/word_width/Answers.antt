use Prim.Native.Nat.{min}
use mathlib.Core.Path.{sym, ap, ◌∙◌}
use native.Mathlib.Omega.{arith}
use Rattle.lexer.specs.Stored.{longest, length_in}
use Rattle.operands.specs.Entries.{kind_at}
use Rattle.declarations.specs.EnumerationLaws.{scanning_starts, scanning-word, scanning-more, scanning-other, scanning-past}
use Rattle.declarations.proofs.enumeration.word_width.Goals as goal

pub loop-i-init : goal.loop-i-init
loop-i-init c = (omega arith, λ text count words l h. scanning_starts l words c.args.e h)

pub returns-then-kind-eq-WORD : goal.returns-then-kind-eq-WORD
unfolding kind_at
returns-then-kind-eq-WORD c =
    λ text count words l h. ap length_in c.token_word.ensures ∙ scanning-word l words c.loop-i.i (c.loop-i.invariant.1 text count words l h)
    (sym c.kind_at-kind.ensures ∙ c.if-kind-eq-WORD.true)

pub returns-then-kind-ne-IDENTIFIER : goal.returns-then-kind-ne-IDENTIFIER
unfolding kind_at
returns-then-kind-ne-IDENTIFIER c =
    λ text count words l h. sym (ap (min longest) (scanning-other l words c.loop-i.i (c.loop-i.invariant.1 text count words l h)
    (λ q. c.if-kind-eq-WORD.false (c.kind_at-kind.ensures ∙ q)) (λ q. c.if-kind-ne-IDENTIFIER.true (c.kind_at-kind.ensures ∙ q))))

pub loop-i-preserved : goal.loop-i-preserved
unfolding kind_at
loop-i-preserved c = (
  omega (arith, c.loop-i-test.true),
  λ text count words l h. scanning-more l words c.loop-i.i (c.loop-i.invariant.1 text count words l h) (sym c.kind_at-kind.ensures ∙ c.if-kind-ne-IDENTIFIER.false),
)

pub returns : goal.returns
returns c = λ text count words l h. sym (ap (min longest) (scanning-past l words c.loop-i.i (c.loop-i.invariant.1 text count words l h) c.loop-i-test.false))
