use mathlib.Core.Path.{refl}
use native.Mathlib.Omega.{arith}
use Rattle.ports.specs.ListingLaws.{going-over, going_more}
use Rattle.ports.proofs.list_signals.Goals as goal

pub returns-then-at-n-gt-MAX_SIGNALS : goal.returns-then-at-n-gt-MAX_SIGNALS
returns-then-at-n-gt-MAX_SIGNALS c =
    λ R ps h. going-over R c.args.numbers.now c.args.offsets.now c.args.widths.now c.args.ins c.args.count ps _ _ c.loop-j.j c.loop-j.at
    _ _ _ _ 0 _ _ refl refl refl c.signals_of-n.ensures c.loop-j-test.true (c.loop-j.invariant.1 R ps h) c.if-at-n-gt-MAX_SIGNALS.true

pub loop-j-preserved : goal.loop-j-preserved
loop-j-preserved c = (
  omega (arith, c.if-at-n-gt-MAX_SIGNALS.false),
  λ R ps h. rw c.write_entries.ensures
      (going_more R c.args.numbers.now c.args.offsets.now c.args.widths.now c.args.ins c.args.count ps _ _ c.loop-j.j c.loop-j.at _
      c.from-r.result _ _ c.flag.result _ _ c.from-r.ensures refl refl c.signals_of-n.ensures c.loop-j-test.true
      c.flag.ensures.0 (omega (arith, c.if-at-n-gt-MAX_SIGNALS.false)) (c.loop-j.invariant.1 R ps h)),
)
