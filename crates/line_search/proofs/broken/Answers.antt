use Prim.Native.Nat.{◌-◌}
use mathlib.Core.Path.{◌≡◌, sym, ap, ◌∙◌}
use native.Mathlib.Omega.{arith}
use Rattle.faults.specs.Naming.{broken_from}
use Rattle.line_search.specs.Walking.{or_end}
use Rattle.line_search.specs.WalkingLaws.{broken_end, unrequired, broken_here, broken_on}
use Rattle.line_search.proofs.broken.Goals as goal

pub loop-p-init : goal.loop-p-init
loop-p-init c = let e : c.args.n ≡ c.args.n - 0 = omega arith in ap (broken_from _ _ _ 0) e

pub required-requires : goal.required-requires
required-requires c = (omega arith, omega arith)

pub returns-then-not-required : goal.returns-then-not-required
returns-then-not-required c =
    sym (ap (or_end _) (c.loop-p.invariant ∙ unrequired _ _ _ _ c.loop-p.p (omega arith) (sym c.required.ensures ∙ c.if-not-required.true)))

pub value-requires : goal.value-requires
value-requires c = (omega arith, omega arith)

pub returns-then-not-value : goal.returns-then-not-value
returns-then-not-value c =
    sym (ap (or_end _) (c.loop-p.invariant ∙ broken_here _ _ _ _ c.loop-p.p (omega arith) (sym c.required.ensures ∙ c.if-not-required.false)
    (sym c.value.ensures ∙ c.if-not-value.true)))

pub loop-p-preserved : goal.loop-p-preserved
loop-p-preserved c =
    c.loop-p.invariant ∙ broken_on _ _ _ _ c.loop-p.p (omega arith) (sym c.required.ensures ∙ c.if-not-required.false) (sym c.value.ensures ∙ c.if-not-value.false)

pub returns : goal.returns
returns c = sym (ap (or_end _) (c.loop-p.invariant ∙ broken_end _ _ _ _ c.loop-p.p (omega arith)))
