use Prim.Native.Nat.{ℕ, ◌+◌, ◌-◌}
use mathlib.Core.Bool.{Bool}
use mathlib.Core.Path.{◌≡◌, refl, sym, ap, ap₂, ◌∙◌}
use native.Mathlib.Omega.{arith}
use Rattle.language.specs.Bytes.{if◌then◌otherwise◌}
use Rattle.line_search.specs.Walking.{value_of, seen}
use Rattle.line_search.specs.WalkingLaws.{seen_step, seen_one, seen_none, chosen}
use Rattle.line_search.proofs.first_false.Goals as goal

pub loop-k-init : goal.loop-k-init
loop-k-init c = (omega arith, refl)

pub loop-k-preserved : goal.loop-k-preserved
loop-k-preserved c =
    let a = c.args in
    let o = c.operand-last.ensures in
    let line : c.loop-k.k - 1 + 1 ≡ c.loop-k.k = omega arith in
    let v = c.value.ensures in
    let last = c.either-found.ensures ∙ chosen c.value.result c.loop-k.found (c.loop-k.k - 1 + 1) ∙ ap₂ (λ (b : Bool) (m : ℕ). if b then c.loop-k.found otherwise m) (v ∙ ap (λ (j : ℕ). value_of a.rows.now a.width j a.p) o) line in (
      omega arith,
      c.loop-k.invariant.1 ∙ seen_step _ _ c.loop-k.i c.loop-k.k c.loop-k.found (omega arith)
          ∙ ap₂ (λ (j f : ℕ). seen a.nodes.now (λ m. value_of a.rows.now a.width m a.p) j (c.loop-k.k - 1) f) (sym c.operand-i.ensures) (sym last),
    )

pub returns-then-count-eq0 : goal.returns-then-count-eq0
returns-then-count-eq0 c = sym (seen_none _ _ c.args.section c.args.count 0 (omega arith))

pub returns : goal.returns
returns c =
    c.either.ensures ∙ chosen c.value-2.result c.loop-k.found 1 ∙ ap (λ (b : Bool). if b then c.loop-k.found otherwise 1) c.value-2.ensures
    ∙ sym (c.loop-k.invariant.1 ∙ seen_one _ _ c.loop-k.i c.loop-k.k c.loop-k.found (omega arith))
