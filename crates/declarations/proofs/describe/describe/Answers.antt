use Prim.Native.Nat.{◌<◌}
use mathlib.Core.Path.{refl, sym, ap, ◌∙◌, subst}
use native.Mathlib.Omega.{arith}
use lib.ListN.{get_or, length-set}
use Rattle.language.specs.Limits.{max_tokens}
use Rattle.operands.specs.Entries.{place_at}
use Rattle.declarations.specs.Describing.{enumeration_for}
use Rattle.declarations.specs.DescribingLaws.{filled_more}
use Rattle.declarations.proofs.describe.describe.Goals as goal

pub loop-j-init : goal.loop-j-init
loop-j-init c = (omega arith, (refl, (refl, (refl, ((λ i l. absurd (omega arith)), ((λ i l. absurd (omega arith)), (λ i l. absurd (omega arith))))))))

pub offset_bounds-places-j : goal.offset_bounds-places-j
offset_bounds-places-j c =
    omega (arith, c.loop-j-test.true, c.requires.few)

pub bounds-places-j : goal.bounds-places-j
bounds-places-j c =
    omega (arith, c.loop-j-test.true, c.requires.places-room)

pub offset_bounds-refs-k : goal.offset_bounds-refs-k
offset_bounds-refs-k c =
    let i : c.from-k.result < max_tokens = subst (λ n. n < max_tokens) (sym c.from-k.ensures)
    (c.requires.inside c.loop-j.j c.loop-j-test.true) in
    omega arith

pub bounds-refs-k : goal.bounds-refs-k
bounds-refs-k c =
    let i : c.from-k.result < max_tokens = subst (λ n. n < max_tokens) (sym c.from-k.ensures)
    (c.requires.inside c.loop-j.j
    c.loop-j-test.true) in omega (arith, c.requires.refs_room)

pub bounds-order-j : goal.bounds-order-j
bounds-order-j c =
    omega (arith, c.loop-j-test.true, c.loop-j.invariant.1.0, c.requires.order-room)

pub enumeration_for-requires : goal.enumeration_for-requires
enumeration_for-requires c = (
  c.requires.work,
  (
    subst (λ n. n < max_tokens) (sym c.from-k.ensures)
        (c.requires.inside c.loop-j.j
        c.loop-j-test.true),
    (
      c.requires.refs_room,
      c.requires.found-room,
    ),
  ),
)

pub bounds-enumerations-j : goal.bounds-enumerations-j
bounds-enumerations-j c =
    omega (arith, c.loop-j-test.true, c.loop-j.invariant.1.1.0, c.requires.enumerations_room)

pub place_at-requires : goal.place_at-requires
place_at-requires c = (
  subst (λ n. n < max_tokens)
      (sym c.from-k.ensures) (c.requires.inside
      c.loop-j.j c.loop-j-test.true),
  c.requires.work,
)

pub bounds-offsets-j : goal.bounds-offsets-j
bounds-offsets-j c =
    omega (arith, c.loop-j-test.true, c.loop-j.invariant.1.1.1.0, c.requires.offsets_room)

pub loop-j-preserved : goal.loop-j-preserved
loop-j-preserved c = (
  omega (arith, c.loop-j-test.true),
  (
    simp length-set c.loop-j.invariant.1.0,
    (
      simp length-set c.loop-j.invariant.1.1.0,
      (
        simp length-set c.loop-j.invariant.1.1.1.0,
        (
          filled_more (λ i. get_or c.args.refs.now
              (get_or c.args.places.now i 0) 0)
              c.loop-j.order c.loop-j.j _
              (omega (arith, c.loop-j-test.true, c.loop-j.invariant.1.0, c.requires.order-room))
              (ap (λ k. get_or c.args.refs.now k 0)
              c.from-k.ensures) c.loop-j.invariant.1.1.1.1.0,
          (
            filled_more (λ i. enumeration_for c.args.work.now
                c.args.refs.now
                c.args.found.now
                (get_or c.args.places.now i 0))
                c.loop-j.enumerations c.loop-j.j _
                (omega (arith, c.loop-j-test.true, c.loop-j.invariant.1.1.0, c.requires.enumerations_room))
                (c.enumeration_for.ensures ∙ ap (enumeration_for c.args.work.now
                c.args.refs.now
                c.args.found.now) c.from-k.ensures)
                c.loop-j.invariant.1.1.1.1.1.0,
            filled_more
                (λ i. place_at c.args.work.now
                (get_or c.args.places.now i 0))
                c.loop-j.offsets c.loop-j.j _
                (omega (arith, c.loop-j-test.true, c.loop-j.invariant.1.1.1.0, c.requires.offsets_room))
                (c.place_at.ensures ∙ ap (place_at c.args.work.now)
                c.from-k.ensures) c.loop-j.invariant.1.1.1.1.1.1,
          ),
        ),
      ),
    ),
  ),
)

pub returns : goal.returns
returns c = record {
  numbers = λ i l. c.loop-j.invariant.1.1.1.1.0 i (omega (arith, c.loop-j-test.false));
  enumerated = λ i l. c.loop-j.invariant.1.1.1.1.1.0 i
      (omega (arith, c.loop-j-test.false));
  placed = λ i l. c.loop-j.invariant.1.1.1.1.1.1 i (omega (arith, c.loop-j-test.false));
}
