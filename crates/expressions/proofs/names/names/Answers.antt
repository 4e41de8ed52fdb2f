-- `expressions::names::names` meets its contract, by the class of the frame.
use native.Mathlib.Omega.{arith}
use mathlib.Core.Path.{◌≡◌, sym, ap, ◌∙◌}
use Rattle.expressions.specs.Classes.{Bound, Upper, Member, class_number}
use Rattle.expressions.specs.Stack.{slot_class}
use Rattle.expressions.specs.CompleteLaws.{complete_tops, class_few}
use Rattle.expressions.specs.NameStartLaws.{names-member, turn_member, upper-index, upper-grows, names-upper, turn-upper}
use Rattle.expressions.proofs.names.names.Goals as goal

pub top-f-requires : goal.top-f-requires
top-f-requires c =
    complete_tops c.requires.0.state (λ e. omega (arith, c.requires.1))

pub low-requires : goal.low-requires
low-requires c =
    (c.requires.0, c.requires.1, (let q : slot_class c.top-f.result ≡ class_number Bound = omega arith in ap slot_class (sym c.top-f.ensures) ∙ q))

pub returns-then-class-eq-BOUND : goal.returns-then-class-eq-BOUND
returns-then-class-eq-BOUND c = c.low.ensures

pub number-requires : goal.number-requires
number-requires c =
    rw c.top-f.ensures (
      c.requires.0.state.stacked.ready.fits.room,
      upper-index c.requires.0.state c.requires.1
          (let q : slot_class c.top-f.result ≡ class_number Upper = omega arith in ap slot_class (sym c.top-f.ensures) ∙ q),
    )

pub grow-d-requires : goal.grow-d-requires
grow-d-requires c =
    rw (c.between-kind.ensures, c.number.ensures, c.top-f.ensures)
    (upper-grows c.requires.0.state c.requires.1 (let q : slot_class c.top-f.result ≡ class_number Upper = omega arith in ap slot_class (sym c.top-f.ensures) ∙ q))

pub popped-requires : goal.popped-requires
popped-requires c =
    c.requires.1

pub named-requires : goal.named-requires
named-requires c =
    rw (
      c.popped.ensures,
      c.grow-d.ensures.0,
      c.grow-d.ensures.1,
      c.between-kind.ensures,
      c.number.ensures,
      c.top-f.ensures,
    ) (record {
      tokens = c.requires.0.tokens;
      start = c.requires.0.start;
      answer = c.requires.0.answer;
      state = names-upper c.requires.0.state
          c.requires.1 (let q : slot_class c.top-f.result ≡ class_number Upper = omega arith in ap slot_class (sym c.top-f.ensures) ∙ q);
    })

pub returns-then-class-eq-UPPER : goal.returns-then-class-eq-UPPER
returns-then-class-eq-UPPER c =
    λ ts s x h. turn-upper h c.requires.1 (let q : slot_class c.top-f.result ≡ class_number Upper = omega arith in ap slot_class (sym c.top-f.ensures) ∙ q) c.named.result
    (rw (
      c.popped.ensures,
      c.grow-d.ensures.0,
      c.grow-d.ensures.1,
      c.between-kind.ensures,
      c.number.ensures,
      c.top-f.ensures,
    ) at (c.named.ensures ts s x
    (rw (
      c.popped.ensures,
      c.grow-d.ensures.0,
      c.grow-d.ensures.1,
      c.between-kind.ensures,
      c.number.ensures,
      c.top-f.ensures,
    ) (names-upper h c.requires.1 (let q : slot_class c.top-f.result ≡ class_number Upper = omega arith in ap slot_class (sym c.top-f.ensures) ∙ q)))))

pub popped-requires-2 : goal.popped-requires-2
popped-requires-2 c =
    c.requires.1

pub named-requires-2 : goal.named-requires-2
named-requires-2 c =
    rw (c.popped-2.ensures, c.top-f.ensures) (record {
      tokens = c.requires.0.tokens;
      start = c.requires.0.start;
      answer = c.requires.0.answer;
      state = names-member c.requires.0.state c.requires.1
          (let q : slot_class c.top-f.result ≡ class_number Member = (let low = c.requires.2 in let high = class_few c.requires.0.state c.requires.1 in
          let e = ap slot_class c.top-f.ensures in omega arith) in ap slot_class (sym c.top-f.ensures) ∙ q);
    })

pub returns : goal.returns
returns c =
    λ ts s x h. turn_member h c.requires.1 c.named-2.result
    (rw c.popped-2.ensures at (c.named-2.ensures ts s x
    (rw (c.popped-2.ensures, c.top-f.ensures) (names-member h c.requires.1
    (let q : slot_class c.top-f.result ≡ class_number Member = (let low = c.requires.2 in let high = class_few c.requires.0.state c.requires.1 in let e = ap slot_class c.top-f.ensures in
    omega arith) in ap slot_class (sym c.top-f.ensures) ∙ q)))))
