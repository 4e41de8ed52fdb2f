-- `expressions::start::brace` meets its contract: a set that is empty, or one whose first element is read next.
use native.Mathlib.Omega.{arith}
use mathlib.Core.Path.{◌≡◌, sym, ap, ◌∙◌}
use lib.Dec.{lit<}
use Rattle.lexer.specs.Numbers.{fixed}
use Rattle.entries.specs.Kinds as Kind
use Rattle.entries.specs.Cursors.{number_at, next_of}
use Rattle.expressions.specs.Classes.{One, class_number}
use Rattle.expressions.specs.StateAsks.{asks-next, asks-second, asks-third, asks-push, asks-leaf}
use Rattle.expressions.specs.StartStates.{turn-empty, turn-set}
use Rattle.expressions.proofs.start.brace.Goals as goal

pub next-d-requires : goal.next-d-requires
next-d-requires c =
    asks-next c.requires.0 (omega (arith, c.requires.1))

pub number-requires : goal.number-requires
number-requires c =
    rw c.next-d.ensures (asks-second c.requires.0 (omega (arith, c.requires.1)))

pub next-requires : goal.next-requires
next-requires c =
    let second : number_at c.args.work.now (next_of c.args.m.c) ≡ fixed "}" =
    (let q : c.number.result ≡ fixed "}" = omega arith in ap (number_at c.args.work.now) (sym c.next-d.ensures) ∙ sym c.number.ensures ∙ q) in
    rw c.next-d.ensures (asks-third c.requires.0 (omega (arith, c.requires.1)) (omega arith))

pub emit-e-requires : goal.emit-e-requires
emit-e-requires c =
    let p = asks-leaf c.requires.0 (omega (arith, c.requires.1)) Kind.listed (lit< tt) in
    rw (c.next.ensures, c.next-d.ensures) (record { room = p.room; few = p.out_fits; kind_fits = p.kind_fits; index-fits = p.at-fits; size_fits = lit< tt })

pub returns-then-number-eq-CLOSE_BRACE : goal.returns-then-number-eq-CLOSE_BRACE
returns-then-number-eq-CLOSE_BRACE c =
    λ ts s x h. let second : number_at c.args.work.now (next_of c.args.m.c) ≡ fixed "}" =
    (let q : c.number.result ≡ fixed "}" = omega arith in ap (number_at c.args.work.now) (sym c.next-d.ensures) ∙ sym c.number.ensures ∙ q) in
    rw (c.climbing.ensures, c.emit-e.ensures.0, c.emit-e.ensures.1, c.next.ensures, c.next-d.ensures) (turn-empty h c.requires.1 second)

pub push-requires : goal.push-requires
push-requires c =
    asks-push c.requires.0 (omega (arith, c.requires.1)) (class_number One) (lit< tt)

pub returns : goal.returns
returns c =
    λ ts s x h. rw (c.push.ensures.0, c.push.ensures.1, c.next-d.ensures)
    (turn-set h c.requires.1 (λ z. let q : c.number.result ≡ fixed "}" = c.number.ensures ∙ ap (number_at c.args.work.now) c.next-d.ensures ∙ z in omega arith))
