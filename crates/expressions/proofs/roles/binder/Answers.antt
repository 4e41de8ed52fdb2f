-- `expressions::roles::binder` meets its contract: the name's set is read next, or its low bound.
use native.Mathlib.Omega.{arith}
use mathlib.Core.Path.{sym, ◌∙◌}
use lib.Dec.{lit<}
use Rattle.expressions.specs.Classes.{Over, Bound, class_number}
use Rattle.expressions.specs.BinderStates.{naming-fits, naming_push, naming-second, member-inside, member-second, named_bounds, named-member}
use Rattle.expressions.proofs.roles.binder.Goals as goal

pub member-requires : goal.member-requires
member-requires c =
    naming-fits c.requires.state

pub push-n-requires : goal.push-n-requires
push-n-requires c =
    naming_push c.requires.state (class_number Over) (lit< tt)

pub next-requires : goal.next-requires
next-requires c =
    let i = member-inside c.requires.state (sym c.member.ensures ∙ c.if-member.true) in omega (arith, (naming-fits c.requires.state).few)

pub next-requires-then-member : goal.next-requires-then-member
next-requires-then-member c =
    let i = member-second c.requires.state (sym c.member.ensures ∙ c.if-member.true) in rw c.next.ensures (omega (arith, (naming-fits c.requires.state).few))

pub push-requires : goal.push-requires
push-requires c =
    let push = c.push-n in
    let i = member-inside c.requires.state (sym c.member.ensures ∙ c.if-member.true) in
    rw (push.ensures.0, push.ensures.1) (naming-second c.requires.state (class_number Over) c.args.m.level c.args.token i)

pub returns-then-member : goal.returns-then-member
returns-then-member c =
    let push = c.push-n in
    let push2 = c.push in
    λ ts s x h. rw (push2.ensures.0, push2.ensures.1, push.ensures.0, push.ensures.1, c.next-then-member.ensures, c.next.ensures)
    (named-member h (sym c.member.ensures ∙ c.if-member.true))

pub push-requires-2 : goal.push-requires-2
push-requires-2 c =
    naming_push c.requires.state (class_number Bound) (lit< tt)

pub returns : goal.returns
returns c =
    λ ts s x h. rw (c.push-2.ensures.0, c.push-2.ensures.1) (named_bounds h (sym c.member.ensures ∙ c.if-member.false))
