-- `expressions::climb::advance` meets its contract, by whether an operand is complete.
use mathlib.Core.Path.{subst}
use Rattle.expressions.specs.States.{State, Standing}
use Rattle.expressions.proofs.climb.advance.Goals as goal

pub climb-requires : goal.climb-requires
climb-requires c =
    subst (λ b. Standing b c.args.work.now c.args.m) c.if-m.true c.requires

pub returns-then-m : goal.returns-then-m
returns-then-m c =
    λ ts s x h. c.climb.ensures ts s x (subst (λ b. State b ts s x c.args.work.now c.args.m) c.if-m.true h)

pub operand-requires : goal.operand-requires
operand-requires c =
    subst (λ b. Standing b c.args.work.now c.args.m) c.if-m.false c.requires

pub returns : goal.returns
returns c =
    λ ts s x h. c.operand.ensures ts s x (subst (λ b. State b ts s x c.args.work.now c.args.m) c.if-m.false h)
