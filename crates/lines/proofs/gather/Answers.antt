-- `gather` meets its contract: the implied lines are added behind the written ones.
use mathlib.Core.Path.{refl}
use native.Mathlib.Omega.{arith}
use Rattle.node.proofs.ReturnedLaws.{raised}
use Rattle.lines.specs.WholeLaws.{given-tree, answer-is, gathers_refused, inputs-ready, outputs-ready, gathers-all}
use Rattle.lines.proofs.gather.Goals as goal

pub written_lines-requires : goal.written_lines-requires
written_lines-requires c =
    record { sizes = c.requires.sizes; some_tree = given-tree c.requires.some_given }

pub returns-in_err-written : goal.returns-in_err-written
returns-in_err-written c =
    gathers_refused c.written_lines.ensures c.in_err-written.was (raised c.from_residual.ensures)

pub implied-i-requires : goal.implied-i-requires
implied-i-requires c =
    inputs-ready (answer-is c.written_lines.ensures c.in_ok-written.was) refl refl refl c.requires.some_given (omega (arith, c.written_lines.auto.lines, c.requires.sizes.lines)) c.requires.sizes.work

pub implied-o-requires : goal.implied-o-requires
implied-o-requires c =
    outputs-ready (answer-is c.written_lines.ensures c.in_ok-written.was) refl refl refl c.implied-i.ensures refl refl refl c.requires.some_given
    (omega (arith, c.written_lines.auto.lines, c.implied-i.auto.lines, c.requires.sizes.lines)) c.requires.sizes.work

pub returns : goal.returns
returns c =
    gathers-all (answer-is c.written_lines.ensures c.in_ok-written.was) refl refl refl c.implied-i.ensures refl refl refl c.implied-o.ensures
