-- `sizes` meets its contract: what the inputs' turns leave is what the outputs' turns ask for.
use mathlib.Core.Bool.{true, false}
use mathlib.Core.Path.{◌∙◌}
use native.Mathlib.Omega.{arith}
use Rattle.node.proofs.ReturnedLaws.{raised}
use Rattle.declarations.specs.ExpressionLaws.{room-kept}
use Rattle.declarations.specs.SizesLaws.{ins_given, outs_given, outs-declared, sizes-stopped, sizes-told}
use Rattle.declarations.specs.LengthLaws.{sized_refused}
use Rattle.declarations.proofs.sizes.sizes.Goals as goal

pub turns-requires : goal.turns-requires
turns-requires c =
    ins_given c.requires _ (omega arith)

pub returns-in_err-inputs : goal.returns-in_err-inputs
returns-in_err-inputs c =
    let first = c.turns in
    let out = raised c.from_residual.ensures in
    ((λ f n x d h. sizes-stopped h (first.ensures.0 f n x false) c.in_err-inputs.was out), sized_refused out)

pub turns-requires-2 : goal.turns-requires-2
turns-requires-2 c =
    let first = c.turns in
    let g = c.requires in
    let lengths = first.ensures.1.1 in
    outs_given g (outs-declared g.sizings (first.ensures.0 g.found g.names g.x false) c.in_ok-inputs.was)
    (record {
      refs_room = g.room.refs_room;
      sorts_full = lengths.sorts_full _ c.in_ok-inputs.was;
      numbers_full = lengths.numbers_full _ c.in_ok-inputs.was;
      memory = room-kept _ _ first.auto.memory (lengths.table_kept _ c.in_ok-inputs.was) g.room.memory;
    }) (lengths.widths_full _ c.in_ok-inputs.was)

pub returns : goal.returns
returns c =
    let first = c.turns in
    let second = c.turns-2 in
    let lengths = second.ensures.1.1 in (
      (λ f n x d h. sizes-told h (first.ensures.0 f n x false) c.in_ok-inputs.was second.ensures.1.0 (second.ensures.0 f n x true)),
      record {
        table_kept = λ a e. lengths.table_kept a e ∙ first.ensures.1.1.table_kept _ c.in_ok-inputs.was;
        sorts_full = lengths.sorts_full;
        numbers_full = lengths.numbers_full;
        widths_full = lengths.widths_full;
      },
    )
