-- `globals` meets its contract: the notes hold of the first table, and the chosen entries are the parameters'.
use native.Mathlib.Omega.{arith}
use Rattle.notes.specs.FirstTable.{first_table}
use Rattle.declarations.specs.Stages.{parameters_fit, parameters_given}
use Rattle.declarations.proofs.stages.globals.Goals as goal

pub parameters-requires : goal.parameters-requires
parameters-requires c =
    let noted = c.note_names in
    let chosen = c.choose-count in
    parameters_given _ _ chosen.result _ _ _ _ (omega arith) c.choose-count.auto.order chosen.ensures noted.ensures (omega (arith, c.note_names.auto.sorts)) (omega (arith, c.note_names.auto.numbers)) c.requires.1
    c.requires.0

pub returns : goal.returns
returns c =
    let noted = c.note_names in
    let chosen = c.choose-count in
    let done = c.parameters in (
      (λ x k. done.ensures.0 c.args.found.now c.args.counts.names x (first_table x)
          (parameters_fit _ _ chosen.result _ _ (omega arith) chosen.ensures noted.ensures x k)),
      done.ensures.1,
    )
