-- `information` meets its contract: the four parts of INFO, and what their words say.
use Rattle.node.proofs.ReturnedLaws.{raised}
use Rattle.lexer.specs.Numbers.{fixed}
use Rattle.parser.proofs.Laws.Facts.{model_number, closing_number, uninformed, all_read, informed}
use Rattle.parser.proofs.Laws.Rows.{accepted}
use Rattle.parser.proofs.Laws.Skims.{skim_refused, skim_then}
use lib.Dec.{eqb}
use mathlib.Core.Path.{refl, ap}
use native.Mathlib.Omega.{arith}
use Rattle.parser.proofs.information.Goals as goal

pub returns-in_err-d : goal.returns-in_err-d
returns-in_err-d c =
    λ ts ready. uninformed c.in_err-d.was (raised c.from_residual.ensures) (skim_refused (c.to_semantics.ensures ts ready) _ c.in_err-d.was)

pub number-semantics-requires : goal.number-semantics-requires
number-semantics-requires c =
    let z = c.requires in (accepted c.in_ok-d.was (c.to_semantics.ensures z.tokens z.ready)).took.ready.fits

pub model-requires : goal.model-requires
model-requires c =
    let z = c.requires in
    record { tokens = z.tokens; ready = (accepted c.in_ok-d.was (c.to_semantics.ensures z.tokens z.ready)).took.ready }

pub returns-in_err-e : goal.returns-in_err-e
returns-in_err-e c =
    λ ts ready. uninformed c.in_err-e.was (raised c.from_residual-in_err-e.ensures) (skim_then (c.to_semantics.ensures ts ready) _ c.in_ok-d.was (λ a. skim_refused
    (c.model.ensures ts (accepted c.in_ok-d.was (c.to_semantics.ensures ts ready)).took.ready) _ c.in_err-e.was))

pub number-strict-requires : goal.number-strict-requires
number-strict-requires c =
    let z = c.requires in
    (accepted c.in_ok-e.was (c.model.ensures z.tokens (accepted c.in_ok-d.was (c.to_semantics.ensures z.tokens z.ready)).took.ready)).took.ready.fits

pub to_target-requires : goal.to_target-requires
to_target-requires c =
    let z = c.requires in
    record {
      tokens = z.tokens;
      ready = (accepted c.in_ok-e.was
          (c.model.ensures z.tokens
          (accepted c.in_ok-d.was
          (c.to_semantics.ensures z.tokens z.ready)).took.ready)).took.ready;
    }

pub returns-in_err-f : goal.returns-in_err-f
returns-in_err-f c =
    λ ts ready. uninformed c.in_err-f.was (raised c.from_residual-in_err-f.ensures) (skim_then (c.to_semantics.ensures ts ready) _ c.in_ok-d.was (λ a. skim_then
    (c.model.ensures ts (accepted c.in_ok-d.was (c.to_semantics.ensures ts ready)).took.ready) _ c.in_ok-e.was
    (λ m. skim_refused (c.to_target.ensures ts (accepted c.in_ok-e.was (c.model.ensures ts (accepted c.in_ok-d.was
    (c.to_semantics.ensures ts ready)).took.ready)).took.ready) _ c.in_err-f.was)))

pub number-target-requires : goal.number-target-requires
number-target-requires c =
    let z = c.requires in
    (accepted c.in_ok-f.was (c.to_target.ensures z.tokens (accepted c.in_ok-e.was (c.model.ensures z.tokens (accepted c.in_ok-d.was
    (c.to_semantics.ensures z.tokens z.ready)).took.ready)).took.ready)).took.ready.fits

pub place-place-requires : goal.place-place-requires
place-place-requires c =
    let z = c.requires in
    (accepted c.in_ok-f.was (c.to_target.ensures z.tokens (accepted c.in_ok-e.was (c.model.ensures z.tokens (accepted c.in_ok-d.was (c.to_semantics.ensures z.tokens z.ready)).took.ready)).took.ready)).took.ready.fits

pub closing-requires : goal.closing-requires
closing-requires c =
    let z = c.requires in
    record {
      tokens = z.tokens;
      ready = (accepted c.in_ok-f.was
          (c.to_target.ensures z.tokens
          (accepted c.in_ok-e.was
          (c.model.ensures z.tokens
          (accepted c.in_ok-d.was
          (c.to_semantics.ensures z.tokens
          z.ready)).took.ready)).took.ready)).took.ready;
    }

pub returns-in_err-g : goal.returns-in_err-g
returns-in_err-g c =
    λ ts ready. uninformed c.in_err-g.was (raised c.from_residual-in_err-g.ensures) (all_read (c.to_semantics.ensures ts ready) c.in_ok-d.was (c.model.ensures ts
    (accepted c.in_ok-d.was (c.to_semantics.ensures ts ready)).took.ready) c.in_ok-e.was (c.to_target.ensures ts
    (accepted c.in_ok-e.was (c.model.ensures ts (accepted c.in_ok-d.was (c.to_semantics.ensures ts ready)).took.ready)).took.ready) c.in_ok-f.was
    (c.closing.ensures ts (accepted c.in_ok-f.was (c.to_target.ensures ts (accepted c.in_ok-e.was
    (c.model.ensures ts (accepted c.in_ok-d.was (c.to_semantics.ensures ts ready)).took.ready)).took.ready)).took.ready))

pub overflow_sub-facts : goal.overflow_sub-facts
overflow_sub-facts c =
    let z = c.requires in
    omega (
      arith,
      c.number-semantics.ensures,
      model_number
          (accepted c.in_ok-d.was
          (c.to_semantics.ensures z.tokens
          z.ready)).took.ready (accepted c.in_ok-e.was
          (c.model.ensures z.tokens
          (accepted c.in_ok-d.was
          (c.to_semantics.ensures z.tokens
          z.ready)).took.ready)).read,
    )

pub overflow_sub-facts-2 : goal.overflow_sub-facts-2
overflow_sub-facts-2 c =
    let z = c.requires in
    omega (
      arith,
      c.number-target.ensures,
      closing_number
          (accepted c.in_ok-f.was
          (c.to_target.ensures z.tokens
          (accepted c.in_ok-e.was
          (c.model.ensures z.tokens
          (accepted c.in_ok-d.was
          (c.to_semantics.ensures z.tokens
          z.ready)).took.ready)).took.ready)).took.ready (accepted c.in_ok-g.was
          (c.closing.ensures z.tokens (accepted c.in_ok-f.was
          (c.to_target.ensures z.tokens
          (accepted c.in_ok-e.was
          (c.model.ensures z.tokens
          (accepted c.in_ok-d.was
          (c.to_semantics.ensures z.tokens
          z.ready)).took.ready)).took.ready)).took.ready)).read,
    )

pub returns : goal.returns
returns c =
    λ ts ready. informed (c.to_semantics.ensures ts ready) c.in_ok-d.was (c.model.ensures ts (accepted c.in_ok-d.was (c.to_semantics.ensures ts
    ready)).took.ready) c.in_ok-e.was (c.to_target.ensures ts (accepted c.in_ok-e.was (c.model.ensures ts
    (accepted c.in_ok-d.was (c.to_semantics.ensures ts ready)).took.ready)).took.ready) c.in_ok-f.was
    (c.closing.ensures ts (accepted c.in_ok-f.was (c.to_target.ensures ts (accepted c.in_ok-e.was
    (c.model.ensures ts (accepted c.in_ok-d.was (c.to_semantics.ensures ts ready)).took.ready)).took.ready)).took.ready) c.in_ok-g.was c.number-semantics.ensures
    (ap (λ n. eqb n (fixed ",")) c.number-strict.ensures) c.number-target.ensures c.place-place.ensures refl
