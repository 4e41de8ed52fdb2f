-- `described` meets its contract: a word and its colon, then a string.
use Rattle.node.proofs.ReturnedLaws.{raised}
use Rattle.language.specs.Tokens.{Quoted}
use Rattle.parser.proofs.Laws.InfoReads.{described_pair}
use Rattle.parser.proofs.Laws.Rows.{accepted}
use Rattle.parser.proofs.Laws.Skims.{skims_as, skim_refused, skim_then, expect-class}
use lib.ListN.{drop}
use mathlib.Core.Path.{refl, sym, ◌∙◌}
use native.Mathlib.Omega.{arith}
use Rattle.parser.proofs.info.described.Goals as goal

pub returns-in_err-d : goal.returns-in_err-d
returns-in_err-d c =
    rw (raised c.from_residual.ensures ∙ sym c.in_err-d.was)
    (λ s word ts ready. skims_as (described_pair s (drop c.args.c.at ts)) (skim_refused (c.pair.ensures s ":" word (record { known = refl; same = refl }) ts ready) _ c.in_err-d.was))

pub expect-requires : goal.expect-requires
expect-requires c =
    let z = c.requires in (
      (accepted c.in_ok-d.was
          (c.pair.ensures z.1.spelling ":" z.1.spells (record { known = refl; same = refl }) z.0.tokens z.0.ready)).took.ready.fits,
      omega arith,
    )

pub returns : goal.returns
returns c =
    λ s word ts ready. skims_as (described_pair s (drop c.args.c.at ts)) (skim_then (c.pair.ensures s ":" word (record { known = refl; same = refl }) ts ready) _ c.in_ok-d.was
    (λ a. expect-class (accepted c.in_ok-d.was (c.pair.ensures s ":" word (record { known = refl; same = refl }) ts ready)).took.ready Quoted refl (omega arith)
    c.expect.ensures))
