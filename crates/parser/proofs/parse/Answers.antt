-- `parse` meets its contract: the first token, INFO, the other sections and the text's end, in a row.
use Rattle.node.proofs.ReturnedLaws.{raised}
use Rattle.entries.specs.ReadsLaws.{kept_same}
use Rattle.parser.proofs.Laws.Passing.{passed, stopped}
use Rattle.parser.proofs.Laws.Whole.{first-refused, first-ready, info-refused, info-ready, all-kept, body_refused, end-ready, end_refused, end-met, outlined, outlined_refused}
use mathlib.Core.Path.{refl}
use Rattle.parser.proofs.parse.Goals as goal

pub returns-in_err-c : goal.returns-in_err-c
returns-in_err-c c =
    λ ts tells. outlined_refused (first-refused c.requires.fits tells (stopped _ _ _ c.expect.ensures c.in_err-c.was)) (kept_same _ 0) (raised c.from_residual.ensures)

pub information-requires : goal.information-requires
information-requires c =
    let z = c.requires in record { tokens = z.tokens; ready = first-ready z.fits z.tells (passed _ _ _ c.expect.ensures c.in_ok-c.was) }

pub returns-in_err-facts : goal.returns-in_err-facts
returns-in_err-facts c =
    λ ts tells. let p = passed _ _ _ c.expect.ensures c.in_ok-c.was in
    let i = c.information.ensures ts (first-ready c.requires.fits tells p) in
    outlined_refused (info-refused c.requires.fits tells p i c.in_err-facts.was) (kept_same _ 0) (raised c.from_residual-in_err-facts.ensures)

pub sections-requires : goal.sections-requires
sections-requires c =
    let z = c.requires in
    let p = passed _ _ _ c.expect.ensures c.in_ok-c.was in
    let i = c.information.ensures z.tokens (first-ready z.fits z.tells p) in
    record { tokens = z.tokens; ready = info-ready z.fits z.tells p i c.in_ok-facts.was }

pub returns-in_err-e : goal.returns-in_err-e
returns-in_err-e c =
    λ ts tells. let p = passed _ _ _ c.expect.ensures c.in_ok-c.was in
    let i = c.information.ensures ts (first-ready c.requires.fits tells p) in
    let r = c.sections.ensures ts (info-ready c.requires.fits tells p i c.in_ok-facts.was) in
    outlined_refused (body_refused c.requires.fits tells p i c.in_ok-facts.was r c.in_err-e.was) (all-kept c.requires.fits tells p i c.in_ok-facts.was r)
    (raised c.from_residual-in_err-e.ensures)

pub ended-requires : goal.ended-requires
ended-requires c =
    let z = c.requires in
    let p = passed _ _ _ c.expect.ensures c.in_ok-c.was in
    let i = c.information.ensures z.tokens (first-ready z.fits z.tells p) in
    let r = c.sections.ensures z.tokens (info-ready z.fits z.tells p i c.in_ok-facts.was) in
    (end-ready z.fits z.tells p i c.in_ok-facts.was r c.in_ok-e.was).fits

pub returns-in_err-f : goal.returns-in_err-f
returns-in_err-f c =
    λ ts tells. let p = passed _ _ _ c.expect.ensures c.in_ok-c.was in
    let i = c.information.ensures ts (first-ready c.requires.fits tells p) in
    let r = c.sections.ensures ts (info-ready c.requires.fits tells p i c.in_ok-facts.was) in
    outlined_refused (end_refused c.requires.fits tells p i c.in_ok-facts.was r c.in_ok-e.was c.ended.ensures c.in_err-f.was)
    (all-kept c.requires.fits tells p i c.in_ok-facts.was r) (raised c.from_residual-in_err-f.ensures)

pub returns : goal.returns
returns c =
    λ ts tells. let p = passed _ _ _ c.expect.ensures c.in_ok-c.was in
    let i = c.information.ensures ts (first-ready c.requires.fits tells p) in
    let r = c.sections.ensures ts (info-ready c.requires.fits tells p i c.in_ok-facts.was) in
    outlined c.requires.fits tells p i c.in_ok-facts.was r c.in_ok-e.was
    (end-met c.requires.fits tells p i c.in_ok-facts.was r c.in_ok-e.was c.ended.ensures c.in_ok-f.was) refl
