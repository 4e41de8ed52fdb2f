-- `identifier` meets its contract: the laws of a name, a sign and what follows.
use Rattle.node.proofs.ReturnedLaws.{raised}
use Rattle.entries.specs.Flat.{each, flat_identifier}
use Rattle.entries.specs.Kinds as Kind
use Rattle.language.specs.Sections.{words_of}
use Rattle.language.specs.Tokens.{Name}
use Rattle.parser.proofs.Laws.Enumerations.{name-refused, sign-refused, rest_read}
use Rattle.parser.proofs.Laws.Passing.{passed, passed-ready, passed_readied}
use Rattle.parser.proofs.Laws.Rows.{accepted}
use Rattle.parser.specs.Parts.{flat_word}
use lib.ListN.{length}
use mathlib.Core.Path.{refl, sym, ◌∙◌}
use native.Mathlib.Omega.{arith}
use Rattle.parser.proofs.enumeration.identifier.Goals as goal

pub returns-in_err-d : goal.returns-in_err-d
returns-in_err-d c =
    rw (raised c.from_residual.ensures ∙ sym c.in_err-d.was)
    (λ ts ready. name-refused Kind.identifier ":" refl (λ us. words_of (length us) us) (λ t ws. record { name = t; words = ws }) (each flat_word) flat_identifier (λ t b. refl) (c.leaf.ensures
    Name (record { plain = refl; same = refl }) ts ready) c.in_err-d.was)

pub expect-requires : goal.expect-requires
expect-requires c =
    let p = c.requires in
    let r = c.leaf.ensures Name (record { plain = refl; same = refl }) p.tokens p.ready in
    let a = accepted c.in_ok-d.was r in (a.took.ready.fits, omega arith)

pub returns-in_err-e : goal.returns-in_err-e
returns-in_err-e c =
    rw (raised c.from_residual-in_err-e.ensures ∙ sym c.in_err-e.was)
    (λ ts ready. sign-refused Kind.identifier ":" refl (λ us. words_of (length us) us) (λ t ws. record { name = t; words = ws }) (each flat_word) flat_identifier (λ t b. refl) (c.leaf.ensures
    Name (record { plain = refl; same = refl }) ts ready) c.in_ok-d.was c.expect.ensures c.in_err-e.was)

pub words-requires : goal.words-requires
words-requires c =
    let p = c.requires in
    let r = c.leaf.ensures Name (record { plain = refl; same = refl }) p.tokens p.ready in
    let a = accepted c.in_ok-d.was r in
    passed_readied a.took.ready (passed _ _ _ c.expect.ensures c.in_ok-e.was) (omega arith)

pub returns : goal.returns
returns c =
    λ ts ready. rest_read Kind.identifier ":" refl (λ us. words_of (length us) us) (λ t ws. record { name = t; words = ws }) (each flat_word) flat_identifier (λ t b. refl) (c.leaf.ensures
    Name (record { plain = refl; same = refl }) ts ready) c.in_ok-d.was c.expect.ensures c.in_ok-e.was
    (c.words.ensures ts (passed-ready (accepted c.in_ok-d.was (c.leaf.ensures Name (record { plain = refl; same = refl }) ts ready)).took.ready
    (passed _ _ _ c.expect.ensures c.in_ok-e.was) (omega arith)))
