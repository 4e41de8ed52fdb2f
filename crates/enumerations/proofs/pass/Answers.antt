-- One entry: an enumeration begins, an identifier comes, a word is tested; others are passed by.
use Rattle.enumerations.specs.ProgressLaws.{passes-begun, passes-named, passes-word, passes_by}
use Rattle.enumerations.proofs.pass.Goals as goal

pub returns-then-kind-eq-ENUMERATION : goal.returns-then-kind-eq-ENUMERATION
returns-then-kind-eq-ENUMERATION c =
    passes-begun c.args.text.now c.requires.0 c.cell_at-c.ensures.0 c.if-kind-eq-ENUMERATION.true

pub returns-then-kind-eq-IDENTIFIER : goal.returns-then-kind-eq-IDENTIFIER
returns-then-kind-eq-IDENTIFIER c =
    passes-named c.args.text.now c.requires.0 c.cell_at-c.ensures.0 c.if-kind-eq-IDENTIFIER.true

pub returns-then-kind-eq-WORD : goal.returns-then-kind-eq-WORD
returns-then-kind-eq-WORD c =
    passes-word c.args.text.now c.requires.0 c.cell_at-c.ensures.0 c.if-kind-eq-WORD.true c.word.ensures

pub returns : goal.returns
returns c =
    passes_by c.args.text.now c.requires.0 c.cell_at-c.ensures.0 c.if-kind-eq-ENUMERATION.false c.if-kind-eq-IDENTIFIER.false c.if-kind-eq-WORD.false
