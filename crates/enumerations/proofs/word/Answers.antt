-- One word: each way through the definition.
use Rattle.enumerations.specs.ProgressLaws.{as_told, passes-closed, passes-unequal, passes-long, passes-many, passes-clash, passes-open}
use Rattle.enumerations.proofs.word.Goals as goal

pub returns-then-p : goal.returns-then-p
returns-then-p c =
    passes-closed c.args.text.now c.requires c.args.token c.if-p.true

pub returns-then-n-size : goal.returns-then-n-size
returns-then-n-size c =
    as_told c.shut.ensures (passes-unequal c.args.text.now c.requires c.args.token c.if-p.false c.size_of-size.ensures c.if-n-size.true)

pub returns-then-size-gt-MAX_MARKS : goal.returns-then-size-gt-MAX_MARKS
returns-then-size-gt-MAX_MARKS c =
    as_told c.shut-then-size-gt-MAX_MARKS.ensures (passes-long c.args.text.now c.requires c.args.token c.if-p.false c.size_of-size.ensures c.if-n-size.false
    c.if-size-gt-MAX_MARKS.true)

pub returns-then-count-ge-MAX_WORDS : goal.returns-then-count-ge-MAX_WORDS
returns-then-count-ge-MAX_WORDS c =
    as_told c.shut-then-count-ge-MAX_WORDS.ensures (passes-many c.args.text.now c.requires c.args.token c.if-p.false c.size_of-size.ensures c.if-n-size.false
    c.if-size-gt-MAX_MARKS.false c.if-count-ge-MAX_WORDS.true)

pub returns-then-clashes : goal.returns-then-clashes
returns-then-clashes c =
    as_told c.shut-then-clashes.ensures (passes-clash c.args.text.now c.requires c.args.token c.if-p.false c.size_of-size.ensures c.if-n-size.false
    c.if-size-gt-MAX_MARKS.false c.if-count-ge-MAX_WORDS.false c.marks-row.result c.marks-row.ensures.0 c.marks-row.ensures.1 c.clashes.ensures
    c.if-clashes.true)

pub returns : goal.returns
returns c =
    passes-open c.args.text.now c.requires c.args.token c.if-p.false c.size_of-size.ensures c.if-n-size.false c.if-size-gt-MAX_MARKS.false c.if-count-ge-MAX_WORDS.false
    c.marks-row.result c.marks-row.ensures.0 c.marks-row.ensures.1 c.clashes.ensures c.if-clashes.false
