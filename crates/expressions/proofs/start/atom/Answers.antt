-- `expressions::start::atom` meets its contract: one way for each token that begins an operand.
use native.Mathlib.Omega.{arith}
use mathlib.Core.Path.{◌≡◌, sym, ◌∙◌}
use lib.Dec.{lit<}
use Rattle.lexer.specs.Numbers.{fixed, class_number as tokenNumber}
use Rattle.language.specs.Tokens.{Name, Numeral as Digits}
use Rattle.entries.specs.Kinds as Kind
use Rattle.entries.specs.Cursors.{number_at}
use Rattle.expressions.specs.Classes.{Round, Bars, class_number}
use Rattle.expressions.specs.StateAsks.{asks_number, asks-next, asks-push, asks-leaf}
use Rattle.expressions.specs.StartStates.{starters, turn-numeral, turn-true, turn-false, turn-round, turn-bars, turn-not}
use Rattle.expressions.proofs.start.atom.Goals as goal

pub number-k-requires : goal.number-k-requires
number-k-requires c =
    asks_number c.requires.0

pub name-requires : goal.name-requires
name-requires c =
    (c.requires.0, let first : number_at c.args.work.now c.args.m.c ≡ tokenNumber Name = (let q : c.number-k.result ≡ tokenNumber Name = omega arith in sym c.number-k.ensures ∙ q) in first)

pub returns-then-k-eq-NAME : goal.returns-then-k-eq-NAME
returns-then-k-eq-NAME c = c.name.ensures

pub leaf-requires : goal.leaf-requires
leaf-requires c =
    let first : number_at c.args.work.now c.args.m.c ≡ tokenNumber Digits = (let q : c.number-k.result ≡ tokenNumber Digits = omega arith in sym c.number-k.ensures ∙ q) in
    asks-leaf c.requires.0 (omega arith) Kind.numeral (lit< tt)

pub returns-then-k-eq-NUMERAL : goal.returns-then-k-eq-NUMERAL
returns-then-k-eq-NUMERAL c =
    λ ts s x h. let first : number_at c.args.work.now c.args.m.c ≡ tokenNumber Digits = (let q : c.number-k.result ≡ tokenNumber Digits = omega arith in sym c.number-k.ensures ∙ q) in
    rw (c.leaf.ensures.0, c.leaf.ensures.1) (turn-numeral h c.requires.1 first)

pub leaf-requires-then-k-eq-TRUE : goal.leaf-requires-then-k-eq-TRUE
leaf-requires-then-k-eq-TRUE c =
    let first : number_at c.args.work.now c.args.m.c ≡ fixed "true" = (let q : c.number-k.result ≡ fixed "true" = omega arith in sym c.number-k.ensures ∙ q) in
    asks-leaf c.requires.0 (omega arith) Kind.truth (lit< tt)

pub returns-then-k-eq-TRUE : goal.returns-then-k-eq-TRUE
returns-then-k-eq-TRUE c =
    λ ts s x h. let first : number_at c.args.work.now c.args.m.c ≡ fixed "true" = (let q : c.number-k.result ≡ fixed "true" = omega arith in sym c.number-k.ensures ∙ q) in
    rw (c.leaf-then-k-eq-TRUE.ensures.0, c.leaf-then-k-eq-TRUE.ensures.1) (turn-true h c.requires.1 first)

pub leaf-requires-then-k-eq-FALSE : goal.leaf-requires-then-k-eq-FALSE
leaf-requires-then-k-eq-FALSE c =
    let first : number_at c.args.work.now c.args.m.c ≡ fixed "false" = (let q : c.number-k.result ≡ fixed "false" = omega arith in sym c.number-k.ensures ∙ q) in
    asks-leaf c.requires.0 (omega arith) Kind.truth (lit< tt)

pub returns-then-k-eq-FALSE : goal.returns-then-k-eq-FALSE
returns-then-k-eq-FALSE c =
    λ ts s x h. let first : number_at c.args.work.now c.args.m.c ≡ fixed "false" = (let q : c.number-k.result ≡ fixed "false" = omega arith in sym c.number-k.ensures ∙ q) in
    rw (c.leaf-then-k-eq-FALSE.ensures.0, c.leaf-then-k-eq-FALSE.ensures.1) (turn-false h c.requires.1 first)

pub next-requires : goal.next-requires
next-requires c =
    let first : number_at c.args.work.now c.args.m.c ≡ fixed "(" = (let q : c.number-k.result ≡ fixed "(" = omega arith in sym c.number-k.ensures ∙ q) in
    asks-next c.requires.0 (omega arith)

pub push-requires : goal.push-requires
push-requires c =
    let first : number_at c.args.work.now c.args.m.c ≡ fixed "(" = (let q : c.number-k.result ≡ fixed "(" = omega arith in sym c.number-k.ensures ∙ q) in
    asks-push c.requires.0 (omega arith) (class_number Round) (lit< tt)

pub returns-then-k-eq-OPEN_PAREN : goal.returns-then-k-eq-OPEN_PAREN
returns-then-k-eq-OPEN_PAREN c =
    λ ts s x h. let first : number_at c.args.work.now c.args.m.c ≡ fixed "(" = (let q : c.number-k.result ≡ fixed "(" = omega arith in sym c.number-k.ensures ∙ q) in
    rw (c.push.ensures.0, c.push.ensures.1, c.next.ensures) (turn-round h c.requires.1 first)

pub next-requires-then-k-eq-BAR : goal.next-requires-then-k-eq-BAR
next-requires-then-k-eq-BAR c =
    let first : number_at c.args.work.now c.args.m.c ≡ fixed "|" = (let q : c.number-k.result ≡ fixed "|" = omega arith in sym c.number-k.ensures ∙ q) in
    asks-next c.requires.0 (omega arith)

pub push-requires-then-k-eq-BAR : goal.push-requires-then-k-eq-BAR
push-requires-then-k-eq-BAR c =
    let first : number_at c.args.work.now c.args.m.c ≡ fixed "|" = (let q : c.number-k.result ≡ fixed "|" = omega arith in sym c.number-k.ensures ∙ q) in
    asks-push c.requires.0 (omega arith) (class_number Bars) (lit< tt)

pub returns-then-k-eq-BAR : goal.returns-then-k-eq-BAR
returns-then-k-eq-BAR c =
    λ ts s x h. let first : number_at c.args.work.now c.args.m.c ≡ fixed "|" = (let q : c.number-k.result ≡ fixed "|" = omega arith in sym c.number-k.ensures ∙ q) in
    rw (c.push-then-k-eq-BAR.ensures.0, c.push-then-k-eq-BAR.ensures.1, c.next-then-k-eq-BAR.ensures) (turn-bars h c.requires.1 first)

pub brace-requires : goal.brace-requires
brace-requires c =
    (c.requires.0, let first : number_at c.args.work.now c.args.m.c ≡ fixed "{" = (let q : c.number-k.result ≡ fixed "{" = omega arith in sym c.number-k.ensures ∙ q) in first)

pub returns-then-k-eq-OPEN_BRACE : goal.returns-then-k-eq-OPEN_BRACE
returns-then-k-eq-OPEN_BRACE c = c.brace.ensures

pub refuse-requires : goal.refuse-requires
refuse-requires c =
    asks_number c.requires.0

pub returns : goal.returns
returns c =
    let number = c.number-k in
    λ ts s x h. rw c.refuse.ensures
    (turn-not h c.requires.1 (λ k z e. let q : number.result ≡ k = number.ensures ∙ e in
    starters k (λ y. c.if-k-eq-NAME.false (q ∙ y)) (λ y. c.if-k-eq-NUMERAL.false (q ∙ y)) (λ y. c.if-k-eq-TRUE.false (q ∙ y)) (λ y. c.if-k-eq-FALSE.false (q ∙ y)) (λ y. c.if-k-eq-OPEN_PAREN.false (q ∙ y))
    (λ y. c.if-k-eq-BAR.false (q ∙ y)) (λ y. c.if-k-eq-OPEN_BRACE.false (q ∙ y)) z))
