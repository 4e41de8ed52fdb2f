-- `expressions::names::named` meets its contract: the name's entry, then by the sign behind its range further names or the operand.
use native.Mathlib.Omega.{arith}
use mathlib.Core.Path.{◌≡◌, sym, ◌∙◌}
use Rattle.lexer.specs.Numbers.{fixed}
use Rattle.entries.specs.Cursors.{number_at, emitted_of}
use Rattle.entries.specs.CursorLaws.{before-end}
use Rattle.expressions.specs.NameStateLaws.{named_in, ranged_tops, ranged-grows, named-fits, comma-inside, names-further, turn-further, turn-operand, turn-unnamed}
use Rattle.expressions.proofs.names.named.Goals as goal

pub top-f-requires : goal.top-f-requires
top-f-requires c =
    ranged_tops c.requires.state

pub grow-d-requires : goal.grow-d-requires
grow-d-requires c =
    rw (c.binder_kind.ensures, c.top-f.ensures) (ranged-grows c.requires.state)

pub number-k-requires : goal.number-k-requires
number-k-requires c =
    let grow = c.grow-d in
    rw (grow.ensures.0, grow.ensures.1, c.binder_kind.ensures, c.top-f.ensures) (named-fits c.requires.state)

pub next-requires : goal.next-requires
next-requires c =
    let k : number_at (named_in c.requires.state) (emitted_of c.args.c) ≡ fixed "," =
    (let q : c.number-k.result ≡ fixed "," = omega arith in sym (rw (c.grow-d.ensures.0, c.grow-d.ensures.1, c.binder_kind.ensures, c.top-f.ensures) at
    c.number-k.ensures) ∙ q) in let i = comma-inside c.requires.state k in rw c.grow-d.ensures.0 (omega (arith, (named-fits c.requires.state).few))

pub binder-requires : goal.binder-requires
binder-requires c =
    let k : number_at (named_in c.requires.state) (emitted_of c.args.c) ≡ fixed "," =
    (let q : c.number-k.result ≡ fixed "," = omega arith in sym (rw (c.grow-d.ensures.0, c.grow-d.ensures.1, c.binder_kind.ensures, c.top-f.ensures) at
    c.number-k.ensures) ∙ q) in rw (c.next.ensures, c.grow-d.ensures.0, c.grow-d.ensures.1, c.binder_kind.ensures, c.top-f.ensures)
    (record { tokens = c.requires.tokens; start = c.requires.start; answer = c.requires.answer; state = names-further c.requires.state k })

pub returns-then-k-eq-COMMA : goal.returns-then-k-eq-COMMA
returns-then-k-eq-COMMA c =
    λ ts s x h. let k : number_at (named_in h) (emitted_of c.args.c) ≡ fixed "," =
    (let q : c.number-k.result ≡ fixed "," = omega arith in sym (rw (c.grow-d.ensures.0, c.grow-d.ensures.1, c.binder_kind.ensures, c.top-f.ensures) at
    c.number-k.ensures) ∙ q) in turn-further h k (rw (
      c.next.ensures,
      c.grow-d.ensures.0,
      c.grow-d.ensures.1,
      c.binder_kind.ensures,
      c.top-f.ensures,
    ) at (c.binder.ensures ts s x
    (rw (c.next.ensures, c.grow-d.ensures.0, c.grow-d.ensures.1, c.binder_kind.ensures, c.top-f.ensures) (names-further h k))))

pub operator-requires : goal.operator-requires
operator-requires c =
    rw (c.grow-d.ensures.1, c.binder_kind.ensures, c.top-f.ensures) (named-fits c.requires.state).room

pub next-e-requires : goal.next-e-requires
next-e-requires c =
    let k : number_at (named_in c.requires.state) (emitted_of c.args.c) ≡ fixed "]" =
    (let q : c.number-k.result ≡ fixed "]" = omega arith in sym (rw (c.grow-d.ensures.0, c.grow-d.ensures.1, c.binder_kind.ensures, c.top-f.ensures) at
    c.number-k.ensures) ∙ q) in let i = before-end (named_in c.requires.state) (emitted_of c.args.c) (omega arith) in
    rw c.grow-d.ensures.0 (omega (arith, (named-fits c.requires.state).few))

pub returns-then-k-eq-CLOSE_BRACKET : goal.returns-then-k-eq-CLOSE_BRACKET
returns-then-k-eq-CLOSE_BRACKET c =
    λ ts s x h. let k : number_at (named_in h) (emitted_of c.args.c) ≡ fixed "]" =
    (let q : c.number-k.result ≡ fixed "]" = omega arith in sym (rw (c.grow-d.ensures.0, c.grow-d.ensures.1, c.binder_kind.ensures, c.top-f.ensures) at
    c.number-k.ensures) ∙ q) in rw (
      c.next-e.ensures,
      c.prefix-level.ensures,
      c.operator.ensures,
      c.grow-d.ensures.0,
      c.grow-d.ensures.1,
      c.binder_kind.ensures,
      c.top-f.ensures,
    )
    (turn-operand h (λ z. let q : c.number-k.result ≡ fixed "," = (rw (c.grow-d.ensures.0, c.grow-d.ensures.1, c.binder_kind.ensures, c.top-f.ensures) at
    c.number-k.ensures) ∙ z in omega arith) k)

pub refuse-requires : goal.refuse-requires
refuse-requires c =
    let grow = c.grow-d in
    rw (grow.ensures.0, grow.ensures.1, c.binder_kind.ensures, c.top-f.ensures) (named-fits c.requires.state)

pub returns : goal.returns
returns c =
    λ ts s x h. rw (c.refuse.ensures, c.grow-d.ensures.0, c.grow-d.ensures.1, c.binder_kind.ensures, c.top-f.ensures)
    (turn-unnamed h (λ z. let q : c.number-k.result ≡ fixed "," = (rw (c.grow-d.ensures.0, c.grow-d.ensures.1, c.binder_kind.ensures, c.top-f.ensures) at
    c.number-k.ensures) ∙ z in omega arith) (λ z. let q : c.number-k.result ≡ fixed "]" =
    (rw (c.grow-d.ensures.0, c.grow-d.ensures.1, c.binder_kind.ensures, c.top-f.ensures) at c.number-k.ensures) ∙ z in omega arith))
