-- `expressions::climb::climb` meets its contract: by the row of Table 1 that the next token has.
use borrow.Author.Tests.{eqb-true, eqb-false, leb-true, leb-false, not-true}
use native.Mathlib.Omega.{arith}
use Prim.Native.Nat.{ℕ, ◌≤◌}
use mathlib.Core.Bool.{Bool, true, false, not, ◌&&◌}
use mathlib.Core.List.{List}
use mathlib.Core.Path.{◌≡◌, refl, sym, ap, ◌∙◌}
use lib.Dec.{eqb, leb, lit<}
use Rattle.language.specs.Tree.{Expr}
use Rattle.language.specs.Grammar.{Tokens, Read}
use Rattle.language.proofs.Laws.Basics.Tests.{and_left, and_right}
use Rattle.entries.specs.declared.Cursor.{Cursor}
use Rattle.entries.specs.Cursors.{number_at}
use Rattle.operators.specs.Fields.{level_field}
use Rattle.operators.specs.Tables.{infix_at}
use Rattle.expressions.specs.declared.stack.Machine.{Machine}
use Rattle.expressions.specs.States.{State}
use Rattle.expressions.specs.Complete.{Complete}
use Rattle.expressions.specs.StateAsks.{asks_number}
use Rattle.expressions.specs.Climbs.{ends_none, ends_loose, operator-inside, turn_right}
use Rattle.expressions.specs.StateLaws.{facts}
use Rattle.expressions.proofs.climb.climb.Goals as goal

-- what the test of a row says
abbrev tightly : ℕ → ℕ → Bool
tightly q level = not (eqb q 0) && leb (level_field q) level

some_row : (q level : ℕ) → tightly q level ≡ true → q ≡ 0 → ⊥
some_row q level h = eqb-false q 0 (not-true (eqb q 0) (and_left (not (eqb q 0)) (leb (level_field q) level) h))

tight_row : (q level : ℕ) → tightly q level ≡ true → level_field q ≤ level
tight_row q level h = leb-true (level_field q) level (and_right (not (eqb q 0)) (leb (level_field q) level) h)

ends : {ts : Tokens} {s : Cursor} {x : Read Expr} {w : List ℕ} {m : Machine} → State true ts s x w m → (q : ℕ) → q ≡ infix_at (number_at w m.c) → tightly q m.level ≡ false
    → Complete ts s x w m
ends {ts} {s} {x} {w} {m} h q row e = go (eqb q 0) refl e
  where
    go : (b : Bool) → eqb q 0 ≡ b → (not b && leb (level_field q) m.level) ≡ false → Complete ts s x w m
    go true z f = ends_none h q row (eqb-true q 0 z)
    go false z f = ends_loose h q row (eqb-false q 0 z) (leb-false (level_field q) m.level f)

pub number-requires : goal.number-requires
number-requires c =
    asks_number c.requires

pub next-requires : goal.next-requires
next-requires c =
    let row = c.infix-q in
    let tests = sym c.tight.ensures ∙ c.if-tight.true in
    let i = operator-inside c.requires.state row.result (row.ensures ∙ ap infix_at c.number.ensures) (some_row row.result _ tests) in
    omega (arith, (asks_number c.requires).few)

pub push-requires : goal.push-requires
push-requires c =
    let row = c.infix-q in
    let tests = sym c.tight.ensures ∙ c.if-tight.true in
    let i = operator-inside c.requires.state row.result (row.ensures ∙ ap infix_at c.number.ensures) (some_row row.result _ tests) in
    let f = facts c.requires.state in
    record { room = f.fits.room; deep = omega (arith, f.apart, f.few); class-fits = lit< tt; level_fits = f.level_fits; token-fits = omega (arith, f.fits.few) }

pub returns-then-tight : goal.returns-then-tight
returns-then-tight c =
    let row = c.infix-q in
    let tests = sym c.tight.ensures ∙ c.if-tight.true in
    λ ts s x h. rw (c.push.ensures.0, c.push.ensures.1, c.next.ensures)
    (turn_right h row.result (row.ensures ∙ ap infix_at c.number.ensures) (some_row row.result _ tests) (tight_row row.result _ tests))

pub pop-requires : goal.pop-requires
pop-requires c =
    let row = c.infix-q in
    record {
      tokens = c.requires.tokens;
      start = c.requires.start;
      answer = c.requires.answer;
      state = ends c.requires.state row.result (row.ensures ∙ ap infix_at c.number.ensures) (sym c.tight.ensures ∙ c.if-tight.false);
    }

pub returns : goal.returns
returns c =
    let row = c.infix-q in
    λ ts s x h. c.pop.ensures ts s x
    (ends h row.result (row.ensures ∙ ap infix_at c.number.ensures) (sym c.tight.ensures ∙ c.if-tight.false))
