-- `expressions::roles::operand` meets its contract: by the row of Table 1 that the first token has, and by the bracket behind it.
use native.Mathlib.Omega.{arith}
use mathlib.Core.Path.{◌≡◌, sym, ap, ◌∙◌, subst}
use lib.Dec.{lit<}
use Prim.Native.Nat.{◌≤◌}
use Rattle.lexer.specs.Numbers.{fixed}
use Rattle.entries.specs.Cursors.{number_at, next_of}
use Rattle.operators.specs.Fields.{level_field, role_field}
use Rattle.operators.specs.Tables.{prefix_at}
use Rattle.expressions.specs.Classes.{Sole, Count, Low, class_number}
use Rattle.expressions.specs.StateAsks.{asks_number, asks-next, asks-second, asks-third, asks-push}
use Rattle.expressions.specs.RoleStates.{not_end, turn_loose, turn-plain, turn-bare, turn-count, turn_low}
use Rattle.expressions.proofs.roles.operand.Goals as goal

pub number-requires : goal.number-requires
number-requires c =
    asks_number c.requires

pub atom-requires : goal.atom-requires
atom-requires c =
    (c.requires, sym (c.prefix-p.ensures ∙ ap prefix_at c.number.ensures) ∙ c.if-p-eq0.true)

pub returns-then-p-eq0 : goal.returns-then-p-eq0
returns-then-p-eq0 c = c.atom.ensures

pub refuse-requires : goal.refuse-requires
refuse-requires c =
    asks_number c.requires

pub returns-then-m-level : goal.returns-then-m-level
returns-then-m-level c =
    λ ts s x h. rw c.refuse.ensures (turn_loose h c.prefix-p.result (c.prefix-p.ensures ∙ ap prefix_at c.number.ensures) c.if-p-eq0.false (omega arith))

pub fold-requires : goal.fold-requires
fold-requires c =
    let l : level_field c.prefix-p.result ≤ c.args.m.level = omega arith in (
      c.requires,
      ap role_field (sym (c.prefix-p.ensures ∙ ap prefix_at c.number.ensures)) ∙ c.if-role-eq-FOLDING.true,
      subst (λ q. level_field q ≤ c.args.m.level)
          (c.prefix-p.ensures ∙ ap prefix_at c.number.ensures) l,
    )

pub returns-then-role-eq-FOLDING : goal.returns-then-role-eq-FOLDING
returns-then-role-eq-FOLDING c = c.fold.ensures

pub next-d-requires : goal.next-d-requires
next-d-requires c =
    let prefixed = c.prefix-p in
    asks-next c.requires (not_end c.requires.state prefixed.result (prefixed.ensures ∙ ap prefix_at c.number.ensures) c.if-p-eq0.false)

pub push-requires : goal.push-requires
push-requires c =
    let prefixed = c.prefix-p in
    asks-push c.requires (not_end c.requires.state prefixed.result (prefixed.ensures ∙ ap prefix_at c.number.ensures) c.if-p-eq0.false) (class_number Sole) (lit< tt)

pub returns-then-role-eq-PLAIN : goal.returns-then-role-eq-PLAIN
returns-then-role-eq-PLAIN c =
    λ ts s x h. let l : level_field c.prefix-p.result ≤ c.args.m.level = omega arith in
    rw (c.push.ensures.0, c.push.ensures.1, c.next-d.ensures)
    (turn-plain h c.prefix-p.result (c.prefix-p.ensures ∙ ap prefix_at c.number.ensures) c.if-p-eq0.false l c.if-role-eq-PLAIN.true)

pub number-requires-2 : goal.number-requires-2
number-requires-2 c =
    let prefixed = c.prefix-p in
    rw c.next-d.ensures (asks-second c.requires (not_end c.requires.state prefixed.result (prefixed.ensures ∙ ap prefix_at c.number.ensures) c.if-p-eq0.false))

pub push-requires-then-number-ne-OPEN_BRACKET : goal.push-requires-then-number-ne-OPEN_BRACKET
push-requires-then-number-ne-OPEN_BRACKET c =
    let prefixed = c.prefix-p in
    asks-push c.requires (not_end c.requires.state prefixed.result (prefixed.ensures ∙ ap prefix_at c.number.ensures) c.if-p-eq0.false) (class_number Sole) (lit< tt)

pub returns-then-number-ne-OPEN_BRACKET : goal.returns-then-number-ne-OPEN_BRACKET
returns-then-number-ne-OPEN_BRACKET c =
    λ ts s x h. let l : level_field c.prefix-p.result ≤ c.args.m.level = omega arith in
    rw (c.push-then-number-ne-OPEN_BRACKET.ensures.0, c.push-then-number-ne-OPEN_BRACKET.ensures.1, c.next-d.ensures)
    (turn-bare h c.prefix-p.result (c.prefix-p.ensures ∙ ap prefix_at c.number.ensures) c.if-p-eq0.false l c.if-role-eq-FOLDING.false
    (λ z. let q : c.number-2.result ≡ fixed "[" = c.number-2.ensures ∙ ap (number_at c.args.work.now) c.next-d.ensures ∙ z in omega arith))

pub next-requires : goal.next-requires
next-requires c =
    let second : number_at c.args.work.now (next_of c.args.m.c) ≡ fixed "[" =
    (let q : c.number-2.result ≡ fixed "[" = omega arith in ap (number_at c.args.work.now) (sym c.next-d.ensures) ∙ sym c.number-2.ensures ∙ q) in
    rw c.next-d.ensures (asks-third c.requires (not_end c.requires.state c.prefix-p.result (c.prefix-p.ensures ∙ ap prefix_at c.number.ensures)
    c.if-p-eq0.false) (omega arith))

pub push-requires-then-role-eq-COUNTED : goal.push-requires-then-role-eq-COUNTED
push-requires-then-role-eq-COUNTED c =
    let prefixed = c.prefix-p in
    asks-push c.requires (not_end c.requires.state prefixed.result (prefixed.ensures ∙ ap prefix_at c.number.ensures) c.if-p-eq0.false) (class_number Count) (lit< tt)

pub returns-then-role-eq-COUNTED : goal.returns-then-role-eq-COUNTED
returns-then-role-eq-COUNTED c =
    λ ts s x h. let l : level_field c.prefix-p.result ≤ c.args.m.level = omega arith in
    let second : number_at c.args.work.now (next_of c.args.m.c) ≡ fixed "[" =
    (let q : c.number-2.result ≡ fixed "[" = omega arith in ap (number_at c.args.work.now) (sym c.next-d.ensures) ∙ sym c.number-2.ensures ∙ q) in
    rw (c.push-then-role-eq-COUNTED.ensures.0, c.push-then-role-eq-COUNTED.ensures.1, c.next.ensures, c.next-d.ensures)
    (turn-count h c.prefix-p.result (c.prefix-p.ensures ∙ ap prefix_at c.number.ensures) c.if-p-eq0.false l second c.if-role-eq-COUNTED.true)

pub next-requires-2 : goal.next-requires-2
next-requires-2 c =
    let second : number_at c.args.work.now (next_of c.args.m.c) ≡ fixed "[" =
    (let q : c.number-2.result ≡ fixed "[" = omega arith in ap (number_at c.args.work.now) (sym c.next-d.ensures) ∙ sym c.number-2.ensures ∙ q) in
    rw c.next-d.ensures (asks-third c.requires (not_end c.requires.state c.prefix-p.result (c.prefix-p.ensures ∙ ap prefix_at c.number.ensures)
    c.if-p-eq0.false) (omega arith))

pub push-requires-2 : goal.push-requires-2
push-requires-2 c =
    let prefixed = c.prefix-p in
    asks-push c.requires (not_end c.requires.state prefixed.result (prefixed.ensures ∙ ap prefix_at c.number.ensures) c.if-p-eq0.false) (class_number Low) (lit< tt)

pub returns : goal.returns
returns c =
    λ ts s x h. let l : level_field c.prefix-p.result ≤ c.args.m.level = omega arith in
    let second : number_at c.args.work.now (next_of c.args.m.c) ≡ fixed "[" =
    (let q : c.number-2.result ≡ fixed "[" = omega arith in ap (number_at c.args.work.now) (sym c.next-d.ensures) ∙ sym c.number-2.ensures ∙ q) in
    rw (c.push-2.ensures.0, c.push-2.ensures.1, c.next-2.ensures, c.next-d.ensures)
    (turn_low h c.prefix-p.result (c.prefix-p.ensures ∙ ap prefix_at c.number.ensures) c.if-p-eq0.false l second c.if-role-eq-FOLDING.false c.if-role-eq-PLAIN.false
    c.if-role-eq-COUNTED.false)
