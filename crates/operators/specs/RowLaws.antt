-- What the word of an operator's row says: levels, role, kinds of entries, code, as the grammar has them for the token.
use Rattle.std.specs.Prelude.{ℕ, ◌<◌, ◌^◌, List, [], ◌∷◌, Bool, true, false, ◌&&◌, ◌≡◌, refl, ltb}
use Prim.Native.String.{String}
use Rattle.std.proofs.Common.{arith, sym, ap, ◌∙◌, subst, lit<, ltb-true}
use Rattle.std.proofs.Math.Option.{Option, none, some}
use Rattle.node.specs.BitFields.{join, above, below}
use Rattle.node.proofs.FieldLaws.{below-join}
use Rattle.language.specs.Tokens.{Token}
use Rattle.language.specs.Operators.{Role, Plain, Counted, Windowed, Folding, InfixRow, infixes, PrefixRow, prefixes}
use Rattle.language.specs.Grammar.{right_level}
use Rattle.language.proofs.Laws.Basics.Tests.{and_left, and_right, some_none}
use Rattle.language.proofs.Cases.Every.{every}
use Rattle.lexer.specs.Numbers.{number, numbered}
use Rattle.entries.specs.Kinds as Kind
use Rattle.operators.specs.Readers.{infix_row, prefix_row, operator_in, operator_at, level_in, level_at, role_in, role_at}
use Rattle.operators.specs.Codes.{infix_code, role_code}
use Rattle.operators.specs.Fields.{
  level_bits,
  role_bits,
  kind_shift,
  role_shift,
  sole_shift,
  window_shift,
  level_field,
  right_field,
  kind_field,
  infix_field,
  role_field,
  sole_field,
  window_field,
  prefix_field,
}
use Rattle.operators.specs.Tables.{row_by, infix_by, prefix_by, infix_word, prefix_word, role_number, window_kind, sole_kind, infix_at, prefix_at}
use Rattle.operators.specs.TableLaws.{infix_number, prefix_number}

-- what a test says of every row holds of the row found
row_has : {R : Type 0} (names : R → List String) (p : R → Bool) (n : ℕ) (rs : List R) → every p rs ≡ true → (r : R) → row_by names rs n ≡ some r → p r ≡ true
row_has names p n [] h r e = absurd (some_none (sym e))
row_has names p n (q ∷ rs) h r e = go (numbered (names q) n) refl e (λ f. row_has names p n rs (and_right (p q) (every p rs) h) r f)
  where
    go : (b : Bool) → numbered (names q) n ≡ b → elim b [ true ↦ some q | false ↦ row_by names rs n ] ≡ some r → (row_by names rs n ≡ some r → p r ≡ true) → p r ≡ true
    go true z f later = let same : q ≡ r = cc in subst (λ x. p x ≡ true) same (and_left (p q) (every p rs) h)
    go false z f later = later f

-- an operator between operands
abbrev infix_test : InfixRow → Bool
infix_test r =
    (ltb 0 r.level && ltb r.level (2 ^ level_bits)) && ((ltb 0 (right_level r) && ltb (right_level r) (2 ^ level_bits)) && (ltb 0 (Kind.joining r.operator) && ltb (Kind.joining r.operator) Kind.limit))

pub record InfixFound (t : Token) (x : ℕ) : Type 0 where
  pub row : InfixRow
  pub here : infix_row t ≡ some row
  pub level : level_field x ≡ row.level
  pub right : right_field x ≡ right_level row
  pub kind : kind_field x ≡ Kind.joining (operator_at t)
  pub code : infix_field x ≡ infix_code (operator_at t)
  pub right_some : 0 < right_level row
  pub right-fits : right_level row < 2 ^ level_bits
  pub kind_fits : kind_field x < Kind.limit

infix_found : (t : Token) (r : InfixRow) → infix_by (number t) ≡ some r → InfixFound t (infix_word (some r))
unfolding operator_at
infix_found t r e =
    let row = infix_number t ∙ e in
    let tests = row_has (λ (q : InfixRow). q.names) infix_test (number t) infixes refl r e in
    let levels = and_left (ltb 0 r.level && ltb r.level (2 ^ level_bits)) _ tests in
    let others = and_right (ltb 0 r.level && ltb r.level (2 ^ level_bits)) _ tests in
    let rights = and_left (ltb 0 (right_level r) && ltb (right_level r) (2 ^ level_bits)) _ others in
    let kinds = and_right (ltb 0 (right_level r) && ltb (right_level r) (2 ^ level_bits)) _ others in
    let a = ltb-true r.level (2 ^ level_bits) (and_right (ltb 0 r.level) _ levels) in
    let b = ltb-true (right_level r) (2 ^ level_bits) (and_right (ltb 0 (right_level r)) _ rights) in
    let k = ltb-true (Kind.joining r.operator) Kind.limit (and_right (ltb 0 (Kind.joining r.operator)) _ kinds) in
    let x = infix_word (some r) in
    let high : above kind_shift x ≡ join Kind.kind_bits (infix_code r.operator) (Kind.joining r.operator) = omega arith in
    let dk : kind_field x ≡ Kind.joining r.operator = ap (below Kind.kind_bits) high ∙ below-join Kind.kind_bits (infix_code r.operator) k in
    let dc : infix_field x ≡ infix_code r.operator = omega arith in
    record {
      row = r;
      here = row;
      level = omega arith;
      right = omega arith;
      kind = dk ∙ ap (λ o. Kind.joining (operator_in o)) (sym row);
      code = dc ∙ ap (λ o. infix_code (operator_in o)) (sym row);
      right_some = ltb-true 0 (right_level r) (and_left (ltb 0 (right_level r)) _ rights);
      right-fits = b;
      kind_fits = omega arith;
    }

-- the word is 0 if there is none
module _ (t : Token) where
  by_infix : (o : Option InfixRow) → infix_by (number t) ≡ o → (infix_word o ≡ 0 → infix_row t ≡ none) × ((infix_word o ≡ 0 → ⊥) → InfixFound t (infix_word o))
  by_infix none e = (λ _. infix_number t ∙ e, λ f. absurd (f refl))
  by_infix (some r) e =
      let found = infix_found t r e in (
        λ z. let tests = row_has (λ (q : InfixRow). q.names) infix_test (number t) infixes refl r e in
            let some_level = ltb-true 0 r.level (and_left (ltb 0 r.level) _ (and_left (ltb 0 r.level && ltb r.level (2 ^ level_bits)) _ tests)) in
            absurd (omega (arith, found.level)),
        λ f. found,
      )

  pub infix_none : infix_at (number t) ≡ 0 → infix_row t ≡ none
  unfolding infix_at
  infix_none h = (by_infix (infix_by (number t)) refl).0 h

  pub infix_some : (infix_at (number t) ≡ 0 → ⊥) → InfixFound t (infix_at (number t))
  unfolding infix_at
  infix_some h = (by_infix (infix_by (number t)) refl).1 h

-- an operator before its operand
abbrev prefix_test : PrefixRow → Bool
prefix_test r = (ltb 0 r.level && ltb r.level (2 ^ level_bits)) && (ltb (sole_kind r.role) Kind.limit && ltb (window_kind r.role) Kind.limit)

pub record PrefixFound (t : Token) (x : ℕ) : Type 0 where
  pub row : PrefixRow
  pub here : prefix_row t ≡ some row
  pub same_level : row.level ≡ level_at t
  pub level : level_field x ≡ level_at t
  pub role : role_field x ≡ role_number (role_at t)
  pub sole : sole_field x ≡ sole_kind (role_at t)
  pub window : window_field x ≡ window_kind (role_at t)
  pub code : prefix_field x ≡ role_code (role_at t)
  pub level_some : 0 < level_at t
  pub level_fits : level_at t < 2 ^ level_bits
  pub window-fits : window_field x < Kind.limit

role_small : (o : Role) → role_number o < 2 ^ role_bits
role_small (Plain p) = lit< tt
role_small Counted = lit< tt
role_small (Windowed q) = lit< tt
role_small (Folding q) = lit< tt

prefix_found : (t : Token) (r : PrefixRow) → prefix_by (number t) ≡ some r → PrefixFound t (prefix_word (some r))
unfolding level_at role_at
prefix_found t r e =
    let row = prefix_number t ∙ e in
    let tests = row_has (λ (q : PrefixRow). q.names) prefix_test (number t) prefixes refl r e in
    let levels = and_left (ltb 0 r.level && ltb r.level (2 ^ level_bits)) _ tests in
    let kinds = and_right (ltb 0 r.level && ltb r.level (2 ^ level_bits)) _ tests in
    let z = ltb-true 0 r.level (and_left (ltb 0 r.level) _ levels) in
    let a = ltb-true r.level (2 ^ level_bits) (and_right (ltb 0 r.level) _ levels) in
    let b = role_small r.role in
    let k = ltb-true (sole_kind r.role) Kind.limit (and_left (ltb (sole_kind r.role) Kind.limit) _ kinds) in
    let v = ltb-true (window_kind r.role) Kind.limit (and_right (ltb (sole_kind r.role) Kind.limit) _ kinds) in
    let x = prefix_word (some r) in
    let same : r.level ≡ level_in (prefix_row t) = ap level_in (sym row) in
    let role_same : r.role ≡ role_in (prefix_row t) = ap role_in (sym row) in
    let dl : level_field x ≡ r.level = omega arith in
    let two = join Kind.kind_bits (role_code r.role) (window_kind r.role) in
    let three = join Kind.kind_bits two (sole_kind r.role) in
    let next : above role_shift x ≡ join role_bits three (role_number r.role) = omega arith in
    let dr : role_field x ≡ role_number r.role = ap (below role_bits) next ∙ below-join role_bits three b in
    let high : above sole_shift x ≡ three = omega arith in
    let ds : sole_field x ≡ sole_kind r.role = ap (below Kind.kind_bits) high ∙ below-join Kind.kind_bits two k in
    let higher : above window_shift x ≡ two = omega arith in
    let dw : window_field x ≡ window_kind r.role = ap (below Kind.kind_bits) higher ∙ below-join Kind.kind_bits (role_code r.role) v in
    let dc : prefix_field x ≡ role_code r.role = omega arith in
    record {
      row = r;
      here = row;
      same_level = same;
      level = dl ∙ same;
      role = dr ∙ ap role_number role_same;
      sole = ds ∙ ap sole_kind role_same;
      window = dw ∙ ap window_kind role_same;
      code = dc ∙ ap role_code role_same;
      level_some = subst (λ n. 0 < n) same z;
      level_fits = subst (λ n. n < 2 ^ level_bits) same a;
      window-fits = omega arith;
    }

module _ (t : Token) where
  by_prefix : (o : Option PrefixRow) → prefix_by (number t) ≡ o → (prefix_word o ≡ 0 → prefix_row t ≡ none) × ((prefix_word o ≡ 0 → ⊥) → PrefixFound t (prefix_word o))
  by_prefix none e = (λ _. prefix_number t ∙ e, λ f. absurd (f refl))
  by_prefix (some r) e =
      let found = prefix_found t r e in
      (λ z. let some_level = found.level_some in absurd (omega (arith, found.level)), λ f. found)

  pub prefix_none : prefix_at (number t) ≡ 0 → prefix_row t ≡ none
  unfolding prefix_at
  prefix_none h = (by_prefix (prefix_by (number t)) refl).0 h

  pub prefix_some : (prefix_at (number t) ≡ 0 → ⊥) → PrefixFound t (prefix_at (number t))
  unfolding prefix_at
  prefix_some h = (by_prefix (prefix_by (number t)) refl).1 h
