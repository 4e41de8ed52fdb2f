-- The rows by number are the grammar's rows of the token; a number that is none of the names' has no row.
use Rattle.std.specs.Prelude.{ℕ, Bool, ◌&&◌, ◌||◌, ◌≡◌, refl}
use Prim.Native.String.{String}
use mathlib.Core.List.{List, [], ◌∷◌}
use Rattle.std.proofs.Math.Bool.{true, false}
use Rattle.std.proofs.Math.Option.{Option, none, some}
use Rattle.std.proofs.Common.{sym, ◌∙◌, ne_eqb}
use Rattle.std.proofs.Math.Path.{ap}
use Rattle.language.specs.Tokens.{Token}
use Rattle.language.specs.Operators.{InfixRow, infixes, PrefixRow, prefixes}
use Rattle.language.specs.Grammar.{named, infix_of, prefix_of}
use Rattle.language.proofs.Laws.Basics.Tests.{and_left, and_right, leave}
use Rattle.lexer.specs.Numbers.{number, fixed, numbered}
use Rattle.lexer.specs.NumberLaws.{known, named-number}
use Rattle.operators.specs.Readers.{infix_row, prefix_row}
use Rattle.operators.specs.Tables.{row_by, infix_by, prefix_by, infix_word, prefix_word, infix_at, prefix_at}

-- the number is that of no name, as the last arm of a `match` knows it that has one for each name in their order; `before` is what it knows by arms before them
abbrev NoName : Type 0 → List String → ℕ → Type 0
NoName before [] n = before
NoName before (s ∷ ss) n = NoName (before × (n ≡ fixed s → ⊥)) ss n

not-numbered : (before : Type 0) (ss : List String) (n : ℕ) → NoName before ss n → before × (numbered ss n ≡ false)
not-numbered before [] n h = (h, refl)
not-numbered before (s ∷ ss) n h =
    let later = not-numbered (before × (n ≡ fixed s → ⊥)) ss n h in
    (later.0.0, ap (λ b. b || numbered ss n) (ne_eqb n (fixed s) later.0.1) ∙ later.1)

module _ {R : Type 0} (names : R → List String) where
  good : List R → Bool
  good [] = true
  good (r ∷ rs) = known (names r) && good rs

  -- nor of one in the rows
  abbrev NoRow : Type 0 → List R → ℕ → Type 0
  NoRow before [] n = before
  NoRow before (r ∷ rs) n = NoRow (NoName before (names r) n) rs n

  none_found : (before : Type 0) (rs : List R) (n : ℕ) → NoRow before rs n → before × (row_by names rs n ≡ none)
  none_found before [] n h = (h, refl)
  none_found before (r ∷ rs) n h =
      let later = none_found (NoName before (names r) n) rs n h in
      let here = not-numbered before (names r) n later.0 in
      (here.0, leave (numbered (names r) n) _ _ here.1 ∙ later.1)

  -- a search by the token's names is one by its number
  module _ (find : List R → Token → Option R) (t : Token) (nothing : find [] t ≡ none)
      (step : (r : R) (rs : List R) → find (r ∷ rs) t ≡ elim (named (names r) t) [ true ↦ some r | false ↦ find rs t ]) where
    find-number : (rs : List R) → good rs ≡ true → find rs t ≡ row_by names rs (number t)
    unfolding good
    find-number [] h = nothing
    find-number (r ∷ rs) h =
        step r rs
        ∙ ap (λ (b : Bool). elim b [ true ↦ some r | false ↦ find rs t ]) (named-number (names r) t (and_left (known (names r)) (good rs) h))
        ∙ ap (λ (o : Option R). elim (numbered (names r) (number t)) [ true ↦ some r | false ↦ o ]) (find-number rs (and_right (known (names r)) (good rs) h))

pub infix_number : (t : Token) → infix_row t ≡ infix_by (number t)
unfolding infix_row good
infix_number t = find-number (λ (r : InfixRow). r.names) infix_of t refl (λ r rs. refl) infixes refl

pub prefix_number : (t : Token) → prefix_row t ≡ prefix_by (number t)
unfolding prefix_row good
prefix_number t = find-number (λ (r : PrefixRow). r.names) prefix_of t refl (λ r rs. refl) prefixes refl

pub infix_other : (n : ℕ) → NoRow (λ (r : InfixRow). r.names) (Unit {0}) infixes n → 0 ≡ infix_at n
unfolding infix_at
infix_other n h = ap infix_word (sym (none_found (λ (r : InfixRow). r.names) (Unit {0}) infixes n h).1)

pub prefix_other : (n : ℕ) → NoRow (λ (r : PrefixRow). r.names) (Unit {0}) prefixes n → 0 ≡ prefix_at n
unfolding prefix_at
prefix_other n h = ap prefix_word (sym (none_found (λ (r : PrefixRow). r.names) (Unit {0}) prefixes n h).1)
