-- The number of an entry's token gives the code of the operator that the token spells (crate operators).
use Rattle.std.specs.Prelude.{ℕ, Bool, List, ◌≡◌, eqb}
use Rattle.std.proofs.Math.Bool.{true, false}
use Rattle.std.proofs.Math.Option.{Option, none, some}
use Rattle.std.proofs.Math.Path.{refl, ap}
use Rattle.std.proofs.Common.{sym, ◌∙◌}
use Rattle.language.specs.Tokens.{Token, tokens, is}
use Rattle.language.specs.Operators.{Infix, Prefix, Measures, Size, Window, FinallyIn, GloballyIn, Big, Role, Plain, Counted, Windowed, Folding, InfixRow, PrefixRow}
use Rattle.language.specs.Spelling.{infix_in, SpellsInfix, prefix_in, prefix_by, SpellsPrefix, window_in, window_by, SpellsWindow, big_in, big_by, SpellsBig, SpellsTruth, SpellsSign}
use Rattle.language.proofs.Laws.Basics.Tests.{some_none}
use Rattle.lexer.specs.Numbers.{number, fixed}
use Rattle.lexer.specs.NumberLaws.{is_number}
use Rattle.entries.specs.Flat.{Entry, under}
use Rattle.entries.specs.Stored.{EndsAt}
use Rattle.spellings.specs.Interned.{Lexed}
use Rattle.operators.specs.Readers.{infix_row, operator_in, operator_at, prefix_row, role_in, role_at}
use Rattle.operators.specs.Codes.{infix_code, prefix_code, big_code, role_code}
use Rattle.operators.specs.Fields.{prefix_field}
use Rattle.operators.specs.Signs.{strict_at}
use Rattle.operators.specs.SignLaws.{strict-number}
use Rattle.operators.specs.Tables.{prefix_word, prefix_at, infix_code_at, prefix_code_at}
use Rattle.operators.specs.TableLaws.{prefix_number}
use Rattle.operators.specs.RowLaws.{infix_none, infix_some, prefix_none, prefix_some}
use Rattle.operands.specs.Entries.{number_at}
use Rattle.operands.specs.ClassLaws.{number_is}

-- the code of an operator, if there is one
abbrev code_of : {A : Type 0} → (A → ℕ) → Option A → ℕ
code_of f none = 0
code_of f (some o) = f o

-- between operands
infix_row_lem : (r : Option InfixRow) {o : Infix} → infix_in r ≡ some o → infix_code (operator_in r) ≡ infix_code o
infix_row_lem none e = absurd (some_none (sym e))
infix_row_lem (some r) e = ap (code_of infix_code) e

infix_code_lem : (t : Token) {o : Infix} → SpellsInfix t o → infix_code_at (number t) ≡ infix_code o
unfolding infix_row operator_at
infix_code_lem t e = (infix_some t (λ z. some_none (sym e ∙ ap infix_in (infix_none t z)))).code ∙ infix_row_lem (infix_row t) e

-- before an operand: alone, with a window, a big operator
prefix_role : (q : Role) {o : Prefix} → prefix_in q ≡ some o → role_code q ≡ prefix_code o
prefix_role (Plain p) e = ap (code_of prefix_code) e
prefix_role Counted e = ap (code_of prefix_code) e
prefix_role (Windowed FinallyIn) e = ap (code_of prefix_code) e
prefix_role (Windowed GloballyIn) e = ap (code_of prefix_code) e
prefix_role (Folding b) e = absurd (some_none (sym e))

window_role : (q : Role) {o : Window} → window_in q ≡ some o → role_code q ≡ role_code (Windowed o)
window_role (Plain p) e = absurd (some_none (sym e))
window_role Counted e = absurd (some_none (sym e))
window_role (Windowed w) e = ap (code_of (λ (y : Window). role_code (Windowed y))) e
window_role (Folding b) e = absurd (some_none (sym e))

big_role : (q : Role) {o : Big} → big_in q ≡ some o → role_code q ≡ big_code o
big_role (Plain p) e = absurd (some_none (sym e))
big_role Counted e = absurd (some_none (sym e))
big_role (Windowed w) e = absurd (some_none (sym e))
big_role (Folding b) e = ap (code_of big_code) e

module _ (t : Token) where
  -- a token of the table
  role_code_lem : {r : PrefixRow} → prefix_row t ≡ some r → prefix_code_at (number t) ≡ role_code r.role
  unfolding role_at
  role_code_lem e = (prefix_some t (λ z. some_none (sym e ∙ prefix_none t z))).code ∙ ap (λ (y : Option PrefixRow). role_code (role_in y)) e

  -- a bar is none, and has the code of a size
  bar_code : prefix_row t ≡ none → prefix_code_at (number t) ≡ 0
  unfolding prefix_at
  bar_code e = ap (λ (y : Option PrefixRow). prefix_field (prefix_word y)) (sym (prefix_number t) ∙ e)

  prefix_code_lem : {o : Prefix} → SpellsPrefix t o → prefix_code_at (number t) ≡ prefix_code o
  unfolding prefix_row
  prefix_code_lem {o} e = go (prefix_row t) refl e
    where
      size : (b : Bool) → elim b [ true ↦ some (Measures Size) | false ↦ none ] ≡ some o → 0 ≡ prefix_code o
      size true f = ap (code_of prefix_code) f
      size false f = absurd (some_none (sym f))

      go : (r : Option PrefixRow) → prefix_row t ≡ r → prefix_by r t ≡ some o → prefix_code_at (number t) ≡ prefix_code o
      go none h f = bar_code h ∙ size (is "|" t) f
      go (some r) h f = role_code_lem h ∙ prefix_role r.role f

  window-code : {o : Window} → SpellsWindow t o → prefix_code_at (number t) ≡ role_code (Windowed o)
  unfolding prefix_row
  window-code {o} e = go (prefix_row t) refl e
    where
      go : (r : Option PrefixRow) → prefix_row t ≡ r → window_by r ≡ some o → prefix_code_at (number t) ≡ role_code (Windowed o)
      go none h f = absurd (some_none (sym f))
      go (some r) h f = role_code_lem h ∙ window_role r.role f

  big_code_lem : {o : Big} → SpellsBig t o → prefix_code_at (number t) ≡ big_code o
  unfolding prefix_row
  big_code_lem {o} e = go (prefix_row t) refl e
    where
      go : (r : Option PrefixRow) → prefix_row t ≡ r → big_by r ≡ some o → prefix_code_at (number t) ≡ big_code o
      go none h f = absurd (some_none (sym f))
      go (some r) h f = role_code_lem h ∙ big_role r.role f

-- of an entry's token
module _ {text w : List ℕ} {count k : ℕ} (x : Lexed text w count) (n : ℕ) (t : Token) (es : List Entry) (h : EndsAt w (tokens text) k (under n (some t) es)) where
  pub infix_is : {o : Infix} → SpellsInfix t o → infix_code_at (number_at w k) ≡ infix_code o
  infix_is e = ap infix_code_at (number_is x n t es h) ∙ infix_code_lem t e

  pub prefix_is : {o : Prefix} → SpellsPrefix t o → prefix_code_at (number_at w k) ≡ prefix_code o
  prefix_is e = ap prefix_code_at (number_is x n t es h) ∙ prefix_code_lem t e

  pub window-is : {o : Window} → SpellsWindow t o → prefix_code_at (number_at w k) ≡ role_code (Windowed o)
  window-is e = ap prefix_code_at (number_is x n t es h) ∙ window-code t e

  pub big-is : {o : Big} → SpellsBig t o → prefix_code_at (number_at w k) ≡ big_code o
  big-is e = ap prefix_code_at (number_is x n t es h) ∙ big_code_lem t e

  pub truth-is : {b : Bool} → SpellsTruth t b → b ≡ eqb (number_at w k) (fixed "true")
  truth-is e = e ∙ is_number "true" t refl ∙ ap (λ (i : ℕ). eqb i (fixed "true")) (sym (number_is x n t es h))

  pub sign-is : {b : Bool} → SpellsSign t b → b ≡ strict_at (number_at w k)
  sign-is e = e ∙ strict-number t ∙ ap strict_at (sym (number_is x n t es h))
