-- Readers of one token go about it as ReaderLaws says. A token that may follow an expression is no operator of its level, and no `[`.
use Rattle.std.specs.Prelude.{ℕ, ◌≤◌, List, [], ◌∷◌, Bool, true, false, ◌≡◌, refl, eqb, leb}
use Prim.Native.String.{String}
use Rattle.std.proofs.Math.Option.{Option, none, some}
use Rattle.std.proofs.Common.{sym, ap, ◌∙◌, subst, arith, leb-true, le-leb}
use Rattle.language.specs.Bytes.{ascii, same, is_one_of}
use Rattle.language.specs.Tokens.{Class, Fixed, End, Token, code, is_of, is}
use Rattle.language.specs.Operators.{InfixRow, infixes, loosest}
use Rattle.language.specs.Grammar.{Tokens, front, expect, expect_of, named, infix_of, allowed, sign_of}
use Rattle.language.proofs.Laws.Basics.Tests.{leave, pick, and_left, some_none, same_refl}
use Rattle.language.proofs.Laws.Grammar.Lookahead.{Inner, inner_of}
use Rattle.language.proofs.Laws.Grammar.ReaderLaws.{Reads}
use Rattle.language.proofs.Laws.Grammar.ReadersInRow.{choose, one, one_of}

-- the signs of membership
abbrev pub among : List String
among = "IN" ∷ "ELEM" ∷ "<-" ∷ []

pub is-inner : (s : String) (t : Token) → is s t ≡ true → Inner t
is-inner s t e = inner_of Fixed t refl (and_left (is_of Fixed t) (same (ascii s) t.text) e)

pub named-inner : (ns : List String) (t : Token) → named ns t ≡ true → Inner t
named-inner ns t e = inner_of Fixed t refl (and_left (is_of Fixed t) (is_one_of ns t.text) e)

-- a sign or a word of the format, and a token of another class
abbrev pub sign : String → Token
sign s = record { class = Fixed; at = 0; text = ascii s }

abbrev pub plain : Class → Token
plain c = record { class = c; at = 0; text = ascii "a" }

abbrev pub Is : Token → Token → Type 0
Is u t = t ≡ u

-- a token that may follow an expression whose operators have levels up to m
pub record Follows (m : ℕ) (t : Token) : Type 0 where
  pub operator : allowed m (infix_of infixes t) ≡ none
  pub index : is "[" t ≡ false
  pub member : named among t ≡ false

pub follows_at : {m : ℕ} {u : Token} → Follows m u → (t : Token) → Is u t → Follows m t
follows_at {m} h t e = subst (Follows m) (sym e) h

-- the signs that close sets, lines and indices
pub brace : Follows loosest (sign "}")
brace = record { operator = refl; index = refl; member = refl }

pub bracket : Follows loosest (sign "]")
bracket = record { operator = refl; index = refl; member = refl }

allowed_less : (m n : ℕ) (o : Option InfixRow) → m ≤ n → allowed n o ≡ none → allowed m o ≡ none
allowed_less m n none h e = refl
allowed_less m n (some r) h e = go (leb r.level m) refl
  where
    go : (c : Bool) → leb r.level m ≡ c → allowed m (some r) ≡ none
    go true z = let l = leb-true r.level m z in absurd (some_none (sym (pick (leb r.level n) (some r) none (le-leb r.level n (omega arith))) ∙ e))
    go false z = leave (leb r.level m) (some r) none z

pub tighter : (m n : ℕ) → m ≤ n → (t : Token) → Follows n t → Follows m t
tighter m n h t e = record { operator = allowed_less m n (infix_of infixes t) h e.operator; index = e.index; member = e.member }

module _ {P : Token → Type 0} {W : Token → Type 0} (b : ℕ) (ts : Tokens) where
  pub expect-reads : (s : String) → Reads Token P P (Is (sign s)) W b 1 ts (expect s ts) (λ k us. expect s us)
  expect-reads s = one_of (is s) (λ t. t) (sign s) ts (same_refl (ascii s)) (is-inner s) (λ t p. p)

  pub expect_of-reads : (c : Class) → eqb (code End) (code c) ≡ false → is_of c (plain c) ≡ true → Reads Token P P (Is (plain c)) W b 1 ts (expect_of c ts) (λ k us. expect_of c us)
  expect_of-reads c z h = one_of (is_of c) (λ t. t) (plain c) ts h (λ t e. inner_of c t z e) (λ t p. p)

  pub sign_of_reads : Reads (Token × Bool) P (λ s. P s.0) (Is (sign "<=")) W b 1 ts (sign_of ts) (λ k us. sign_of us)
  sign_of_reads =
      let less : List String = "<" ∷ "LE" ∷ [] in
      let at_most : List String = "<=" ∷ "LEQ" ∷ [] in
      choose (named less) (λ t e. ap (named less) e) (λ e. one ts (λ t. (t, true)) (named-inner less (front ts) e) (λ t p. p))
      (λ _. one_of (named at_most) (λ t. (t, false)) (sign "<=") ts refl (named-inner at_most) (λ t p. p))
