-- A stored expression's kind, size and place, and its token's number.
use Rattle.std.specs.Prelude.{ℕ, suc, ◌<◌, false, List, [], ◌∷◌, ◌≡◌, length}
use Rattle.std.proofs.Math.Option.{Option, some}
use Rattle.std.proofs.Common.{sym, ◌∙◌, subst, arith, length-append}
use Rattle.std.proofs.Math.Path.{ap}
use Rattle.words.specs.Words.{word_at}
use Rattle.language.specs.Tokens.{Token, tokens}
use Rattle.language.specs.Tree.{Expr}
use Rattle.language.specs.Grammar.{Tokens}
use Rattle.lexer.specs.Numbers.{number}
use Rattle.lexer.specs.Stored.{number_in, offset_in}
use Rattle.lexer.specs.LexingLaws.{number_at_lem, offset_at}
use Rattle.entries.specs.Flat.{Entry, under, each, flat}
use Rattle.entries.specs.Stored.{EndsAt, At}
use Rattle.entries.specs.StoredLaws.{entry-kind, entry-index, ends-own, expr-size}
use Rattle.spellings.specs.Interned.{Lexed}
use Rattle.language.specs.Braces.{Proper}
use Rattle.traversal.specs.Parts.{Whole, flat_part, operands_of, token_of}
use Rattle.traversal.specs.PartLaws.{Regular, outside, regular}
use Rattle.operands.specs.Entries.{kind_at, size_at, place_at, number_at, own_kind}

some_entry : (n : ℕ) (t : Option Token) (es : List Entry) → 0 < length (under n t es)
some_entry n t es = let l = length-append es (record { kind = n; token = t; size = suc (length es) } ∷ []) in omega arith

-- the entry of an expression outside braces, behind those of its operands
abbrev unbound : Token → Unit {0} → Unit {0}
unbound t y = y

abbrev own_token : Expr → Option Token
own_token e = token_of {N = Unit {0}} (Whole tt e)

abbrev before : Expr → List Entry
before e = each flat_part (operands_of unbound (Whole tt e))

own_entry_lem : (e : Expr) → Proper false e → flat e ≡ under (own_kind e) (own_token e) (before e)
own_entry_lem e p = (outside (Regular unbound) e (Whole tt e) p (regular unbound false tt e p)).entries

pub has_entry : (e : Expr) → Proper false e → 0 < length (flat e)
has_entry e p = subst (λ (es : List Entry). 0 < length es) (sym (own_entry_lem e p)) (some_entry (own_kind e) (own_token e) (before e))

module _ {w : List ℕ} {ts : Tokens} {k : ℕ} where
  pub kind_of_lem : (n : ℕ) (t : Option Token) (es : List Entry) → EndsAt w ts k (under n t es) → kind_at w k ≡ n
  unfolding kind_at
  kind_of_lem n t es h = entry-kind (ends-own n t es h)

  pub expr-kind : (e : Expr) → Proper false e → At w ts k e → kind_at w k ≡ own_kind e
  expr-kind e p h = kind_of_lem (own_kind e) (own_token e) (before e) (subst (EndsAt w ts k) (own_entry_lem e p) h)

  pub size_is : (e : Expr) → 0 < length (flat e) → At w ts k e → size_at w k ≡ length (flat e)
  unfolding size_at
  size_is e l h = expr-size e l h

-- the place of an entry's token
module _ {text w : List ℕ} {count k : ℕ} (x : Lexed text w count) where
  pub place_is : (n : ℕ) (t : Token) (es : List Entry) → EndsAt w (tokens text) k (under n (some t) es) → place_at w k ≡ t.at
  unfolding place_at
  place_is n t es h =
      let o = ends-own n (some t) es h in
      ap (λ i. offset_in (word_at w i)) (entry-index o) ∙ offset_at x.lexical x.stored o.index o.keeps.1 ∙ ap (λ u. u.at) o.keeps.0

  -- and its number
  pub number_is : (n : ℕ) (t : Token) (es : List Entry) → EndsAt w (tokens text) k (under n (some t) es) → number_at w k ≡ number t
  unfolding number_at
  number_is n t es h =
      let o = ends-own n (some t) es h in
      ap (λ i. number_in (word_at w i)) (entry-index o) ∙ number_at_lem x.lexical x.stored o.index o.keeps.1 ∙ ap number o.keeps.0
