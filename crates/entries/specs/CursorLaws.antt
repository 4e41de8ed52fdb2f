-- What the cursor's methods answer of the tokens that the buffer holds.
use Rattle.std.specs.Prelude.{ℕ, zero, suc, ◌+◌, ◌≤◌, ◌<◌, ◌^◌, List, [], ◌∷◌, Bool, true, false, ◌≡◌, refl, ltb, eqb, drop, Ok}
use Rattle.std.proofs.Common.{sym, ap, ◌∙◌, add-one, arith, lt-ltb, le-ltb, ltb-true, ltb-false, eqb-true, eq-eqb, ne_eqb}
use Rattle.words.specs.Words.{word_at}
use Rattle.language.specs.Tokens.{End, Token, is_of}
use Rattle.language.proofs.Laws.Basics.Tests.{pick, leave}
use Rattle.language.specs.Grammar.{Tokens, front, rest}
use Rattle.lexer.specs.Numbers.{number}
use Rattle.lexer.specs.NumberLaws.{class_number_lem}
use Rattle.lexer.specs.Stored.{offset_bits, token_word, number_in, offset_in}
use Rattle.lexer.specs.StoredLaws.{number_word, offset_word}
use Rattle.entries.specs.declared.Cursor.{Cursor}
use Rattle.entries.specs.Cursors.{Ready, number_at, place_at, next_of, refused_at, expected}

-- a token, or the text's end
pub number_stored : (w : List ℕ) (c : Cursor) → c.at < c.count → number_at w c ≡ number_in (word_at w c.at)
number_stored w c h = pick (ltb c.at c.count) _ _ (lt-ltb c.at c.count h)

pub number-end : (w : List ℕ) (c : Cursor) → c.count ≤ c.at → number_at w c ≡ 0
number-end w c h = leave (ltb c.at c.count) _ _ (le-ltb c.at c.count h)

pub place_stored : (w : List ℕ) (c : Cursor) → c.at < c.count → place_at w c ≡ offset_in (word_at w c.at)
place_stored w c h = pick (ltb c.at c.count) _ _ (lt-ltb c.at c.count h)

pub place_end : (w : List ℕ) (c : Cursor) → c.count ≤ c.at → place_at w c ≡ c.end
place_end w c h = leave (ltb c.at c.count) _ _ (le-ltb c.at c.count h)

-- a token with a number other than 0 is not the text's end
pub before-end : (w : List ℕ) (c : Cursor) → 0 < number_at w c → c.at < c.count
before-end w c h = go (ltb c.at c.count) refl
  where
    go : (b : Bool) → ltb c.at c.count ≡ b → c.at < c.count
    go true e = ltb-true c.at c.count e
    go false e = let z : number_at w c ≡ 0 = number-end w c (ltb-false c.at c.count e) in absurd (omega arith)

-- the number asked for, or another one
pub expected-here : (w : List ℕ) (c : Cursor) (k : ℕ) → number_at w c ≡ k → expected w c k ≡ Ok (next_of c)
expected-here w c k e = pick (eqb (number_at w c) k) _ _ (eq-eqb (number_at w c) k e)

pub expected-not : (w : List ℕ) (c : Cursor) (k : ℕ) → (number_at w c ≡ k → ⊥) → expected w c k ≡ refused_at w c
expected-not w c k e = leave (eqb (number_at w c) k) _ _ (ne_eqb (number_at w c) k e)

-- the token behind
pub drop-next : (n : ℕ) (ts : Tokens) → drop (n + 1) ts ≡ rest (drop n ts)
drop-next n ts = ap (λ k. drop k ts) (add-one n) ∙ behind n ts
  where
    behind : (k : ℕ) (us : Tokens) → drop (suc k) us ≡ rest (drop k us)
    behind zero [] = refl
    behind zero (t ∷ us) = refl
    behind (suc k) [] = refl
    behind (suc k) (t ∷ us) = behind k us

module _ {ts : Tokens} {w : List ℕ} {c : Cursor} (ready : Ready ts w c) where
  abbrev here : Token
  here = front (drop c.at ts)

  near : here.at < 2 ^ offset_bits
  near = omega (arith, ready.tells.places c.at, ready.fits.short)

  stored : c.at < c.count → word_at w c.at ≡ token_word here
  stored h = ready.tells.stored.words c.at (omega (arith, ready.tells.total))

  -- the number and the place of the next token
  pub ready-number : number_at w c ≡ number here
  ready-number = go (ltb c.at c.count) refl
    where
      go : (b : Bool) → ltb c.at c.count ≡ b → number_at w c ≡ number here
      go true e =
          let h = ltb-true c.at c.count e in
          number_stored w c h ∙ ap number_in (stored h) ∙ number_word here near
      go false e =
          let h = ltb-false c.at c.count e in
          let last : c.at ≡ c.count = omega (arith, ready.fits.inside) in
          number-end w c h ∙ sym (eqb-true (number here) 0 (sym (class_number_lem End here refl) ∙ ap (λ n. is_of End (front (drop n ts))) last ∙ ready.tells.last))

  pub ready-place : place_at w c ≡ here.at
  ready-place = go (ltb c.at c.count) refl
    where
      go : (b : Bool) → ltb c.at c.count ≡ b → place_at w c ≡ here.at
      go true e =
          let h = ltb-true c.at c.count e in
          place_stored w c h ∙ ap offset_in (stored h) ∙ offset_word here near
      go false e =
          let h = ltb-false c.at c.count e in
          let last : c.at ≡ c.count = omega (arith, ready.fits.inside) in
          place_end w c h ∙ sym ready.tells.last-place ∙ ap (λ n. (front (drop n ts)).at) (sym last)

  -- past a token
  pub ready-next : c.at < c.count → Ready ts w (next_of c)
  ready-next h =
      record {
        fits = record { room = ready.fits.room; few = ready.fits.few; short = ready.fits.short; inside = omega arith };
        tells = ready.tells;
        less = omega (arith, ready.less);
      }
