-- What holds of the tokens of a text that refusals 1 to 3 let pass, how their stored words are read back, and that the tree is read from the tokens.
use Rattle.std.specs.Prelude.{ℕ, zero, suc, ◌^◌, ◌≤◌, ◌<◌, min, List, [], ◌∷◌, Bool, true, false, ◌≡◌, refl, leb, length, drop}
use Rattle.std.proofs.Math.Option.{Option, none, some}
use Rattle.std.proofs.Common.{sym, ap, ◌∙◌, subst, arith, leb-true, leb-false}
use Rattle.node.specs.Result.{Result, Done, ◌>>=◌, guard}
use Rattle.node.proofs.ResultLaws.{bind_at, guard-done, guard_bind}
use Rattle.words.specs.Words.{word_at}
use Rattle.language.specs.Limits.{max_bytes, max_tokens}
use Rattle.language.specs.Tokens.{Token, Wrong, is_of, tokens}
use Rattle.language.specs.Grammar.{front}
use Rattle.language.specs.Names.{place_of_first}
use Rattle.language.specs.Tree.{Spec}
use Rattle.language.specs.Places.{refuse_at}
use Rattle.language.specs.Sections.{spec_of}
use Rattle.language.specs.Parsing.{no_token, too_many_tokens, well_formed, parsed}
use Rattle.language.proofs.Laws.Basics.Lists.{All}
use Rattle.language.proofs.Laws.Basics.Tests.{some_none}
use Rattle.language.proofs.Laws.Basics.NoPlace.{refuse_at-done}
use Rattle.language.proofs.Laws.Grammar.TokenLaws.{Stands, tokens_stand}
use Rattle.lexer.specs.Numbers.{number}
use Rattle.lexer.specs.NumberLaws.{number_small}
use Rattle.lexer.specs.Stored.{offset_bits, longest, number_in, offset_in, length_in, TokensStored}
use Rattle.lexer.specs.StoredLaws.{number_word, offset_word, length-word}
use Rattle.lexer.specs.Lexing.{lexing, Lexical}

-- a list that refusal 3 lets pass, whatever the limit
few_tokens : (limit : ℕ) (ts : List Token) → ◌≡◌ {A = Option ℕ} (elim (leb (length ts) (suc limit)) [ true ↦ none | false ↦ place_of_first (drop limit ts) ]) none → length ts ≤ suc limit
few_tokens limit ts e = go (leb (length ts) (suc limit)) refl e
  where
    some_place : (n : ℕ) (us : List Token) → n < length us → place_of_first (drop n us) ≡ none → ⊥
    some_place n [] l p = omega arith
    some_place zero (u ∷ us) l p = some_none p
    some_place (suc n) (u ∷ us) l p = some_place n us (omega arith) p

    go : (b : Bool) → leb (length ts) (suc limit) ≡ b → ◌≡◌ {A = Option ℕ} (elim b [ true ↦ none | false ↦ place_of_first (drop limit ts) ]) none → length ts ≤ suc limit
    go true h p = leb-true (length ts) (suc limit) h
    go false h p = let l = leb-false (length ts) (suc limit) h in absurd (some_place limit ts (omega arith) p)

pub lexical : (text : List ℕ) (ts : List Token) → lexing text ≡ Done ts → Lexical text ts
unfolding lexing
lexical text ts e =
    let a = guard-done (leb (length text) max_bytes) 1 max_bytes _ e in
    let b = refuse_at-done 2 (no_token (tokens text)) _ a.1 in
    let c = refuse_at-done 3 (too_many_tokens (tokens text)) _ b.1 in
    record {
      whole = cc;
      short = leb-true (length text) max_bytes a.0;
      right = b.0;
      few = few_tokens max_tokens (tokens text) c.0;
    }

-- token i
pub front-all : (Q : Token → Type 0) (i : ℕ) (ts : List Token) → i < length ts → All Q ts → Q (front (drop i ts))
front-all Q i [] l h = absurd (omega arith)
front-all Q zero (t ∷ ts) l h = h.0
front-all Q (suc i) (t ∷ ts) l h = front-all Q i ts (omega arith) h.1

all_right : (ts : List Token) → no_token ts ≡ none → All (λ t. is_of Wrong t ≡ false) ts
all_right [] e = tt
all_right (t ∷ ts) e = go (is_of Wrong t) refl e (all_right ts)
  where
    go : (b : Bool) → is_of Wrong t ≡ b → ◌≡◌ {A = Option ℕ} (elim b [ true ↦ some t.at | false ↦ no_token ts ]) none
        → (no_token ts ≡ none → All (λ u. is_of Wrong u ≡ false) ts) → (is_of Wrong t ≡ false) × All (λ u. is_of Wrong u ≡ false) ts
    go true h p ih = absurd (some_none p)
    go false h p ih = (h, ih p)

module _ {text : List ℕ} {ts : List Token} (h : Lexical text ts) (i : ℕ) (l : i < length ts) where
  pub token-stands : Stands text (front (drop i ts))
  token-stands = front-all (Stands text) i ts l (subst (All (Stands text)) (sym h.whole) (tokens_stand text))

  pub token-right : is_of Wrong (front (drop i ts)) ≡ false
  token-right =
      front-all (λ t. is_of Wrong t ≡ false) i ts l (all_right ts (ap no_token h.whole ∙ h.right))

  pub token-number-small : number (front (drop i ts)) < 128
  token-number-small = number_small (front (drop i ts)) token-right token-stands.solid

  pub token_near : (front (drop i ts)).at < 2 ^ offset_bits
  token_near = let a = token-stands.inside in let b = h.short in omega arith

-- what is read back of token i
module _ {text w : List ℕ} {ts : List Token} (h : Lexical text ts) (s : TokensStored w ts) (i : ℕ) (l : suc i < length ts) where
  pub number_at_lem : number_in (word_at w i) ≡ number (front (drop i ts))
  number_at_lem = ap number_in (s.words i l) ∙ number_word (front (drop i ts)) (token_near h i (omega arith))

  pub offset_at : offset_in (word_at w i) ≡ (front (drop i ts)).at
  offset_at = ap offset_in (s.words i l) ∙ offset_word (front (drop i ts)) (token_near h i (omega arith))

  pub length_at : length_in (word_at w i) ≡ min longest (length (front (drop i ts)).text)
  length_at = ap length_in (s.words i l) ∙ length-word (front (drop i ts)) (token_near h i (omega arith))

refuse_at_then : {A B : Type 0} (number : ℕ) (o : Option ℕ) (r : Result A) (k : A → Result B) → refuse_at number o r >>= k ≡ refuse_at number o (r >>= k)
unfolding refuse_at ◌>>=◌
refuse_at_then number none r k = refl
refuse_at_then number (some p) r k = refl

-- the tree of a text is read from its tokens
pub parsed-lexed : (text : List ℕ) → lexing text >>= (λ ts. spec_of ts >>= well_formed) ≡ parsed text
unfolding lexing parsed
parsed-lexed text =
    let ts = tokens text in
    let k : List Token → Result Spec = λ us. spec_of us >>= well_formed in
    guard_bind (leb (length text) max_bytes) 1 max_bytes _ k
    ∙ ap (guard (leb (length text) max_bytes) 1 max_bytes)
    (refuse_at_then 2 (no_token ts) _ k
    ∙ ap (refuse_at 2 (no_token ts)) (refuse_at_then 3 (too_many_tokens ts) _ k ∙ ap (refuse_at 3 (too_many_tokens ts)) (bind_at ts k)))
