-- A refusal by the grammar rests on the tokens up to the refused one: no text whose tokens begin with them is accepted. Those before it do begin an accepted
-- list of tokens.
use Rattle.std.specs.Prelude.{ℕ, List, [], ◌∷◌, ◌++◌, Bool, true, false, ◌≡◌, refl, leb, length}
use Rattle.std.proofs.Common.{append-nil, sym, ap, ◌∙◌, subst, arith}
use Rattle.std.proofs.lemmas.Bool.{false≢true}
use Rattle.std.proofs.Math.Option.{Option, none, some}
use Rattle.node.specs.Result.{Result, Done, Refused, ◌>>=◌}
use Rattle.node.proofs.ResultLaws.{not_done, number_of, guard_other}
use Rattle.language.specs.Limits.{max_bytes}
use Rattle.language.specs.Tokens.{End, Wrong, Token, is_of, tokens}
use Rattle.language.specs.Tree.{Spec}
use Rattle.language.specs.Grammar.{Tokens, front}
use Rattle.language.specs.Sections.{spec_of}
use Rattle.language.specs.Places.{refuse_at, too_deep}
use Rattle.language.specs.Names.{not_visible, declared_again, too_many}
use Rattle.language.specs.Types.{wrong_type}
use Rattle.language.specs.Words.{wrong_words}
use Rattle.language.specs.Parsing.{no_token, too_many_tokens, well_formed, parsed}
use Rattle.language.proofs.Laws.Basics.Lists.{All, Any, all_any}
use Rattle.language.proofs.Laws.Basics.Results.{refusal_of}
use Rattle.language.proofs.Laws.Basics.Tests.{pick, leave, some_none}
use Rattle.language.proofs.Laws.Grammar.TokenLaws.{Ends, tokens-end}
use Rattle.language.proofs.Laws.Grammar.Parses.{parses}
use Rattle.language.proofs.Laws.Grammar.Lookahead.{Alike, Inner}
use Rattle.language.proofs.Laws.Grammar.SpecReads.{Refuses, spec_of_decides}

-- the last token is the text's end
abbrev pub Closed : Tokens → Type 0
Closed [] = ⊥
Closed (t ∷ []) = is_of End t ≡ true
Closed (t ∷ u ∷ us) = Closed (u ∷ us)

-- so it is for the tokens of every text in which each byte belongs to a token
ends-closed : (n : ℕ) (ts : Tokens) → Ends n ts → no_token ts ≡ none → Closed ts
ends-closed n [] h e = h
ends-closed n (t ∷ []) h e = go (is_of Wrong t) refl
  where
    go : (c : Bool) → is_of Wrong t ≡ c → is_of End t ≡ true
    go true z = absurd (some_none (sym (pick (is_of Wrong t) (some t.at) none z) ∙ e))
    go false z = (h z).0
ends-closed n (t ∷ u ∷ us) h e = ends-closed n (u ∷ us) h.2 (sym (leave (is_of Wrong t) (some t.at) (no_token (u ∷ us)) h.0) ∙ e)

pub tokens-closed : (text : List ℕ) → no_token (tokens text) ≡ none → Closed (tokens text)
tokens-closed text e = ends-closed (length text) (tokens text) (tokens-end text) e

-- tokens that are all taken hold no end
taken_open : (ts : Tokens) → All Inner ts → Closed ts → ⊥
taken_open [] h c = c
taken_open (t ∷ []) h c = false≢true (sym h.0 ∙ c)
taken_open (t ∷ u ∷ us) h c = taken_open (u ∷ us) h.1 c

-- a refused token, at the place p: whatever stands behind it
pub record Refusal (ts : Tokens) (p : ℕ) : Type 0 where
  pub before : Tokens
  pub token : Token
  pub behind : Tokens
  pub whole : ts ≡ before ++ (token ∷ behind)
  pub place : token.at ≡ p
  pub always : (us : Tokens) → spec_of (before ++ (token ∷ us)) ≡ Refused 4 p

-- a refused token such that the tokens before it begin an accepted list of tokens
pub record First (ts : Tokens) (p : ℕ) : Type 0 where
  pub refusal : Refusal ts p
  pub ending : Tokens
  pub tree : Spec
  pub begins : spec_of (refusal.before ++ ending) ≡ Done tree

pub first : (ts : Tokens) (p : ℕ) (s : Refuses ts p) → (ts ≡ s.before → ⊥) → First ts p
first ts p s further = go s.left s.whole s.place s.always
  where
    go : (vs : Tokens) → ts ≡ s.before ++ vs → p ≡ (front vs).at → ((ws : Tokens) → Alike vs ws → spec_of (s.before ++ ws) ≡ Refused 4 p) → First ts p
    go [] w z f = absurd (further (w ∙ append-nil s.before))
    go (t ∷ vs) w z f =
        record { refusal = record { before = s.before; token = t; behind = vs; whole = w; place = sym z; always = λ ws. f (t ∷ ws) refl }; ending = s.ending; tree = s.tree; begins = s.begins }

pub decided : (ts : Tokens) (number p : ℕ) → spec_of ts ≡ Refused number p → (number ≡ 4) × Refuses ts p
decided ts number p e = refusal_of e (spec_of_decides Any ts (all_any ts))

pub grammar_refuses-first : (ts : Tokens) (number p : ℕ) → Closed ts → spec_of ts ≡ Refused number p → (number ≡ 4) × First ts p
grammar_refuses-first ts number p c e = let d = decided ts number p e in let s = d.1 in (d.0, first ts p s (λ z. taken_open s.before s.inner (subst Closed z c)))

-- the grammar refuses with 4 alone, and what it refuses it refuses whatever comes
pub grammar_refuses : (ts : Tokens) (number p : ℕ) → Closed ts → spec_of ts ≡ Refused number p → (number ≡ 4) × Refusal ts p
grammar_refuses ts number p c e = let f = grammar_refuses-first ts number p c e in (f.0, f.1.refusal)

-- no text whose tokens begin with those up to a refused one is accepted
pub refused-never_accepted : (ts : Tokens) (p : ℕ) (r : Refusal ts p) (text : List ℕ) (us : Tokens) → tokens text ≡ r.before ++ (r.token ∷ us) → (x : Spec) → parsed text ≡ Done x → ⊥
refused-never_accepted ts p r text us e x d =
    not_done (sym (ap spec_of e ∙ r.always us) ∙ (parses d).read)

-- which of the refusals in a row was met
refuse_other : {A : Type 0} (m : ℕ) (o : Option ℕ) (r : Result A) {number p : ℕ} → (m ≡ number → ⊥) → refuse_at m o r ≡ Refused number p → (o ≡ none) × (r ≡ Refused number p)
unfolding refuse_at number_of
refuse_other m none r f e = (refl, e)
refuse_other m (some q) r f e = absurd (f (ap number_of e))

-- the tree's own refusals are not 4
well_formed_other : (x : Spec) (p : ℕ) → well_formed x ≡ Refused 4 p → ⊥
well_formed_other x p e =
    let e₅ = (refuse_other 5 (too_deep x) _ (omega arith) e).1 in
    let e₆ = (refuse_other 6 (not_visible x) _ (omega arith) e₅).1 in
    let e₇ = (refuse_other 7 (declared_again x) _ (omega arith) e₆).1 in
    let e₈ = (refuse_other 8 (too_many x) _ (omega arith) e₇).1 in
    let e₉ = (refuse_other 9 (wrong_type x) _ (omega arith) e₈).1 in
    not_done (sym (refuse_other 10 (wrong_words x) _ (omega arith) e₉).1)

grammar_only : (r : Result Spec) (p : ℕ) → r >>= well_formed ≡ Refused 4 p → r ≡ Refused 4 p
unfolding ◌>>=◌
grammar_only (Done x) p e = absurd (well_formed_other x p e)
grammar_only (Refused number q) p e = e

-- a text refused with 4: no text that begins with its tokens up to the refused one is accepted, and the tokens before it begin an accepted list
pub parsed-refuses-first : (text : List ℕ) (p : ℕ) → parsed text ≡ Refused 4 p → First (tokens text) p
unfolding parsed
parsed-refuses-first text p e =
    let ts = tokens text in
    let e₂ = refuse_other 2 (no_token ts) _ (omega arith) (guard_other (leb (length text) max_bytes) 1 max_bytes _ (omega arith) e) in
    let e₃ = refuse_other 3 (too_many_tokens ts) (spec_of ts >>= well_formed) (omega arith) e₂.1 in
    (grammar_refuses-first ts 4 p (tokens-closed text e₂.0) (grammar_only (spec_of ts) p e₃.1)).1
