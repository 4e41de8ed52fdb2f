-- The definition's tokens one piece at a time, at a place of the text.
use Prim.Native.Nat.{ℕ, zero, suc, ◌+◌, ◌-◌, ◌≤◌, ◌<◌}
use mathlib.Core.List.{List, [], ◌∷◌}
use mathlib.Core.Bool.{Bool, true, false, false≢true}
use mathlib.Core.Path.{◌≡◌, refl, sym, ap, ap₂, ◌∙◌, subst}
use lib.ListN.{length, get_or, take, drop, length-drop}
use lib.Seq.{drop-cons, drop-drop}
use native.Mathlib.Nat.{add-zero}
use native.Mathlib.Omega.{arith}
use Rattle.language.specs.Tokens.{Wrong, Blank, Token, is_of, Piece, piece_at, enumerating_after, lex}
use Rattle.language.proofs.Laws.Basics.Tests.{pick, leave}
use Rattle.language.proofs.Laws.Grammar.PieceLaws.{is_class, piece_at-sound}
use Rattle.language.proofs.Laws.Grammar.EveryToken.{pieces}
use Rattle.lexer.proofs.Choices.{refute, affirm}

-- bytes of the piece before are passed over
lex_skip : (e : Bool) (at k : ℕ) (s : List ℕ) → k ≤ length s → lex e at k s ≡ lex e (at + k) 0 (drop k s)
lex_skip e at zero s h = ap (λ m. lex e m 0 s) (sym (add-zero at))
lex_skip e at (suc k) [] h = absurd (omega arith)
lex_skip e at (suc k) (b ∷ s) h =
    let j : suc at + k ≡ at + suc k = omega arith in
    lex_skip e (suc at) k s (omega arith) ∙ ap (λ m. lex e m 0 (drop k s)) j

-- what begins no token has size 0
abbrev Empty : Piece → Type 0
Empty p = is_class Wrong p ≡ true → p.size ≡ 0

wrong-empty : (e : Bool) (b : ℕ) (s : List ℕ) → Empty (piece_at e (b ∷ s))
wrong-empty e b s = pieces Empty b s (record {
  blank = λ _ w. absurd (false≢true w);
  quoted = λ _ w. absurd (false≢true w);
  fixed = λ _ w. absurd (false≢true w);
  wrong = λ _. refl;
  name = λ _ _ w. absurd (false≢true w);
  marks = λ w. absurd (false≢true w);
  numeral = λ w. absurd (false≢true w);
}) e

-- the token of the piece at the front
abbrev pub token_of : Bool → ℕ → List ℕ → Token
token_of e at s = record { class = (piece_at e s).class; at = at; text = take (piece_at e s).size s }

past-piece : (e : Bool) (at n b : ℕ) (s : List ℕ) → 1 ≤ n → n ≤ length (b ∷ s) → lex e (suc at) (n - 1) s ≡ lex e (at + n) 0 (drop n (b ∷ s))
past-piece e at zero b s l h = absurd (omega arith)
past-piece e at (suc n) b s l h =
    let i : suc n - 1 ≡ n = omega arith in
    let j : suc at + n ≡ at + suc n = omega arith in
    ap (λ m. lex e (suc at) m s) i ∙ lex_skip e (suc at) n s (omega arith) ∙ ap (λ m. lex e m 0 (drop n s)) j

module _ (e : Bool) (at b : ℕ) (s : List ℕ) where
  abbrev piece : Piece
  piece = piece_at e (b ∷ s)

  front-wrong : is_of Wrong (token_of e at (b ∷ s)) ≡ true → lex e at 0 (b ∷ s) ≡ token_of e at (b ∷ s) ∷ []
  front-wrong w = pick (is_of Wrong (token_of e at (b ∷ s))) _ _ w

  front-blank : is_of Wrong (token_of e at (b ∷ s)) ≡ false → is_of Blank (token_of e at (b ∷ s)) ≡ true → lex e at 0 (b ∷ s) ≡ lex e (at + piece.size) 0 (drop piece.size (b ∷ s))
  front-blank w k =
      leave (is_of Wrong (token_of e at (b ∷ s))) _ _ w ∙ pick (is_of Blank (token_of e at (b ∷ s))) _ _ k
      ∙ past-piece e at piece.size b s ((piece_at-sound e b s).some w) (piece_at-sound e b s).fits

  front-token : is_of Wrong (token_of e at (b ∷ s)) ≡ false → is_of Blank (token_of e at (b ∷ s)) ≡ false
      → lex e at 0 (b ∷ s) ≡ token_of e at (b ∷ s) ∷ lex (enumerating_after e (token_of e at (b ∷ s))) (at + piece.size) 0 (drop piece.size (b ∷ s))
  front-token w k =
      leave (is_of Wrong (token_of e at (b ∷ s))) _ _ w ∙ leave (is_of Blank (token_of e at (b ∷ s))) _ _ k
      ∙ ap (λ ts. token_of e at (b ∷ s) ∷ ts) (past-piece (enumerating_after e (token_of e at (b ∷ s))) at piece.size b s ((piece_at-sound e b s).some w) (piece_at-sound e b s).fits)

-- at a place of the text, by the size n of the piece there
module _ (e : Bool) (text : List ℕ) (at : ℕ) (inside : at < length text) (n : ℕ) (size : n ≡ (piece_at e (drop at text)).size) where
  abbrev met : Token
  met = token_of e at (drop at text)

  here : drop at text ≡ get_or text at 0 ∷ drop (suc at) text
  here = drop-cons text at 0 inside

  later : drop (piece_at e (drop at text)).size (drop at text) ≡ drop (at + n) text
  later = drop-drop _ at text ∙ ap (λ m. drop (at + m) text) (sym size)

  pub piece-fits : at + n ≤ length text
  piece-fits =
      let f = subst (λ s. (piece_at e s).size ≤ length s) (sym here) (piece_at-sound e (get_or text at 0) (drop (suc at) text)).fits in
      omega (arith, length-drop at text)

  pub piece-wrong : n ≡ 0 → is_of Wrong met ≡ true
  piece-wrong z =
      let some : is_of Wrong met ≡ false → 1 ≤ (piece_at e (drop at text)).size =
      subst (λ s. is_of Wrong (token_of e at s) ≡ false → 1 ≤ (piece_at e s).size) (sym here) (piece_at-sound e (get_or text at 0) (drop (suc at) text)).some in
      affirm (is_of Wrong met) (λ w. let l = some w in omega arith)

  pub piece-right : (n ≡ 0 → ⊥) → is_of Wrong met ≡ false
  piece-right z =
      let none : is_of Wrong met ≡ true → (piece_at e (drop at text)).size ≡ 0 =
      subst (λ s. is_of Wrong (token_of e at s) ≡ true → (piece_at e s).size ≡ 0) (sym here) (wrong-empty e (get_or text at 0) (drop (suc at) text)) in
      refute (is_of Wrong met) (λ w. z (size ∙ none w))

  pub step-wrong : n ≡ 0 → lex e at 0 (drop at text) ≡ met ∷ []
  step-wrong z = subst (λ s. is_of Wrong (token_of e at s) ≡ true → lex e at 0 s ≡ token_of e at s ∷ []) (sym here) (front-wrong e at (get_or text at 0) (drop (suc at) text)) (piece-wrong z)

  pub step-blank : (n ≡ 0 → ⊥) → is_of Blank met ≡ true → lex e at 0 (drop at text) ≡ lex e (at + n) 0 (drop (at + n) text)
  step-blank z k =
      subst (λ s. is_of Wrong (token_of e at s) ≡ false → is_of Blank (token_of e at s) ≡ true → lex e at 0 s ≡ lex e (at + (piece_at e s).size) 0 (drop (piece_at e s).size s))
      (sym here) (front-blank e at (get_or text at 0) (drop (suc at) text)) (piece-right z) k
      ∙ ap₂ (λ m s. lex e (at + m) 0 s) (sym size) later

  pub step-token : (n ≡ 0 → ⊥) → is_of Blank met ≡ false → lex e at 0 (drop at text) ≡ met ∷ lex (enumerating_after e met) (at + n) 0 (drop (at + n) text)
  step-token z k =
      subst (λ s. is_of Wrong (token_of e at s) ≡ false → is_of Blank (token_of e at s) ≡ false
      → lex e at 0 s ≡ token_of e at s ∷ lex (enumerating_after e (token_of e at s)) (at + (piece_at e s).size) 0 (drop (piece_at e s).size s))
      (sym here) (front-token e at (get_or text at 0) (drop (suc at) text)) (piece-right z) k
      ∙ ap₂ (λ m s. met ∷ lex (enumerating_after e met) (at + m) 0 s) (sym size) later
