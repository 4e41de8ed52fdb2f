-- Laws of the tokens of a text: each lies in the text and is its bytes there, none overlaps the next, and the last is the text's end or a wrong byte.
use Rattle.std.specs.Prelude.{ℕ, zero, suc, ◌+◌, ◌-◌, ◌≤◌, List, [], ◌∷◌, ◌++◌, Bool, true, false, ◌≡◌, refl, eqb, length, take, drop}
use Rattle.std.proofs.lemmas.Bool.{false≢true}
use Rattle.std.proofs.Common.{sym, ap, ◌∙◌, subst, length-take-le, arith, eqb-true}
use Rattle.language.specs.Limits.{max_name}
use Rattle.language.specs.Tokens.{Name, End, Wrong, Blank, code, Token, is_of, Piece, piece_at, enumerating_after, lex, tokens}
use Rattle.language.proofs.Laws.Basics.Lists.{All}
use Rattle.language.proofs.Laws.Basics.Tests.{split}
use Rattle.language.proofs.Laws.Grammar.PieceLaws.{Sound, piece_at-sound}

-- a token of a text
pub record Stands (text : List ℕ) (t : Token) : Type 0 where
  pub inside : t.at + length t.text ≤ length text
  pub bytes : t.text ≡ take (length t.text) (drop t.at text)
  pub some : is_of Wrong t ≡ false → is_of End t ≡ false → 1 ≤ length t.text
  pub short : is_of Name t ≡ true → length t.text ≤ max_name
  pub solid : is_of Blank t ≡ false

-- every token begins at or after `from`, and the next where it ends or later
abbrev pub Rising : ℕ → List Token → Type 0
Rising from [] = Unit {0}
Rising from (t ∷ ts) = (from ≤ t.at) × Rising (t.at + length t.text) ts

-- the last token and no other is that of the text's end, at n bytes, or a wrong one
abbrev pub Ends : ℕ → List Token → Type 0
Ends n [] = ⊥
Ends n (t ∷ []) = is_of Wrong t ≡ false → (is_of End t ≡ true) × (t.at ≡ n)
Ends n (t ∷ u ∷ us) = (is_of Wrong t ≡ false) × (is_of End t ≡ false) × Ends n (u ∷ us)

pub drop-next : (text : List ℕ) (n b : ℕ) (s : List ℕ) → drop n text ≡ b ∷ s → drop (suc n) text ≡ s
drop-next text n b s e = sym (drop-one text n) ∙ ap (drop 1) e
  where
    drop-one : (l : List ℕ) (k : ℕ) → drop 1 (drop k l) ≡ drop (suc k) l
    drop-one [] zero = refl
    drop-one [] (suc k) = refl
    drop-one (x ∷ l) zero = refl
    drop-one (x ∷ l) (suc k) = drop-one l k

-- the token of a piece
module _ (text : List ℕ) (at : ℕ) (s : List ℕ) (p : Piece) (here : drop at text ≡ s) (fits : at + length s ≤ length text) (sound : Sound (length s) p) where
  abbrev read : Token
  read = record { class = p.class; at = at; text = take p.size s }

  size : length (take p.size s) ≡ p.size
  size = length-take-le p.size s sound.fits

  read-stands : is_of Blank read ≡ false → Stands text read
  read-stands solid =
      let n = length (take p.size s) in
      let k : n ≡ p.size = size in
      record {
        inside = omega (arith, sound.fits);
        bytes = ap (λ m. take m s) (sym k) ∙ ap (take n) (sym here);
        some = λ w _. let h = sound.some w in omega arith;
        short = λ w. let h = sound.short w in omega arith;
        solid = solid;
      }

pub lex-stands : (text : List ℕ) (e : Bool) (at k : ℕ) (s : List ℕ) → drop at text ≡ s → at + length s ≤ length text → All (Stands text) (lex e at k s)
lex-stands text e at k [] h l = (record { inside = l; bytes = refl; some = λ w i. absurd (false≢true (sym i)); short = λ w. absurd (false≢true w); solid = refl }, tt)
lex-stands text e at (suc k) (b ∷ s) h l = lex-stands text e (suc at) k s (drop-next text at b s h) (omega arith)
lex-stands text e at zero (b ∷ s) h l =
    let p = piece_at e (b ∷ s) in
    let t : Token = record { class = p.class; at = at; text = take p.size (b ∷ s) } in
    let first = read-stands text at (b ∷ s) p h l (piece_at-sound e b s) in
    let P = All (Stands text) in
    let later : (m : Bool) → P (lex m (suc at) (p.size - 1) s) = λ m. lex-stands text m (suc at) (p.size - 1) s (drop-next text at b s h) (omega arith) in
    split P (is_of Wrong t) (λ w. (first (ap (eqb (code Blank)) (sym (eqb-true (code Wrong) (code p.class) w))), tt))
    (λ _. split P (is_of Blank t) (λ _. later e) (λ z. (first z, later (enumerating_after e t))))

pub lex_rising : (from : ℕ) (e : Bool) (at k : ℕ) (s : List ℕ) → k ≤ length s → from ≤ at + k → Rising from (lex e at k s)
lex_rising from e at k [] h g = (omega arith, tt)
lex_rising from e at (suc k) (b ∷ s) h g = lex_rising from e (suc at) k s (omega arith) (omega arith)
lex_rising from e at zero (b ∷ s) h g =
    let p = piece_at e (b ∷ s) in
    let fits : p.size ≤ length (b ∷ s) = (piece_at-sound e b s).fits in
    let t : Token = record { class = p.class; at = at; text = take p.size (b ∷ s) } in
    let size : length (take p.size (b ∷ s)) ≡ p.size = length-take-le p.size (b ∷ s) fits in
    split (Rising from) (is_of Wrong t) (λ _. (omega arith, tt))
    (λ w. split (Rising from) (is_of Blank t)
    (λ _. lex_rising from e (suc at) (p.size - 1) s (omega arith) (omega arith))
    (λ _. (omega arith, lex_rising (at + length (take p.size (b ∷ s))) (enumerating_after e t) (suc at) (p.size - 1) s (omega arith) (omega arith))))

ends-after : (n : ℕ) (t : Token) (ts : List Token) → is_of Wrong t ≡ false → is_of End t ≡ false → Ends n ts → Ends n (t ∷ ts)
ends-after n t [] w i e = absurd e
ends-after n t (u ∷ us) w i e = (w, i, e)

pub lex-ends : (n : ℕ) (e : Bool) (at k : ℕ) (s : List ℕ) → at + length s ≡ n → Ends n (lex e at k s)
lex-ends n e at k [] h = λ w. (refl, omega arith)
lex-ends n e at (suc k) (b ∷ s) h = lex-ends n e (suc at) k s (omega arith)
lex-ends n e at zero (b ∷ s) h =
    let p = piece_at e (b ∷ s) in
    let t : Token = record { class = p.class; at = at; text = take p.size (b ∷ s) } in
    split (Ends n) (is_of Wrong t) (λ w z. absurd (false≢true (sym z ∙ w)))
    (λ w. split (Ends n) (is_of Blank t)
    (λ _. lex-ends n e (suc at) (p.size - 1) s (omega arith))
    (λ _. ends-after n t (lex (enumerating_after e t) (suc at) (p.size - 1) s) w (piece_at-sound e b s).inner (lex-ends n (enumerating_after e t) (suc at) (p.size - 1) s (omega arith))))

-- the tokens of a text
pub tokens_stand : (text : List ℕ) → All (Stands text) (tokens text)
tokens_stand text = lex-stands text false 0 0 text refl (omega arith)

pub tokens_rise : (text : List ℕ) → Rising 0 (tokens text)
tokens_rise text = lex_rising 0 false 0 0 text (omega arith) (omega arith)

pub tokens-end : (text : List ℕ) → Ends (length text) (tokens text)
tokens-end text = lex-ends (length text) false 0 0 text (omega arith)

-- no two tokens stand at one place
rising_later : (from : ℕ) (us : List Token) (t : Token) (vs : List Token) → Rising from (us ++ (t ∷ vs)) → from ≤ t.at
rising_later from [] t vs h = h.0
rising_later from (u ∷ us) t vs h =
    let later = rising_later (u.at + length u.text) us t vs h.1 in
    let here = h.0 in
    omega arith

not_last : (n : ℕ) (u : Token) (us : List Token) (t : Token) (vs : List Token) → Ends n (u ∷ (us ++ (t ∷ vs))) → (is_of Wrong u ≡ false) × (is_of End u ≡ false) × Ends n (us ++ (t ∷ vs))
not_last n u [] t vs h = h
not_last n u (w ∷ us) t vs h = h

abbrev tail : List Token → List Token
tail [] = []
tail (t ∷ ts) = ts

abbrev place : List Token → ℕ
place [] = 0
place (t ∷ ts) = t.at

module _ (text : List ℕ) (n : ℕ) where
  places_apart : (from : ℕ) (us us' : List Token) (t t' : Token) (vs vs' : List Token) → All (Stands text) (us ++ (t ∷ vs)) → Rising from (us ++ (t ∷ vs)) → Ends n (us ++ (t ∷ vs))
      → us ++ (t ∷ vs) ≡ us' ++ (t' ∷ vs') → t.at ≡ t'.at → length us ≡ length us'
  places_apart from [] [] t t' vs vs' s r e w p = refl
  places_apart from [] (u ∷ us') t t' vs vs' s r e w p =
      let e' = subst (λ ts. Ends n (t ∷ ts)) (ap tail w) e in
      let last = not_last n t us' t' vs' e' in
      let some = s.0.some last.0 last.1 in
      let later = rising_later (t.at + length t.text) us' t' vs' (subst (Rising (t.at + length t.text)) (ap tail w) r.1) in
      absurd (omega arith)
  places_apart from (u ∷ us) [] t t' vs vs' s r e w p =
      let last = not_last n u us t vs e in
      let some = s.0.some last.0 last.1 in
      let later = rising_later (u.at + length u.text) us t vs r.1 in
      let same : u.at ≡ t'.at = ap place w in
      absurd (omega arith)
  places_apart from (u ∷ us) (u' ∷ us') t t' vs vs' s r e w p =
      let ih = places_apart (u.at + length u.text) us us' t t' vs vs' s.1 r.1 (not_last n u us t vs e).2 (ap tail w) p in
      omega arith

pub tokens_apart : (text : List ℕ) (us us' : List Token) (t t' : Token) (vs vs' : List Token) → tokens text ≡ us ++ (t ∷ vs) → tokens text ≡ us' ++ (t' ∷ vs') → t.at ≡ t'.at → length us ≡ length us'
tokens_apart text us us' t t' vs vs' e e' p =
    places_apart text (length text) 0 us us' t t' vs vs' (subst (All (Stands text)) e (tokens_stand text)) (subst (Rising 0) e (tokens_rise text)) (subst (Ends (length text)) e (tokens-end text))
    (sym e ∙ e') p
