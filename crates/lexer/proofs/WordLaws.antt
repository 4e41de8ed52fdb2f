-- What the search finds is the definition's word or sign, with its number.
use Prim.Native.Nat.{ℕ, zero, suc, ◌≤◌, ◌<◌}
use Prim.Native.String.{String}
use mathlib.Core.List.{List, [], ◌∷◌, ◌++◌, map}
use mathlib.Core.Bool.{Bool, true, false, ◌&&◌, ◌||◌, not, false≢true}
use mathlib.Core.Path.{◌≡◌, refl, sym, ap, ap₂, ◌∙◌, subst}
use lib.Dec.{eqb, eqb-zero-suc, eqb-suc-zero, eqb-suc-suc}
use lib.ListN.{length, get_or, take}
use native.Mathlib.Omega.{arith}
use borrow.Author.Tests.{eqb-true, ne_eqb}
use Rattle.language.specs.Bytes.{ascii, is_name_start, starts, same, is_one_of}
use Rattle.language.specs.Tokens.{Fixed, Wrong, Piece, signs, words, sign_at}
use Rattle.language.proofs.Laws.Basics.Tests.{pick, leave, and_left, and_right, and_false, same_equal, same_refl}
use Rattle.lexer.specs.Numbers.{spellings, position}
use Rattle.lexer.proofs.Choices.{refute}
use Rattle.lexer.specs.Spelling.{entries, search, fitting}

-- a word that has the size of some bytes and starts them is these bytes
starts-same : (w s : List ℕ) (n : ℕ) → n ≤ length s → (eqb (length w) n && starts w s) ≡ same w (take n s)
starts-same [] s zero h = refl
starts-same [] [] (suc n) h = absurd (omega arith)
starts-same [] (b ∷ s) (suc n) h = and_false _ _ (eqb-zero-suc n)
starts-same (x ∷ w) s zero h = and_false _ _ (eqb-suc-zero (length w))
starts-same (x ∷ w) [] (suc n) h = absurd (omega arith)
starts-same (x ∷ w) (b ∷ s) (suc n) h =
    ap (λ p. p && (eqb x b && starts w s)) (eqb-suc-suc (length w) n) ∙ swap (eqb (length w) n) (eqb x b) (starts w s)
    ∙ ap (λ p. eqb x b && p) (starts-same w s n (omega arith))
  where
    swap : (p q r : Bool) → (p && (q && r)) ≡ (q && (p && r))
    swap true q r = refl
    swap false true r = refl
    swap false false r = refl

-- the search by a test that is the comparison with some bytes
search-position : (f : List ℕ → Bool) (t : List ℕ) → ((w : List ℕ) → f w ≡ same w t) → (ws : List String) → search f (map ascii ws) ≡ position ws t
search-position f t h [] = refl
search-position f t h (w ∷ ws) =
    ap₂ (λ (p : Bool) (n : ℕ). elim p [ true ↦ 0 | false ↦ suc n ]) (h (ascii w)) (search-position f t h ws)

pub word-position : (s : List ℕ) (n : ℕ) → 1 ≤ n → n ≤ length s → search (fitting n s) entries ≡ position spellings (take n s)
unfolding entries fitting
word-position s zero l h = absurd (omega arith)
word-position s (suc n) l h =
    search-position (fitting (suc n) s) (take (suc n) s)
    (λ w. ap (λ p. (p || eqb (length w) (suc n)) && starts w s) (eqb-suc-zero n) ∙ starts-same w s (suc n) h) spellings

-- bytes are in a list where they have a place in it
pub position_in : (ws : List String) (t : List ℕ) → position ws t < length ws → is_one_of ws t ≡ true
position_in [] t h = absurd (omega arith)
position_in (w ∷ ws) t h = go (same (ascii w) t) refl h (position_in ws t)
  where
    go : (b : Bool) → same (ascii w) t ≡ b → elim b [ true ↦ 0 | false ↦ suc (position ws t) ] < length (w ∷ ws) → (position ws t < length ws → is_one_of ws t ≡ true) → (b || is_one_of ws t) ≡ true
    go true e l ih = refl
    go false e l ih = ih (omega arith)

pub position_out : (ws : List String) (t : List ℕ) → length ws ≤ position ws t → is_one_of ws t ≡ false
position_out [] t h = refl
position_out (w ∷ ws) t h = go (same (ascii w) t) refl h (position_out ws t)
  where
    go : (b : Bool) → same (ascii w) t ≡ b → length (w ∷ ws) ≤ elim b [ true ↦ 0 | false ↦ suc (position ws t) ] → (length ws ≤ position ws t → is_one_of ws t ≡ false) → (b || is_one_of ws t) ≡ false
    go true e l ih = absurd (omega arith)
    go false e l ih = ih (omega arith)

-- does every string's first byte pass the test?
abbrev firsts : (ℕ → Bool) → List String → Bool
firsts p [] = true
firsts p (w ∷ ws) = elim (ascii w) [ [] ↦ false | x ∷ v ↦ p x ] && firsts p ws

-- bytes whose first fails it start with none of them
not_start : (p : ℕ → Bool) (b : ℕ) (s w : List ℕ) → p b ≡ false → elim w [ [] ↦ false | x ∷ v ↦ p x ] ≡ true → starts w (b ∷ s) ≡ false
not_start p b s [] h e = absurd (false≢true e)
not_start p b s (x ∷ w) h e = and_false (eqb x b) (starts w s) (ne_eqb x b (λ f. false≢true (sym h ∙ ap p (sym f) ∙ e)))

not_same : (p : ℕ → Bool) (b : ℕ) (s w : List ℕ) → p b ≡ false → elim w [ [] ↦ false | x ∷ v ↦ p x ] ≡ true → same w (b ∷ s) ≡ false
not_same p b s w h e =
    refute (same w (b ∷ s)) (λ d. false≢true (sym h ∙ subst (λ u. elim u [ [] ↦ false | x ∷ v ↦ p x ] ≡ true) (same_equal w (b ∷ s) d) e))

module _ (p : ℕ → Bool) (b : ℕ) (s : List ℕ) (h : p b ≡ false) where
  none_same : (ws vs : List String) → firsts p ws ≡ true → is_one_of (ws ++ vs) (b ∷ s) ≡ is_one_of vs (b ∷ s)
  none_same [] vs e = refl
  none_same (w ∷ ws) vs e =
      ap₂ ◌||◌ (not_same p b s (ascii w) h (and_left _ (firsts p ws) e)) (none_same ws vs (and_right (elim (ascii w) [ [] ↦ false | x ∷ v ↦ p x ]) (firsts p ws) e))

  none_sign : (ws vs : List String) → firsts p vs ≡ true → sign_at (ws ++ vs) (b ∷ s) ≡ sign_at ws (b ∷ s)
  none_sign (w ∷ ws) vs e = ap (λ (q : Piece). elim (starts (ascii w) (b ∷ s)) [ true ↦ record { class = Fixed; size = length (ascii w) } | false ↦ q ]) (none_sign ws vs e)
  none_sign [] [] e = refl
  none_sign [] (v ∷ vs) e =
      leave (starts (ascii v) (b ∷ s)) _ _ (not_start p b s (ascii v) h (and_left _ (firsts p vs) e)) ∙ none_sign [] vs (and_right (elim (ascii v) [ [] ↦ false | x ∷ u ↦ p x ]) (firsts p vs) e)

-- bytes that begin like a name are no sign, and others start with no word
pub among-words : (b : ℕ) (t : List ℕ) → is_name_start b ≡ true → is_one_of spellings (b ∷ t) ≡ is_one_of words (b ∷ t)
among-words b t h = none_same (λ x. not (is_name_start x)) b t (ap not h) signs words refl

pub among-signs : (b : ℕ) (s : List ℕ) → is_name_start b ≡ false → sign_at spellings (b ∷ s) ≡ sign_at signs (b ∷ s)
among-signs b s h = none_sign is_name_start b s h signs words refl

-- the first sign that starts the bytes: it is these bytes, and stands nowhere before in the list
pub take-starts : (w s : List ℕ) → starts w s ≡ true → take (length w) s ≡ w
take-starts [] s e = refl
take-starts (x ∷ w) [] e = absurd (false≢true e)
take-starts (x ∷ w) (b ∷ s) e = ap₂ ◌∷◌ (sym (eqb-true x b (and_left (eqb x b) (starts w s) e))) (take-starts w s (and_right (eqb x b) (starts w s) e))

abbrev pub nth : List String → ℕ → List ℕ
nth ws k = get_or (map ascii ws) k []

pub record FirstSign (ws : List String) (s : List ℕ) (k : ℕ) : Type 0 where
  pub begun : starts (nth ws k) s ≡ true
  pub sign : sign_at ws s ≡ record { class = Fixed; size = length (nth ws k) }
  pub place : position ws (nth ws k) ≡ k

other_sign : (v w s : List ℕ) → starts w s ≡ false → starts v s ≡ true → same w v ≡ false
other_sign v w s e f = refute (same w v) (λ d. false≢true (sym e ∙ subst (λ u. starts u s ≡ true) (sym (same_equal w v d)) f))

pub sign-found : (s : List ℕ) (ws : List String) (k : ℕ) → search (λ w. starts w s) (map ascii ws) ≡ k → k < length ws → FirstSign ws s k
sign-found s [] k h l = absurd (omega arith)
sign-found s (w ∷ ws) k h l = go (starts (ascii w) s) k refl h l (sign-found s ws)
  where
    go : (b : Bool) (n : ℕ) → starts (ascii w) s ≡ b → elim b [ true ↦ 0 | false ↦ suc (search (λ v. starts v s) (map ascii ws)) ] ≡ n → n < length (w ∷ ws)
        → ((m : ℕ) → search (λ v. starts v s) (map ascii ws) ≡ m → m < length ws → FirstSign ws s m) → FirstSign (w ∷ ws) s n
    go true zero e i l ih = record { begun = e; sign = pick (starts (ascii w) s) _ _ e; place = pick (same (ascii w) (ascii w)) _ _ (same_refl (ascii w)) }
    go true (suc n) e i l ih = absurd (omega arith)
    go false zero e i l ih = absurd (omega arith)
    go false (suc n) e i l ih =
        let f = ih n (omega arith) (omega arith) in
        record {
          begun = f.begun;
          sign = leave (starts (ascii w) s) _ _ e ∙ f.sign;
          place = leave (same (ascii w) (nth ws n)) 0 (suc (position ws (nth ws n))) (other_sign (nth ws n) (ascii w) s e f.begun) ∙ ap suc f.place;
        }

pub sign_none : (s : List ℕ) (ws : List String) → length ws ≤ search (λ w. starts w s) (map ascii ws) → sign_at ws s ≡ record { class = Wrong; size = 0 }
sign_none s [] h = refl
sign_none s (w ∷ ws) h = go (starts (ascii w) s) refl h (sign_none s ws)
  where
    go : (b : Bool) → starts (ascii w) s ≡ b → length (w ∷ ws) ≤ elim b [ true ↦ 0 | false ↦ suc (search (λ v. starts v s) (map ascii ws)) ]
        → (length ws ≤ search (λ v. starts v s) (map ascii ws) → sign_at ws s ≡ record { class = Wrong; size = 0 }) → sign_at (w ∷ ws) s ≡ record { class = Wrong; size = 0 }
    go true e l ih = absurd (omega arith)
    go false e l ih = leave (starts (ascii w) s) _ _ e ∙ ih (omega arith)
