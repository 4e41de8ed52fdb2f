-- What clearing the first bytes keeps, one byte more of it, that it is zeros in their place, and that it forgets what they were.
use Rattle.std.specs.Prelude.{◌≡◌, refl, List, [], ◌∷◌, ◌++◌, ℕ, zero, suc, ◌+◌, ◌-◌, ◌≤◌, min, length, set, take, drop, replicate}
use Rattle.std.proofs.Common.{sym, ap, ◌∙◌, le_of_suc-le-suc, arith, drop-drop}
use Rattle.basics.specs.Clearing.{cleared}
use Rattle.basics.specs.ClearingLaws.{length-cleared}
use Rattle.words.specs.Words.{past}

pub past-past : (m n : ℕ) (w : List ℕ) → past m (past n w) ≡ past (n + m) w
unfolding past
past-past m n w = drop-drop m n w

-- bytes kept from m on are kept from any later place on
pub past-later : (m n : ℕ) (v w : List ℕ) → m ≤ n → past m v ≡ past m w → past n v ≡ past n w
past-later m n v w h e =
    let k : m + (n - m) ≡ n = omega arith in
    ap (λ j. past j v) (sym k) ∙ sym (past-past (n - m) m v) ∙ ap (past (n - m)) e ∙ past-past (n - m) m w ∙ ap (λ j. past j w) k

pub cleared_none : (w : List ℕ) → w ≡ cleared 0 w
unfolding cleared
cleared_none w = refl

-- one byte more
pub cleared_more : (n : ℕ) (w : List ℕ) → set (cleared n w) n 0 ≡ cleared (suc n) w
unfolding cleared
cleared_more zero [] = refl
cleared_more zero (b ∷ w) = refl
cleared_more (suc n) [] = refl
cleared_more (suc n) (b ∷ w) = ap (λ t. 0 ∷ t) (cleared_more n w)

-- a list of which the first i bytes were cleared
pub kept-length : (i : ℕ) (v w : List ℕ) → v ≡ cleared i w → length v ≡ length w
kept-length i v w e = ap length e ∙ length-cleared i w

-- so many zeros before what stands behind them
front-cleared : (i : ℕ) (w : List ℕ) → replicate (length (take i w)) 0 ++ drop i w ≡ cleared i w
unfolding cleared
front-cleared zero w = refl
front-cleared (suc i) [] = refl
front-cleared (suc i) (b ∷ w) = ap (λ t. 0 ∷ t) (front-cleared i w)

-- beyond the end there is nothing to clear
cleared-least : (i n : ℕ) (w : List ℕ) → i ≡ min n (length w) → cleared i w ≡ cleared n w
unfolding cleared
cleared-least zero zero w e = refl
cleared-least zero (suc n) [] e = refl
cleared-least zero (suc n) (b ∷ w) e = absurd (omega arith)
cleared-least (suc i) zero w e = absurd (omega arith)
cleared-least (suc i) (suc n) [] e = refl
cleared-least (suc i) (suc n) (b ∷ w) e = ap (λ t. 0 ∷ t) (cleared-least i n w (omega arith))

pub cleared-all : (i n : ℕ) (v w : List ℕ) → v ≡ cleared i w → i ≡ min n (length w) → v ≡ cleared n w
cleared-all i n v w e h = e ∙ cleared-least i n w h

pub zeros-cleared : (i n : ℕ) (v w : List ℕ) → v ≡ replicate (length (take i w)) 0 → i ≡ min n (length w) → v ++ drop i w ≡ cleared n w
zeros-cleared i n v w e h = ap (λ (t : List ℕ). t ++ drop i w) e ∙ front-cleared i w ∙ cleared-least i n w h

pub past-cleared : (m n : ℕ) (w : List ℕ) → n ≤ m → past m (cleared n w) ≡ past m w
unfolding past cleared
past-cleared m zero w h = refl
past-cleared m (suc n) [] h = refl
past-cleared zero (suc n) (b ∷ w) h = absurd (omega arith)
past-cleared (suc m) (suc n) (b ∷ w) h = past-cleared m n w (le_of_suc-le-suc h)

-- two buffers of one length that agree from n on are the same when cleared up to n
pub cleared-same : (n : ℕ) (v w : List ℕ) → length v ≡ length w → past n v ≡ past n w → cleared n v ≡ cleared n w
unfolding past cleared
cleared-same zero v w l e = e
cleared-same (suc n) [] [] l e = refl
cleared-same (suc n) [] (b ∷ w) l e = absurd (omega arith)
cleared-same (suc n) (a ∷ v) [] l e = absurd (omega arith)
cleared-same (suc n) (a ∷ v) (b ∷ w) l e = ap (λ t. 0 ∷ t) (cleared-same n v w (omega arith) e)
