-- Laws of a word's place in a table: a word that stands adds nothing, a new one goes behind the others, a place stays as the table grows, and no word comes twice.
use Rattle.std.specs.Prelude.{ℕ, zero, suc, ◌+◌, ◌<◌, ◌≤◌, ◌≡◌, refl, List, [], ◌∷◌, ◌++◌, Bool, true, false, length, get_or}
use Rattle.std.proofs.Common.{ap, ◌∙◌, sym, length-append, arith, eq-eqb, ne_eqb, lt-ltb, le-ltb}
use Rattle.std.proofs.Math.ListN.{get_or-append}
use Rattle.std.proofs.lemmas.List.{get_or_at}
use Rattle.std.proofs.Math.Decide.{dec_lt, ℕ_discrete}
use Rattle.sharing.specs.Sharing.{position, having}

-- the word stands in the table
abbrev pub Has : List ℕ → ℕ → Type 0
Has t w = position t w < length t

position_here : (x : ℕ) (t : List ℕ) (w : ℕ) → x ≡ w → position (x ∷ t) w ≡ 0
unfolding position
position_here x t w e = ap (λ (b : Bool). elim b [ true ↦ 0 | false ↦ suc (position t w) ]) (eq-eqb x w e)

position_past : (x : ℕ) (t : List ℕ) (w : ℕ) → (x ≡ w → ⊥) → position (x ∷ t) w ≡ suc (position t w)
unfolding position
position_past x t w n = ap (λ (b : Bool). elim b [ true ↦ 0 | false ↦ suc (position t w) ]) (ne_eqb x w n)

pub position-most : (t : List ℕ) (w : ℕ) → position t w ≤ length t
unfolding position
position-most [] w = omega arith
position-most (x ∷ t) w = go (ℕ_discrete x w) (position-most t w)
  where
    go : Dec (x ≡ w) → position t w ≤ length t → position (x ∷ t) w ≤ suc (length t)
    go (yes e) h = let p = position_here x t w e in omega arith
    go (no n) h = let p = position_past x t w n in omega arith

-- the word at its place is the word
pub word_at : (t : List ℕ) (w : ℕ) → Has t w → get_or t (position t w) 0 ≡ w
word_at [] w h = absurd (omega arith)
word_at (x ∷ t) w h = go (ℕ_discrete x w) (word_at t w)
  where
    go : Dec (x ≡ w) → (Has t w → get_or t (position t w) 0 ≡ w) → get_or (x ∷ t) (position (x ∷ t) w) 0 ≡ w
    go (yes e) below = rw (position_here x t w e) e
    go (no n) below = let p = position_past x t w n in rw p (below (omega arith))

-- it is the first place
pub first-place : (t : List ℕ) (w i : ℕ) → i < length t → get_or t i 0 ≡ w → position t w ≤ i
first-place [] w i h e = absurd (omega arith)
first-place (x ∷ t) w zero h e = let p = position_here x t w e in omega arith
first-place (x ∷ t) w (suc i) h e = go (ℕ_discrete x w) (first-place t w i (omega arith) e)
  where
    go : Dec (x ≡ w) → position t w ≤ i → position (x ∷ t) w ≤ suc i
    go (yes q) below = let p = position_here x t w q in omega arith
    go (no n) below = let p = position_past x t w n in omega arith

-- a place stays whatever stands behind the table
pub place_stays : (t u : List ℕ) (w : ℕ) → Has t w → position (t ++ u) w ≡ position t w
place_stays [] u w h = absurd (omega arith)
place_stays (x ∷ t) u w h = go (ℕ_discrete x w) (place_stays t u w)
  where
    go : Dec (x ≡ w) → (Has t w → position (t ++ u) w ≡ position t w) → position (x ∷ (t ++ u)) w ≡ position (x ∷ t) w
    go (yes e) below = position_here x (t ++ u) w e ∙ sym (position_here x t w e)
    go (no n) below = let p = position_past x t w n in position_past x (t ++ u) w n ∙ ap suc (below (omega arith)) ∙ sym p

-- a word that did not stand has the next number
pub place_new : (t u : List ℕ) (w : ℕ) → length t ≤ position t w → position (t ++ (w ∷ u)) w ≡ length t
place_new [] u w h = position_here w u w refl
place_new (x ∷ t) u w h = go (ℕ_discrete x w) (place_new t u w)
  where
    go : Dec (x ≡ w) → (length t ≤ position t w → position (t ++ (w ∷ u)) w ≡ length t) → position (x ∷ (t ++ (w ∷ u))) w ≡ suc (length t)
    go (yes e) below = let p = position_here x t w e in absurd (omega arith)
    go (no n) below = let p = position_past x t w n in position_past x (t ++ (w ∷ u)) w n ∙ ap suc (below (omega arith))

-- a word that stands adds nothing; another goes behind the others
pub having_stood : (t : List ℕ) (w : ℕ) → Has t w → having t w ≡ t
unfolding having
having_stood t w h = ap (λ (b : Bool). elim b [ true ↦ t | false ↦ t ++ (w ∷ []) ]) (lt-ltb (position t w) (length t) h)

pub having_new : (t : List ℕ) (w : ℕ) → length t ≤ position t w → having t w ≡ t ++ (w ∷ [])
unfolding having
having_new t w h = ap (λ (b : Bool). elim b [ true ↦ t | false ↦ t ++ (w ∷ []) ]) (le-ltb (position t w) (length t) h)

-- the two ways: the word stood at its number, or its number is the next and the table has one node more
pub data Placing (t : List ℕ) (w : ℕ) : Type 0 where
  stood : Has t w → having t w ≡ t → Placing t w
  added : position t w ≡ length t → having t w ≡ t ++ (w ∷ []) → Placing t w

pub placing : (t : List ℕ) (w : ℕ) → Placing t w
placing t w = go (dec_lt (position t w) (length t))
  where
    go : Dec (Has t w) → Placing t w
    go (yes h) = stood h (having_stood t w h)
    go (no n) = let m = position-most t w in added (omega arith) (having_new t w (omega arith))

-- afterwards the word stands, at the number that it was given
pub having-place : (t : List ℕ) (w : ℕ) → position (having t w) w ≡ position t w
having-place t w = go (placing t w)
  where
    go : Placing t w → position (having t w) w ≡ position t w
    go (stood h e) = ap (λ (x : List ℕ). position x w) e
    go (added p e) = ap (λ (x : List ℕ). position x w) e ∙ place_new t [] w (omega arith) ∙ sym p

pub having-inside : (t : List ℕ) (w : ℕ) → position t w < length (having t w)
having-inside t w = go (placing t w)
  where
    go : Placing t w → position t w < length (having t w)
    go (stood h e) = rw e h
    go (added p e) = rw e (simp length-append (omega arith))

-- one node more at most
pub having-most : (t : List ℕ) (w : ℕ) → length (having t w) ≤ length t + 1
having-most t w = go (placing t w)
  where
    go : Placing t w → length (having t w) ≤ length t + 1
    go (stood h e) = rw e (omega arith)
    go (added p e) = rw e (simp length-append (omega arith))

-- no two nodes are equal
abbrev pub Distinct : List ℕ → Type 0
Distinct t = (i j : ℕ) → i < length t → j < length t → get_or t i 0 ≡ get_or t j 0 → i ≡ j

-- in such a table each word's place is its number
pub own-place : (t : List ℕ) → Distinct t → (i : ℕ) → i < length t → position t (get_or t i 0) ≡ i
own-place t d i h =
    let f = first-place t (get_or t i 0) i h refl in
    d (position t (get_or t i 0)) i (omega arith) h (word_at t (get_or t i 0) (omega arith))

-- a table without equal nodes stays without
pub having_distinct : (t : List ℕ) (w : ℕ) → Distinct t → Distinct (having t w)
having_distinct t w d = go (placing t w)
  where
    old : (i : ℕ) → i < length t → get_or (t ++ (w ∷ [])) i 0 ≡ get_or t i 0
    old i h = get_or-append t (w ∷ []) 0 i h

    new : (i : ℕ) → i ≡ length t → get_or (t ++ (w ∷ [])) i 0 ≡ w
    new i e = get_or_at t w [] 0 i (sym e)

    -- no old node is the new word
    apart : position t w ≡ length t → (i : ℕ) → i < length t → get_or t i 0 ≡ w → ⊥
    apart p i h e = let f = first-place t w i h e in omega arith

    both : position t w ≡ length t → (i j : ℕ) → i < length t + 1 → j < length t + 1 → get_or (t ++ (w ∷ [])) i 0 ≡ get_or (t ++ (w ∷ [])) j 0
        → Dec (i < length t) → Dec (j < length t) → i ≡ j
    both p i j hi hj e (yes a) (yes b) = d i j a b (sym (old i a) ∙ e ∙ old j b)
    both p i j hi hj e (yes a) (no b) = absurd (apart p i a (sym (old i a) ∙ e ∙ new j (omega arith)))
    both p i j hi hj e (no a) (yes b) = absurd (apart p j b (sym (old j b) ∙ sym e ∙ new i (omega arith)))
    both p i j hi hj e (no a) (no b) = omega arith

    go : Placing t w → Distinct (having t w)
    go (stood h e) = rw e d
    go (added p e) =
        rw e (λ i j hi hj q.
        let l = length-append t (w ∷ []) in
        both p i j (omega arith) (omega arith) q (dec_lt i (length t)) (dec_lt j (length t)))
