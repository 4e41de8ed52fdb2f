-- Rows of marks as the code reads and compares them.
use Rattle.std.specs.Prelude.{ℕ, ◌+◌, ◌≤◌, ◌<◌, List, [], ◌∷◌, ◌++◌, true, false, ◌&&◌, ◌||◌, ◌≡◌, eqb, length, get_or, take, set}
use Rattle.std.proofs.Common.{sym, ap, ap₂, ◌∙◌, take-suc-set, add-one, arith, eq-eqb, ne_eqb}
use Rattle.std.proofs.Math.Seq.{slice, slice-cons}
use Rattle.language.specs.Words.{meet}
use Rattle.language.proofs.Laws.Basics.Tests.{pick, leave}
use Rattle.traversal.specs.StackLaws.{no_part}
use Rattle.enumerations.specs.Pass.{bytes_at, size_of}

-- the size of the first word
pub size-first : (count size n : ℕ) → count ≡ 0 → n ≡ size_of count size n
unfolding size_of
size-first count size n e = sym (pick (eqb count 0) _ _ (eq-eqb _ _ e))

pub size-later : (count size n : ℕ) → (count ≡ 0 → ⊥) → size ≡ size_of count size n
unfolding size_of
size-later count size n e = sym (leave (eqb count 0) _ _ (ne_eqb _ _ e))

pub bytes-more : (text : List ℕ) (at j b : ℕ) (row : List ℕ) → take j row ≡ bytes_at text at j → j < length row → b ≡ get_or text (at + j) 0 → take (j + 1) (set row j b) ≡ bytes_at text at (j + 1)
unfolding bytes_at
bytes-more text at j b row e h d =
    ap (λ k. take k (set row j b)) (add-one j) ∙ take-suc-set row j b h ∙ ap₂ (λ l c. l ++ (c ∷ [])) e d ∙ ap (bytes_at text at) (sym (add-one j))

-- marks from i on
module _ (a b : List ℕ) (i n : ℕ) (few : n ≤ length a) (few' : n ≤ length b) where
  pub meet_none : n ≤ i → true ≡ meet (slice i n a) (slice i n b)
  meet_none h = sym (ap (λ l. meet l (slice i n b)) (no_part a i n h))

  one : i < n → meet (slice i n a) (slice i n b) ≡ (eqb (get_or a i 0) (get_or b i 0) || eqb (get_or a i 0) 42 || eqb (get_or b i 0) 42) && meet (slice (i + 1) n a) (slice (i + 1) n b)
  one h =
      ap₂ meet (slice-cons i n a 0 h few) (slice-cons i n b 0 h few')
      ∙ ap (λ j. (eqb (get_or a i 0) (get_or b i 0) || eqb (get_or a i 0) 42 || eqb (get_or b i 0) 42) && meet (slice j n a) (slice j n b)) (sym (add-one i))

  pub meet-same : i < n → get_or a i 0 ≡ get_or b i 0 → meet (slice i n a) (slice i n b) ≡ meet (slice (i + 1) n a) (slice (i + 1) n b)
  meet-same h e = one h ∙ ap (λ x. (x || eqb (get_or a i 0) 42 || eqb (get_or b i 0) 42) && meet (slice (i + 1) n a) (slice (i + 1) n b)) (eq-eqb _ _ e)

  pub meet-star : i < n → (get_or a i 0 ≡ get_or b i 0 → ⊥) → get_or a i 0 ≡ 42 → meet (slice i n a) (slice i n b) ≡ meet (slice (i + 1) n a) (slice (i + 1) n b)
  meet-star h d e = one h ∙ ap₂ (λ x y. (x || y || eqb (get_or b i 0) 42) && meet (slice (i + 1) n a) (slice (i + 1) n b)) (ne_eqb _ _ d) (eq-eqb _ _ e)

  pub meet_other : i < n → (get_or a i 0 ≡ get_or b i 0 → ⊥) → (get_or a i 0 ≡ 42 → ⊥) → get_or b i 0 ≡ 42 → meet (slice i n a) (slice i n b) ≡ meet (slice (i + 1) n a) (slice (i + 1) n b)
  meet_other h d s e =
      one h ∙ ap₂ (λ x y. (x || y || eqb (get_or b i 0) 42) && meet (slice (i + 1) n a) (slice (i + 1) n b)) (ne_eqb _ _ d) (ne_eqb _ _ s)
      ∙ ap (λ z. (false || false || z) && meet (slice (i + 1) n a) (slice (i + 1) n b)) (eq-eqb _ _ e)

  pub meet-not : i < n → (get_or a i 0 ≡ get_or b i 0 → ⊥) → (get_or a i 0 ≡ 42 → ⊥) → (get_or b i 0 ≡ 42 → ⊥) → meet (slice i n a) (slice i n b) ≡ false
  meet-not h d s e =
      one h ∙ ap₂ (λ x y. (x || y || eqb (get_or b i 0) 42) && meet (slice (i + 1) n a) (slice (i + 1) n b)) (ne_eqb _ _ d) (ne_eqb _ _ s)
      ∙ ap (λ z. (false || false || z) && meet (slice (i + 1) n a) (slice (i + 1) n b)) (ne_eqb _ _ e)

pub bytes-all : (text : List ℕ) (at i n : ℕ) (row : List ℕ) → take i row ≡ bytes_at text at i → i ≤ n → n ≤ i → take n row ≡ bytes_at text at n
bytes-all text at i n row e h k = let j : i ≡ n = omega arith in sym (ap (λ m. take m row) j) ∙ e ∙ ap (bytes_at text at) j
