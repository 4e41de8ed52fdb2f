-- A table that passes a computed test at each of its entries is right.
use Prim.Native.Nat.{ℕ, zero, suc, ◌+◌, ◌*◌, ◌-◌, ◌/◌, ◌%◌, ◌≤◌, ◌<◌}
use mathlib.Core.List.{List, [], ◌∷◌}
use mathlib.Core.Bool.{Bool, true, false, ◌&&◌, ◌||◌, false≢true}
use mathlib.Core.Path.{◌≡◌, refl, sym, ◌∙◌, subst}
use lib.Dec.{eqb, leb}
use lib.ListN.{length, get_or, drop}
use native.Mathlib.Nat.{add-zero}
use native.Mathlib.Omega.{arith}
use borrow.Author.Tests.{leb-true, eqb-true}
use Rattle.language.specs.Bytes.{within, is_blank, is_digit, is_name_start, is_name_byte, is_mark}
use Rattle.language.proofs.Laws.Basics.Tests.{and_left, and_right, or_cases}
use Rattle.lexer.specs.ByteClasses as Byte
use Rattle.lexer.specs.Spelling.{count, entries, entry}
use Rattle.lexer.specs.Tables.{ByteClass, begins, passes, NextWith, RightBytes, RightRows}

-- the test passes at each number of the list and its place, counted from i
abbrev pub every : (ℕ → ℕ → Bool) → ℕ → List ℕ → Bool
every f i [] = true
every f i (x ∷ xs) = f i x && every f (suc i) xs

every-at : (f : ℕ → ℕ → Bool) (xs : List ℕ) (i j k : ℕ) → every f i xs ≡ true → k < length xs → i + k ≡ j → f j (get_or xs k 0) ≡ true
every-at f [] i j k e h l = absurd (omega arith)
every-at f (x ∷ xs) i j zero e h l = subst (λ m. f m x ≡ true) (sym (add-zero i) ∙ l) (and_left (f i x) (every f (suc i) xs) e)
every-at f (x ∷ xs) i j (suc k) e h l = every-at f xs (suc i) j k (and_right (f i x) (every f (suc i) xs) e) (omega arith) (omega arith)

-- are the two tests the same?
abbrev agree : Bool → Bool → Bool
agree true b = b
agree false true = false
agree false false = true

agree_same : (a b : Bool) → agree a b ≡ true → a ≡ b
agree_same true b e = sym e
agree_same false true e = e
agree_same false false e = refl

abbrev class_test : ℕ → ℕ → Bool
class_test b x =
    leb x Byte.prime && (agree (is_blank b) (eqb x Byte.blank) && (agree (eqb b 34) (eqb x Byte.quote) && (agree (eqb 47 b) (eqb x Byte.slash) && (agree (is_mark b) (within Byte.star Byte.bit x)
    && (agree (is_digit b) (within Byte.bit Byte.digit x) && (agree (is_name_start b) (eqb x Byte.letter) && agree (is_name_byte b) (within Byte.bit Byte.prime x)))))))

abbrev next_test : ℕ → ℕ → ℕ → Bool
next_test b i k = leb i k && (leb k count && (passes b (k - i) (drop i entries) && (leb count k || begins b (entry k))))

-- by the remainder of the index and by what is left of it
abbrev byte_test_by : ℕ → ℕ → ℕ → Bool
byte_test_by zero b x = class_test b x
byte_test_by (suc r) b x = next_test b 0 x

abbrev pub byte_test : ℕ → ℕ → Bool
byte_test i x = byte_test_by (i % 2) (i / 2) x

abbrev row_test_by : ℕ → ℕ → ℕ → Bool
row_test_by zero k x = eqb x (length (entry k)) && leb (length (entry k)) 14
row_test_by (suc zero) k x = next_test (get_or (entry k) 0 0) (suc k) x
row_test_by (suc (suc j)) k x = eqb x (get_or (entry k) j 0)

abbrev pub row_test : ℕ → ℕ → Bool
row_test i x = row_test_by (i % 16) (i / 16) x

class-right : (b x : ℕ) → class_test b x ≡ true → ByteClass b x
class-right b x e =
    let e₀ = and_right (leb x Byte.prime) _ e in
    let e₁ = and_right (agree (is_blank b) (eqb x Byte.blank)) _ e₀ in
    let e₂ = and_right (agree (eqb b 34) (eqb x Byte.quote)) _ e₁ in
    let e₃ = and_right (agree (eqb 47 b) (eqb x Byte.slash)) _ e₂ in
    let e₄ = and_right (agree (is_mark b) (within Byte.star Byte.bit x)) _ e₃ in
    let e₅ = and_right (agree (is_digit b) (within Byte.bit Byte.digit x)) _ e₄ in
    record {
      known = leb-true x 8 (and_left (leb x Byte.prime) _ e);
      blank = agree_same (is_blank b) (eqb x Byte.blank) (and_left (agree (is_blank b) (eqb x Byte.blank)) _ e₀);
      quote = agree_same (eqb b 34) (eqb x Byte.quote) (and_left (agree (eqb b 34) (eqb x Byte.quote)) _ e₁);
      slash = agree_same (eqb 47 b) (eqb x Byte.slash) (and_left (agree (eqb 47 b) (eqb x Byte.slash)) _ e₂);
      mark = agree_same (is_mark b) (within Byte.star Byte.bit x) (and_left (agree (is_mark b) (within Byte.star Byte.bit x)) _ e₃);
      digit = agree_same (is_digit b) (within Byte.bit Byte.digit x) (and_left (agree (is_digit b) (within Byte.bit Byte.digit x)) _ e₄);
      letter = agree_same (is_name_start b) (eqb x Byte.letter) (and_left (agree (is_name_start b) (eqb x Byte.letter)) _ e₅);
      named = agree_same (is_name_byte b) (within Byte.bit Byte.prime x) (and_right (agree (is_name_start b) (eqb x Byte.letter)) _ e₅);
    }

next-right : (b i k : ℕ) → next_test b i k ≡ true → NextWith b i k
next-right b i k e =
    let e₁ = and_right (leb i k) _ e in
    let e₂ = and_right (leb k count) _ e₁ in
    record {
      onward = leb-true i k (and_left (leb i k) _ e);
      fits = leb-true k count (and_left (leb k count) _ e₁);
      passed = and_left (passes b (k - i) (drop i entries)) _ e₂;
      begun = λ l. or_cases {P = begins b (entry k) ≡ true} (leb count k) (begins b (entry k)) (λ f. let g = leb-true count k f in absurd (omega arith)) (λ f. f)
          (and_right (passes b (k - i) (drop i entries)) _ e₂);
    }

begins-first : (b : ℕ) (w : List ℕ) → begins b w ≡ true → get_or w 0 0 ≡ b
begins-first b [] e = absurd (false≢true e)
begins-first b (x ∷ w) e = sym (eqb-true b x e)

pub right-bytes : (bs : List ℕ) → every byte_test 0 bs ≡ true → length bs ≡ 512 → RightBytes bs
right-bytes bs t l =
    record {
      class = λ b h. class-right b _ (found (2 * b) 0 b (omega arith) (omega arith) (omega arith));
      first = λ b h. next-right b 0 _ (found (2 * b + 1) 1 b (omega arith) (omega arith) (omega arith));
    }
  where
    found : (i r b : ℕ) → i < 512 → i % 2 ≡ r → i / 2 ≡ b → byte_test_by r b (get_or bs i 0) ≡ true
    found i r b h e f =
        subst (λ m. byte_test_by r m (get_or bs i 0) ≡ true) f (subst (λ m. byte_test_by m (i / 2) (get_or bs i 0) ≡ true) e
        (every-at byte_test bs 0 i i t (subst (λ m. i < m) (sym l) h) (omega arith)))

pub right-rows : (rs : List ℕ) → every row_test 0 rs ≡ true → length rs ≡ 16 * count → RightRows rs
right-rows rs t l =
    record {
      size = λ k h. eqb-true _ _ (and_left (eqb (get_or rs (16 * k) 0) (length (entry k))) _ (found (16 * k) 0 k (omega arith) (omega arith) (omega arith)));
      next = λ b k h e. subst (λ a. NextWith a (suc k) (get_or rs (16 * k + 1) 0)) (begins-first b (entry k) e)
          (next-right (get_or (entry k) 0 0) (suc k) _ (found (16 * k + 1) 1 k (omega arith) (omega arith) (omega arith)));
      short = λ k h. short k h;
      byte = λ k j h m. let s = short k h in eqb-true _ _ (found (16 * k + 2 + j) (suc (suc j)) k (omega arith) (omega arith) (omega arith));
    }
  where
    found : (i r k : ℕ) → i < 16 * count → i % 16 ≡ r → i / 16 ≡ k → row_test_by r k (get_or rs i 0) ≡ true
    found i r k h e f =
        subst (λ m. row_test_by r m (get_or rs i 0) ≡ true) f (subst (λ m. row_test_by m (i / 16) (get_or rs i 0) ≡ true) e
        (every-at row_test rs 0 i i t (subst (λ m. i < m) (sym l) h) (omega arith)))

    short : (k : ℕ) → k < count → length (entry k) ≤ 14
    short k h = leb-true (length (entry k)) 14 (and_right (eqb (get_or rs (16 * k) 0) (length (entry k))) _ (found (16 * k) 0 k (omega arith) (omega arith) (omega arith)))
