-- The piece at the front by the class of its first byte: one law for each way through the definition.
use Prim.Native.Nat.{ℕ, zero, suc, ◌≤◌, ◌<◌}
use mathlib.Core.List.{List, [], ◌∷◌}
use mathlib.Core.Bool.{Bool, true, false, ◌&&◌}
use mathlib.Core.Path.{◌≡◌, refl, ap, ◌∙◌}
use lib.Dec.{eqb}
use lib.ListN.{drop}
use native.Mathlib.Omega.{arith}
use borrow.Author.Tests.{ne_eqb}
use Rattle.language.specs.Bytes.{if◌then◌otherwise◌, within, is_digit, is_name_start, is_mark, starts}
use Rattle.language.specs.Tokens.{Fixed, Class, Quoted, Marks, Numeral, Blank, Wrong, code, Piece, signs, run, line_size, quoted_size, comment_size, sign_at, word_at, closed, piece_at}
use Rattle.language.proofs.Laws.Basics.Tests.{pick, leave}
use Rattle.lexer.specs.ByteClasses as Byte
use Rattle.lexer.specs.Numbers.{class_number}
use Rattle.lexer.specs.Tables.{ByteClass}
use Rattle.lexer.specs.Scanning.{opened, ScansAs, closed_as}
use Rattle.lexer.proofs.Choices.{either}
use Rattle.lexer.proofs.ScanLaws.{piece, scans_class}

-- a string or comment
pub scans_closed : (p : Piece) (s : List ℕ) (c : Class) (n m : ℕ) → p ≡ closed c n → eqb (code Fixed) (code c) ≡ false → m ≡ n → ScansAs p s (closed_as (class_number c) m)
scans_closed p s c zero zero e f l = scans_class p s Wrong 0 0 e refl refl
scans_closed p s c (suc n) zero e f l = absurd (omega arith)
scans_closed p s c zero (suc m) e f l = absurd (omega arith)
scans_closed p s c (suc n) (suc m) e f l =
    rw (ne_eqb (suc m) 0 (λ z. omega arith)) (scans_class p s c (suc n) (suc m) e f l)

-- the definition, by the tests of the first byte
abbrev chosen : Bool → Bool → Bool → Bool → Bool → Bool → Bool → ℕ → List ℕ → Piece
chosen blank slash quote letter mark digit e b s =
    if blank then piece Blank 1 otherwise (
    if slash && starts (47 ∷ []) s then piece Blank (suc (line_size s)) otherwise (
    if slash && starts (42 ∷ []) s then closed Blank (comment_size 2 opened (drop 1 s)) otherwise (
    if quote then closed Quoted (quoted_size 1 s) otherwise (
    if letter then word_at (b ∷ s) otherwise (
    if e && mark then piece Marks (run is_mark (b ∷ s)) otherwise (
    if e && digit then piece Wrong 0 otherwise (
    if digit then piece Numeral (run is_digit (b ∷ s)) otherwise
    sign_at signs (b ∷ s))))))))

-- by its class
abbrev chosen_by : ℕ → Bool → ℕ → List ℕ → Piece
chosen_by x e b s = chosen (eqb x Byte.blank) (eqb x Byte.slash) (eqb x Byte.quote) (eqb x Byte.letter) (within Byte.star Byte.bit x) (within Byte.bit Byte.digit x) e b s

module _ (b x : ℕ) (h : ByteClass b x) (e : Bool) (s : List ℕ) where
  by_class : (y : ℕ) → x ≡ y → piece_at e (b ∷ s) ≡ chosen_by y e b s
  by_class y f =
      ap (λ p. chosen p (eqb 47 b) (eqb b 34) (is_name_start b) (is_mark b) (is_digit b) e b s) h.blank
      ∙ ap (λ p. chosen (eqb x Byte.blank) p (eqb b 34) (is_name_start b) (is_mark b) (is_digit b) e b s) h.slash
      ∙ ap (λ p. chosen (eqb x Byte.blank) (eqb x Byte.slash) p (is_name_start b) (is_mark b) (is_digit b) e b s) h.quote
      ∙ ap (λ p. chosen (eqb x Byte.blank) (eqb x Byte.slash) (eqb x Byte.quote) p (is_mark b) (is_digit b) e b s) h.letter
      ∙ ap (λ p. chosen (eqb x Byte.blank) (eqb x Byte.slash) (eqb x Byte.quote) (eqb x Byte.letter) p (is_digit b) e b s) h.mark
      ∙ ap (λ p. chosen (eqb x Byte.blank) (eqb x Byte.slash) (eqb x Byte.quote) (eqb x Byte.letter) (within Byte.star Byte.bit x) p e b s) h.digit
      ∙ ap (λ z. chosen_by z e b s) f

  pub piece-letter : x ≡ Byte.letter → piece_at e (b ∷ s) ≡ word_at (b ∷ s)
  piece-letter f = by_class Byte.letter f

  pub piece-blank : x ≡ Byte.blank → piece_at e (b ∷ s) ≡ piece Blank 1
  piece-blank f = by_class Byte.blank f

  pub piece-quote : x ≡ Byte.quote → piece_at e (b ∷ s) ≡ closed Quoted (quoted_size 1 s)
  piece-quote f = by_class Byte.quote f

  no_test : (m : Bool) → chosen false false false false false false m b s ≡ sign_at signs (b ∷ s)
  no_test true = refl
  no_test false = refl

  -- a byte of no class and a prime: at most a sign
  pub piece-low : x < Byte.star → (x ≡ Byte.blank → ⊥) → (x ≡ Byte.quote → ⊥) → (x ≡ Byte.slash → ⊥) → piece_at e (b ∷ s) ≡ sign_at signs (b ∷ s)
  piece-low l p q r = let f : x ≡ 0 = omega arith in by_class 0 f ∙ no_test e

  pub piece-high : Byte.digit < x → (x ≡ Byte.letter → ⊥) → piece_at e (b ∷ s) ≡ sign_at signs (b ∷ s)
  piece-high l p = let k = h.known in let f : x ≡ Byte.prime = omega arith in by_class Byte.prime f ∙ no_test e

  -- a slash, by what comes after it
  module _ (f : x ≡ Byte.slash) where
    pub piece-line : starts (47 ∷ []) s ≡ true → piece_at e (b ∷ s) ≡ piece Blank (suc (line_size s))
    piece-line g = by_class Byte.slash f ∙ pick (starts (47 ∷ []) s) _ _ g

    pub piece-comment : starts (47 ∷ []) s ≡ false → starts (42 ∷ []) s ≡ true → piece_at e (b ∷ s) ≡ closed Blank (comment_size 2 opened (drop 1 s))
    piece-comment g k = by_class Byte.slash f ∙ leave (starts (47 ∷ []) s) _ _ g ∙ pick (starts (42 ∷ []) s) _ _ k

    pub piece-slash : starts (47 ∷ []) s ≡ false → starts (42 ∷ []) s ≡ false → piece_at e (b ∷ s) ≡ sign_at signs (b ∷ s)
    piece-slash g k = by_class Byte.slash f ∙ leave (starts (47 ∷ []) s) _ _ g ∙ leave (starts (42 ∷ []) s) _ _ k ∙ no_test e

-- marks and digits, in an enumeration and elsewhere
module _ (b x : ℕ) (h : ByteClass b x) (s : List ℕ) where
  pub piece_marks : Byte.star ≤ x → x ≤ Byte.bit → piece_at true (b ∷ s) ≡ piece Marks (run is_mark (b ∷ s))
  piece_marks l m = either x Byte.star l m (by_class b x h true s Byte.star) (by_class b x h true s Byte.bit)

  pub piece_unmarked : x ≡ Byte.digit → piece_at true (b ∷ s) ≡ piece Wrong 0
  piece_unmarked f = by_class b x h true s Byte.digit f

  pub piece-star : x ≡ Byte.star → piece_at false (b ∷ s) ≡ sign_at signs (b ∷ s)
  piece-star f = by_class b x h false s Byte.star f

  pub piece-numeral : Byte.bit ≤ x → x ≤ Byte.digit → piece_at false (b ∷ s) ≡ piece Numeral (run is_digit (b ∷ s))
  piece-numeral l m = either x Byte.bit l m (by_class b x h false s Byte.bit) (by_class b x h false s Byte.digit)
