-- The laws of pieces at a place of the text, as the functions ask for them.
use Prim.Native.Nat.{ℕ, suc, ◌+◌, ◌-◌, ◌*◌, ◌≤◌, ◌<◌}
use mathlib.Core.List.{List, [], ◌∷◌}
use mathlib.Core.Bool.{Bool, true, false, ◌&&◌}
use mathlib.Core.Path.{◌≡◌, refl, sym, ap, ◌∙◌, subst}
use lib.ListN.{length, get_or, drop, drop_of_length-le}
use lib.Seq.{drop-cons, drop-drop}
use native.Mathlib.Numerals.{add-one}
use native.Mathlib.Omega.{arith}
use borrow.Author.Tests.{eq-eqb, ne_eqb}
use Rattle.language.specs.Limits.{max_name}
use Rattle.language.specs.Bytes.{is_name_start, is_name_byte, is_mark, is_digit, starts}
use Rattle.language.specs.Tokens.{Name, Numeral, Quoted, Marks, Wrong, Blank, Piece, signs, run, line_size, quoted_size, comment_size, sign_at, word_at, piece_at}
use Rattle.lexer.specs.ByteClasses as Byte
use Rattle.lexer.specs.Numbers.{no_number, class_number, first_fixed}
use Rattle.lexer.specs.Spelling.{count, entries, entry, search, fitting}
use Rattle.lexer.specs.Tables.{ByteClass, NextWith, classed}
use Rattle.lexer.specs.Scanning.{opened, Findable, Scannable, ScansAs, Scans, closed_as}
use Rattle.lexer.specs.declared.piece.Scanned.{Scanned}
use Rattle.lexer.proofs.ScanLaws.{scans_class, word_long, word-fixed, word-name, sign-fixed, sign-wrong, run-classed}
use Rattle.lexer.proofs.ClassLaws.{
  scans_closed,
  piece-letter,
  piece-blank,
  piece-quote,
  piece-low,
  piece-high,
  piece-line,
  piece-comment,
  piece-slash,
  piece_marks,
  piece_unmarked,
  piece-star,
  piece-numeral,
}

module _ (text : List ℕ) (at : ℕ) (bs rs : List ℕ) (c : Scannable text at bs rs) (small : (i : ℕ) → get_or text i 0 < 256) where
  abbrev byte : ℕ
  byte = get_or text at 0

  abbrev rest : List ℕ
  rest = drop (suc at) text

  abbrev class : ℕ
  class = get_or bs (2 * byte) 0

  here : drop at text ≡ byte ∷ rest
  here = drop-cons text at 0 c.inside

  known : ByteClass byte class
  known = c.bytes.class byte (small at)

  -- a fact of the byte and the rest is one of the place
  placed : (f : List ℕ → Piece) (r : Scanned) → ScansAs (f (byte ∷ rest)) (byte ∷ rest) r → ScansAs (f (drop at text)) (drop at text) r
  placed f r h = subst (λ s. ScansAs (f s) s r) (sym here) h

  -- the same piece by another name
  renamed : (f : List ℕ → Piece) (e : Bool) (r : Scanned) → piece_at e (byte ∷ rest) ≡ f (byte ∷ rest) → ScansAs (f (drop at text)) (drop at text) r → Scans e (drop at text) r
  renamed f e r h k = placed (piece_at e) r (subst (λ p. ScansAs p (byte ∷ rest) r) (sym h) (subst (λ s. ScansAs (f s) s r) here k))

  pub findable : (k : ℕ) → k ≡ get_or bs (2 * byte + 1) 0 → Findable text at rs k
  findable k e = record { inside = c.inside; rows = c.rows; leads = subst (NextWith byte 0) (sym e) (c.bytes.first byte (small at)) }

  -- words and names
  module _ (start : is_name_start byte ≡ true) (n : ℕ) (e : n ≡ run (classed bs Byte.bit Byte.prime) (drop at text)) where
    named : n ≡ run is_name_byte (byte ∷ rest)
    unfolding classed
    named = e ∙ run-classed bs text at Byte.bit Byte.prime is_name_byte small (λ b h. sym (c.bytes.class b h).named) ∙ ap (run is_name_byte) here

    pub long-at : max_name < n → ScansAs (word_at (drop at text)) (drop at text) (record { number = no_number; size = 0 })
    long-at l = placed word_at _ (word_long byte rest n start named l)

    module _ (l : n ≤ max_name) (k : ℕ) (f : k ≡ search (fitting n (drop at text)) entries) where
      found : k ≡ search (fitting n (byte ∷ rest)) entries
      found = f ∙ ap (λ s. search (fitting n s) entries) here

      pub fixed-at : k < count → ScansAs (word_at (drop at text)) (drop at text) (record { number = first_fixed + k; size = n })
      fixed-at h = placed word_at _ (word-fixed byte rest n start named l k found h)

      pub name_at_lem : count ≤ k → ScansAs (word_at (drop at text)) (drop at text) (record { number = class_number Name; size = n })
      name_at_lem h = placed word_at _ (word-name byte rest n start named l k found h)

  -- signs
  module _ (start : is_name_start byte ≡ false) (k : ℕ) (f : k ≡ search (fitting 0 (drop at text)) entries) where
    met : k ≡ search (fitting 0 (byte ∷ rest)) entries
    met = f ∙ ap (λ s. search (fitting 0 s) entries) here

    pub sign-at : (n : ℕ) → k < count → n ≡ length (entry k) → ScansAs (sign_at signs (drop at text)) (drop at text) (record { number = first_fixed + k; size = n })
    sign-at n h l = placed (sign_at signs) _ (sign-fixed byte rest start k met n h l)

    pub wrong-at : count ≤ k → ScansAs (sign_at signs (drop at text)) (drop at text) (record { number = no_number; size = 0 })
    wrong-at h = placed (sign_at signs) _ (sign-wrong byte rest start k met h)

  -- which byte begins a name
  module _ (x : ℕ) (f : x ≡ class) where
    pub begins-name : x ≡ Byte.letter → is_name_start byte ≡ true
    begins-name e = known.letter ∙ eq-eqb class Byte.letter (sym f ∙ e)

    pub begins-none : (x ≡ Byte.letter → ⊥) → is_name_start byte ≡ false
    begins-none e = known.letter ∙ ne_eqb class Byte.letter (λ g. e (f ∙ g))

    right : ByteClass byte x
    right = subst (ByteClass byte) (sym f) known

    module _ (e : Bool) where
      pub letter_at : x ≡ Byte.letter → (r : Scanned) → ScansAs (word_at (drop at text)) (drop at text) r → Scans e (drop at text) r
      letter_at g r h = renamed word_at e r (piece-letter byte x right e rest g) h

      pub blank-at : x ≡ Byte.blank → Scans e (drop at text) (record { number = no_number; size = 1 })
      blank-at g = placed (piece_at e) _ (scans_class _ (byte ∷ rest) Blank 1 1 (piece-blank byte x right e rest g) refl refl)

      pub quoted-at : x ≡ Byte.quote → (n : ℕ) → n ≡ quoted_size 1 (drop (at + 1) text) → Scans e (drop at text) (closed_as (class_number Quoted) n)
      quoted-at g n l =
          placed (piece_at e) _ (scans_closed _ (byte ∷ rest) Quoted (quoted_size 1 rest) n (piece-quote byte x right e rest g) refl
          (l ∙ ap (λ m. quoted_size 1 (drop m text)) (add-one at)))

      module _ (r : Scanned) (h : ScansAs (sign_at signs (drop at text)) (drop at text) r) where
        pub low-at : x < Byte.star → (x ≡ Byte.blank → ⊥) → (x ≡ Byte.quote → ⊥) → (x ≡ Byte.slash → ⊥) → Scans e (drop at text) r
        low-at l p q s = renamed (sign_at signs) e r (piece-low byte x right e rest l p q s) h

        pub high-at : Byte.digit < x → (x ≡ Byte.letter → ⊥) → Scans e (drop at text) r
        high-at l p = renamed (sign_at signs) e r (piece-high byte x right e rest l p) h

    -- in an enumeration
    module _ (e : Bool) (on : e ≡ true) where
      pub marks-at : Byte.star ≤ x → x ≤ Byte.bit → (n : ℕ) → n ≡ run (classed bs Byte.star Byte.bit) (drop at text) → Scans e (drop at text) (record { number = class_number Marks; size = n })
      unfolding classed
      marks-at l m n g =
          rw on (placed (piece_at true) _ (scans_class _ (byte ∷ rest) Marks (run is_mark (byte ∷ rest)) n (piece_marks byte x right rest l m) refl
          (g ∙ run-classed bs text at Byte.star Byte.bit is_mark small (λ b h. sym (c.bytes.class b h).mark) ∙ ap (run is_mark) here)))

      pub unmarked-at : x ≡ Byte.digit → Scans e (drop at text) (record { number = no_number; size = 0 })
      unmarked-at g = rw on (placed (piece_at true) _ (scans_class _ (byte ∷ rest) Wrong 0 0 (piece_unmarked byte x right rest g) refl refl))

    -- elsewhere
    module _ (e : Bool) (off : e ≡ false) where
      pub numeral-at : Byte.bit ≤ x → x ≤ Byte.digit → (n : ℕ) → n ≡ run (classed bs Byte.bit Byte.digit) (drop at text) → Scans e (drop at text) (record { number = class_number Numeral; size = n })
      unfolding classed
      numeral-at l m n g =
          rw off (placed (piece_at false) _ (scans_class _ (byte ∷ rest) Numeral (run is_digit (byte ∷ rest)) n (piece-numeral byte x right rest l m) refl
          (g ∙ run-classed bs text at Byte.bit Byte.digit is_digit small (λ b h. sym (c.bytes.class b h).digit) ∙ ap (run is_digit) here)))

      pub star-at : x ≡ Byte.star → (r : Scanned) → ScansAs (sign_at signs (drop at text)) (drop at text) r → Scans e (drop at text) r
      star-at g r h = rw off (renamed (sign_at signs) false r (piece-star byte x right rest g) h)

  -- after a slash
  module _ (f : class ≡ Byte.slash) (e : Bool) where
    next : 2 ≤ length text - at → rest ≡ get_or text (at + 1) 0 ∷ drop (suc (suc at)) text
    next l = drop-cons text (suc at) 0 (omega arith) ∙ ap (λ m. get_or text m 0 ∷ drop (suc (suc at)) text) (sym (add-one at))

    then-byte : (x : ℕ) → 2 ≤ length text - at → get_or text (at + 1) 0 ≡ x → starts (x ∷ []) rest ≡ true
    then-byte x l g = ap (starts (x ∷ [])) (next l) ∙ ap (λ p. p && true) (eq-eqb x (get_or text (at + 1) 0) (sym g))

    not_byte : (x : ℕ) → 2 ≤ length text - at → (get_or text (at + 1) 0 ≡ x → ⊥) → starts (x ∷ []) rest ≡ false
    not_byte x l g = ap (starts (x ∷ [])) (next l) ∙ ap (λ p. p && true) (ne_eqb x (get_or text (at + 1) 0) (λ h. g (sym h)))

    no_byte : (x : ℕ) → length text - at < 2 → starts (x ∷ []) rest ≡ false
    no_byte x l = let last : length text ≤ suc at = omega (arith, c.inside) in ap (starts (x ∷ [])) (drop_of_length-le text last)

    pub line_at : 2 ≤ length text - at → get_or text (at + 1) 0 ≡ 47 → (n : ℕ) → n ≡ line_size (drop (at + 1) text) → Scans e (drop at text) (record { number = no_number; size = n + 1 })
    line_at l g n h =
        placed (piece_at e) _ (scans_class _ (byte ∷ rest) Blank (suc (line_size rest)) (n + 1) (piece-line byte class known e rest f (then-byte 47 l g)) refl
        (add-one n ∙ ap suc (h ∙ ap (λ m. line_size (drop m text)) (add-one at))))

    pub comment-at : 2 ≤ length text - at → get_or text (at + 1) 0 ≡ 42 → (n : ℕ) → n ≡ comment_size 2 opened (drop (at + 2) text) → Scans e (drop at text) (closed_as no_number n)
    comment-at l g n h =
        let two : at + 2 ≡ suc at + 1 = omega arith in
        let past : drop (at + 2) text ≡ drop 1 rest = ap (λ m. drop m text) two ∙ sym (drop-drop 1 (suc at) text) in
        let other : get_or text (at + 1) 0 ≡ 47 → ⊥ = λ k. omega arith in
        placed (piece_at e) _ (scans_closed _ (byte ∷ rest) Blank (comment_size 2 opened (drop 1 rest)) n
        (piece-comment byte class known e rest f (not_byte 47 l other) (then-byte 42 l g)) refl (h ∙ ap (comment_size 2 opened) past))

    module _ (r : Scanned) (h : ScansAs (sign_at signs (drop at text)) (drop at text) r) where
      pub slash-last : length text - at < 2 → Scans e (drop at text) r
      slash-last l = renamed (sign_at signs) e r (piece-slash byte class known e rest f (no_byte 47 l) (no_byte 42 l)) h

      pub slash-at : 2 ≤ length text - at → (get_or text (at + 1) 0 ≡ 47 → ⊥) → (get_or text (at + 1) 0 ≡ 42 → ⊥) → Scans e (drop at text) r
      slash-at l p q = renamed (sign_at signs) e r (piece-slash byte class known e rest f (not_byte 47 l p) (not_byte 42 l q)) h
