-- What the code scans is the definition's piece: words and signs by what the search found, the others by the class of their first byte.
use Prim.Native.Nat.{ℕ, suc, ◌+◌, ◌≤◌, ◌<◌}
use mathlib.Core.List.{List, [], ◌∷◌}
use mathlib.Core.Bool.{Bool, true, false, ◌||◌}
use mathlib.Core.Path.{◌≡◌, refl, sym, ap, ap₂, ◌∙◌, subst}
use lib.Dec.{eqb, leb}
use lib.ListN.{length, get_or, take, drop}
use lib.Seq.{get_or-drop}
use native.Mathlib.Omega.{arith}
use borrow.Author.Tests.{le-leb, lt-leb}
use Rattle.language.specs.Limits.{max_name}
use Rattle.language.specs.Bytes.{if◌then◌otherwise◌, is_name_start, is_name_byte, is_digit, is_one_of}
use Rattle.language.specs.Tokens.{Class, Fixed, Name, Wrong, code, Piece, signs, words, run, sign_at, word_at}
use Rattle.language.proofs.Laws.Basics.Tests.{pick, leave, or_left}
use Rattle.language.proofs.Laws.Grammar.PieceLaws.{run_fits, run_some}
use Rattle.lexer.specs.Numbers.{spellings, position, no_number, class_number, first_fixed}
use Rattle.lexer.specs.NumberLaws.{number-fixed, number-class}
use Rattle.lexer.specs.Spelling.{count, entries, entry, search, fitting}
use Rattle.lexer.specs.Tables.{classed}
use Rattle.lexer.specs.Scanning.{piece_number, ScansAs}
use Rattle.lexer.proofs.WordLaws.{word-position, position_in, position_out, among-words, among-signs, take-starts, nth, sign-found, sign_none}

abbrev pub piece : Class → ℕ → Piece
piece c n = record { class = c; size = n }

-- the number of a piece
number_of-fixed : (n : ℕ) (s : List ℕ) → piece_number (piece Fixed n) s ≡ first_fixed + position spellings (take n s)
unfolding piece_number
number_of-fixed n s = number-fixed (record { class = Fixed; at = 0; text = take n s }) refl

number_of-class : (c : Class) (n : ℕ) (s : List ℕ) → eqb (code Fixed) (code c) ≡ false → piece_number (piece c n) s ≡ class_number c
unfolding piece_number
number_of-class c n s e = number-class (record { class = c; at = 0; text = take n s }) e

-- a piece that is no sign or word
pub scans_class : (p : Piece) (s : List ℕ) (c : Class) (n m : ℕ) → p ≡ piece c n → eqb (code Fixed) (code c) ≡ false → m ≡ n → ScansAs p s (record { number = class_number c; size = m })
scans_class p s c n m e f l = rw e (record { number = sym (number_of-class c n s f); size = l })

pub scans_fixed : (p : Piece) (s : List ℕ) (n k m : ℕ) → p ≡ piece Fixed n → k ≡ position spellings (take n s) → m ≡ n → ScansAs p s (record { number = first_fixed + k; size = m })
scans_fixed p s n k m e f l = rw e (record { number = ap (λ j. first_fixed + j) f ∙ sym (number_of-fixed n s); size = l })

-- a word or name
module _ (b : ℕ) (t : List ℕ) (n : ℕ) (start : is_name_start b ≡ true) (e : n ≡ run is_name_byte (b ∷ t)) where
  abbrev word_by : ℕ → Piece
  word_by m = if leb m max_name then piece (if is_one_of words (take m (b ∷ t)) then Fixed otherwise Name) m otherwise piece Wrong 0

  word_by_lem : word_at (b ∷ t) ≡ word_by n
  word_by_lem = ap word_by (sym e)

  some : 1 ≤ n
  some = subst (λ m. 1 ≤ m) (sym e) (run_some is_name_byte b t (or_left (is_name_start b || is_digit b) (eqb b 39) (or_left (is_name_start b) (is_digit b) start)))

  fits : n ≤ length (b ∷ t)
  fits = subst (λ m. m ≤ length (b ∷ t)) (sym e) (run_fits is_name_byte (b ∷ t))

  pub word_long : max_name < n → ScansAs (word_at (b ∷ t)) (b ∷ t) (record { number = no_number; size = 0 })
  word_long l = scans_class (word_at (b ∷ t)) (b ∷ t) Wrong 0 0 (word_by_lem ∙ leave (leb n max_name) _ _ (lt-leb n max_name l)) refl refl

  module _ (l : n ≤ max_name) (k : ℕ) (f : k ≡ search (fitting n (b ∷ t)) entries) where
    short : word_at (b ∷ t) ≡ piece (if is_one_of words (take n (b ∷ t)) then Fixed otherwise Name) n
    short = word_by_lem ∙ pick (leb n max_name) _ _ (le-leb n max_name l)

    place : k ≡ position spellings (take n (b ∷ t))
    place = f ∙ word-position (b ∷ t) n some fits

    among : (m : ℕ) → 1 ≤ m → is_one_of spellings (take m (b ∷ t)) ≡ is_one_of words (take m (b ∷ t))
    among Prim.Native.Nat.zero h = elim h [ ]
    among (suc m) h = among-words b (take m t) start

    pub word-fixed : k < count → ScansAs (word_at (b ∷ t)) (b ∷ t) (record { number = first_fixed + k; size = n })
    word-fixed h =
        let listed : is_one_of words (take n (b ∷ t)) ≡ true = sym (among n some) ∙ position_in spellings (take n (b ∷ t)) (subst (λ j. j < count) place h) in
        scans_fixed (word_at (b ∷ t)) (b ∷ t) n k n (short ∙ ap (λ c. piece c n) (pick (is_one_of words (take n (b ∷ t))) Fixed Name listed)) place refl

    pub word-name : count ≤ k → ScansAs (word_at (b ∷ t)) (b ∷ t) (record { number = class_number Name; size = n })
    word-name h =
        let free : is_one_of words (take n (b ∷ t)) ≡ false = sym (among n some) ∙ position_out spellings (take n (b ∷ t)) (subst (λ j. count ≤ j) place h) in
        scans_class (word_at (b ∷ t)) (b ∷ t) Name n n (short ∙ ap (λ c. piece c n) (leave (is_one_of words (take n (b ∷ t))) Fixed Name free)) refl refl

-- a sign
module _ (b : ℕ) (t : List ℕ) (start : is_name_start b ≡ false) (k : ℕ) (f : k ≡ search (fitting 0 (b ∷ t)) entries) where
  pub sign-fixed : (n : ℕ) → k < count → n ≡ length (entry k) → ScansAs (sign_at signs (b ∷ t)) (b ∷ t) (record { number = first_fixed + k; size = n })
  unfolding entry entries fitting
  sign-fixed n h l =
      let a = sign-found (b ∷ t) spellings k (sym f) h in
      scans_fixed (sign_at signs (b ∷ t)) (b ∷ t) (length (nth spellings k)) k n (sym (among-signs b t start) ∙ a.sign)
      (sym (ap (position spellings) (take-starts (nth spellings k) (b ∷ t) a.begun) ∙ a.place)) l

  pub sign-wrong : count ≤ k → ScansAs (sign_at signs (b ∷ t)) (b ∷ t) (record { number = no_number; size = 0 })
  unfolding entries fitting
  sign-wrong h = scans_class (sign_at signs (b ∷ t)) (b ∷ t) Wrong 0 0 (sym (among-signs b t start) ∙ sign_none (b ∷ t) spellings (subst (λ j. count ≤ j) f h)) refl refl

-- runs by the classes of the table
run-same : (p q : ℕ → Bool) (s : List ℕ) → ((i : ℕ) → i < length s → p (get_or s i 0) ≡ q (get_or s i 0)) → run p s ≡ run q s
run-same p q [] h = refl
run-same p q (b ∷ s) h = ap₂ (λ (c : Bool) (n : ℕ). elim c [ true ↦ suc n | false ↦ 0 ]) (h 0 (omega arith)) (run-same p q s (λ i l. h (suc i) (omega arith)))

pub run-classed : (bs text : List ℕ) (at low high : ℕ) (q : ℕ → Bool) → ((i : ℕ) → get_or text i 0 < 256) → ((b : ℕ) → b < 256 → classed bs low high b ≡ q b)
    → run (classed bs low high) (drop at text) ≡ run q (drop at text)
run-classed bs text at low high q small h =
    run-same (classed bs low high) q (drop at text) (λ i l. h (get_or (drop at text) i 0) (subst (λ b. b < 256) (sym (get_or-drop at text i 0)) (small (at + i))))
