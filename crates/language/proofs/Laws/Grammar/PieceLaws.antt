-- Laws of what stands at the front of the bytes still to be read: it lies in them, has a byte unless no token can be read, and a name has at most 64.
use Rattle.std.specs.Prelude.{ℕ, zero, suc, ◌+◌, ◌≤◌, List, [], ◌∷◌, Bool, true, false, ◌&&◌, ◌||◌, ◌≡◌, refl, leb, eqb, length, take, drop}
use Prim.Native.String.{String}
use Rattle.std.proofs.lemmas.Bool.{false≢true}
use Rattle.std.proofs.Common.{sym, ◌∙◌, length-drop, arith, leb-true}
use Rattle.language.specs.Limits.{max_name}
use Rattle.language.specs.Bytes.{ascii, is_blank, is_digit, is_name_start, is_name_byte, is_mark, starts, is_one_of}
use Rattle.language.specs.Tokens.{
  Class,
  Name,
  Numeral,
  Quoted,
  Marks,
  End,
  Wrong,
  Blank,
  code,
  words,
  signs,
  Piece,
  run,
  line_size,
  quoted_size,
  Nesting,
  nested,
  comment_size,
  sign_at,
  word_at,
  closed,
  piece_at,
}
use Rattle.language.proofs.Laws.Basics.Tests.{split, and_left, and_right, or_left}

pub run_fits : (p : ℕ → Bool) (s : List ℕ) → run p s ≤ length s
run_fits p [] = omega arith
run_fits p (b ∷ s) = let ih = run_fits p s in split (λ n. n ≤ length (b ∷ s)) (p b) (λ e. omega arith) (λ e. omega arith)

pub run_some : (p : ℕ → Bool) (b : ℕ) (s : List ℕ) → p b ≡ true → 1 ≤ run p (b ∷ s)
run_some p b s e = rw (e, run) (omega arith)

pub line_size-fits : (s : List ℕ) → line_size s ≤ length s
line_size-fits [] = omega arith
line_size-fits (b ∷ s) = let ih = line_size-fits s in split (λ n. n ≤ length (b ∷ s)) (eqb b 10) (λ e. omega arith) (λ e. omega arith)

pub quoted_size-fits : (n : ℕ) (s : List ℕ) → quoted_size n s ≤ n + length s
quoted_size-fits n [] = omega arith
quoted_size-fits n (b ∷ s) =
    let ih = quoted_size-fits (suc n) s in
    split (λ k. k ≤ n + length (b ∷ s)) (eqb b 34) (λ e. omega arith) (λ e. omega arith)

pub comment_size-fits : (k : ℕ) (n : Nesting) (s : List ℕ) → comment_size k n s ≤ k + length s
comment_size-fits k n [] = omega arith
comment_size-fits k n (b ∷ s) =
    let m = nested n b in
    let ih = comment_size-fits (suc k) m s in
    split (λ j. j ≤ k + length (b ∷ s)) (eqb m.depth 0) (λ e. omega arith) (λ e. omega arith)

-- what starts a text is no longer than it
pub starts-fits : (w s : List ℕ) → starts w s ≡ true → length w ≤ length s
starts-fits [] s e = omega arith
starts-fits (x ∷ w) [] e = absurd (false≢true e)
starts-fits (x ∷ w) (y ∷ s) e = let ih = starts-fits w s (and_right (eqb x y) (starts w s) e) in omega arith

abbrev pub is_class : Class → Piece → Bool
is_class c p = eqb (code c) (code p.class)

-- a piece at the front of n bytes
pub record Sound (n : ℕ) (p : Piece) : Type 0 where
  pub fits : p.size ≤ n
  pub some : is_class Wrong p ≡ false → 1 ≤ p.size
  pub inner : is_class End p ≡ false
  pub short : is_class Name p ≡ true → p.size ≤ max_name

abbrev wrong : Piece
wrong = record { class = Wrong; size = 0 }

wrong-sound : (n : ℕ) → Sound n wrong
wrong-sound n = record { fits = omega arith; some = λ e. absurd (false≢true (sym e)); inner = refl; short = λ e. absurd (false≢true e) }

-- has every sign a byte?
abbrev solid : List String → Bool
solid [] = true
solid (w ∷ ws) = leb 1 (length (ascii w)) && solid ws

sign_at-sound : (ws : List String) (s : List ℕ) → solid ws ≡ true → Sound (length s) (sign_at ws s)
sign_at-sound [] s e = wrong-sound (length s)
sign_at-sound (w ∷ ws) s e =
    split (Sound (length s)) (starts (ascii w) s)
    (λ h. record {
      fits = starts-fits (ascii w) s h;
      some = λ z. leb-true 1 (length (ascii w)) (and_left (leb 1 (length (ascii w))) (solid ws) e);
      inner = refl;
      short = λ z. absurd (false≢true z);
    })
    (λ h. sign_at-sound ws s (and_right (leb 1 (length (ascii w))) (solid ws) e))

word_at-sound : (b : ℕ) (s : List ℕ) → is_name_start b ≡ true → Sound (length (b ∷ s)) (word_at (b ∷ s))
word_at-sound b s e =
    let n = run is_name_byte (b ∷ s) in
    split (Sound (length (b ∷ s))) (leb n max_name)
    (λ h. record {
      fits = run_fits is_name_byte (b ∷ s);
      some = λ z. run_some is_name_byte b s (or_left (is_name_start b || is_digit b) (eqb b 39) (or_left (is_name_start b) (is_digit b) e));
      inner = split (λ c. eqb (code End) (code c) ≡ false) (is_one_of words (take n (b ∷ s))) (λ _. refl) (λ _. refl);
      short = λ z. leb-true n max_name h;
    })
    (λ h. wrong-sound (length (b ∷ s)))

-- a class that is neither Name nor End
other : (c : Class) (n m : ℕ) → eqb (code Name) (code c) ≡ false → eqb (code End) (code c) ≡ false → m ≤ n → 1 ≤ m → Sound n (record { class = c; size = m })
other c n m e i h g = record { fits = h; some = λ z. g; inner = i; short = λ z. absurd (false≢true (sym e ∙ z)) }

closed-sound : (c : Class) (n m : ℕ) → eqb (code Name) (code c) ≡ false → eqb (code End) (code c) ≡ false → m ≤ n → Sound n (closed c m)
closed-sound c n zero e i h = wrong-sound n
closed-sound c n (suc m) e i h = other c n (suc m) e i h (omega arith)

pub piece_at-sound : (e : Bool) (b : ℕ) (s : List ℕ) → Sound (length (b ∷ s)) (piece_at e (b ∷ s))
piece_at-sound e b s =
    let n = length (b ∷ s) in
    let P = Sound n in
    let opened : Nesting = record { depth = 1; last = 0 } in
    split P (is_blank b) (λ _. other Blank n 1 refl refl (omega arith) (omega arith))
    (λ _. split P (starts (ascii "//") (b ∷ s)) (λ _. other Blank n (suc (line_size s)) refl refl (omega (arith, line_size-fits s)) (omega arith))
    (λ _. split P (starts (ascii "/*") (b ∷ s))
    (λ h. closed-sound Blank n (comment_size 2 opened (drop 1 s)) refl refl (omega (arith, comment_size-fits 2 opened (drop 1 s), length-drop 1 s, starts-fits (ascii "/*") (b ∷ s) h)))
    (λ _. split P (eqb b 34) (λ _. closed-sound Quoted n (quoted_size 1 s) refl refl (omega (arith, quoted_size-fits 1 s)))
    (λ _. split P (is_name_start b) (λ h. word_at-sound b s h)
    (λ _. split P (e && is_mark b) (λ h. other Marks n (run is_mark (b ∷ s)) refl refl (run_fits is_mark (b ∷ s)) (run_some is_mark b s (and_right e (is_mark b) h)))
    (λ _. split P (e && is_digit b) (λ _. wrong-sound n)
    (λ _. split P (is_digit b) (λ h. other Numeral n (run is_digit (b ∷ s)) refl refl (run_fits is_digit (b ∷ s)) (run_some is_digit b s h))
    (λ _. sign_at-sound signs (b ∷ s) refl))))))))
