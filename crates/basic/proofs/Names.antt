-- The names of an accepted text's signals are names again: letters, digits and the like, no words of the format; so each is read as itself before a blank.
use Rattle.std.specs.Prelude.{ℕ, zero, suc, ◌+◌, ◌-◌, ◌/◌, ◌%◌, ◌≤◌, ◌<◌, ◌≡◌, refl, Bool, true, false, ◌&&◌, ◌||◌, List, [], ◌∷◌, ◌++◌, leb, ltb, eqb, length, take}
use Prim.Native.String.{String}
use Rattle.std.proofs.Common.{ap, ap₂, ◌∙◌, sym, subst, arith, eqb-true, leb-true, ltb-true, le-leb}
use Rattle.std.proofs.lemmas.Bool.{false≢true}
use Rattle.language.specs.Limits.{max_name}
use Rattle.language.specs.Bytes.{ascii, if◌then◌otherwise◌, within, is_blank, is_digit, is_name_start, is_name_byte, starts, same, is_one_of}
use Rattle.language.specs.Tokens.{Class, Fixed, Name, Wrong, Blank, words, Token, is_of, Piece, run, word_at, piece_at, enumerating_after, lex, tokens}
use Rattle.language.specs.Meaning.{SignalOf, BitOf}
use Rattle.language.proofs.Laws.Basics.Lists.{All, all_append}
use Rattle.language.proofs.Laws.Basics.Tests.{split, pick, leave, and_left, or_left, or_right, or_cases, same_equal, or_right_false}
use Rattle.language.proofs.Laws.Grammar.EveryToken.{tokens-each}
use Rattle.basic.specs.Spelling.{digits_of, spelling}
use Rattle.basic.proofs.Lexed.{later, Alone}

-- bytes that can be a name
abbrev pub Bytewise : List ℕ → Type 0
Bytewise s = All (λ b. is_name_byte b ≡ true) s

abbrev pub Begins : List ℕ → Type 0
Begins [] = ⊥
Begins (b ∷ s) = is_name_start b ≡ true

-- a name, of whatever length
pub record ProperName (s : List ℕ) : Type 0 where
  pub begins : Begins s
  pub bytewise : Bytewise s
  pub free : is_one_of words s ≡ false

-- every name of a text is one
run-all : (p : ℕ → Bool) (s : List ℕ) → All (λ b. p b ≡ true) (take (run p s) s)
run-all p [] = tt
run-all p (b ∷ s) = let ih = run-all p s in split (λ (n : ℕ). All (λ b. p b ≡ true) (take n (b ∷ s))) (p b) (λ e. (e, ih)) (λ _. tt)

start-byte : (b : ℕ) → is_name_start b ≡ true → is_name_byte b ≡ true
start-byte b e = or_left (is_name_start b || is_digit b) (eqb b 39) (or_left (is_name_start b) (is_digit b) e)

-- a token, if it is a name
abbrev pub NameToken : Token → Type 0
NameToken t = is_of Name t ≡ true → ProperName t.text

pub tokens-names : (text : List ℕ) → All NameToken (tokens text)
tokens-names text = tokens-each text NameToken (λ _ w. absurd (false≢true w)) (λ at b s h. record {
  blank = λ _ w. absurd (false≢true w);
  quoted = λ _ w. absurd (false≢true w);
  fixed = λ _ w. absurd (false≢true w);
  wrong = λ w. absurd (false≢true w);
  name = λ start free _.
      let size : run is_name_byte (b ∷ s) ≡ suc (run is_name_byte s) = pick (is_name_byte b) (suc (run is_name_byte s)) 0 (start-byte b start) in
      record { begins = subst (λ (k : ℕ). Begins (take k (b ∷ s))) (sym size) start; bytewise = run-all is_name_byte (b ∷ s); free = free };
  marks = λ w. absurd (false≢true w);
  numeral = λ w. absurd (false≢true w);
})

-- names as they are written, by computing
single : spelling (SignalOf (ascii "b")) ≡ ascii "b"
single = refl

first_bit : spelling (BitOf (ascii "b") 0) ≡ ascii "b@0"
unfolding digits_of
first_bit = refl

ninth_bit : spelling (BitOf (ascii "b") 9) ≡ ascii "b@9"
unfolding digits_of
ninth_bit = refl

tenth_bit : spelling (BitOf (ascii "b'") 10) ≡ ascii "b'@10"
unfolding digits_of
tenth_bit = refl

hundredth_bit : spelling (BitOf (ascii "b@1") 100) ≡ ascii "b@1@100"
unfolding digits_of
hundredth_bit = refl

last_bit : spelling (BitOf (ascii "bus") 254) ≡ ascii "bus@254"
unfolding digits_of
last_bit = refl

-- a name with an at-sign and digits behind it is one
digits-bytes : (f n : ℕ) → Bytewise (digits_of f n)
unfolding digits_of
digits-bytes zero n = tt
digits-bytes (suc f) n =
    let ih = digits-bytes f (n / 10) in
    split Bytewise (ltb n 10) (λ e. (digit-byte n (ltb-true n 10 e), tt))
    (λ _. all_append (λ b. is_name_byte b ≡ true) (digits_of f (n / 10)) ((48 + n % 10) ∷ []) ih (digit-byte (n % 10) (omega arith), tt))
  where
    digit-byte : (d : ℕ) → d < 10 → is_name_byte (48 + d) ≡ true
    digit-byte d h =
        or_left (is_name_start (48 + d) || is_digit (48 + d)) (eqb (48 + d) 39)
        (or_right (is_name_start (48 + d)) (is_digit (48 + d)) (ap₂ ◌&&◌ (le-leb 48 (48 + d) (omega arith)) (le-leb (48 + d) 57 (omega arith))))

-- has a word the at-sign?
abbrev has_at : List ℕ → Bool
has_at [] = false
has_at (b ∷ s) = eqb b 64 || has_at s

abbrev some_at : List String → Bool
some_at [] = false
some_at (w ∷ ws) = has_at (ascii w) || some_at ws

has_append : (x d : List ℕ) → has_at (x ++ (64 ∷ d)) ≡ true
has_append [] d = refl
has_append (b ∷ x) d = or_right (eqb b 64) (has_at (x ++ (64 ∷ d))) (has_append x d)

no_word : (ws : List String) (x d : List ℕ) → some_at ws ≡ false → is_one_of ws (x ++ (64 ∷ d)) ≡ false
no_word [] x d h = refl
no_word (w ∷ ws) x d h = go (same (ascii w) (x ++ (64 ∷ d))) refl (no_word ws x d (or_right_false (has_at (ascii w)) (some_at ws) h))
  where
    go : (c : Bool) → same (ascii w) (x ++ (64 ∷ d)) ≡ c → is_one_of ws (x ++ (64 ∷ d)) ≡ false → (c || is_one_of ws (x ++ (64 ∷ d))) ≡ false
    go false e r = r
    go true e r =
        let at : has_at (ascii w) ≡ true = ap has_at (same_equal (ascii w) (x ++ (64 ∷ d)) e) ∙ has_append x d in
        absurd (false≢true (sym h ∙ or_left (has_at (ascii w)) (some_at ws) at))

begins-append : (x d : List ℕ) → Begins x → Begins (x ++ d)
begins-append [] d h = absurd h
begins-append (b ∷ x) d h = h

pub bit-name : (x : List ℕ) (i : ℕ) → ProperName x → ProperName (spelling (BitOf x i))
bit-name x i h =
    record {
      begins = begins-append x (64 ∷ digits_of (suc i) i) h.begins;
      bytewise = all_append (λ b. is_name_byte b ≡ true) x (64 ∷ digits_of (suc i) i) h.bytewise (refl, digits-bytes (suc i) i);
      free = no_word words x (digits_of (suc i) i) refl;
    }

-- a name of at most 64 bytes is read as itself before a blank
run-name : (s r : List ℕ) → Bytewise s → run is_name_byte (s ++ (32 ∷ r)) ≡ length s
run-name [] r h = refl
run-name (b ∷ s) r h = pick (is_name_byte b) (suc (run is_name_byte (s ++ (32 ∷ r)))) 0 h.0 ∙ ap suc (run-name s r h.1)

take-name : (s r : List ℕ) → take (length s) (s ++ r) ≡ s
take-name [] r = refl
take-name (b ∷ s) r = ap (b ∷◌) (take-name s r)

-- a name starts with no byte below the at-sign
start-high : (b : ℕ) → is_name_start b ≡ true → 64 ≤ b
start-high b e =
    or_cases (within 97 122 b || within 65 90 b || eqb b 95) (eqb b 64)
    (λ e. or_cases (within 97 122 b || within 65 90 b) (eqb b 95)
    (λ e. or_cases (within 97 122 b) (within 65 90 b) (λ e. let h = leb-true 97 b (and_left (leb 97 b) (leb b 122) e) in omega arith)
    (λ e. let h = leb-true 65 b (and_left (leb 65 b) (leb b 90) e) in omega arith) e)
    (λ e. let h = eqb-true b 95 e in omega arith) e)
    (λ e. let h = eqb-true b 64 e in omega arith) e

piece-word : (b : ℕ) (s : List ℕ) → is_name_start b ≡ true → piece_at false (b ∷ s) ≡ word_at (b ∷ s)
piece-word b s h =
    let Q : Piece → Type 0 = λ p. p ≡ word_at (b ∷ s) in
    let high = start-high b h in
    let none : (n : ℕ) → n < 64 → eqb b n ≡ true → ⊥ = λ n l e. let z = eqb-true b n e in omega arith in
    let slash : (c : Bool) → (eqb 47 b && c) ≡ true → ⊥ = λ c e. let z = eqb-true 47 b (and_left (eqb 47 b) c e) in omega arith in
    split Q (is_blank b)
    (λ e. absurd (or_cases (eqb b 32 || eqb b 9 || eqb b 10) (eqb b 13)
    (λ e. or_cases (eqb b 32 || eqb b 9) (eqb b 10) (λ e. or_cases (eqb b 32) (eqb b 9) (none 32 (omega arith)) (none 9 (omega arith)) e) (none 10 (omega arith)) e) (none 13 (omega arith)) e))
    (λ _. split Q (starts (ascii "//") (b ∷ s)) (λ e. absurd (slash (starts (47 ∷ []) s) e))
    (λ _. split Q (starts (ascii "/*") (b ∷ s)) (λ e. absurd (slash (starts (42 ∷ []) s) e))
    (λ _. split Q (eqb b 34) (λ e. absurd (none 34 (omega arith) e))
    (λ _. split Q (is_name_start b) (λ _. refl) (λ e. absurd (false≢true (sym e ∙ h)))))))

piece-name : (b : ℕ) (s r : List ℕ) → ProperName (b ∷ s) → length (b ∷ s) ≤ max_name → piece_at false (b ∷ (s ++ (32 ∷ r))) ≡ record { class = Name; size = suc (length s) }
piece-name b s r h l =
    let whole = b ∷ (s ++ (32 ∷ r)) in
    let size : run is_name_byte whole ≡ suc (length s) = run-name (b ∷ s) r h.bytewise in
    let word_of : ℕ → Piece = λ n. if leb n max_name then record { class = if is_one_of words (take n whole) then Fixed otherwise Name; size = n } otherwise record { class = Wrong; size = 0 } in
    let named : List ℕ → Piece = λ w. record { class = if is_one_of words w then Fixed otherwise Name; size = suc (length s) } in
    piece-word b (s ++ (32 ∷ r)) h.begins ∙ ap word_of size ∙ pick (leb (suc (length s)) max_name) _ _ (le-leb (suc (length s)) max_name l)
    ∙ ap named (take-name (b ∷ s) (32 ∷ r)) ∙ ap (λ (c : Class). record { class = c; size = suc (length s) }) (leave (is_one_of words (b ∷ s)) Fixed Name h.free)

-- a name at the front of the bytes
lex-name : (at b n : ℕ) (s : List ℕ) → piece_at false (b ∷ s) ≡ record { class = Name; size = suc n }
    → lex false at 0 (b ∷ s) ≡ record { class = Name; at = at; text = take (suc n) (b ∷ s) } ∷ lex false (suc at) n s
lex-name at b n s e =
    ap (λ (p : Piece).
    let t : Token = record { class = p.class; at = at; text = take p.size (b ∷ s) } in
    elim (is_of Wrong t) [
      | true ↦ t ∷ []
      | false ↦ elim (is_of Blank t) [ true ↦ lex false (suc at) (p.size - 1) s | false ↦ t ∷ lex (enumerating_after false t) (suc at) (p.size - 1) s ]
    ]) e
    ∙ ap (λ (k : ℕ). record { class = Name; at = at; text = take (suc n) (b ∷ s) } ∷ lex false (suc at) k s) (omega arith)

lex_skip : (e : Bool) (at : ℕ) (u r : List ℕ) → lex e at (length u) (u ++ r) ≡ lex e (later u at) 0 r
lex_skip e at [] r = refl
lex_skip e at (b ∷ u) r = lex_skip e (suc at) u r

pub name-alone : (s : List ℕ) → ProperName s → length s ≤ max_name → Alone (Name, s)
name-alone [] h l = absurd h.begins
name-alone (b ∷ s) h l =
    record {
      reads = λ at r.
          lex-name at b (length s) (s ++ (32 ∷ r)) (piece-name b s r h l)
          ∙ ap₂ (λ (w : List ℕ) (ts : List Token). record { class = Name; at = at; text = w } ∷ ts) (take-name (b ∷ s) (32 ∷ r)) (lex_skip false (suc at) s (32 ∷ r));
    }
