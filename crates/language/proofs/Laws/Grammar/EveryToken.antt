-- What holds of every piece of a text holds of all its tokens.
use Rattle.std.specs.Prelude.{ℕ, zero, suc, ◌-◌, List, [], ◌∷◌, Bool, true, false, ◌&&◌, ◌≡◌, refl, leb, eqb, take, drop}
use Prim.Native.String.{String}
use Rattle.language.specs.Limits.{max_name}
use Rattle.language.specs.Bytes.{ascii, is_blank, is_digit, is_name_start, is_name_byte, is_mark, starts, is_one_of}
use Rattle.language.specs.Tokens.{
  Class,
  Fixed,
  Name,
  Numeral,
  Quoted,
  Marks,
  End,
  Wrong,
  Blank,
  words,
  signs,
  Token,
  is_of,
  Piece,
  run,
  quoted_size,
  comment_size,
  sign_at,
  word_at,
  closed,
  piece_at,
  enumerating_after,
  lex,
  tokens,
}
use Rattle.language.proofs.Laws.Basics.Lists.{All}
use Rattle.language.proofs.Laws.Basics.Tests.{split}
use Rattle.language.proofs.Laws.Grammar.TokenLaws.{drop-next}

abbrev pub sized : Class → ℕ → Piece
sized c n = record { class = c; size = n }

-- P holds of whatever may stand at the front of b ∷ s: names, words of an enumeration and numerals have all bytes of theirs
pub record Pieces (P : Piece → Type 0) (b : ℕ) (s : List ℕ) : Type 0 where
  pub blank : (n : ℕ) → P (sized Blank n)
  pub quoted : (n : ℕ) → P (sized Quoted n)
  pub fixed : (n : ℕ) → P (sized Fixed n)
  pub wrong : P (sized Wrong 0)
  pub name : is_name_start b ≡ true → is_one_of words (take (run is_name_byte (b ∷ s)) (b ∷ s)) ≡ false → P (sized Name (run is_name_byte (b ∷ s)))
  pub marks : P (sized Marks (run is_mark (b ∷ s)))
  pub numeral : P (sized Numeral (run is_digit (b ∷ s)))

module _ (P : Piece → Type 0) (b : ℕ) (s : List ℕ) (h : Pieces P b s) where
  close : (c : Class) (n : ℕ) → ((m : ℕ) → P (sized c m)) → P (closed c n)
  close c zero g = h.wrong
  close c (suc n) g = g (suc n)

  sign : (ws : List String) → P (sign_at ws (b ∷ s))
  sign [] = h.wrong
  sign (w ∷ ws) = split P (starts (ascii w) (b ∷ s)) (λ _. h.fixed _) (λ _. sign ws)

  word : is_name_start b ≡ true → P (word_at (b ∷ s))
  word e =
      let n = run is_name_byte (b ∷ s) in
      split P (leb n max_name) (λ _. split (λ c. P (sized c n)) (is_one_of words (take n (b ∷ s))) (λ _. h.fixed n) (λ f. h.name e f)) (λ _. h.wrong)

  pub pieces : (e : Bool) → P (piece_at e (b ∷ s))
  pieces e =
      split P (is_blank b) (λ _. h.blank 1)
      (λ _. split P (starts (ascii "//") (b ∷ s)) (λ _. h.blank _)
      (λ _. split P (starts (ascii "/*") (b ∷ s)) (λ _. close Blank (comment_size 2 (record { depth = 1; last = 0 }) (drop 1 s)) h.blank)
      (λ _. split P (eqb b 34) (λ _. close Quoted (quoted_size 1 s) h.quoted)
      (λ _. split P (is_name_start b) word
      (λ _. split P (e && is_mark b) (λ _. h.marks)
      (λ _. split P (e && is_digit b) (λ _. h.wrong)
      (λ _. split P (is_digit b) (λ _. h.numeral)
      (λ _. sign signs))))))))

-- a token where it stands in the text
abbrev pub token_at : ℕ → List ℕ → Piece → Token
token_at at s p = record { class = p.class; at = at; text = take p.size s }

module _
    (text : List ℕ)
    (P : Token → Type 0)
    (end : (at : ℕ) → P (token_at at [] (sized End 0)))
    (each : (at b : ℕ) (s : List ℕ) → drop at text ≡ b ∷ s → Pieces (λ p. P (token_at at (b ∷ s) p)) b s)
  where
    lexed : (e : Bool) (at k : ℕ) (s : List ℕ) → drop at text ≡ s → All P (lex e at k s)
    lexed e at k [] h = (end at, tt)
    lexed e at (suc k) (b ∷ s) h = lexed e (suc at) k s (drop-next text at b s h)
    lexed e at zero (b ∷ s) h =
        let p = piece_at e (b ∷ s) in
        let t = token_at at (b ∷ s) p in
        let Q = All P in
        let first : P t = pieces (λ q. P (token_at at (b ∷ s) q)) b s (each at b s h) e in
        let later : (m : Bool) → Q (lex m (suc at) (p.size - 1) s) = λ m. lexed m (suc at) (p.size - 1) s (drop-next text at b s h) in
        split Q (is_of Wrong t) (λ _. (first, tt)) (λ _. split Q (is_of Blank t) (λ _. later e) (λ _. (first, later (enumerating_after e t))))

    pub tokens-each : All P (tokens text)
    tokens-each = lexed false 0 0 text refl
