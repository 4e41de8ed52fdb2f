-- The loop over the text: the tokens met so far, their words, and the place of the first that is too many.
use Prim.Native.Nat.{ℕ, zero, suc, ◌+◌, ◌*◌, ◌^◌, ◌≤◌, ◌<◌}
use mathlib.Core.List.{List, [], ◌∷◌, ◌++◌, append_assoc}
use mathlib.Core.Bool.{Bool, true, false, ◌||◌}
use mathlib.Core.Option.{Option, none, some}
use mathlib.Core.Path.{◌≡◌, refl, sym, ap, ap₂, ◌∙◌, subst}
use lib.Dec.{ltb, eqb}
use lib.ListN.{length, drop, length-append, length-drop}
use lib.Seq.{drop-append_seam, length-take-le}
use native.Mathlib.Decide.{dec_lt}
use native.Mathlib.Omega.{arith}
use borrow.Author.Tests.{eqb-true, eqb-false, ltb-true, lt-ltb}
use Rattle.words.specs.Words.{word_at, put_word, past}
use Rattle.words.specs.WordLaws.{length-put, word_same, word_other, past-put}
use Rattle.language.specs.Limits.{max_bytes, max_tokens}
use Rattle.language.specs.Bytes.{if◌then◌otherwise◌}
use Rattle.language.specs.Tokens.{Wrong, Blank, Token, is_of, is, piece_at, enumerating_after, lex, tokens}
use Rattle.language.specs.Grammar.{front}
use Rattle.language.specs.Names.{place_of_first}
use Rattle.language.specs.Parsing.{no_token}
use Rattle.language.proofs.Laws.Basics.Tests.{split, pick, leave, some_none}
use Rattle.lexer.specs.Numbers.{no_number, number, fixed}
use Rattle.lexer.specs.NumberLaws.{number_small, number-blank, is_number}
use Rattle.lexer.specs.Stored.{word_of, token_word}
use Rattle.lexer.specs.StoredLaws.{word_fits}
use Rattle.lexer.specs.Answer.{token_bytes}
use Rattle.lexer.specs.Scanning.{piece_number, Scans, enumerating_by, later_place, storing}
use Rattle.lexer.specs.declared.piece.Scanned.{Scanned}
use Rattle.lexer.proofs.Choices.{refute, affirm}
use Rattle.lexer.proofs.StepLaws.{token_of, piece-fits, piece-right, step-blank, step-token}

-- lists of tokens
pub front-left : (i : ℕ) (a b : List Token) → i < length a → front (drop i (a ++ b)) ≡ front (drop i a)
front-left i [] b h = absurd (omega arith)
front-left zero (t ∷ a) b h = refl
front-left (suc i) (t ∷ a) b h = front-left i a b (omega arith)

front_seam : (i : ℕ) (a : List Token) (t : Token) (b : List Token) → i ≡ length a → front (drop i (a ++ (t ∷ b))) ≡ t
front_seam i a t b e = ap (λ m. front (drop m (a ++ (t ∷ b)))) e ∙ ap front (drop-append_seam a (t ∷ b))

pub right-left : (a b : List Token) → no_token a ≡ none → no_token (a ++ b) ≡ no_token b
right-left [] b e = refl
right-left (t ∷ a) b e = go (is_of Wrong t) refl e (right-left a b)
  where
    go : (p : Bool) → is_of Wrong t ≡ p → ◌≡◌ {A = Option ℕ} (elim p [ true ↦ some t.at | false ↦ no_token a ]) none → (no_token a ≡ none → no_token (a ++ b) ≡ no_token b)
        → no_token ((t ∷ a) ++ b) ≡ no_token b
    go true w f ih = absurd (some_none f)
    go false w f ih = leave (is_of Wrong t) (some t.at) (no_token (a ++ b)) w ∙ ih f

-- token i, shut: `drop` at a large numeral unfolds as often
unfoldable pub token_at : ℕ → List Token → Token
token_at i ts = front (drop i ts)

-- the place of token m, where m is the limit
place-next : (m n over at : ℕ) (done : List Token) (t : Token) → n ≡ length done → t.at ≡ at → (m < n → over ≡ (token_at m done).at) → m < n + 1
    → if eqb n m then at otherwise over ≡ (token_at m (done ++ (t ∷ []))).at
unfolding token_at
place-next m n over at done t c e h l = go (eqb n m) refl
  where
    go : (p : Bool) → eqb n m ≡ p → if p then at otherwise over ≡ (front (drop m (done ++ (t ∷ [])))).at
    go true f = sym e ∙ ap (λ (u : Token). u.at) (sym (front_seam m done t [] (sym (eqb-true n m f) ∙ c)))
    go false f = let d = eqb-false n m f in let g : m < n = less d in h g ∙ ap (λ (u : Token). u.at) (sym (front-left m done (t ∷ []) (subst (λ k. m < k) c g)))
      where
        less : (n ≡ m → ⊥) → m < n
        less d = omega arith

pub place-first : (m : ℕ) (a b : List Token) → m < length a → place_of_first (drop m (a ++ b)) ≡ some (token_at m a).at
unfolding token_at
place-first m [] b h = absurd (omega arith)
place-first zero (t ∷ a) b h = refl
place-first (suc m) (t ∷ a) b h = place-first m a b (omega arith)

-- the token at a place, by what was scanned there
module _ (e : Bool) (text : List ℕ) (at : ℕ) (inside : at < length text) (r : Scanned) (q : Scans e (drop at text) r) where
  abbrev met : Token
  met = token_of e at (drop at text)

  number-met : r.number ≡ number met
  unfolding piece_number number
  number-met = q.number

  blank-met : (r.size ≡ 0 → ⊥) → r.number ≡ no_number → is_of Blank met ≡ true
  blank-met z k =
      affirm (is_of Blank met) (λ f. let s = number_small met (piece-right e text at inside r.size q.size z) f in let n = number-met in omega arith)

  token-met : (r.number ≡ no_number → ⊥) → is_of Blank met ≡ false
  token-met k = refute (is_of Blank met) (λ f. k (number-met ∙ number-blank met f))

  pub small-met : (r.size ≡ 0 → ⊥) → (r.number ≡ no_number → ⊥) → r.number < 128
  small-met z k = subst (λ n. n < 128) (sym number-met) (number_small met (piece-right e text at inside r.size q.size z) (token-met k))

  word-met : word_of r.number at r.size ≡ token_word met
  unfolding token_word
  word-met =
      let f : (piece_at e (drop at text)).size ≤ length (drop at text) = subst (λ n. n ≤ length (drop at text)) q.size
      (rw (length-drop at text) (omega (arith, piece-fits e text at inside r.size q.size))) in
      ap₂ (λ k n. word_of k at n) number-met (q.size ∙ sym (length-take-le (piece_at e (drop at text)).size (drop at text) f))

  enumerating_met : enumerating_after e met ≡ enumerating_by e r.number
  enumerating_met =
      ap (λ b. if b then true otherwise (if is ";" met || is "}" met then false otherwise e)) (is_number "enum" met refl)
      ∙ ap (λ b. if eqb (number met) (fixed "enum") then true otherwise (if b || is "}" met then false otherwise e)) (is_number ";" met refl)
      ∙ ap (λ b. if eqb (number met) (fixed "enum") then true otherwise (if eqb (number met) (fixed ";") || b then false otherwise e)) (is_number "}" met refl)
      ∙ ap (enumerating_by e) (sym number-met)

-- before byte `at` of the text: w is the buffer at the start, v the buffer now
pub record Run (text w v : List ℕ) (at n : ℕ) (e : Bool) (over : ℕ) : Type 0 where
  pub kept : past token_bytes v ≡ past token_bytes w
  pub size : length v ≡ length w
  pub inside : at ≤ length text
  pub few : n ≤ at
  pub done : List Token
  pub whole : tokens text ≡ done ++ lex e at 0 (drop at text)
  pub right : no_token done ≡ none
  pub count : n ≡ length done
  pub stored : (i : ℕ) → i < n → i < max_tokens → word_at v i ≡ token_word (front (drop i done))
  pub limit : max_tokens < n → over ≡ (token_at max_tokens done).at
  pub near : over ≤ at

pub run-start : (text w : List ℕ) → Run text w w 0 0 false 0
run-start text w =
    record {
      kept = refl;
      size = refl;
      inside = omega arith;
      few = omega arith;
      done = [];
      whole = refl;
      right = refl;
      count = refl;
      stored = λ i h. absurd (omega arith);
      limit = λ h. absurd (omega arith);
      near = omega arith;
    }

module _ (text w v : List ℕ) (at n : ℕ) (e : Bool) (over : ℕ) (c : Run text w v at n e over) (inside : at < length text) (r : Scanned) (q : Scans e (drop at text) r) (some : r.size ≡ 0 → ⊥) where
  pub run-blank : r.number ≡ no_number → Run text w v (at + r.size) n e over
  run-blank k =
      let few = c.few in
      let near = c.near in
      record {
        kept = c.kept;
        size = c.size;
        inside = piece-fits e text at inside r.size q.size;
        few = omega arith;
        done = c.done;
        whole = c.whole ∙ ap (λ ts. c.done ++ ts) (step-blank e text at inside r.size q.size some (blank-met e text at inside r q some k));
        right = c.right;
        count = c.count;
        stored = c.stored;
        limit = c.limit;
        near = omega arith;
      }

-- the buffer with one token's word more
module _ (v : List ℕ) (n x : ℕ) where
  storing-length : length (storing v n x) ≡ length v
  storing-length = split (λ u. length u ≡ length v) (ltb n max_tokens) (λ _. length-put v n x) (λ _. refl)

  storing-past : past token_bytes (storing v n x) ≡ past token_bytes v
  storing-past = split (λ u. past token_bytes u ≡ past token_bytes v) (ltb n max_tokens) (λ h. let l = ltb-true n max_tokens h in past-put token_bytes v n x (omega arith)) (λ _. refl)

  storing_other : (i : ℕ) → i < n → word_at (storing v n x) i ≡ word_at v i
  storing_other i l = split (λ u. word_at u i ≡ word_at v i) (ltb n max_tokens) (λ _. word_other v n x i (λ f. omega arith)) (λ _. refl)

  storing-same : n < max_tokens → 4 * n + 4 ≤ length v → x < 2 ^ 32 → word_at (storing v n x) n ≡ x
  storing-same h l f = ap (λ u. word_at u n) (pick (ltb n max_tokens) (put_word v n x) v (lt-ltb n max_tokens h)) ∙ word_same v n x l f

module _ (text w v : List ℕ) (at n : ℕ) (e : Bool) (over : ℕ) (c : Run text w v at n e over) (inside : at < length text) (r : Scanned) (q : Scans e (drop at text) r) (some : r.size ≡ 0 → ⊥)
    (token : r.number ≡ no_number → ⊥) (short : length text ≤ max_bytes) (room : token_bytes ≤ length w) where
  abbrev next : List Token
  next = c.done ++ (token_of e at (drop at text) ∷ [])

  abbrev word : ℕ
  word = word_of r.number at r.size

  next-length : n + 1 ≡ length next
  next-length = let k = c.count in omega (arith, length-append c.done (token_of e at (drop at text) ∷ []))

  next-right : no_token next ≡ none
  next-right = right-left c.done _ c.right ∙ leave (is_of Wrong (token_of e at (drop at text))) _ none (piece-right e text at inside r.size q.size some)

  next_stored : (i : ℕ) → i < n + 1 → i < max_tokens → word_at (storing v n word) i ≡ token_word (front (drop i next))
  next_stored i l h = go (dec_lt i n)
    where
      go : Dec (i < n) → word_at (storing v n word) i ≡ token_word (front (drop i next))
      go (yes k) = storing_other v n word i k ∙ c.stored i k h ∙ ap token_word (sym (front-left i c.done _ (subst (λ m. i < m) c.count k)))
      go (no k) =
          let j : i ≡ n = omega arith in
          let t = token_of e at (drop at text) in
          let fits : token_word t < 2 ^ 32 = word_fits t (omega arith) (let s = small-met e text at inside r q some token in subst (λ m. m < 2 ^ 8) (number-met e text at inside r q) (omega arith)) in
          let small : word < 2 ^ 32 = subst (λ m. m < 2 ^ 32) (sym (word-met e text at inside r q)) fits in
          let size = c.size in
          ap (word_at (storing v n word)) j ∙ storing-same v n word (omega arith) (omega arith) small ∙ word-met e text at inside r q
          ∙ ap token_word (sym (front_seam i c.done t [] (j ∙ c.count)))

  pub run-token : (u : List ℕ) (f : Bool) (p : ℕ) → u ≡ storing v n word → f ≡ enumerating_by e r.number → p ≡ later_place n over at → Run text w u (at + r.size) (n + 1) f p
  run-token u f p eu ef ep =
      let few = c.few in
      let near = c.near in
      record {
        kept = ap (past token_bytes) eu ∙ storing-past v n word ∙ c.kept;
        size = ap length eu ∙ storing-length v n word ∙ c.size;
        inside = piece-fits e text at inside r.size q.size;
        few = omega arith;
        done = next;
        whole =
            c.whole ∙ ap (λ ts. c.done ++ ts) (step-token e text at inside r.size q.size some (token-met e text at inside r q token))
            ∙ sym (append_assoc c.done (token_of e at (drop at text) ∷ []) _)
            ∙ ap (λ b. next ++ lex b (at + r.size) 0 (drop (at + r.size) text)) (enumerating_met e text at inside r q ∙ sym ef);
        right = next-right;
        count = next-length;
        stored = λ i l h. ap (λ x. word_at x i) eu ∙ next_stored i l h;
        limit = λ l. ep ∙ place-next max_tokens n over at c.done (token_of e at (drop at text)) c.count refl c.limit l;
        near = subst (λ m. m ≤ at + r.size) (sym ep) (split (λ m. m ≤ at + r.size) (eqb n max_tokens) (λ _. omega arith) (λ _. omega arith));
      }
