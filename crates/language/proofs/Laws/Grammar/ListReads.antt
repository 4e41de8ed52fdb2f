-- Readers of lists go about their tokens as ReaderLaws says: tags, words, identifiers, and the lines of a block, with as much fuel as tokens.
use Rattle.std.specs.Prelude.{ℕ, zero, suc, ◌+◌, ◌≤◌, ◌<◌, List, [], ◌∷◌, false, ◌≡◌, refl, length}
use Prim.Native.String.{String}
use Rattle.std.proofs.Common.{sym, ap, ◌∙◌, arith}
use Rattle.node.specs.Result.{Done}
use Rattle.node.proofs.ResultLaws.{bind_refused, bind_to}
use Rattle.language.specs.Tokens.{Name, Marks, Quoted, Token, is_of, is}
use Rattle.language.specs.Tree.{Identifier}
use Rattle.language.specs.Grammar.{Tokens, Read, front, rest, stop, expect, expect_of}
use Rattle.language.specs.Sections.{tag_of, tags_of, lines_of, block_of, words_of, identifiers_of, optional}
use Rattle.language.proofs.Laws.Basics.Lists.{All, Any}
use Rattle.language.proofs.Laws.Basics.Tests.{leave}
use Rattle.language.proofs.Laws.Grammar.TreeTokens.{InIdentifier}
use Rattle.language.proofs.Laws.Grammar.Lookahead.{inner_of, Begins, Near, opened}
use Rattle.language.proofs.Laws.Grammar.ReaderLaws.{Reads, move, weaken, some_taken, done}
use Rattle.language.proofs.Laws.Grammar.ReadersInRow.{rest_less, bind_less, bind, choose_both, choose, take, one, none_reads}
use Rattle.language.proofs.Laws.Grammar.TokenReads.{is-inner, sign, plain, Is, expect-reads, expect_of-reads}

-- a token that is not the sign
abbrev pub Apart : String → Token → Type 0
Apart s t = is s t ≡ false

pub begins_apart : (s : String) (us : Tokens) → Begins (Apart s) us → is s (front us) ≡ false
begins_apart s [] w = absurd w
begins_apart s (u ∷ us) w = w

-- as much fuel as tokens
long_reads : {A : Type 0} {P : Token → Type 0} {Q : A → Type 0} {S W : Token → Type 0} (F : ℕ → Tokens → Read A) → ((f : ℕ) (ts : Tokens) → length ts ≤ f → Reads A P Q S W 1 1 ts (F f ts) F)
    → (b : ℕ) (ts : Tokens) → Reads A P Q S W b 1 ts (F (length ts) ts) (λ k us. F (length us) us)
long_reads F law b ts =
    move {vs = []} _ (law (length ts) ts (omega arith)) (omega arith)
    (record { whole = refl; inner = tt; step = λ k us w l. (length us, omega arith, refl); near = λ us w. w; value = λ a _ q. q })

-- a fuel that is one more
one_more : {A : Type 0} {P : Token → Type 0} {Q : A → Type 0} {S W : Token → Type 0} (F : ℕ → Tokens → Read A) → ((k : ℕ) → F k [] ≡ stop []) → {ts : Tokens} (r : Read A)
    → Reads A P Q S W 2 1 ts r (λ k. F (suc k)) → Reads A P Q S W 1 1 ts r F
one_more {A} {P} {Q} {S} {W} F e {ts} r h = move {vs = []} r h (omega arith) (record { whole = refl; inner = tt; step = go; near = λ us w. w; value = λ a _ q. q })
  where
    go : (k : ℕ) (us : Tokens) → Near S ts us → length us < 1 + k → (j : ℕ) × (length us < 2 + j) × (F k us ≡ F (suc j) us)
    go zero [] w l = (0, omega arith, e 0 ∙ sym (e 1))
    go zero (u ∷ us) w l = absurd (omega arith)
    go (suc k) us w l = (k, omega arith, refl)

module _ (P : Token → Type 0) where
  tag_of-reads : {W : Token → Type 0} (b : ℕ) (ts : Tokens) → Reads Token P P (Is (plain Quoted)) W b 1 ts (tag_of ts) (λ k us. tag_of us)
  tag_of-reads b ts = choose (is_of Name) (λ t e. ap (is_of Name) e) (λ e. one ts (λ t. t) (inner_of Name (front ts) refl e) (λ t p. p)) (λ _. expect_of-reads b ts Quoted refl refl)

  tags_none : (k : ℕ) → tags_of k [] ≡ stop []
  tags_none zero = refl
  tags_none (suc k) = bind_refused (tag_of []) 4 0 _ refl

  tags_law : (f : ℕ) (ts : Tokens) → length ts ≤ f → Reads Token P Any (Is (plain Quoted)) (Apart ",") 1 1 ts (tags_of f ts) tags_of
  tags_law zero ts h = none_reads ts h (λ k _. tags_none k) (record { ending = plain Quoted ∷ []; value = plain Quoted; enough = omega arith; accepted = go; opens = λ us w. opened refl })
    where
      go : (k : ℕ) (us : Tokens) → Begins (Apart ",") us → length (plain Quoted ∷ us) < 1 + k → tags_of k (plain Quoted ∷ us) ≡ Done (plain Quoted, us)
      go zero us w l = absurd (omega arith)
      go (suc k) us w l = bind_to (tag_of (plain Quoted ∷ us)) (plain Quoted, us) _ refl ∙ leave (is "," (front us)) _ _ (begins_apart "," us w)
  tags_law (suc f) ts h =
      one_more tags_of tags_none _
      (bind (tag_of ts) _ _ (tag_of-reads 2 ts) λ t rs l.
      choose (is ",") (λ t e. e)
      (λ i. take {b' = 1} {d' = 0} rs _ (is-inner "," (front rs) i) (omega arith) (omega arith)
      (weaken _ (omega arith) (omega arith) (λ _ _ _ _. tt) (tags_law f (rest rs) (omega (arith, rest_less rs)))))
      (λ _. done t (λ _. tt)))

  words_none : (k : ℕ) → words_of k [] ≡ stop []
  words_none zero = refl
  words_none (suc k) = bind_refused (expect_of Marks []) 4 0 _ refl

  words_law : (f : ℕ) (ts : Tokens) → length ts ≤ f → Reads (List Token) P (All P) (Is (plain Marks)) (Apart ",") 1 1 ts (words_of f ts) words_of
  words_law zero ts h = none_reads ts h (λ k _. words_none k) (record { ending = plain Marks ∷ []; value = plain Marks ∷ []; enough = omega arith; accepted = go; opens = λ us w. opened refl })
    where
      go : (k : ℕ) (us : Tokens) → Begins (Apart ",") us → length (plain Marks ∷ us) < 1 + k → words_of k (plain Marks ∷ us) ≡ Done (plain Marks ∷ [], us)
      go zero us w l = absurd (omega arith)
      go (suc k) us w l = bind_to (expect_of Marks (plain Marks ∷ us)) (plain Marks, us) _ refl ∙ leave (is "," (front us)) _ _ (begins_apart "," us w)
  words_law (suc f) ts h =
      one_more words_of words_none _
      (bind (expect_of Marks ts) _ _ (expect_of-reads 2 ts Marks refl refl) λ w rs l.
      choose (is ",") (λ t e. e)
      (λ i. take rs _ (is-inner "," (front rs) i) (omega arith) (omega arith)
      (bind (words_of f (rest rs)) _ _ (words_law f (rest rs) (omega (arith, rest_less rs))) λ ws us l'. done (w ∷ ws) (λ v' _ v. (v, v'))))
      (λ _. done (w ∷ []) (λ v. (v, tt))))

  -- tags, words
  pub tags_of-reads : (b : ℕ) (ts : Tokens) → Reads Token P Any (Is (plain Quoted)) (Apart ",") b 1 ts (tags_of (length ts) ts) (λ k us. tags_of (length us) us)
  tags_of-reads = long_reads tags_of tags_law

  words_of-reads : (b : ℕ) (ts : Tokens) → Reads (List Token) P (All P) (Is (plain Marks)) (Apart ",") b 1 ts (words_of (length ts) ts) (λ k us. words_of (length us) us)
  words_of-reads = long_reads words_of words_law

  -- identifiers, before a `}`
  identifiers_none : (k : ℕ) → identifiers_of k [] ≡ stop []
  identifiers_none zero = refl
  identifiers_none (suc k) = bind_refused (expect_of Name []) 4 0 _ refl

  identifiers_law : (f : ℕ) (ts : Tokens) → length ts ≤ f → Reads (List Identifier) P (All (InIdentifier P)) (Is (plain Name)) (Is (sign "}")) 1 1 ts (identifiers_of f ts) identifiers_of
  identifiers_law zero ts h =
      none_reads ts h (λ k _. identifiers_none k)
      (record {
        ending = plain Name ∷ sign ":" ∷ plain Marks ∷ [];
        value = record { name = plain Name; words = plain Marks ∷ [] } ∷ [];
        enough = omega arith;
        accepted = go;
        opens = λ us w. opened
            refl;
      })
    where
      go : (k : ℕ) (us : Tokens) → Begins (Is (sign "}")) us → length (plain Name ∷ sign ":" ∷ plain Marks ∷ us) < 1 + k
          → identifiers_of k (plain Name ∷ sign ":" ∷ plain Marks ∷ us) ≡ Done (record { name = plain Name; words = plain Marks ∷ [] } ∷ [], us)
      go zero us w l = absurd (omega arith)
      go (suc k) [] w l = absurd w
      go (suc k) (u ∷ us) w l =
          bind_to (expect_of Name (plain Name ∷ sign ":" ∷ plain Marks ∷ u ∷ us)) (plain Name, sign ":" ∷ plain Marks ∷ u ∷ us) _ refl
          ∙ bind_to (expect ":" (sign ":" ∷ plain Marks ∷ u ∷ us)) (sign ":", plain Marks ∷ u ∷ us) _ refl
          ∙ bind_to (words_of (suc (length (u ∷ us))) (plain Marks ∷ u ∷ us)) (plain Marks ∷ [], u ∷ us) _
          (bind_to (expect_of Marks (plain Marks ∷ u ∷ us)) (plain Marks, u ∷ us) _ refl ∙ leave (is "," u) _ _ (ap (is ",") w))
          ∙ leave (is_of Name u) _ _ (ap (is_of Name) w)
  identifiers_law (suc f) ts h =
      one_more identifiers_of identifiers_none _
      (bind_less {b' = 1} (expect_of Name ts) (omega arith) (λ t v. v) _ _ (expect_of-reads 2 ts Name refl refl) λ x rs l. some_taken
      (bind (expect ":" rs) _ _ (expect-reads 1 rs ":") λ c rs₂ l₂. some_taken
      (bind (words_of (length rs₂) rs₂) _ _ (words_of-reads 1 rs₂) λ ws rs₃ l₃.
      choose_both {S₁ = Is (plain Name)} {S₂ = Is (sign "}")} (is_of Name) (λ t e. ap (is_of Name) e) (λ t e. ap (is_of Name) e) (λ t e. ap (is ",") e) (λ t e. ap (is ",") e)
      (λ _. some_taken (bind (identifiers_of f rs₃) _ _ (identifiers_law f rs₃ (omega arith)) λ is us l'. done (record { name = x; words = ws } ∷ is) (λ v' vs _ v. ((v, vs), v'))))
      (λ _. done (record { name = x; words = ws } ∷ []) (λ vs _ v. ((v, vs), tt))))))

  pub identifiers_of-reads : (b : ℕ) (ts : Tokens) → Reads (List Identifier) P (All (InIdentifier P)) (Is (plain Name)) (Is (sign "}")) b 1 ts (identifiers_of (length ts) ts)
      (λ k us. identifiers_of (length us) us)
  identifiers_of-reads = long_reads identifiers_of identifiers_law

-- lines, by the reader of one
module _
    {A : Type 0}
    {P : Token → Type 0}
    {Q : A → Type 0}
    {S : Token → Type 0}
    (line : Tokens → Read A)
    (nothing : line [] ≡ stop [])
    (other : (t : Token) → S t → is "}" t ≡ false)
    (line_reads_lem : (b : ℕ) (ts : Tokens) → Reads A P Q S (Is (sign "}")) b 1 ts (line ts) (λ k us. line us))
  where
    lines_none : (k : ℕ) → lines_of k line [] ≡ stop []
    lines_none zero = refl
    lines_none (suc k) = bind_refused (line []) 4 0 _ nothing

    lines-law : {W : Token → Type 0} (f : ℕ) (ts : Tokens) → length ts ≤ f → Reads (List A) P (All Q) Any W 1 1 ts (lines_of f line ts) (λ k. lines_of k line)
    lines-law {W} zero ts h = none_reads ts h (λ k _. lines_none k) (record { ending = sign "}" ∷ []; value = []; enough = omega arith; accepted = go; opens = λ us w. opened tt })
      where
        go : (k : ℕ) (us : Tokens) → Begins W us → length (sign "}" ∷ us) < 1 + k → lines_of k line (sign "}" ∷ us) ≡ Done ([], us)
        go zero us w l = absurd (omega arith)
        go (suc k) us w l = refl
    lines-law (suc f) ts h =
        one_more (λ k. lines_of k line) lines_none _
        (choose_both {S₁ = λ t. ⊥} {S₂ = S} (is "}") (λ t v. absurd v) other (λ t v. tt) (λ t v. tt)
        (λ i. one ts (λ _. []) (is-inner "}" (front ts) i) (λ _ _. tt))
        (λ _. bind (line ts) _ _ (line_reads_lem 2 ts) λ x rs l.
        choose (is ";") (λ t e. ap (is ";") e)
        (λ i. take rs _ (is-inner ";" (front rs) i) (omega arith) (omega arith)
        (bind (lines_of f line (rest rs)) _ _ (lines-law f (rest rs) (omega (arith, rest_less rs))) λ xs us l'. done (x ∷ xs) (λ v' _ v. (v, v'))))
        (λ _. some_taken (bind (expect "}" rs) _ _ (expect-reads 2 rs "}") λ c us l'. done (x ∷ []) (λ _ v. (v, tt))))))

    pub blockOf-reads : {W : Token → Type 0} (b : ℕ) (ts : Tokens) → Reads (List A) P (All Q) (Is (sign "{")) W b 1 ts (block_of line ts) (λ k us. block_of line us)
    blockOf-reads b ts = bind (expect "{" ts) _ _ (expect-reads b ts "{") λ c rs l. weaken _ (omega arith) (omega arith) (λ a q _. q) (long_reads (λ k. lines_of k line) lines-law b rs)

    pub optional-reads : {W : Token → Type 0} (word : String) → ((t : Token) → W t → is word t ≡ false) → (b : ℕ) (ts : Tokens)
        → Reads (List A) P (All Q) W W b 0 ts (optional word line ts) (λ k us. optional word line us)
    optional-reads word z b ts =
        choose (is word) z (λ i. take {b' = b} {d' = 0} ts _ (is-inner word (front ts) i) (omega arith) (omega arith) (weaken _ (omega arith) (omega arith) (λ a q _. q) (blockOf-reads b (rest ts))))
        (λ _. done [] tt)
