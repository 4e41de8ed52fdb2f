-- The code finds the enumeration that a bus is declared by, and the width of its words.
use Rattle.std.specs.Prelude.{ℕ, suc, ◌+◌, ◌-◌, ◌≤◌, ◌<◌, min, Bool, true, false, ◌||◌, ◌&&◌, List, [], ◌∷◌, ◌++◌, ◌≡◌, refl, ltb, length, get_or}
use Rattle.std.proofs.Math.Option.{some}
use Rattle.std.proofs.Common.{sym, ap, ◌∙◌, subst, add-one, arith, eqb-true, eq-eqb, ne_eqb, lt-ltb, le-ltb, ltb-true}
use Rattle.std.proofs.lemmas.Bool.{eqb-false}
use Rattle.words.specs.Words.{word_at}
use Rattle.language.specs.Bytes.{same}
use Rattle.language.specs.Limits.{max_names, max_tokens}
use Rattle.language.specs.Tokens.{Token, tokens}
use Rattle.language.specs.Tree.{Identifier, Definition, Defined, Enumerated, OfType, Spec}
use Rattle.language.specs.Names.{Names, visible}
use Rattle.language.specs.Words.{words_in}
use Rattle.language.specs.DeclaredNames.{words_of_type, word_width}
use Rattle.language.proofs.Laws.Basics.Tests.{split, pick, leave, and_right, same_equal}
use Rattle.lexer.specs.Stored.{offset_in, length_in, longest}
use Rattle.lexer.specs.LexingLaws.{offset_at, length_at}
use Rattle.entries.specs.Kinds as Kind
use Rattle.entries.specs.Flat.{Entry, leaf, each, flat_identifier, outline}
use Rattle.entries.specs.Stored.{first_entry, kind_of, index_of, EntryAt, EntriesFrom}
use Rattle.entries.specs.StoredLaws.{entry-kind, entry-index}
use Rattle.spellings.specs.Interned.{Lexed}
use Rattle.names.specs.Tables.{no_place}
use Rattle.names.specs.Scan.{token_of}
use Rattle.names.specs.Walkable.{entry_of}
use Rattle.names.proofs.WalkableLaws.{stored_at}
use Rattle.names.specs.References.{number_in}
use Rattle.names.proofs.NumberingLaws.{number_other}
use Rattle.names.proofs.WalkBinders.{reference-outside}
use Rattle.names.specs.Resolved.{declared_names}
use Rattle.names.proofs.ResolvedLaws.{Found, number-found}
use Rattle.name_values.specs.Declaring.{EnumerationAt}
use Rattle.name_values.proofs.IdentifierLaws.{enumeration-at}
use Rattle.notes.specs.Owned.{DeclarationAt}
use Rattle.notes.specs.FirstTableLaws.{first-at}
use Rattle.declarations.specs.Trees.{Tree}
use Rattle.declarations.specs.Enumerations.{no_entry, is_enumeration, enumeration_by, enumeration_of, Enumerates}

pub enumeration-small : (w refs found : List ℕ) (k : ℕ) → enumeration_of w refs found k ≤ no_entry
enumeration-small w refs found k =
    let r = get_or refs (k - 1) 0 in
    let e = get_or found r 0 in
    split (λ i. i ≤ no_entry) (ltb r max_names && ltb e max_tokens)
    (λ q. let l = ltb-true e max_tokens (and_right (ltb r max_names) (ltb e max_tokens) q) in split (λ i. i ≤ no_entry) (is_enumeration w e) (λ _. omega arith) (λ _. omega arith)) (λ _. omega arith)

-- as the code looks for it
module _ (w refs found : List ℕ) (k r : ℕ) (q : r ≡ get_or refs (k - 1) 0) where
  by_name : (e : ℕ) → e ≡ get_or found r 0 → enumeration_by w r e ≡ enumeration_of w refs found k
  by_name e p = ap (enumeration_by w r) p ∙ ap (λ i. enumeration_by w i (get_or found i 0)) q

  pub enumeration_far : max_names ≤ r → no_entry ≡ enumeration_of w refs found k
  enumeration_far l = sym (leave (ltb r max_names && ltb (get_or found r 0) max_tokens) _ _ (ap (λ a. a && ltb (get_or found r 0) max_tokens) (le-ltb r max_names l))) ∙ by_name (get_or found r 0) refl

  module _ (e : ℕ) (p : e ≡ get_or found r 0) (l : r < max_names) where
    pub enumeration-past : max_tokens ≤ e → no_entry ≡ enumeration_of w refs found k
    enumeration-past m = sym (leave (ltb r max_names && ltb e max_tokens) _ _ (ap (λ a. a && ltb e max_tokens) (lt-ltb r max_names l) ∙ le-ltb e max_tokens m)) ∙ by_name e p

    pub enumeration-other : e < max_tokens → (kind_of (word_at w (first_entry + e)) ≡ Kind.enumeration → ⊥) → no_entry ≡ enumeration_of w refs found k
    enumeration-other m n =
        sym (pick (ltb r max_names && ltb e max_tokens) _ _ (ap (λ a. a && ltb e max_tokens) (lt-ltb r max_names l) ∙ lt-ltb e max_tokens m) ∙ leave (is_enumeration w e) _ _ (ne_eqb _ _ n)) ∙ by_name e p

    pub enumeration-own : e < max_tokens → kind_of (word_at w (first_entry + e)) ≡ Kind.enumeration → e ≡ enumeration_of w refs found k
    enumeration-own m n =
        sym (pick (ltb r max_names && ltb e max_tokens) _ _ (ap (λ a. a && ltb e max_tokens) (lt-ltb r max_names l) ∙ lt-ltb e max_tokens m) ∙ pick (is_enumeration w e) _ _ (eq-eqb _ _ n)) ∙ by_name e p

number-visible : (ns : Names) (t : Token) → number_in ns t < no_place → visible ns t ≡ true
unfolding number_in
number-visible [] t l = absurd (omega arith)
number-visible (n ∷ ns) t l = go (same n.text t.text) refl (number-visible ns t)
  where
    go : (b : Bool) → same n.text t.text ≡ b → (number_in ns t < no_place → visible ns t ≡ true) → (b || visible ns t) ≡ true
    go true e ih = refl
    go false e ih = ih (subst (λ i. i < no_place) (number_other n ns t e) l)

words-text : (ds : List Definition) (t u : Token) → t.text ≡ u.text → words_of_type ds t ≡ words_of_type ds u
words-text [] t u e = refl
words-text (Defined x b ∷ ds) t u e = words-text ds t u e
words-text (Enumerated x is ∷ ds) t u e = ap {B = List Token} (λ s. elim (same x.text s) [ true ↦ words_in is | false ↦ words_of_type ds t ]) e ∙ ap {B = List Token}
    (λ l. elim (same x.text u.text) [ true ↦ words_in is | false ↦ l ]) (words-text ds t u e)

module _ {text w refs found : List ℕ} {entries names : ℕ} {x : Spec} (t : Tree text w refs found entries names x) where
  pub tree-entry : (k : ℕ) → k < length (outline x) → EntryAt w (tokens text) k (entry_of (outline x) k)
  tree-entry k l = subst (λ d. EntryAt w (tokens text) d (entry_of (outline x) k)) (omega arith) (stored_at w (tokens text) 0 (outline x) k l t.stored.stored)

  pub enumerates : (u n : Token) (k : ℕ) → DeclarationAt x text w refs (OfType u n) k → Enumerates (tokens text) w (enumeration_of w refs found k) (words_of_type x.definitions u)
  enumerates u n k h =
      let r = get_or refs (k - 1) 0 in
      let ns = declared_names x in
      let at : r ≡ number_in ns u = h.width.here.refers ∙ reference-outside ns u in
      let low : r < max_names = (let i = (h.width.known [] []).agrees.inside in omega arith) in
      let seen = number-visible ns u (omega arith) in
      let c = t.resolved.count in
      let b = t.resolved.few in
      let f = subst (λ i. Found (outline x) (get_or found i 0) u) (sym at) (number-found (outline x) found ns u t.resolved.entries (omega arith) seen) in
      let e = get_or found r 0 in
      let inside = f.declares.inside in
      let small : e < max_tokens = (let p = t.stored.total in let q = t.stored.few in omega arith) in
      let spelt : (token_of (entry_of (outline x) e)).text ≡ u.text = ap (λ m. m.text) f.declares.name ∙ same_equal f.name.text u.text f.alike in
      let words = words-text x.definitions (token_of (entry_of (outline x) e)) u spelt in
      let kind = entry-kind (tree-entry e inside) in
      let first = first-at x t.resolved.distinct e inside f.declares.declaring in
      let tested : (ltb r max_names && ltb e max_tokens) ≡ true = ap (λ a. a && ltb e max_tokens) (lt-ltb r max_names low) ∙ lt-ltb e max_tokens small in
      subst (λ i. Enumerates (tokens text) w i (words_of_type x.definitions u)) (sym (pick (ltb r max_names && ltb e max_tokens) _ _ tested))
      (go e small (is_enumeration w e) refl (λ y. subst (EnumerationAt (tokens text) w e) words (enumeration-at t.stored t.resolved e inside (sym kind ∙ eqb-true _ _ y)))
      (λ y. sym words ∙ first.wordless (λ q. eqb-false _ _ y (kind ∙ q))))
    where
      go : (e : ℕ) → e < max_tokens → (b : Bool) → is_enumeration w e ≡ b → (is_enumeration w e ≡ true → EnumerationAt (tokens text) w e (words_of_type x.definitions u))
          → (is_enumeration w e ≡ false → words_of_type x.definitions u ≡ []) → Enumerates (tokens text) w (elim b [ true ↦ e | false ↦ no_entry ]) (words_of_type x.definitions u)
      go e small true y f g = record { wordless = λ q. absurd (omega arith); there = λ _. (small, f y) }
      go e small false y f g = record { wordless = λ _. g y; there = λ q. absurd (q refl) }

-- an entry's token in the buffer
module _ {text w : List ℕ} {count : ℕ} (l : Lexed text w count) {k kind size : ℕ} {t : Token} (h : EntryAt w (tokens text) k (record { kind = kind; token = some t; size = size })) where
  pub entry_offset : offset_in (word_at w (index_of (word_at w (first_entry + k)))) ≡ t.at
  entry_offset = ap (λ j. offset_in (word_at w j)) (entry-index h) ∙ offset_at l.lexical l.stored h.index h.keeps.1 ∙ ap (λ u. u.at) h.keeps.0

  pub entry_length : length_in (word_at w (index_of (word_at w (first_entry + k)))) ≡ min longest (length t.text)
  entry_length = ap (λ j. length_in (word_at w j)) (entry-index h) ∙ length_at l.lexical l.stored h.index h.keeps.1 ∙ ap (λ u. min longest (length u.text)) h.keeps.0

-- the first word behind an enumeration's entry
module _ {text w : List ℕ} {count : ℕ} (lexed : Lexed text w count) (words : List Token) where
  abbrev There : List Token → List Identifier → List Entry
  There ws js = each (leaf Kind.word) ws ++ each flat_identifier js

  abbrev kind_at : ℕ → ℕ
  kind_at i = kind_of (word_at w (first_entry + i))

  -- from entry i on: the words ws of an identifier, then the identifiers js
  pub record Scanning (i : ℕ) : Type 0 where
    pub ws : List Token
    pub js : List Identifier
    pub there : EntriesFrom w (tokens text) i (There ws js)
    pub width : word_width words ≡ word_width (ws ++ words_in js)
    pub few : i + length (There ws js) ≤ max_tokens
    pub no_identifier : kind_at (i + length (There ws js)) ≡ Kind.identifier → ⊥
    pub no_word : kind_at (i + length (There ws js)) ≡ Kind.word → ⊥

  pub scanning_starts : (e : ℕ) → EnumerationAt (tokens text) w e words → Scanning (e + 1)
  scanning_starts e h = subst Scanning (sym (add-one e)) (record
      { ws = []; js = h.identifiers; there = h.stored; width = ap word_width (sym h.all); few = h.few; no_identifier = h.no_identifier; no_word = h.no_word })

  module _ (i : ℕ) (s : Scanning i) where
    by : (P : Type 0) → ((v : Token) (ws : List Token) (js : List Identifier) → EntryAt w (tokens text) i (record { kind = Kind.word; token = some v; size = 1 }) → word_width words ≡ length v.text
        → P) →
        ((n : Identifier) (js : List Identifier) → EntryAt w (tokens text) i (record { kind = Kind.identifier; token = some n.name; size = 1 }) → Scanning (suc i) → P) →
        (word_width words ≡ 0 → (kind_at i ≡ Kind.identifier → ⊥) → (kind_at i ≡ Kind.word → ⊥) → P) → P
    by P f g h = go s.ws s.js s.there s.width s.few s.no_identifier s.no_word
      where
        go : (ws : List Token) (js : List Identifier) → EntriesFrom w (tokens text) i (There ws js) → word_width words ≡ word_width (ws ++ words_in js) → i + length (There ws js) ≤ max_tokens
            → (kind_at (i + length (There ws js)) ≡ Kind.identifier → ⊥) → (kind_at (i + length (There ws js)) ≡ Kind.word → ⊥) → P
        go (v ∷ ws) js t q b c d = f v ws js t.0 q
        go [] [] t q b c d = let z : i + 0 ≡ i = omega arith in h q (subst (λ k. kind_at k ≡ Kind.identifier → ⊥) z c) (subst (λ k. kind_at k ≡ Kind.word → ⊥) z d)
        go [] (n ∷ js) t q b c d =
            let z : i + suc (length (There n.words js)) ≡ suc i + length (There n.words js) = omega arith in
            g n js t.0 (record {
              ws = n.words;
              js = js;
              there = t.1;
              width = q;
              few = omega arith;
              no_identifier = subst (λ k. kind_at k ≡ Kind.identifier → ⊥) z c;
              no_word = subst
                  (λ k. kind_at k ≡ Kind.word → ⊥) z d;
            })

    pub scanning-word : kind_at i ≡ Kind.word → length_in (word_at w (index_of (word_at w (first_entry + i)))) ≡ min longest (word_width words)
    scanning-word k =
        by (length_in (word_at w (index_of (word_at w (first_entry + i)))) ≡ min longest (word_width words))
        (λ v ws js h q. entry_length lexed h ∙ ap (min longest) (sym q))
        (λ n js h g. absurd (let z = entry-kind h in omega arith))
        (λ q a b. absurd (b k))

    pub scanning-more : kind_at i ≡ Kind.identifier → Scanning (i + 1)
    scanning-more k =
        subst Scanning (sym (add-one i)) (by (Scanning (suc i)) (λ v ws js h q. absurd (let z = entry-kind h in omega arith)) (λ n js h g. g) (λ q a b. absurd (a k)))

    pub scanning-other : (kind_at i ≡ Kind.word → ⊥) → (kind_at i ≡ Kind.identifier → ⊥) → word_width words ≡ 0
    scanning-other a b = by (word_width words ≡ 0) (λ v ws js h q. absurd (a (entry-kind h))) (λ n js h g. absurd (b (entry-kind h))) (λ q c d. q)

    pub scanning-past : max_tokens ≤ i → word_width words ≡ 0
    scanning-past l = go s.ws s.js s.width s.few
      where
        go : (ws : List Token) (js : List Identifier) → word_width words ≡ word_width (ws ++ words_in js) → i + length (There ws js) ≤ max_tokens → word_width words ≡ 0
        go (v ∷ ws) js q b = absurd (omega arith)
        go [] [] q b = q
        go [] (n ∷ js) q b = absurd (omega arith)
