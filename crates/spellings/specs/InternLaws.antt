-- How the numbers of names are made, one token after the other.
use Rattle.std.specs.Prelude.{ℕ, zero, suc, ◌+◌, ◌*◌, ◌≤◌, ◌<◌, List, [], ◌∷◌, Bool, true, false, ◌≢◌, ◌≡◌, refl, eqb, length, get_or, drop, set, replicate}
use Rattle.std.proofs.lemmas.Bool.{false≢true, eqb-false}
use Rattle.std.proofs.Math.Path.{sym, ap}
use Rattle.std.proofs.Common.{◌∙◌, subst, arith, add-one, length-set, get_or-set_same, get_or-set_other, eq-eqb, ne_eqb, eqb-true}
use Rattle.std.proofs.Math.ListN.{take}
use Rattle.std.proofs.lemmas.List.{length-replicate}
use Rattle.basics.specs.Lists.{get_or_zeros}
use Rattle.language.specs.Bytes.{same}
use Rattle.language.specs.Limits.{max_tokens, work_bytes}
use Rattle.language.specs.Tokens.{Token, Name, is_of, tokens}
use Rattle.language.proofs.Laws.Basics.Tests.{same_equal, same_refl}
use Rattle.language.proofs.Laws.Grammar.TokenLaws.{Rising, tokens_rise}
use Rattle.lexer.specs.Numbers.{number, class_number}
use Rattle.lexer.specs.NumberLaws.{class_number_lem}
use Rattle.lexer.specs.Answer.{Tokenized}
use Rattle.lexer.specs.LexingLaws.{lexical, token-stands, number_at_lem, offset_at, length_at}
use Rattle.lexer.specs.Stored.{number_in, offset_in, length_in}
use Rattle.words.specs.Words.{word_at}
use Rattle.spellings.specs.Trie.{max_trie_nodes, Trie, Spells, part}
use Rattle.spellings.specs.SpellLaws.{spells_few}
use Rattle.spellings.specs.Interned.{token_at, IsName, Lexed, top, Interned, Indexed, Begun}
use Rattle.spellings.specs.TopLaws.{top_least}

-- a token ends before the next begins
next-token : (from : ℕ) (ts : List Token) (j : ℕ) → Rising from ts → suc j < length ts → (token_at ts j).at + length (token_at ts j).text ≤ (token_at ts (suc j)).at
next-token from [] j r l = absurd (omega arith)
next-token from (t ∷ []) j r l = absurd (omega arith)
next-token from (t ∷ u ∷ ts) zero r l = r.1.0
next-token from (t ∷ u ∷ ts) (suc j) r l = next-token (t.at + length t.text) (u ∷ ts) j r.1 (omega arith)

-- what a name's word says of its bytes
module _ {text w : List ℕ} {count : ℕ} (h : Lexed text w count) (j : ℕ) (l : j < count) where
  abbrev t : Token
  t = token_at (tokens text) j

  before : suc j < length (tokens text)
  before = let e = h.total in omega arith

  pub name-number : number_in (word_at w j) ≡ class_number Name → IsName (tokens text) j
  name-number e = class_number_lem Name t refl ∙ eq-eqb (number t) (class_number Name) (sym (number_at_lem h.lexical h.stored j before) ∙ e)

  pub no_name : number_in (word_at w j) ≢ class_number Name → is_of Name t ≡ false
  no_name d = class_number_lem Name t refl ∙ ne_eqb (number t) (class_number Name) (λ e. d (number_at_lem h.lexical h.stored j before ∙ e))

  pub name-length : IsName (tokens text) j → length_in (word_at w j) ≡ length t.text
  name-length n = let s = (token-stands h.lexical j (omega (arith, before))).short n in let e = length_at h.lexical h.stored j before in omega arith

  pub name-part : IsName (tokens text) j → part (offset_in (word_at w j)) (length_in (word_at w j)) text ≡ t.text
  unfolding part
  name-part n =
      let s = token-stands h.lexical j (omega (arith, before)) in
      ap (λ k. take k (drop (offset_in (word_at w j)) text)) (name-length n) ∙ ap (λ k. take (length t.text) (drop k text)) (offset_at h.lexical h.stored j before) ∙ sym s.bytes

  pub name-inside : IsName (tokens text) j → offset_in (word_at w j) + length_in (word_at w j) ≤ length text
  name-inside n =
      let s = (token-stands h.lexical j (omega (arith, before))).inside in
      let e = name-length n in
      let f = offset_at h.lexical h.stored j before in
      omega arith

  -- there is room for the nodes of its bytes
  pub name-room : {n : ℕ} → n ≤ t.at + 1 → IsName (tokens text) j → n + length_in (word_at w j) ≤ length text + 1
  name-room b n = let i = name-inside n in let f = offset_at h.lexical h.stored j before in omega arith

  pub next_place : t.at + length t.text ≤ (token_at (tokens text) (suc j)).at
  next_place = next-token 0 (tokens text) j (tokens_rise text) before

-- before the first token there is the empty spelling alone
trie_start : {links byte : List ℕ} → 3 * length byte ≤ length links → 1 ≤ length byte → ((k : ℕ) → get_or byte k 0 < 256) → ((l : ℕ) → get_or links l 0 ≡ 0) → Trie links byte 1
trie_start a c small none =
    record {
      str = λ k. [];
      parent = λ k. 0;
      links_room = a;
      byte-room = c;
      rooted = omega arith;
      root = refl;
      distinct = λ i k l r e. omega arith;
      child = λ k p l. absurd (omega arith);
      small = λ k l. small k;
      inside = λ l. let e = none l in omega arith;
      rising = λ l d. absurd (d (none l));
      once = λ l m d. absurd (d (none l));
      owned = λ l d. absurd (d (none l));
      found = λ k p l. absurd (omega arith);
    }

indexed-start : (ts : List Token) {links byte ids : List ℕ} → Trie links byte 1 → max_tokens ≤ length ids → ((i : ℕ) → get_or ids i 0 ≡ 0) → Indexed ts 0 links byte 1 ids
indexed-start ts t l none =
    record { trie = t; few = omega arith; room = l; inside = λ i. let e = none i in omega arith; spells = λ i m n. absurd (omega arith) }

module _ {ts : List Token} {j : ℕ} {links byte ids : List ℕ} {n : ℕ} (x : Indexed ts j links byte n ids) where
  -- the last of the tokens passed, or one before it
  last-or-before : (P : ℕ → Type 0) → ((i : ℕ) → i < j → P i) → P j → (i : ℕ) → i < suc j → P i
  last-or-before P f g i l = go (eqb i j) refl
    where
      go : (b : Bool) → eqb i j ≡ b → P i
      go true e = subst P (sym (eqb-true i j e)) g
      go false e = f i (let d = eqb-false i j e in before_it i j d l)
        where
          before_it : (a b : ℕ) → a ≢ b → a < suc b → a < b
          before_it a b d l = omega arith

  pub indexed_other : (token_at ts j).at + length (token_at ts j).text ≤ (token_at ts (suc j)).at → is_of Name (token_at ts j) ≡ false → Indexed ts (suc j) links byte n ids
  indexed_other up other =
      record {
        trie = x.trie;
        few = (let f = x.few in omega arith);
        room = x.room;
        inside = x.inside;
        spells = last-or-before (λ i. IsName ts i → x.trie.str (get_or ids i 0) ≡ (token_at ts i).text) x.spells (λ y. absurd (false≢true (sym other ∙ y)));
      }

  pub indexed-name : {links' byte' : List ℕ} {m r : ℕ} → (token_at ts j).at + length (token_at ts j).text ≤ (token_at ts (suc j)).at → j < max_tokens
      → Spells x.trie links' byte' (token_at ts j).text m r → Indexed ts (suc j) links' byte' m (set ids j r)
  indexed-name {r = r} up l s =
      let here : get_or (set ids j r) j 0 ≡ r = get_or-set_same ids j r 0 (let q = x.room in omega arith) in
      let there : (i : ℕ) → i ≢ j → get_or (set ids j r) i 0 ≡ get_or ids i 0 = λ i d. get_or-set_other ids j i r 0 d in
      record {
        trie = s.trie;
        few = (let f = x.few in let g = s.few in omega arith);
        room = (let q = x.room in let z = length-set ids j r in omega arith);
        inside = λ i. inside' i here there s.inside s.less (eqb i j) refl;
        spells =
            last-or-before (λ i. IsName ts i → s.trie.str (get_or (set ids j r) i 0) ≡ (token_at ts i).text)
            (λ i k y. ap s.trie.str (there i (λ e. omega arith)) ∙ s.kept (get_or ids i 0) (x.inside i) ∙ x.spells i k y)
            (λ y. ap s.trie.str here ∙ s.spells);
      }
    where
      inside' : {m : ℕ} (i : ℕ) → get_or (set ids j r) j 0 ≡ r → ((i : ℕ) → i ≢ j → get_or (set ids j r) i 0 ≡ get_or ids i 0) → r < m → n ≤ m → (b : Bool) → eqb i j ≡ b → get_or (set ids j r) i 0 < m
      inside' i here there l g true e = let d = ap (λ k. get_or (set ids j r) k 0) (eqb-true i j e) in omega arith
      inside' i here there l g false e = let d = there i (eqb-false i j e) in let f = x.inside i in omega arith

  -- names are equal where their nodes are
  pub interned : Interned ts j ids
  interned = record { told = λ i k li lk yi yk. alike i k li lk yi yk (eqb (get_or ids i 0) (get_or ids k 0)) refl }
    where
      alike : (i k : ℕ) → i < j → k < j → IsName ts i → IsName ts k → (b : Bool) → eqb (get_or ids i 0) (get_or ids k 0) ≡ b
          → eqb (get_or ids i 0) (get_or ids k 0) ≡ same (token_at ts i).text (token_at ts k).text
      alike i k li lk yi yk true e =
          let texts : (token_at ts i).text ≡ (token_at ts k).text = sym (x.spells i li yi) ∙ ap x.trie.str (eqb-true (get_or ids i 0) (get_or ids k 0) e) ∙ x.spells k lk yk in
          e ∙ sym (ap (λ s. same (token_at ts i).text s) (sym texts) ∙ same_refl (token_at ts i).text)
      alike i k li lk yi yk false e = go (same (token_at ts i).text (token_at ts k).text) refl
        where
          go : (b : Bool) → same (token_at ts i).text (token_at ts k).text ≡ b → eqb (get_or ids i 0) (get_or ids k 0) ≡ same (token_at ts i).text (token_at ts k).text
          go true f =
              absurd (eqb-false (get_or ids i 0) (get_or ids k 0) e
              (x.trie.distinct (get_or ids i 0) (get_or ids k 0) (x.inside i) (x.inside k)
              (x.spells i li yi ∙ same_equal (token_at ts i).text (token_at ts k).text f ∙ sym (x.spells k lk yk))))
          go false f = e ∙ sym f

-- one token, by its word
module _ {text w : List ℕ} {count j word : ℕ} (h : Lexed text w count) (l : j < count) (e : word ≡ word_at w j) {links byte ids : List ℕ} {n : ℕ} (x : Indexed (tokens text) j links byte n ids) where
  is_name : number_in word ≡ class_number Name → IsName (tokens text) j
  is_name y = name-number h j l (ap number_in (sym e) ∙ y)

  pub numbered_other : number_in word ≢ class_number Name → Indexed (tokens text) (j + 1) links byte n ids
  numbered_other d = rw add-one (indexed_other x (next_place h j l) (no_name h j l (λ y. d (ap number_in e ∙ y))))

  -- its bytes lie in the text, and there is room for a node for each
  pub name_bounds : number_in word ≡ class_number Name → (offset_in word + length_in word ≤ length text) × (n + length_in word ≤ max_trie_nodes) × (n + length_in word ≤ length text + 1)
  name_bounds y = let b = name-room h j l x.few (is_name y) in let s = h.lexical.short in rw (e) (name-inside h j l (is_name y), omega arith, b)

  few_enough : j < max_tokens
  few_enough = let t = h.total in let f = h.lexical.few in omega arith

  pub numbered-name : number_in word ≡ class_number Name → {links' byte' : List ℕ} {m r : ℕ} → Spells x.trie links' byte' (part (offset_in word) (length_in word) text) m r
      → Indexed (tokens text) (j + 1) links' byte' m (set ids j r)
  numbered-name y {links'} {byte'} {m} {r} s =
      rw add-one
      (indexed-name x (next_place h j l) few_enough
      (subst (λ u. Spells x.trie links' byte' u m r) (ap (λ v. part (offset_in v) (length_in v) text) e ∙ name-part h j l (is_name y)) s))

  pub node-small : number_in word ≡ class_number Name → {links' byte' : List ℕ} {m r : ℕ} → Spells x.trie links' byte' (part (offset_in word) (length_in word) text) m r → r < max_trie_nodes
  node-small y s =
      let b = name_bounds y in
      let f = spells_few (offset_in word) (length_in word) text s b.0 in
      omega (arith, s.inside, b.1)

-- there are at most as many numbers as bytes, and one
pub interned-all : {text w : List ℕ} {count : ℕ} → Lexed text w count → {links byte ids : List ℕ} {n : ℕ} → Indexed (tokens text) count links byte n ids
    → Interned (tokens text) count ids × (top ids ≤ length text + 1)
interned-all {text} {count = count} h {ids = ids} x =
    (interned x, top_least ids (length text + 1) (λ i. let e = h.total in let s = (token-stands h.lexical count (omega arith)).inside in let f = x.few in let l = x.inside i in omega arith))

pub until : {ts : List Token} {j count : ℕ} {links byte ids : List ℕ} {n : ℕ} → Indexed ts j links byte n ids → j ≡ count → Indexed ts count links byte n ids
until x e = rw (sym e) x

-- arrays of zeros
pub begun_zeros : {text : List ℕ} (a b d : ℕ) → 3 * b ≤ a → length text < b → max_tokens ≤ d → Begun text (replicate a 0) (replicate b 0) (replicate d 0)
begun_zeros {text} a b d la lb ld =
    let x = length-replicate {A = ℕ} a 0 in
    let y = length-replicate {A = ℕ} b 0 in
    let w = length-replicate {A = ℕ} d 0 in
    record { indexed = indexed-start (tokens text) (trie_start (omega arith) (omega arith) (λ k. let e = get_or_zeros b k in omega arith) (get_or_zeros a)) (omega arith) (get_or_zeros d); room = omega arith }

-- what the lexer promises, and what a later stage has kept of it
pub lexed-from : {text w : List ℕ} {count : ℕ} → Tokenized text w count → work_bytes ≤ length w → Lexed text w count
lexed-from {text} t room = record { lexical = lexical text (tokens text) t.read; stored = t.stored; total = (let c = t.count in omega arith); room = room }
