-- The words behind an identifier's entry, and behind an enumeration's, as the parser stores them.
use Rattle.std.specs.Prelude.{ℕ, suc, ◌+◌, ◌-◌, ◌≤◌, ◌<◌, Bool, ◌≡◌}
use Rattle.std.proofs.Math.Bool.{true, false}
use mathlib.Core.List.{List, [], ◌∷◌, ◌++◌, map, append_assoc}
use Rattle.std.proofs.Math.Option.{Option, none, some}
use Rattle.std.proofs.Math.Path.{refl, ap, subst}
use Rattle.std.proofs.Common.{sym, ap₂, ◌∙◌, add-one, eqb-true}
use Rattle.std.proofs.Math.Decide.{dec_lt}
use native.Mathlib.Omega.{arith}
use Rattle.std.proofs.Math.Dec.{eqb}
use Rattle.std.proofs.Math.ListN.{length}
use Rattle.words.specs.Words.{word_at}
use Rattle.language.specs.Limits.{max_tokens}
use Rattle.language.specs.Tokens.{Token, tokens}
use Rattle.language.specs.Tree.{Identifier}
use Rattle.language.specs.Words.{words_in}
use Rattle.language.proofs.Laws.Basics.Lists.{All, all_append, all_left, all_right}
use Rattle.lexer.specs.LexingLaws.{token-stands, token_near}
use Rattle.entries.specs.Kinds as Kind
use Rattle.entries.specs.Flat.{Entry, leaf, each, flat_identifier}
use Rattle.entries.specs.Stored.{first_entry, kind_of, EntriesFrom}
use Rattle.spellings.specs.Interned.{Lexed}
use Rattle.traversal.specs.Cells.{Told, Seen, cell_at, TokensTell}
use Rattle.traversal.specs.CellLaws.{entries-seen}
use Rattle.enumerations.specs.Pass.{bytes_at}
use Rattle.enumerations.specs.Given.{Spelled}
use Rattle.enumerations.specs.SpellLaws.{spelled}
use Rattle.choices.specs.Entries.{end_from, words_end, identifiers_end, words_at, row_in, rows_at, texts_of, Words}
use Rattle.choices.specs.EntryLaws.{end-past, end_low, end-high, end_more}
use Rattle.choices.specs.StoredWords.{Short}

abbrev ShortToken : Option Token → Type 0
ShortToken none = ⊥
ShortToken (some t) = Short t

-- an entry of an identifier or of a word; `low` is the lower kind of those that are looked for
abbrev Fine : ℕ → Entry → Type 0
Fine low e = (low ≤ e.kind) × ((e.kind ≤ Kind.word) × (e.kind ≡ Kind.word → ShortToken e.token))

abbrev tokens_of : Option Token → List Token
tokens_of none = []
tokens_of (some t) = t ∷ []

-- the words among entries
abbrev chosen : List Entry → List Token
chosen [] = []
chosen (e ∷ es) = elim (eqb e.kind Kind.word) [ true ↦ tokens_of e.token ++ chosen es | false ↦ chosen es ]

chosen-append : (es fs : List Entry) → chosen (es ++ fs) ≡ chosen es ++ chosen fs
chosen-append [] fs = refl
chosen-append (e ∷ es) fs = go (eqb e.kind Kind.word) (chosen-append es fs)
  where
    go : (b : Bool) → chosen (es ++ fs) ≡ chosen es ++ chosen fs
        → elim b [ true ↦ tokens_of e.token ++ chosen (es ++ fs) | false ↦ chosen (es ++ fs) ] ≡ elim b [ true ↦ tokens_of e.token ++ chosen es | false ↦ chosen es ] ++ chosen fs
    go true h = ap (λ (l : List Token). tokens_of e.token ++ l) h ∙ sym (append_assoc (tokens_of e.token) (chosen es) (chosen fs))
    go false h = h

chosen-words : (ws : List Token) → chosen (each (leaf Kind.word) ws) ≡ ws
chosen-words [] = refl
chosen-words (t ∷ ws) = ap (λ (l : List Token). t ∷ l) (chosen-words ws)

chosen-identifiers : (is : List Identifier) → chosen (each flat_identifier is) ≡ words_in is
chosen-identifiers [] = refl
chosen-identifiers (i ∷ is) =
    chosen-append (each (leaf Kind.word) i.words) (each flat_identifier is) ∙ ap₂ (λ (l m : List Token). l ++ m) (chosen-words i.words) (chosen-identifiers is)

length-words : (ws : List Token) → length (each (leaf Kind.word) ws) ≡ length ws
length-words [] = refl
length-words (t ∷ ws) = let h = length-words ws in omega arith

fine_words : (low : ℕ) → low ≤ Kind.word → (ws : List Token) → All Short ws → All (Fine low) (each (leaf Kind.word) ws)
fine_words low l [] h = tt
fine_words low l (t ∷ ws) h = ((l, (omega arith, λ e. h.0)), fine_words low l ws h.1)

fine_identifiers : (is : List Identifier) → All Short (words_in is) → All (Fine Kind.identifier) (each flat_identifier is)
fine_identifiers [] h = tt
fine_identifiers (i ∷ is) h = (
  (omega arith, (omega arith, λ e. absurd (omega arith))),
  all_append (Fine Kind.identifier) (each (leaf Kind.word) i.words) (each flat_identifier is)
      (fine_words Kind.identifier (omega arith) i.words (all_left Short i.words (words_in is) h)) (fine_identifiers is (all_right Short i.words (words_in is) h)),
)

-- tokens' words spell them
lexed_spells : {text w : List ℕ} {count : ℕ} → Lexed text w count → TokensTell (Spelled text) w (tokens text)
lexed_spells {text} h j l = spelled text _ _ (token-stands h.lexical j (omega arith)) (token_near h.lexical j (omega arith)) (h.stored.words j l)

row-spelled : (text : List ℕ) (x : ℕ) (t : Token) → Spelled text x t → Short t → row_in text x ≡ t.text
row-spelled text x t s h = let n = s.size in ap₂ (bytes_at text) s.place (omega arith) ∙ s.bytes

module _ (text w : List ℕ) (low : ℕ) where
  one-row : (x : ℕ) (o : Option Token) {rows : List (List ℕ)} (ts : List Token) → Told (Spelled text) x o → ShortToken o → rows ≡ texts_of ts → row_in text x ∷ rows ≡ texts_of (tokens_of o ++ ts)
  one-row x none ts s h e = absurd h
  one-row x (some t) ts s h e = ap₂ (λ (r : List ℕ) (l : List (List ℕ)). r ∷ l) (row-spelled text x t s h) e

  rows-chosen : (i : ℕ) (es : List Entry) → Seen (Spelled text) (cell_at w) i es → All (Fine low) es → map (row_in text) (words_at w i (length es)) ≡ texts_of (chosen es)
  unfolding words_at
  rows-chosen i [] s f = refl
  rows-chosen i (e ∷ es) s f =
      ap (λ (k : ℕ). map (row_in text) (elim (eqb k Kind.word) [ true ↦ (cell_at w i).token ∷ words_at w (suc i) (length es) | false ↦ words_at w (suc i) (length es) ])) s.0.kind
      ∙ go (eqb e.kind Kind.word) refl (rows-chosen (suc i) es s.1 f.1)
    where
      go : (b : Bool) → eqb e.kind Kind.word ≡ b → map (row_in text) (words_at w (suc i) (length es)) ≡ texts_of (chosen es)
          → map (row_in text) (elim b [ true ↦ (cell_at w i).token ∷ words_at w (suc i) (length es) | false ↦ words_at w (suc i) (length es) ])
          ≡ texts_of (elim b [ true ↦ tokens_of e.token ++ chosen es | false ↦ chosen es ])
      go true h r = one-row (cell_at w i).token e.token (chosen es) s.0.token (f.0.1.1 (eqb-true e.kind Kind.word h)) r
      go false h r = r

  end-here : (i : ℕ) → i ≤ max_tokens → (low ≤ (cell_at w i).kind → (cell_at w i).kind ≤ Kind.word → ⊥) → end_from w low i ≡ i
  end-here i l h = sym (go (dec_lt i max_tokens) (dec_lt (cell_at w i).kind low) (dec_lt Kind.word (cell_at w i).kind))
    where
      go : Dec (i < max_tokens) → Dec ((cell_at w i).kind < low) → Dec (Kind.word < (cell_at w i).kind) → i ≡ end_from w low i
      go (no a) b d = end-past w low i (omega arith)
      go (yes a) (yes b) d = end_low w low i a refl b
      go (yes a) (no b) (yes d) = end-high w low i a refl d
      go (yes a) (no b) (no d) = absurd (h (omega arith) (omega arith))

  end-chosen : (i : ℕ) (es : List Entry) → Seen (Spelled text) (cell_at w) i es → All (Fine low) es → i + length es ≤ max_tokens
      → (low ≤ (cell_at w (i + length es)).kind → (cell_at w (i + length es)).kind ≤ Kind.word → ⊥) → end_from w low i ≡ i + length es
  end-chosen i [] s f l h = let z : i + 0 ≡ i = omega arith in end-here i (omega arith) (rw z at h) ∙ sym z
  end-chosen i (e ∷ es) s f l h =
      let k = s.0.kind in
      let z : i + suc (length es) ≡ suc i + length es = omega arith in
      sym (end_more w low i (omega arith) refl (omega (arith, f.0.0)) (omega (arith, f.0.1.0)))
      ∙ ap (end_from w low) (add-one i) ∙ end-chosen (suc i) es s.1 f.1 (omega arith) (rw z at h) ∙ sym z

  words_of_lem : (i : ℕ) (es : List Entry) → Seen (Spelled text) (cell_at w) i es → All (Fine low) es → i + length es ≤ max_tokens
      → (low ≤ (cell_at w (i + length es)).kind → (cell_at w (i + length es)).kind ≤ Kind.word → ⊥) → Words text w i (end_from w low i) (chosen es)
  unfolding rows_at
  words_of_lem i es s f l h =
      let e = end-chosen i es s f l h in
      let z : end_from w low i - i ≡ length es = omega arith in
      record { rows = ap (λ (n : ℕ). map (row_in text) (words_at w i n)) z ∙ rows-chosen i es s f }

-- behind an identifier's entry n
module _ {text w : List ℕ} {count : ℕ} (lexed : Lexed text w count) (n : ℕ) where
  pub identifier-words : (ws : List Token) → EntriesFrom w (tokens text) (suc n) (each (leaf Kind.word) ws) → (kind_of (word_at w (first_entry + (suc n + length ws))) ≡ Kind.word → ⊥)
      → suc n + length ws ≤ max_tokens → All Short ws → Words text w (n + 1) (words_end w n) ws
  unfolding cell_at
  identifier-words ws h ends few short =
      let es = each (leaf Kind.word) ws in
      let z : length es ≡ length ws = length-words ws in
      let last : Kind.word ≤ (cell_at w (suc n + length es)).kind → (cell_at w (suc n + length es)).kind ≤ Kind.word → ⊥ =
      rw z (λ a b. ends (omega arith)) in
      subst (λ (i : ℕ). Words text w i (end_from w Kind.word i) ws) (sym (add-one n))
      (subst (Words text w (suc n) (end_from w Kind.word (suc n))) (chosen-words ws)
      (words_of_lem text w Kind.word (suc n) es (entries-seen (Spelled text) w (tokens text) (lexed_spells lexed) (suc n) es h) (fine_words Kind.word (omega arith) ws short) (omega arith) last))

  -- behind an enumeration's
  pub enumeration-words : (is : List Identifier) → EntriesFrom w (tokens text) (suc n) (each flat_identifier is)
      → (Kind.identifier ≤ kind_of (word_at w (first_entry + (suc n + length (each flat_identifier is)))) → kind_of (word_at w (first_entry + (suc n + length (each flat_identifier is)))) ≤ Kind.word → ⊥)
      → suc n + length (each flat_identifier is) ≤ max_tokens → All Short (words_in is) → Words text w (n + 1) (identifiers_end w n) (words_in is)
  unfolding cell_at
  enumeration-words is h ends few short =
      let es = each flat_identifier is in
      subst (λ (i : ℕ). Words text w i (end_from w Kind.identifier i) (words_in is)) (sym (add-one n))
      (subst (Words text w (suc n) (end_from w Kind.identifier (suc n))) (chosen-identifiers is)
      (words_of_lem text w Kind.identifier (suc n) es (entries-seen (Spelled text) w (tokens text) (lexed_spells lexed) (suc n) es h) (fine_identifiers is short) few ends))
