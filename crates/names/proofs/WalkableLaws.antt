-- What a stored tree shows of its entries that have names.
use Rattle.std.specs.Prelude.{ℕ, zero, suc, ◌+◌, ◌<◌, List, [], ◌∷◌, true, ◌||◌, ◌≡◌, refl, length, drop}
use Rattle.std.proofs.Math.Option.{none, some}
use Rattle.std.proofs.Common.{sym, ap, ◌∙◌, subst, arith}
use Rattle.words.specs.Words.{word_at}
use Rattle.language.specs.Limits.{max_tokens}
use Rattle.language.specs.Tokens.{Token, Name, is_of, tokens}
use Rattle.language.specs.Grammar.{front}
use Rattle.language.proofs.Laws.Basics.Lists.{All}
use Rattle.language.proofs.Laws.Basics.Tests.{or_left, or_right}
use Rattle.lexer.specs.Stored.{offset_in}
use Rattle.lexer.specs.LexingLaws.{token-stands, offset_at}
use Rattle.entries.specs.Kinds as Kind
use Rattle.entries.specs.Flat.{Entry}
use Rattle.entries.specs.Stored.{first_entry, kind_of, index_of, Keeps, EntryAt, EntriesFrom}
use Rattle.entries.specs.StoredLaws.{entry-kind, entry-index}
use Rattle.names.specs.Roles.{uses, binds, declares}
use Rattle.names.specs.Scan.{token_of}
use Rattle.spellings.specs.Interned.{token_at}
use Rattle.names.specs.Tables.{Placed}
use Rattle.names.specs.Walkable.{names, NamesName, Walkable, entry_of, NameAt}

pub uses-names : (k : ℕ) → uses k ≡ true → names k ≡ true
uses-names k e = or_left (uses k || binds k) (declares Kind.parameter k) (or_left (uses k) (binds k) e)

pub binds-names : (k : ℕ) → binds k ≡ true → names k ≡ true
binds-names k e = or_left (uses k || binds k) (declares Kind.parameter k) (or_right (uses k) (binds k) e)

pub declares-names : (k : ℕ) → declares Kind.parameter k ≡ true → names k ≡ true
declares-names k e = or_right (uses k || binds k) (declares Kind.parameter k) e

pub rest_at : (es : List Entry) (k : ℕ) → k < length es → drop k es ≡ entry_of es k ∷ drop (suc k) es
rest_at [] k l = absurd (omega arith)
rest_at (n ∷ es) zero l = refl
rest_at (n ∷ es) (suc k) l = rest_at es k (omega arith)

all-at : (P : Entry → Type 0) (es : List Entry) (k : ℕ) → k < length es → All P es → P (entry_of es k)
all-at P [] k l h = absurd (omega arith)
all-at P (n ∷ es) zero l h = h.0
all-at P (n ∷ es) (suc k) l h = all-at P es k (omega arith) h.1

pub stored_at : (w : List ℕ) (ts : List Token) (i : ℕ) (es : List Entry) (k : ℕ) → k < length es → EntriesFrom w ts i es → EntryAt w ts (i + k) (entry_of es k)
stored_at w ts i [] k l h = absurd (omega arith)
stored_at w ts i (n ∷ es) zero l h = subst (λ d. EntryAt w ts d n) (omega arith) h.0
stored_at w ts i (n ∷ es) (suc k) l h = subst (λ d. EntryAt w ts d (entry_of es k)) (omega arith) (stored_at w ts (suc i) es k (omega arith) h.1)

module _ {w ids : List ℕ} {entries : ℕ} (h : Walkable w ids entries) (k : ℕ) (l : k < entries) where
  inside : k < length h.es
  inside = let e = h.total in omega arith

  abbrev own : Entry
  own = entry_of h.es k

  there : EntryAt w (tokens h.text) k own
  there = subst (λ d. EntryAt w (tokens h.text) d own) (omega arith) (stored_at w (tokens h.text) 0 h.es k inside h.stored)

  pub kind_there : kind_of (word_at w (first_entry + k)) ≡ own.kind
  kind_there = entry-kind there

  pub name_there : names own.kind ≡ true → NameAt (tokens h.text) h.count (index_of (word_at w (first_entry + k))) (token_of own)
  name_there y =
      let n = all-at NamesName h.es k inside h.named y in
      let keeps : Keeps (tokens h.text) there.index (some n.token) = subst (Keeps (tokens h.text) there.index) n.kept there.keeps in
      let e : index_of (word_at w (first_entry + k)) ≡ there.index = entry-index there in
      let t = h.lexed.total in
      record {
        inside = omega (arith, keeps.1);
        name = ap (λ j. is_of Name (token_at (tokens h.text) j)) e ∙ ap (is_of Name) keeps.0 ∙ n.name;
        token = ap (λ o. elim o [ none ↦ front [] | some t ↦ t ]) n.kept ∙ sym keeps.0 ∙ ap (token_at (tokens h.text)) (sym e);
      }

  -- a token lies in the text
  pub place_there : {j : ℕ} {t : Token} → NameAt (tokens h.text) h.count j t → (offset_in (word_at w j) ≡ t.at) × Placed t × (j < max_tokens)
  place_there {j} {t} n =
      let i = n.inside in
      let e = h.lexed.total in
      let f = h.lexed.lexical.few in
      let s = (token-stands h.lexed.lexical j (omega arith)).inside in
      let b = h.lexed.lexical.short in
      let same : (token_at (tokens h.text) j).at ≡ t.at = ap (λ u. u.at) (sym n.token) in
      (offset_at h.lexed.lexical h.lexed.stored j (omega arith) ∙ same, omega arith, omega arith)
