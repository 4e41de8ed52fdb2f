-- Entries in the buffer: read back from their words, put together, taken apart by an expression's operands, kept by what is written behind them.
use Rattle.std.specs.Prelude.{ℕ, suc, ◌+◌, ◌-◌, ◌≤◌, ◌<◌, ◌^◌, List, [], ◌∷◌, ◌++◌, ◌≡◌, length}
use Rattle.std.proofs.Common.{arith, ap, ◌∙◌, subst, length-append}
use Rattle.std.proofs.Math.Option.{Option, none, some}
use Rattle.node.specs.BitFields.{above, below}
use Rattle.node.proofs.FieldLaws.{above_join, below-join}
use Rattle.words.specs.Words.{word_at}
use Rattle.words.specs.WordLaws.{word_same}
use Rattle.language.specs.Tokens.{Token}
use Rattle.language.specs.Tree.{Expr, Named, Numeral, Truth, Index, Paren, Prefixed, Joined, Nexts, InWindow, Each, Between, Listed, Empty, Element, Range}
use Rattle.language.specs.Grammar.{Tokens}
use Rattle.language.specs.Limits.{max_tokens, work_bytes}
use Rattle.entries.specs.Kinds as Kind
use Rattle.entries.specs.Flat.{Entry, under, flat}
use Rattle.entries.specs.Stored.{first_entry, field_bits, entry_word, kind_of, index_of, size_of, put_entry, Keeps, EntryAt, EntriesFrom, EndsAt, At}

-- the fields of an entry's word
module _ {w : List ℕ} {ts : Tokens} {i : ℕ} {e : Entry} (h : EntryAt w ts i e) where
  pub entry-kind : kind_of (word_at w (first_entry + i)) ≡ e.kind
  entry-kind =
      ap kind_of h.word ∙ ap (above field_bits) (above_join field_bits _ h.size_fits) ∙ above_join field_bits e.kind h.index-fits

  pub entry-index : index_of (word_at w (first_entry + i)) ≡ h.index
  entry-index =
      ap index_of h.word ∙ ap (below field_bits) (above_join field_bits _ h.size_fits) ∙ below-join field_bits e.kind h.index-fits

  pub entry-size : size_of (word_at w (first_entry + i)) ≡ e.size
  entry-size = ap size_of h.word ∙ below-join field_bits _ h.size_fits

-- an entry just written
pub entry-put : (w : List ℕ) (ts : Tokens) (out k j n : ℕ) (t : Option Token) → work_bytes ≤ length w → out < max_tokens → k < Kind.limit → j < 2 ^ field_bits → n < 2 ^ field_bits → Keeps ts j t
    → EntryAt (put_entry w out k j n) ts out (record { kind = k; token = t; size = n })
entry-put w ts out k j n t room few hk hj hn keeps =
    record { index = j; word = word_same w (first_entry + out) (entry_word k j n) (omega arith) (omega arith); keeps = keeps; index-fits = hj; size_fits = hn }

-- the words of entries from i on, up to n entries, are the same
abbrev pub SameEntries : List ℕ → List ℕ → ℕ → ℕ → Type 0
SameEntries w v i n = (j : ℕ) → i ≤ j → j < i + n → word_at v (first_entry + j) ≡ word_at w (first_entry + j)

pub entry_kept : {w v : List ℕ} {ts : Tokens} {i : ℕ} {e : Entry} → word_at v (first_entry + i) ≡ word_at w (first_entry + i) → EntryAt w ts i e → EntryAt v ts i e
entry_kept s h = record { index = h.index; word = s ∙ h.word; keeps = h.keeps; index-fits = h.index-fits; size_fits = h.size_fits }

pub entries-kept : (w v : List ℕ) (ts : Tokens) (i : ℕ) (es : List Entry) → SameEntries w v i (length es) → EntriesFrom w ts i es → EntriesFrom v ts i es
entries-kept w v ts i [] s h = tt
entries-kept w v ts i (e ∷ es) s h = (entry_kept (s i (omega arith) (omega arith)) h.0, entries-kept w v ts (suc i) es (λ j l r. s j (omega arith) (omega arith)) h.1)

-- two runs of entries, one behind the other
pub entries-append : (w : List ℕ) (ts : Tokens) (i : ℕ) (es fs : List Entry) → EntriesFrom w ts i es → EntriesFrom w ts (i + length es) fs → EntriesFrom w ts i (es ++ fs)
entries-append w ts i [] fs h g = subst (λ k. EntriesFrom w ts k fs) (omega arith) g
entries-append w ts i (e ∷ es) fs h g = (h.0, entries-append w ts (suc i) es fs h.1 (subst (λ k. EntriesFrom w ts k fs) (omega arith) g))

pub entries-left : (w : List ℕ) (ts : Tokens) (i : ℕ) (es fs : List Entry) → EntriesFrom w ts i (es ++ fs) → EntriesFrom w ts i es
entries-left w ts i [] fs h = tt
entries-left w ts i (e ∷ es) fs h = (h.0, entries-left w ts (suc i) es fs h.1)

pub entries-right : (w : List ℕ) (ts : Tokens) (i : ℕ) (es fs : List Entry) → EntriesFrom w ts i (es ++ fs) → EntriesFrom w ts (i + length es) fs
entries-right w ts i [] fs h = subst (λ k. EntriesFrom w ts k fs) (omega arith) h
entries-right w ts i (e ∷ es) fs h = subst (λ k. EntriesFrom w ts k fs) (omega arith) (entries-right w ts (suc i) es fs h.1)

-- the entries below an entry, and its own
module _ {w : List ℕ} {ts : Tokens} {k : ℕ} (n : ℕ) (t : Option Token) (es : List Entry) (h : EndsAt w ts k (under n t es)) where
  behind : h.start + length es ≡ k
  behind = let m = h.size in let l = length-append es (record { kind = n; token = t; size = suc (length es) } ∷ []) in omega arith

  pub ends-own : EntryAt w ts k (record { kind = n; token = t; size = suc (length es) })
  ends-own = subst (λ i. EntryAt w ts i (record { kind = n; token = t; size = suc (length es) })) behind (entries-right w ts h.start es _ h.entries).0

  pub under-size : size_of (word_at w (first_entry + k)) ≡ length (under n t es)
  under-size = entry-size ends-own ∙ (let l = length-append es (record { kind = n; token = t; size = suc (length es) } ∷ []) in omega arith)

  pub ends-below : 0 < length es → EndsAt w ts (k - 1) es
  ends-below l = record { start = h.start; size = (let b = behind in omega arith); entries = entries-left w ts h.start es _ h.entries }

-- the last operand's entries, and those before them
module _ {w : List ℕ} {ts : Tokens} {k : ℕ} (xs ys : List Entry) (h : EndsAt w ts k (xs ++ ys)) where
  total : h.start + (length xs + length ys) ≡ suc k
  total = let m = h.size in let l = length-append xs ys in omega arith

  pub ends_last : EndsAt w ts k ys
  ends_last = record { start = h.start + length xs; size = (let m = total in omega arith); entries = entries-right w ts h.start xs ys h.entries }

  pub ends-before : 0 < length xs → EndsAt w ts (k - length ys) xs
  ends-before l = record { start = h.start; size = (let m = total in omega arith); entries = entries-left w ts h.start xs ys h.entries }

-- an expression's own entry has the number of its entries
pub expr-size : {w : List ℕ} {ts : Tokens} {k : ℕ} (e : Expr) → 0 < length (flat e) → At w ts k e → size_of (word_at w (first_entry + k)) ≡ length (flat e)
expr-size (Named t) l h = under-size Kind.named (some t) [] h
expr-size (Numeral t) l h = under-size Kind.numeral (some t) [] h
expr-size (Truth t b) l h = under-size Kind.truth (some t) [] h
expr-size (Index t e) l h = under-size Kind.index (some t) (flat e) h
expr-size (Paren t e) l h = under-size Kind.paren (some t) (flat e) h
expr-size (Prefixed t o e) l h = under-size (Kind.before o) (some t) (flat e) h
expr-size (Joined t o a b) l h = under-size (Kind.joining o) (some t) (flat a ++ flat b) h
expr-size (Nexts t n e) l h = under-size Kind.nexts (some t) (flat n ++ flat e) h
expr-size (InWindow t o n m e) l h = under-size Kind.window (some t) (flat n ++ (flat m ++ flat e)) h
expr-size (Each t o further i s e) l h = under-size (Kind.big o) (some t) (under (Kind.binder further) (some i) (flat s) ++ flat e) h
expr-size (Between t x y a b) l h = under-size (Kind.between y) (some t) (flat a ++ flat b) h
expr-size (Listed t es) l h = under-size Kind.listed (some t) (flat es) h
expr-size Empty l h = absurd (omega arith)
expr-size (Element e es) l h = under-size Kind.element none (flat e ++ flat es) h
expr-size (Range t x y z) l h = under-size Kind.range (some t) (flat x ++ (flat y ++ flat z)) h
