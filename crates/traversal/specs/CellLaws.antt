-- The code's view of stored entries is the view of the tree's.
use Rattle.std.specs.Prelude.{ℕ, suc, ◌+◌, ◌/◌, ◌%◌, ◌^◌, List, [], ◌∷◌, ◌≡◌, drop}
use Rattle.std.proofs.Math.Option.{Option, none, some}
use Rattle.std.proofs.Common.{sym, ap, ◌∙◌, subst}
use Rattle.words.specs.Words.{word_at}
use Rattle.language.specs.Tokens.{Token}
use Rattle.language.specs.Grammar.{Tokens, front}
use Rattle.entries.specs.Flat.{Entry}
use Rattle.entries.specs.Stored.{first_entry, field_bits, index_of, Keeps, EntryAt, EntriesFrom}
use Rattle.entries.specs.StoredLaws.{entry-kind, entry-index, entry-size}
use Rattle.traversal.specs.Cells.{Told, Sees, OfToken, Seen, cell_at, TokensTell}

module _ (T : ℕ → Token → Type 0) (w : List ℕ) (ts : Tokens) (told : TokensTell T w ts) where
  token-told : {j : ℕ} (k : ℕ) (t : Option Token) → k ≡ j → Keeps ts j t → Told T (word_at w k) t
  token-told k none e h = tt
  token-told {j} k (some t) e h = subst (T (word_at w k)) h.0 (subst (λ l. T (word_at w l) (front (drop j ts))) (sym e) (told j h.1))

  pub entry_seen : (i : ℕ) (e : Entry) → EntryAt w ts i e → Sees (OfToken T tt) (cell_at w i) e
  unfolding cell_at
  entry_seen i e h = record { kind = entry-kind h; size = entry-size h; token = token-told (index_of (word_at w (first_entry + i))) e.token (entry-index h) h.keeps }

  pub entries-seen : (i : ℕ) (es : List Entry) → EntriesFrom w ts i es → Seen T (cell_at w) i es
  entries-seen i [] h = tt
  entries-seen i (e ∷ es) h = (entry_seen i e h.0, entries-seen (suc i) es h.1)

-- as the code reads it
pub cell_of : (w : List ℕ) (i x y : ℕ) → x ≡ word_at w (first_entry + i) → y ≡ word_at w (x / 2 ^ field_bits % 2 ^ field_bits) → record { kind = x / 2 ^ field_bits / 2 ^ field_bits; token = y; size = x % 2 ^ field_bits } ≡ cell_at w i
unfolding cell_at
cell_of w i x y e d =
    ap (λ (t : ℕ). record { kind = x / 2 ^ field_bits / 2 ^ field_bits; token = t; size = x % 2 ^ field_bits }) d
    ∙ ap (λ (z : ℕ). record { kind = z / 2 ^ field_bits / 2 ^ field_bits; token = word_at w (z / 2 ^ field_bits % 2 ^ field_bits); size = z % 2 ^ field_bits }) e
