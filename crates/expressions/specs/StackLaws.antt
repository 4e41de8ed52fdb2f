-- One step of the stack each: past a token, a slot pushed, a slot popped, an entry written. No grammar shows.
use Rattle.std.specs.Prelude.{ℕ, zero, suc, ◌+◌, ◌-◌, ◌≤◌, ◌<◌, ◌^◌, List, [], ◌∷◌, ◌++◌, ◌≡◌, length}
use Rattle.std.proofs.Common.{arith, sym, ap, ◌∙◌, subst, length-append}
use Rattle.std.proofs.Math.Option.{Option}
use Rattle.node.specs.BitFields.{above, below}
use Rattle.node.proofs.FieldLaws.{above_join, below-join}
use Rattle.words.specs.Words.{word_at, put_word}
use Rattle.words.specs.WordLaws.{word_same, word_other}
use Rattle.language.specs.Tokens.{Token}
use Rattle.language.specs.Grammar.{Tokens}
use Rattle.language.specs.Limits.{max_tokens}
use Rattle.entries.specs.Kinds as Kind
use Rattle.entries.specs.Flat.{Entry}
use Rattle.entries.specs.Stored.{first_entry, field_bits, entry_word, put_entry, Keeps, EntryAt, EntriesFrom}
use Rattle.entries.specs.StoredLaws.{entry-put, entries-kept, entries-append, entries-right, under-size}
use Rattle.entries.specs.Cursors.{next_of, emitted_of}
use Rattle.entries.specs.CursorLaws.{ready-next}
use Rattle.entries.specs.Reads.{Kept}
use Rattle.entries.specs.ReadsLaws.{kept_put, ready-kept, ready_emitted}
use Rattle.entries.specs.declared.Cursor.{Cursor}
use Rattle.operators.specs.Fields.{level_bits}
use Rattle.expressions.specs.Stack.{slot_word, slot_class, slot_level, slot_index, put_slot, top_slot, Slot, Follow, SlotAt, SlotsAt, Stacked, Rooted, size_at, start_of, Trees, last_word, stack_top, class_bits}

-- what a slot's word holds
module _ {w : List ℕ} {ts : Tokens} {depth : ℕ} {slot : Slot} (h : SlotAt w ts depth slot) where
  pub slot_class_lem : slot_class (top_slot w depth) ≡ slot.class
  slot_class_lem = ap slot_class h.word ∙ ap (above level_bits) (above_join field_bits _ h.index-fits) ∙ above_join level_bits slot.class h.level_fits

  pub slot_level_lem : slot_level (top_slot w depth) ≡ slot.level
  slot_level_lem = ap slot_level h.word ∙ ap (below level_bits) (above_join field_bits _ h.index-fits) ∙ below-join level_bits slot.class h.level_fits

  pub slot_index_lem : slot_index (top_slot w depth) ≡ h.index
  slot_index_lem = ap slot_index h.word ∙ below-join field_bits _ h.index-fits

-- slots stay where their words do
slots_kept : (w v : List ℕ) (ts : Tokens) (depth : ℕ) (slots : List Slot) → ((d : ℕ) → 0 < d → d ≤ depth → top_slot v d ≡ top_slot w d) → SlotsAt w ts depth slots → SlotsAt v ts depth slots
slots_kept w v ts depth [] s h = h
slots_kept w v ts depth (slot ∷ slots) s h =
    let k = h.0 in (
      record {
        index = k.index;
        deep = k.deep;
        word = s depth k.deep (omega arith) ∙ k.word;
        tokens = k.tokens;
        index-fits = k.index-fits;
        class-fits = k.class-fits;
        level_fits =
            k.level_fits;
      },
      slots_kept w v ts (depth - 1) slots (λ d l r. s d l (omega arith)) h.1,
    )

module _ {ts : Tokens} {s : Cursor} {w : List ℕ} {c : Cursor} {depth : ℕ} {slots : List Slot} {es : List Entry} {n : ℕ} (h : Stacked ts s w c depth slots es n) where
  -- entries and slots do not meet
  pub stacked_apart : c.out + depth + n < c.at
  stacked_apart = omega (arith, h.room, h.begun, h.further)

  pub stacked_few : c.at ≤ max_tokens
  stacked_few = omega (arith, h.ready.fits.few, h.ready.fits.inside)

  pub stacked_less : (m : ℕ) → m ≤ n → Stacked ts s w c depth slots es m
  stacked_less m l =
      record { ready = h.ready; begun = h.begun; count = h.count; end = h.end; further = h.further; room = omega (arith, h.room); slots_at = h.slots_at; entries = h.entries; out = h.out }

  -- past a token
  pub stacked_next : c.at < c.count → Stacked ts s w (next_of c) depth slots es (suc n)
  stacked_next l =
      record {
        ready = ready-next h.ready l;
        begun = h.begun;
        count = h.count;
        end = h.end;
        further = omega (arith, h.further);
        room = omega (arith, h.room);
        slots_at = h.slots_at;
        entries = h.entries;
        out = h.out;
      }

  -- one slot less
  pub stacked_pop : (slot : Slot) (below : List Slot) → slots ≡ slot ∷ below → Stacked ts s w c (depth - 1) below es (suc n)
  stacked_pop slot below e =
      let all : SlotsAt w ts depth (slot ∷ below) = subst (SlotsAt w ts depth) e h.slots_at in
      let deep = all.0.deep in
      record { ready = h.ready; begun = h.begun; count = h.count; end = h.end; further = h.further; room = omega (arith, h.room); slots_at = all.1; entries = h.entries; out = h.out }

module _ {ts : Tokens} {s : Cursor} {w : List ℕ} {c : Cursor} {depth : ℕ} {slots : List Slot} {es : List Entry} {n : ℕ} (h : Stacked ts s w c depth slots es (suc n)) where
  -- one slot more
  pub stacked_push : (slot : Slot) (j : ℕ) → Follow ts j (slot.token ∷ slot.next) → j < max_tokens → slot.class < 2 ^ class_bits → slot.level < 2 ^ level_bits
      → Stacked ts s (put_slot w depth slot.class slot.level j) c (depth + 1) (slot ∷ slots) es n
  stacked_push slot j follow small hk hl =
      let apart = stacked_apart h in
      let few = stacked_few h in
      let x = slot_word slot.class slot.level j in
      let v = put_word w (last_word - depth) x in
      let room = h.ready.fits.room in
      let kept : Kept w v c.out = kept_put w c.out (last_word - depth) x (omega arith) (omega arith) in
      record {
        ready = ready-kept kept h.ready;
        begun = h.begun;
        count = h.count;
        end = h.end;
        further = h.further;
        room = omega (arith, h.room);
        slots_at = (
          record {
            index = j;
            deep = omega arith;
            word = ap (word_at v) (omega arith) ∙ word_same w (last_word - depth) x (omega arith) (omega arith);
            tokens = follow;
            index-fits = small;
            class-fits =
                hk;
            level_fits = hl;
          },
          subst (λ d. SlotsAt v ts d slots) (omega arith) (slots_kept w v ts depth slots (λ d l r. word_other w (last_word - depth) x (stack_top - d) (omega arith)) h.slots_at),
        );
        entries = entries-kept w v ts s.out es (λ i l r. kept.words (first_entry + i) (omega (arith, h.out))) h.entries;
        out = h.out;
      }

  -- one entry more
  pub stacked_emit : (k j m : ℕ) (t : Option Token) → Keeps ts j t → k < Kind.limit → j < max_tokens → m < max_tokens
      → Stacked ts s (put_entry w c.out k j m) (emitted_of c) depth slots (es ++ (record { kind = k; token = t; size = m } ∷ [])) n
  stacked_emit k j m t keeps hk hj hm =
      let apart = stacked_apart h in
      let few = stacked_few h in
      let e : Entry = record { kind = k; token = t; size = m } in
      let v = put_entry w c.out k j m in
      let room = h.ready.fits.room in
      let kept : Kept w v c.out = kept_put w c.out (first_entry + c.out) (entry_word k j m) (omega arith) (omega arith) in
      record {
        ready = ready_emitted k j m h.ready (omega arith);
        begun = h.begun;
        count = h.count;
        end = h.end;
        further = h.further;
        room = omega (arith, h.room);
        slots_at = slots_kept w v ts depth slots (λ d l r. word_other w (first_entry + c.out) (entry_word k j m) (stack_top - d) (omega arith)) h.slots_at;
        entries =
            entries-append v ts s.out es (e ∷ []) (entries-kept w v ts s.out es (λ i l r. kept.words (first_entry + i) (omega (arith, h.out))) h.entries)
            (subst (λ i. EntryAt v ts i e) h.out (entry-put w ts c.out k j m t room (omega arith) hk hj hm keeps), tt);
        out = let l = length-append es (e ∷ []) in omega (arith, h.out);
      }

-- the last tree of the entries
module _ (w : List ℕ) (ts : Tokens) (o out : ℕ) (P A : List Entry) (rooted : Rooted A) (at : out ≡ o + length (P ++ A)) (entries : EntriesFrom w ts o (P ++ A)) where
  whole : out ≡ o + (length P + length A)
  whole = let l = length-append P A in omega arith

  some_entry : 0 < length A
  some_entry = let l = ap length rooted.3 in let m = length-append rooted.2 (record { kind = rooted.0; token = rooted.1; size = suc (length rooted.2) } ∷ []) in omega arith

  last-size : size_at w out ≡ length A
  last-size =
      let some = some_entry in
      let all = whole in
      under-size rooted.0 rooted.1 rooted.2
      (record { start = o + length P; size = (let l = ap length rooted.3 in omega arith); entries = subst (EntriesFrom w ts (o + length P)) rooted.3 (entries-right w ts o P A entries) })
      ∙ ap length (sym rooted.3)

  -- where it begins
  pub last-start : out - size_at w out ≡ o + length P
  last-start = let size = last-size in let all = whole in omega arith

  pub trees_more : (n : ℕ) → Trees w (o + length P) n → Trees w out (suc n)
  trees_more n h =
      let size = last-size in
      let all = whole in
      let some = some_entry in
      (omega arith, omega arith, subst (λ i. Trees w i n) (sym last-start) h)

  pub start-more : (n : ℕ) → start_of w out (suc n) ≡ start_of w (o + length P) n
  start-more n = ap (λ i. start_of w i n) last-start

-- one tree less
pub trees_first : (w : List ℕ) (out n : ℕ) → 0 < n → Trees w out n → (0 < out) × (size_at w out ≤ out) × Trees w (out - size_at w out) (n - 1)
trees_first w out zero l h = absurd (omega arith)
trees_first w out (suc n) l h = let e : n ≡ suc n - 1 = omega arith in (h.0, h.1, subst (Trees w (out - size_at w out)) e h.2)

pub start_first : (w : List ℕ) (out n : ℕ) → 0 < n → start_of w out n ≡ start_of w (out - size_at w out) (n - 1)
start_first w out zero l = absurd (omega arith)
start_first w out (suc n) l = let e : n ≡ suc n - 1 = omega arith in ap (start_of w (out - size_at w out)) e

pub start_none : (w : List ℕ) (out n : ℕ) → n ≡ 0 → start_of w out n ≡ out
start_none w out n e = ap (start_of w out) e
