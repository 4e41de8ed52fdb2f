-- The loop that chooses, entry by entry.
use Rattle.std.specs.Prelude.{ℕ, suc, ◌+◌, ◌≤◌, ◌<◌, true, false, List, [], ◌∷◌, ◌≡◌, refl, eqb, length, set}
use Rattle.std.proofs.Common.{sym, ap, ◌∙◌, subst, add-one, arith, eq-eqb, ne_eqb}
use Rattle.std.proofs.lemmas.List.Edits.{sets}
use Rattle.words.specs.Words.{word_at}
use Rattle.language.specs.Grammar.{Tokens}
use Rattle.language.proofs.Laws.Basics.Tests.{pick, leave}
use Rattle.entries.specs.Headings.{no_heading}
use Rattle.entries.specs.Kinds as Kind
use Rattle.entries.specs.Flat.{Entry}
use Rattle.entries.specs.Stored.{first_entry, kind_of, size_of, EntryAt, EntriesFrom}
use Rattle.entries.specs.StoredLaws.{entry-kind, entry-size}
use Rattle.notes.specs.Chosen.{Choice, takes, chosen}
use Rattle.notes.specs.Choosing.{Chooses}

module _ (w : List ℕ) (ts : Tokens) (entries : ℕ) (c : Choice) (es : List Entry) (old : List ℕ) (from : ℕ) where
  -- the entries from i on are still to be looked at
  pub record Choosing (heading i at : ℕ) (order : List ℕ) : Type 0 where
    pub left : List Entry
    pub there : EntriesFrom w ts i left
    pub total : i + length left ≡ entries
    pub stored : sets old from (chosen c no_heading 0 es) ≡ sets order at (chosen c heading i left)
    pub end : from + length (chosen c no_heading 0 es) ≡ at + length (chosen c heading i left)

  pub choosing_starts : EntriesFrom w ts 0 es → length es ≡ entries → Choosing no_heading 0 from old
  choosing_starts h t = record { left = es; there = h; total = omega arith; stored = refl; end = refl }

  -- one entry
  module _ (heading i at : ℕ) (order : List ℕ) (inside : i < entries) (g : Choosing heading i at order) where
    abbrev word : ℕ
    word = word_at w (first_entry + i)

    choosing-by : (P : ℕ → ℕ → List ℕ → Type 0) → ((n : Entry) (rest : List Entry) → EntryAt w ts i n → EntriesFrom w ts (suc i) rest → suc i + length rest ≡ entries
        → sets old from (chosen c no_heading 0 es) ≡ sets order at (chosen c heading i (n ∷ rest)) → from + length (chosen c no_heading 0 es) ≡ at + length (chosen c heading i (n ∷ rest))
        → (heading' at' : ℕ) (order' : List ℕ) → P heading' at' order') → (heading' at' : ℕ) (order' : List ℕ) → P heading' at' order'
    choosing-by P f heading' at' order' = go g.left g.there g.total g.stored g.end
      where
        go : (left : List Entry) → EntriesFrom w ts i left → i + length left ≡ entries → sets old from (chosen c no_heading 0 es) ≡ sets order at (chosen c heading i left)
            → from + length (chosen c no_heading 0 es) ≡ at + length (chosen c heading i left) → P heading' at' order'
        go [] h t a b = absurd (omega arith)
        go (n ∷ rest) h t a b = f n rest h.0 h.1 (omega arith) a b heading' at' order'

    next : (heading' at' : ℕ) (order' : List ℕ) → ((n : Entry) (rest : List Entry) → EntryAt w ts i n
        → (sets order at (chosen c heading i (n ∷ rest)) ≡ sets order' at' (chosen c heading' (suc i) rest)) ×
        (at + length (chosen c heading i (n ∷ rest)) ≡ at' + length (chosen c heading' (suc i) rest))) → Choosing heading' (i + 1) at' order'
    next heading' at' order' f =
        subst (λ k. Choosing heading' k at' order') (sym (add-one i))
        (choosing-by (λ heading' at' order'. ((n : Entry) (rest : List Entry) → EntryAt w ts i n
        → (sets order at (chosen c heading i (n ∷ rest)) ≡ sets order' at' (chosen c heading' (suc i) rest)) ×
        (at + length (chosen c heading i (n ∷ rest)) ≡ at' + length (chosen c heading' (suc i) rest))) → Choosing heading' (suc i) at' order')
        (λ n rest h k t a b heading' at' order' f. let s = f n rest h in record { left = rest; there = k; total = t; stored = a ∙ s.0; end = b ∙ s.1 }) heading' at' order' f)

    pub choosing-heading : (size : ℕ) → kind_of word ≡ Kind.heading → size ≡ size_of word → Choosing size (i + 1) at order
    choosing-heading size k z =
        next size at order (λ n rest h.
        let e : chosen c heading i (n ∷ rest) ≡ chosen c size (suc i) rest = pick (eqb n.kind Kind.heading) _ _ (eq-eqb n.kind Kind.heading (sym (entry-kind h) ∙ k)) ∙ ap
        (λ s. chosen c s (suc i) rest) (sym (entry-size h) ∙ sym z) in
        (ap (sets order at) e, ap (λ l. at + length l) e))

    module _ (line : kind_of word ≡ Kind.heading → ⊥) where
      other : (n : Entry) → EntryAt w ts i n → eqb n.kind Kind.heading ≡ false
      other n h = ne_eqb n.kind Kind.heading (λ e. line (entry-kind h ∙ e))

      pub choosing-skip : takes c heading (kind_of word) ≡ false → Choosing heading (i + 1) at order
      choosing-skip k =
          next heading at order (λ n rest h.
          let e : chosen c heading i (n ∷ rest) ≡ chosen c heading (suc i) rest = leave (eqb n.kind Kind.heading) _ _ (other n h) ∙ leave (takes c heading n.kind) _ _
          (ap (takes c heading) (sym (entry-kind h)) ∙ k) in
          (ap (sets order at) e, ap (λ l. at + length l) e))

      pub choosing-take : takes c heading (kind_of word) ≡ true → Choosing heading (i + 1) (at + 1) (set order at i)
      choosing-take k =
          next heading (at + 1) (set order at i) (λ n rest h.
          let e : chosen c heading i (n ∷ rest) ≡ i ∷ chosen c heading (suc i) rest = leave (eqb n.kind Kind.heading) _ _ (other n h) ∙ pick (takes c heading n.kind) _ _
          (ap (takes c heading) (sym (entry-kind h)) ∙ k) in
          (ap (sets order at) e ∙ ap (λ j. sets (set order at i) j (chosen c heading (suc i) rest)) (sym (add-one at)), ap (λ l. at + length l) e ∙ omega arith))

  pub choosing_all : (heading i at : ℕ) (order : List ℕ) → entries ≤ i → Choosing heading i at order → Chooses c es old from order at
  choosing_all heading i at order l g = end g.left g.total g.stored g.end
    where
      end : (left : List Entry) → i + length left ≡ entries → sets old from (chosen c no_heading 0 es) ≡ sets order at (chosen c heading i left)
          → from + length (chosen c no_heading 0 es) ≡ at + length (chosen c heading i left) → Chooses c es old from order at
      end [] t a b = record { stored = sym a; end = omega arith }
      end (n ∷ rest) t a b = absurd (omega arith)
