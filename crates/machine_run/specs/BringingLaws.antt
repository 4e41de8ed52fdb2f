-- Notes are brought back one by one; then kept sets, then a set that has come.
use Rattle.std.specs.Prelude.{ℕ, suc, ◌+◌, ◌-◌, ◌*◌, ◌≤◌, ◌<◌, List, ◌≡◌, refl, get_or, drop}
use Rattle.std.proofs.Common.{sym, ap, ◌∙◌, arith, add-zero, get_or-drop}
use Rattle.std.proofs.Math.Decide.{dec_lt}
use Rattle.language.specs.Limits.{max_names}
use Rattle.name_values.specs.Sorts as Sort
use Rattle.memory_sets.specs.Places.{Copied}
use Rattle.machine.specs.Memory.{note_words, free_word, slots_word, note_at}
use Rattle.machine.specs.Telling.{is_set}
use Rattle.machine.specs.declared.Machine.{Machine}
use Rattle.machine_run.specs.Bringing.{NoteBrought, Renoted, returned, Bringable, Brought}

-- a word behind
pub word-behind : (mem mem' : List ℕ) (i : ℕ) → drop i mem' ≡ drop i mem → get_or mem' i 0 ≡ get_or mem i 0
word-behind mem mem' i e =
    let z = add-zero i in
    ap (λ (j : ℕ). get_or mem' j 0) (sym z) ∙ sym (get_or-drop i mem' 0 0) ∙ ap (λ (l : List ℕ). get_or l 0 0) e ∙ get_or-drop i mem 0 0 ∙ ap (λ (j : ℕ). get_or mem j 0) z

module _ {source mem : List ℕ} {r : ℕ} where
  -- no body: the note stays
  pub note_stays : {i : ℕ} → i ≡ note_words * r → (get_or mem i 0 ≡ Sort.body → ⊥) → NoteBrought source mem mem r
  note_stays {i} e f = record {
    len = refl;
    body = λ b. absurd (f (ap (λ (j : ℕ). get_or mem j 0) (e ∙ sym (add-zero (note_words * r))) ∙ b));
    other = λ b j l. refl;
    below = λ j l. refl;
    above = λ j l. refl;
  }

  pub note_comes : {mem' : List ℕ} {i : ℕ} → i ≡ note_words * r → get_or mem i 0 ≡ Sort.body → Copied source i mem mem' i note_words → NoteBrought source mem mem' r
  note_comes {i = i} e b c = record {
    len = c.kept.len;
    body = λ z j l. (rw e at (c.words j l));
    other = λ f. absurd (f (ap (λ (j : ℕ). get_or mem j 0) (add-zero (note_words * r) ∙ sym e) ∙ b));
    below = λ j l. c.kept.below j (omega arith);
    above = λ j l. c.kept.above j (omega arith);
  }

pub renoted_none : (source mem : List ℕ) → Renoted source mem mem 0
renoted_none source mem = record { len = refl; body = λ r l. absurd (omega arith); other = λ r l. absurd (omega arith); above = λ i l. refl }

module _ {source mem mem₁ mem' : List ℕ} {n : ℕ} (h : Renoted source mem mem₁ n) (c : NoteBrought source mem₁ mem' n) where
  note_before : (r j : ℕ) → r < n → j < note_words → note_at mem' r j ≡ note_at mem₁ r j
  note_before r j l k = c.below (note_words * r + j) (omega arith)

  note_same : (j : ℕ) → note_at mem₁ n j ≡ note_at mem n j
  note_same j = word-behind mem mem₁ (note_words * n + j) (h.above (note_words * n + j) (omega arith))

  pub renoted_more : Renoted source mem mem' (suc n)
  renoted_more = record {
    len = c.len ∙ h.len;
    body = λ r l b j k. go r l b j k (dec_lt r n);
    other = λ r l b j k. go' r l b j k (dec_lt r n);
    above = λ i l. c.above i (omega arith) ∙ h.above i (omega arith);
  }
    where
      go : (r : ℕ) → r < suc n → note_at mem r 0 ≡ Sort.body → (j : ℕ) → j < note_words → Dec (r < n) → note_at mem' r j ≡ note_at source r j
      go r l b j k (yes y) = note_before r j y k ∙ h.body r y b j k
      go r l b j k (no y) = let e : r ≡ n = omega arith in rw e (c.body (note_same 0 ∙ (rw e at b)) j k)

      go' : (r : ℕ) → r < suc n → (note_at mem r 0 ≡ Sort.body → ⊥) → (j : ℕ) → j < note_words → Dec (r < n) → note_at mem' r j ≡ note_at mem r j
      go' r l b j k (yes y) = note_before r j y k ∙ h.other r y b j k
      go' r l b j k (no y) = let e : r ≡ n = omega arith in rw e (c.other (λ z. (rw e at b) (sym (note_same 0) ∙ z)) j k ∙ note_same j)

module _ {source mem mem₁ mem₂ : List ℕ} {m n : Machine} {slots count : ℕ} (b : Bringable source mem m n) (es : slots ≡ get_or mem slots_word 0) (ec : count ≡ slots - free_word)
    (h : Renoted source mem mem₁ max_names) (k : Copied source free_word mem₁ mem₂ free_word count) where
  inner_note : (r j : ℕ) → r < max_names → j < note_words → note_at mem₂ r j ≡ note_at mem₁ r j
  inner_note r j l u = k.kept.below (note_words * r + j) (omega arith)

  inner-kept : (i : ℕ) → free_word ≤ i → i < get_or mem slots_word 0 → get_or mem₂ i 0 ≡ get_or source i 0
  inner-kept i l u = let f = b.first in let e : free_word + (i - free_word) ≡ i = omega arith in rw e at (k.words (i - free_word) (omega arith))

  inner-above : (i : ℕ) → get_or mem slots_word 0 ≤ i → drop i mem₂ ≡ drop i mem
  inner-above i l = let f = b.first in k.kept.above i (omega arith) ∙ h.above i (omega arith)

  -- no set has come
  pub brought_other : {r : Machine} → (n.mode ≡ is_set → ⊥) → r ≡ returned m n n.from → Brought source mem mem₂ m n r
  brought_other f e = record {
    len = k.kept.len ∙ h.len;
    from = n.from;
    next = e;
    body = λ r l z j u. inner_note r j l u ∙ h.body r l z j u;
    other = λ r l z j u. inner_note r j l u ∙ h.other r l z j u;
    kept = inner-kept;
    between = λ i l u. word-behind mem mem₂ i (inner-above i l);
    above = λ i l. let v = b.values in inner-above i (omega arith);
    set-from = λ z. absurd (f z);
    set = λ z. absurd (f z);
    same_from = λ z. refl;
  }

  -- a set has come
  pub brought_set : {mem' : List ℕ} {r : Machine} {v : ℕ} → n.mode ≡ is_set → v ≡ n.value → Copied source n.from mem₂ mem' m.top v → r ≡ returned m n m.top → Brought source mem mem' m n r
  brought_set {mem'} {v = v} f ev c e =
      let fi = b.first in
      let va = b.values in
      let fe = b.few f in
      record {
        len = c.kept.len ∙ k.kept.len ∙ h.len;
        from = m.top;
        next = e;
        body = λ r l z j u. c.kept.below (note_words * r + j) (omega arith) ∙ inner_note r j l u ∙ h.body r l z j u;
        other = λ r l z j u. c.kept.below (note_words * r + j) (omega arith) ∙ inner_note r j l u ∙ h.other r l z j u;
        kept = λ i l u. c.kept.below i (omega arith) ∙ inner-kept i l u;
        between = λ i l u. c.kept.below i u ∙ word-behind mem mem₂ i (inner-above i l);
        above = λ i l. c.kept.above i (omega arith) ∙ inner-above i (omega arith);
        set-from = λ z. refl;
        set = λ z i l. c.words i (omega arith);
        same_from = λ z. absurd (z f);
      }
