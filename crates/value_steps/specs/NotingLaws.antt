-- A definition's note is written in place of its body's; a set is copied behind the kept ones.
use Rattle.std.specs.Prelude.{ℕ, ◌+◌, ◌*◌, ◌≤◌, ◌<◌, List, ◌≡◌, refl, length, get_or, set}
use Rattle.std.proofs.Common.{sym, ap, ◌∙◌, subst, arith, add-zero, length-set, get_or-set_same, get_or-set_other, drop-set-lt}
use Rattle.std.proofs.Math.Decide.{ℕ_discrete}
use Rattle.language.specs.Limits.{max_names}
use Rattle.language.specs.DeclaredNames.{Declared}
use Rattle.language.specs.Tree.{Expr}
use Rattle.language.specs.Expansion.{Context}
use Rattle.memory_sets.specs.Places.{Copied}
use Rattle.name_values.specs.World.{Meaning, Stands, Defines, World, meaning_at}
use Rattle.operands.specs.Working.{Source}
use Rattle.machine.specs.Fields.{note_number, note_address, note_mark}
use Rattle.machine.specs.Realm.{Realm}
use Rattle.machine.specs.Memory.{Regions, note_words, first_kept, free_word, slots_word, note_at, free_of, Agree}
use Rattle.machine.specs.MemoryLaws.{agree_then, word_of, agree_keeps}
use Rattle.machine.specs.Notes.{Fact, Noted, Lasts, Lasting}
use Rattle.machine.specs.FactLaws.{fact_keeps}
use Rattle.value_steps.specs.Named.{noting}

-- the note of r is another, all others stay
pub record Renoted (z : Regions) (mem mem' : List ℕ) (r sort n a mark : ℕ) : Type 0 where
  pub agree : (d top at : ℕ) → z.slots ≤ at → Agree z mem mem' d top at
  pub sort_is : note_at mem' r 0 ≡ sort
  pub number_is : note_at mem' r note_number ≡ n
  pub address_is : note_at mem' r note_address ≡ a
  pub mark_is : note_at mem' r note_mark ≡ mark
  pub others : (q j : ℕ) → q < max_names → j < note_words → (q ≡ r → ⊥) → note_at mem' q j ≡ note_at mem q j
  pub within : free_of mem' ≤ z.slots
  pub slots : get_or mem' slots_word 0 ≡ get_or mem slots_word 0

-- a definition is no signal
defined_else : {v : Meaning} {n : ℕ} {c : Context} {e : Expr} {d : Declared} → v ≡ Defines n c e → v ≡ Stands d → ⊥
defined_else p q = let y : ◌≡◌ {A = ℕ} 0 1 = cc in omega arith

module _ {z : Regions} {mem mem' : List ℕ} {r sort n a mark : ℕ} (w : Renoted z mem mem' r sort n a mark) where
  pub renoted_lasting : {W : World} {table : List ℕ} {at : ℕ} → ((mark ≡ 0 → ⊥) → Lasts W table at r mark) → Lasting W mem table at → Lasting W mem' table at
  renoted_lasting {W} {table} {at} own x = record { lasts = λ q l d. go q l d (ℕ_discrete q r) }
    where
      go : (q : ℕ) → q < max_names → (note_at mem' q note_mark ≡ 0 → ⊥) → Dec (q ≡ r) → Lasts W table at q (note_at mem' q note_mark)
      go q l d (yes e) =
          let i = ap (λ (j : ℕ). note_at mem' j note_mark) e ∙ w.mark_is in
          subst (λ (j : ℕ). Lasts W table at j (note_at mem' j note_mark)) (sym e) (subst (Lasts W table at r) (sym w.mark_is) (own (λ y. d (i ∙ y))))
      go q l d (no e) = let i = w.others q 3 l (omega arith) e in subst (Lasts W table at q) (sym i) (x.lasts q l (λ y. d (i ∙ y)))

  pub renoted_noted : {s : Source} {R : Realm s} {index k : ℕ} {c : Context} {e : Expr} → meaning_at R.W r ≡ Defines k c e → Fact s mem' (meaning_at R.W r) sort n a → Noted R z index mem
      → Noted R z index mem'
  renoted_noted {s} {R} means f h =
      let ag = w.agree 0 0 z.slots (omega arith) in
      let m = ag.more in
      let b = h.first in
      record {
        facts = λ q l. fact q l (ℕ_discrete q r);
        signals = λ y. let g = h.signals y in record {
          single = λ q l d. let e = w.others q 2 l (omega arith) (λ i. defined_else means (sym (ap (meaning_at R.W) i) ∙ d)) in let u = g.single q l d in (e ∙ u.0, (let v = u.1 in omega arith));
          bus = λ q c l d. let e = w.others q 2 l (omega arith) (λ i. defined_else means (sym (ap (meaning_at R.W) i) ∙ d)) in let u = g.bus q c l d in (e ∙ u.0, (let v = u.1 in omega arith));
        };
        first = omega arith;
        within = w.within;
        slots_word_lem = w.slots ∙ h.slots_word_lem;
        ascending = h.ascending;
      }
    where
      fact : (q : ℕ) → q < max_names → Dec (q ≡ r) → Fact s mem' (meaning_at R.W q) (note_at mem' q 0) (note_at mem' q note_number) (note_at mem' q note_address)
      fact q l (yes e) = subst (λ (i : ℕ). Fact s mem' (meaning_at R.W i) (note_at mem' i 0) (note_at mem' i note_number) (note_at mem' i note_address)) (sym e)
          (subst (λ (i : ℕ). Fact s mem' (meaning_at R.W r) i (note_at mem' r note_number) (note_at mem' r note_address)) (sym w.sort_is)
          (subst (λ (i : ℕ). Fact s mem' (meaning_at R.W r) sort i (note_at mem' r note_address)) (sym w.number_is)
          (subst (λ (i : ℕ). Fact s mem' (meaning_at R.W r) sort n i) (sym w.address_is) f)))
      fact q l (no e) =
          subst (λ (i : ℕ). Fact s mem' (meaning_at R.W q) i (note_at mem' q note_number) (note_at mem' q note_address)) (sym (w.others q 0 l (omega arith) e))
          (subst (λ (i : ℕ). Fact s mem' (meaning_at R.W q) (note_at mem q 0) i (note_at mem' q note_address)) (sym (w.others q 1 l (omega arith) e))
          (subst (λ (i : ℕ). Fact s mem' (meaning_at R.W q) (note_at mem q 0) (note_at mem q note_number) i) (sym (w.others q 2 l (omega arith) e)) (fact_keeps (agree_keeps (w.agree 0 0 z.slots (omega arith))) (h.facts q l))))

module _ (mem : List ℕ) (r sort n a : ℕ) (l : r < max_names) (fits : first_kept ≤ length mem) where
  abbrev one : List ℕ
  one = set mem (note_words * r) sort

  abbrev two : List ℕ
  two = set one (note_words * r + 1) n

  elsewhere : (i : ℕ) → (i ≡ note_words * r → ⊥) → (i ≡ note_words * r + 1 → ⊥) → (i ≡ note_words * r + 2 → ⊥) → get_or (noting mem r sort n a) i 0 ≡ get_or mem i 0
  elsewhere i x y u =
      get_or-set_other two (note_words * r + 2) i a 0 (λ e. u e) ∙ get_or-set_other one (note_words * r + 1) i n 0 (λ e. y e) ∙ get_or-set_other mem (note_words * r) i sort 0 (λ e. x e)

  pub past_notes : (i : ℕ) → free_word ≤ i → get_or (noting mem r sort n a) i 0 ≡ get_or mem i 0
  past_notes i h = elsewhere i (λ e. omega arith) (λ e. omega arith) (λ e. omega arith)

  noting-length : length (noting mem r sort n a) ≡ length mem
  noting-length = length-set two (note_words * r + 2) a ∙ length-set one (note_words * r + 1) n ∙ length-set mem (note_words * r) sort

  pub noting_renoted : {z : Regions} → first_kept ≤ z.slots → z.slots ≤ z.floor → free_of mem ≤ z.slots → Renoted z mem (noting mem r sort n a) r sort n a (note_at mem r note_mark)
  noting_renoted {z} p q f =
      let x = length-set mem (note_words * r) sort in
      let y = length-set one (note_words * r + 1) n in
      let first : note_words * r + 0 ≡ note_words * r = add-zero (note_words * r) in
      let free = past_notes free_word (omega arith) in
      record {
        agree = λ d top at u. record {
          len = noting-length;
          more = omega arith;
          kept = λ i j k. past_notes i (omega arith);
          slots = λ i j k. past_notes i (omega arith);
          values = λ i j k. past_notes i (omega arith);
          frames = drop-set-lt at two (note_words * r + 2) a (omega arith) ∙ drop-set-lt at one (note_words * r + 1) n (omega arith) ∙ drop-set-lt at mem (note_words * r) sort (omega arith);
        };
        sort_is = ap (λ (i : ℕ). get_or (noting mem r sort n a) i 0) first ∙ get_or-set_other two (note_words * r + 2) (note_words * r) a 0 (λ e. omega arith)
            ∙ get_or-set_other one (note_words * r + 1) (note_words * r) n 0 (λ e. omega arith) ∙ get_or-set_same mem (note_words * r) sort 0 (omega arith);
        number_is = get_or-set_other two (note_words * r + 2) (note_words * r + 1) a 0 (λ e. omega arith) ∙ get_or-set_same one (note_words * r + 1) n 0 (omega arith);
        address_is = get_or-set_same two (note_words * r + 2) a 0 (omega arith);
        mark_is = elsewhere (note_words * r + 3) (λ e. omega arith) (λ e. omega arith) (λ e. omega arith);
        others = λ q j k i e. elsewhere (note_words * q + j) (λ u. e (omega arith)) (λ u. e (omega arith)) (λ u. e (omega arith));
        within = omega arith;
        slots = past_notes slots_word (omega arith);
      }

-- its mark alone
abbrev pub marking : List ℕ → (r mark : ℕ) → List ℕ
marking mem r mark = set mem (note_words * r + 3) mark

pub marking_renoted : (mem : List ℕ) (r mark : ℕ) → r < max_names → first_kept ≤ length mem → {z : Regions} → first_kept ≤ z.slots → z.slots ≤ z.floor → free_of mem ≤ z.slots
    → Renoted z mem (marking mem r mark) r (note_at mem r 0) (note_at mem r note_number) (note_at mem r note_address) mark
marking_renoted mem r mark l fits {z} p q f =
    record {
      agree = λ d top at u. record {
        len = length-set mem (note_words * r + 3) mark;
        more = let e = elsewhere free_word (λ e. omega arith) in omega arith;
        kept = λ i j k. elsewhere i (λ e. omega arith);
        slots = λ i j k. elsewhere i (λ e. omega arith);
        values = λ i j k. elsewhere i (λ e. omega arith);
        frames = drop-set-lt at mem (note_words * r + 3) mark (omega arith);
      };
      sort_is = elsewhere (note_words * r + 0) (λ e. omega arith);
      number_is = elsewhere (note_words * r + 1) (λ e. omega arith);
      address_is = elsewhere (note_words * r + 2) (λ e. omega arith);
      mark_is = get_or-set_same mem (note_words * r + 3) mark 0 (omega arith);
      others = λ q j k i e. elsewhere (note_words * q + j) (λ u. e (omega arith));
      within = let e = elsewhere free_word (λ e. omega arith) in omega arith;
      slots = elsewhere slots_word (λ e. omega arith);
    }
  where
    elsewhere : (i : ℕ) → (i ≡ note_words * r + 3 → ⊥) → get_or (marking mem r mark) i 0 ≡ get_or mem i 0
    elsewhere i h = get_or-set_other mem (note_words * r + 3) i mark 0 (λ e. h e)

-- a set of n elements is copied behind the kept ones, which are more then
module _ {mem mem₁ : List ℕ} {from n : ℕ} (c : Copied mem from mem mem₁ (free_of mem) n) {z : Regions} (first : first_kept ≤ free_of mem) (room : free_of mem + n ≤ z.slots) (floor : z.slots ≤ z.floor)
    (fits : first_kept ≤ length mem) where
  abbrev grown : List ℕ
  grown = set mem₁ free_word (free_of mem + n)

  pub grown-fits : first_kept ≤ length grown
  grown-fits = let e = length-set mem₁ free_word (free_of mem + n) in let f = c.kept.len in omega arith

  pub grown_free : free_of grown ≡ free_of mem + n
  grown_free = let e = c.kept.len in get_or-set_same mem₁ free_word (free_of mem + n) 0 (omega arith)

  grown-below : (i : ℕ) → i < free_of mem → (i ≡ free_word → ⊥) → get_or grown i 0 ≡ get_or mem i 0
  grown-below i l h = get_or-set_other mem₁ free_word i (free_of mem + n) 0 (λ e. h e) ∙ c.kept.below i l

  grown-above : (i : ℕ) → free_of mem + n ≤ i → get_or grown i 0 ≡ get_or mem i 0
  grown-above i l =
      let at = add-zero i in
      get_or-set_other mem₁ free_word i (free_of mem + n) 0 (λ e. omega arith) ∙ ap (λ (j : ℕ). get_or mem₁ j 0) (sym at) ∙ word_of mem₁ i 0 (c.kept.above i l) ∙ sym (word_of mem i 0 refl)
      ∙ ap (λ (j : ℕ). get_or mem j 0) at

  grown-agrees : (d top at : ℕ) → z.slots ≤ at → Agree z mem grown d top at
  grown-agrees d top at u =
      let e = grown_free in
      record {
        len = length-set mem₁ free_word (free_of mem + n) ∙ c.kept.len;
        more = omega arith;
        kept = λ i j k. grown-below i k (λ q. omega arith);
        slots = λ i j k. grown-above i (omega arith);
        values = λ i j k. grown-above i (omega arith);
        frames = drop-set-lt at mem₁ free_word (free_of mem + n) (omega arith) ∙ c.kept.above at (omega arith);
      }

  -- its words
  pub grown-word : (i : ℕ) → i < n → get_or grown (free_of mem + i) 0 ≡ get_or mem (from + i) 0
  grown-word i l = get_or-set_other mem₁ free_word (free_of mem + i) (free_of mem + n) 0 (λ e. omega arith) ∙ c.words i l

  pub grown_renoted : (r sort k a : ℕ) → r < max_names → Renoted z mem (noting grown r sort k a) r sort k a (note_at mem r note_mark)
  grown_renoted r sort k a l =
      let e = grown_free in
      let ag = grown-agrees 0 0 z.slots (omega arith) in
      let le = ag.len in
      let w = noting_renoted grown r sort k a l (omega arith) {z = z} (omega arith) floor (omega arith) in
      record {
        agree = λ d top at u. agree_then (grown-agrees d top at u) (w.agree d top at u);
        sort_is = w.sort_is;
        number_is = w.number_is;
        address_is = w.address_is;
        mark_is = w.mark_is ∙ grown-below (note_words * r + 3) (omega arith) (λ q. omega arith);
        others = λ q j i u h. w.others q j i u h ∙ grown-below (note_words * q + j) (omega arith) (λ y. omega arith);
        within = w.within;
        slots = w.slots ∙ grown-below slots_word (omega arith) (λ q. omega arith);
      }
