-- Notes are laid one after the other, then the two words after them.
use Rattle.std.specs.Prelude.{ℕ, ◌+◌, ◌*◌, ◌≤◌, ◌<◌, Bool, true, false, List, ◌≡◌, refl, ltb, length, get_or, set}
use Rattle.std.proofs.Common.{sym, ◌∙◌, subst, arith, length-set, get_or-set_same, get_or-set_other, ltb-true, ltb-false}
use Rattle.language.specs.Limits.{max_names}
use Rattle.machine.specs.Memory.{note_words, free_word, slots_word, first_kept, note_at}
use Rattle.memory_notes.specs.Laid.{Laid, last_slots}

-- the note of the name r
record NoteIs (mem : List ℕ) (r sort number first : ℕ) : Type 0 where
  sort_is : note_at mem r 0 ≡ sort
  number_is : note_at mem r 1 ≡ number
  first-is : note_at mem r 2 ≡ first
  unmarked : note_at mem r 3 ≡ 0

-- of the names below i
pub record LaidTo (mem sorts numbers firsts : List ℕ) (i : ℕ) : Type 0 where
  note : (r : ℕ) → r < i → NoteIs mem r (get_or sorts r 0) (get_or numbers r 0) (get_or firsts r 0)

pub laid_none : (mem sorts numbers firsts : List ℕ) → LaidTo mem sorts numbers firsts 0
laid_none mem sorts numbers firsts = record { note = λ r l. absurd (omega arith) }

-- four words from k on
abbrev pub four : List ℕ → (k a b c : ℕ) → List ℕ
four mem k a b c = set (set (set (set mem k a) (k + 1) b) (k + 2) c) (k + 3) 0

module _ (mem : List ℕ) (k a b c : ℕ) (room : k + note_words ≤ length mem) where
  four-first : get_or (four mem k a b c) k 0 ≡ a
  four-first =
      get_or-set_other (set (set (set mem k a) (k + 1) b) (k + 2) c) (k + 3) k 0 0 (λ q. omega arith)
      ∙ get_or-set_other (set (set mem k a) (k + 1) b) (k + 2) k c 0 (λ q. omega arith)
      ∙ get_or-set_other (set mem k a) (k + 1) k b 0 (λ q. omega arith)
      ∙ get_or-set_same mem k a 0 (omega arith)

  four-second : get_or (four mem k a b c) (k + 1) 0 ≡ b
  four-second =
      let l = length-set mem k a in
      get_or-set_other (set (set (set mem k a) (k + 1) b) (k + 2) c) (k + 3) (k + 1) 0 0 (λ q. omega arith)
      ∙ get_or-set_other (set (set mem k a) (k + 1) b) (k + 2) (k + 1) c 0 (λ q. omega arith)
      ∙ get_or-set_same (set mem k a) (k + 1) b 0 (omega arith)

  four-third : get_or (four mem k a b c) (k + 2) 0 ≡ c
  four-third =
      let l = length-set mem k a in
      let m = length-set (set mem k a) (k + 1) b in
      get_or-set_other (set (set (set mem k a) (k + 1) b) (k + 2) c) (k + 3) (k + 2) 0 0 (λ q. omega arith)
      ∙ get_or-set_same (set (set mem k a) (k + 1) b) (k + 2) c 0 (omega arith)

  four-last : get_or (four mem k a b c) (k + 3) 0 ≡ 0
  four-last =
      let l = length-set mem k a in
      let m = length-set (set mem k a) (k + 1) b in
      let n = length-set (set (set mem k a) (k + 1) b) (k + 2) c in
      get_or-set_same (set (set (set mem k a) (k + 1) b) (k + 2) c) (k + 3) 0 0 (omega arith)

  four-before : (i : ℕ) → i < k → get_or (four mem k a b c) i 0 ≡ get_or mem i 0
  four-before i l =
      get_or-set_other (set (set (set mem k a) (k + 1) b) (k + 2) c) (k + 3) i 0 0 (λ q. omega arith)
      ∙ get_or-set_other (set (set mem k a) (k + 1) b) (k + 2) i c 0 (λ q. omega arith)
      ∙ get_or-set_other (set mem k a) (k + 1) i b 0 (λ q. omega arith)
      ∙ get_or-set_other mem k i a 0 (λ q. omega arith)

pub four-length : (mem : List ℕ) (k a b c : ℕ) → length (four mem k a b c) ≡ length mem
four-length mem k a b c =
    length-set (set (set (set mem k a) (k + 1) b) (k + 2) c) (k + 3) 0
    ∙ length-set (set (set mem k a) (k + 1) b) (k + 2) c
    ∙ length-set (set mem k a) (k + 1) b
    ∙ length-set mem k a

-- words below a place stay
note_kept : {mem mem' : List ℕ} {r i a b c : ℕ} → ((k : ℕ) → k < note_words * i → get_or mem' k 0 ≡ get_or mem k 0) → r < i → NoteIs mem r a b c → NoteIs mem' r a b c
note_kept {r = r} {i} h l n = record {
  sort_is = h (note_words * r + 0) (omega arith) ∙ n.sort_is;
  number_is = h (note_words * r + 1) (omega arith) ∙ n.number_is;
  first-is = h (note_words * r + 2) (omega arith) ∙ n.first-is;
  unmarked = h (note_words * r + 3) (omega arith) ∙ n.unmarked;
}

-- one more name
pub laid_more : (mem sorts numbers firsts : List ℕ) (i k a : ℕ) → k ≡ note_words * i → a ≡ get_or sorts i 0 → k + note_words ≤ length mem → LaidTo mem sorts numbers firsts i
    → LaidTo (four mem k a (get_or numbers i 0) (get_or firsts i 0)) sorts numbers firsts (i + 1)
laid_more mem sorts numbers firsts i k a q e room h = record { note = λ r l. go r l (ltb r i) refl }
  where
    b : ℕ
    b = get_or numbers i 0

    c : ℕ
    c = get_or firsts i 0

    own : NoteIs (four mem k a (get_or numbers i 0) (get_or firsts i 0)) i (get_or sorts i 0) (get_or numbers i 0) (get_or firsts i 0)
    own =
        let now = four mem k a (get_or numbers i 0) (get_or firsts i 0) in
        let at : (j : ℕ) → k + j ≡ note_words * i + j = λ j. omega arith in
        let at0 : k ≡ note_words * i + 0 = omega arith in
        record {
          sort_is = subst (λ (j : ℕ). get_or now j 0 ≡ get_or sorts i 0) at0 (four-first mem k a b c room ∙ e);
          number_is = subst (λ (j : ℕ). get_or now j 0 ≡ get_or numbers i 0) (at 1) (four-second mem k a b c room);
          first-is = subst (λ (j : ℕ). get_or now j 0 ≡ get_or firsts i 0) (at 2) (four-third mem k a b c room);
          unmarked = subst (λ (j : ℕ). get_or now j 0 ≡ 0) (at 3) (four-last mem k a b c room);
        }

    go : (r : ℕ) → r < i + 1 → (t : Bool) → ltb r i ≡ t → NoteIs (four mem k a (get_or numbers i 0) (get_or firsts i 0)) r (get_or sorts r 0) (get_or numbers r 0) (get_or firsts r 0)
    go r l true t = let d = ltb-true r i t in note_kept {mem = mem} {i = i} (λ j m. four-before mem k a b c room j (omega arith)) d (h.note r d)
    go r l false t =
        let d = ltb-false r i t in
        let z : r ≡ i = omega arith in
        subst (λ (j : ℕ). NoteIs (four mem k a (get_or numbers i 0) (get_or firsts i 0)) j (get_or sorts j 0) (get_or numbers j 0) (get_or firsts j 0)) (sym z) own

-- the two words after the notes
pub laid-whole : (mem sorts numbers firsts : List ℕ) (i n : ℕ) → max_names ≤ i → first_kept ≤ length mem → first_kept ≤ n → n ≤ last_slots (length mem) → LaidTo mem sorts numbers firsts i
    → Laid (set (set mem free_word first_kept) slots_word n) sorts numbers firsts
laid-whole mem sorts numbers firsts i n l room low high h =
    record {
      sort = λ r m. (note r m).sort_is;
      number = λ r m. (note r m).number_is;
      first = λ r m. (note r m).first-is;
      mark = λ r m. (note r m).unmarked;
      free = get_or-set_other (set mem free_word first_kept) slots_word free_word n 0 (λ q. omega arith) ∙ get_or-set_same mem free_word first_kept 0 (omega arith);
      behind = omega (arith, low, word);
      early = subst (λ (j : ℕ). get_or (set (set mem free_word first_kept) slots_word n) slots_word 0 ≤ last_slots j) (sym len) (omega (arith, word, high));
    }
  where
    long : length (set mem free_word first_kept) ≡ length mem
    long = length-set mem free_word first_kept

    len : length (set (set mem free_word first_kept) slots_word n) ≡ length mem
    len = length-set (set mem free_word first_kept) slots_word n ∙ long

    word : get_or (set (set mem free_word first_kept) slots_word n) slots_word 0 ≡ n
    word = get_or-set_same (set mem free_word first_kept) slots_word n 0 (omega (arith, long))

    note : (r : ℕ) → r < max_names → NoteIs (set (set mem free_word first_kept) slots_word n) r (get_or sorts r 0) (get_or numbers r 0) (get_or firsts r 0)
    note r m =
        note_kept {mem = mem} {i = max_names}
        (λ j k. get_or-set_other (set mem free_word first_kept) slots_word j n 0 (λ q. omega arith) ∙ get_or-set_other mem free_word j first_kept 0 (λ q. omega arith)) m (h.note r (omega arith))
