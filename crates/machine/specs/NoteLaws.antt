-- What is noted stays where the notes and the kept sets stay.
use Rattle.std.specs.Prelude.{ℕ, ◌+◌, ◌*◌, ◌≤◌, ◌<◌, List, ◌≡◌, get_or}
use Rattle.std.proofs.Common.{sym, ◌∙◌, subst, arith}
use Rattle.language.specs.Limits.{max_names}
use Rattle.name_values.specs.World.{World, meaning_at}
use Rattle.operands.specs.Working.{Source}
use Rattle.machine.specs.Fields.{note_number, note_address}
use Rattle.machine.specs.Realm.{Realm}
use Rattle.machine.specs.Memory.{Regions, note_words, first_kept, free_word, slots_word, note_at, free_of, Keeps}
use Rattle.machine.specs.Notes.{Fact, Signals, Noted, Lasts, Lasting}
use Rattle.machine.specs.FactLaws.{fact_keeps}

-- all words below `low` stay
module _ (mem mem' : List ℕ) (low : ℕ) (h : (i : ℕ) → i < low → get_or mem' i 0 ≡ get_or mem i 0) (f : first_kept ≤ low) (g : free_of mem ≤ low) where
  note_same : (r j : ℕ) → r < max_names → j < note_words → note_at mem' r j ≡ note_at mem r j
  note_same r j l k = h (note_words * r + j) (omega arith)

  free_same : free_of mem' ≡ free_of mem
  free_same = h free_word (omega arith)

  keeps : Keeps mem mem'
  keeps = let e = free_same in record { more = omega arith; kept = λ i p q. h i (omega arith) }

  signals-kept : {s : Source} {R : Realm s} → Signals R mem → Signals R mem'
  signals-kept x = record {
    single = λ r l e. let y = x.single r l e in let q = note_same r 2 l (omega arith) in (q ∙ y.0, (let z = y.1 in omega arith));
    bus = λ r n l e. let y = x.bus r n l e in let q = note_same r 2 l (omega arith) in (q ∙ y.0, (let z = y.1 in omega arith));
  }

  pub noted_kept : {s : Source} {R : Realm s} {z : Regions} {index : ℕ} → Noted R z index mem → Noted R z index mem'
  noted_kept {s} {R} n =
      let e = free_same in
      let a = n.first in
      let b = n.within in
      record {
        facts = λ r l.
            let e0 = note_same r 0 l (omega arith) in
            let e1 = note_same r 1 l (omega arith) in
            let e2 = note_same r 2 l (omega arith) in
            subst (λ (i : ℕ). Fact s mem' (meaning_at R.W r) i (note_at mem' r note_number) (note_at mem' r note_address)) (sym e0)
            (subst (λ (i : ℕ). Fact s mem' (meaning_at R.W r) (note_at mem r 0) i (note_at mem' r note_address)) (sym e1)
            (subst (λ (i : ℕ). Fact s mem' (meaning_at R.W r) (note_at mem r 0) (note_at mem r note_number) i) (sym e2) (fact_keeps keeps (n.facts r l))));
        signals = λ l. signals-kept (n.signals l);
        first = omega arith;
        within = omega arith;
        slots_word_lem = h slots_word (omega arith) ∙ n.slots_word_lem;
        ascending = n.ascending;
      }

  pub lasting_kept : {W : World} {table : List ℕ} {at : ℕ} → Lasting W mem table at → Lasting W mem' table at
  lasting_kept {W} {table} {at} x = record {
    lasts = λ r l d. let e = note_same r 3 l (omega arith) in subst (λ (v : ℕ). Lasts W table at r v) (sym e) (x.lasts r l (λ q. d (e ∙ q)));
  }
