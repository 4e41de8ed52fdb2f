-- Notes that are laid are what the machine asks for.
use Rattle.std.specs.Prelude.{ℕ, ◌≤◌, List, ◌≡◌, refl, get_or}
use Rattle.std.proofs.Common.{sym, ◌∙◌, subst, ap, arith}
use Rattle.node.specs.Limits.{max_nodes}
use Rattle.node.specs.Result.{Done}
use Rattle.language.specs.Tokens.{tokens}
use Rattle.language.specs.Values.{Number}
use Rattle.language.specs.DeclaredNames.{Constant, Single, BusOf, Identifies, WaitingBus}
use Rattle.name_values.specs.World.{World, Meaning, meaning_at, Stands, Defines, NoValue}
use Rattle.name_values.specs.Sorts as Sort
use Rattle.operands.specs.Working.{Source}
use Rattle.notes.specs.Notes.{Note, Notes}
use Rattle.machine.specs.Memory.{Regions, slots_word, first_kept, note_at}
use Rattle.machine.specs.Realm.{Realm}
use Rattle.machine.specs.Notes.{Fact, Signals, Noted, Lasting}
use Rattle.machine.specs.FactLaws.{fact_of}
use Rattle.memory_notes.specs.Laid.{Laid, FirstSignals}

-- a name's note by what it means; no set is kept
note_fact : {s : Source} {mem : List ℕ} {sort n a : ℕ} (m : Meaning) → Note (tokens s.text) s.work sort n m → Fact s mem m sort n a
note_fact (Stands (Constant v)) h = fact_of Sort.number (omega arith) h.0 (record { stands = λ t. ap (λ (i : ℕ). Done (Number i)) (sym h.1.0); small = omega arith })
note_fact (Stands Single) h = fact_of Sort.signal (omega arith) h.0 refl
note_fact (Stands (BusOf v)) h =
    fact_of Sort.bus (omega arith) h.0 (record { waiting = λ e. absurd (omega arith); sized = λ l. ap (λ (i : ℕ). Stands (BusOf i)) (sym h.1.0); small = omega arith })
note_fact (Stands (Identifies ws)) h =
    fact_of Sort.identifier (omega arith) h.0 (record { words = ws; identifies = refl; stored = h.1.stored; fits = h.1.fits; ends = h.1.ends })
note_fact (Stands WaitingBus) h = fact_of Sort.bus (omega arith) h.0 (record { waiting = λ e. refl; sized = λ l. absurd (omega arith); small = omega arith })
note_fact (Defines k c e) h = fact_of Sort.body (omega arith) h.0 (record { context = c; expr = e; defines = ap (λ (i : ℕ). Defines i c e) (sym h.1) })
note_fact NoValue h = fact_of Sort.nothing (omega arith) h refl

module _ {mem sorts numbers firsts : List ℕ} (h : Laid mem sorts numbers firsts) where
  signals : {s : Source} (R : Realm s) → FirstSignals R.ports R.W firsts → Signals R mem
  signals R f = record {
    single = λ r l e. let y = f.single r l e in let q = h.first r l in (q ∙ y.0, (let z = y.1 in omega arith));
    bus = λ r n l e. let y = f.bus r n l e in let q = h.first r l in (q ∙ y.0, (let z = y.1 in omega arith));
  }

  pub laid_noted : {s : Source} (R : Realm s) (z : Regions) (index : ℕ) → Notes (tokens s.text) s.work R.W sorts numbers → (index ≤ max_nodes → FirstSignals R.ports R.W firsts)
      → get_or mem slots_word 0 ≡ z.slots → first_kept ≤ z.slots → z.slots ≤ z.floor → Noted R z index mem
  laid_noted {s} R z index n f e room up =
      let free = h.free in
      record {
        facts = λ r l.
            let a = note_at mem r 2 in
            subst (λ (i : ℕ). Fact s mem (meaning_at R.W r) i (note_at mem r 1) a) (sym (h.sort r l))
            (subst (λ (i : ℕ). Fact s mem (meaning_at R.W r) (get_or sorts r 0) i a) (sym (h.number r l)) (note_fact (meaning_at R.W r) (n.noted r l)));
        signals = λ l. signals R (f l);
        first = omega arith;
        within = omega arith;
        slots_word_lem = e;
        ascending = up;
      }

  -- no formula is marked
  pub laid_lasting : (W : World) (table : List ℕ) (at : ℕ) → Lasting W mem table at
  laid_lasting W table at = record { lasts = λ r l d. absurd (d (h.mark r l)) }
