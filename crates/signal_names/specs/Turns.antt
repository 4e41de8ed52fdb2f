-- The names of a list's entries in turn, and what the last turn says.
use Rattle.std.specs.Prelude.{ℕ, zero, suc, ◌+◌, ◌*◌, ◌<◌, ◌≤◌, ◌≡◌, refl, List, [], ◌∷◌, length, get_or}
use Rattle.std.proofs.Common.{sym, ap, ◌∙◌, drop_of_length-le, arith}
use Rattle.std.proofs.Math.Option.{some}
use Rattle.language.specs.Limits.{max_name}
use Rattle.basic.specs.Spelling.{spelled, names_of}
use Rattle.basic.specs.Writing.{fault_from}
use Rattle.signal_names.specs.Slots.{earlier, PutsName}
use Rattle.signal_names.specs.Promise.{slot_bytes, Spells}
use Rattle.signal_names.specs.SlotLaws.{Spelling, Turn}

pub names-length : (text list : List ℕ) → length (names_of text list) ≡ length list
names-length text [] = refl
names-length text (e ∷ es) = ap suc (names-length text es)

pub name-is : (text list : List ℕ) (k : ℕ) → k < length list → get_or (names_of text list) k [] ≡ spelled text (get_or list k 0)
name-is text [] k h = absurd (omega arith)
name-is text (e ∷ es) zero h = refl
name-is text (e ∷ es) (suc k) h = name-is text es k (omega arith)

pub turn_at : (text list : List ℕ) {names names' sizes : List ℕ} {k size : ℕ} → Spelling names sizes (names_of text list) k → slot_bytes * k + (max_name + 4) ≤ length names → k < length list
    → PutsName (spelled text (get_or list k 0)) names names' (slot_bytes * k) size → Turn names names' sizes (names_of text list) (spelled text (get_or list k 0)) k size
turn_at text list {k = k} s r h p = record { before = s; room = r; more = rw (names-length text list) h; is = name-is text list k h; puts = p }

module _ (text list : List ℕ) {names sizes : List ℕ} {k : ℕ} where
  pub found-fault : k < length list → fault_from [] 0 (names_of text list) ≡ some k → Spells text list names sizes k
  found-fault h e = record { within = omega arith; fault = λ _. e; none = λ n. absurd (omega arith); spelt = λ n. absurd (omega arith) }

  pub found_none : k ≡ length list → Spelling names sizes (names_of text list) k → Spells text list names sizes (length list)
  found_none h s =
      let n = names-length text list in
      let over : length (names_of text list) ≤ k = omega arith in
      record {
        within = omega arith;
        fault = λ l. absurd (omega arith);
        none = λ _. sym s.fault ∙ ap (fault_from (earlier names sizes k) k) (drop_of_length-le (names_of text list) over);
        spelt = λ _. record { small = λ j l. s.small j (omega arith); each = λ j l. s.each j (omega arith) };
      }
