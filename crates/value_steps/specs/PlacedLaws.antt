-- Sets that stand in the memory, as crate memory_sets takes them.
use Rattle.std.specs.Prelude.{ℕ, ◌+◌, ◌<◌, List, ◌≡◌, length, take, drop}
use Rattle.std.proofs.Common.{sym, ap, ◌∙◌, subst, arith, length-drop}
use Rattle.language.specs.Limits.{max_number, max_elements}
use Rattle.language.proofs.Laws.Values.SetLaws.{Ascending}
use Rattle.memory_sets.specs.Places.{elements_at, Placed}
use Rattle.memory_sets.specs.PlacedLaws.{elements_of}
use Rattle.memory_sets.specs.declared.Span.{Span}
use Rattle.machine.specs.Memory.{Held}
use Rattle.machine.specs.SetLaws.{held_word, sits_low}
use Rattle.machine.specs.Telling.{Fine, is_set}
use Rattle.machine.specs.Came.{Came}
use Rattle.machine.specs.Frames.{Frame}
use Rattle.machine.specs.Realm.{Realm}
use Rattle.machine.specs.Table.{Began}
use Rattle.machine.specs.States.{TopOf}
use Rattle.machine.specs.ComeLaws.{came-set}
use Rattle.machine.specs.TakeLaws.{room-under}
use Rattle.machine.specs.declared.Machine.{Machine}
use Rattle.node.specs.Result.{Result}
use Rattle.operands.specs.Working.{Source}

module _ (mem : List ℕ) (p : Span) (l : List ℕ) (h : Held mem p.at l) (e : p.count ≡ length l) (f : Fine l) (r : p.at + max_elements < length mem) where
  pub elements_are : elements_at mem p ≡ l
  elements_are = let w = f.few in ap (λ (n : ℕ). take n (drop p.at mem)) e ∙ elements_of mem p.at l (omega arith) (held_word mem p.at l h)

  pub placed : Placed mem p
  placed =
      let w = f.few in
      let d = length-drop p.at mem in
      record { few = omega arith; room = omega arith; ascends = subst (Ascending 0 max_number) (sym elements_are) f.ordered }

-- where a set that has come stands: below the frames
abbrev pub span_of : Machine → Span
span_of m = record { at = m.from; count = m.value }

pub set-under : {s : Source} {R : Realm s} {mem out : List ℕ} {m : Machine} {x : Result Came} {o : Began} {F : Frame} (h : TopOf R mem out m x o F) → m.mode ≡ is_set
    → m.from + max_elements < length mem
set-under {R = R} {mem} {m = m} {o = o} h e =
    let g = came-set R o mem m h.came h.come e in
    let u = (room-under h).values in
    let n1 = h.noted.within in
    let n2 = h.noted.ascending in
    let lo = h.at.lower in
    let hi = h.at.high in
    let ro = h.at.room in
    let ins = h.at.inside in
    let lw = sits_low m (omega arith) g.sits in
    omega arith
