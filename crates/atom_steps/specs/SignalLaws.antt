-- A signal by the first number of its name and its index there, as long as the table has room.
use Rattle.std.specs.Prelude.{ℕ, ◌+◌, ◌≤◌, ◌<◌, List, ◌≡◌}
use Rattle.std.proofs.Common.{ap, subst, arith, lt-ltb, le-ltb}
use Rattle.node.specs.Limits.{max_nodes, field_limit}
use Rattle.node.specs.Ltl.{Signal}
use Rattle.node.specs.Result.{Result, Done, Refused}
use Rattle.node.proofs.ResultLaws.{guard-pass, guard-stop}
use Rattle.writing.specs.Writing.{Wrote}
use Rattle.writing.specs.WritingLaws.{wrote_none}
use Rattle.language.specs.Limits.{max_names}
use Rattle.language.specs.DeclaredNames.{Port, BusOf}
use Rattle.language.specs.Numbering.{first_of}
use Rattle.language.specs.Values.{Sized}
use Rattle.language.specs.Expansion.{bit_at, signal_node}
use Rattle.name_values.specs.World.{Stands, name_at, meaning_at}
use Rattle.operands.specs.Working.{Source}
use Rattle.machine.specs.Fields.{note_address}
use Rattle.machine.specs.Came.{Came}
use Rattle.machine.specs.Frames.{Frame}
use Rattle.machine.specs.Realm.{Realm}
use Rattle.machine.specs.Memory.{note_at}
use Rattle.machine.specs.Table.{Began}
use Rattle.machine.specs.States.{TopOf}
use Rattle.machine.specs.declared.Machine.{Machine}
use Rattle.atom_steps.specs.NoteLaws.{signals-here}
use Rattle.atom_steps.specs.Signals.{Signalled}

pub signalled_past : {first i : ℕ} {out out' : List ℕ} {at r : ℕ} → max_nodes < at → max_nodes < r → Signalled first i out out' at r
signalled_past l h = record { wrote = λ j e. wrote_none (omega arith) h }

pub signalled : {first i : ℕ} {out out' : List ℕ} {at r : ℕ} → at ≤ max_nodes → Wrote (Signal (first + i)) out out' at r → Signalled first i out out' at r
signalled {out = out} {out'} {at} {r} l w = record { wrote = λ j e. subst (λ (k : ℕ). Wrote (Signal k) out out' at r) (e l) w }

-- a bus that is wide enough, and one that is not
pub bit_in : (ps : List Port) (i : ℕ) (b : Sized) → i < b.width → bit_at ps i b ≡ Done (signal_node ps b.name i)
bit_in ps i b l = guard-pass 13 b.place _ (lt-ltb i b.width l)

pub bit_out : (ps : List Port) (i : ℕ) (b : Sized) → b.width ≤ i → bit_at ps i b ≡ Refused 13 b.place
bit_out ps i b l = guard-stop 13 b.place _ (le-ltb i b.width l)

-- bit i of the bus r of width n
module _ {s : Source} {R : Realm s} {mem out : List ℕ} {m : Machine} {x : Result Came} {o : Began} {F : Frame} (h : TopOf R mem out m x o F) (r i n : ℕ) (l : r < max_names)
    (e : meaning_at R.W r ≡ Stands (BusOf n)) where
  pub signal-fits : i < n → m.nodes ≤ max_nodes → note_at mem r note_address + i < field_limit
  signal-fits d k = let g = ((signals-here h k).bus r n l e).1 in omega arith

  pub signal-wrote : {out' : List ℕ} {q : ℕ} → Signalled (note_at mem r note_address) i out out' m.nodes q → Wrote (signal_node R.ports (name_at R.W r) i) out out' m.nodes q
  signal-wrote g = g.wrote (first_of R.ports (name_at R.W r) + i) (λ k. ap (λ (j : ℕ). j + i) ((signals-here h k).bus r n l e).0)
