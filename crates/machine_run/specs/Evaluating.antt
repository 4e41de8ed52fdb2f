-- The machine's loop: from a state with an empty stack to one in which the answer has come.
use Rattle.std.specs.Prelude.{ℕ, ◌+◌, ◌≤◌, ◌<◌, Bool, true, false, List, ◌≡◌, length, Ok, Err}
use Rattle.node.specs.Result.{Result, Refused}
use Rattle.node.specs.Returned.{Returned}
use Rattle.machine.specs.declared.Move.TheVariants.{Next}
use Rattle.machine.specs.Stepped.{Stepped}
use Rattle.operands.specs.Working.{Source}
use Rattle.machine.specs.Came.{Expand, Came}
use Rattle.machine.specs.Memory.{Regions, Keeps, frame_words, spare, reserve}
use Rattle.machine.specs.Realm.{Realm}
use Rattle.machine.specs.Table.{Began}
use Rattle.machine.specs.States.{mode_of, Lent, State}
use Rattle.machine.specs.declared.Machine.{Machine}
use Rattle.machine_run.specs.Running.{max_memory, smaller}

-- something has come, and no frame is left
pub record Done (m : Machine) (words : ℕ) : Type 0 where
  pub mode : 1 < m.mode
  pub bare : m.frames ≡ words

pub record Going (m : Machine) (words : ℕ) : Type 0 where
  pub going : 1 < m.mode → m.frames ≡ words → ⊥

abbrev pub Finished : Machine → ℕ → Bool → Type 0
Finished m words true = Done m words
Finished m words false = Going m words

-- an operator finds room on an empty stack, for there is a slot for each entry
pub record Roomy (z : Regions) (words : ℕ) : Type 0 where
  pub entries : ℕ
  pub wide : z.floor ≡ z.slots + entries
  pub room : z.floor + (frame_words + reserve + spare + entries) ≤ words

pub record Stands (s : Source) (mem out : List ℕ) (m : Machine) : Type 0 where
  pub lent : Lent s mem
  pub most : length mem ≤ max_memory
  pub realm : Realm s
  pub answer : Result Came
  pub began : Began
  pub state : State realm mem out m answer began
  pub roomy : Roomy began.regions (smaller (length mem))

-- an entry is worked out on an empty stack
pub record Bare (m : Machine) (words : ℕ) : Type 0 where
  pub mode : m.mode ≤ mode_of Expand
  pub bare : m.frames ≡ words

pub record Arrives {s : Source} (R : Realm s) (mem mem' out' : List ℕ) (n : Machine) (x : Result Came) (o : Began) : Type 0 where
  pub state : State R mem' out' n x o
  pub done : Done n (length mem')
  pub keeps : Keeps mem mem'

abbrev pub Ends : {s : Source} → Realm s → (mem mem' out' : List ℕ) → Result Came → Began → Returned Machine → Type 0
Ends R mem mem' out' x o (Ok n) = Arrives R mem mem' out' n x o
Ends R mem mem' out' x o (Err r) = x ≡ Refused r.number r.place

pub record Ended {s : Source} (R : Realm s) (mem mem' out' : List ℕ) (x : Result Came) (o : Began) (r : Returned Machine) : Type 0 where
  pub ends : Ends R mem mem' out' x o r

-- whatever is worked out
pub record Evaluated (s : Source) (mem mem' out out' : List ℕ) (m : Machine) (r : Returned Machine) : Type 0 where
  pub len : length mem' ≡ length mem
  pub tells : (R : Realm s) (x : Result Came) (o : Began) → State R mem out m x o → Ended R mem mem' out' x o r

-- an entry worked out apart is a step
abbrev pub moved : Returned Machine → Stepped
moved (Ok n) = Ok (Next n)
moved (Err r) = Err r
