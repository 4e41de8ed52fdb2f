-- The machine's state: its frames stand in the memory, and what they make of the part that is worked out now is the answer. What a step does to it.
use Rattle.std.specs.Prelude.{ℕ, suc, ◌+◌, ◌≤◌, ◌<◌, ◌^◌, List, [], ◌∷◌, ◌++◌, ◌≡◌, length, get_or, drop, Ok, Err}
use Rattle.node.specs.Limits.{max_nodes}
use Rattle.node.specs.Result.{Result, Done, Refused}
use Rattle.machine.specs.declared.Move.TheVariants.{Next, Short}
use Rattle.machine.specs.Stepped.{Stepped}
use Rattle.language.specs.Limits.{max_tokens, work_bytes}
use Rattle.language.specs.Tree.{Expr}
use Rattle.language.specs.Values.{Value, Number, Set, Logic, Bus, Unsized, Choice}
use Rattle.language.specs.Expansion.{Context}
use Rattle.operands.specs.Working.{Source}
use Rattle.machine.specs.Came.{Aim, Evaluate, Expand, Came, Worth, Nodes, works}
use Rattle.machine.specs.Frames.{Frame, Means}
use Rattle.machine.specs.Realm.{Operand, Realm}
use Rattle.machine.specs.Memory.{frame_words, spare, reserve, free_of, Held, Slotted, Sits, Keeps}
use Rattle.machine.specs.Holding.{Laying, holding, forms_of}
use Rattle.machine.specs.Telling.{is_nodes, Tells}
use Rattle.machine.specs.Notes.{Noted, Lasting}
use Rattle.machine.specs.Table.{Began, Laid, end_of}
use Rattle.machine.specs.Cost.{effort, costs}
use Rattle.machine.specs.Stack.{Ground, FrameAt, Stack}
use Rattle.machine.specs.declared.Machine.{Machine}

-- an expression is worked out, or something has come
pub data Now : Type 0 where
  Works : Aim → Context → Expr → Now
  Has : Came → Now

abbrev pub current : Now → Result Came
current (Works a c e) = works a c e
current (Has v) = Done v

abbrev pub mode_of : Aim → ℕ
mode_of Evaluate = 0
mode_of Expand = 1

module _ {s : Source} (R : Realm s) (o : Began) (mem : List ℕ) where
  -- the machine is at an entry
  pub record AtEntry (m : Machine) (limit : ℕ) (a : Aim) (c : Context) (e : Expr) : Type 0 where
    pub mode : m.mode ≡ mode_of a
    pub below : m.value < limit
    pub env : List ℕ
    pub first : o.regions.slots ≤ m.scope
    pub deep : m.depth ≡ m.scope + length env
    pub slotted : Slotted mem m.scope env
    pub operand : Operand s R.W R.ports env c m.value e

  -- a set's elements: a kept set's, or from `top` on
  abbrev pub Standing : Machine → Value → Type 0
  Standing m (Number n) = Unit {0}
  Standing m (Set l) = Held mem m.from l × Sits (free_of mem) m.top m.from (length l)
  Standing m Logic = Unit {0}
  Standing m (Bus p x n) = Unit {0}
  Standing m (Unsized p) = Unit {0}
  Standing m (Choice ws) = Unit {0}

  pub record Arrived (m : Machine) (v : Value) : Type 0 where
    pub tells : Tells R.W m.mode m.value m.from v
    pub stands : Standing m v

  -- something has come
  abbrev pub Come : Machine → Came → Type 0
  Come m (Worth v) = Arrived m v
  Come m (Nodes f) = m.mode ≡ is_nodes

  abbrev pub Here : Machine → ℕ → Now → Type 0
  Here m limit (Works a c e) = AtEntry m limit a c e
  Here m limit (Has v) = Come m v

-- the formula that has come
abbrev pub written : ℕ → Came → List Laying
written n (Worth v) = []
written n (Nodes f) = record { formula = f; end = n } ∷ []

abbrev pub written_now : ℕ → Now → List Laying
written_now n (Works a c e) = []
written_now n (Has v) = written n v

-- the lent slices are as long as they have to be, and their words can be numbered
pub record Lent (s : Source) (mem : List ℕ) : Type 0 where
  pub work : work_bytes ≤ length s.work
  pub refs : max_tokens ≤ length s.refs
  pub small : length mem < 2 ^ 32

-- where the definition answers x, and the run began with o
pub record State {s : Source} (R : Realm s) (mem out : List ℕ) (m : Machine) (x : Result Came) (o : Began) : Type 0 where
  pub frames : List Frame
  pub now : Now
  pub limit : ℕ
  pub stack : Stack R o mem frames m.scope m.depth m.top m.frames limit
  pub here : Here R o mem m limit now
  pub laid : Laid o (written_now m.nodes now ++ forms_of frames) out m.nodes
  pub few : m.nodes ≤ suc max_nodes
  pub noted : Noted R o.regions o.index mem
  pub lasting : Lasting R.W mem out m.nodes
  pub same : Means x frames (current now)

-- what is left to do
abbrev pub cost : List ℕ → Machine → ℕ
cost mem m = effort m.mode m.value + costs (drop m.frames mem)

pub record Went {s : Source} (R : Realm s) (mem mem' out' : List ℕ) (m n : Machine) (x : Result Came) (o : Began) : Type 0 where
  pub state : State R mem' out' n x o
  pub less : cost mem' n < cost mem m
  pub keeps : Keeps mem mem'

-- an entry finds no room for its frame: nothing was done
pub record Parted (mem mem' out out' : List ℕ) (m : Machine) : Type 0 where
  pub same : mem' ≡ mem
  pub same-table : out' ≡ out
  pub mode : m.mode ≤ mode_of Expand
  pub short : m.frames < m.top + (frame_words + reserve + spare + m.value)

abbrev pub After : {s : Source} → Realm s → (mem mem' out out' : List ℕ) → Machine → Result Came → Began → Stepped → Type 0
After R mem mem' out out' m x o (Ok (Next n)) = Went R mem mem' out' m n x o
After R mem mem' out out' m x o (Err r) = x ≡ Refused r.number r.place
After R mem mem' out out' m x o (Ok Short) = Parted mem mem' out out' m

pub record Turned {s : Source} (R : Realm s) (mem mem' out out' : List ℕ) (m : Machine) (x : Result Came) (o : Began) (r : Stepped) : Type 0 where
  pub len : length mem' ≡ length mem
  pub after : After R mem mem' out out' m x o r

-- A step's contract: from a state to a state, whatever is worked out; and there is such a state. Steps that write no nodes have no table: they leave every table as it is.
pub record Ready (s : Source) (mem : List ℕ) (m : Machine) : Type 0 where
  pub lent : Lent s mem
  pub realm : Realm s
  pub answer : Result Came
  pub began : Began
  pub table : List ℕ
  pub state : State realm mem table m answer began

pub record Steps (s : Source) (mem mem' : List ℕ) (m : Machine) (r : Stepped) : Type 0 where
  pub turns : (R : Realm s) (x : Result Came) (o : Began) (out : List ℕ) → State R mem out m x o → Turned R mem mem' out out m x o r

pub record ReadyToWrite (s : Source) (mem out : List ℕ) (m : Machine) : Type 0 where
  pub lent : Lent s mem
  pub realm : Realm s
  pub answer : Result Came
  pub began : Began
  pub state : State realm mem out m answer began

pub record Writes (s : Source) (mem mem' out out' : List ℕ) (m : Machine) (r : Stepped) : Type 0 where
  pub turns : (R : Realm s) (x : Result Came) (o : Began) → State R mem out m x o → Turned R mem mem' out out' m x o r

-- something has come, and the frame F takes it
pub record TopOf {s : Source} (R : Realm s) (mem out : List ℕ) (m : Machine) (x : Result Came) (o : Began) (F : Frame) : Type 0 where
  pub footing : Ground
  pub rest : List Frame
  pub came : Came
  pub entry : ℕ
  pub at : FrameAt R o mem F footing (end_of o (forms_of rest)) m.scope m.depth m.top m.frames entry
  pub stack : Stack R o mem rest footing.scope footing.depth footing.words.base (m.frames + frame_words) footing.limit
  pub come : Come R o mem m came
  pub laid : Laid o (written m.nodes came ++ ((holding F).forms ++ forms_of rest)) out m.nodes
  pub few : m.nodes ≤ suc max_nodes
  pub noted : Noted R o.regions o.index mem
  pub lasting : Lasting R.W mem out m.nodes
  pub same : Means x (F ∷ rest) (Done came)

pub record Top {s : Source} (R : Realm s) (mem out : List ℕ) (m : Machine) (x : Result Came) (o : Began) : Type 0 where
  pub frame : Frame
  pub top : TopOf R mem out m x o frame

pub record Topped (s : Source) (mem : List ℕ) (m : Machine) : Type 0 where
  pub lent : Lent s mem
  pub realm : Realm s
  pub answer : Result Came
  pub began : Began
  pub table : List ℕ
  pub top : Top realm mem table m answer began

pub record Takes (s : Source) (mem mem' : List ℕ) (m : Machine) (r : Stepped) : Type 0 where
  pub turns : (R : Realm s) (x : Result Came) (o : Began) (out : List ℕ) → Top R mem out m x o → Turned R mem mem' out out m x o r

pub record ToppedToWrite (s : Source) (mem out : List ℕ) (m : Machine) : Type 0 where
  pub lent : Lent s mem
  pub realm : Realm s
  pub answer : Result Came
  pub began : Began
  pub top : Top realm mem out m answer began

pub record TakesToWrite (s : Source) (mem mem' out out' : List ℕ) (m : Machine) (r : Stepped) : Type 0 where
  pub turns : (R : Realm s) (x : Result Came) (o : Began) → Top R mem out m x o → Turned R mem mem' out out' m x o r

-- the last frame's phase
abbrev pub phase_at : List ℕ → Machine → ℕ
phase_at mem m = get_or mem m.frames 0
