-- An operator's entry: under its frame its first operand is worked out.
use Rattle.std.specs.Prelude.{ℕ, ◌+◌, ◌-◌, ◌≤◌, ◌<◌, false, List, ◌≡◌, length}
use Rattle.std.proofs.Common.{arith}
use Rattle.node.specs.Result.{Result, ◌>>=◌}
use Rattle.machine.specs.Stepped.{Stepped}
use Rattle.language.specs.Limits.{max_elements}
use Rattle.language.specs.Tree.{Expr}
use Rattle.operands.specs.Entries.{size_at}
use Rattle.operands.specs.Working.{Source}
use Rattle.machine.specs.Came.{Aim, Expand, Came, works}
use Rattle.machine.specs.Frames.{Frame, apply, Kept}
use Rattle.machine.specs.Realm.{Operand, Realm}
use Rattle.machine.specs.Holding.{holding, empty, forms_of}
use Rattle.machine.specs.Table.{Began, end_of}
use Rattle.machine.specs.Cost.{turns}
use Rattle.machine.specs.Stack.{Holds, Waits}
use Rattle.machine.specs.States.{mode_of, Ready, Steps}
use Rattle.machine.specs.StateLaws.{Entered, entered}
use Rattle.machine.specs.EnterLaws.{ground_of, entry_few}
use Rattle.machine.specs.Openings.{open_words, Opened, Openable, first_of, Preceded, first_of_three, PrecededByThree}
use Rattle.machine.specs.OpenLaws.{ready_open, opens}
use Rattle.machine.specs.declared.Machine.{Machine}

-- its frame, which waits for the first operand, at entry j, and makes of it what the entry comes to; and that all operands stand before the entry
pub record Starting {s : Source} {R : Realm s} {mem out : List ℕ} {m : Machine} {x : Result Came} {o : Began} (h : Entered R mem out m x o) (phase j : ℕ) (Before : Type 0) (a : Aim) : Type 0 where
  pub frame : Frame
  pub first : Expr
  pub holds_nothing : holding frame ≡ empty phase false
  pub inside : Before
  pub operand : Operand s R.W R.ports h.at.env h.context j first
  pub holds : Holds R.W (end_of o (forms_of h.frames)) (ground_of h (open_words m phase)) frame
  pub waits : Waits R (ground_of h (open_words m phase)) frame
  pub kept : Kept frame (works a h.context first)
  pub same : works h.aim h.context h.tree ≡ (works a h.context first >>= apply frame)

pub record Starts (s : Source) (mem : List ℕ) (m : Machine) (phase j : ℕ) (Before : Type 0) (a : Aim) : Type 0 where
  pub entry : m.mode ≤ mode_of Expand
  pub few_turns : turns phase 0 ≤ max_elements
  pub starting : (R : Realm s) (x : Result Came) (o : Began) (out : List ℕ) (h : Entered R mem out m x o) → Starting h phase j Before a

module _ {s : Source} {mem : List ℕ} {m : Machine} {phase j : ℕ} {Before : Type 0} {a : Aim} (b : Starts s mem m phase j Before a) where
  pub starts-ready : Ready s mem m → Openable (length mem) m
  starts-ready r = ready_open r b.entry

  pub starts-inside : Ready s mem m → Before
  starts-inside r = (b.starting r.realm r.answer r.began r.table (entered r.state b.entry)).inside

  starts : (Before → j < m.value) → {mem' : List ℕ} {r : Stepped} → Opened mem mem' m phase (mode_of a) j r → Steps s mem mem' m r
  starts l {mem'} {r} q = record {
    turns = λ R x o out h.
        let n = entered h b.entry in
        let f = b.starting R x o out n in
        opens n {F = f.frame} {phase = phase} {a = a} {e = f.first} {j = j} (record {
          holds_nothing = f.holds_nothing;
          few_turns = b.few_turns;
          below = l f.inside;
          operand = f.operand;
          holds = f.holds;
          waits = f.waits;
          kept = f.kept;
          same = f.same;
        }) r q;
  }

-- one operand
abbrev pub StartsOne : (s : Source) → List ℕ → (m : Machine) → ℕ → Aim → Type 0
StartsOne s mem m phase a = Starts s mem m phase (m.value - 1) (1 ≤ m.value) a

pub one-steps : {s : Source} {mem mem' : List ℕ} {m : Machine} {phase : ℕ} {a : Aim} {r : Stepped} → StartsOne s mem m phase a → Opened mem mem' m phase (mode_of a) (m.value - 1) r → Steps s mem mem' m r
one-steps b q = starts b (λ i. omega arith) q

-- two, and entries between them
abbrev pub StartsTwo : (s : Source) → List ℕ → (m : Machine) → (phase between : ℕ) → Aim → Type 0
StartsTwo s mem m phase between a = Starts s mem m phase (first_of s.work m.value between) (1 + between + size_at s.work (m.value - 1) ≤ m.value) a

module _ {s : Source} {mem : List ℕ} {m : Machine} {phase : ℕ} {a : Aim} (between : ℕ) (b : StartsTwo s mem m phase between a) where
  pub two_open : Ready s mem m → Openable (length mem) m × Preceded s.work m.value between
  two_open r = (starts-ready b r, record { few = entry_few (entered r.state b.entry); lent = r.lent.work; inside = starts-inside b r })

  pub two_steps : {mem' : List ℕ} {r : Stepped} → Opened mem mem' m phase (mode_of a) (first_of s.work m.value between) r → Steps s mem mem' m r
  two_steps q = starts b (λ i. omega arith) q

-- three
abbrev pub StartsThree : (s : Source) → List ℕ → (m : Machine) → ℕ → Aim → Type 0
StartsThree s mem m phase a =
    Starts s mem m phase (first_of_three s.work m.value) (1 + size_at s.work (m.value - 1) + size_at s.work (first_of s.work m.value 0) ≤ m.value) a

module _ {s : Source} {mem : List ℕ} {m : Machine} {phase : ℕ} {a : Aim} (b : StartsThree s mem m phase a) where
  pub three_open : Ready s mem m → Openable (length mem) m × PrecededByThree s.work m.value
  three_open r = (starts-ready b r, record { few = entry_few (entered r.state b.entry); lent = r.lent.work; inside = starts-inside b r })

  pub three-steps : {mem' : List ℕ} {r : Stepped} → Opened mem mem' m phase (mode_of a) (first_of_three s.work m.value) r → Steps s mem mem' m r
  three-steps q = starts b (λ i. omega arith) q
