-- An operator whose first operand is worked out under a new frame.
use Rattle.std.specs.Prelude.{ℕ, ◌-◌, ◌≤◌, ◌<◌, true, false, List, [], ◌≡◌, refl, length, Ok, Err}
use Rattle.std.proofs.Common.{sym, ap, ◌∙◌, subst, arith}
use Rattle.node.specs.Result.{Result, ◌>>=◌}
use Rattle.machine.specs.declared.Move.TheVariants.{Next, Short}
use Rattle.machine.specs.Stepped.{Stepped}
use Rattle.language.specs.Limits.{max_elements}
use Rattle.language.specs.Tree.{Expr}
use Rattle.language.specs.Expansion.{Context}
use Rattle.operands.specs.Entries.{size_at}
use Rattle.operands.specs.Working.{Source}
use Rattle.machine.specs.Came.{Aim, Expand, Came, works}
use Rattle.machine.specs.Frames.{Frame, apply, Kept}
use Rattle.machine.specs.Realm.{Operand, Realm}
use Rattle.machine.specs.MemoryLaws.{slotted_none}
use Rattle.machine.specs.Holding.{holding, empty, forms_of}
use Rattle.machine.specs.Table.{Began, end_of}
use Rattle.machine.specs.Cost.{turns}
use Rattle.machine.specs.Stack.{Holds, Waits}
use Rattle.machine.specs.States.{mode_of, Turned, Ready}
use Rattle.machine.specs.StateLaws.{Entered, entered, mode_few}
use Rattle.machine.specs.EnterLaws.{ground_of, room-here, pushes}
use Rattle.machine.specs.StackLaws.{stack_room}
use Rattle.machine.specs.Openings.{open_words, opened, Pushed, Opened, Openable, body_words, enclosed, Enclosing, Enclosed, first_of}
use Rattle.machine.specs.declared.Machine.{Machine}

-- of another entry that is the same
pub opened_as : {mem mem' : List ℕ} {m : Machine} {phase mode i j : ℕ} {r : Stepped} → i ≡ j → Opened mem mem' m phase mode i r → Opened mem mem' m phase mode j r
opened_as {mem} {mem'} {m} {phase} {mode} {r = r} e q = subst (λ (k : ℕ). Opened mem mem' m phase mode k r) e q

-- the size of the middle operand of three: the last takes x entries
pub middle_size : (work : List ℕ) (k : ℕ) {x y : ℕ} → x ≡ size_at work (k - 1) → y ≡ size_at work (k - 1 - x) → y ≡ size_at work (first_of work k 0)
middle_size work k ex ey = ey ∙ ap (λ (i : ℕ). size_at work (k - 1 - i)) ex

pub ready_open : {s : Source} {mem : List ℕ} {m : Machine} → Ready s mem m → m.mode ≤ mode_of Expand → Openable (length mem) m
ready_open h l =
    let r = stack_room h.state.stack in
    let w = r.words in
    let v = r.values in
    let y = r.slots in
    let d = (entered h.state l).at.deep in
    record { inside = r.inside; small = h.lent.small; below = omega arith; scope = omega arith }

module _ {s : Source} {R : Realm s} {mem out : List ℕ} {m : Machine} {x : Result Came} {o : Began} (h : Entered R mem out m x o) where
  -- F waits for e, the operand at entry j
  pub record Opening (F : Frame) (phase : ℕ) (a : Aim) (e : Expr) (j : ℕ) : Type 0 where
    pub holds_nothing : holding F ≡ empty phase false
    pub few_turns : turns phase 0 ≤ max_elements
    pub below : j < m.value
    pub operand : Operand s R.W R.ports h.at.env h.context j e
    pub holds : Holds R.W (end_of o (forms_of h.frames)) (ground_of h (open_words m phase)) F
    pub waits : Waits R (ground_of h (open_words m phase)) F
    pub kept : Kept F (works a h.context e)
    pub same : works h.aim h.context h.tree ≡ (works a h.context e >>= apply F)

  module _ {F : Frame} {phase : ℕ} {a : Aim} {e : Expr} {j : ℕ} (p : Opening F phase a e j) {mem' : List ℕ} where
    pushed : Pushed mem mem' m phase (mode_of a) j (opened m (mode_of a) j) → Turned R mem mem' out out m x o (Ok (Next (opened m (mode_of a) j)))
    pushed q =
        let ro = q.room in
        let be = p.below in
        pushes h {F = F} {inside = false} {a = a} {c = h.context} {e = e} (record {
          words = open_words m phase;
          framed = q.framed;
          holds_nothing = p.holds_nothing;
          entry-is = refl;
          base-is = refl;
          count-is = refl;
          few_turns = p.few_turns;
          some = omega arith;
          room = q.room;
          frames-is = omega arith;
          scope_is = refl;
          depth_is = refl;
          top-is = refl;
          nodes-is = refl;
          mode_is = refl;
          below = p.below;
          env = h.at.env;
          first = h.at.first;
          deep = h.at.deep;
          slotted = h.at.slotted;
          operand = p.operand;
          holds = p.holds;
          waits = p.waits;
          kept = p.kept;
          same = p.same;
        })

    pub opens : (r : Stepped) → Opened mem mem' m phase (mode_of a) j r → Turned R mem mem' out out m x o r
    opens (Ok (Next n)) q =
        let g = q.opens in
        subst (λ (k : Machine). Turned R mem mem' out out m x o (Ok (Next k))) (sym g.next) (pushed (record { framed = g.framed; next = refl; room = g.room }))
    opens (Err r) q = absurd q.opens
    opens (Ok Short) q =
        let g = q.opens in
        let d = h.at.mode in
        let f = mode_few h.aim in
        let l = g.short in
        record { len = ap length g.same; after = record { same = g.same; same-table = refl; mode = omega arith; short = omega arith } }

  -- F waits for e, the body of a definition, at entry j
  pub record Entering (F : Frame) (phase at r : ℕ) (a : Aim) (c : Context) (e : Expr) (j : ℕ) : Type 0 where
    pub holds_nothing : holding F ≡ empty phase true
    pub few_turns : turns phase 0 ≤ max_elements
    pub below : j < m.value
    pub operand : Operand s R.W R.ports [] c j e
    pub holds : Holds R.W (end_of o (forms_of h.frames)) (ground_of h (body_words m phase at r)) F
    pub waits : Waits R (ground_of h (body_words m phase at r)) F
    pub kept : Kept F (works a c e)
    pub same : works h.aim h.context h.tree ≡ (works a c e >>= apply F)

  module _ {F : Frame} {phase at r : ℕ} {a : Aim} {c : Context} {e : Expr} {j : ℕ} (p : Entering F phase at r a c e j) {mem' : List ℕ} where
    enters : Enclosing mem mem' m phase at r (mode_of a) j (enclosed m (mode_of a) j) → Turned R mem mem' out out m x o (Ok (Next (enclosed m (mode_of a) j)))
    enters q =
        let ro = q.room in
        let be = p.below in
        let fi = (room-here h).first in
        pushes h {F = F} {inside = true} {a = a} {c = c} {e = e} (record {
          words = body_words m phase at r;
          framed = q.framed;
          holds_nothing = p.holds_nothing;
          entry-is = refl;
          base-is = refl;
          count-is = refl;
          few_turns = p.few_turns;
          some = omega arith;
          room = q.room;
          frames-is = omega arith;
          scope_is = refl;
          depth_is = refl;
          top-is = refl;
          nodes-is = refl;
          mode_is = refl;
          below = p.below;
          env = [];
          first = fi;
          deep = omega arith;
          slotted = slotted_none mem m.depth;
          operand = p.operand;
          holds = p.holds;
          waits = p.waits;
          kept = p.kept;
          same = p.same;
        })

    pub encloses : (u : Stepped) → Enclosed mem mem' m phase at r (mode_of a) j u → Turned R mem mem' out out m x o u
    encloses (Ok (Next n)) q =
        let g = q.encloses in
        subst (λ (k : Machine). Turned R mem mem' out out m x o (Ok (Next k))) (sym g.next) (enters (record { framed = g.framed; next = refl; room = g.room }))
    encloses (Err r) q = absurd q.encloses
    encloses (Ok Short) q =
        let g = q.encloses in
        let d = h.at.mode in
        let f = mode_few h.aim in
        let l = g.short in
        record { len = ap length g.same; after = record { same = g.same; same-table = refl; mode = omega arith; short = omega arith } }
