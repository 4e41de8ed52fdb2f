-- An entry or a frame meets what the step of its kind or phase asks for; steps that write no nodes, beside a table.
use Rattle.std.specs.Prelude.{ℕ, suc, ◌≤◌, ◌<◌, false, List, ◌≡◌}
use Rattle.std.proofs.Common.{sym, ap, ◌∙◌, arith}
use Rattle.machine.specs.Stepped.{Stepped}
use Rattle.entries.specs.Kinds as Kind
use Rattle.operands.specs.Entries.{kind_at}
use Rattle.operands.specs.Classes.{class_of, a_formula}
use Rattle.operands.specs.KindLaws.{binary-class}
use Rattle.operands.specs.Working.{Source}
use Rattle.operands.specs.Makings.{making_of, a_misfit}
use Rattle.operands.specs.MakingLaws.{misfit-sets}
use Rattle.machine.specs.Phases as Phase
use Rattle.machine.specs.Came.{Evaluate, Expand}
use Rattle.machine.specs.Frames.{
  Frame,
  Measured,
  Width,
  Left,
  Right,
  LeftSet,
  RightSet,
  Low,
  High,
  Elements,
  RangeFirst,
  RangeSecond,
  RangeLast,
  Over,
  FirstNumber,
  NextNumber,
  FirstSet,
  NextSet,
  KeepValue,
  Capping,
  LeftFormula,
  RightFormula,
  LeftCompared,
  RightCompared,
  Member,
  Among,
  Indexed,
  Repeat,
  Repeated,
  WindowFrom,
  WindowTo,
  Windowed,
  OverEach,
  FirstEach,
  NextEach,
  KeepFormula,
  BitOf,
}
use Rattle.machine.specs.Holding.{phase}
use Rattle.machine.specs.States.{mode_of, phase_at, Ready, ReadyToWrite, Steps, Writes, ToppedToWrite, Takes, TakesToWrite}
use Rattle.machine.specs.TakeLaws.{top-phase}
use Rattle.machine.specs.Entering.{Evaluates}
use Rattle.machine.specs.declared.Machine.{Machine}
use Rattle.each_steps.specs.Misfits.{Logical, Formless}
use Rattle.machine_run.specs.Choosing.{Kinded, Collected}

-- a number that is not the lowest
pub past : {p n : ℕ} → n ≤ p → (p ≡ n → ⊥) → suc n ≤ p
past {p} {n} l f = omega (arith, f)

module _ {work : List ℕ} {m : Machine} {k low high : ℕ} where
  pub logical : Kinded work m (mode_of Evaluate) k low high → class_of k ≡ a_formula → Logical work m
  logical h e = record { mode = h.mode; class = ap class_of (sym h.same) ∙ e }

  pub formless : Kinded work m (mode_of Expand) k low high → making_of k ≡ a_misfit → Formless work m
  formless h e = record { mode = h.mode; making = ap making_of (sym h.same) ∙ e }

module _ {work : List ℕ} {m : Machine} {k : ℕ} where
  pub collects : {a b : ℕ} → Collected work m k → a ≤ k → k < b → Evaluates work m a b
  collects h l u = let e = h.same in record { mode = h.mode; from = omega arith; until = omega arith }

  pub logical_in : m.mode ≡ mode_of Evaluate → k ≡ kind_at work m.value → Kind.equality ≤ k → k < Kind.big_numbers → Logical work m
  logical_in h e l u = record { mode = h; class = ap class_of (sym e) ∙ binary-class k l u }

  pub formless_in : m.mode ≡ mode_of Expand → k ≡ kind_at work m.value → Kind.binder false ≤ k → Formless work m
  formless_in h e l = record { mode = h; making = ap making_of (sym e) ∙ misfit-sets k l }

-- beside a table
module _ {s : Source} {mem mem' out : List ℕ} {m : Machine} {r : Stepped} where
  pub steps-write : Steps s mem mem' m r → Writes s mem mem' out out m r
  steps-write h = record { turns = λ R x o. h.turns R x o out }

  pub takes_write : Takes s mem mem' m r → TakesToWrite s mem mem' out out m r
  takes_write h = record { turns = λ R x o. h.turns R x o out }

module _ {s : Source} {mem out : List ℕ} {m : Machine} where
  pub ready : ReadyToWrite s mem out m → Ready s mem m
  ready h = record { lent = h.lent; realm = h.realm; answer = h.answer; began = h.began; table = out; state = h.state }

-- phases are numbered from 0 on
phase_few : (F : Frame) → phase F < Phase.count
phase_few (Measured p m) = omega arith
phase_few Width = omega arith
phase_few (Left p o c b) = omega arith
phase_few (Right p o m) = omega arith
phase_few (LeftSet p o c b) = omega arith
phase_few (RightSet p o m) = omega arith
phase_few (Low p l h c b) = omega arith
phase_few (High p l h m) = omega arith
phase_few (Elements p c es ns) = omega arith
phase_few (RangeFirst p c y z) = omega arith
phase_few (RangeSecond p c z x) = omega arith
phase_few (RangeLast p x y) = omega arith
phase_few (Over p o c i e) = omega arith
phase_few (FirstNumber p o c i e rest) = omega arith
phase_few (NextNumber p o c i e a rest) = omega arith
phase_few (FirstSet p o c i e rest) = omega arith
phase_few (NextSet p o c i e a rest) = omega arith
phase_few (KeepValue r c e) = omega arith
phase_few (Capping o) = omega arith
phase_few (LeftFormula o c b) = omega arith
phase_few (RightFormula o f end) = omega arith
phase_few (LeftCompared o c b) = omega arith
phase_few (RightCompared o c x) = omega arith
phase_few (Member c b) = omega arith
phase_few (Among n) = omega arith
phase_few (Indexed c t) = omega arith
phase_few (Repeat c e) = omega arith
phase_few (Repeated n) = omega arith
phase_few (WindowFrom p o c m e) = omega arith
phase_few (WindowTo p o c e j) = omega arith
phase_few (Windowed o j k) = omega arith
phase_few (OverEach o c i e) = omega arith
phase_few (FirstEach o c i e rest) = omega arith
phase_few (NextEach o c i e f end rest) = omega arith
phase_few (KeepFormula r c e) = omega arith
phase_few (BitOf c i) = omega arith

module _ {s : Source} {mem out : List ℕ} {m : Machine} (h : ToppedToWrite s mem out m) where
  pub phases_few : phase_at mem m < Phase.count
  phases_few = let e = top-phase h.top in let l = phase_few h.top.frame in omega arith
