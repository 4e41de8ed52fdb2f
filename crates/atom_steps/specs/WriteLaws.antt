-- A frame that holds no words takes a value, and writes a formula behind those of the other frames.
use Rattle.std.specs.Prelude.{ℕ, suc, min, false, List, ◌≡◌, Ok}
use Rattle.std.proofs.Common.{ap, arith}
use Rattle.node.specs.Limits.{max_nodes}
use Rattle.node.specs.Ltl.{Formula}
use Rattle.node.specs.Result.{Result, Done}
use Rattle.machine.specs.declared.Move.TheVariants.{Next}
use Rattle.writing.specs.Writing.{Wrote}
use Rattle.writing.specs.StayLaws.{wrote_stays}
use Rattle.language.specs.Values.{Value}
use Rattle.operands.specs.Working.{Source}
use Rattle.machine.specs.Came.{Came, Worth, Nodes}
use Rattle.machine.specs.Frames.{Frame, apply}
use Rattle.machine.specs.Realm.{Realm}
use Rattle.machine.specs.Holding.{Holding, holding, empty}
use Rattle.machine.specs.Table.{Began}
use Rattle.machine.specs.TableLaws.{wrote-capped}
use Rattle.machine.specs.States.{Turned, TopOf}
use Rattle.machine.specs.Moves.{wrote, popped}
use Rattle.machine.specs.FlatLaws.{flat-laid}
use Rattle.machine.specs.FormulaLaws.{finishes}
use Rattle.machine.specs.declared.Machine.{Machine}

pub writes-after : {s : Source} {R : Realm s} {mem out : List ℕ} {m : Machine} {x : Result Came} {o : Began} {F : Frame} (h : TopOf R mem out m x o F) {phase : ℕ} → holding F ≡ empty phase false
    → {v : Value} → h.came ≡ Worth v → (f : Formula) {out' : List ℕ} {r n : ℕ} → apply F h.came ≡ Done (Nodes f) → Wrote f out out' m.nodes r → n ≡ min r (suc max_nodes)
    → Turned R mem mem out out' m x o (Ok (Next (wrote (popped m) n)))
writes-after h z c f e w en =
    let w' = wrote-capped en w in
    finishes h f (ap (λ (y : Holding). y.flat) z) (ap (λ (y : Holding). y.inside) z) (ap (λ (y : Holding). y.binds) z) e (flat-laid h z c) w' (omega arith) (wrote_stays w')
