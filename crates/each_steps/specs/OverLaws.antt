-- A big operator's entry, as a formula: its set is worked out first.
use Rattle.std.specs.Prelude.{ℕ, false, List, ◌≡◌, refl}
use Rattle.std.proofs.Common.{sym, ap, ◌∙◌, arith}
use Rattle.node.specs.Ltl.{Formula}
use Rattle.node.specs.Result.{Result, ◌>>=◌}
use Rattle.node.proofs.ResultLaws.{bind_again}
use Rattle.language.specs.Operators.{Big}
use Rattle.language.specs.Tree.{Expr, Each}
use Rattle.language.specs.Values.{Value, set, value}
use Rattle.language.specs.Expansion.{at, expansion, big_formula}
use Rattle.entries.specs.Kinds as Kind
use Rattle.operands.specs.Entries.{kind_at}
use Rattle.operands.specs.KindLaws.{big-class}
use Rattle.operands.specs.Working.{Source}
use Rattle.machine.specs.Phases as Phase
use Rattle.machine.specs.Came.{Evaluate, worth, nodes, as_set}
use Rattle.machine.specs.Frames.{OverEach}
use Rattle.machine.specs.StartLaws.{StartsTwo}
use Rattle.machine.specs.BindLaws.{take-set}
use Rattle.machine.specs.OperandLaws.{operand-view, operand_as}
use Rattle.machine.specs.declared.Machine.{Machine}
use Rattle.machine.specs.Entering.{Expands}
use Rattle.machine.specs.EnteringLaws.{works-formula}
use Rattle.fold_steps.specs.BigLaws.{parts_of}

-- the clause as its frame has it
over-same : (o : Big) (f : ℕ → Result Formula) (a : Result Value) → ((a >>= set >>= big_formula o f) >>= nodes) ≡ ((a >>= worth) >>= λ v. as_set v >>= λ s. big_formula o f s >>= nodes)
over-same o f a = bind_again (a >>= set) (big_formula o f) nodes ∙ sym (take-set a (λ s. big_formula o f s >>= nodes))

-- the entry: its set is worked out first
pub over-starts : {s : Source} {mem : List ℕ} {m : Machine} → Expands s.work m Kind.big_numbers (Kind.binder false) → StartsTwo s mem m Phase.over_each 1 Evaluate
over-starts {s} {mem} {m} k =
    let e0 = k.mode in
    record {
      entry = omega arith;
      few_turns = omega arith;
      starting = λ R x o out n.
          let v = operand-view n.at.operand (big-class (kind_at s.work m.value) k.from k.until) in
          let t = v.0 in
          let op = v.1 in
          let i = v.3 in
          let y = v.4 in
          let a = v.5 in
          let c = n.context in
          let p = parts_of t op v.2 i y a (operand_as n.at.operand {d = Each t op v.2 i y a} v.6) in
          record {
            frame = OverEach op c i a;
            first = y;
            holds_nothing = refl;
            inside = p.inside;
            operand = p.set;
            holds = tt;
            waits = (record { place = t.at; here = p.here R.count R.lexed }, p.each);
            kept = tt;
            same = works-formula n e0 ∙ ap (λ (d : Expr). expansion c d >>= nodes) v.6 ∙ over-same op (λ z. expansion (at c i z) a) (value c.values y);
          };
    }
