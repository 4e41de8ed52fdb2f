-- X[n]: its number, its formula, then the nodes of X.
use Rattle.std.specs.Prelude.{ℕ, suc, ◌+◌, min, List, ◌≡◌, refl, get_or, Ok}
use Rattle.std.proofs.Common.{sym, ap, ◌∙◌, arith}
use Rattle.node.specs.Limits.{max_nodes}
use Rattle.node.specs.Operators.{X}
use Rattle.node.specs.Kinds.{unary_kind}
use Rattle.node.specs.Ltl.{Formula}
use Rattle.node.specs.Result.{Result, Done, ◌>>=◌}
use Rattle.node.proofs.ResultLaws.{bind_at}
use Rattle.machine.specs.declared.Move.TheVariants.{Next}
use Rattle.writing.specs.Writing.{Wrote, Nexts}
use Rattle.writing.specs.StayLaws.{begins_stays, begins-nexts}
use Rattle.language.specs.Tree.{Expr}
use Rattle.language.specs.Values.{Value, number, value}
use Rattle.language.specs.Expansion.{expansion, nexts}
use Rattle.entries.specs.Kinds as Kind
use Rattle.name_values.proofs.KnownLaws.{known-nexts}
use Rattle.operands.specs.Entries.{kind_at}
use Rattle.operands.specs.Makings.{a_repetition, making_of}
use Rattle.operands.specs.Working.{Source}
use Rattle.machine.specs.Fields.{value_field}
use Rattle.machine.specs.Phases as Phase
use Rattle.machine.specs.Came.{Evaluate, Expand, Nodes, nodes, worth, works, as_number}
use Rattle.machine.specs.Frames.{Repeat, Repeated, repeated, apply}
use Rattle.machine.specs.Telling.{is_number, is_nodes}
use Rattle.machine.specs.TableLaws.{laid-last, wrote-capped}
use Rattle.machine.specs.States.{mode_of, written, Takes, TakesToWrite}
use Rattle.machine.specs.Moves.{wrote, popped}
use Rattle.machine.specs.ComeLaws.{came-number, number_then, came-formula}
use Rattle.machine.specs.FrameViews.{by_phase}
use Rattle.machine.specs.TakeLaws.{value-word, top-phase, top_as}
use Rattle.machine.specs.Openings.{Renewed}
use Rattle.machine.specs.StartLaws.{StartsTwo}
use Rattle.machine.specs.RenewLaws.{follows-last}
use Rattle.machine.specs.FormulaLaws.{formula-laid, finishes}
use Rattle.machine.specs.BindLaws.{take-number, take-formula, then_nodes}
use Rattle.machine.specs.OperandLaws.{operand_as, two_operands}
use Rattle.machine.specs.declared.Machine.{Machine}
use Rattle.machine.specs.Entering.{Expands, Waiting}
use Rattle.machine.specs.EnteringLaws.{works-formula, operand_making}

-- the clause as its frames have it
repetition_same : (n : Result Value) (a : Result Formula) → ((n >>= number >>= λ k. a >>= λ f. Done (nexts k f)) >>= nodes) ≡ ((n >>= worth) >>= λ v. as_number v >>= λ k. (a >>= nodes) >>= repeated k)
repetition_same n a =
    then_nodes (n >>= number) _ (λ k. (a >>= nodes) >>= repeated k) (λ k. then_nodes a _ (λ f. nodes (nexts k f)) (λ f. bind_at (nexts k f) nodes) ∙ sym (take-formula a (λ f. nodes (nexts k f))))
    ∙ sym (take-number n (λ k. (a >>= nodes) >>= repeated k))

-- there is one kind of it
making_nexts : {work : List ℕ} {m : Machine} → Expands work m Kind.nexts Kind.window → making_of (kind_at work m.value) ≡ a_repetition
making_nexts {work} {m} k = let l = k.from in let u = k.until in let e : kind_at work m.value ≡ Kind.nexts = omega arith in ap making_of e

-- the entry: its number is worked out first
pub repetition_starts : {s : Source} {mem : List ℕ} {m : Machine} → Expands s.work m Kind.nexts Kind.window → StartsTwo s mem m Phase.repeat 0 Evaluate
repetition_starts {s} {mem} {m} k =
    let e0 = k.mode in
    record {
      entry = omega arith;
      few_turns = omega arith;
      starting = λ R x o out n.
          let v = operand_making n.at.operand (making_nexts k) in
          let t = v.0 in
          let a = v.1 in
          let b = v.2 in
          let p = operand_as n.at.operand v.3 in
          let two = two_operands p Kind.nexts t a b p.known.at (known-nexts t a b p.known) in
          record {
            frame = Repeat n.context b;
            first = a;
            holds_nothing = refl;
            inside = two.inside;
            operand = two.left;
            holds = tt;
            waits = two.right;
            kept = tt;
            same = works-formula n e0 ∙ ap (λ (d : Expr). expansion n.context d >>= nodes) v.3 ∙ repetition_same (value n.context.values a) (expansion n.context b);
          };
    }

-- the number has come
module _ {s : Source} {mem : List ℕ} {m : Machine} (w : Waiting mem m Phase.repeat) where
  pub number-steps : m.mode ≡ is_number → {mem' : List ℕ} {n : Machine} → Renewed mem mem' m Phase.repeated 0 m.value 0 (mode_of Expand) n → Takes s mem mem' m (Ok (Next n))
  number-steps e q = record {
    turns = λ R x o out t.
        let v = by_phase t.frame Phase.repeat (top-phase t ∙ w.phase) in
        let c = v.0 in
        let b = v.1 in
        let h = top_as t v.2 in
        let n = came-number R o mem m h.came h.come e in
        follows-last h {G = Repeated m.value} {a = Expand} {c = c} {e = b} q (record {
          held-nothing = refl;
          holds-no-words = refl;
          keeps-formula = ap (written m.nodes) n.same;
          fewer = omega arith;
          operand = h.at.waits;
          holds = record { here = refl; small = n.small };
          waits = tt;
          kept = tt;
          same = number_then n (λ i. works Expand c b >>= repeated i);
        });
  }

-- the formula has come
module _ {s : Source} {mem out : List ℕ} {m : Machine} (w : Waiting mem m Phase.repeated) where
  pub repeated-steps : m.mode ≡ is_nodes → {a r n : ℕ} {out' : List ℕ} → a ≡ get_or mem (m.frames + value_field) 0 → Nexts (unary_kind X) a out out' m.nodes r
      → n ≡ min r (suc max_nodes)
      → TakesToWrite s mem mem out out' m (Ok (Next (wrote (popped m) n)))
  repeated-steps e {a} {r} {n} {out'} ea j en = record {
    turns = λ R x o t.
        let v = by_phase t.frame Phase.repeated (top-phase t ∙ w.phase) in
        let h = top_as t v.1 in
        let g = came-formula R o mem m h.came h.come e in
        let same_number : a ≡ v.0 = ea ∙ value-word h ∙ h.at.holds.here in
        let l = laid-last (formula-laid h g.same) in
        let whole : Wrote (nexts a g.formula) l.before out' l.at n = wrote-capped en ((j X refl l.at).wrote l.wrote) in
        let same-formula : nexts v.0 g.formula ≡ nexts a g.formula = ap (λ (i : ℕ). nexts i g.formula) (sym same_number) in
        finishes h (nexts a g.formula) refl refl refl
        (ap (apply (Repeated v.0)) g.same ∙ bind_at g.formula (λ y. nodes (nexts v.0 y)) ∙ ap (λ (y : Formula). Done (Nodes y)) same-formula)
        l.others whole (omega arith) (begins_stays (begins-nexts a g.formula l.at) l.wrote whole);
  }
