-- An operator of one formula: its operand, then its node.
use Rattle.std.specs.Prelude.{ℕ, suc, ◌+◌, ◌<◌, min, List, ◌≡◌, refl, get_or, Ok}
use Rattle.std.proofs.Common.{sym, ap, ◌∙◌, subst, arith}
use Rattle.node.specs.Limits.{max_nodes}
use Rattle.node.specs.Operators.{Unary}
use Rattle.node.specs.Kinds.{unary_kind}
use Rattle.node.specs.Ltl.{Formula, One}
use Rattle.node.specs.Result.{Result, Done, ◌>>=◌}
use Rattle.node.proofs.ResultLaws.{bind_at}
use Rattle.machine.specs.declared.Move.TheVariants.{Next}
use Rattle.writing.specs.Writing.{Caps}
use Rattle.writing.specs.StayLaws.{one_stays}
use Rattle.language.specs.Operators.{Applies}
use Rattle.language.specs.Tree.{Expr}
use Rattle.language.specs.Expansion.{expansion}
use Rattle.entries.specs.Kinds as Kind
use Rattle.name_values.proofs.KnownLaws.{known-prefixed}
use Rattle.operators.specs.Tables.{prefix_code_at}
use Rattle.operands.specs.Entries.{kind_at, number_at}
use Rattle.operands.specs.MakingLaws.{unary_making}
use Rattle.operands.specs.Working.{Source}
use Rattle.machine.specs.Fields.{entry_field}
use Rattle.machine.specs.Phases as Phase
use Rattle.machine.specs.Came.{Expand, nodes, as_formula}
use Rattle.machine.specs.Frames.{Capping, apply}
use Rattle.machine.specs.OperatorLaws.{prefixed-at, unary-small}
use Rattle.machine.specs.Telling.{is_nodes}
use Rattle.machine.specs.TableLaws.{laid-last, wrote-capped}
use Rattle.machine.specs.States.{ToppedToWrite, TakesToWrite}
use Rattle.machine.specs.Moves.{wrote, popped}
use Rattle.machine.specs.ComeLaws.{came-formula}
use Rattle.machine.specs.FrameViews.{by_phase}
use Rattle.machine.specs.TakeLaws.{entry_word_lem, top-phase, top_as}
use Rattle.machine.specs.StartLaws.{StartsOne}
use Rattle.machine.specs.FormulaLaws.{formula-laid, finishes}
use Rattle.machine.specs.BindLaws.{take-formula, then_nodes}
use Rattle.machine.specs.OperandLaws.{operand_as, one-operand}
use Rattle.machine.specs.declared.Machine.{Machine}
use Rattle.machine.specs.Entering.{Expands, Waiting}
use Rattle.machine.specs.EnteringLaws.{works-formula, operand_making}

-- the clause as its frame has it
unary-same : (o : Unary) (a : Result Formula) → ((a >>= λ f. Done (One o f)) >>= nodes) ≡ ((a >>= nodes) >>= λ v. as_formula v >>= λ f. nodes (One o f))
unary-same o a = then_nodes a _ (λ f. nodes (One o f)) (λ f. bind_at (One o f) nodes) ∙ sym (take-formula a (λ f. nodes (One o f)))

-- the entry: its operand is worked out first
pub unary-starts : {s : Source} {mem : List ℕ} {m : Machine} → Expands s.work m Kind.unary Kind.arithmetic → StartsOne s mem m Phase.capping Expand
unary-starts {s} {mem} {m} k =
    let e0 = k.mode in
    record {
      entry = omega arith;
      few_turns = omega arith;
      starting = λ R x o out n.
          let v = operand_making n.at.operand (unary_making (kind_at s.work m.value) k.from k.until) in
          let t = v.0 in
          let op = v.1 in
          let a = v.2 in
          let p = operand_as n.at.operand v.3 in
          let one = one-operand p (Kind.before (Applies op)) t a p.known.at (known-prefixed t (Applies op) a p.known) in
          record {
            frame = Capping op;
            first = a;
            holds_nothing = refl;
            inside = one.inside;
            operand = one.operand;
            holds = tt;
            waits = (t.at, prefixed-at R.lexed t (Applies op) a p);
            kept = tt;
            same = works-formula n e0 ∙ ap (λ (d : Expr). expansion n.context d >>= nodes) v.3 ∙ unary-same op (expansion n.context a);
          };
    }

-- the operand has come
module _ {s : Source} {mem out : List ℕ} {m : Machine} (w : Waiting mem m Phase.capping) where
  pub capping-small : ToppedToWrite s mem out m → prefix_code_at (number_at s.work (get_or mem (m.frames + entry_field) 0)) < 16
  capping-small t =
      let v = by_phase t.top.frame Phase.capping (top-phase t.top ∙ w.phase) in
      let h = top_as t.top v.1 in
      let e = ap (λ (j : ℕ). prefix_code_at (number_at s.work j)) (entry_word_lem h) ∙ h.at.waits.1.spelt in
      subst (λ (j : ℕ). j < 16) (sym e) (unary-small v.0)

  pub capping-steps : m.mode ≡ is_nodes → {k op r n : ℕ} {out' : List ℕ} → k ≡ get_or mem (m.frames + entry_field) 0 → op ≡ prefix_code_at (number_at s.work k) → Caps op out out' m.nodes r
      → n ≡ min r (suc max_nodes) → TakesToWrite s mem mem out out' m (Ok (Next (wrote (popped m) n)))
  capping-steps e {k} {op} {r} {n} {out'} ek eo j en = record {
    turns = λ R x o t.
        let v = by_phase t.frame Phase.capping (top-phase t ∙ w.phase) in
        let h = top_as t v.1 in
        let g = came-formula R o mem m h.came h.come e in
        let same_op : op ≡ unary_kind v.0 = eo ∙ ap (λ (i : ℕ). prefix_code_at (number_at s.work i)) (ek ∙ entry_word_lem h) ∙ h.at.waits.1.spelt in
        let l = laid-last (formula-laid h g.same) in
        let whole = wrote-capped en ((j v.0 same_op l.at).wrote l.wrote) in
        finishes h (One v.0 g.formula) refl refl refl
        (ap (apply (Capping v.0)) g.same ∙ bind_at g.formula (λ y. nodes (One v.0 y)))
        l.others whole (omega arith) (one_stays v.0 l.wrote whole);
  }
