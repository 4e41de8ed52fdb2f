-- A connective: its left operand, its right operand.
use Rattle.std.specs.Prelude.{ℕ, suc, ◌+◌, ◌<◌, min, List, ◌≡◌, refl, get_or, Ok}
use Rattle.std.proofs.Common.{sym, ap, ◌∙◌, subst, arith}
use Rattle.node.specs.Limits.{max_nodes}
use Rattle.node.specs.Operators.{Binary}
use Rattle.node.specs.Ltl.{Formula, Two}
use Rattle.node.specs.Kinds.{binary_kind}
use Rattle.node.specs.Result.{Result, Done, ◌>>=◌}
use Rattle.node.proofs.ResultLaws.{bind_at}
use Rattle.machine.specs.declared.Move.TheVariants.{Next}
use Rattle.writing.specs.Writing.{Wrote, Joins}
use Rattle.writing.specs.StayLaws.{two_stays}
use Rattle.language.specs.Tree.{Expr}
use Rattle.language.specs.Expansion.{expansion}
use Rattle.entries.specs.Kinds as Kind
use Rattle.operators.specs.Tables.{infix_code_at}
use Rattle.operands.specs.Entries.{kind_at, number_at}
use Rattle.operands.specs.MakingLaws.{connective_making}
use Rattle.operands.specs.Working.{Source}
use Rattle.machine.specs.Fields.{entry_field, value_field}
use Rattle.machine.specs.Phases as Phase
use Rattle.machine.specs.Came.{Expand, nodes, works, as_formula}
use Rattle.machine.specs.Frames.{LeftFormula, RightFormula, connected, apply}
use Rattle.machine.specs.OperatorLaws.{binary-small}
use Rattle.machine.specs.Telling.{is_nodes}
use Rattle.machine.specs.TableLaws.{laid-last, laid_end, wrote-capped}
use Rattle.machine.specs.States.{mode_of, written, Takes, ToppedToWrite, TakesToWrite}
use Rattle.machine.specs.Moves.{wrote, popped}
use Rattle.machine.specs.ComeLaws.{came-formula}
use Rattle.machine.specs.FrameViews.{by_phase}
use Rattle.machine.specs.TakeLaws.{entry_word_lem, value-word, top-phase, top_as}
use Rattle.machine.specs.Openings.{Renewed}
use Rattle.machine.specs.StartLaws.{StartsTwo}
use Rattle.machine.specs.JoinedLaws.{joined-two, joined_op}
use Rattle.machine.specs.RenewLaws.{follows-last}
use Rattle.machine.specs.FormulaLaws.{formula-laid, finishes}
use Rattle.machine.specs.BindLaws.{take-formula, then_nodes}
use Rattle.machine.specs.declared.Machine.{Machine}
use Rattle.machine.specs.Entering.{Expands, Waiting}
use Rattle.machine.specs.EnteringLaws.{works-formula, operand_making}

-- the clause as its frames have it
connective-same : (o : Binary) (a b : Result Formula) → ((a >>= λ f. b >>= λ g. Done (Two o f g)) >>= nodes) ≡ ((a >>= nodes) >>= λ v. as_formula v >>= λ f. (b >>= nodes) >>= connected o f)
connective-same o a b =
    then_nodes a _ (λ f. (b >>= nodes) >>= connected o f) (λ f. then_nodes b _ (λ g. nodes (Two o f g)) (λ g. bind_at (Two o f g) nodes) ∙ sym (take-formula b (λ g. nodes (Two o f g))))
    ∙ sym (take-formula a (λ f. (b >>= nodes) >>= connected o f))

-- the entry: its left operand is worked out first
pub connective-starts : {s : Source} {mem : List ℕ} {m : Machine} → Expands s.work m Kind.binary Kind.nexts → StartsTwo s mem m Phase.left_formula 0 Expand
connective-starts {s} {mem} {m} k =
    let e0 = k.mode in
    record {
      entry = omega arith;
      few_turns = omega arith;
      starting = λ R x o out n.
          let v = operand_making n.at.operand (connective_making (kind_at s.work m.value) k.from k.until) in
          let t = v.0 in
          let op = v.1 in
          let a = v.2 in
          let b = v.3 in
          let two = joined-two R n.at.operand v.4 in
          record {
            frame = LeftFormula op n.context b;
            first = a;
            holds_nothing = refl;
            inside = two.inside;
            operand = two.left;
            holds = tt;
            waits = (t.at, joined_op R n.at.operand v.4, two.right);
            kept = tt;
            same = works-formula n e0 ∙ ap (λ (d : Expr). expansion n.context d >>= nodes) v.4 ∙ connective-same op (expansion n.context a) (expansion n.context b);
          };
    }

-- the left operand has come
module _ {s : Source} {mem : List ℕ} {m : Machine} (w : Waiting mem m Phase.left_formula) where
  pub left-steps : m.mode ≡ is_nodes → {mem' : List ℕ} {i : ℕ} {n : Machine} → i ≡ m.nodes → Renewed mem mem' m Phase.right_formula 0 i 0 (mode_of Expand) n → Takes s mem mem' m (Ok (Next n))
  left-steps e en q = record {
    turns = λ R x o out t.
        let v = by_phase t.frame Phase.left_formula (top-phase t ∙ w.phase) in
        let op = v.0 in
        let c = v.1 in
        let b = v.2 in
        let h = top_as t v.3 in
        let g = came-formula R o mem m h.came h.come e in
        follows-last h {G = RightFormula op g.formula m.nodes} {a = Expand} {c = c} {e = b} q (record {
          held-nothing = refl;
          holds-no-words = refl;
          keeps-formula = ap (written m.nodes) g.same;
          fewer = omega arith;
          operand = h.at.waits.2;
          holds = en;
          waits = (h.at.waits.0, h.at.waits.1);
          kept = tt;
          same = ap (apply (LeftFormula op c b)) g.same ∙ bind_at g.formula (λ y. works Expand c b >>= connected op y);
        });
  }

-- the right operand has come
module _ {s : Source} {mem out : List ℕ} {m : Machine} (w : Waiting mem m Phase.right_formula) where
  pub right-small : ToppedToWrite s mem out m → infix_code_at (number_at s.work (get_or mem (m.frames + entry_field) 0)) < 16
  right-small t =
      let v = by_phase t.top.frame Phase.right_formula (top-phase t.top ∙ w.phase) in
      let h = top_as t.top v.3 in
      let e = ap (λ (j : ℕ). infix_code_at (number_at s.work j)) (entry_word_lem h) ∙ h.at.waits.1.spelt in
      subst (λ (j : ℕ). j < 16) (sym e) (binary-small v.0)

  pub right-steps : m.mode ≡ is_nodes → {k op a r n : ℕ} {out' : List ℕ} → k ≡ get_or mem (m.frames + entry_field) 0 → op ≡ infix_code_at (number_at s.work k) → a ≡ get_or mem (m.frames + value_field) 0
      → Joins op out out' a m.nodes r → n ≡ min r (suc max_nodes) → TakesToWrite s mem mem out out' m (Ok (Next (wrote (popped m) n)))
  right-steps e {k} {op} {a} {r} {n} {out'} ek eo ea j en = record {
    turns = λ R x o t.
        let v = by_phase t.frame Phase.right_formula (top-phase t ∙ w.phase) in
        let h = top_as t v.3 in
        let g = came-formula R o mem m h.came h.come e in
        let same_op : op ≡ binary_kind v.0 = eo ∙ ap (λ (i : ℕ). infix_code_at (number_at s.work i)) (ek ∙ entry_word_lem h) ∙ h.at.waits.1.spelt in
        let l1 = laid-last (formula-laid h g.same) in
        let l2 = laid-last l1.others in
        let same_end : l1.at ≡ a = laid_end _ l1.others ∙ sym (ea ∙ value-word h ∙ h.at.holds) in
        let first : Wrote v.1 l2.before l1.before l2.at a = subst (λ (i : ℕ). Wrote v.1 l2.before l1.before l2.at i) same_end l2.wrote in
        let second : Wrote g.formula l1.before out a m.nodes = subst (λ (i : ℕ). Wrote g.formula l1.before out i m.nodes) same_end l1.wrote in
        let both = wrote-capped en (j.wrote v.0 same_op first second) in
        finishes h (Two v.0 v.1 g.formula) refl refl refl
        (ap (apply (RightFormula v.0 v.1 v.2)) g.same ∙ bind_at g.formula (λ y. nodes (Two v.0 v.1 y)))
        l2.others both (omega arith) (two_stays v.0 first second both);
  }
