-- `&&[..]` and `||[..]`: the set has come; the operand at an element was written, and the fold goes on.
use Rattle.std.specs.Prelude.{ℕ, suc, ◌+◌, ◌≤◌, ◌<◌, min, Bool, List, [], ◌∷◌, ◌≡◌, refl, eqb, get_or, Ok, Err}
use Rattle.std.proofs.Common.{sym, ap, ◌∙◌, subst, arith}
use Rattle.node.specs.Limits.{max_nodes}
use Rattle.node.specs.Operators.{And}
use Rattle.node.specs.Kinds.{binary_kind}
use Rattle.node.specs.Ltl.{Formula, Two}
use Rattle.node.specs.Result.{Result, ◌>>=◌}
use Rattle.node.proofs.ResultLaws.{bind_at}
use Rattle.node.specs.Returned.{refusal}
use Rattle.machine.specs.declared.Move.TheVariants.{Next}
use Rattle.machine.specs.Stepped.{Stepped}
use Rattle.writing.specs.Writing.{Wrote, Joins}
use Rattle.writing.specs.StayLaws.{two_stays, stays_none, wrote_stays}
use Rattle.language.specs.Tokens.{Token}
use Rattle.language.specs.Operators.{Big}
use Rattle.language.specs.Tree.{Expr}
use Rattle.language.specs.Expansion.{Context, big_formula}
use Rattle.language.specs.Expansion as Expansion
use Rattle.entries.specs.Kinds as Kind
use Rattle.operators.specs.Codes.{big_code}
use Rattle.operators.specs.Tables.{prefix_code_at}
use Rattle.operands.specs.Entries.{kind_at, number_at}
use Rattle.operands.specs.Working.{Source}
use Rattle.machine.specs.Fields.{entry_field, value_field}
use Rattle.machine.specs.Phases as Phase
use Rattle.machine.specs.Came.{Expand, Came, nodes}
use Rattle.machine.specs.Frames.{OverEach, FirstEach, NextEach, connective, formula_at, onward_formulas, apply}
use Rattle.machine.specs.Realm.{Realm}
use Rattle.machine.specs.OperatorLaws.{binary-small}
use Rattle.machine.specs.Moves.{above, wrote, popped}
use Rattle.machine.specs.Telling.{is_set, is_nodes}
use Rattle.machine.specs.Table.{Began}
use Rattle.machine.specs.TableLaws.{laid_more, laid-last, laid_end, wrote-capped}
use Rattle.machine.specs.States.{mode_of, TopOf, Topped, Takes, ToppedToWrite, TakesToWrite}
use Rattle.machine.specs.ComeLaws.{came-set, came-formula, misfit_then}
use Rattle.machine.specs.FrameViews.{by_phase}
use Rattle.machine.specs.TakeLaws.{entry_word_lem, value-word, refuses, top-phase, top_as}
use Rattle.machine.specs.FlatLaws.{flat-laid}
use Rattle.machine.specs.FormulaLaws.{formula-laid, finishes}
use Rattle.machine.specs.declared.Machine.{Machine}
use Rattle.machine.specs.Entering.{Waiting}
use Rattle.fold_steps.specs.BigLaws.{of_formulas}
use Rattle.fold_steps.specs.Turning.{Turns, begun, Beginning}
use Rattle.fold_steps.specs.ElementLaws.{split, beginning, begins, no_element}
use Rattle.each_steps.specs.Onward.{Turnable, Onward}
use Rattle.each_steps.specs.OnwardLaws.{turnable, goes_on}
use Rattle.each_steps.specs.GatherLaws.{connective-code, no_formulas, over_nothing_lem, first-same}

-- the operand at the first element was written
module _ {s : Source} {mem : List ℕ} {m : Machine} (w : Waiting mem m Phase.first_each) where
  pub first-turnable : Topped s mem m → Turnable mem m m.nodes
  first-turnable t =
      let v = by_phase t.top.frame Phase.first_each (top-phase t.top ∙ w.phase) in
      let h = top_as t.top v.5 in
      turnable h {phase = Phase.first_each} {rest = v.4} {forms = []} refl t.lent.small h.few

  pub first-steps : m.mode ≡ is_nodes → {mem' : List ℕ} {r : Stepped} → Onward mem mem' m m.nodes r → Takes s mem mem' m r
  first-steps e {mem'} {r} u = record {
    turns = λ R x o out t.
        let v = by_phase t.frame Phase.first_each (top-phase t ∙ w.phase) in
        let op = v.0 in
        let c = v.1 in
        let i = v.2 in
        let a = v.3 in
        let rest = v.4 in
        let h = top_as t v.5 in
        let g = came-formula R o mem m h.came h.come e in
        goes_on h {phase = Phase.first_each} {rest = rest} {forms = []} refl {op = op} {c = c} {i = i} {e = a} {a = g.formula} {out' = out} {n = m.nodes} (record {
          fewer = λ y. omega arith;
          fine = h.at.holds;
          folding = h.at.waits.0;
          each = h.at.waits.1;
          formulas = h.at.waits.2;
          laid = formula-laid h g.same;
          few = h.few;
          stays = stays_none out m.nodes;
          same = ap (apply (FirstEach op c i a rest)) g.same ∙ bind_at g.formula (onward_formulas op c i a rest);
        }) u;
  }

-- the operand at a further element was written
module _ {s : Source} {mem out : List ℕ} {m : Machine} (w : Waiting mem m Phase.next_each) where
  pub next-turnable : ToppedToWrite s mem out m → {n : ℕ} → n ≤ suc max_nodes → Turnable mem m n
  next-turnable t few =
      let v = by_phase t.top.frame Phase.next_each (top-phase t.top ∙ w.phase) in
      let h = top_as t.top v.7 in
      turnable h {phase = Phase.next_each} {rest = v.6} {forms = record { formula = v.4; end = v.5 } ∷ []} refl t.lent.small few

  pub next_small : ToppedToWrite s mem out m → prefix_code_at (number_at s.work (get_or mem (m.frames + entry_field) 0)) < 16
  next_small t =
      let v = by_phase t.top.frame Phase.next_each (top-phase t.top ∙ w.phase) in
      let h = top_as t.top v.7 in
      let e = ap (λ (j : ℕ). prefix_code_at (number_at s.work j)) (entry_word_lem h) ∙ h.at.waits.0.here.spelt ∙ connective-code v.0 h.at.waits.2 in
      subst (λ (j : ℕ). j < 16) (sym e) (binary-small (connective v.0))

  pub next-steps : m.mode ≡ is_nodes → {k op folded r n : ℕ} {mem' out' : List ℕ} {u : Stepped} → k ≡ get_or mem (m.frames + entry_field) 0 → op ≡ prefix_code_at (number_at s.work k)
      → folded ≡ get_or mem (m.frames + value_field) 0 → Joins op out out' folded m.nodes r → n ≡ min r (suc max_nodes) → Onward mem mem' m n u → TakesToWrite s mem mem' out out' m u
  next-steps e {k} {op} {folded} {r} {n} {mem'} {out'} {u} ek eo ef j en on = record {
    turns = λ R x o t.
        let v = by_phase t.frame Phase.next_each (top-phase t ∙ w.phase) in
        let big = v.0 in
        let c = v.1 in
        let i = v.2 in
        let a = v.3 in
        let f = v.4 in
        let rest = v.6 in
        let h = top_as t v.7 in
        let g = came-formula R o mem m h.came h.come e in
        let same_op : op ≡ binary_kind (connective big) =
        eo ∙ ap (λ (y : ℕ). prefix_code_at (number_at s.work y)) (ek ∙ entry_word_lem h) ∙ h.at.waits.0.here.spelt ∙ connective-code big h.at.waits.2 in
        let l1 = laid-last (formula-laid h g.same) in
        let l2 = laid-last l1.others in
        let same_end : l1.at ≡ folded = laid_end _ l1.others ∙ sym (ef ∙ value-word h ∙ h.at.holds.1) in
        let first : Wrote f l2.before l1.before l2.at folded = subst (λ (y : ℕ). Wrote f l2.before l1.before l2.at y) same_end l2.wrote in
        let second : Wrote g.formula l1.before out folded m.nodes = subst (λ (y : ℕ). Wrote g.formula l1.before out y m.nodes) same_end l1.wrote in
        let both = wrote-capped en (j.wrote (connective big) same_op first second) in
        let st = two_stays (connective big) first second both in
        goes_on h {phase = Phase.next_each} {rest = rest} {forms = record { formula = f; end = v.5 } ∷ []} refl {op = big} {c = c} {i = i} {e = a} {a = Two (connective big) f g.formula} {out' = out'} {n = n} (record {
          fewer = λ y. omega arith;
          fine = h.at.holds.0;
          folding = h.at.waits.0;
          each = h.at.waits.1;
          formulas = h.at.waits.2;
          laid = laid_more (Two (connective big) f g.formula) l2.others both;
          few = omega arith;
          stays = record { further = st.further; same = st.same };
          same = ap (apply (NextEach big c i a f v.5 rest)) g.same ∙ bind_at g.formula (λ y. onward_formulas big c i a rest (Two (connective big) f y));
        }) on;
  }

-- the set has come
module _ {s : Source} {mem out : List ℕ} {m : Machine} (w : Waiting mem m Phase.over_each) where
  module _ (e : m.mode ≡ is_set) where
    pub elements-beginning : ToppedToWrite s mem out m → (m.value ≡ 0 → ⊥) → Beginning mem m
    elements-beginning t some' =
        let v = by_phase t.top.frame Phase.over_each (top-phase t.top ∙ w.phase) in
        let h = top_as t.top v.4 in
        beginning h {phase = Phase.over_each} refl (came-set t.realm t.began mem m h.came h.come e) t.lent.small (omega arith)

    module _ {k kind : ℕ} (ek : k ≡ get_or mem (m.frames + entry_field) 0) (ei : kind ≡ kind_at s.work k) where
      kind-is : {R : Realm s} {x : Result Came} {o : Began} {op : Big} {c : Context} {i : Token} {a : Expr} (h : TopOf R mem out m x o (OverEach op c i a)) → kind ≡ Kind.big op
      kind-is h = ei ∙ ap (kind_at s.work) (ek ∙ entry_word_lem h) ∙ h.at.waits.0.here.kind

      pub elements-formless : kind < Kind.big_formulas → TakesToWrite s mem mem out out m (Err (refusal 9 0))
      elements-formless l = record {
        turns = λ R x o t.
            let v = by_phase t.frame Phase.over_each (top-phase t ∙ w.phase) in
            let op = v.0 in
            let h = top_as t v.4 in
            let g = came-set R o mem m h.came h.come e in
            let f = formula_at v.1 v.2 v.3 in
            let z = kind-is h in
            refuses h (ap (apply (OverEach op v.1 v.2 v.3)) g.same ∙ bind_at g.set (λ y. big_formula op f y >>= nodes) ∙ misfit_then nodes (no_formulas op (omega arith) f g.set));
      }

      -- over nothing
      pub elements-none : Kind.big_formulas ≤ kind → m.value ≡ 0 → {b : Bool} {out' : List ℕ} {code r n : ℕ} → code ≡ prefix_code_at (number_at s.work k) → b ≡ eqb code (binary_kind And)
          → Wrote (Expansion.truth b) out out' m.nodes r → n ≡ min r (suc max_nodes)
          → TakesToWrite s mem mem out out' m (Ok (Next (wrote (popped m) n)))
      elements-none l z {b} {out'} {code} {r} {n} ec eb wr en = record {
        turns = λ R x o t.
            let v = by_phase t.frame Phase.over_each (top-phase t ∙ w.phase) in
            let op = v.0 in
            let h = top_as t v.4 in
            let g = came-set R o mem m h.came h.come e in
            let f = formula_at v.1 v.2 v.3 in
            let ki = kind-is h in
            let sz = g.count in
            let empty : g.set ≡ [] = no_element g.set (omega arith) in
            let same_code : code ≡ big_code op = ec ∙ ap (λ (y : ℕ). prefix_code_at (number_at s.work y)) (ek ∙ entry_word_lem h) ∙ h.at.waits.0.here.spelt in
            let is_all = eqb (big_code op) (binary_kind And) in
            let t' : Expansion.truth b ≡ Expansion.truth is_all = ap Expansion.truth (eb ∙ ap (λ (y : ℕ). eqb y (binary_kind And)) same_code) in
            let wt = wrote-capped en (subst (λ (y : Formula). Wrote y out out' m.nodes r) t' wr) in
            finishes h (Expansion.truth is_all) refl refl refl
            (ap (apply (OverEach op v.1 v.2 v.3)) g.same ∙ bind_at g.set (λ y. big_formula op f y >>= nodes) ∙ ap (λ (y : List ℕ). big_formula op f y >>= nodes) empty
            ∙ over_nothing_lem op (of_formulas op (omega arith)) f)
            (flat-laid h refl g.same) wt (omega arith) (wrote_stays wt);
      }

      -- over a first element and others
      pub elements-steps : Kind.big_formulas ≤ kind → (m.value ≡ 0 → ⊥) → {mem' : List ℕ} {n : Machine}
          → Turns mem mem' m (begun mem m Phase.first_each) m.depth (get_or mem m.from 0) (mode_of Expand) (above m) n → TakesToWrite s mem mem' out out m (Ok (Next n))
      elements-steps l some' {mem'} {n} q = record {
        turns = λ R x o t.
            let v = by_phase t.frame Phase.over_each (top-phase t ∙ w.phase) in
            let op = v.0 in
            let c = v.1 in
            let i = v.2 in
            let a = v.3 in
            let h = top_as t v.4 in
            let g = came-set R o mem m h.came h.come e in
            let sz = g.count in
            let p = split mem m.from g.set g.held g.fine (omega arith) in
            let ki = kind-is h in
            let of = of_formulas op (omega arith) in
            let f = formula_at c i a in
            begins h {phase = Phase.over_each} refl g p {G = FirstEach op c i a p.rest} {new = Phase.first_each} {a = Expand} {c = c} {i = i} {e = a} (record {
              turns = q;
              is-turning = refl;
              fewer = λ y u. omega arith;
              holds = p.fine;
              waits = (record { place = h.at.waits.0.place; here = h.at.waits.0.here }, h.at.waits.1, of);
              each = h.at.waits.1;
              kept = tt;
              same = ap (apply (OverEach op c i a)) g.same ∙ bind_at g.set (λ y. big_formula op f y >>= nodes) ∙ ap (λ (y : List ℕ). big_formula op f y >>= nodes) p.same ∙ first-same op of f _ p.rest;
            });
      }
