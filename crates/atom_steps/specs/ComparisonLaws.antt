-- A comparison: its left operand, its right operand.
use Rattle.std.specs.Prelude.{ℕ, suc, ◌+◌, min, Bool, List, ◌≡◌, refl, get_or, Ok, Err}
use Rattle.std.proofs.Common.{sym, ap, ap₂, ◌∙◌, subst, arith}
use Rattle.node.specs.Limits.{max_nodes}
use Rattle.node.specs.Ltl.{Formula}
use Rattle.node.specs.Result.{Result, Done, Refused, ◌>>=◌}
use Rattle.node.proofs.ResultLaws.{bind_at, bind_again, bind_to, bind_refused}
use Rattle.node.specs.Returned.{refusal}
use Rattle.machine.specs.declared.Move.TheVariants.{Next}
use Rattle.writing.specs.Writing.{Wrote}
use Rattle.language.specs.Operators.{Comparison}
use Rattle.language.specs.Tree.{Expr}
use Rattle.language.specs.Values.{Value, bus, value}
use Rattle.language.specs.DeclaredNames.{Port}
use Rattle.language.specs.Expansion.{Context, truth, test, against, compared, expansion}
use Rattle.entries.specs.Kinds as Kind
use Rattle.sets.specs.Operators.{comparison}
use Rattle.name_values.specs.World.{name_at}
use Rattle.operators.specs.Tables.{infix_code_at}
use Rattle.operands.specs.Entries.{kind_at, number_at}
use Rattle.operands.specs.MakingLaws.{comparison_making}
use Rattle.operands.specs.Working.{Source}
use Rattle.machine.specs.Fields.{entry_field, at_field, value_field, other_field}
use Rattle.machine.specs.Phases as Phase
use Rattle.machine.specs.Came.{Evaluate, Came, worth, nodes, works, as_value}
use Rattle.machine.specs.Frames.{LeftCompared, RightCompared, comparing, apply}
use Rattle.machine.specs.Realm.{Realm}
use Rattle.machine.specs.OperatorLaws.{op_comparison}
use Rattle.machine.specs.Telling.{is_number, is_bus, is_unsized, is_choice, is_nodes, Tells}
use Rattle.machine.specs.Table.{Began}
use Rattle.machine.specs.States.{mode_of, written, TopOf, Topped, Takes, TakesToWrite}
use Rattle.machine.specs.Moves.{wrote, popped}
use Rattle.machine.specs.FrameViews.{by_phase}
use Rattle.machine.specs.TakeLaws.{words, entry_word_lem, at-word, value-word, other_word, refuses, top-phase, top_as}
use Rattle.machine.specs.Openings.{Renewed}
use Rattle.machine.specs.StartLaws.{StartsTwo}
use Rattle.machine.specs.RenewLaws.{follows-last}
use Rattle.machine.specs.BindLaws.{take-value, then_nodes}
use Rattle.machine.specs.declared.Machine.{Machine}
use Rattle.machine.specs.Entering.{Expands, Waiting}
use Rattle.machine.specs.EnteringLaws.{works-formula, operand_making}
use Rattle.machine.specs.JoinedLaws.{joined-two, joined_op}
use Rattle.atom_steps.specs.WriteLaws.{writes-after}
use Rattle.machine.specs.TellLaws.{
  tells-number,
  tells-no_number,
  tells-bus,
  tells_unsized,
  tells_no_bus,
  tells-choice,
  tells_no_choice,
  tells_uncompared,
  tells-again,
  IsValue,
  came-value,
}
use Rattle.atom_steps.specs.Comparing.{Nameable, NameOf, Comparing, Faces}

-- the clause as its frames have it
comparison-same : (c : Context) (o : Comparison) (a b : Result Value) → ((a >>= λ x. b >>= compared c.ports o x) >>= nodes) ≡ ((a >>= worth) >>= λ v. as_value v >>= λ x. (b >>= worth) >>= comparing o c x)
comparison-same c o a b =
    then_nodes a _ (λ x. (b >>= worth) >>= comparing o c x)
    (λ x. bind_again b (compared c.ports o x) nodes ∙ sym (take-value b (λ y. compared c.ports o x y >>= nodes)))
    ∙ sym (take-value a (λ x. (b >>= worth) >>= comparing o c x))

-- the entry: its left operand is worked out first
pub comparison-starts : {s : Source} {mem : List ℕ} {m : Machine} → Expands s.work m Kind.equality Kind.membership → StartsTwo s mem m Phase.left_compared 0 Evaluate
comparison-starts {s} {mem} {m} k =
    let e0 = k.mode in
    record {
      entry = omega arith;
      few_turns = omega arith;
      starting = λ R x o out n.
          let v = operand_making n.at.operand (comparison_making (kind_at s.work m.value) k.from k.until) in
          let t = v.0 in
          let op = v.1 in
          let a = v.2 in
          let b = v.3 in
          let two = joined-two R n.at.operand v.4 in
          record {
            frame = LeftCompared op n.context b;
            first = a;
            holds_nothing = refl;
            inside = two.inside;
            operand = two.left;
            holds = tt;
            waits = (t.at, joined_op R n.at.operand v.4, two.right);
            kept = tt;
            same = works-formula n e0 ∙ ap (λ (d : Expr). expansion n.context d >>= nodes) v.4 ∙ comparison-same n.context op (value n.context.values a) (value n.context.values b);
          };
    }

-- the left operand has come
module _ {s : Source} {mem : List ℕ} {m : Machine} (w : Waiting mem m Phase.left_compared) where
  module _ (e : m.mode ≡ is_nodes → ⊥) where
    pub left-nameable : Topped s mem m → Nameable m
    left-nameable t =
        let h = t.top.top in
        let g = came-value t.realm t.began mem m h.came h.come e in
        let W = t.realm.W in
        record {
          bus = λ z. (tells-bus W m.mode m.value m.from g.value g.tells z).declared;
          choice = λ z. (tells-choice W m.mode m.value m.from g.value g.tells z).declared;
        }

    pub left-steps : {mem' : List ℕ} {r : ℕ} {n : Machine} → NameOf m r → Renewed mem mem' m Phase.right_compared m.mode m.value r (mode_of Evaluate) n → Takes s mem mem' m (Ok (Next n))
    left-steps {mem'} {r} z q = record {
      turns = λ R x o out t.
          let v = by_phase t.frame Phase.left_compared (top-phase t ∙ w.phase) in
          let op = v.0 in
          let c = v.1 in
          let b = v.2 in
          let h = top_as t v.3 in
          let g = came-value R o mem m h.came h.come e in
          follows-last h {G = RightCompared op c g.value} {a = Evaluate} {c = c} {e = b} q (record {
            held-nothing = refl;
            holds-no-words = refl;
            keeps-formula = ap (written m.nodes) g.same;
            fewer = omega arith;
            operand = h.at.waits.2;
            holds = tells-again R.W m.mode m.value m.from g.value g.tells r z.bus z.choice;
            waits = (h.at.waits.0, h.at.waits.1, h.at.waits.2.ports);
            kept = tt;
            same = ap (apply (LeftCompared op c b)) g.same ∙ bind_at g.value (λ y. works Evaluate c b >>= comparing op c y);
          });
    }

module _ {s : Source} {mem out : List ℕ} {m : Machine} (w : Waiting mem m Phase.right_compared) where
  module _ (e : m.mode ≡ is_nodes → ⊥) where
    module _ {R : Realm s} {x : Result Came} {o : Began} {op : Comparison} {c : Context} {u : Value} (h : TopOf R mem out m x o (RightCompared op c u)) where
      right : IsValue R m h.came
      right = came-value R o mem m h.came h.come e

      -- both operands, and what is made of them
      made : apply (RightCompared op c u) h.came ≡ (compared R.ports op u right.value >>= nodes)
      made =
          ap (apply (RightCompared op c u)) right.same ∙ bind_at right.value (λ y. compared c.ports op u y >>= nodes)
          ∙ ap (λ (ps : List Port). compared ps op u right.value >>= nodes) h.at.waits.2

      -- the left one as the frame's words tell it
      left-tells : {mode value other : ℕ} → get_or mem (m.frames + at_field) 0 ≡ mode → value ≡ get_or mem (m.frames + value_field) 0 → other ≡ get_or mem (m.frames + other_field) 0 → Tells R.W mode value other u
      left-tells {mode} {value} {other} e3 e5 e6 =
          subst (λ (i : ℕ). Tells R.W i value other u) (sym (at-word h) ∙ e3)
          (subst (λ (i : ℕ). Tells R.W (words h).at i other u) (sym (e5 ∙ value-word h)) (subst (λ (i : ℕ). Tells R.W (words h).at (words h).value i u) (sym (e6 ∙ other_word h)) h.at.holds))

      op-is : {i : ℕ} → i ≡ infix_code_at (number_at s.work (get_or mem (m.frames + entry_field) 0)) → comparison i ≡ op
      op-is ei = ap comparison (ei ∙ ap (λ (j : ℕ). infix_code_at (number_at s.work j)) (entry_word_lem h)) ∙ op_comparison h.at.waits.1

    pub right-unsized : {p : ℕ} → get_or mem (m.frames + at_field) 0 ≡ is_unsized → p ≡ get_or mem (m.frames + value_field) 0 → TakesToWrite s mem mem out out m (Err (refusal 13 p))
    right-unsized {p} z ep = record {
      turns = λ R x o t.
          let v = by_phase t.frame Phase.right_compared (top-phase t ∙ w.phase) in
          let h = top_as t v.3 in
          let l = tells_unsized R.W is_unsized p _ v.2 (left-tells h z ep refl) refl in
          refuses h (made h ∙ ap (λ (y : Value). compared R.ports v.0 y (right h).value >>= nodes) l ∙ bind_refused _ 13 p nodes refl);
    }

    pub right-uncompared : (get_or mem (m.frames + at_field) 0 ≡ is_number → ⊥) → (get_or mem (m.frames + at_field) 0 ≡ is_bus → ⊥)
        → (get_or mem (m.frames + at_field) 0 ≡ is_choice → ⊥) → (get_or mem (m.frames + at_field) 0 ≡ is_unsized → ⊥)
        → TakesToWrite s mem mem out out m (Err (refusal 9 0))
    right-uncompared a b c d = record {
      turns = λ R x o t.
          let v = by_phase t.frame Phase.right_compared (top-phase t ∙ w.phase) in
          let h = top_as t v.3 in
          refuses h (made h ∙ bind_refused _ 9 0 nodes (tells_uncompared R.W (get_or mem (m.frames + at_field) 0) _ _ v.2 (left-tells h refl refl refl) a b c d R.ports v.0 (right h).value));
    }

-- a number on the left
module _ {s : Source} {mem out : List ℕ} {m : Machine} (w : Comparing mem m is_number) where
  pub number-misfits : (m.mode ≡ is_number → ⊥) → TakesToWrite s mem mem out out m (Err (refusal 9 0))
  number-misfits z = record {
    turns = λ R x o t.
        let v = by_phase t.frame Phase.right_compared (top-phase t ∙ w.waiting.phase) in
        let h = top_as t v.3 in
        let y = right w.waiting w.value h in
        let l = tells-number R.W is_number _ _ v.2 (left-tells w.waiting w.value h w.left refl refl) refl in
        refuses h (made w.waiting w.value h ∙ ap (λ (i : Value). compared R.ports v.0 i y.value >>= nodes) l
        ∙ bind_refused _ 9 0 nodes (bind_refused _ 9 0 _ (tells-no_number R.W m.mode m.value m.from y.value y.tells z)));
  }

  pub number-steps : m.mode ≡ is_number → {i a r n : ℕ} {b : Bool} {out' : List ℕ} → i ≡ infix_code_at (number_at s.work (get_or mem (m.frames + entry_field) 0)) → a ≡ get_or mem (m.frames + value_field) 0
      → b ≡ test (comparison i) a m.value → Wrote (truth b) out out' m.nodes r → n ≡ min r (suc max_nodes) → TakesToWrite s mem mem out out' m (Ok (Next (wrote (popped m) n)))
  number-steps z {i} {a} {r} {n} {b} {out'} ei ea eb q en = record {
    turns = λ R x o t.
        let v = by_phase t.frame Phase.right_compared (top-phase t ∙ w.waiting.phase) in
        let h = top_as t v.3 in
        let op = v.0 in
        let y = right w.waiting w.value h in
        let l = tells-number R.W is_number a _ v.2 (left-tells w.waiting w.value h w.left ea refl) refl in
        let k = tells-number R.W m.mode m.value m.from y.value y.tells z in
        let f : Formula = truth (test op a m.value) in
        let same : truth b ≡ f = ap truth (eb ∙ ap (λ (j : Comparison). test j a m.value) (op-is w.waiting w.value h ei)) in
        let done : compared R.ports op v.2 y.value ≡ Done f = ap₂ (λ (j g : Value). compared R.ports op j g) l k ∙ bind_at m.value (λ j. Done (truth (test op a j))) in
        writes-after h {phase = Phase.right_compared} refl y.same f (made w.waiting w.value h ∙ bind_to _ f nodes done) (subst (λ (g : Formula). Wrote g out out' m.nodes r) same q) en;
  }

-- a bus on the left
module _ {s : Source} {mem out : List ℕ} {m : Machine} (w : Comparing mem m is_bus) where
  pub bus-misfits : (m.mode ≡ is_choice → ⊥) → TakesToWrite s mem mem out out m (Err (refusal 9 0))
  bus-misfits z = record {
    turns = λ R x o t.
        let v = by_phase t.frame Phase.right_compared (top-phase t ∙ w.waiting.phase) in
        let h = top_as t v.3 in
        let y = right w.waiting w.value h in
        let l = tells-bus R.W is_bus _ _ v.2 (left-tells w.waiting w.value h w.left refl refl) refl in
        refuses h (made w.waiting w.value h ∙ ap (λ (i : Value). compared R.ports v.0 i y.value >>= nodes) l.same
        ∙ bind_refused _ 9 0 nodes (bind_refused _ 9 0 _ (tells_no_choice R.W m.mode m.value m.from y.value y.tells z)));
  }

  pub bus_faces : m.mode ≡ is_choice → {p b : ℕ} → p ≡ get_or mem (m.frames + value_field) 0 → b ≡ get_or mem (m.frames + other_field) 0 → Faces s mem out m p b m.from
  bus_faces z {p} {b} ep eb = record {
    faced = λ R x o t.
        let v = by_phase t.frame Phase.right_compared (top-phase t ∙ w.waiting.phase) in
        let op = v.0 in
        let h = top_as t v.3 in
        let y = right w.waiting w.value h in
        let l = tells-bus R.W is_bus p b v.2 (left-tells w.waiting w.value h w.left ep eb) refl in
        let k = tells-choice R.W m.mode m.value m.from y.value y.tells z in
        record {
          frame = RightCompared op v.1 v.2;
          top = h;
          flat = refl;
          value = y.value;
          came = y.same;
          operator = op;
          code = ap (λ (j : ℕ). infix_code_at (number_at s.work j)) (entry_word_lem h) ∙ h.at.waits.1.spelt;
          width = l.width;
          words = k.words;
          bus = l.declared;
          bus_means = l.means;
          choice = k.declared;
          choice_means = k.means;
          same = made w.waiting w.value h ∙ ap₂ (λ (i j : Value). compared R.ports op i j >>= nodes) l.same k.same
              ∙ ap (λ (i : Result Formula). i >>= nodes) (bind_at k.words (against R.ports op (record { place = p; name = name_at R.W b; width = l.width })));
        };
  }

-- an identifier on the left
module _ {s : Source} {mem out : List ℕ} {m : Machine} (w : Comparing mem m is_choice) where
  pub identifier-refuses : {number place : ℕ} → ((R : Realm s) (y : Value) → Tells R.W m.mode m.value m.from y → bus y ≡ Refused number place) → TakesToWrite s mem mem out out m (Err (refusal number place))
  identifier-refuses {number} {place} q = record {
    turns = λ R x o t.
        let v = by_phase t.frame Phase.right_compared (top-phase t ∙ w.waiting.phase) in
        let h = top_as t v.3 in
        let y = right w.waiting w.value h in
        let l = tells-choice R.W is_choice _ _ v.2 (left-tells w.waiting w.value h w.left refl refl) refl in
        refuses h (made w.waiting w.value h ∙ ap (λ (i : Value). compared R.ports v.0 i y.value >>= nodes) l.same
        ∙ bind_refused _ number place nodes (bind_refused _ number place _ (q R y.value y.tells)));
  }

  pub identifier_unsized : m.mode ≡ is_unsized → TakesToWrite s mem mem out out m (Err (refusal 13 m.value))
  identifier_unsized z = identifier-refuses (λ R y t. ap bus (tells_unsized R.W m.mode m.value m.from y t z))

  pub identifier-misfits : (m.mode ≡ is_unsized → ⊥) → (m.mode ≡ is_bus → ⊥) → TakesToWrite s mem mem out out m (Err (refusal 9 0))
  identifier-misfits a b = identifier-refuses (λ R y t. tells_no_bus R.W m.mode m.value m.from y t b a)

  pub identifier_faces : m.mode ≡ is_bus → {i : ℕ} → i ≡ get_or mem (m.frames + other_field) 0 → Faces s mem out m m.value m.from i
  identifier_faces z {i} ei = record {
    faced = λ R x o t.
        let v = by_phase t.frame Phase.right_compared (top-phase t ∙ w.waiting.phase) in
        let op = v.0 in
        let h = top_as t v.3 in
        let y = right w.waiting w.value h in
        let l = tells-choice R.W is_choice _ i v.2 (left-tells w.waiting w.value h w.left refl ei) refl in
        let k = tells-bus R.W m.mode m.value m.from y.value y.tells z in
        record {
          frame = RightCompared op v.1 v.2;
          top = h;
          flat = refl;
          value = y.value;
          came = y.same;
          operator = op;
          code = ap (λ (j : ℕ). infix_code_at (number_at s.work j)) (entry_word_lem h) ∙ h.at.waits.1.spelt;
          width = k.width;
          words = l.words;
          bus = k.declared;
          bus_means = k.means;
          choice = l.declared;
          choice_means = l.means;
          same = made w.waiting w.value h ∙ ap₂ (λ (i j : Value). compared R.ports op i j >>= nodes) l.same k.same
              ∙ ap (λ (i : Result Formula). i >>= nodes) (bind_at (record { place = m.value; name = name_at R.W m.from; width = k.width }) (λ j. against R.ports op j l.words));
        };
  }
