-- F[n:m] and G[n:m]: the two numbers, the formula, then its chain and the nodes of X.
use Rattle.std.specs.Prelude.{ℕ, suc, ◌+◌, ◌-◌, ◌≤◌, ◌<◌, min, Bool, true, false, List, ◌≡◌, refl, leb, get_or, Ok, Err}
use Rattle.std.proofs.Common.{sym, ap, ap₂, ◌∙◌, subst, arith, le-leb, ne_eqb}
use Rattle.std.proofs.lemmas.Bool.{lt-leb}
use Rattle.node.specs.Limits.{max_nodes}
use Rattle.node.specs.Operators.{X, F, And, Or}
use Rattle.node.specs.Kinds.{unary_kind, binary_kind}
use Rattle.node.specs.Ltl.{Formula}
use Rattle.node.specs.Result.{Result, Done, Refused, ◌>>=◌, guard}
use Rattle.node.proofs.ResultLaws.{bind_at, guard-pass, guard-stop, guard_bind}
use Rattle.node.specs.Returned.{refusal}
use Rattle.machine.specs.declared.Move.TheVariants.{Next}
use Rattle.writing.specs.Writing.{Wrote, Nexts}
use Rattle.writing.specs.Windows as Windows
use Rattle.writing.specs.StayLaws.{begins_stays, begins-nexts, begins-chain, stays_then}
use Rattle.language.specs.Operators.{Window, FinallyIn, GloballyIn, Windowed as InBrackets}
use Rattle.language.specs.Tree.{Expr}
use Rattle.language.specs.Values.{Value, number, value}
use Rattle.language.specs.Expansion.{expansion, nexts, chain, window_operator}
use Rattle.entries.specs.Kinds as Kind
use Rattle.name_values.proofs.KnownLaws.{known-window}
use Rattle.operators.specs.Codes.{role_code}
use Rattle.operators.specs.Tables.{prefix_code_at}
use Rattle.operands.specs.Entries.{kind_at, size_at, place_at, number_at}
use Rattle.operands.specs.MakingLaws.{window_making}
use Rattle.operands.specs.Working.{Source}
use Rattle.machine.specs.Fields.{entry_field, at_field, value_field, other_field}
use Rattle.machine.specs.Phases as Phase
use Rattle.machine.specs.Came.{Evaluate, Expand, Came, Nodes, nodes, worth, works, as_number}
use Rattle.machine.specs.Frames.{WindowFrom, WindowTo, Windowed, windowing, windowed, apply}
use Rattle.machine.specs.OperatorLaws.{window-at}
use Rattle.machine.specs.Holding.{forms_of}
use Rattle.machine.specs.Telling.{is_number, is_nodes}
use Rattle.machine.specs.TableLaws.{laid-last, laid_end, wrote-capped, laid-sized}
use Rattle.machine.specs.States.{mode_of, written, Topped, Takes, ToppedToWrite, TakesToWrite}
use Rattle.machine.specs.Moves.{wrote, popped}
use Rattle.machine.specs.ComeLaws.{came-number, number_then, came-formula}
use Rattle.machine.specs.FrameViews.{by_phase}
use Rattle.machine.specs.TakeLaws.{entry_word_lem, at-word, value-word, other_word, refuses, top-phase, top_as}
use Rattle.machine.specs.Openings.{Preceded, entry_at, Renewed, RenewedBefore}
use Rattle.machine.specs.StartLaws.{StartsThree}
use Rattle.machine.specs.RenewLaws.{topped-before, follows-last, follows_before}
use Rattle.machine.specs.FlatLaws.{flat-laid}
use Rattle.machine.specs.FormulaLaws.{formula-laid, finishes}
use Rattle.machine.specs.BindLaws.{take-number, take-formula, then_nodes}
use Rattle.machine.specs.OperandLaws.{operand_as, three-operands}
use Rattle.machine.specs.declared.Machine.{Machine}
use Rattle.machine.specs.Entering.{Expands, Waiting}
use Rattle.machine.specs.EnteringLaws.{works-formula, operand_making}
use Rattle.temporal_steps.specs.TableLaws.{wrote-chain}
use Rattle.temporal_steps.specs.Windows.{window_by}

-- the clause as its frames have it
formula-same : (o : Window) (j k : ℕ) (a : Result Formula) → ((a >>= λ f. Done (nexts j (chain (window_operator o) (k - j) f))) >>= nodes) ≡ ((a >>= nodes) >>= windowed o j k)
formula-same o j k a =
    let made : Formula → Formula = λ f. nexts j (chain (window_operator o) (k - j) f) in
    then_nodes a _ (λ f. nodes (made f)) (λ f. bind_at (made f) nodes) ∙ sym (take-formula a (λ f. nodes (made f)))

abbrev last : ℕ → Window → ℕ → Result Formula → Came → Result Came
last p o j a v = as_number v >>= λ k. guard (leb j k) 11 p ((a >>= nodes) >>= windowed o j k)

to_same : (p : ℕ) (o : Window) (j : ℕ) (y : Result Value) (a : Result Formula)
    → ((y >>= number >>= λ k. guard (leb j k) 11 p (a >>= λ f. Done (nexts j (chain (window_operator o) (k - j) f)))) >>= nodes) ≡ ((y >>= worth) >>= last p o j a)
to_same p o j y a =
    then_nodes (y >>= number) _ (λ k. guard (leb j k) 11 p ((a >>= nodes) >>= windowed o j k))
    (λ k. guard_bind (leb j k) 11 p _ nodes ∙ ap (guard (leb j k) 11 p) (formula-same o j k a))
    ∙ sym (take-number y (λ k. guard (leb j k) 11 p ((a >>= nodes) >>= windowed o j k)))

window_same : (p : ℕ) (o : Window) (x y : Result Value) (a : Result Formula)
    → ((x >>= number >>= λ j. y >>= number >>= λ k. guard (leb j k) 11 p (a >>= λ f. Done (nexts j (chain (window_operator o) (k - j) f)))) >>= nodes)
    ≡ ((x >>= worth) >>= λ v. as_number v >>= λ j. (y >>= worth) >>= last p o j a)
window_same p o x y a =
    then_nodes (x >>= number) _ (λ j. (y >>= worth) >>= last p o j a) (λ j. to_same p o j y a) ∙ sym (take-number x (λ j. (y >>= worth) >>= last p o j a))

-- what the copies are joined with, by the operator's code
abbrev chained : ℕ → ℕ
chained code = binary_kind (window_operator (window_by code))

pub chains_finally : (code : ℕ) → code ≡ unary_kind F → binary_kind Or ≡ chained code
chains_finally code e = ap chained (sym e)

pub chains_globally : (code : ℕ) → (code ≡ unary_kind F → ⊥) → binary_kind And ≡ chained code
chains_globally code e = ap (λ (b : Bool). binary_kind (window_operator (elim b [ true ↦ FinallyIn | false ↦ GloballyIn ]))) (sym (ne_eqb code (unary_kind F) e))

window-code : (o : Window) → window_by (role_code (InBrackets o)) ≡ o
window-code FinallyIn = refl
window-code GloballyIn = refl

-- the entry: the first number is worked out first
pub windowing-starts : {s : Source} {mem : List ℕ} {m : Machine} → Expands s.work m Kind.window Kind.big_numbers → StartsThree s mem m Phase.window_from Evaluate
windowing-starts {s} {mem} {m} k =
    let e0 = k.mode in
    record {
      entry = omega arith;
      few_turns = omega arith;
      starting = λ R u o out n.
          let v = operand_making n.at.operand (window_making (kind_at s.work m.value) k.from k.until) in
          let t = v.0 in
          let op = v.1 in
          let a = v.2 in
          let b = v.3 in
          let d = v.4 in
          let p = operand_as n.at.operand v.5 in
          let three = three-operands p Kind.window t a b d p.known.at (known-window t op a b d p.known) in
          let ins = three.inside in
          let c = n.context in
          record {
            frame = WindowFrom t.at op c b d;
            first = a;
            holds_nothing = refl;
            inside = three.inside;
            operand = three.first;
            holds = tt;
            waits = (window-at R.lexed t op a b d p, (omega arith, three.middle), three.last);
            kept = tt;
            same = works-formula n e0 ∙ ap (λ (z : Expr). expansion c z >>= nodes) v.5 ∙ window_same t.at op (value c.values a) (value c.values b) (expansion c d);
          };
    }

-- the first number has come
module _ {s : Source} {mem : List ℕ} {m : Machine} (w : Waiting mem m Phase.window_from) where
  pub from-before : Topped s mem m → Preceded s.work (entry_at mem m) 0
  from-before t =
      let v = by_phase t.top.frame Phase.window_from (top-phase t.top ∙ w.phase) in
      let h = top_as t.top v.5 in
      topped-before t (subst (λ (j : ℕ). size_at s.work (j - 1) < j) (sym (entry_word_lem h)) h.at.waits.1.0)

  pub from-steps : m.mode ≡ is_number → {mem' : List ℕ} {n : Machine} → RenewedBefore s.work mem mem' m Phase.window_to m.value (mode_of Evaluate) n → Takes s mem mem' m (Ok (Next n))
  from-steps e q = record {
    turns = λ R x o out t.
        let v = by_phase t.frame Phase.window_from (top-phase t ∙ w.phase) in
        let p = v.0 in
        let op = v.1 in
        let c = v.2 in
        let b = v.3 in
        let d = v.4 in
        let h = top_as t v.5 in
        let n = came-number R o mem m h.came h.come e in
        follows_before h {G = WindowTo p op c d m.value} {a = Evaluate} {c = c} {e = b} q (record {
          held-nothing = refl;
          holds-no-words = refl;
          keeps-formula = ap (written m.nodes) n.same;
          fewer = omega arith;
          operand = h.at.waits.1.1;
          holds = record { here = refl; small = n.small };
          waits = (h.at.waits.0, h.at.waits.2);
          kept = tt;
          same = number_then n (λ i. works Evaluate c b >>= windowing p op c d i);
        });
  }

-- the second number has come
module _ {s : Source} {mem : List ℕ} {m : Machine} (w : Waiting mem m Phase.window_to) where
  -- below the first
  pub to_refuses : m.mode ≡ is_number → {k p a : ℕ} → k ≡ get_or mem (m.frames + entry_field) 0 → p ≡ place_at s.work k → a ≡ get_or mem (m.frames + value_field) 0 → m.value < a → Takes s mem mem m (Err (refusal 11 p))
  to_refuses e {k} {p} {a} ek ep ea l = record {
    turns = λ R x o out t.
        let v = by_phase t.frame Phase.window_to (top-phase t ∙ w.phase) in
        let op = v.1 in
        let c = v.2 in
        let d = v.3 in
        let j = v.4 in
        let h = top_as t v.5 in
        let n = came-number R o mem m h.came h.come e in
        let same_place : v.0 ≡ p = sym (ep ∙ ap (place_at s.work) (ek ∙ entry_word_lem h) ∙ h.at.waits.0.place) in
        let same_number : a ≡ j = ea ∙ value-word h ∙ h.at.holds.here in
        refuses h
        (number_then n (λ i. guard (leb j i) 11 v.0 (works Expand c d >>= windowed op j i))
        ∙ guard-stop 11 v.0 (works Expand c d >>= windowed op j m.value) (lt-leb j m.value (omega arith)) ∙ ap (Refused 11) same_place);
  }

  pub to_steps : m.mode ≡ is_number → {mem' : List ℕ} {a i : ℕ} {n : Machine} → a ≡ get_or mem (m.frames + value_field) 0 → a ≤ m.value → i ≡ m.nodes
      → Renewed mem mem' m Phase.windowed i a m.value (mode_of Expand) n → Takes s mem mem' m (Ok (Next n))
  to_steps e {mem'} {a} ea l en q = record {
    turns = λ R x o out t.
        let v = by_phase t.frame Phase.window_to (top-phase t ∙ w.phase) in
        let p = v.0 in
        let op = v.1 in
        let c = v.2 in
        let d = v.3 in
        let j = v.4 in
        let h = top_as t v.5 in
        let z = came-number R o mem m h.came h.come e in
        let same_number : a ≡ j = ea ∙ value-word h ∙ h.at.holds.here in
        follows-last h {G = Windowed op j m.value} {a = Expand} {c = c} {e = d} q (record {
          held-nothing = refl;
          holds-no-words = refl;
          keeps-formula = ap (written m.nodes) z.same;
          fewer = omega arith;
          operand = h.at.waits.1;
          holds = (
            record { first = record { here = same_number; small = h.at.holds.small }; here = refl; small = z.small },
            omega arith,
            en ∙ laid_end (forms_of h.rest) (flat-laid h {phase = Phase.window_to} refl z.same),
          );
          waits = (p, h.at.waits.0);
          kept = tt;
          same = number_then z (λ i. guard (leb j i) 11 p (works Expand c d >>= windowed op j i))
              ∙ guard-pass 11 p (works Expand c d >>= windowed op j m.value) (le-leb j m.value (omega arith));
        });
  }

-- the formula has come
module _ {s : Source} {mem out : List ℕ} {m : Machine} (w : Waiting mem m Phase.windowed) where
  pub windowed-order : ToppedToWrite s mem out m → get_or mem (m.frames + value_field) 0 ≤ get_or mem (m.frames + other_field) 0
  windowed-order t =
      let v = by_phase t.top.frame Phase.windowed (top-phase t.top ∙ w.phase) in
      let h = top_as t.top v.3 in
      let a = value-word h ∙ h.at.holds.0.first.here in
      let b = other_word h ∙ h.at.holds.0.here in
      let l = h.at.holds.1 in
      omega arith

  pub windowed-steps : m.mode ≡ is_nodes → {k code op start a b mid r n : ℕ} {out₁ out' : List ℕ} → k ≡ get_or mem (m.frames + entry_field) 0 → code ≡ prefix_code_at (number_at s.work k) → op ≡ chained code
      → start ≡ get_or mem (m.frames + at_field) 0 → a ≡ get_or mem (m.frames + value_field) 0 → b ≡ get_or mem (m.frames + other_field) 0
      → Windows.Windowed op (unary_kind X) (b - a) out out₁ start m.nodes mid → Nexts (unary_kind X) a out₁ out' mid r
      → n ≡ min r (suc max_nodes) → TakesToWrite s mem mem out out' m (Ok (Next (wrote (popped m) n)))
  windowed-steps e {k} {code} {op} {start} {a} {b} {mid} {r} {n} {out₁} {out'} ek ei eo es ea eb q y en = record {
    turns = λ R x o t.
        let v = by_phase t.frame Phase.windowed (top-phase t ∙ w.phase) in
        let h = top_as t v.3 in
        let g = came-formula R o mem m h.came h.come e in
        let bo = window_operator v.0 in
        let same_code : code ≡ role_code (InBrackets v.0) = ei ∙ ap (λ (i : ℕ). prefix_code_at (number_at s.work i)) (ek ∙ entry_word_lem h) ∙ h.at.waits.1.spelt in
        let same_op : op ≡ binary_kind bo = eo ∙ ap chained same_code ∙ ap (λ (y : Window). binary_kind (window_operator y)) (window-code v.0) in
        let same_first : a ≡ v.1 = ea ∙ value-word h ∙ h.at.holds.0.first.here in
        let same-last : b ≡ v.2 = eb ∙ other_word h ∙ h.at.holds.0.here in
        let l = laid-last (formula-laid h g.same) in
        let same_start : l.at ≡ start = laid_end (forms_of h.rest) l.others ∙ sym (es ∙ at-word h ∙ h.at.holds.2) in
        let links : Wrote (chain bo (b - a) g.formula) l.before out₁ l.at mid =
        wrote-chain bo X same_op refl (laid-sized l.others) l.wrote (subst (λ (i : ℕ). Windows.Windowed op (unary_kind X) (b - a) out out₁ i m.nodes mid) (sym same_start) q) in
        let made : Formula = nexts a (chain bo (b - a) g.formula) in
        let whole : Wrote made l.before out' l.at n = wrote-capped en ((y X refl l.at).wrote links) in
        let same-made : nexts v.1 (chain bo (v.2 - v.1) g.formula) ≡ made =
        ap₂ (λ (i z : ℕ). nexts i (chain bo (z - i) g.formula)) (sym same_first) (sym same-last) in
        finishes h made refl refl refl
        (ap (apply (Windowed v.0 v.1 v.2)) g.same ∙ bind_at g.formula (λ i. nodes (nexts v.1 (chain bo (v.2 - v.1) i))) ∙ ap (λ (i : Formula). Done (Nodes i)) same-made)
        l.others whole (omega arith)
        (stays_then (begins_stays (begins-chain bo (b - a) g.formula l.at) l.wrote links) (begins_stays (begins-nexts a (chain bo (b - a) g.formula) l.at) links whole));
  }
