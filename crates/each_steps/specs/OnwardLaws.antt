-- The operands of `&&[..]` and `||[..]` so far are folded into a formula: the fold goes on, whichever operand was written last.
use Rattle.std.specs.Prelude.{ℕ, suc, ◌+◌, ◌-◌, ◌≤◌, ◌<◌, ◌^◌, List, [], ◌∷◌, ◌≡◌, refl, length, get_or, Ok}
use Rattle.std.proofs.Common.{sym, ap, ◌∙◌, subst, arith}
use Rattle.node.specs.Limits.{max_nodes}
use Rattle.node.specs.Ltl.{Formula}
use Rattle.node.specs.Result.{Result}
use Rattle.node.proofs.ResultLaws.{bind_at}
use Rattle.machine.specs.declared.Move.TheVariants.{Next}
use Rattle.machine.specs.Stepped.{Stepped}
use Rattle.language.specs.Tokens.{Token}
use Rattle.language.specs.Operators.{Big}
use Rattle.language.specs.Tree.{Expr}
use Rattle.language.specs.Expansion.{Context, joined}
use Rattle.operands.specs.Working.{Source}
use Rattle.machine.specs.Fields.{at_field}
use Rattle.machine.specs.Phases as Phase
use Rattle.machine.specs.Came.{Expand, Came, Nodes, nodes}
use Rattle.machine.specs.Frames.{Frame, NextEach, connective, formula_at, onward_formulas, apply}
use Rattle.machine.specs.Realm.{Realm}
use Rattle.machine.specs.Memory.{nowhere}
use Rattle.machine.specs.MemoryLaws.{held_none, agree_same}
use Rattle.machine.specs.Holding.{Laying, holding, forms_of, turning}
use Rattle.machine.specs.Telling.{Fine}
use Rattle.machine.specs.Table.{Began, Laid}
use Rattle.machine.specs.TableLaws.{lasting_stays}
use Rattle.machine.specs.Cost.{turns}
use Rattle.machine.specs.Stack.{OfFormulas, EachOf, Folding}
use Rattle.machine.specs.States.{mode_of, Turned, TopOf}
use Rattle.machine.specs.Moves.{wrote}
use Rattle.machine.specs.TakeLaws.{words, base_word, count_word, pops}
use Rattle.machine.specs.declared.Machine.{Machine}
use Rattle.fold_steps.specs.Turning.{Turns, words_at, next_at, Continuing}
use Rattle.fold_steps.specs.ElementLaws.{split}
use Rattle.fold_steps.specs.ContinueLaws.{turning_scope, turning-depth, turning_held, turning_lies, turning-count, continuing, continues}
use Rattle.each_steps.specs.Onward.{closed, left_of, base_of, Turnable, Onward}
use Rattle.each_steps.specs.GatherLaws.{next-same}
use Rattle.writing.specs.StayLaws.{Stays}

module _ {s : Source} {R : Realm s} {mem out : List ℕ} {m : Machine} {x : Result Came} {o : Began} {F : Frame} (h : TopOf R mem out m x o F) {phase : ℕ} {rest : List ℕ} {forms : List Laying}
    (f : holding F ≡ turning phase rest [] forms) where
  pub turnable : {n : ℕ} → length mem < 2 ^ 32 → n ≤ suc max_nodes → Turnable mem m n
  turnable small few =
      let td = turning-depth h f in
      let tc = turning-count h f in
      let cw = count_word h in
      record {
        inside = h.at.inside;
        small = small;
        slot = omega arith;
        few = few;
        next = λ l.
            let c = continuing h f small (omega arith) {other = 0} (omega arith) in
            record { inside = c.inside; small = c.small; some = c.some; from = c.from; bound = c.bound; slot = c.slot; entry = c.entry; numbered = c.numbered };
      }

  -- they are folded into the formula a, which stands in `out'` up to n
  pub record FoldsTo (op : Big) (c : Context) (i : Token) (e : Expr) (a : Formula) (out' : List ℕ) (n : ℕ) : Type 0 where
    pub fewer : (count : ℕ) → turns Phase.next_each count < turns phase (suc count)
    pub fine : Fine rest
    pub folding : Folding R h.footing op
    pub each : EachOf R h.footing c i e
    pub formulas : OfFormulas op
    pub laid : Laid o (record { formula = a; end = n } ∷ forms_of h.rest) out' n
    pub few : n ≤ suc max_nodes
    pub stays : Stays out out' m.nodes n
    pub same : apply F h.came ≡ onward_formulas op c i e rest a

  module _ {op : Big} {c : Context} {i : Token} {e : Expr} {a : Formula} {mem' out' : List ℕ} {n : ℕ} {r : Stepped} (t : FoldsTo op c i e a out' n) (w : Onward mem mem' m n r) where
    -- no element is left
    closes : rest ≡ [] → Turned R mem mem' out out' m x o r
    closes none =
        let tc = turning-count h f ∙ ap length none in
        let cw = count_word h in
        let td = turning-depth h f in
        let q = w.last (omega arith) in
        subst (λ (y : Stepped). Turned R mem mem' out out' m x o y) (sym q.1) (subst (λ (y : List ℕ). Turned R mem y out out' m x o (Ok (Next (closed m (base_of mem m) n)))) (sym q.0)
        (pops h {v = Nodes a} (record {
          same = t.same ∙ ap (λ (l : List ℕ). onward_formulas op c i e l a) none ∙ bind_at [] (λ fs. nodes (joined (connective op) a fs));
          come = refl;
          scope_is = turning_scope h f;
          depth_is = omega arith;
          top-is = base_word h;
          frames-is = refl;
          agree = agree_same;
          laid = t.laid;
          few = t.few;
          noted = h.noted;
          lasting = lasting_stays t.stays h.lasting;
        })))

    -- the operator's name comes to the next one
    proceeds : 0 < length rest → Turned R mem mem' out out' m x o r
    proceeds some =
        let tc = turning-count h f in
        let cw = count_word h in
        let q = w.more (omega arith) in
        let p = split mem (words h).at rest (turning_held h f) t.fine some in
        subst (λ (y : Stepped). Turned R mem mem' out out' m x o y) (sym q.1)
        (continues h f {G = NextEach op c i e a n p.rest} {new = Phase.next_each} {value = n} {other = 0} {fold' = []} {forms' = record { formula = a; end = n } ∷ []} {a = Expand} {c = c} {i = i} {e = e} {mem₀ = mem}
        {mem' = mem'} {out' = out'} {top = m.top} {nodes = n} {n = q.0} (record {
          words-kept = refl;
          agree = agree_same;
          some = p;
          framed = q.2.framed;
          next = q.2.next;
          is-turning = refl;
          lower = h.at.lower;
          high = h.at.high;
          lies = turning_lies h f;
          held_fold = held_none mem 0;
          lies_fold = nowhere refl;
          holds = (p.fine, refl);
          waits = (record { place = t.folding.place; here = t.folding.here }, t.each, t.formulas);
          each = t.each;
          laid = t.laid;
          few = t.few;
          noted = h.noted;
          lasting = lasting_stays t.stays h.lasting;
          fewer = t.fewer;
          kept = tt;
          same = t.same ∙ ap (λ (l : List ℕ). onward_formulas op c i e l a) p.same ∙ next-same (connective op) (formula_at c i e) _ p.rest a;
        }))

    pub goes_on : Turned R mem mem' out out' m x o r
    goes_on = go rest refl
      where
        go : (l : List ℕ) → rest ≡ l → Turned R mem mem' out out' m x o r
        go [] q = closes q
        go (v ∷ l) q = proceeds (let z = ap length q in omega arith)

-- what function `onward` does, by whether an element is left
pub onward-last : {mem : List ℕ} {m n : Machine} {nodes : ℕ} → left_of mem m ≡ 0 → n ≡ closed m (base_of mem m) nodes → Onward mem mem m nodes (Ok (Next n))
onward-last e q = record { last = λ l. (refl, ap (λ (y : Machine). Ok (Next y)) q); more = λ l. absurd (omega arith) }

module _ {mem : List ℕ} {m w : Machine} {nodes : ℕ} (some : left_of mem m ≡ 0 → ⊥) (e : w ≡ wrote m nodes) where
  pub onward_asks : Turnable mem m nodes → Continuing mem w 0
  onward_asks t = subst (λ (y : Machine). Continuing mem y 0) (sym e) (t.next (omega arith))

  pub onward-more : {mem' : List ℕ} {n : Machine}
      → Turns mem mem' w (next_at (words_at mem w.frames) Phase.next_each nodes 0) (w.depth - 1) (get_or mem (get_or mem (w.frames + at_field) 0) 0) (mode_of Expand) m.top n → Onward mem mem' m nodes (Ok (Next n))
  onward-more {mem'} {n} t = record {
    last = λ l. absurd (some l);
    more = λ l. (
      n,
      refl,
      subst (λ (y : Machine). Turns mem mem' y (next_at (words_at mem y.frames) Phase.next_each nodes 0) (y.depth - 1) (get_or mem (get_or mem (y.frames + at_field) 0) 0) (mode_of Expand) m.top n) e t,
    );
  }
