-- A big operator of sets: its operand has come, at the first element or at a further one.
use Rattle.std.specs.Prelude.{ℕ, suc, ◌+◌, ◌-◌, ◌≤◌, List, [], ◌≡◌, refl, length, get_or, take, drop, Ok, Err}
use Rattle.std.proofs.Common.{sym, ap, ap₂, ◌∙◌, subst, arith, length-drop, length-take-le}
use Rattle.node.specs.Result.{Result, Refused, ◌>>=◌}
use Rattle.node.proofs.ResultLaws.{bind_at, bind_refused}
use Rattle.node.specs.Returned.{refusal}
use Rattle.machine.specs.Stepped.{Stepped}
use Rattle.language.specs.Limits.{max_elements}
use Rattle.language.specs.Tokens.{Token}
use Rattle.language.specs.Operators.{Combination, Big}
use Rattle.language.specs.Tree.{Expr}
use Rattle.language.specs.Sets.{combine}
use Rattle.language.specs.Values.{Set, limited}
use Rattle.language.specs.Expansion.{Context}
use Rattle.language.proofs.Laws.Basics.Results.{value_of}
use Rattle.sets.specs.Operators.{combination}
use Rattle.operators.specs.Tables.{prefix_code_at}
use Rattle.operands.specs.Entries.{place_at, number_at}
use Rattle.operands.specs.Working.{Source}
use Rattle.memory_sets.specs.Places.{elements_at, Two, SetAt}
use Rattle.memory_sets.specs.PlacedLaws.{words_of_lem, combine_sane}
use Rattle.memory_sets.specs.PlaceLaws.{outside_none, outside-within}
use Rattle.machine.specs.Fields.{entry_field, value_field, other_field}
use Rattle.machine.specs.Phases as Phase
use Rattle.machine.specs.Came.{Came, as_set}
use Rattle.machine.specs.Frames.{FirstSet, NextSet, merging, onward_sets, apply}
use Rattle.machine.specs.Realm.{Realm}
use Rattle.machine.specs.Operators.{Folds, OpAt}
use Rattle.machine.specs.Memory.{set_words, Held}
use Rattle.machine.specs.SetLaws.{sits_low, held_words}
use Rattle.machine.specs.Telling.{is_set}
use Rattle.machine.specs.Table.{Began}
use Rattle.machine.specs.States.{TopOf, Top, Topped, Takes}
use Rattle.machine.specs.ComeLaws.{IsSet, came-set}
use Rattle.machine.specs.FrameViews.{by_phase}
use Rattle.machine.specs.TakeLaws.{entry_word_lem, value-word, other_word, refuses-late, top-phase, top_as}
use Rattle.machine.specs.declared.Machine.{Machine}
use Rattle.machine.specs.Entering.{Waiting}
use Rattle.value_steps.specs.CombinedLaws.{answer}
use Rattle.value_steps.specs.PlacedLaws.{elements_are, placed as set-placed}
use Rattle.fold_steps.specs.SetFolds.{setwise, setwise-code, merge_same}
use Rattle.fold_steps.specs.FoldPlaces.{high, sits_rests}
use Rattle.fold_steps.specs.FoldingSets.{Foldable, Onward}
use Rattle.fold_steps.specs.FoldedLaws.{limits, Folding, foldable, folds_on}

-- the frame that waits for the operand at the first element; at a further one, where `sum` was folded before
record AtFirst {s : Source} (R : Realm s) (mem out : List ℕ) (m : Machine) (x : Result Came) (o : Began) : Type 0 where
  place : ℕ
  op : Big
  context : Context
  name : Token
  operand : Expr
  rest : List ℕ
  top : TopOf R mem out m x o (FirstSet place op context name operand rest)

record AtNext {s : Source} (R : Realm s) (mem out : List ℕ) (m : Machine) (x : Result Came) (o : Began) : Type 0 where
  place : ℕ
  op : Big
  context : Context
  name : Token
  operand : Expr
  sum : List ℕ
  rest : List ℕ
  top : TopOf R mem out m x o (NextSet place op context name operand sum rest)

module _ {s : Source} {R : Realm s} {mem out : List ℕ} {m : Machine} {x : Result Came} {o : Began} (t : Top R mem out m x o) where
  at_first : Waiting mem m Phase.first_set → AtFirst R mem out m x o
  at_first w =
      let v = by_phase t.frame Phase.first_set (top-phase t ∙ w.phase) in
      record { place = v.0; op = v.1; context = v.2; name = v.3; operand = v.4; rest = v.5; top = top_as t {F = FirstSet v.0 v.1 v.2 v.3 v.4 v.5} v.6 }

  at_next : Waiting mem m Phase.next_set → AtNext R mem out m x o
  at_next w =
      let v = by_phase t.frame Phase.next_set (top-phase t ∙ w.phase) in
      record {
        place = v.0;
        op = v.1;
        context = v.2;
        name = v.3;
        operand = v.4;
        sum = v.5;
        rest = v.6;
        top = top_as t {F = NextSet v.0 v.1 v.2 v.3 v.4 v.5 v.6} v.7;
      }

-- the operand at the first element has come
module _ {s : Source} {mem : List ℕ} {m : Machine} (w : Waiting mem m Phase.first_set) where
  module _ (e : m.mode ≡ is_set) where
    folded-first : {R : Realm s} {out : List ℕ} {x : Result Came} {o : Began} (y : AtFirst R mem out m x o) (g : IsSet mem m y.top.came)
        → Folding y.top {phase = Phase.first_set} {l = y.rest} {fold = []} refl y.place y.op y.context y.name y.operand g.set mem m.from m.value
    folded-first y g =
        let h = y.top in
        let k = onward_sets y.place y.op y.context y.name y.operand y.rest in
        let z = limits h {phase = Phase.first_set} {l = y.rest} {fold = []} refl in
        let z1 = z.top-high in
        let gc = g.count in
        let fw = g.fine.few in
        record {
          value-came = Set g.set;
          came-is = g.same;
          same = ap (λ (u : Came). as_set u >>= k) g.same ∙ bind_at g.set k;
          rest = h.at.holds;
          fine = g.fine;
          size = g.count;
          held = g.held;
          place = sits_rests g.count (omega arith) g.sits;
          kept = outside-within (omega arith) (omega arith) (outside_none mem m.top);
          here = h.at.waits.0;
          each = h.at.waits.1;
          sets = h.at.waits.2;
          fewer = λ j. omega arith;
        }

    pub first-foldable : Topped s mem m → Foldable mem m m.from m.value
    first-foldable t =
        let y = at_first t.top w in
        let g = came-set t.realm t.began mem m y.top.came y.top.come e in
        foldable y.top {phase = Phase.first_set} refl (folded-first y g) t.lent.small

    pub first-steps : {mem' : List ℕ} (r : Stepped) → Onward mem mem' m m.from m.value r → Takes s mem mem' m r
    first-steps r q = record {
      turns = λ R x o out t.
          let y = at_first t w in
          let g = came-set R o mem m y.top.came y.top.come e in
          folds_on y.top {phase = Phase.first_set} refl (folded-first y g) r q;
    }

-- the frame's words as the code reads them
pub record Reads (s : Source) (mem : List ℕ) (m : Machine) (k i p la lc to : ℕ) : Type 0 where
  pub entry : k ≡ get_or mem (m.frames + entry_field) 0
  pub operator : i ≡ prefix_code_at (number_at s.work k)
  pub place : p ≡ place_at s.work k
  pub folded-at : la ≡ get_or mem (m.frames + other_field) 0
  pub folded-count : lc ≡ get_or mem (m.frames + value_field) 0
  pub to_is : to ≡ m.frames - set_words

-- the operand at a further element has come
module _ {s : Source} {mem : List ℕ} {m : Machine} (w : Waiting mem m Phase.next_set) where
  module _ (e : m.mode ≡ is_set) {la lc to : ℕ} (ea : la ≡ get_or mem (m.frames + other_field) 0) (ec : lc ≡ get_or mem (m.frames + value_field) 0) (et : to ≡ m.frames - set_words) where
    -- both sets, and the place below the frames
    record Both {R : Realm s} {out : List ℕ} {x : Result Came} {o : Began} (y : AtNext R mem out m x o) (g : IsSet mem m y.top.came) : Type 0 where
      two : Two mem (record { at = la; count = lc }) (record { at = m.from; count = m.value }) to
      folded : elements_at mem (record { at = la; count = lc }) ≡ y.sum
      operand : elements_at mem (record { at = m.from; count = m.value }) ≡ g.set
      above : m.top ≤ to
      below : to + suc max_elements ≤ m.frames

    both : {R : Realm s} {out : List ℕ} {x : Result Came} {o : Began} (y : AtNext R mem out m x o) (g : IsSet mem m y.top.came) → Both y g
    both y g =
        let h = y.top in
        let z = limits h {phase = Phase.next_set} refl in
        let z1 = z.base-low in
        let z2 = z.top-high in
        let z3 = z.wide in
        let z4 = z.free in
        let z5 = z.fits in
        let hf = h.at.holds.1 in
        let nr = hf.near in
        let sz = hf.size in
        let f1 = hf.fine.few in
        let f2 = g.fine.few in
        let gc = g.count in
        let lw = sits_low m (omega arith) g.sits in
        let a1 = ea ∙ other_word h in
        let c1 = ec ∙ value-word h in
        let held-left : Held mem la y.sum = subst (λ (j : ℕ). Held mem j y.sum) (sym a1) h.at.held_fold in
        record {
          two = record {
            left = set-placed mem (record { at = la; count = lc }) y.sum held-left (c1 ∙ sz) hf.fine (omega arith);
            right = set-placed mem (record { at = m.from; count = m.value }) g.set g.held g.count g.fine (omega arith);
            left_below = omega arith;
            right_below = omega arith;
            room = record { room = omega arith };
          };
          folded = elements_are mem (record { at = la; count = lc }) y.sum held-left (c1 ∙ sz) hf.fine (omega arith);
          operand = elements_are mem (record { at = m.from; count = m.value }) g.set g.held g.count g.fine (omega arith);
          above = omega arith;
          below = omega arith;
        }

    pub next-two : Topped s mem m → Two mem (record { at = la; count = lc }) (record { at = m.from; count = m.value }) to
    next-two t =
        let y = at_next t.top w in
        (both y (came-set t.realm t.began mem m y.top.came y.top.come e)).two

  module _ (e : m.mode ≡ is_set) {k i p la lc to : ℕ} (q : Reads s mem m k i p la lc to) where
    module _ {R : Realm s} {out : List ℕ} {x : Result Came} {o : Began} (y : AtNext R mem out m x o) (g : IsSet mem m y.top.came) where
      abbrev onto : List ℕ → Result Came
      onto = onward_sets y.place y.op y.context y.name y.operand y.rest

      as-defined : answer mem m la lc i p ≡ merging y.place y.op y.sum g.set
      as-defined =
          let h = y.top in
          let b = both e q.folded-at q.folded-count q.to_is y g in
          let here : OpAt s k (Folds y.op) y.place = subst (λ (j : ℕ). OpAt s j (Folds y.op) y.place) (sym (q.entry ∙ entry_word_lem h)) h.at.waits.0 in
          ap₂ (λ (j : ℕ) (u : Combination). limited j (combine u (elements_at mem (record { at = la; count = lc })) (elements_at mem (record { at = m.from; count = m.value }))))
          (q.place ∙ here.place) (ap combination (q.operator ∙ here.spelt) ∙ setwise-code y.op h.at.waits.2)
          ∙ ap₂ (λ (c d : List ℕ). limited y.place (combine (setwise y.op) c d)) b.folded b.operand
          ∙ merge_same y.place y.op h.at.waits.2 y.sum g.set h.at.holds.1.fine.few

      comes-to : {r : Result (List ℕ)} → r ≡ answer mem m la lc i p → apply (NextSet y.place y.op y.context y.name y.operand y.sum y.rest) y.top.came ≡ (r >>= onto)
      comes-to z =
          ap (λ (u : Came). as_set u >>= λ b. merging y.place y.op y.sum b >>= onto) g.same ∙ bind_at g.set (λ b. merging y.place y.op y.sum b >>= onto)
          ∙ ap (λ (u : Result (List ℕ)). u >>= onto) (sym (z ∙ as-defined))

      -- the set that was made
      folded-next : {mem₁ : List ℕ} {n : ℕ} → SetAt mem mem₁ to (Ok n) (answer mem m la lc i p)
          → Folding y.top {phase = Phase.next_set} {l = y.rest} {fold = y.sum} refl y.place y.op y.context y.name y.operand (take n (drop to mem₁)) mem₁ to n
      folded-next {mem₁} {n} z =
          let h = y.top in
          let b = both e q.folded-at q.folded-count q.to_is y g in
          let b1 = b.above in
          let b2 = b.below in
          let few = z.set.few in
          let li = (limits h {phase = Phase.next_set} refl).fits in
          let made = take n (drop to mem₁) in
          let sane = value_of (sym z.set.says) (combine_sane p (combination i) b.two) in
          let len : length made ≡ n = length-take-le n (drop to mem₁) (let d = length-drop to mem₁ in let u = z.kept.len in omega arith) in
          record {
            value-came = Set g.set;
            came-is = g.same;
            same = comes-to z.set.says ∙ bind_at made onto;
            rest = h.at.holds.0;
            fine = record { few = omega arith; ordered = sane.0 };
            size = sym len;
            held = held_words mem₁ to made (λ j u. words_of_lem mem₁ (record { at = to; count = n }) made refl j u);
            place = high b1 (omega arith);
            kept = outside-within b1 (omega arith) z.kept;
            here = h.at.waits.0;
            each = h.at.waits.1;
            sets = h.at.waits.2;
            fewer = λ j. omega arith;
          }

    pub next-refuses : {mem₁ : List ℕ} {number place : ℕ} → SetAt mem mem₁ to (Err (refusal number place)) (answer mem m la lc i p) → Takes s mem mem₁ m (Err (refusal number place))
    next-refuses {number = number} {place} z = record {
      turns = λ R x o out t.
          let y = at_next t w in
          let g = came-set R o mem m y.top.came y.top.come e in
          refuses-late y.top z.kept.len (comes-to y g z.set.says ∙ bind_refused (Refused number place) number place (onto y g) refl);
    }

    module _ {mem₁ : List ℕ} {n : ℕ} (z : SetAt mem mem₁ to (Ok n) (answer mem m la lc i p)) where
      pub next-foldable : Topped s mem m → Foldable mem₁ m to n
      next-foldable t =
          let y = at_next t.top w in
          let g = came-set t.realm t.began mem m y.top.came y.top.come e in
          foldable y.top {phase = Phase.next_set} refl (folded-next y g z) t.lent.small

      pub next-steps : {mem' : List ℕ} (r : Stepped) → Onward mem₁ mem' m to n r → Takes s mem mem' m r
      next-steps r u = record {
        turns = λ R x o out t.
            let y = at_next t w in
            let g = came-set R o mem m y.top.came y.top.come e in
            folds_on y.top {phase = Phase.next_set} refl (folded-next y g z) r u;
      }
