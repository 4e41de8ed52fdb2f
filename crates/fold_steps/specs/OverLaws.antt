-- A big operator: its set is worked out; then its operand at the first element.
use Rattle.std.specs.Prelude.{ℕ, suc, ◌+◌, ◌≤◌, ◌<◌, false, List, [], ◌∷◌, ◌≡◌, length, get_or, Ok}
use Rattle.std.proofs.Math.Path.{refl}
use Rattle.std.proofs.Common.{sym, ap, ap₂, ◌∙◌, subst, arith}
use Rattle.node.specs.Result.{Result, Done, ◌>>=◌}
use Rattle.node.proofs.ResultLaws.{bind_again, bind_at}
use Rattle.machine.specs.declared.Move.TheVariants.{Next}
use Rattle.language.specs.Tokens.{Token}
use Rattle.language.specs.Operators.{Arithmetic, Plus, Times, Big, BigSum, BigProduct, BigCap, BigCup, BigAnd, BigOr}
use Rattle.language.specs.Tree.{Expr, Each}
use Rattle.language.specs.Values.{Value, Number, Set, Logic, number, set, calculate, onward, big, value}
use Rattle.language.specs.Expansion.{Context, at}
use Rattle.entries.specs.Kinds as Kind
use Rattle.operators.specs.Tables.{prefix_code_at}
use Rattle.operands.specs.Entries.{kind_at, place_at, number_at as tokenNumber}
use Rattle.operands.specs.KindLaws.{big-class}
use Rattle.operands.specs.Working.{Source}
use Rattle.machine.specs.Fields.{entry_field}
use Rattle.machine.specs.Phases as Phase
use Rattle.machine.specs.Came.{Evaluate, Came, Worth, worth, works, as_number, as_set}
use Rattle.machine.specs.Frames.{Over, FirstNumber, FirstSet, merging, number_at, set_at, apply}
use Rattle.machine.specs.Realm.{Realm}
use Rattle.machine.specs.Operators.{Folds, OpAt}
use Rattle.machine.specs.Memory.{on_top}
use Rattle.machine.specs.MemoryLaws.{held_none}
use Rattle.machine.specs.SetLaws.{sits_low}
use Rattle.machine.specs.Moves.{above, came, popped}
use Rattle.machine.specs.Telling.{is_set, is_logic}
use Rattle.machine.specs.Table.{Began}
use Rattle.machine.specs.Stack.{OfNumbers, OfSets, OfFormulas}
use Rattle.machine.specs.States.{mode_of, Turned, TopOf, Top, Topped, Takes}
use Rattle.machine.specs.ComeLaws.{came-set}
use Rattle.machine.specs.FrameViews.{by_phase}
use Rattle.machine.specs.TakeLaws.{entry_word_lem, room-under, refuses, top-phase, top_as}
use Rattle.machine.specs.FlatLaws.{flat-top, yields}
use Rattle.machine.specs.StartLaws.{StartsTwo}
use Rattle.machine.specs.BindLaws.{take-number, take-set, then_worth, number-last, set_last}
use Rattle.machine.specs.OperandLaws.{operand-view, operand_as}
use Rattle.machine.specs.declared.Machine.{Machine}
use Rattle.machine.specs.Entering.{Evaluates, Waiting}
use Rattle.machine.specs.EnteringLaws.{works-value}
use Rattle.fold_steps.specs.Turning.{Turns, begun, Beginning}
use Rattle.fold_steps.specs.Bigs.{big_by, over_nothing}
use Rattle.fold_steps.specs.BigLaws.{big_by_lem, of_numbers, of_sets, of_formulas, parts_of}
use Rattle.fold_steps.specs.ElementLaws.{split, no_element, beginning, begins}

-- the clause as its frame has it
over-same : (r : Result Value) (k : List ℕ → Result Value) → ((r >>= set >>= k) >>= worth) ≡ ((r >>= worth) >>= λ v. as_set v >>= λ l. k l >>= worth)
over-same r k = then_worth (r >>= set) k (λ l. k l >>= worth) (λ l. refl) ∙ sym (take-set r (λ l. k l >>= worth))

-- the entry: its set is worked out first
pub over-starts : {s : Source} {mem : List ℕ} {m : Machine} → Evaluates s.work m Kind.big_numbers (Kind.binder false) → StartsTwo s mem m Phase.over 1 Evaluate
over-starts {s} {mem} {m} k =
    let e0 = k.mode in
    record {
      entry = omega arith;
      few_turns = omega arith;
      starting = λ R x o out n.
          let v = operand-view n.at.operand (big-class (kind_at s.work m.value) k.from k.until) in
          let t = v.0 in
          let op = v.1 in
          let i = v.3 in
          let y = v.4 in
          let a = v.5 in
          let c = n.context in
          let p = parts_of t op v.2 i y a (operand_as n.at.operand {d = Each t op v.2 i y a} v.6) in
          record {
            frame = Over t.at op c i a;
            first = y;
            holds_nothing = refl;
            inside = p.inside;
            operand = p.set;
            holds = tt;
            waits = (p.here R.count R.lexed, p.each);
            kept = tt;
            same = works-value n e0 ∙ ap (λ (d : Expr). value c.values d >>= worth) v.6 ∙ over-same (value c.values y) (big t.at op (λ z. value (at c i z).values a));
          };
    }

-- the set has come
record AtOver {s : Source} (R : Realm s) (mem out : List ℕ) (m : Machine) (x : Result Came) (o : Began) : Type 0 where
  place : ℕ
  op : Big
  context : Context
  name : Token
  operand : Expr
  top : TopOf R mem out m x o (Over place op context name operand)

at_over_lem : {s : Source} {R : Realm s} {mem out : List ℕ} {m : Machine} {x : Result Came} {o : Began} → Top R mem out m x o → Waiting mem m Phase.over → AtOver R mem out m x o
at_over_lem t w =
    let v = by_phase t.frame Phase.over (top-phase t ∙ w.phase) in
    record { place = v.0; op = v.1; context = v.2; name = v.3; operand = v.4; top = top_as t {F = Over v.0 v.1 v.2 v.3 v.4} v.5 }

pub nothing_as : (m : Machine) (p : ℕ) {o u : Big} → u ≡ o → over_nothing m o p ≡ over_nothing m u p
nothing_as m p e = ap (λ (y : Big). over_nothing m y p) (sym e)

-- the first operand and the rest of the fold, as the frames have it
numbers-same : (p : ℕ) (o : Arithmetic) (f : ℕ → Result ℕ) (r : Result Value) (rest : List ℕ) → ((((r >>= number) >>= λ a. onward (calculate p o) f a rest) >>= λ n. Done (Number n)) >>= worth)
    ≡ ((r >>= worth) >>= λ v. as_number v >>= λ a. onward (calculate p o) f a rest >>= λ n. worth (Number n))
numbers-same p o f r rest =
    number-last ((r >>= number) >>= λ a. onward (calculate p o) f a rest) ∙ bind_again (r >>= number) (λ a. onward (calculate p o) f a rest) (λ n. worth (Number n))
    ∙ sym (take-number r (λ a. onward (calculate p o) f a rest >>= λ n. worth (Number n)))

sets_same : (step : List ℕ → List ℕ → Result (List ℕ)) (f : ℕ → Result (List ℕ)) (r : Result Value) (rest : List ℕ) → ((((r >>= set) >>= λ a. onward step f a rest) >>= λ n. Done (Set n)) >>= worth)
    ≡ ((r >>= worth) >>= λ v. as_set v >>= λ a. onward step f a rest >>= λ n. worth (Set n))
sets_same step f r rest =
    set_last ((r >>= set) >>= λ a. onward step f a rest) ∙ bind_again (r >>= set) (λ a. onward step f a rest) (λ n. worth (Set n))
    ∙ sym (take-set r (λ a. onward step f a rest >>= λ n. worth (Set n)))

module _ (p : ℕ) (c : Context) (i : Token) (e : Expr) where
  first_number_lem : (o : Big) → OfNumbers o → (v : ℕ) (rest : List ℕ) → (big p o (λ k. value (at c i k).values e) (v ∷ rest) >>= worth) ≡ (works Evaluate (at c i v) e >>= apply (FirstNumber p o c i e rest))
  first_number_lem BigSum h v rest = numbers-same p Plus (number_at c i e) (value (at c i v).values e) rest
  first_number_lem BigProduct h v rest = numbers-same p Times (number_at c i e) (value (at c i v).values e) rest
  first_number_lem BigCap h v rest = absurd h
  first_number_lem BigCup h v rest = absurd h
  first_number_lem BigAnd h v rest = absurd h
  first_number_lem BigOr h v rest = absurd h

  first_set_lem : (o : Big) → OfSets o → (v : ℕ) (rest : List ℕ) → (big p o (λ k. value (at c i k).values e) (v ∷ rest) >>= worth) ≡ (works Evaluate (at c i v) e >>= apply (FirstSet p o c i e rest))
  first_set_lem BigSum h v rest = absurd h
  first_set_lem BigProduct h v rest = absurd h
  first_set_lem BigCap h v rest = sets_same (merging p BigCap) (set_at c i e) (value (at c i v).values e) rest
  first_set_lem BigCup h v rest = sets_same (merging p BigCup) (set_at c i e) (value (at c i v).values e) rest
  first_set_lem BigAnd h v rest = absurd h
  first_set_lem BigOr h v rest = absurd h

  logic-same : (o : Big) → OfFormulas o → (l : List ℕ) → (big p o (λ k. value (at c i k).values e) l >>= worth) ≡ Done (Worth Logic)
  unfolding ◌>>=◌
  logic-same BigSum h l = absurd h
  logic-same BigProduct h l = absurd h
  logic-same BigCap h l = absurd h
  logic-same BigCup h l = absurd h
  logic-same BigAnd h l = refl
  logic-same BigOr h l = refl

-- what the definition makes of the set
over_comes : {s : Source} {R : Realm s} {mem out : List ℕ} {m : Machine} {x : Result Came} {o : Began} (y : AtOver R mem out m x o) (l : List ℕ) → y.top.came ≡ Worth (Set l)
    → apply (Over y.place y.op y.context y.name y.operand) y.top.came ≡ (big y.place y.op (λ k. value (at y.context y.name k).values y.operand) l >>= worth)
over_comes y l q =
    let k : List ℕ → Result Came = λ l. big y.place y.op (λ k. value (at y.context y.name k).values y.operand) l >>= worth in
    ap (λ (u : Came). as_set u >>= k) q ∙ bind_at l k

nothing-turns : {s : Source} {R : Realm s} {mem out : List ℕ} {m : Machine} {x : Result Came} {o : Began} {p : ℕ} (op : Big) {c : Context} {i : Token} {e : Expr}
    (h : TopOf R mem out m x o (Over p op c i e)) → h.came ≡ Worth (Set []) → apply (Over p op c i e) h.came ≡ (big p op (λ k. value (at c i k).values e) [] >>= worth)
    → Turned R mem mem out out m x o (over_nothing (popped m) op p)
unfolding ◌>>=◌
nothing-turns BigSum h g q = yields h {phase = Phase.over} refl g (Number 0) q (record { mode_is = refl; value-is = refl; small = omega arith }) tt
nothing-turns BigProduct h g q = yields h {phase = Phase.over} refl g (Number 1) q (record { mode_is = refl; value-is = refl; small = omega arith }) tt
nothing-turns BigCap h g q = refuses h q
nothing-turns {mem = mem} {m = m} BigCup h g q =
    yields h {phase = Phase.over} refl g (Set []) q (record { mode_is = refl; count = refl; fine = record { few = omega arith; ordered = tt } }) (held_none mem m.top, on_top refl)
nothing-turns BigAnd h g q = yields h {phase = Phase.over} refl g Logic q refl tt
nothing-turns BigOr h g q = yields h {phase = Phase.over} refl g Logic q refl tt

module _ {s : Source} {mem : List ℕ} {m : Machine} (w : Waiting mem m Phase.over) where
  module _ (e : m.mode ≡ is_set) where
    pub over-beginning : Topped s mem m → (m.value ≡ 0 → ⊥) → Beginning mem m
    over-beginning t n =
        let h = (at_over_lem t.top w).top in
        beginning h {phase = Phase.over} refl (came-set t.realm t.began mem m h.came h.come e) t.lent.small (omega arith)

    module _ {k : ℕ} (ek : k ≡ get_or mem (m.frames + entry_field) 0) where
      here : {R : Realm s} {out : List ℕ} {x : Result Came} {o : Began} (y : AtOver R mem out m x o) → OpAt s k (Folds y.op) y.place
      here y = subst (λ (j : ℕ). OpAt s j (Folds y.op) y.place) (sym (ek ∙ entry_word_lem y.top)) y.top.at.waits.0

      pub over-logic : Kind.big_formulas ≤ kind_at s.work k → Takes s mem mem m (Ok (Next (came (popped m) is_logic 0 0)))
      over-logic l = record {
        turns = λ R x o out t.
            let y = at_over_lem t w in
            let h = y.top in
            let g = came-set R o mem m h.came h.come e in
            let q = (here y).kind in
            yields h {phase = Phase.over} refl g.same Logic (over_comes y g.set g.same ∙ logic-same y.place y.context y.name y.operand y.op (of_formulas y.op (omega arith)) g.set) refl tt;
      }

      pub over_nothing_lem : kind_at s.work k < Kind.big_formulas → m.value ≡ 0 → {kind code p : ℕ} → kind ≡ kind_at s.work k → code ≡ prefix_code_at (tokenNumber s.work k)
          → p ≡ place_at s.work k → Takes s mem mem m (over_nothing (popped m) (big_by kind code) p)
      over_nothing_lem l z {kind} {code} {p} ei ec ep = record {
        turns = λ R x o out t.
            let y = at_over_lem t w in
            let h = y.top in
            let g = came-set R o mem m h.came h.come e in
            let none : g.set ≡ [] = no_element g.set (sym g.count ∙ z) in
            let q : h.came ≡ Worth (Set []) = g.same ∙ ap (λ (l : List ℕ). Worth (Set l)) none in
            let same_kind = (here y).kind in
            let same_op : big_by kind code ≡ y.op = ap₂ big_by (ei ∙ (here y).kind) (ec ∙ (here y).spelt) ∙ big_by_lem y.op (omega arith) in
            subst (λ (j : ℕ). Turned R mem mem out out m x o (over_nothing (popped m) (big_by kind code) j)) (sym (ep ∙ (here y).place))
            (subst (λ (u : Big). Turned R mem mem out out m x o (over_nothing (popped m) u y.place)) (sym same_op) (nothing-turns y.op h q (over_comes y [] q)));
      }

      module _ {mem' : List ℕ} {n : Machine} (z : m.value ≡ 0 → ⊥) where
        pub over-numbers : kind_at s.work k < Kind.big_sets → Turns mem mem' m (begun mem m Phase.first_number) m.depth (get_or mem m.from 0) (mode_of Evaluate) (above m) n → Takes s mem mem' m (Ok (Next n))
        over-numbers l b = record {
          turns = λ R x o out t.
              let y = at_over_lem t w in
              let h = y.top in
              let g = came-set R o mem m h.came h.come e in
              let c1 = g.count in
              let q = split mem m.from g.set g.held g.fine (omega arith) in
              let v = get_or mem m.from 0 in
              let u = (here y).kind in
              let of = of_numbers y.op (omega arith) in
              begins h {phase = Phase.over} refl g q {G = FirstNumber y.place y.op y.context y.name y.operand q.rest} {new = Phase.first_number} {a = Evaluate} {c = y.context} {i = y.name} {e = y.operand} (record {
                turns = b;
                is-turning = refl;
                fewer = λ j u. u;
                holds = q.fine;
                waits = (h.at.waits.0, h.at.waits.1, of);
                each = h.at.waits.1;
                kept = tt;
                same = over_comes y (v ∷ q.rest) (g.same ∙ ap (λ (l : List ℕ). Worth (Set l)) q.same) ∙ first_number_lem y.place y.context y.name y.operand y.op of v q.rest;
              });
        }

        pub over-sets : Kind.big_sets ≤ kind_at s.work k → kind_at s.work k < Kind.big_formulas → Turns mem mem' m (begun mem m Phase.first_set) m.depth (get_or mem m.from 0) (mode_of Evaluate) (above m) n → Takes s mem mem' m (Ok (Next n))
        over-sets l1 l2 b = record {
          turns = λ R x o out t.
              let y = at_over_lem t w in
              let h = y.top in
              let g = came-set R o mem m h.came h.come e in
              let c1 = g.count in
              let q = split mem m.from g.set g.held g.fine (omega arith) in
              let v = get_or mem m.from 0 in
              let u = (here y).kind in
              let of = of_sets y.op (omega arith) (omega arith) in
              let fw = g.fine.few in
              let sz : length g.set ≡ suc (length q.rest) = ap length q.same in
              let r1 = (room-under h).values in
              let n1 = h.noted.within in
              let n2 = h.noted.ascending in
              let ft = flat-top h {phase = Phase.over} refl in
              let lw = sits_low m (omega arith) g.sits in
              begins h {phase = Phase.over} refl g q {G = FirstSet y.place y.op y.context y.name y.operand q.rest} {new = Phase.first_set} {a = Evaluate} {c = y.context} {i = y.name} {e = y.operand} (record {
                turns = b;
                is-turning = refl;
                fewer = λ j u. u;
                holds = record { fine = q.fine; near = omega arith };
                waits = (h.at.waits.0, h.at.waits.1, of);
                each = h.at.waits.1;
                kept = tt;
                same = over_comes y (v ∷ q.rest) (g.same ∙ ap (λ (l : List ℕ). Worth (Set l)) q.same) ∙ first_set_lem y.place y.context y.name y.operand y.op of v q.rest;
              });
        }
