-- A big operator of numbers: what its operands have come to is folded to the left.
use Rattle.std.specs.Prelude.{ℕ, suc, ◌+◌, ◌≤◌, ◌<◌, ◌^◌, List, [], ◌∷◌, ◌≡◌, refl, length, get_or, Ok, Err}
use Rattle.std.proofs.Common.{sym, ap, ap₂, ◌∙◌, subst, arith}
use Rattle.node.specs.Result.{Result, ◌>>=◌}
use Rattle.node.proofs.ResultLaws.{bind_again, bind_at, bind_same, bind_refused}
use Rattle.node.specs.Returned.{Returned, refusal}
use Rattle.machine.specs.Stepped.{Stepped}
use Rattle.language.specs.Limits.{max_number}
use Rattle.language.specs.Tokens.{Token}
use Rattle.language.specs.Operators.{Arithmetic, Big, BigSum, BigProduct, BigCap, BigCup, BigAnd, BigOr}
use Rattle.language.specs.Tree.{Expr}
use Rattle.language.specs.Values.{Number, number, calculate, onward, value}
use Rattle.language.specs.Expansion.{Context, at}
use Rattle.language.proofs.Laws.Basics.Results.{value_of}
use Rattle.language.proofs.Laws.Values.ValueLaws.{calculate_sane}
use Rattle.sets.specs.Answers.{says}
use Rattle.sets.specs.Operators.{arithmetic}
use Rattle.operators.specs.Codes.{big_code}
use Rattle.operators.specs.Tables.{prefix_code_at}
use Rattle.operands.specs.Entries.{place_at, number_at as tokenNumber}
use Rattle.operands.specs.Working.{Source}
use Rattle.machine.specs.Fields.{entry_field, value_field}
use Rattle.machine.specs.Phases as Phase
use Rattle.machine.specs.Came.{Evaluate, Came, worth, works, as_number}
use Rattle.machine.specs.Frames.{Frame, FirstNumber, NextNumber, numeric, number_at, onward_numbers, apply}
use Rattle.machine.specs.Realm.{Realm}
use Rattle.machine.specs.Operators.{Folds, OpAt}
use Rattle.machine.specs.Memory.{nowhere}
use Rattle.machine.specs.MemoryLaws.{held_none, agree_same}
use Rattle.machine.specs.Holding.{holding, turning}
use Rattle.machine.specs.Telling.{is_number, Fine}
use Rattle.machine.specs.Table.{Began}
use Rattle.machine.specs.Cost.{turns}
use Rattle.machine.specs.Stack.{EachOf, OfNumbers}
use Rattle.machine.specs.States.{Turned, TopOf, Top, Topped, Takes}
use Rattle.machine.specs.ComeLaws.{IsNumber, came-number}
use Rattle.machine.specs.FrameViews.{by_phase}
use Rattle.machine.specs.TakeLaws.{words, entry_word_lem, base_word, count_word, value-word, refuses, top-phase, top_as}
use Rattle.machine.specs.BindLaws.{take-number}
use Rattle.machine.specs.declared.Machine.{Machine}
use Rattle.machine.specs.Entering.{Waiting}
use Rattle.fold_steps.specs.ElementLaws.{split, no_element}
use Rattle.fold_steps.specs.ContinueLaws.{continuing, continues, ends, turning-depth, turning_held, turning_lies, turning-count, turning-laid}
use Rattle.fold_steps.specs.FoldingNumbers.{Foldable, Onward, ended, going}

-- the fold over no element, and over one more
fold_end : (p : ℕ) (o : Big) (c : Context) (i : Token) (e : Expr) (a : ℕ) → onward_numbers p o c i e [] a ≡ worth (Number a)
fold_end p o c i e a = bind_at a (λ n. worth (Number n))

fold_more : (p : ℕ) (o : Big) (c : Context) (i : Token) (e : Expr) (v : ℕ) (rest : List ℕ) (a : ℕ) → onward_numbers p o c i e (v ∷ rest) a ≡ (works Evaluate (at c i v) e >>= apply (NextNumber p o c i e a rest))
fold_more p o c i e v rest a =
    let step : ℕ → ℕ → Result ℕ = calculate p (numeric o) in
    let f : ℕ → Result ℕ = number_at c i e in
    let r = value (at c i v).values e in
    bind_again (r >>= number) (λ b. step a b >>= λ d. onward step f d rest) (λ n. worth (Number n))
    ∙ bind_same (r >>= number) _ _ (λ b. bind_again (step a b) (λ d. onward step f d rest) (λ n. worth (Number n)))
    ∙ sym (take-number r (λ b. step a b >>= onward_numbers p o c i e rest))

-- the operator between two numbers that a big one folds with
numeric-code : (o : Big) → OfNumbers o → arithmetic (big_code o) ≡ numeric o
numeric-code BigSum h = refl
numeric-code BigProduct h = refl
numeric-code BigCap h = absurd h
numeric-code BigCup h = absurd h
numeric-code BigAnd h = absurd h
numeric-code BigOr h = absurd h

module _ {s : Source} {R : Realm s} {mem out : List ℕ} {m : Machine} {x : Result Came} {o : Began} {F : Frame} (h : TopOf R mem out m x o F) {phase : ℕ} {l : List ℕ} (f : holding F ≡ turning phase l [] []) where
  pub foldable : length mem < 2 ^ 32 → Foldable mem m
  foldable sm =
      let tc = turning-count h f in
      let cw = count_word h in
      let td = turning-depth h f in
      record { next = λ q. continuing h f sm (omega arith) (omega arith); inside = h.at.inside; small = sm; bound = omega arith }

  -- l is left, and n was folded before
  pub record Folding (p : ℕ) (op : Big) (c : Context) (i : Token) (e : Expr) (n : ℕ) : Type 0 where
    pub came : IsNumber m h.came
    pub same : apply F h.came ≡ onward_numbers p op c i e l n
    pub fine : Fine l
    pub small : n ≤ max_number
    pub here : OpAt s (words h).entry (Folds op) p
    pub each : EachOf R h.footing c i e
    pub numbers : OfNumbers op
    pub fewer : (count : ℕ) → turns Phase.next_number count < turns phase (suc count)

  pub folds_on : {p : ℕ} {op : Big} {c : Context} {i : Token} {e : Expr} {n : ℕ} → Folding p op c i e n → {mem' : List ℕ} (r : Stepped) → Onward mem mem' m n r → Turned R mem mem' out out m x o r
  folds_on {p} {op} {c} {i} {e} {n} b {mem'} r (ended z em er) =
      let none = no_element l (sym (turning-count h f) ∙ sym (count_word h) ∙ z) in
      subst (λ (y : List ℕ). Turned R mem y out out m x o r) (sym em) (subst (λ (y : Stepped). Turned R mem mem out out m x o y) (sym er) (ends h f {v = Number n} (record {
        value-came = Number m.value;
        came-is = b.came.same;
        same = b.same ∙ ap (λ (y : List ℕ). onward_numbers p op c i e y n) none ∙ fold_end p op c i e n;
        base-is = base_word h;
        tells = record { mode_is = refl; value-is = refl; small = b.small };
        stands = tt;
        agree = agree_same;
        noted = h.noted;
        lasting = h.lasting;
      })))
  folds_on {p} {op} {c} {i} {e} {n} b {mem'} r (going {y} z er t) =
      let tc = turning-count h f in
      let cw = count_word h in
      let q = split mem (words h).at l (turning_held h f) b.fine (omega arith) in
      let v = get_or mem (words h).at 0 in
      subst (λ (y : Stepped). Turned R mem mem' out out m x o y) (sym er)
      (continues h f {G = NextNumber p op c i e n q.rest} {new = Phase.next_number} {value = n} {other = 0} {fold' = []} {forms' = []} {a = Evaluate} {c = c} {i = i} {e = e} {mem₀ = mem} {out' = out} (record {
        words-kept = refl;
        agree = agree_same;
        some = q;
        framed = t.framed;
        next = t.next;
        is-turning = refl;
        lower = h.at.lower;
        high = h.at.high;
        lies = turning_lies h f;
        held_fold = held_none mem 0;
        lies_fold = nowhere refl;
        holds = (q.fine, record { here = refl; small = b.small });
        waits = (b.here, b.each, b.numbers);
        each = b.each;
        laid = turning-laid h f b.came.same;
        few = h.few;
        noted = h.noted;
        lasting = h.lasting;
        fewer = b.fewer;
        kept = tt;
        same = b.same ∙ ap (λ (y : List ℕ). onward_numbers p op c i e y n) q.same ∙ fold_more p op c i e v q.rest n;
      }))

-- the frame that waits for the operand at the first element; at a further one, where `sum` was folded before
record AtFirst {s : Source} (R : Realm s) (mem out : List ℕ) (m : Machine) (x : Result Came) (o : Began) : Type 0 where
  place : ℕ
  op : Big
  context : Context
  name : Token
  operand : Expr
  rest : List ℕ
  top : TopOf R mem out m x o (FirstNumber place op context name operand rest)

record AtNext {s : Source} (R : Realm s) (mem out : List ℕ) (m : Machine) (x : Result Came) (o : Began) : Type 0 where
  place : ℕ
  op : Big
  context : Context
  name : Token
  operand : Expr
  sum : ℕ
  rest : List ℕ
  top : TopOf R mem out m x o (NextNumber place op context name operand sum rest)

module _ {s : Source} {R : Realm s} {mem out : List ℕ} {m : Machine} {x : Result Came} {o : Began} (t : Top R mem out m x o) where
  at_first : Waiting mem m Phase.first_number → AtFirst R mem out m x o
  at_first w =
      let v = by_phase t.frame Phase.first_number (top-phase t ∙ w.phase) in
      record { place = v.0; op = v.1; context = v.2; name = v.3; operand = v.4; rest = v.5; top = top_as t {F = FirstNumber v.0 v.1 v.2 v.3 v.4 v.5} v.6 }

  at_next : Waiting mem m Phase.next_number → AtNext R mem out m x o
  at_next w =
      let v = by_phase t.frame Phase.next_number (top-phase t ∙ w.phase) in
      record {
        place = v.0;
        op = v.1;
        context = v.2;
        name = v.3;
        operand = v.4;
        sum = v.5;
        rest = v.6;
        top = top_as t {F = NextNumber v.0 v.1 v.2 v.3 v.4 v.5 v.6} v.7;
      }

-- the operand at the first element has come
module _ {s : Source} {mem : List ℕ} {m : Machine} (w : Waiting mem m Phase.first_number) where
  pub first-foldable : Topped s mem m → Foldable mem m
  first-foldable t = let y = at_first t.top w in foldable y.top {phase = Phase.first_number} {l = y.rest} refl t.lent.small

  pub first-steps : m.mode ≡ is_number → {mem' : List ℕ} (r : Stepped) → Onward mem mem' m m.value r → Takes s mem mem' m r
  first-steps e r g = record {
    turns = λ R x o out t.
        let y = at_first t w in
        let h = y.top in
        let k = onward_numbers y.place y.op y.context y.name y.operand y.rest in
        let n = came-number R o mem m h.came h.come e in
        folds_on h {phase = Phase.first_number} {l = y.rest} refl {p = y.place} {op = y.op} {c = y.context} {i = y.name} {e = y.operand} {n = m.value} (record {
          came = n;
          same = ap (λ (u : Came). as_number u >>= k) n.same ∙ bind_at m.value k;
          fine = h.at.holds;
          small = n.small;
          here = h.at.waits.0;
          each = h.at.waits.1;
          numbers = h.at.waits.2;
          fewer = λ j. omega arith;
        }) r g;
  }

-- the frame's words as the code reads them, and what it makes of them
pub record Adds (s : Source) (mem : List ℕ) (m : Machine) (k i p a : ℕ) (r : Returned ℕ) : Type 0 where
  pub entry : k ≡ get_or mem (m.frames + entry_field) 0
  pub operator : i ≡ prefix_code_at (tokenNumber s.work k)
  pub place : p ≡ place_at s.work k
  pub folded : a ≡ get_or mem (m.frames + value_field) 0
  pub answer : says r ≡ calculate p (arithmetic i) a m.value

-- the code's number is the definition's
record Added {s : Source} {R : Realm s} {mem out : List ℕ} {m : Machine} {x : Result Came} {o : Began} (y : AtNext R mem out m x o) (r : Returned ℕ) : Type 0 where
  came : IsNumber m y.top.came
  says_is : says r ≡ calculate y.place (numeric y.op) y.sum m.value
  same : apply (NextNumber y.place y.op y.context y.name y.operand y.sum y.rest) y.top.came
      ≡ (says r >>= onward_numbers y.place y.op y.context y.name y.operand y.rest)

-- the operand at a further element has come
module _ {s : Source} {mem : List ℕ} {m : Machine} (w : Waiting mem m Phase.next_number) where
  pub next-foldable : Topped s mem m → Foldable mem m
  next-foldable t = let y = at_next t.top w in foldable y.top {phase = Phase.next_number} {l = y.rest} refl t.lent.small

  module _ (e : m.mode ≡ is_number) {k i p a : ℕ} where
    added : {R : Realm s} {out : List ℕ} {x : Result Came} {o : Began} (y : AtNext R mem out m x o) (r : Returned ℕ) → Adds s mem m k i p a r → Added y r
    added {R} {o = o} y r q =
        let h = y.top in
        let n = came-number R o mem m h.came h.come e in
        let pl = y.place in
        let op = y.op in
        let onto = onward_numbers pl op y.context y.name y.operand y.rest in
        let here : OpAt s k (Folds op) pl = subst (λ (j : ℕ). OpAt s j (Folds op) pl) (sym (q.entry ∙ entry_word_lem h)) h.at.waits.0 in
        let same_op : arithmetic i ≡ numeric op = ap arithmetic (q.operator ∙ here.spelt) ∙ numeric-code op h.at.waits.2 in
        let same_place : p ≡ pl = q.place ∙ here.place in
        let same_number : a ≡ y.sum = q.folded ∙ value-word h ∙ h.at.holds.1.here in
        let z : says r ≡ calculate pl (numeric op) y.sum m.value = q.answer ∙ ap (λ (j : ℕ). calculate j (arithmetic i) a m.value) same_place
        ∙ ap₂ (λ (u : Arithmetic) (j : ℕ). calculate pl u j m.value) same_op same_number in
        record {
          came = n;
          says_is = z;
          same = ap (λ (u : Came). as_number u >>= λ j. calculate pl (numeric op) y.sum j >>= onto) n.same ∙ bind_at m.value (λ j. calculate pl (numeric op) y.sum j >>= onto)
              ∙ ap (λ (u : Result ℕ). u >>= onto) (sym z);
        }

    pub next-refuses : {number place : ℕ} → Adds s mem m k i p a (Err (refusal number place)) → Takes s mem mem m (Err (refusal number place))
    next-refuses {number} {place} q = record {
      turns = λ R x o out t.
          let y = at_next t w in
          let z = added y (Err (refusal number place)) q in
          refuses y.top (z.same ∙ bind_refused (says (Err (refusal number place))) number place (onward_numbers y.place y.op y.context y.name y.operand y.rest) refl);
    }

    pub next-steps : {n : ℕ} → Adds s mem m k i p a (Ok n) → {mem' : List ℕ} (r : Stepped) → Onward mem mem' m n r → Takes s mem mem' m r
    next-steps {n} q r g = record {
      turns = λ R x o out t.
          let y = at_next t w in
          let h = y.top in
          let z = added y (Ok n) q in
          folds_on h {phase = Phase.next_number} {l = y.rest} refl {p = y.place} {op = y.op} {c = y.context} {i = y.name} {e = y.operand} {n = n} (record {
            came = z.came;
            same = z.same ∙ bind_at n (onward_numbers y.place y.op y.context y.name y.operand y.rest);
            fine = h.at.holds.0;
            small = value_of (sym z.says_is) (calculate_sane y.place (numeric y.op) y.sum m.value h.at.holds.1.small z.came.small);
            here = h.at.waits.0;
            each = h.at.waits.1;
            numbers = h.at.waits.2;
            fewer = λ j. omega arith;
          }) r g;
    }
