-- An operator between two sets: its left operand.
use Rattle.std.specs.Prelude.{ℕ, ◌+◌, ◌-◌, ◌≤◌, ◌<◌, ◌^◌, List, ◌≡◌, refl, length, get_or, Ok}
use Rattle.std.proofs.lemmas.Bool.{false≢true}
use Rattle.std.proofs.Common.{sym, ap, ◌∙◌, subst, arith, add-zero}
use Rattle.node.specs.Result.{Result, Done, ◌>>=◌}
use Rattle.node.proofs.ResultLaws.{bind_at}
use Rattle.machine.specs.declared.Move.TheVariants.{Next}
use Rattle.language.specs.Limits.{max_elements}
use Rattle.language.specs.Operators.{Combination, Combines}
use Rattle.language.specs.Tree.{Expr}
use Rattle.language.specs.Sets.{combine}
use Rattle.language.specs.Values.{Value, Set, set, limited, value}
use Rattle.entries.specs.Kinds as Kind
use Rattle.operands.specs.Entries.{kind_at}
use Rattle.operands.specs.KindLaws.{combination-class}
use Rattle.operands.specs.Working.{Source}
use Rattle.machine.specs.Fields.{entry_field}
use Rattle.machine.specs.Phases as Phase
use Rattle.machine.specs.Came.{Evaluate, worth, works, as_set}
use Rattle.machine.specs.Frames.{LeftSet, RightSet, combined, apply}
use Rattle.machine.specs.Realm.{Operand}
use Rattle.machine.specs.Operators.{Between, OpAt}
use Rattle.machine.specs.Memory.{Slotted, nowhere, Framed}
use Rattle.machine.specs.MemoryLaws.{held_none, agree_same}
use Rattle.machine.specs.SetLaws.{above_from, above_most, sits_lies, sits_low}
use Rattle.machine.specs.Moves.{above}
use Rattle.machine.specs.Telling.{is_set}
use Rattle.machine.specs.States.{Topped, Takes}
use Rattle.machine.specs.ComeLaws.{came-set}
use Rattle.machine.specs.FrameViews.{by_phase}
use Rattle.machine.specs.TakeLaws.{words, entry_word_lem, room-under, goes, top-phase, top_as}
use Rattle.machine.specs.FlatLaws.{flat-top, flat_scope, flat-depth, flat-laid, weight_falls}
use Rattle.machine.specs.ContractLaws.{takes-next}
use Rattle.machine.specs.BindLaws.{take-set, then_worth, set_last}
use Rattle.machine.specs.OperandLaws.{operand-view}
use Rattle.machine.specs.declared.Machine.{Machine}
use Rattle.machine.specs.Entering.{Evaluates, Waiting}
use Rattle.machine.specs.EnteringLaws.{works-value}
use Rattle.machine.specs.StartLaws.{StartsTwo}
use Rattle.machine.specs.JoinedLaws.{joined-two, joined_op}
use Rattle.value_steps.specs.Moves.{onward}

-- the clause as its frames have it
combination-same : (p : ℕ) (o : Combination) (a b : Result Value) → ((a >>= set >>= λ m. b >>= set >>= λ n. limited p (combine o m n) >>= λ l. Done (Set l)) >>= worth)
    ≡ ((a >>= worth) >>= λ v. as_set v >>= λ m. (b >>= worth) >>= combined p o m)
combination-same p o a b =
    then_worth (a >>= set) _ (λ m. (b >>= worth) >>= combined p o m)
    (λ m. then_worth (b >>= set) _ (λ n. limited p (combine o m n) >>= λ l. worth (Set l)) (λ n. set_last (limited p (combine o m n))) ∙ sym (take-set b (λ n. limited p (combine o m n) >>= λ l. worth (Set l))))
    ∙ sym (take-set a (λ m. (b >>= worth) >>= combined p o m))

-- the entry: its left operand is worked out first
pub combination-starts : {s : Source} {mem : List ℕ} {m : Machine} → Evaluates s.work m Kind.combination Kind.equality → StartsTwo s mem m Phase.left_set 0 Evaluate
combination-starts {s} {mem} {m} k =
    let e0 = k.mode in
    record {
      entry = omega arith;
      few_turns = omega arith;
      starting = λ R x o out n.
          let v = operand-view n.at.operand (combination-class (kind_at s.work m.value) k.from k.until) in
          let t = v.0 in
          let op = v.1 in
          let a = v.2 in
          let b = v.3 in
          let two = joined-two R n.at.operand v.4 in
          record {
            frame = LeftSet t.at op n.context b;
            first = a;
            holds_nothing = refl;
            inside = two.inside;
            operand = two.left;
            holds = tt;
            waits = (joined_op R n.at.operand v.4, two.right);
            kept = tt;
            same = works-value n e0 ∙ ap (λ (d : Expr). value n.context.values d >>= worth) v.4 ∙ combination-same t.at op (value n.context.values a) (value n.context.values b);
          };
    }

-- a set that has come: its place can be numbered
pub record Numbered (m : Machine) : Type 0 where
  pub from : m.from < 2 ^ 32
  pub top : m.top < 2 ^ 32
  pub few : m.value ≤ max_elements

pub set-numbered : {s : Source} {mem : List ℕ} {m : Machine} → Topped s mem m → m.mode ≡ is_set → Numbered m
set-numbered {mem = mem} {m} t e =
    let h = t.top.top in
    let g = came-set t.realm t.began mem m h.came h.come e in
    let sz = g.count in
    let fw = g.fine.few in
    let u = room-under h in
    let u1 = u.values in
    let n1 = h.noted.within in
    let n2 = h.noted.ascending in
    let lo = h.at.lower in
    let ins = h.at.inside in
    let hi = h.at.high in
    let ro = h.at.room in
    let sm = t.lent.small in
    let lw = sits_low m (omega arith) g.sits in
    record { from = omega arith; top = omega arith; few = omega arith }

-- the left operand has come
module _ {s : Source} {mem : List ℕ} {m : Machine} (w : Waiting mem m Phase.left_set) where
  pub left-steps : m.mode ≡ is_set → {mem' : List ℕ} {k top : ℕ} → k ≡ get_or mem (m.frames + entry_field) 0 → top ≡ above m
      → Framed mem mem' m.frames (record { phase = Phase.right_set; entry = k; base = m.top; at = m.from; count = m.value; value = 0; other = 0 }) → Takes s mem mem' m (Ok (Next (onward m (k - 1) top)))
  left-steps e {mem'} {k} ek et f = takes-next (ap (onward m (k - 1)) et) (record {
    turns = λ R x o out t.
        let v = by_phase t.frame Phase.left_set (top-phase t ∙ w.phase) in
        let p = v.0 in
        let op = v.1 in
        let c = v.2 in
        let b = v.3 in
        let h = top_as t v.4 in
        let g = came-set R o mem m h.came h.come e in
        let same-entry : k ≡ (words h).entry = ek ∙ entry_word_lem h in
        let some' = h.at.some in
        let at = h.at.entry in
        let ft = flat-top h refl in
        let fs = flat_scope h refl in
        let fd = flat-depth h refl in
        let u = room-under h in
        let u1 = u.values in
        let n1 = h.noted.within in
        let n2 = h.noted.ascending in
        let sz = g.count in
        let fw = g.fine.few in
        let en = h.at.enough in
        let af = above_from m in
        let am = above_most m in
        let lw = sits_low m (omega arith) g.sits in
        goes h {G = RightSet p op g.set} {a = Evaluate} {c = c} {e = b} {mem₁ = mem} (record {
          new = record { phase = Phase.right_set; entry = k; base = m.top; at = m.from; count = m.value; value = 0; other = 0 };
          framed = f;
          phased = refl;
          base-is = ft;
          some = omega arith;
          down = omega arith;
          agree = agree_same;
          frames-is = refl;
          scope_is = fs;
          deep = fd ∙ sym (add-zero h.footing.depth);
          lower = omega arith;
          high = omega arith;
          level = λ y. absurd (false≢true y);
          counted = g.count;
          held = g.held;
          lies = sits_lies m g.count ft g.sits;
          held_fold = held_none mem 0;
          lies_fold = nowhere refl;
          holds = record { fine = g.fine; near = lw };
          waits = subst (λ (i : ℕ). OpAt s i (Between (Combines op)) p) (sym same-entry) h.at.waits.0;
          mode_is = refl;
          below = omega arith;
          env = h.footing.env;
          first = let y = h.at.first in omega arith;
          width = fd ∙ h.at.width ∙ ap (λ (i : ℕ). i + length h.footing.env) (sym fs);
          slotted = subst (λ (i : ℕ). Slotted mem i h.footing.env) (sym fs) h.at.seen;
          operand = subst (λ (i : ℕ). Operand s R.W R.ports h.footing.env c (i - 1) b) (sym same-entry) h.at.waits.1;
          laid = flat-laid h refl g.same;
          few = h.few;
          noted = h.noted;
          lasting = h.lasting;
          less = weight_falls Phase.right_set Phase.left_set (words h).entry m.value (words h).count (omega arith) same-entry h.at.phased;
          kept = tt;
          same = ap (apply (LeftSet p op c b)) g.same ∙ bind_at g.set (λ i. works Evaluate c b >>= combined p op i);
        });
  })
