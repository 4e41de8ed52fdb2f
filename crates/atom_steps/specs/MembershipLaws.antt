-- IN: its number, its set.
use Rattle.std.specs.Prelude.{ℕ, suc, ◌+◌, min, Bool, List, ◌≡◌, refl, get_or, Ok}
use Rattle.std.proofs.Common.{sym, ap, ap₂, ◌∙◌, subst, arith}
use Rattle.node.specs.Limits.{max_nodes}
use Rattle.node.specs.Ltl.{Formula}
use Rattle.node.specs.Result.{Result, Done, ◌>>=◌}
use Rattle.node.proofs.ResultLaws.{bind_at}
use Rattle.machine.specs.declared.Move.TheVariants.{Next}
use Rattle.writing.specs.Writing.{Wrote}
use Rattle.language.specs.Tree.{Expr}
use Rattle.language.specs.Sets.{member_of}
use Rattle.language.specs.Values.{Value, number, set, value}
use Rattle.language.specs.Expansion.{truth, expansion}
use Rattle.entries.specs.Kinds as Kind
use Rattle.operands.specs.Entries.{kind_at}
use Rattle.operands.specs.Working.{Source}
use Rattle.operands.specs.Makings.{making_of}
use Rattle.memory_sets.specs.Places.{elements_at, Placed}
use Rattle.value_steps.specs.PlacedLaws.{elements_are, placed, span_of, set-under}
use Rattle.machine.specs.Fields.{value_field}
use Rattle.machine.specs.Phases as Phase
use Rattle.machine.specs.Came.{Evaluate, worth, nodes, works, as_number}
use Rattle.machine.specs.Frames.{Member, Among, among, apply}
use Rattle.machine.specs.Telling.{is_number, is_set}
use Rattle.machine.specs.States.{mode_of, written, Takes, ToppedToWrite, TakesToWrite}
use Rattle.machine.specs.Moves.{wrote, popped}
use Rattle.machine.specs.ComeLaws.{came-number, number_then, came-set}
use Rattle.machine.specs.FrameViews.{by_phase}
use Rattle.machine.specs.TakeLaws.{value-word, top-phase, top_as}
use Rattle.machine.specs.Openings.{Renewed}
use Rattle.machine.specs.StartLaws.{StartsTwo}
use Rattle.machine.specs.RenewLaws.{follows-last}
use Rattle.machine.specs.BindLaws.{take-number, take-set, then_nodes}
use Rattle.machine.specs.declared.Machine.{Machine}
use Rattle.machine.specs.Entering.{Expands, Waiting}
use Rattle.machine.specs.EnteringLaws.{works-formula, operand_making}
use Rattle.machine.specs.JoinedLaws.{joined-two}
use Rattle.atom_steps.specs.WriteLaws.{writes-after}

-- the clause as its frames have it
membership-same : (a b : Result Value) → ((a >>= number >>= λ n. b >>= set >>= λ m. Done (truth (member_of m n))) >>= nodes) ≡ ((a >>= worth) >>= λ v. as_number v >>= λ n. (b >>= worth) >>= among n)
membership-same a b =
    then_nodes (a >>= number) _ (λ n. (b >>= worth) >>= among n)
    (λ n. then_nodes (b >>= set) _ (λ m. nodes (truth (member_of m n))) (λ m. bind_at (truth (member_of m n)) nodes) ∙ sym (take-set b (λ m. nodes (truth (member_of m n)))))
    ∙ sym (take-number a (λ n. (b >>= worth) >>= among n))

-- the entry: the number is worked out first
pub membership-starts : {s : Source} {mem : List ℕ} {m : Machine} → Expands s.work m Kind.membership Kind.binary → StartsTwo s mem m Phase.member 0 Evaluate
membership-starts {s} {mem} {m} k =
    let e0 = k.mode in
    let k0 = k.from in
    let k1 = k.until in
    let kind : kind_at s.work m.value ≡ Kind.membership = omega arith in
    record {
      entry = omega arith;
      few_turns = omega arith;
      starting = λ R x o out n.
          let v = operand_making n.at.operand (ap making_of kind) in
          let a = v.1 in
          let b = v.2 in
          let two = joined-two R n.at.operand v.3 in
          record {
            frame = Member n.context b;
            first = a;
            holds_nothing = refl;
            inside = two.inside;
            operand = two.left;
            holds = tt;
            waits = two.right;
            kept = tt;
            same = works-formula n e0 ∙ ap (λ (d : Expr). expansion n.context d >>= nodes) v.3 ∙ membership-same (value n.context.values a) (value n.context.values b);
          };
    }

-- the number has come
module _ {s : Source} {mem : List ℕ} {m : Machine} (w : Waiting mem m Phase.member) where
  pub number-steps : m.mode ≡ is_number → {mem' : List ℕ} {n : Machine} → Renewed mem mem' m Phase.among 0 m.value 0 (mode_of Evaluate) n → Takes s mem mem' m (Ok (Next n))
  number-steps e q = record {
    turns = λ R x o out t.
        let v = by_phase t.frame Phase.member (top-phase t ∙ w.phase) in
        let c = v.0 in
        let b = v.1 in
        let h = top_as t v.2 in
        let n = came-number R o mem m h.came h.come e in
        follows-last h {G = Among m.value} {a = Evaluate} {c = c} {e = b} q (record {
          held-nothing = refl;
          holds-no-words = refl;
          keeps-formula = ap (written m.nodes) n.same;
          fewer = omega arith;
          operand = h.at.waits;
          holds = record { here = refl; small = n.small };
          waits = tt;
          kept = tt;
          same = number_then n (λ i. works Evaluate c b >>= among i);
        });
  }

-- the set has come
module _ {s : Source} {mem out : List ℕ} {m : Machine} (w : Waiting mem m Phase.among) where
  module _ (e : m.mode ≡ is_set) where
    pub among-placed : ToppedToWrite s mem out m → Placed mem (span_of m)
    among-placed t =
        let v = by_phase t.top.frame Phase.among (top-phase t.top ∙ w.phase) in
        let h = top_as t.top v.1 in
        let g = came-set t.realm t.began mem m h.came h.come e in
        placed mem (span_of m) g.set g.held g.count g.fine (set-under h e)

    pub among-steps : {i r n : ℕ} {b : Bool} {out' : List ℕ} → i ≡ get_or mem (m.frames + value_field) 0 → b ≡ member_of (elements_at mem (span_of m)) i → Wrote (truth b) out out' m.nodes r
        → n ≡ min r (suc max_nodes) → TakesToWrite s mem mem out out' m (Ok (Next (wrote (popped m) n)))
    among-steps {i} {r} {n} {b} {out'} ei eb q en = record {
      turns = λ R x o t.
          let v = by_phase t.frame Phase.among (top-phase t ∙ w.phase) in
          let h = top_as t v.1 in
          let g = came-set R o mem m h.came h.come e in
          let same_number : i ≡ v.0 = ei ∙ value-word h ∙ h.at.holds.here in
          let same_set : elements_at mem (span_of m) ≡ g.set = elements_are mem (span_of m) g.set g.held g.count g.fine (set-under h e) in
          let f : Formula = truth (member_of g.set v.0) in
          let same : truth b ≡ f = ap truth (eb ∙ ap₂ member_of same_set same_number) in
          writes-after h {phase = Phase.among} refl g.same f (ap (apply (Among v.0)) g.same ∙ bind_at g.set (λ y. nodes (truth (member_of y v.0))))
          (subst (λ (y : Formula). Wrote y out out' m.nodes r) same q) en;
    }
