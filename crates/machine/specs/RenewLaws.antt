-- A frame that holds no words takes what has come, is written anew and keeps it, while the next operand is worked out.
use Rattle.std.specs.Prelude.{ℕ, ◌+◌, ◌-◌, ◌≤◌, ◌<◌, false, List, [], ◌++◌, ◌≡◌, refl, length, Ok}
use Rattle.std.proofs.Common.{sym, ap, ◌∙◌, subst, arith, add-zero}
use Rattle.node.specs.Result.{Result, ◌>>=◌}
use Rattle.machine.specs.declared.Move.TheVariants.{Next}
use Rattle.language.specs.Limits.{max_tokens, work_bytes}
use Rattle.language.specs.Tree.{Expr}
use Rattle.language.specs.Expansion.{Context}
use Rattle.operands.specs.Entries.{size_at}
use Rattle.operands.specs.Working.{Source}
use Rattle.machine.specs.Came.{Aim, Came, works}
use Rattle.machine.specs.Frames.{Frame, apply, Kept}
use Rattle.machine.specs.Realm.{Operand, Realm}
use Rattle.machine.specs.Memory.{Held, Slotted, nowhere, Framed}
use Rattle.machine.specs.MemoryLaws.{held_none, agree_same}
use Rattle.machine.specs.Holding.{Holding, Laying, phase, holding, elements, folded, empty, noting, slots_of, forms_of}
use Rattle.machine.specs.Table.{Began, end_of}
use Rattle.machine.specs.TableLaws.{laid_as}
use Rattle.machine.specs.Cost.{turns}
use Rattle.machine.specs.Stack.{scope_above, Holds, Waits}
use Rattle.machine.specs.States.{mode_of, written, Turned, TopOf, Topped}
use Rattle.machine.specs.TakeLaws.{words, entry_word_lem, room-under, renewed, goes}
use Rattle.machine.specs.FlatLaws.{flat-top, flat_scope, flat-depth, weight_less}
use Rattle.machine.specs.OperandLaws.{topped-entry}
use Rattle.machine.specs.Moves.{came}
use Rattle.machine.specs.Openings.{first_of, Preceded, entry_at, kept_words, Renewed, RenewedBefore, Renewable}
use Rattle.machine.specs.declared.Machine.{Machine}

pub topped_renewable : {s : Source} {mem : List ℕ} {m : Machine} → Topped s mem m → Renewable mem m
topped_renewable t =
    let h = t.top.top.at in
    let r = h.room in
    let i = h.high in
    record { inside = h.inside; small = t.lent.small; below = omega arith; some = (topped-entry t).some }

-- the last operand, of three, can be read; the one before it ends where its entries begin
module _ {work mem mem' : List ℕ} {m : Machine} {phase at value other mode : ℕ} {n : Machine} (q : Renewed mem mem' m phase at value other mode n) (p : Preceded work (entry_at mem m) 0) where
  last-value : n.value ≡ entry_at mem m - 1
  last-value = ap (λ (y : Machine). y.value) q.next

  pub renewed-entry : (n.value < max_tokens) × (work_bytes ≤ length work)
  renewed-entry = let e = last-value in let l = p.few in (omega arith, p.lent)

  pub renewed-inside : {z : ℕ} → z ≡ size_at work n.value → z ≤ n.value
  renewed-inside e = let l = subst (λ (y : ℕ). size_at work y ≤ y) (sym last-value) (let i = p.inside in omega arith) in omega arith

pub renewed-before : {work mem mem' : List ℕ} {m : Machine} {phase value mode : ℕ} {n u : Machine} {z : ℕ} → Renewed mem mem' m phase 0 value 0 mode n → z ≡ size_at work n.value → u ≡ came n mode (n.value - z) 0
    → RenewedBefore work mem mem' m phase value mode u
renewed-before {work} {mode = mode} {n = n} q ez eu = record {
  framed = q.framed;
  next = eu ∙ ap (λ (i : ℕ). came n mode (n.value - i) 0) ez ∙ ap (λ (k : Machine). came k mode (k.value - size_at work k.value) 0) q.next;
}

-- an operand stands before the last one
pub topped-before : {s : Source} {mem : List ℕ} {m : Machine} → Topped s mem m → size_at s.work (entry_at mem m - 1) < entry_at mem m → Preceded s.work (entry_at mem m) 0
topped-before t l = let f = topped-entry t in record { few = f.few; lent = f.work; inside = omega arith }

module _ {s : Source} {R : Realm s} {mem out : List ℕ} {m : Machine} {x : Result Came} {o : Began} {F : Frame} (h : TopOf R mem out m x o F) where
  -- as G, with the words that it keeps and the formula that has come, if one has; it waits for e, the operand at entry j
  pub record Following (G : Frame) (at value other : ℕ) (a : Aim) (c : Context) (e : Expr) (j : ℕ) : Type 0 where
    pub held-nothing : holding F ≡ empty (phase F) false
    pub holds-no-words : holding G ≡ noting (phase G) (holding G).forms
    pub keeps-formula : written m.nodes h.came ≡ (holding G).forms
    pub fewer : turns (phase G) 0 < turns (phase F) 0
    pub operand : Operand s R.W R.ports h.footing.env c j e
    pub holds : Holds R.W (end_of o (forms_of h.rest)) (renewed h (kept_words m (phase G) (words h).entry at value other)) G
    pub waits : Waits R (renewed h (kept_words m (phase G) (words h).entry at value other)) G
    pub kept : Kept G (works a c e)
    pub same : apply F h.came ≡ (works a c e >>= apply G)

  module _ {G : Frame} {at value other : ℕ} {a : Aim} {c : Context} {e : Expr} {mem' : List ℕ} where
    follows : {j : ℕ} {u : Machine} → Framed mem mem' m.frames (kept_words m (phase G) (entry_at mem m) at value other) → Following G at value other a c e j → j ≤ (words h).entry - 1
        → u ≡ came m (mode_of a) j 0 → Turned R mem mem' out out m x o (Ok (Next u))
    follows q z l eu =
        let new = kept_words m (phase G) (words h).entry at value other in
        let f = z.held-nothing in
        let g = z.holds-no-words in
        let e0 : elements G ≡ [] = ap (λ (y : Holding). y.elements) g in
        let e1 : folded G ≡ [] = ap (λ (y : Holding). y.folded) g in
        let w1 : (words h).count ≡ 0 = h.at.counted ∙ ap (λ (y : Holding). length y.elements) f in
        let so = h.at.some in
        let en = h.at.entry in
        let u = room-under h in
        let ft = flat-top h f in
        let fs = flat_scope h f in
        let fd = flat-depth h f in
        subst (λ (y : Machine). Turned R mem mem' out out m x o (Ok (Next y))) (sym eu)
        (goes h {G = G} {a = a} {c = c} {e = e} {mem₁ = mem} (record {
          new = new;
          framed = subst (λ (k : ℕ). Framed mem mem' m.frames (kept_words m (phase G) k at value other)) (entry_word_lem h) q;
          phased = refl;
          base-is = ft;
          some = omega arith;
          down = omega arith;
          agree = agree_same;
          frames-is = refl;
          scope_is = fs ∙ ap (λ (y : Holding). scope_above y.inside (renewed h new)) (sym g);
          deep = fd ∙ sym (ap (λ (y : Holding). h.footing.depth + slots_of y.binds) g ∙ add-zero h.footing.depth);
          lower = omega arith;
          high = omega arith;
          level = λ y. ft;
          counted = sym (ap length e0);
          held = subst (Held mem at) (sym e0) (held_none mem at);
          lies = nowhere (ap length e0);
          held_fold = subst (Held mem other) (sym e1) (held_none mem other);
          lies_fold = nowhere (ap length e1);
          holds = z.holds;
          waits = z.waits;
          mode_is = refl;
          below = omega arith;
          env = h.footing.env;
          first = let y = h.at.first in omega arith;
          width = fd ∙ h.at.width ∙ ap (λ (i : ℕ). i + length h.footing.env) (sym fs);
          slotted = subst (λ (i : ℕ). Slotted mem i h.footing.env) (sym fs) h.at.seen;
          operand = z.operand;
          laid = laid_as (ap (λ (y : Holding). written m.nodes h.came ++ (y.forms ++ forms_of h.rest)) f ∙ ap (λ (y : List Laying). y ++ forms_of h.rest) z.keeps-formula) h.laid;
          few = h.few;
          noted = h.noted;
          lasting = h.lasting;
          less = weight_less (phase G) (phase F) (words h).entry z.fewer refl refl h.at.phased w1;
          kept = z.kept;
          same = z.same;
        }))

    -- the last operand
    pub follows-last : {n : Machine} → Renewed mem mem' m (phase G) at value other (mode_of a) n → Following G at value other a c e ((words h).entry - 1) → Turned R mem mem' out out m x o (Ok (Next n))
    follows-last q z = follows q.framed z (omega arith) (q.next ∙ ap (λ (k : ℕ). came m (mode_of a) (k - 1) 0) (entry_word_lem h))

  -- the one before it
  pub follows_before : {G : Frame} {value : ℕ} {a : Aim} {c : Context} {e : Expr} {mem' : List ℕ} {n : Machine} → RenewedBefore s.work mem mem' m (phase G) value (mode_of a) n
      → Following G 0 value 0 a c e (first_of s.work (words h).entry 0) → Turned R mem mem' out out m x o (Ok (Next n))
  follows_before {a = a} q y = follows q.framed y (omega arith) (q.next ∙ ap (λ (k : ℕ). came m (mode_of a) (first_of s.work k 0) 0) (entry_word_lem h))
