-- A frame is written anew as that of a big operator whose name has come to an element: the operand is worked out with the name bound. For numbers, sets and formulas.
use Rattle.std.specs.Prelude.{ℕ, suc, ◌+◌, ◌-◌, ◌≤◌, ◌<◌, Bool, false, List, ◌∷◌, ◌++◌, ◌≡◌, refl, length, get_or, set, Ok}
use Rattle.std.proofs.lemmas.Bool.{false≢true}
use Rattle.std.proofs.Common.{sym, ap, ◌∙◌, subst, arith, get_or-set_same, get_or-set_other}
use Rattle.node.specs.Limits.{max_nodes}
use Rattle.node.specs.Result.{Result, ◌>>=◌}
use Rattle.machine.specs.declared.Move.TheVariants.{Next}
use Rattle.language.specs.Limits.{max_number}
use Rattle.language.specs.Tokens.{Token}
use Rattle.language.specs.Tree.{Expr}
use Rattle.language.specs.Expansion.{Context, at}
use Rattle.operands.specs.Working.{Source}
use Rattle.machine.specs.Came.{Aim, Came, works}
use Rattle.machine.specs.Frames.{Frame, apply, Kept}
use Rattle.machine.specs.Realm.{Operand, Realm}
use Rattle.machine.specs.Memory.{frame_words, free_of, Held, Slotted, Lies, Agree, Framed}
use Rattle.machine.specs.MemoryLaws.{held_safe, slotted_kept, slotted_more, lies_more, agree_then, agree-set}
use Rattle.machine.specs.Holding.{Holding, Laying, holding, elements, folded, slots_of, forms_of, turning}
use Rattle.machine.specs.Notes.{Noted, Lasting}
use Rattle.machine.specs.NoteLaws.{noted_kept, lasting_kept}
use Rattle.machine.specs.Table.{Began, Laid, end_of}
use Rattle.machine.specs.TableLaws.{laid_as}
use Rattle.machine.specs.Cost.{turns}
use Rattle.machine.specs.Stack.{scope_above, EachOf, Holds, Waits}
use Rattle.machine.specs.States.{mode_of, Turned, TopOf}
use Rattle.machine.specs.TakeLaws.{words, room-under, renewed, goes}
use Rattle.machine.specs.FlatLaws.{weight_falls}
use Rattle.machine.specs.declared.Words.{Words}
use Rattle.machine.specs.declared.Machine.{Machine}
use Rattle.fold_steps.specs.Turning.{turned, Turns}

pub turns-above : {mem mem' : List ℕ} {m : Machine} {w : Words} {slot v mode top top' : ℕ} {n : Machine} → top ≡ top' → Turns mem mem' m w slot v mode top n → Turns mem mem' m w slot v mode top' n
turns-above {mem} {mem'} {m} {w} {slot} {v} {mode} {n = n} e t = subst (λ (j : ℕ). Turns mem mem' m w slot v mode j n) e t

module _ {s : Source} {R : Realm s} {mem out : List ℕ} {m : Machine} {x : Result Came} {o : Began} {F : Frame} (h : TopOf R mem out m x o F) where
  -- G takes the place of F, and its operator's name i has come to v; before that other words may have been written (mem₀), formulas too (out')
  pub record Turning (G : Frame) (rest fold : List ℕ) (forms : List Laying) (new : Words) (a : Aim) (c : Context) (i : Token) (e : Expr) (slot v : ℕ) (mem₀ mem' out' : List ℕ) (top nodes : ℕ) : Type 0 where
    pub outside : (holding F).inside ≡ false
    pub is-turning : holding G ≡ turning new.phase rest fold forms
    pub agree : Agree o.regions mem mem₀ h.footing.depth (words h).base (m.frames + frame_words)
    pub slot_is : slot ≡ h.footing.depth
    pub framed : Framed (set mem₀ slot v) mem' m.frames new
    pub entry-is : new.entry ≡ (words h).entry
    pub base-is : new.base ≡ (words h).base
    pub lower : (words h).base ≤ top
    pub high : top ≤ (words h).base + h.footing.reserved
    pub counted : new.count ≡ length rest
    pub held : Held mem₀ new.at rest
    pub lies : Lies (free_of mem₀) (words h).base top new.at (length rest)
    pub held_fold : Held mem₀ new.other fold
    pub lies_fold : Lies (free_of mem₀) (words h).base top new.other (length fold)
    pub holds : Holds R.W (end_of o (forms_of h.rest)) (renewed h new) G
    pub waits : Waits R (renewed h new) G
    pub each : EachOf R h.footing c i e
    pub small : v ≤ max_number
    pub laid : Laid o (forms ++ forms_of h.rest) out' nodes
    pub few : nodes ≤ suc max_nodes
    pub noted : Noted R o.regions o.index mem₀
    pub lasting : Lasting R.W mem₀ out' nodes
    pub fewer : turns new.phase new.count < turns (words h).phase (words h).count
    pub kept : Kept G (works a (at c i v) e)
    pub same : apply F h.came ≡ (works a (at c i v) e >>= apply G)

  pub turns_to : {G : Frame} {rest fold : List ℕ} {forms : List Laying} {new : Words} {a : Aim} {c : Context} {i : Token} {e : Expr} {slot v : ℕ} {mem₀ mem' out' : List ℕ} {top nodes : ℕ}
      → Turning G rest fold forms new a c i e slot v mem₀ mem' out' top nodes → Turned R mem mem' out out' m x o (Ok (Next (turned m (mode_of a) (new.entry - 1) slot top nodes)))
  turns_to {G} {rest} {fold} {forms} {new} {a} {c} {i} {e} {slot} {v} {mem₀} {mem'} {out'} {top} {nodes} t =
      let z = t.is-turning in
      let e0 : elements G ≡ rest = ap (λ (y : Holding). y.elements) z in
      let e1 : folded G ≡ fold = ap (λ (y : Holding). y.folded) z in
      let mem₁ = set mem₀ slot v in
      let es = t.slot_is in
      let en = t.entry-is in
      let u = room-under h in
      let u1 = u.first in
      let u2 = u.values in
      let u3 = u.words in
      let u4 = u.inside in
      let k0 = h.at.some in
      let k1 = h.at.entry in
      let k2 = h.at.slots in
      let n1 = t.noted.first in
      let n2 = t.noted.within in
      let n3 = t.noted.ascending in
      let l1 = t.agree.len in
      let wd = h.at.width in
      let fi = h.at.first in
      let sc : m.scope ≡ h.footing.scope = h.at.scoped ∙ ap (λ (b : Bool). scope_above b h.footing) t.outside in
      let ag : (y : ℕ) → Agree o.regions mem₀ mem₁ h.footing.depth y (m.frames + frame_words)
      = λ y. agree-set mem₀ slot v h.footing.depth y (m.frames + frame_words) (omega arith) (omega arith) (omega arith) (λ q. omega arith) (λ q. absurd (omega arith)) in
      let at_top = ag top in
      let below : (j : ℕ) → j < slot → get_or mem₁ j 0 ≡ get_or mem₀ j 0 = λ j l. get_or-set_other mem₀ slot j v 0 (λ q. omega arith) in
      goes h {G = G} {a = a} {c = at c i v} {e = e} {mem₁ = mem₁} (record {
        new = new;
        framed = t.framed;
        phased = ap (λ (y : Holding). y.phase) (sym z);
        base-is = t.base-is;
        some = omega arith;
        down = omega arith;
        agree = agree_then t.agree (ag (words h).base);
        frames-is = refl;
        scope_is = sc ∙ ap (λ (y : Holding). scope_above y.inside (renewed h new)) (sym z);
        deep = ap (λ (j : ℕ). j + 1) es ∙ ap (λ (y : Holding). h.footing.depth + slots_of y.binds) (sym z);
        lower = t.lower;
        high = t.high;
        level = λ y. absurd (false≢true (sym (ap (λ (y : Holding). y.flat) z) ∙ y));
        counted = t.counted ∙ sym (ap length e0);
        held = subst (Held mem₁ new.at) (sym e0) (held_safe at_top rest u2 t.lies t.held);
        lies = subst (λ (l : List ℕ). Lies (free_of mem₁) (words h).base top new.at (length l)) (sym e0) (lies_more at_top.more t.lies);
        held_fold = subst (Held mem₁ new.other) (sym e1) (held_safe at_top fold u2 t.lies_fold t.held_fold);
        lies_fold = subst (λ (l : List ℕ). Lies (free_of mem₁) (words h).base top new.other (length l)) (sym e1) (lies_more at_top.more t.lies_fold);
        holds = t.holds;
        waits = t.waits;
        mode_is = refl;
        below = omega arith;
        env = v ∷ h.footing.env;
        first = omega arith;
        width = omega arith;
        slotted = slotted_more mem₁ m.scope v h.footing.env
            (ap (λ (j : ℕ). get_or mem₁ j 0) (omega arith) ∙ get_or-set_same mem₀ slot v 0 (omega arith))
            (slotted_kept mem mem₁ m.scope h.footing.env (λ j p q. below j (omega arith) ∙ t.agree.slots j (omega arith) (omega arith))
            (subst (λ (j : ℕ). Slotted mem j h.footing.env) (sym sc) h.at.seen));
        operand = subst (λ (j : ℕ). Operand s R.W R.ports (v ∷ h.footing.env) (at c i v) (j - 1) e) (sym en) (t.each v t.small);
        laid = laid_as (ap (λ (y : Holding). y.forms ++ forms_of h.rest) (sym z)) t.laid;
        few = t.few;
        noted = noted_kept mem₀ mem₁ slot below (omega arith) (omega arith) t.noted;
        lasting = lasting_kept mem₀ mem₁ slot below (omega arith) (omega arith) t.lasting;
        less = weight_falls new.phase (words h).phase (words h).entry new.count (words h).count t.fewer en refl;
        kept = t.kept;
        same = t.same;
      })
