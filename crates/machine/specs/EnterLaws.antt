-- An entry is worked out: its value comes, its formula is written, another entry takes its place, or a frame waits while an operand is worked out.
use Rattle.std.specs.Prelude.{ℕ, zero, suc, ◌+◌, ◌≤◌, ◌<◌, Bool, true, ◌≡◌, refl, drop, Ok, Err}
use mathlib.Core.List.{List, [], ◌∷◌, ◌++◌}
use Rattle.std.proofs.Math.Path.{sym, ap, subst}
use Rattle.std.proofs.Common.{◌∙◌, arith}
use Rattle.std.proofs.Math.Nat.{add-zero}
use Rattle.std.proofs.Math.ListN.{length}
use Rattle.node.specs.Limits.{max_nodes}
use Rattle.node.specs.Ltl.{Formula}
use Rattle.node.specs.Result.{Result, Done, Refused, ◌>>=◌}
use Rattle.node.specs.Returned.{refusal}
use Rattle.machine.specs.declared.Move.TheVariants.{Next}
use Rattle.writing.specs.Writing.{Wrote}
use Rattle.writing.specs.StayLaws.{wrote_stays}
use Rattle.language.specs.Limits.{max_tokens, max_elements}
use Rattle.language.specs.Tree.{Expr}
use Rattle.language.specs.Values.{Value}
use Rattle.language.specs.Expansion.{Context}
use Rattle.operands.specs.Working.{Source}
use Rattle.machine.specs.Came.{Aim, Came, Worth, Nodes, works}
use Rattle.machine.specs.Frames.{Frame, apply, Kept}
use Rattle.machine.specs.MeansLaws.{means_as, means_refused, means_push}
use Rattle.machine.specs.Realm.{Operand, Realm}
use Rattle.machine.specs.Memory.{frame_words, spare, reserve, Held, Slotted, nowhere, Agree, Framed, spread}
use Rattle.machine.specs.MemoryLaws.{held_none, slotted_kept, keeps_same, agree_keeps, framed_words, framed_agree}
use Rattle.machine.specs.Holding.{Holding, Laying, holding, vacant, empty, elements, folded, slots_of, forms_of}
use Rattle.machine.specs.Telling.{Tells}
use Rattle.machine.specs.Notes.{Lasting}
use Rattle.machine.specs.NoteLaws.{noted_kept, lasting_kept}
use Rattle.machine.specs.Table.{Began, Laid, end_of}
use Rattle.machine.specs.TableLaws.{laid_more, laid_as, lasting_stays}
use Rattle.machine.specs.Cost.{price, price_some, price-suc, price_less, times, times-most, turns, weight, effort_none, effort_some, costs}
use Rattle.machine.specs.Stack.{Ground, scope_above, Holds, Waits, Stack, above}
use Rattle.machine.specs.StackLaws.{Room, stack_kept, stack_room}
use Rattle.machine.specs.States.{Works, Has, mode_of, Standing, Come, cost, Turned}
use Rattle.machine.specs.StateLaws.{Entered, come_mode, mode_few}
use Rattle.machine.specs.Moves.{came, wrote}
use Rattle.machine.specs.declared.Words.{Words}
use Rattle.machine.specs.declared.Machine.{Machine}

pub costs-frame : (mem : List ℕ) (at : ℕ) (w : Words) {rest : List ℕ} → drop at mem ≡ spread w rest → costs (drop at mem) ≡ weight w.phase w.entry w.count + costs rest
unfolding costs
costs-frame mem at w e = rw e

price_up : (j k : ℕ) → 0 < j → j ≤ k → price j ≤ price k
price_up zero k h l = absurd (omega arith)
price_up (suc j) k h l = price_less j k (omega arith)

module _ {s : Source} {R : Realm s} {mem out : List ℕ} {m : Machine} {x : Result Came} {o : Began} (h : Entered R mem out m x o) where
  pub cost-here : cost mem m ≡ price (suc m.value) + costs (drop m.frames mem)
  cost-here = let e = h.at.mode in let f = mode_few h.aim in ap (λ (n : ℕ). n + costs (drop m.frames mem)) (effort_some m.mode m.value (omega arith))

  pub room-here : Room o mem m.depth m.top m.frames h.limit
  room-here = stack_room h.stack

  pub entry_few : m.value < max_tokens
  entry_few = let r = room-here.few in let b = h.at.below in omega arith

  -- its value
  pub comes : (v : Value) {mode value from : ℕ} → works h.aim h.context h.tree ≡ Done (Worth v) → Tells R.W mode value from v
      → Standing R o mem (came m mode value from) v → Turned R mem mem out out m x o (Ok (Next (came m mode value from)))
  comes v {mode} {value} {from} e t z =
      let c = cost-here in
      let p = price_some (suc m.value) in
      let here : Come R o mem (came m mode value from) (Worth v) = record { tells = t; stands = z } in
      let q = effort_none mode value (come_mode R o mem (came m mode value from) (Worth v) here) in
      record {
        len = refl;
        after = record {
          state = record {
            frames = h.frames;
            now = Has (Worth v);
            limit = h.limit;
            stack = h.stack;
            here = here;
            laid = h.laid;
            few = h.few;
            noted = h.noted;
            lasting = h.lasting;
            same = means_as x h.frames e h.same;
          };
          less = omega arith;
          keeps = keeps_same mem;
        };
      }

  -- its formula
  pub writes : (f : Formula) {r : ℕ} {out' : List ℕ} → works h.aim h.context h.tree ≡ Done (Nodes f) → Wrote f out out' m.nodes r → r ≤ suc max_nodes
      → Turned R mem mem out out' m x o (Ok (Next (wrote m r)))
  writes f e w l =
      let c = cost-here in
      let p = price_some (suc m.value) in
      record {
        len = refl;
        after = record {
          state = record {
            frames = h.frames;
            now = Has (Nodes f);
            limit = h.limit;
            stack = h.stack;
            here = refl;
            laid = laid_more f h.laid w;
            few = l;
            noted = h.noted;
            lasting = lasting_stays (wrote_stays w) h.lasting;
            same = means_as x h.frames e h.same;
          };
          less = omega arith;
          keeps = keeps_same mem;
        };
      }

  -- it is refused
  pub fails : {number place : ℕ} → works h.aim h.context h.tree ≡ Refused number place → Turned R mem mem out out m x o (Err (refusal number place))
  fails {number} {place} e = record { len = refl; after = means_refused x h.frames number place (means_as x h.frames e h.same) }

  -- another entry is worked out in its place
  pub leads : {j : ℕ} {t : Expr} → j < m.value → works h.aim h.context h.tree ≡ works h.aim h.context t
      → Operand s R.W R.ports h.at.env h.context j t → Turned R mem mem out out m x o (Ok (Next (came m m.mode j 0)))
  leads {j} {t} l e p =
      let c = cost-here in
      let b = h.at.below in
      let d = h.at.mode in
      let f = mode_few h.aim in
      let q = effort_some m.mode j (omega arith) in
      let y = price_less j m.value l in
      let z = price-suc m.value in
      let u = price_some m.value in
      record {
        len = refl;
        after = record {
          state = record {
            frames = h.frames;
            now = Works h.aim h.context t;
            limit = h.limit;
            stack = h.stack;
            here = record { mode = h.at.mode; below = omega arith; env = h.at.env; first = h.at.first; deep = h.at.deep; slotted = h.at.slotted; operand = p };
            laid = h.laid;
            few = h.few;
            noted = h.noted;
            lasting = h.lasting;
            same = means_as x h.frames e h.same;
          };
          less = omega arith;
          keeps = keeps_same mem;
        };
      }

  -- a frame is pushed: what lies under it, and how many words are reserved for what it may hold
  abbrev pub ground_in : ℕ → Words → Ground
  ground_in n w = record { words = w; scope = m.scope; depth = m.depth; env = h.at.env; limit = h.limit; reserved = n }

  abbrev pub ground_of : Words → Ground
  ground_of w = ground_in reserve w

  -- its own entry may be one below, where operands are left that stand before that
  pub record PushingIn (reserved : ℕ) (F : Frame) (inside flat : Bool) (a : Aim) (c : Context) (e : Expr) (mem' : List ℕ) (n : Machine) : Type 0 where
    pub words : Words
    pub framed : Framed mem mem' n.frames words
    pub holds_nothing : holding F ≡ vacant words.phase inside flat
    pub down : words.entry ≤ m.value
    pub base-is : words.base ≡ m.top
    pub count-is : words.count ≡ 0
    pub few_turns : turns words.phase 0 ≤ max_elements
    pub some : 0 < words.entry
    pub enough : reserve ≤ reserved
    pub room : m.top + (frame_words + reserved + spare) ≤ m.frames
    pub frames-is : n.frames + frame_words ≡ m.frames
    pub scope_is : n.scope ≡ scope_above inside (ground_in reserved words)
    pub depth_is : n.depth ≡ m.depth
    pub top-is : n.top ≡ m.top
    pub nodes-is : n.nodes ≡ m.nodes
    pub mode_is : n.mode ≡ mode_of a
    pub below : n.value < words.entry
    pub env : List ℕ
    pub first : o.regions.slots ≤ n.scope
    pub deep : m.depth ≡ n.scope + length env
    pub slotted : Slotted mem n.scope env
    pub operand : Operand s R.W R.ports env c n.value e
    pub holds : Holds R.W (end_of o (forms_of h.frames)) (ground_in reserved words) F
    pub waits : Waits R (ground_in reserved words) F
    pub kept : Kept F (works a c e)
    pub same : works h.aim h.context h.tree ≡ (works a c e >>= apply F)

  pub pushes_in : {reserved : ℕ} {F : Frame} {inside flat : Bool} {a : Aim} {c : Context} {e : Expr} {mem' : List ℕ} {n : Machine} → PushingIn reserved F inside flat a c e mem' n → Turned R mem mem' out out m x o (Ok (Next n))
  unfolding forms_of
  pushes_in {reserved} {F} {inside} {a = a} {c} {e} {mem'} {n} p =
      let r = room-here in
      let r1 = r.first in
      let r2 = r.slots in
      let r3 = r.values in
      let r5 = r.inside in
      let nf = h.noted.first in
      let nw = h.noted.within in
      let na = h.noted.ascending in
      let w = p.words in
      let f = p.framed in
      let b = h.at.below in
      let ro = p.room in
      let dn = p.down in
      let en = p.enough in
      let fi = p.frames-is in
      let z = p.holds_nothing in
      let ag = framed_agree f {z = o.regions} m.depth m.top (omega arith) (omega arith) (omega arith) (omega arith) in
      let e0 : elements F ≡ [] = ap (λ (y : Holding). y.elements) z in
      let e1 : folded F ≡ [] = ap (λ (y : Holding). y.folded) z in
      let e2 : (holding F).forms ≡ [] = ap (λ (y : Holding). y.forms) z in
      let dp = p.deep in
      let di = p.depth_is in
      let ti = p.top-is in
      let mi = p.mode_is in
      let mf = mode_few a in
      let cost-now = cost-here in
      let q1 = price-suc m.value in
      let q2 = price_some m.value in
      let q9 = price_up w.entry m.value p.some p.down in
      let q3 = price_less n.value w.entry p.below in
      let q4 = times-most (turns w.phase 0) w.entry p.few_turns in
      let q5 = effort_some n.mode n.value (omega arith) in
      let q6 = costs-frame mem' n.frames w f.words in
      let q7 : weight w.phase w.entry w.count ≡ times (turns w.phase 0) w.entry = rw p.count-is in
      let q8 = ap (λ (j : ℕ). costs (drop j mem)) fi in
      record {
        len = f.len;
        after = record {
          state = record {
            frames = F ∷ h.frames;
            now = Works a c e;
            limit = w.entry;
            stack = above {F = F} {Fs = h.frames} {scope = n.scope} {depth = n.depth} {top = n.top} {at = n.frames} {k = w.entry} (ground_in reserved w) (record {
              words = framed_words f;
              inside = let y = f.len in omega arith;
              phased = ap (λ (y : Holding). y.phase) (sym z);
              entry = refl;
              some = p.some;
              below = omega arith;
              scoped = p.scope_is ∙ ap (λ (y : Bool). scope_above y (ground_in reserved w)) (ap (λ (y : Holding). y.inside) (sym z));
              deep = di ∙ sym (ap (λ (y : Bool). m.depth + slots_of y) (ap (λ (y : Holding). y.binds) z) ∙ add-zero m.depth);
              slots = omega arith;
              first = h.at.first;
              width = h.at.deep;
              seen = slotted_kept mem mem' m.scope h.at.env (λ j u v. let y = h.at.deep in f.below j (omega arith)) h.at.slotted;
              low = let y = p.base-is in omega arith;
              lower = let y = p.base-is in omega arith;
              high = let y = p.base-is in omega arith;
              level = λ y. ti ∙ sym p.base-is;
              enough = p.enough;
              room = let y = p.base-is in omega arith;
              counted = p.count-is ∙ sym (ap length e0);
              held = subst (Held mem' w.at) (sym e0) (held_none mem' w.at);
              lies = nowhere (ap length e0);
              held_fold = subst (Held mem' w.other) (sym e1) (held_none mem' w.other);
              lies_fold = nowhere (ap length e1);
              holds = p.holds;
              waits = p.waits;
            }) (subst (λ (j : ℕ). Stack R o mem' h.frames m.scope m.depth j (n.frames + frame_words) h.limit) (sym p.base-is)
                (subst (λ (j : ℕ). Stack R o mem' h.frames m.scope m.depth m.top j h.limit) (sym fi)
                (stack_kept h.stack (subst (λ (j : ℕ). Agree o.regions mem mem' m.depth m.top j) fi ag))));
            here = record {
              mode = p.mode_is;
              below = p.below;
              env = p.env;
              first = p.first;
              deep = omega arith;
              slotted = slotted_kept mem mem' n.scope p.env (λ j u v. f.below j (omega arith)) p.slotted;
              operand = p.operand;
            };
            laid = subst (Laid o ((holding F).forms ++ forms_of h.frames) out) (sym p.nodes-is) (laid_as (ap (λ (l : List Laying). l ++ forms_of h.frames) (sym e2)) h.laid);
            few = let y = p.nodes-is in let y' = h.few in omega arith;
            noted = noted_kept mem mem' n.frames f.below (omega arith) (omega arith) h.noted;
            lasting = subst (Lasting R.W mem' out) (sym p.nodes-is) (lasting_kept mem mem' n.frames f.below (omega arith) (omega arith) h.lasting);
            same = means_push x F h.frames (works a c e) p.same p.kept h.same;
          };
          less = omega arith;
          keeps = agree_keeps ag;
        };
      }

  -- a frame that stays empty, of the entry itself
  pub record Pushing (F : Frame) (inside : Bool) (a : Aim) (c : Context) (e : Expr) (mem' : List ℕ) (n : Machine) : Type 0 where
    pub words : Words
    pub framed : Framed mem mem' n.frames words
    pub holds_nothing : holding F ≡ empty words.phase inside
    pub entry-is : words.entry ≡ m.value
    pub base-is : words.base ≡ m.top
    pub count-is : words.count ≡ 0
    pub few_turns : turns words.phase 0 ≤ max_elements
    pub some : 0 < m.value
    pub room : m.top + (frame_words + reserve + spare) ≤ m.frames
    pub frames-is : n.frames + frame_words ≡ m.frames
    pub scope_is : n.scope ≡ scope_above inside (ground_of words)
    pub depth_is : n.depth ≡ m.depth
    pub top-is : n.top ≡ m.top
    pub nodes-is : n.nodes ≡ m.nodes
    pub mode_is : n.mode ≡ mode_of a
    pub below : n.value < m.value
    pub env : List ℕ
    pub first : o.regions.slots ≤ n.scope
    pub deep : m.depth ≡ n.scope + length env
    pub slotted : Slotted mem n.scope env
    pub operand : Operand s R.W R.ports env c n.value e
    pub holds : Holds R.W (end_of o (forms_of h.frames)) (ground_of words) F
    pub waits : Waits R (ground_of words) F
    pub kept : Kept F (works a c e)
    pub same : works h.aim h.context h.tree ≡ (works a c e >>= apply F)

  pub pushes : {F : Frame} {inside : Bool} {a : Aim} {c : Context} {e : Expr} {mem' : List ℕ} {n : Machine} → Pushing F inside a c e mem' n → Turned R mem mem' out out m x o (Ok (Next n))
  pushes {F} {inside} {a} {c} {e} p =
      let ei = p.entry-is in
      let be = p.below in
      let so = p.some in
      pushes_in {reserved = reserve} {F = F} {inside = inside} {flat = true} {a = a} {c = c} {e = e} (record {
        words = p.words;
        framed = p.framed;
        holds_nothing = p.holds_nothing;
        down = omega arith;
        base-is = p.base-is;
        count-is = p.count-is;
        few_turns = p.few_turns;
        some = omega arith;
        enough = omega arith;
        room = p.room;
        frames-is = p.frames-is;
        scope_is = p.scope_is;
        depth_is = p.depth_is;
        top-is = p.top-is;
        nodes-is = p.nodes-is;
        mode_is = p.mode_is;
        below = omega arith;
        env = p.env;
        first = p.first;
        deep = p.deep;
        slotted = p.slotted;
        operand = p.operand;
        holds = p.holds;
        waits = p.waits;
        kept = p.kept;
        same = p.same;
      })
