-- A frame takes what has come: it is popped, or written anew while another operand is worked out. All steps go by these two laws.
use Rattle.std.specs.Prelude.{ℕ, suc, ◌+◌, ◌≤◌, ◌<◌, ◌*◌, true, List, ◌∷◌, ◌++◌, ◌≡◌, refl, length, get_or, drop, Ok, Err}
use Rattle.std.proofs.Math.Path.{sym, ap, subst}
use Rattle.std.proofs.Common.{◌∙◌, arith, add-zero}
use Rattle.node.specs.Limits.{max_nodes}
use Rattle.node.specs.Result.{Result, Done, Refused, ◌>>=◌}
use Rattle.node.specs.Returned.{refusal}
use Rattle.machine.specs.declared.Move.TheVariants.{Next}
use Rattle.language.specs.Tree.{Expr}
use Rattle.language.specs.Expansion.{Context}
use Rattle.language.specs.Limits.{max_names}
use Rattle.operands.specs.Working.{Source}
use Rattle.machine.specs.Fields.{entry_field, base_field, at_field, count_field, value_field, other_field}
use Rattle.machine.specs.Came.{Aim, Came, works}
use Rattle.machine.specs.Frames.{Frame, apply, Kept, Means}
use Rattle.machine.specs.MeansLaws.{means_as, means_refused, means_push, means_take}
use Rattle.machine.specs.Realm.{Operand, Realm}
use Rattle.machine.specs.Memory.{frame_words, free_of, Held, Slotted, Lies, Agree, Framed, note_words}
use Rattle.machine.specs.MemoryLaws.{held_safe, slotted_kept, lies_more, agree_then, agree_keeps, framed_words, framed_agree, word_of}
use Rattle.machine.specs.Holding.{holding, phase, elements, folded, bound, forms_of}
use Rattle.machine.specs.Notes.{Noted, Lasting}
use Rattle.machine.specs.NoteLaws.{noted_kept, lasting_kept}
use Rattle.machine.specs.Table.{Began, Laid, end_of}
use Rattle.machine.specs.Cost.{price, price_some, price_less, times_some, turns, weight, effort_none, effort_some, costs}
use Rattle.machine.specs.Stack.{Ground, scope_above, Holds, Waits, Stack, above}
use Rattle.machine.specs.StackLaws.{Room, stack_kept, stack_room, slots_few}
use Rattle.machine.specs.States.{Works, Has, mode_of, Come, written, cost, Turned, TopOf, Top, phase_at}
use Rattle.machine.specs.StateLaws.{come_mode, mode_few}
use Rattle.machine.specs.EnterLaws.{costs-frame}
use Rattle.machine.specs.declared.Words.{Words}
use Rattle.machine.specs.declared.Machine.{Machine}

module _ {s : Source} {R : Realm s} {mem out : List ℕ} {m : Machine} {x : Result Came} {o : Began} {F : Frame} (h : TopOf R mem out m x o F) where
  abbrev pub words : Words
  words = h.footing.words

  -- the frame's words in the memory
  pub phase-word : phase_at mem m ≡ phase F
  phase-word = ap (λ (j : ℕ). get_or mem j 0) (sym (add-zero m.frames)) ∙ word_of mem m.frames 0 h.at.words ∙ h.at.phased

  pub entry_word_lem : get_or mem (m.frames + entry_field) 0 ≡ words.entry
  entry_word_lem = word_of mem m.frames 1 h.at.words

  pub base_word : get_or mem (m.frames + base_field) 0 ≡ words.base
  base_word = word_of mem m.frames 2 h.at.words

  pub at-word : get_or mem (m.frames + at_field) 0 ≡ words.at
  at-word = word_of mem m.frames 3 h.at.words

  pub count_word : get_or mem (m.frames + count_field) 0 ≡ words.count
  count_word = word_of mem m.frames 4 h.at.words

  pub value-word : get_or mem (m.frames + value_field) 0 ≡ words.value
  value-word = word_of mem m.frames 5 h.at.words

  pub other_word : get_or mem (m.frames + other_field) 0 ≡ words.other
  other_word = word_of mem m.frames 6 h.at.words

  pub top-cost : cost mem m ≡ weight words.phase words.entry words.count + costs (drop (m.frames + frame_words) mem)
  top-cost = let e = effort_none m.mode m.value (come_mode R o mem m h.came h.come) in let c = costs-frame mem m.frames words h.at.words in omega arith

  -- the room under the frame
  pub room-under : Room o mem h.footing.depth words.base (m.frames + frame_words) h.footing.limit
  room-under = stack_room h.stack

  -- the notes lie in the memory
  pub note_under : {r : ℕ} → r < max_names → note_words * r + 3 < length mem
  note_under l =
      let u = room-under in
      let u1 = u.values in
      let u2 = u.words in
      let u3 = u.inside in
      let n1 = h.noted.first in
      let n2 = h.noted.within in
      let n3 = h.noted.ascending in
      omega arith

  taken : Means x h.rest (apply F h.came)
  taken = means_take x F h.rest h.came h.same

  -- the answer is a refusal
  pub refuses : {number place : ℕ} → apply F h.came ≡ Refused number place → Turned R mem mem out out m x o (Err (refusal number place))
  refuses {number} {place} e = record { len = refl; after = means_refused x h.rest number place (means_as x h.rest e taken) }

  -- whatever was written before it is known
  pub refuses-late : {number place : ℕ} {mem' out' : List ℕ} → length mem' ≡ length mem → apply F h.came ≡ Refused number place → Turned R mem mem' out out' m x o (Err (refusal number place))
  refuses-late {number} {place} l e = record { len = l; after = means_refused x h.rest number place (means_as x h.rest e taken) }

  -- the frame is popped
  pub record Popping (v : Came) (mem' out' : List ℕ) (n : Machine) : Type 0 where
    pub same : apply F h.came ≡ Done v
    pub come : Come R o mem' n v
    pub scope_is : n.scope ≡ h.footing.scope
    pub depth_is : n.depth ≡ h.footing.depth
    pub top-is : n.top ≡ words.base
    pub frames-is : n.frames ≡ m.frames + frame_words
    pub agree : Agree o.regions mem mem' h.footing.depth words.base (m.frames + frame_words)
    pub laid : Laid o (written n.nodes v ++ forms_of h.rest) out' n.nodes
    pub few : n.nodes ≤ suc max_nodes
    pub noted : Noted R o.regions o.index mem'
    pub lasting : Lasting R.W mem' out' n.nodes

  pub pops : {v : Came} {mem' out' : List ℕ} {n : Machine} → Popping v mem' out' n → Turned R mem mem' out out' m x o (Ok (Next n))
  pops {v} {mem'} {out'} {n} p =
      let c = top-cost in
      let w = times_some (turns words.phase words.count) words.entry in
      let y = price_some words.entry in
      let e = effort_none n.mode n.value (come_mode R o mem' n v p.come) in
      let z = ap costs p.agree.frames in
      let f = ap (λ (j : ℕ). costs (drop j mem')) p.frames-is in
      record {
        len = p.agree.len;
        after = record {
          state = record {
            frames = h.rest;
            now = Has v;
            limit = h.footing.limit;
            stack = rw (p.scope_is, p.depth_is, p.top-is, p.frames-is) (stack_kept h.stack p.agree);
            here = p.come;
            laid = p.laid;
            few = p.few;
            noted = p.noted;
            lasting = p.lasting;
            same = means_as x h.rest p.same taken;
          };
          less = omega arith;
          keeps = agree_keeps p.agree;
        };
      }

  -- the frame is written anew, and another operand is worked out; before, other words may have been written (mem₁)
  abbrev pub renewed : Words → Ground
  renewed w = record { words = w; scope = h.footing.scope; depth = h.footing.depth; env = h.footing.env; limit = h.footing.limit; reserved = h.footing.reserved }

  pub record Renewal (G : Frame) (a : Aim) (c : Context) (e : Expr) (mem₁ mem' out' : List ℕ) (n : Machine) : Type 0 where
    pub new : Words
    pub framed : Framed mem₁ mem' m.frames new
    pub phased : new.phase ≡ phase G
    pub base-is : new.base ≡ words.base
    pub some : 0 < new.entry
    pub down : new.entry ≤ words.entry
    pub agree : Agree o.regions mem mem₁ h.footing.depth words.base (m.frames + frame_words)
    pub frames-is : n.frames ≡ m.frames
    pub scope_is : n.scope ≡ scope_above (holding G).inside (renewed new)
    pub deep : n.depth ≡ h.footing.depth + bound G
    pub lower : words.base ≤ n.top
    pub high : n.top ≤ words.base + h.footing.reserved
    pub level : (holding G).flat ≡ true → n.top ≡ words.base
    pub counted : new.count ≡ length (elements G)
    pub held : Held mem₁ new.at (elements G)
    pub lies : Lies (free_of mem₁) words.base n.top new.at (length (elements G))
    pub held_fold : Held mem₁ new.other (folded G)
    pub lies_fold : Lies (free_of mem₁) words.base n.top new.other (length (folded G))
    pub holds : Holds R.W (end_of o (forms_of h.rest)) (renewed new) G
    pub waits : Waits R (renewed new) G
    pub mode_is : n.mode ≡ mode_of a
    pub below : n.value < new.entry
    pub env : List ℕ
    pub first : o.regions.slots ≤ n.scope
    pub width : n.depth ≡ n.scope + length env
    pub slotted : Slotted mem₁ n.scope env
    pub operand : Operand s R.W R.ports env c n.value e
    pub laid : Laid o ((holding G).forms ++ forms_of h.rest) out' n.nodes
    pub few : n.nodes ≤ suc max_nodes
    pub noted : Noted R o.regions o.index mem₁
    pub lasting : Lasting R.W mem₁ out' n.nodes
    pub less : weight new.phase new.entry new.count + price new.entry < weight words.phase words.entry words.count
    pub kept : Kept G (works a c e)
    pub same : apply F h.came ≡ (works a c e >>= apply G)

  pub goes : {G : Frame} {a : Aim} {c : Context} {e : Expr} {mem₁ mem' out' : List ℕ} {n : Machine} → Renewal G a c e mem₁ mem' out' n → Turned R mem mem' out out' m x o (Ok (Next n))
  unfolding forms_of
  goes {G} {a} {c} {e} {mem₁} {mem'} {out'} {n} r =
      let f = r.framed in
      let ag = r.agree in
      let u = room-under in
      let u1 = u.first in
      let u2 = u.slots in
      let u3 = u.values in
      let at1 = h.at.inside in
      let at2 = h.at.room in
      let at3 = h.at.slots in
      let at4 = h.at.entry in
      let at5 = h.at.below in
      let nf = r.noted.first in
      let nw = r.noted.within in
      let na = r.noted.ascending in
      let d = r.deep in
      let df = slots_few (holding G).binds in
      let hi = r.high in
      let dn = r.down in
      let fr = r.frames-is in
      let wd = r.width in
      let l1 = ag.len in
      let l2 = f.len in
      let ab = framed_agree f {z = o.regions} n.depth n.top (omega arith) (omega arith) (omega arith) (omega arith) in
      let ac = framed_agree f {z = o.regions} h.footing.depth words.base (omega arith) (omega arith) (omega arith) (omega arith) in
      let mf = mode_few a in
      let mi = r.mode_is in
      let k1 = top-cost in
      let k2 = effort_some n.mode n.value (omega arith) in
      let k3 = price_less n.value r.new.entry r.below in
      let k4 = costs-frame mem' m.frames r.new f.words in
      let k5 = ap costs ag.frames in
      let k6 = ap (λ (j : ℕ). costs (drop j mem')) fr in
      let k7 = r.less in
      record {
        len = f.len ∙ ag.len;
        after = record {
          state = record {
            frames = G ∷ h.rest;
            now = Works a c e;
            limit = r.new.entry;
            stack = subst (λ (j : ℕ). Stack R o mem' (G ∷ h.rest) n.scope n.depth n.top j r.new.entry) (sym fr)
                (above {F = G} {Fs = h.rest} {scope = n.scope} {depth = n.depth} {top = n.top} {at = m.frames} {k = r.new.entry} (renewed r.new) (record {
                  words = framed_words f;
                  inside = omega arith;
                  phased = r.phased;
                  entry = refl;
                  some = r.some;
                  below = omega arith;
                  scoped = r.scope_is;
                  deep = r.deep;
                  slots = omega arith;
                  first = h.at.first;
                  width = h.at.width;
                  seen = slotted_kept mem mem' h.footing.scope h.footing.env (λ j p q. let y = h.at.width in let y' = h.at.first in f.below j (omega arith) ∙ ag.slots j (omega arith) (omega arith)) h.at.seen;
                  low = let y = r.base-is in omega arith;
                  lower = let y = r.base-is in let y' = r.lower in omega arith;
                  high = let y = r.base-is in omega arith;
                  level = λ y. r.level y ∙ sym r.base-is;
                  enough = h.at.enough;
                  room = let y = r.base-is in omega arith;
                  counted = r.counted;
                  held = held_safe ab (elements G) u3 r.lies r.held;
                  lies = subst (λ (j : ℕ). Lies (free_of mem') j n.top r.new.at (length (elements G))) (sym r.base-is) (lies_more ab.more r.lies);
                  held_fold = held_safe ab (folded G) u3 r.lies_fold r.held_fold;
                  lies_fold = subst (λ (j : ℕ). Lies (free_of mem') j n.top r.new.other (length (folded G))) (sym r.base-is) (lies_more ab.more r.lies_fold);
                  holds = r.holds;
                  waits = r.waits;
                }) (subst (λ (j : ℕ). Stack R o mem' h.rest h.footing.scope h.footing.depth j (m.frames + frame_words) h.footing.limit) (sym r.base-is)
                (stack_kept h.stack (agree_then ag ac))));
            here = record {
              mode = r.mode_is;
              below = r.below;
              env = r.env;
              first = r.first;
              deep = r.width;
              slotted = slotted_kept mem₁ mem' n.scope r.env (λ j p q. f.below j (omega arith)) r.slotted;
              operand = r.operand;
            };
            laid = r.laid;
            few = r.few;
            noted = noted_kept mem₁ mem' m.frames f.below (omega arith) (omega arith) r.noted;
            lasting = lasting_kept mem₁ mem' m.frames f.below (omega arith) (omega arith) r.lasting;
            same = means_push x G h.rest (works a c e) r.same r.kept taken;
          };
          less = omega arith;
          keeps = agree_keeps (agree_then ag ac);
        };
      }

-- the top frame by its phase
pub top-phase : {s : Source} {R : Realm s} {mem out : List ℕ} {m : Machine} {x : Result Came} {o : Began} (t : Top R mem out m x o) → phase t.frame ≡ phase_at mem m
top-phase t = sym (phase-word t.top)

pub top_as : {s : Source} {R : Realm s} {mem out : List ℕ} {m : Machine} {x : Result Came} {o : Began} (t : Top R mem out m x o) {F : Frame} → t.frame ≡ F → TopOf R mem out m x o F
top_as {R = R} {mem} {out} {m} {x} {o} t e = subst (TopOf R mem out m x o) e t.top
