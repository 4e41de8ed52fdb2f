-- The loop over steps, and the entry that is worked out in a memory of its own.
use Rattle.std.specs.Prelude.{ℕ, suc, ◌+◌, ◌-◌, ◌*◌, ◌≤◌, ◌<◌, ◌^◌, Bool, true, false, List, ◌≡◌, refl, T, eqb, length, get_or, drop, Ok, Err}
use Rattle.std.proofs.Common.{sym, ap, ◌∙◌, subst, arith, eqb→eq}
use Rattle.std.proofs.Math.Dec.{eqb_refl}
use Rattle.std.proofs.Math.Seq.{drop-length}
use Rattle.node.specs.Result.{Result}
use Rattle.node.specs.Returned.{refusal, Returned}
use Rattle.machine.specs.declared.Move.TheVariants.{Next, Short}
use Rattle.machine.specs.Stepped.{Stepped}
use Rattle.language.specs.Values.{Number, Set, Logic, Bus, Unsized, Choice}
use Rattle.operands.specs.Working.{Source}
use Rattle.memory_sets.specs.Places.{Copied}
use Rattle.machine.specs.Came.{Expand, Came, Worth, Nodes, works}
use Rattle.machine.specs.Frames.{Frame}
use Rattle.machine.specs.MeansLaws.{means_as, means_refused}
use Rattle.machine.specs.Realm.{Realm}
use Rattle.machine.specs.Memory.{Regions, frame_words, set_words, spare, reserve, free_of, Keeps, in_kept, on_top, Sits}
use Rattle.machine.specs.MemoryLaws.{slotted_kept, keeps_same, keeps_then}
use Rattle.machine.specs.Telling.{is_set}
use Rattle.machine.specs.NoteLaws.{noted_kept, lasting_kept}
use Rattle.machine.specs.Table.{Began}
use Rattle.machine.specs.TableLaws.{laid-sized, laid_from}
use Rattle.machine.specs.Cost.{price, price_some, times_some, turns, effort_some, costs}
use Rattle.machine.specs.Stack.{Stack, bottom, above}
use Rattle.machine.specs.StackLaws.{stack_room}
use Rattle.machine.specs.States.{State, mode_of, cost, Went, Parted, Turned, ReadyToWrite, ToppedToWrite, Writes, TakesToWrite, Come}
use Rattle.machine.specs.StateLaws.{Entered, entered, ended, top_of}
use Rattle.machine.specs.EnterLaws.{cost-here, costs-frame, entry_few}
use Rattle.machine.specs.declared.Machine.{Machine}
use Rattle.machine_run.specs.Running.{apart_memory, smaller}
use Rattle.machine_run.specs.Bringing.{outset, Bringable, Brought}
use Rattle.machine_run.specs.Evaluating.{Done as Finish, Going, Finished, Roomy, Stands, Bare, Arrives, Ended, Evaluated, moved}
use Rattle.machine_run.specs.StartLaws.{began_at, Starting, starts, noted_at}
use Rattle.machine_run.specs.BackLaws.{comes_back}

-- the frames end where the memory does, or not
pub ends-or_goes : (m : Machine) (words : ℕ) → 1 < m.mode → Finished m words (eqb m.frames words)
ends-or_goes m words l = go (eqb m.frames words) (eqb→eq m.frames words) (λ e. subst (λ (n : ℕ). T (eqb m.frames n)) e (eqb_refl m.frames))
  where
    go : (b : Bool) → (T b → m.frames ≡ words) → (m.frames ≡ words → T b) → Finished m words b
    go true f g = record { mode = l; bare = f tt }
    go false f g = record { going = λ i e. g e }

pub done_at : (m : Machine) (words : ℕ) (b : Bool) → Finished m words b → b ≡ true → Finish m words
done_at m words b h e = subst (Finished m words) e h

pub going_at : (m : Machine) (words : ℕ) (b : Bool) → Finished m words b → b ≡ false → Going m words
going_at m words b h e = subst (Finished m words) e h

-- a step's requirements
pub ready : {s : Source} {mem out : List ℕ} {m : Machine} → Stands s mem out m → ReadyToWrite s mem out m
ready h = record { lent = h.lent; realm = h.realm; answer = h.answer; began = h.began; state = h.state }

pub topped : {s : Source} {mem out : List ℕ} {m : Machine} → ReadyToWrite s mem out m → Going m (length mem) → 1 < m.mode → ToppedToWrite s mem out m
topped h g l = record { lent = h.lent; realm = h.realm; answer = h.answer; began = h.began; top = top_of h.state l (g.going l) }

-- a frame that takes what has come is a step
pub takes-steps : {s : Source} {mem mem' out out' : List ℕ} {m : Machine} {r : Stepped} → Going m (length mem) → 1 < m.mode → TakesToWrite s mem mem' out out' m r → Writes s mem mem' out out' m r
takes-steps g l t = record { turns = λ R x o h. t.turns R x o (top_of h l (g.going l)) }

-- where an entry finds no room there is a frame
stack_some : {s : Source} {R : Realm s} {o : Began} {mem : List ℕ} {Fs : List Frame} {scope depth top at k j : ℕ} → Stack R o mem Fs scope depth top at k → Roomy o.regions (smaller (length mem))
    → j < k → at < top + (frame_words + reserve + spare + j) → 0 < costs (drop at mem)
stack_some (bottom b) r l u =
    let e = b.end in
    let t = b.start in
    let f = b.first in
    let w = b.slots in
    let y = r.wide in
    let z = r.room in
    absurd (omega arith)
stack_some {mem = mem} {at = at} (above g f s) r l u =
    let w = times_some (turns g.words.phase g.words.count) g.words.entry in
    let p = price_some g.words.entry in
    let c = costs-frame mem at g.words f.words in
    omega arith

-- the loop: the answer is the same, and no more is left to do than at the start
pub record Runs (s : Source) (mem0 out0 : List ℕ) (m0 : Machine) (mem out : List ℕ) (m : Machine) : Type 0 where
  pub len : length mem ≡ length mem0
  pub bound : cost mem m ≤ price (suc m0.value)
  pub keeps : Keeps mem0 mem
  pub runs : (R : Realm s) (x : Result Came) (o : Began) → State R mem0 out0 m0 x o → State R mem out m x o

pub begins : {s : Source} {mem out : List ℕ} {m : Machine} → Bare m (length mem) → Runs s mem out m mem out m
unfolding costs
begins {mem = mem} {m = m} b =
    let e = effort_some m.mode m.value b.mode in
    let d : costs (drop m.frames mem) ≡ 0 = ap (λ (i : ℕ). costs (drop i mem)) b.bare ∙ ap costs (drop-length mem) in
    record { len = refl; bound = omega arith; keeps = keeps_same mem; runs = λ R x o h. h }

module _ {s : Source} {mem0 out0 mem out : List ℕ} {m0 m : Machine} (b : Stands s mem0 out0 m0) (g : Runs s mem0 out0 m0 mem out m) where
  here : State b.realm mem out m b.answer b.began
  here = g.runs b.realm b.answer b.began b.state

  pub stands : Stands s mem out m
  stands =
      let e = g.len in
      let l = b.lent.small in
      let t = b.most in
      record {
        lent = record { work = b.lent.work; refs = b.lent.refs; small = omega arith };
        most = omega arith;
        realm = b.realm;
        answer = b.answer;
        began = b.began;
        state = here;
        roomy = subst (λ (n : ℕ). Roomy b.began.regions (smaller n)) (sym g.len) b.roomy;
      }

  -- the answer has come
  pub run_ends : Finish m (length mem) → Evaluated s mem0 mem out0 out m0 (Ok m)
  run_ends f = record { len = g.len; tells = λ R x o h. record { ends = record { state = g.runs R x o h; done = f; keeps = g.keeps } } }

  -- a step
  module _ {mem' out' : List ℕ} {r : Stepped} (t : Writes s mem mem' out out' m r) where
    turned : Turned b.realm mem mem' out out' m b.answer b.began r
    turned = t.turns b.realm b.answer b.began here

    step-len : length mem' ≡ length mem0
    step-len = turned.len ∙ g.len

    went : {n : Machine} → r ≡ Ok (Next n) → (R : Realm s) (x : Result Came) (o : Began) → State R mem0 out0 m0 x o → Went R mem mem' out' m n x o
    went e R x o h = (rw e at (t.turns R x o (g.runs R x o h))).after

    pub step_less : {n : Machine} → r ≡ Ok (Next n) → cost mem' n < cost mem m
    step_less e = (went e b.realm b.answer b.began b.state).less

    pub step-again : {n : Machine} → r ≡ Ok (Next n) → Runs s mem0 out0 m0 mem' out' n
    step-again {n} e =
        let l = step_less e in
        let c = g.bound in
        record {
          len = step-len;
          bound = omega arith;
          keeps = keeps_then g.keeps (went e b.realm b.answer b.began b.state).keeps;
          runs = λ R x o h. (went e R x o h).state;
        }

    pub step-fails : {number place : ℕ} → r ≡ Err (refusal number place) → Evaluated s mem0 mem' out0 out' m0 (Err (refusal number place))
    step-fails e = record { len = step-len; tells = λ R x o h. record { ends = (rw e at (t.turns R x o (g.runs R x o h))).after } }

    pub step-short : r ≡ Ok Short → Parted mem mem' out out' m
    step-short e = (rw e at turned).after

    pub step_stays : r ≡ Ok Short → Runs s mem0 out0 m0 mem' out' m
    step_stays e =
        subst (λ (z : List ℕ). Runs s mem0 out0 m0 z out' m) (sym (step-short e).same) (subst (λ (z : List ℕ). Runs s mem0 out0 m0 mem z m) (sym (step-short e).same-table) g)

  -- an entry that finds no room costs less than the whole
  pub apart_less : {u : ℕ} → 2 * price (suc m0.value) ≡ u → m.mode ≤ mode_of Expand → m.frames < m.top + (frame_words + reserve + spare + m.value) → 2 * price (suc m.value) + 1 < u
  apart_less e l t =
      let h = entered here l in
      let c = cost-here h in
      let z = stack_some h.stack (subst (λ (n : ℕ). Roomy b.began.regions (smaller n)) (sym g.len) b.roomy) h.at.below t in
      let q = g.bound in
      omega arith

-- a step that finds no room, and then what comes back
pub back_falls : {s : Source} {mem0 out0 mem out mem1 out1 mem' out' : List ℕ} {m0 m n : Machine} {r : Stepped} {u : Returned Machine} (b : Stands s mem0 out0 m0) (g : Runs s mem0 out0 m0 mem out m)
    → Writes s mem mem1 out out1 m r → r ≡ Ok Short → Writes s mem1 mem' out1 out' m (moved u) → u ≡ Ok n → cost mem' n < cost mem m
back_falls {mem' = mem'} {m = m} {n} b g t e p q = subst (λ (z : List ℕ). cost mem' n < cost z m) (step-short b g t e).same (step_less b (step_stays b g t e) p (ap moved q))

-- apart: the words below the free slots are copied
pub copied : {mem zeros free : List ℕ} {n : ℕ} → Copied mem 0 zeros free 0 n → (i : ℕ) → i < n → get_or free i 0 ≡ get_or mem i 0
copied c i l = let z : 0 + i ≡ i = omega arith in rw z at (c.words i l)

abbrev pub regions_at : Machine → Began → Regions
regions_at m o = record { slots = o.regions.slots; floor = m.depth + m.value + 1 }

pub record SlotsFit (mem : List ℕ) (m : Machine) : Type 0 where
  pub inside : m.depth ≤ length mem
  pub visible : m.scope ≤ m.depth

-- the entry and the slots below it leave room for an operator in a memory apart
abbrev pub ApartFits : Machine → Type 0
ApartFits m = m.depth + m.value + 1 + (frame_words + reserve + spare) ≤ apart_memory

module _ {s : Source} {mem out : List ℕ} {m : Machine} (b : Stands s mem out m) (e : m.mode ≤ mode_of Expand) where
  pub slots_fit : SlotsFit mem m
  slots_fit =
      let y = entered b.state e in
      let r = stack_room y.stack in
      let w = r.slots in
      let v = r.values in
      let d = r.words in
      let i = r.inside in
      let p = y.at.deep in
      record { inside = omega arith; visible = omega arith }

  pub apart_fits : ApartFits m
  apart_fits =
      let y = entered b.state e in
      let w = (stack_room y.stack).slots in
      let r = b.roomy.room in
      let i = b.roomy.wide in
      let k = y.at.below in
      omega arith

  pub outset-fits : m.depth + m.value < 2 ^ 33
  outset-fits =
      let f = slots_fit.inside in
      let k = entry_few (entered b.state e) in
      let l = b.lent.small in
      omega arith

sits_fits : {free top from n i long : ℕ} → Sits free top from n → i ≡ n → free ≤ long → top + n ≤ long → from + i ≤ long
sits_fits (in_kept a b) e f t = omega arith
sits_fits (on_top q) e f t = omega arith

-- the elements of a set that has come stand in the memory
module _ {s : Source} (R : Realm s) (o : Began) (mem : List ℕ) (n : Machine) (long : ℕ) (f : free_of mem ≤ long) (t : n.top + set_words ≤ long) where
  set-fits : (v : Came) → Come R o mem n v → n.mode ≡ is_set → (n.value < set_words) × (n.from + n.value ≤ long)
  set-fits (Nodes g) c e = absurd (omega arith)
  set-fits (Worth (Number i)) c e = let z = c.tells.mode_is in absurd (omega arith)
  set-fits (Worth (Set l)) c e =
      let z = c.tells.count in
      let w = c.tells.fine.few in
      (omega arith, sits_fits c.stands.1 (omega arith) f (omega arith))
  set-fits (Worth Logic) c e = let z = c.tells in absurd (omega arith)
  set-fits (Worth (Bus i j w)) c e = let z = c.tells.mode_is in absurd (omega arith)
  set-fits (Worth (Unsized i)) c e = let z = c.tells.mode_is in absurd (omega arith)
  set-fits (Worth (Choice ws)) c e = let z = c.tells.mode_is in absurd (omega arith)

module _ {s : Source} {mem out zeros free : List ℕ} (m : Machine) (long : apart_memory ≡ length zeros) (c : Copied mem 0 zeros free 0 m.depth) (fits : ApartFits m) where
  module _ {R : Realm s} {x : Result Came} {o : Began} (y : Entered R mem out m x o) where
    pub starting : Starting R (regions_at m o) free out (outset m apart_memory) y.aim y.context y.tree
    starting =
        let ro = stack_room y.stack in
        let f = ro.first in
        let w = ro.slots in
        let v = ro.values in
        let d = ro.words in
        let i = ro.inside in
        let b = y.at.below in
        let k = y.noted.first in
        let u = y.noted.within in
        let l = c.kept.len in
        let p = y.at.deep in
        let z = y.at.first in
        record {
          mode = y.at.mode;
          env = y.at.env;
          first = y.at.first;
          deep = y.at.deep;
          slotted = slotted_kept mem free m.scope y.at.env (λ j t a. copied c j (omega arith)) y.at.slotted;
          operand = y.at.operand;
          top = refl;
          bare = long ∙ sym l;
          slots = omega arith;
          few = entry_few y;
          room = omega arith;
          index = y.few;
          noted = noted_at (regions_at m o) m.nodes refl (omega arith) (λ t. let a = laid_from y.laid t in omega arith)
              (noted_kept mem free m.depth (copied c) (omega arith) (omega arith) y.noted);
          lasting = lasting_kept mem free m.depth (copied c) (omega arith) (omega arith) y.lasting;
        }

    fresh-roomy : Roomy o.regions (smaller (length mem)) → Roomy (regions_at m o) (smaller (length free))
    fresh-roomy r =
        let ro = stack_room y.stack in
        let f = ro.first in
        let w = ro.slots in
        let b = y.at.below in
        let a = r.wide in
        let d = r.room in
        let l = c.kept.len in
        record { entries = m.depth + m.value + 1 - o.regions.slots; wide = omega arith; room = omega arith }

  module _ (b : Stands s mem out m) (e : m.mode ≤ mode_of Expand) where
    fresh-stands : Stands s free out (outset m apart_memory)
    fresh-stands =
        let l = c.kept.len in
        let y = entered b.state e in
        record {
          lent = record { work = b.lent.work; refs = b.lent.refs; small = omega arith };
          most = omega arith;
          realm = b.realm;
          answer = works y.aim y.context y.tree;
          began = began_at (regions_at m b.began) out m.nodes (laid-sized y.laid);
          state = starts (laid-sized y.laid) (starting y);
          roomy = fresh-roomy y b.roomy;
        }

    pub fresh-begins : {r : Machine} → r ≡ outset m apart_memory → Stands s free out r × Bare r (length free)
    fresh-begins q = rw q (fresh-stands, record { mode = e; bare = long ∙ sym c.kept.len })

    -- what has come there
    module _ {free' out' : List ℕ} {k : Machine} {r : Returned Machine} (ek : k ≡ outset m apart_memory) (v : Evaluated s free free' out out' k r) where
      ends_there : {R : Realm s} {x : Result Came} {o : Began} (y : Entered R mem out m x o)
          → Ended R free free' out' (works y.aim y.context y.tree) (began_at (regions_at m o) out m.nodes (laid-sized y.laid)) r
      ends_there {R} {x} {o} y = (rw ek at v).tells R (works y.aim y.context y.tree) (began_at (regions_at m o) out m.nodes (laid-sized y.laid)) (starts (laid-sized y.laid) (starting y))

      arrives-there : {n : Machine} → r ≡ Ok n → {R : Realm s} {x : Result Came} {o : Began} (y : Entered R mem out m x o)
          → Arrives R free free' out' n (works y.aim y.context y.tree) (began_at (regions_at m o) out m.nodes (laid-sized y.laid))
      arrives-there q y = (rw q at (ends_there y)).ends

      pub apart-bringable : {n : Machine} → r ≡ Ok n → Bringable free' mem m n
      apart-bringable {n} q =
          let y = entered b.state e in
          let a = arrives-there q y in
          let f = ended a.state a.done.mode a.done.bare in
          let ro = stack_room y.stack in
          let r1 = ro.slots in
          let r2 = ro.values in
          let r3 = ro.words in
          let r4 = ro.inside in
          let r5 = ro.first in
          let n1 = y.noted.first in
          let n2 = y.noted.within in
          let n3 = y.noted.slots_word_lem in
          let n4 = y.noted.ascending in
          let n5 = f.noted.within in
          let t = f.top in
          let l1 = v.len in
          let l2 = c.kept.len in
          let be = y.at.below in
          let z = set-fits b.realm (began_at (regions_at m b.began) out m.nodes (laid-sized y.laid)) free' n (length free') (omega arith) (omega arith) f.came f.come in
          record {
            first = omega arith;
            values = omega arith;
            source_long = omega arith;
            room = omega arith;
            few = λ i. (z i).0;
            source-set = λ i. (z i).1;
          }

      pub apart-comes : {n j : Machine} {mem' : List ℕ} → r ≡ Ok n → Brought free' mem mem' m n j → Writes s mem mem' out out' m (Ok (Next j))
      apart-comes {n} {j} q w = record {
        turns = λ R x o h.
            let y = entered h e in
            let a = arrives-there q y in
            record { len = w.len; after = comes_back y (copied c) a.keeps (ended a.state a.done.mode a.done.bare) a.state.few w };
      }

      pub apart-fails : {number place : ℕ} → r ≡ Err (refusal number place) → Writes s mem mem out out' m (Err (refusal number place))
      apart-fails {number} {place} q = record {
        turns = λ R x o h.
            let y = entered h e in
            record { len = refl; after = means_refused x y.frames number place (means_as x y.frames (rw q at (ends_there y)).ends y.same) };
      }

-- the entry is the same there
pub outset_less : (m : Machine) {k : Machine} {t : ℕ} → 2 * price (suc m.value) + 1 ≡ t → k ≡ outset m apart_memory → 2 * price (suc k.value) < t
outset_less m e q = let z = ap (λ (i : Machine). price (suc i.value)) q in omega arith
