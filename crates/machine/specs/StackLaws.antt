-- A stack stands in every memory that agrees in what it uses; what room there is above it.
use Rattle.std.specs.Prelude.{ℕ, ◌+◌, ◌≤◌, Bool, true, false, List, length}
use Rattle.std.proofs.Common.{sym, ap, ◌∙◌, arith}
use Rattle.language.specs.Limits.{max_tokens}
use Rattle.operands.specs.Working.{Source}
use Rattle.machine.specs.Realm.{Realm}
use Rattle.machine.specs.Memory.{frame_words, spare, Agree, spread}
use Rattle.machine.specs.MemoryLaws.{held_safe, slotted_kept, lies_more, agree-under}
use Rattle.machine.specs.Frames.{Frame}
use Rattle.machine.specs.Holding.{holding, elements, folded, slots_of}
use Rattle.machine.specs.Table.{Began}
use Rattle.machine.specs.Stack.{Ground, FrameAt, Stack, bottom, above}

pub frame-kept : {s : Source} {R : Realm s} {o : Began} {mem mem' : List ℕ} {F : Frame} {g : Ground} {n scope depth top at k : ℕ} → FrameAt R o mem F g n scope depth top at k
    → Agree o.regions mem mem' depth top at → FrameAt R o mem' F g n scope depth top at k
frame-kept {mem = mem} {mem'} {F} {g} {depth = depth} {top} {at} f a =
    let l = a.len in
    let i = f.inside in
    let d = f.deep in
    let w = f.width in
    let b = f.first in
    record {
      words = a.frames ∙ f.words ∙ ap (spread g.words) (sym (agree-under depth top frame_words (omega arith) (omega arith) a).frames);
      inside = omega arith;
      phased = f.phased;
      entry = f.entry;
      some = f.some;
      below = f.below;
      scoped = f.scoped;
      deep = f.deep;
      slots = f.slots;
      first = f.first;
      width = f.width;
      seen = slotted_kept mem mem' g.scope g.env (λ j p q. a.slots j (omega arith) (omega arith)) f.seen;
      low = f.low;
      lower = f.lower;
      high = f.high;
      level = f.level;
      enough = f.enough;
      room = f.room;
      counted = f.counted;
      held = held_safe a (elements F) f.low f.lies f.held;
      lies = lies_more a.more f.lies;
      held_fold = held_safe a (folded F) f.low f.lies_fold f.held_fold;
      lies_fold = lies_more a.more f.lies_fold;
      holds = f.holds;
      waits = f.waits;
    }

pub stack_kept : {s : Source} {R : Realm s} {o : Began} {mem mem' : List ℕ} {Fs : List Frame} {scope depth top at k : ℕ} → Stack R o mem Fs scope depth top at k
    → Agree o.regions mem mem' depth top at → Stack R o mem' Fs scope depth top at k
stack_kept (bottom b) a = bottom (record { end = b.end ∙ sym a.len; start = b.start; first = b.first; slots = b.slots; few = b.few; room = b.room })
stack_kept (above g f s) a =
    let d = f.deep in
    let l = f.lower in
    above g (frame-kept f a) (stack_kept s (agree-under g.depth g.words.base frame_words (omega arith) (omega arith) a))

pub slots_few : (b : Bool) → slots_of b ≤ 1
slots_few true = omega arith
slots_few false = omega arith

-- the slots and the words that are free; entries are few
pub record Room (o : Began) (mem : List ℕ) (depth top at limit : ℕ) : Type 0 where
  pub first : o.regions.slots ≤ depth
  pub slots : depth + limit ≤ o.regions.floor
  pub values : o.regions.floor ≤ top
  pub words : top + spare ≤ at
  pub inside : at ≤ length mem
  pub few : limit ≤ max_tokens

pub stack_room : {s : Source} {R : Realm s} {o : Began} {mem : List ℕ} {Fs : List Frame} {scope depth top at k : ℕ} → Stack R o mem Fs scope depth top at k → Room o mem depth top at k
stack_room (bottom b) =
    let s = b.start in
    let e = b.end in
    record { first = b.first; slots = b.slots; values = omega arith; words = b.room; inside = omega arith; few = b.few }
stack_room (above {F = F} g f s) =
    let r = stack_room s in
    let d = f.deep in
    let n = slots_few (holding F).binds in
    let b1 = f.below in
    let b2 = r.few in
    let b3 = f.slots in
    let b4 = f.low in
    let b5 = f.lower in
    let b6 = f.high in
    let b7 = f.room in
    let b8 = f.inside in
    let b9 = r.first in
    record { first = omega arith; slots = omega arith; values = omega arith; words = omega arith; inside = omega arith; few = omega arith }
