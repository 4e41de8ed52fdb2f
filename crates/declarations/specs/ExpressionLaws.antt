-- Once the notes are laid the machine can run, and what it tells is the expression's number.
use Rattle.std.specs.Prelude.{ℕ, suc, List, ◌≡◌, refl, length}
use Rattle.std.proofs.Common.{ap, ◌∙◌, arith}
use Rattle.node.specs.Limits.{max_nodes}
use Rattle.node.specs.Returned.{Returned}
use Rattle.language.specs.Tree.{Expr}
use Rattle.language.specs.Expansion.{Context}
use Rattle.operands.specs.Working.{source}
use Rattle.machine.specs.Realm.{Realm}
use Rattle.machine_run.specs.Running.{regions_of, Given, Runnable, NumberTold}
use Rattle.memory_notes.specs.Laid.{last_slots, Laid}
use Rattle.memory_notes.specs.LaidLaws.{laid_noted, laid_lasting}
use Rattle.declarations.specs.Expressions.{MemoryRoom, Room, Expression, Workable, Numbered}

-- the room stays where lengths do
pub room-kept : {mem table : List ℕ} {entries : ℕ} (mem' table' : List ℕ) → length mem' ≡ length mem → length table' ≡ length table → MemoryRoom mem table entries → MemoryRoom mem' table' entries
room-kept {mem} mem' table' l t r =
    let same : last_slots (length mem') ≡ last_slots (length mem) = ap last_slots l in
    let k = r.kept in
    let m = r.room in
    let n = r.most in
    record { sized = t ∙ r.sized; kept = omega arith; room = omega arith; most = omega arith }

pub room-still : {refs sorts₀ numbers₀ mem₀ table₀ : List ℕ} {entries : ℕ} (sorts numbers mem table : List ℕ) → length sorts ≡ length sorts₀ → length numbers ≡ length numbers₀
    → length mem ≡ length mem₀ → length table ≡ length table₀ → Room refs sorts₀ numbers₀ mem₀ table₀ entries → Room refs sorts numbers mem table entries
room-still sorts numbers mem table a b m t r =
    record { refs_room = r.refs_room; sorts_full = a ∙ r.sorts_full; numbers_full = b ∙ r.numbers_full; memory = room-kept mem table m t r.memory }

-- the notes are laid
module _ {text w refs sorts numbers mem mem' table firsts : List ℕ} {entries : ℕ} (room : MemoryRoom mem table entries) (len : length mem' ≡ length mem) (laid : Laid mem' sorts numbers firsts) where
  expression-given : {k : ℕ} (R : Realm (source text w refs)) (c : Context) (e : Expr) → Expression text w refs sorts numbers k R c e
      → Given (source text w refs) R mem' table entries k (suc max_nodes) c e
  expression-given R c e x =
      let s = laid.behind in
      let e = laid.early in
      record {
        operand = x.operand;
        noted = laid_noted laid R (regions_of mem' entries) (suc max_nodes) x.notes (λ l. absurd (omega arith)) (omega arith) (omega arith) (omega arith);
        lasting = laid_lasting laid R.W table (suc max_nodes);
      }

  pub workable_runnable : {k : ℕ} → Workable text w refs sorts numbers mem table entries k → Runnable (source text w refs) mem' table entries k (suc max_nodes)
  workable_runnable h =
      let r = room-kept mem' table len refl room in
      let s = laid.early in
      let m = r.most in
      let n = r.room in
      record {
        room = record {
          lent = record { work = h.R.lexed.room; refs = h.room.refs_room; small = omega arith };
          below = h.inside;
          few = h.few;
          index = omega arith;
          sized = room.sized;
          room = omega arith;
          most = r.most;
        };
        realm = h.R;
        context = h.c;
        expr = h.e;
        given = expression-given h.R h.c h.e h.expression;
      }

  pub told-numbered : {k : ℕ} {mem'' table'' : List ℕ} {r : Returned ℕ} → NumberTold (source text w refs) mem' mem'' table table'' entries k (suc max_nodes) r
      → Numbered text w refs sorts numbers table table'' k r
  told-numbered t = record { same = λ n e. ap length (t.same n e); tells = λ R c e x. t.tells R c e (expression-given R c e x) }
