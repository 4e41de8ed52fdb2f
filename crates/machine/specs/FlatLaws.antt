-- Frames that hold no words: the state above one is as under it; it takes a value and is popped with the memory as it is.
use Rattle.std.specs.Prelude.{ℕ, zero, suc, ◌+◌, ◌<◌, false, List, [], ◌++◌, ◌≡◌, refl, Ok}
use Rattle.std.proofs.Common.{ap, ◌∙◌, arith, add-zero}
use Rattle.std.proofs.Math.Decide.{dec_lt}
use Rattle.node.specs.Result.{Result, Done}
use Rattle.machine.specs.declared.Move.TheVariants.{Next}
use Rattle.language.specs.Values.{Value}
use Rattle.operands.specs.Working.{Source}
use Rattle.machine.specs.Came.{Came, Worth}
use Rattle.machine.specs.Frames.{Frame, apply}
use Rattle.machine.specs.Realm.{Realm}
use Rattle.machine.specs.MemoryLaws.{agree_same}
use Rattle.machine.specs.Holding.{Holding, Laying, holding, empty, slots_of, forms_of}
use Rattle.machine.specs.Telling.{Tells}
use Rattle.machine.specs.Table.{Began, Laid}
use Rattle.machine.specs.TableLaws.{laid_as}
use Rattle.machine.specs.Cost.{price, price_some, times, times-suc, turns, weight}
use Rattle.machine.specs.Stack.{scope_above}
use Rattle.machine.specs.States.{Standing, written, Turned, TopOf}
use Rattle.machine.specs.TakeLaws.{words, pops}
use Rattle.machine.specs.Moves.{popped, came}
use Rattle.machine.specs.declared.Machine.{Machine}

-- fewer operands are left
pub times_less : (i j k : ℕ) → i < j → times i k + price k < times j k
times_less i zero k h = absurd (omega arith)
times_less i (suc j) k h = go (dec_lt i j) (times_less i j k)
  where
    go : Dec (i < j) → (i < j → times i k + price k < times j k) → times i k + price k < times (suc j) k
    go (yes l) f = let a = f l in let b = times-suc j k in omega arith
    go (no l) f = let e : i ≡ j = omega arith in let b = times-suc j k in let p = price_some k in rw e (omega arith)

-- over words
pub weight_falls : (new old k c d : ℕ) {p i : ℕ} → turns new c < turns old d → i ≡ k → p ≡ old → weight new i c + price i < weight p k d
weight_falls new old k c d l e b = rw (e, b) (times_less (turns new c) (turns old d) k l)

pub weight_less : (new old k : ℕ) {p i c d : ℕ} → turns new 0 < turns old 0 → i ≡ k → c ≡ 0 → p ≡ old → d ≡ 0 → weight new i c + price i < weight p k d
weight_less new old k l e a b f = rw (e, a, b, f) (times_less (turns new 0) (turns old 0) k l)

module _ {s : Source} {R : Realm s} {mem out : List ℕ} {m : Machine} {x : Result Came} {o : Began} {F : Frame} (h : TopOf R mem out m x o F) {phase : ℕ} (f : holding F ≡ empty phase false) where
  pub flat-top : m.top ≡ (words h).base
  flat-top = h.at.level (ap (λ (y : Holding). y.flat) f)

  pub flat_scope : m.scope ≡ h.footing.scope
  flat_scope = h.at.scoped ∙ ap (λ (y : Holding). scope_above y.inside h.footing) f

  pub flat-depth : m.depth ≡ h.footing.depth
  flat-depth = h.at.deep ∙ ap (λ (y : Holding). h.footing.depth + slots_of y.binds) f ∙ add-zero h.footing.depth

  no_forms : (holding F).forms ≡ []
  no_forms = ap (λ (y : Holding). y.forms) f

  -- the table under it and under the value that has come
  pub flat-laid : {v : Value} → h.came ≡ Worth v → Laid o (forms_of h.rest) out m.nodes
  flat-laid e = laid_as (ap (λ (y : Came). written m.nodes y ++ ((holding F).forms ++ forms_of h.rest)) e ∙ ap (λ (y : List Laying). y ++ forms_of h.rest) no_forms) h.laid

  -- popped, with a value
  pub yields : {u : Value} → h.came ≡ Worth u → (v : Value) {mode value from : ℕ} → apply F h.came ≡ Done (Worth v) → Tells R.W mode value from v
      → Standing R o mem (came (popped m) mode value from) v → Turned R mem mem out out m x o (Ok (Next (came (popped m) mode value from)))
  yields c v {mode} {value} {from} e t z = pops h (record {
    same = e;
    come = record { tells = t; stands = z };
    scope_is = flat_scope;
    depth_is = flat-depth;
    top-is = flat-top;
    frames-is = refl;
    agree = agree_same;
    laid = flat-laid c;
    few = h.few;
    noted = h.noted;
    lasting = h.lasting;
  })
