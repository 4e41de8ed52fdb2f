-- A frame makes a set of what has come: the set stands where the frame's values begin, or the answer is a refusal.
use Rattle.std.specs.Prelude.{ℕ, ◌+◌, ◌≤◌, ◌<◌, Bool, false, List, [], ◌++◌, ◌≡◌, refl, length, get_or, take, drop, Ok, Err}
use Rattle.std.proofs.Common.{sym, ap, ◌∙◌, arith, add-zero, length-drop, length-take-le}
use Rattle.node.specs.Result.{Result, ◌>>=◌}
use Rattle.node.proofs.ResultLaws.{bind_at, bind_refused}
use Rattle.node.specs.Returned.{Returned}
use Rattle.language.specs.Values.{Value, Set}
use Rattle.language.proofs.Laws.Basics.Results.{value_of, Within}
use Rattle.language.proofs.Laws.Values.ValueLaws.{SaneSet}
use Rattle.sets.specs.Answers.{SetIs}
use Rattle.operands.specs.Working.{Source}
use Rattle.memory_sets.specs.Places.{Outside}
use Rattle.memory_sets.specs.PlacedLaws.{words_of_lem}
use Rattle.machine.specs.Came.{Came, Worth, worth}
use Rattle.machine.specs.Frames.{Frame, apply}
use Rattle.machine.specs.Realm.{Realm}
use Rattle.machine.specs.Memory.{frame_words, on_top}
use Rattle.machine.specs.MemoryLaws.{agree-from}
use Rattle.machine.specs.Holding.{Laying, holding, slots_of, forms_of}
use Rattle.machine.specs.NoteLaws.{noted_kept, lasting_kept}
use Rattle.machine.specs.SetLaws.{held_words}
use Rattle.machine.specs.Stack.{scope_above}
use Rattle.machine.specs.Table.{Began}
use Rattle.machine.specs.TableLaws.{laid_as}
use Rattle.machine.specs.States.{written, Turned, TopOf}
use Rattle.machine.specs.TakeLaws.{words, room-under, refuses-late, pops}
use Rattle.machine.specs.declared.Machine.{Machine}
use Rattle.set_steps.specs.Making.{made}

module _ {s : Source} {R : Realm s} {mem out : List ℕ} {m : Machine} {x : Result Came} {o : Began} {F : Frame} (h : TopOf R mem out m x o F) where
  -- w is the definition's answer g, in n words from the frame's base on
  pub record Making (mem' : List ℕ) (base n : ℕ) (w : Returned ℕ) (g : Result (List ℕ)) : Type 0 where
    pub no_forms : (holding F).forms ≡ []
    pub no_name : (holding F).binds ≡ false
    pub no_body : (holding F).inside ≡ false
    pub value : Value
    pub came-is : h.came ≡ Worth value
    pub base-is : base ≡ (words h).base
    pub set : SetIs w (drop base mem') g
    pub kept : Outside mem mem' base n
    pub room : base + n ≤ m.frames
    pub sane : Within SaneSet g
    pub same : apply F h.came ≡ (g >>= λ y. worth (Set y))

  pub makes : {mem' : List ℕ} {base n : ℕ} (w : Returned ℕ) {g : Result (List ℕ)} → Making mem' base n w g → Turned R mem mem' out out m x o (made m base w)
  makes {mem'} {base} {n} (Ok i) p =
      let u = room-under h in
      let u1 = u.values in
      let u2 = u.slots in
      let n0 = h.noted.first in
      let n1 = h.noted.within in
      let n2 = h.noted.ascending in
      let ro = h.at.room in
      let ins = h.at.inside in
      let eb = p.base-is in
      let pr = p.room in
      let few = p.set.few in
      let k = p.kept in
      let len = k.len in
      let l = take i (drop base mem') in
      let size : length l ≡ i = length-take-le i (drop base mem') (let d = length-drop base mem' in omega arith) in
      let below : (j : ℕ) → j < (words h).base → get_or mem' j 0 ≡ get_or mem j 0 = λ j y. k.below j (omega arith) in
      pops h {v = Worth (Set l)} (record {
        same = p.same ∙ ap (λ y. y >>= λ y. worth (Set y)) (sym p.set.says) ∙ bind_at l (λ y. worth (Set y));
        come = record {
          tells = record { mode_is = refl; count = sym size; fine = record { few = omega arith; ordered = (value_of (sym p.set.says) p.sane).0 } };
          stands = (held_words mem' base l (λ j y. words_of_lem mem' (record { at = base; count = i }) l refl j y), on_top refl);
        };
        scope_is = h.at.scoped ∙ ap (λ (b : Bool). scope_above b h.footing) p.no_body;
        depth_is = h.at.deep ∙ ap (λ (b : Bool). h.footing.depth + slots_of b) p.no_name ∙ add-zero h.footing.depth;
        top-is = eb;
        frames-is = refl;
        agree = agree-from mem mem' (words h).base h.footing.depth (words h).base (m.frames + frame_words) len below (k.above (m.frames + frame_words) (omega arith))
            (omega arith) (omega arith) (omega arith) (omega arith);
        laid = laid_as (ap (λ (y : Came). written m.nodes y ++ ((holding F).forms ++ forms_of h.rest)) p.came-is ∙ ap (λ (y : List Laying). y ++ forms_of h.rest) p.no_forms) h.laid;
        few = h.few;
        noted = noted_kept mem mem' (words h).base below (omega arith) (omega arith) h.noted;
        lasting = lasting_kept mem mem' (words h).base below (omega arith) (omega arith) h.lasting;
      })
  makes (Err r) p = refuses-late h p.kept.len (p.same ∙ ap (λ y. y >>= λ y. worth (Set y)) (sym p.set.says) ∙ bind_refused _ _ _ _ refl)
