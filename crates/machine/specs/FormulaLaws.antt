-- Formulas: one that has come stands after those that its frame keeps, and a frame makes one of them all.
use Rattle.std.specs.Prelude.{ℕ, suc, ◌+◌, ◌≤◌, true, false, List, ◌∷◌, ◌++◌, ◌≡◌, refl, Ok}
use Rattle.std.proofs.Common.{ap, ◌∙◌, add-zero}
use Rattle.node.specs.Limits.{max_nodes}
use Rattle.node.specs.Ltl.{Formula}
use Rattle.node.specs.Result.{Result, Done}
use Rattle.machine.specs.declared.Move.TheVariants.{Next}
use Rattle.writing.specs.Writing.{Wrote}
use Rattle.writing.specs.StayLaws.{Stays}
use Rattle.operands.specs.Working.{Source}
use Rattle.machine.specs.Came.{Came, Nodes}
use Rattle.machine.specs.Frames.{Frame, apply}
use Rattle.machine.specs.Realm.{Realm}
use Rattle.machine.specs.MemoryLaws.{agree_same}
use Rattle.machine.specs.Holding.{holding, slots_of, forms_of}
use Rattle.machine.specs.Table.{Began, Laid}
use Rattle.machine.specs.TableLaws.{laid_as, laid_more, lasting_stays}
use Rattle.machine.specs.Stack.{scope_above}
use Rattle.machine.specs.States.{written, Turned, TopOf}
use Rattle.machine.specs.TakeLaws.{pops}
use Rattle.machine.specs.Moves.{wrote, popped}
use Rattle.machine.specs.declared.Machine.{Machine}

module _ {s : Source} {R : Realm s} {mem out : List ℕ} {m : Machine} {x : Result Came} {o : Began} {F : Frame} (h : TopOf R mem out m x o F) where
  -- the formula that has come stands after those that the frame keeps
  pub formula-laid : {f : Formula} → h.came ≡ Nodes f → Laid o (record { formula = f; end = m.nodes } ∷ ((holding F).forms ++ forms_of h.rest)) out m.nodes
  formula-laid e = laid_as (ap (λ (y : Came). written m.nodes y ++ ((holding F).forms ++ forms_of h.rest)) e) h.laid

  -- popped with a formula that was written after those of the other frames
  pub finishes : (f : Formula) {before out' : List ℕ} {at r : ℕ} → (holding F).flat ≡ true → (holding F).inside ≡ false → (holding F).binds ≡ false → apply F h.came ≡ Done (Nodes f)
      → Laid o (forms_of h.rest) before at → Wrote f before out' at r → r ≤ suc max_nodes → Stays out out' m.nodes r → Turned R mem mem out out' m x o (Ok (Next (wrote (popped m) r)))
  finishes f {before} {out'} {at} {r} fl fi fb e l w few st = pops h {v = Nodes f} (record {
    same = e;
    come = refl;
    scope_is = h.at.scoped ∙ ap (λ y. scope_above y h.footing) fi;
    depth_is = h.at.deep ∙ ap (λ y. h.footing.depth + slots_of y) fb ∙ add-zero h.footing.depth;
    top-is = h.at.level fl;
    frames-is = refl;
    agree = agree_same;
    laid = laid_more f l w;
    few = few;
    noted = h.noted;
    lasting = lasting_stays st h.lasting;
  })
