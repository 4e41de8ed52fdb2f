-- A frame takes a number, a set, a formula or any value, by its phase; what comes of another kind is refused.
use Rattle.std.specs.Prelude.{ℕ, List, [], ◌∷◌, ◌≡◌, get_or, Err}
use Rattle.std.proofs.Common.{sym, ap, ◌∙◌, subst}
use Rattle.node.specs.Returned.{refusal}
use Rattle.language.specs.Values.{misfit}
use Rattle.operands.specs.Working.{Source}
use Rattle.machine.specs.Came.{Came, as_value, as_number, as_set, as_formula}
use Rattle.machine.specs.Realm.{Realm}
use Rattle.machine.specs.Holding.{phase}
use Rattle.machine.specs.Telling.{is_number, is_set, is_nodes}
use Rattle.machine.specs.Table.{Began}
use Rattle.machine.specs.States.{Come, Takes, TakesToWrite}
use Rattle.machine.specs.ComeLaws.{not-number, not_set, not-formula, misfit_then}
use Rattle.machine.specs.TellLaws.{not-value}
use Rattle.machine.specs.TakeLaws.{refuses, top-phase}
use Rattle.machine.specs.Entering.{Waiting}
use Rattle.machine.specs.declared.Machine.{Machine}
use Rattle.machine.specs.Frames.{
  Frame,
  apply,
  Measured,
  Width,
  Left,
  Right,
  LeftSet,
  RightSet,
  Low,
  High,
  Elements,
  RangeFirst,
  RangeSecond,
  RangeLast,
  Over,
  FirstNumber,
  NextNumber,
  FirstSet,
  NextSet,
  KeepValue,
  Capping,
  LeftFormula,
  RightFormula,
  LeftCompared,
  RightCompared,
  Member,
  Among,
  Indexed,
  Repeat,
  Repeated,
  WindowFrom,
  WindowTo,
  Windowed,
  OverEach,
  FirstEach,
  NextEach,
  KeepFormula,
  BitOf,
}

pub data Want : Type 0 where
  a_number a_set a_formula a_value anything : Want

abbrev wants : List Want
wants =
    a_set ∷ a_value ∷ a_number ∷ a_number ∷ a_set ∷ a_set ∷ a_number ∷ a_number ∷ a_number ∷
    a_number ∷ a_number ∷ a_number ∷ a_set ∷ a_number ∷ a_number ∷ a_set ∷ a_set ∷ anything ∷
    a_formula ∷ a_formula ∷ a_formula ∷ a_value ∷ a_value ∷ a_number ∷ a_set ∷ a_number ∷ a_number ∷
    a_formula ∷ a_number ∷ a_number ∷ a_formula ∷ a_set ∷ a_formula ∷ a_formula ∷ anything ∷ a_value ∷ []

abbrev pub want_at : ℕ → Want
want_at p = get_or wants p anything

-- what has come is of another kind
abbrev Misses : Want → Came → Type 0
Misses a_number v = as_number v ≡ misfit
Misses a_set v = as_set v ≡ misfit
Misses a_formula v = as_formula v ≡ misfit
Misses a_value v = as_value v ≡ misfit
Misses anything v = ⊥

misses : (F : Frame) (v : Came) → Misses (want_at (phase F)) v → apply F v ≡ misfit
misses (Measured p m) v e = misfit_then _ e
misses Width v e = misfit_then _ (misfit_then _ e)
misses (Left p o c b) v e = misfit_then _ e
misses (Right p o m) v e = misfit_then _ e
misses (LeftSet p o c b) v e = misfit_then _ e
misses (RightSet p o m) v e = misfit_then _ e
misses (Low p l h c b) v e = misfit_then _ e
misses (High p l h m) v e = misfit_then _ e
misses (Elements p c es ns) v e = misfit_then _ e
misses (RangeFirst p c y z) v e = misfit_then _ e
misses (RangeSecond p c z x) v e = misfit_then _ e
misses (RangeLast p x y) v e = misfit_then _ e
misses (Over p o c i b) v e = misfit_then _ e
misses (FirstNumber p o c i b rest) v e = misfit_then _ e
misses (NextNumber p o c i b a rest) v e = misfit_then _ e
misses (FirstSet p o c i b rest) v e = misfit_then _ e
misses (NextSet p o c i b a rest) v e = misfit_then _ e
misses (KeepValue r c b) v e = absurd e
misses (Capping o) v e = misfit_then _ e
misses (LeftFormula o c b) v e = misfit_then _ e
misses (RightFormula o f end) v e = misfit_then _ e
misses (LeftCompared o c b) v e = misfit_then _ e
misses (RightCompared o c x) v e = misfit_then _ e
misses (Member c b) v e = misfit_then _ e
misses (Among n) v e = misfit_then _ e
misses (Indexed c t) v e = misfit_then _ e
misses (Repeat c b) v e = misfit_then _ e
misses (Repeated n) v e = misfit_then _ e
misses (WindowFrom p o c m b) v e = misfit_then _ e
misses (WindowTo p o c b j) v e = misfit_then _ e
misses (Windowed o j k) v e = misfit_then _ e
misses (OverEach o c i b) v e = misfit_then _ e
misses (FirstEach o c i b rest) v e = misfit_then _ e
misses (NextEach o c i b f end rest) v e = misfit_then _ e
misses (KeepFormula r c b) v e = absurd e
misses (BitOf c i) v e = misfit_then _ (misfit_then _ (misfit_then _ e))

module _ {s : Source} {mem : List ℕ} {m : Machine} {p : ℕ} (w : Waiting mem m p) where
  refused : {z : Want} → want_at p ≡ z → ((R : Realm s) (o : Began) (v : Came) → Come R o mem m v → Misses z v) → Takes s mem mem m (Err (refusal 9 0))
  refused e q = record {
    turns = λ R x o out t.
        let v = t.top.came in
        refuses t.top (misses t.frame v (subst (λ (y : Want). Misses y v) (sym (ap want_at (top-phase t ∙ w.phase) ∙ e)) (q R o v t.top.come)));
  }

  pub number-misfits : want_at p ≡ a_number → (m.mode ≡ is_number → ⊥) → Takes s mem mem m (Err (refusal 9 0))
  number-misfits e l = refused e (λ R o v c. not-number R o mem m v c l)

  pub set-misfits : want_at p ≡ a_set → (m.mode ≡ is_set → ⊥) → Takes s mem mem m (Err (refusal 9 0))
  set-misfits e l = refused e (λ R o v c. not_set R o mem m v c l)

  pub formula-misfits : want_at p ≡ a_formula → (m.mode ≡ is_nodes → ⊥) → Takes s mem mem m (Err (refusal 9 0))
  formula-misfits e l = refused e (λ R o v c. not-formula R o mem m v c l)

  pub value-misfits : want_at p ≡ a_value → m.mode ≡ is_nodes → Takes s mem mem m (Err (refusal 9 0))
  value-misfits e l = refused e (λ R o v c. not-value R o mem m v c l)

-- a step that has the table leaves it
pub misfits-still : {s : Source} {mem out : List ℕ} {m : Machine} → Takes s mem mem m (Err (refusal 9 0)) → TakesToWrite s mem mem out out m (Err (refusal 9 0))
misfits-still {out = out} h = record { turns = λ R x o t. h.turns R x o out t }
