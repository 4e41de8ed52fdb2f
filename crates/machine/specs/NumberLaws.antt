-- A number or a refusal that a function has worked out, as what comes next.
use Rattle.std.specs.Prelude.{ℕ, false, List, ◌≡◌, refl, Ok, Err}
use Rattle.std.proofs.Common.{sym, ap, ◌∙◌}
use Rattle.node.specs.Result.{Result, ◌>>=◌}
use Rattle.node.specs.Returned.{Returned}
use Rattle.language.specs.Values.{Value, Number}
use Rattle.language.proofs.Laws.Basics.Results.{value_of, Within}
use Rattle.language.proofs.Laws.Values.ValueLaws.{SaneNumber}
use Rattle.sets.specs.Answers.{says}
use Rattle.operands.specs.Working.{Source}
use Rattle.machine.specs.Came.{Came, Worth, worth, works}
use Rattle.machine.specs.Frames.{Frame, apply}
use Rattle.machine.specs.Realm.{Realm}
use Rattle.machine.specs.Holding.{holding, empty}
use Rattle.machine.specs.Table.{Began}
use Rattle.machine.specs.States.{Turned, TopOf}
use Rattle.machine.specs.StateLaws.{Entered}
use Rattle.machine.specs.EnterLaws.{comes, fails}
use Rattle.machine.specs.TakeLaws.{refuses}
use Rattle.machine.specs.FlatLaws.{yields}
use Rattle.machine.specs.Moves.{numbered, popped}
use Rattle.machine.specs.declared.Machine.{Machine}

-- of an entry
pub comes_number : {s : Source} {R : Realm s} {mem out : List ℕ} {m : Machine} {x : Result Came} {o : Began} (h : Entered R mem out m x o) (w : Returned ℕ) {g : Result ℕ} → says w ≡ g
    → Within SaneNumber g → works h.aim h.context h.tree ≡ (g >>= λ n. worth (Number n)) → Turned R mem mem out out m x o (numbered m w)
unfolding ◌>>=◌
comes_number h (Ok n) e l q =
    comes h (Number n) (q ∙ ap (λ (r : Result ℕ). r >>= λ i. worth (Number i)) (sym e)) (record { mode_is = refl; value-is = refl; small = value_of (sym e) l }) tt
comes_number h (Err w) e l q = fails h (q ∙ ap (λ (r : Result ℕ). r >>= λ i. worth (Number i)) (sym e))

-- of a frame
pub yields_number : {s : Source} {R : Realm s} {mem out : List ℕ} {m : Machine} {x : Result Came} {o : Began} {F : Frame} (h : TopOf R mem out m x o F) {phase : ℕ} → holding F ≡ empty phase false
    → {u : Value} → h.came ≡ Worth u → (w : Returned ℕ) {g : Result ℕ} → says w ≡ g → Within SaneNumber g → apply F h.came ≡ (g >>= λ n. worth (Number n))
    → Turned R mem mem out out m x o (numbered (popped m) w)
unfolding ◌>>=◌
yields_number h f c (Ok n) e l q =
    yields h f c (Number n) (q ∙ ap (λ (r : Result ℕ). r >>= λ i. worth (Number i)) (sym e)) (record { mode_is = refl; value-is = refl; small = value_of (sym e) l }) tt
yields_number h f c (Err w) e l q = refuses h (q ∙ ap (λ (r : Result ℕ). r >>= λ i. worth (Number i)) (sym e))
