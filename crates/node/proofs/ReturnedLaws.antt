-- Laws of what calls return: what `?` hands up, and that a refusal's number and place are told apart.
use Rattle.std.specs.Prelude.{◌≡◌, Result, Ok, Err, IsErr}
use Rattle.std.specs.Result.{IsErrAnd}
use Rattle.std.proofs.Common.{ap, ◌∙◌}
use Rattle.std.proofs.lemmas.Result.{err_from_is_err_and}
use Rattle.node.specs.declared.Refusal.{Refusal}
use Rattle.node.specs.Returned.{Returned, refusal}

-- an error handed up by `?` is the error that was met
pub raised : {A E : Type 0} {r : Result A E} {e : E} → IsErr r × IsErrAnd r (λ f. f ≡ e) → r ≡ Err e
raised {r = r} (a, b) = let p = err_from_is_err_and r b in p.1 ∙ ap Err p.2

-- the refusal that was met, 0 at 0 for none
refusal_of : {A : Type 0} → Returned A → Refusal
refusal_of (Ok x) = refusal 0 0
refusal_of (Err r) = r

pub same-refusal : {A : Type 0} {r s : Refusal} → ◌≡◌ {A = Returned A} (Err r) (Err s) → r ≡ s
unfolding refusal_of
same-refusal e = ap refusal_of e
