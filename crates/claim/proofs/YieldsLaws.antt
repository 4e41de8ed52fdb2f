-- What an accepted or a refused answer tells of the definition's result.
use Rattle.std.specs.Prelude.{ℕ, ◌≡◌, List, Ok, Err}
use Rattle.std.proofs.Common.{ap, ◌∙◌, sym}
use Rattle.node.specs.Result.{Result, Done, Refused, ◌>>=◌}
use Rattle.node.proofs.ResultLaws.{bind_done, not_done}
use Rattle.node.specs.Answer.{Answer, says}
use Rattle.node.specs.declared.Refusal.{Refusal}
use Rattle.language.specs.Reading.{NumberedFormula, counts}
use Rattle.claim.specs.Yields.{told, Yields}

-- what an answer that was accepted tells
pub record Told (result : Result NumberedFormula) (n s : ℕ) : Type 0 where
  pub value : NumberedFormula
  pub done : result ≡ Done value
  pub same : counts value ≡ record { nodes = n; signals = s }

pub told-done : (result : Result NumberedFormula) {n s : ℕ} → Done (record { nodes = n; signals = s }) ≡ told result → Told result n s
told-done result e = let b = bind_done result _ (sym e) in record { value = b.0; done = b.1; same = let g = b.2 in cc }

pub told-refused : (result : Result NumberedFormula) {n p : ℕ} → Refused n p ≡ told result → result ≡ Refused n p
unfolding ◌>>=◌
told-refused (Done c) e = absurd (not_done e)
told-refused (Refused m q) e = cc

module _ {result : Result NumberedFormula} {work nodes signals work' nodes' signals' : List ℕ} {r : Answer} (y : Yields result work nodes signals work' nodes' signals' r) where
  pub accepted : {n s : ℕ} → r ≡ Ok (n, s) → Told result n s
  accepted e = told-done result (ap says (sym e) ∙ y.answer)

  pub refused : {e : Refusal} → r ≡ Err e → result ≡ Refused e.number e.place
  refused e = told-refused result (ap says (sym e) ∙ y.answer)
