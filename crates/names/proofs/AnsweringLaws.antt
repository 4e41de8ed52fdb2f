-- The answer by what was found, in the order of refusals.
use Rattle.std.specs.Prelude.{ℕ, ◌≤◌, ◌<◌, true, false, ◌≡◌, ltb, Ok, Err}
use Rattle.std.proofs.Math.Path.{sym, ap}
use Rattle.std.proofs.Common.{◌∙◌, arith, lt-ltb, le-ltb}
use Rattle.language.specs.Limits.{max_names}
use Rattle.language.proofs.Laws.Basics.Tests.{pick, leave}
use Rattle.names.specs.Tables.{no_place}
use Rattle.node.specs.Returned.{refusal}
use Rattle.names.specs.Answering.{answer_of}

module _ (hidden again count place : ℕ) where
  pub answer-hidden : hidden < no_place → Err (refusal 6 hidden) ≡ answer_of hidden again count place
  unfolding answer_of
  answer-hidden a = sym (pick (ltb hidden no_place) _ _ (lt-ltb hidden no_place a))

  pub answer-again : {q : ℕ} → q ≡ again → no_place ≤ hidden → q < no_place → Err (refusal 7 q) ≡ answer_of hidden again count place
  unfolding answer_of
  answer-again e a b = ap (λ p. Err (refusal 7 p)) e ∙ sym (leave (ltb hidden no_place) _ _ (le-ltb hidden no_place a) ∙ pick (ltb again no_place) _ _ (lt-ltb again no_place (omega arith)))

  module _ {q : ℕ} (e : q ≡ again) (a : no_place ≤ hidden) (b : no_place ≤ q) where
    -- behind 6 and 7
    later : answer_of hidden again count place ≡ elim (ltb max_names count) [ true ↦ Err (refusal 8 place) | false ↦ Ok count ]
    unfolding answer_of
    later = leave (ltb hidden no_place) _ _ (le-ltb hidden no_place a) ∙ leave (ltb again no_place) _ _ (le-ltb again no_place (omega arith))

    pub answer-many : max_names < count → Err (refusal 8 place) ≡ answer_of hidden again count place
    answer-many c = sym (later ∙ pick (ltb max_names count) _ _ (lt-ltb max_names count c))

    pub answer-named : count ≤ max_names → Ok count ≡ answer_of hidden again count place
    answer-named c = sym (later ∙ leave (ltb max_names count) _ _ (le-ltb max_names count c))
