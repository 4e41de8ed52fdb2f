-- The same answer by another name, a refusal, and what is accepted.
use Rattle.std.specs.Prelude.{ℕ, List, ◌++◌, ◌≡◌, length, Ok, Err}
use Rattle.std.proofs.Math.Path.{refl, subst}
use Rattle.std.proofs.Common.{sym}
use Rattle.std.proofs.Math.ListN.{drop}
use Rattle.node.specs.Result.{Result, Done, Refused, ◌>>=◌}
use Rattle.node.specs.Written.{nodes_of, count}
use Rattle.node.specs.Answer.{Answer}
use Rattle.node.specs.Returned.{refusal}
use Rattle.language.specs.Reading.{NumberedFormula}
use Rattle.ending.specs.Hands.{Hands}

module _ {result : Result NumberedFormula} where
  -- the same by another name
  pub hands_as : {other : Result NumberedFormula} {nodes signals nodes' signals' : List ℕ} {r : Answer} → other ≡ result → Hands result nodes signals nodes' signals' r
      → Hands other nodes signals nodes' signals' r
  hands_as {nodes = nodes} {signals} {nodes'} {signals'} {r} e h = subst (λ x. Hands x nodes signals nodes' signals' r) (sym e) h

  -- a refusal changes no buffer
  pub hands_refused : {n p : ℕ} (nodes signals : List ℕ) → result ≡ Refused n p → Hands result nodes signals nodes signals (Err (refusal n p))
  unfolding ◌>>=◌
  hands_refused {n} {p} nodes signals e = subst (λ x. Hands x nodes signals nodes signals (Err (refusal n p))) (sym e) (record { answer = refl; nodes_left = refl; signals_left = refl })

  pub hands_accepted : {c : NumberedFormula} (nodes signals : List ℕ) → result ≡ Done c
      → Hands result nodes signals (nodes_of c.formula ++ drop (count c.formula) nodes) (c.signals ++ drop (length c.signals) signals) (Ok (count c.formula, length c.signals))
  unfolding ◌>>=◌
  hands_accepted {c} nodes signals e =
      subst (λ x. Hands x nodes signals (nodes_of c.formula ++ drop (count c.formula) nodes) (c.signals ++ drop (length c.signals) signals)
      (Ok (count c.formula, length c.signals)))
      (sym e) (record { answer = refl; nodes_left = refl; signals_left = refl })
