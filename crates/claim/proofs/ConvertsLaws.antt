-- What `convert` promises follows from the answer and the buffers that the definition gives.
use Rattle.std.specs.Prelude.{ℕ, ◌≤◌, ◌≡◌, List, length, drop, Ok}
use Rattle.std.proofs.Common.{ap, ◌∙◌, subst, le-leb}
use Rattle.node.specs.Limits.{max_nodes}
use Rattle.node.specs.Result.{Done, ◌>>=◌, Counts}
use Rattle.node.proofs.ResultLaws.{guard-done, guard-pass, bind_done}
use Rattle.node.specs.Written.{count}
use Rattle.node.specs.Answer.{Answer}
use Rattle.forms.specs.Forms.{form}
use Rattle.language.specs.Limits.{work_bytes}
use Rattle.language.specs.Reading.{NumberedFormula, counts, text_expansion, delivered, nodes_after, signals_after}
use Rattle.claim.specs.Claim.{Demand3}
use Rattle.claim.proofs.ClaimLaws.{form-demand}
use Rattle.claim.specs.Yields.{told, Yields}
use Rattle.claim.proofs.YieldsLaws.{accepted}
use Rattle.claim.specs.Converting.{in_form, formed, converting, conversion}
use Rattle.claim.proofs.ConvertingLaws.{FormOf, formed-done}
use Rattle.claim.specs.Converts.{Converts}

-- an accepted conversion is one of an accepted text
record FromText (text : List ℕ) (number : ℕ) (d : NumberedFormula) : Type 0 where
  source : NumberedFormula
  meaning : text_expansion text ≡ Done source
  form : FormOf number source d

module _ (text : List ℕ) (number work : ℕ) (nodes signals : List ℕ) where
  from-text : (d : NumberedFormula) → converting text number work (length nodes) (length signals) ≡ Done d → FromText text number d
  unfolding converting
  from-text d e =
      let a = guard-done _ 17 0 _ e in
      let b = bind_done (text_expansion text) _ a.1 in
      record { source = b.0; meaning = b.1; form = formed-done number nodes signals b.0 b.2 }

  fitting-delivered : (c : NumberedFormula) → text_expansion text ≡ Done c → number ≤ 2 → count (form number c.formula) ≤ max_nodes → work_bytes ≤ work
      → converting text number work (length nodes) (length signals) ≡ delivered (length nodes) (length signals) (in_form number c)
  unfolding converting formed ◌>>=◌
  fitting-delivered c e h k l =
      guard-pass 17 0 _ (le-leb work_bytes work l) ∙ rw e (guard-pass 21 0 _ (le-leb number 2 h) ∙ guard-pass 16 0 _ (le-leb (count (form number c.formula)) max_nodes k))

-- the last two follow from the first
module _ (text : List ℕ) (number : ℕ) {work nodes signals work' nodes' signals' : List ℕ} {r : Answer}
    (y : Yields (conversion text number work nodes signals) work nodes signals work' nodes' signals' r) where
  demanded : (n s : ℕ) → r ≡ Ok (n, s) → Demand3 text number nodes' signals' n s
  demanded n s e =
      let a = accepted y e in
      let d = a.value in
      let f = from-text text number (length work) nodes signals d a.done in
      let c = f.source in
      let here : Demand3 text number (nodes_after (Done d) nodes) (signals_after (Done d) signals) (counts d).nodes (counts d).signals =
      subst (λ (x : NumberedFormula). Demand3 text number (nodes_after (Done x) nodes) (signals_after (Done x) signals) (counts x).nodes (counts x).signals) f.form.same
      (form-demand text c f.meaning number (drop (count (form number c.formula)) nodes) (drop (length c.signals) signals) f.form.few) in
      rw (y.nodes_left, y.signals_left, a.done) (subst (λ (k : Counts). Demand3 text number (nodes_after (Done d) nodes) (signals_after (Done d) signals) k.nodes k.signals) a.same here)

  pub converts : Converts text number work nodes signals work' nodes' signals' r
  converts =
      record {
        yields = y;
        demand = demanded;
        fits = λ c e h k l. y.answer ∙ ap told (fitting-delivered text number (length work) nodes signals c e h k l);
      }
