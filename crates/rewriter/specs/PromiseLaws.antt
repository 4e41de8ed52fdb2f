-- What `rewrite` promises follows from the answer and the buffer that the definition gives.
use Rattle.std.specs.Prelude.{ℕ, ◌-◌, ◌<◌, ◌≤◌, ◌≡◌, ◌↔◌, List, length, take, Ok, Err}
use Rattle.std.proofs.Common.{ap, ◌∙◌, sym}
use Rattle.node.specs.Ltl.{Word, Holds}
use Rattle.node.specs.Limits.{field_limit}
use Rattle.node.specs.Result.{Result, Done, Counts}
use Rattle.node.specs.Table.{root, NodeHolds, checked}
use Rattle.node.specs.Written.{count}
use Rattle.node.specs.Answer.{Answer, says}
use Rattle.node.specs.Returned.{refusal}
use Rattle.node.specs.declared.Refusal.{Refusal}
use Rattle.forms.specs.Forbidden.{forbidden}
use Rattle.rewriter.specs.Rewriting.{target, rewriting, leaves, rewritten}
use Rattle.rewriter.specs.RewritingLaws.{Accepts, accepts, written_holds, written_clean, rewriting-form, rewriting-table, rewriting_fit}
use Rattle.rewriter.specs.Fitting.{Fitted}
use Rattle.rewriter.specs.Promise.{Rewrites}

-- the last two follow from the first two
module _ (form : ℕ) (nodes out out' : List ℕ) where
  module _ (n s : ℕ) (e : Done (record { nodes = n; signals = s }) ≡ rewriting form nodes (length out)) (b : out' ≡ rewritten form nodes out) where
    accepted : Accepts form nodes (length out) (record { nodes = n; signals = s })
    accepted = accepts (length out) (sym e)

    told : n ≡ count (target form nodes)
    told = ap (λ (c : Counts). c.nodes) accepted.counts

    means : (w : Word) (t : ℕ) → NodeHolds out' (n - 1) w t ↔ Holds (root nodes) w t
    means w t = rw (b, ← e, told) (written_holds form nodes out accepted w t)

    cleans : forbidden form (take n out') ≡ 0
    cleans = rw (b, ← e, told) (written_clean form nodes out accepted)

  pub rewrites : (r : Answer) → says r ≡ rewriting form nodes (length out) → out' ≡ leaves (says r) (target form nodes) out → Rewrites form nodes out out' r
  rewrites r e b =
      let b' : out' ≡ rewritten form nodes out = b ∙ ap (λ (x : Result Counts). leaves x (target form nodes) out) e in
      record {
        answer = e;
        buffer = b';
        meaning = λ n s q. means n s (ap says (sym q) ∙ e) b';
        clean = λ n s q. cleans n s (ap says (sym q) ∙ e) b';
      }

  -- the three ways of `rewrite`: the form, the table, and what is left of the answer
  pub refused-form : 2 < form → out' ≡ out → Rewrites form nodes out out' (Err (refusal 21 0))
  refused-form h b = rewrites (Err (refusal 21 0)) (sym (rewriting-form form nodes (length out) h)) b

  pub refused-table : {a : Answer} {e : Refusal} → form ≤ 2 → says a ≡ checked field_limit nodes → a ≡ Err e → out' ≡ out → Rewrites form nodes out out' (Err e)
  refused-table {e = e} h s r b = rewrites (Err e) (sym (rewriting-table form nodes (length out) h (sym s ∙ ap says r))) b

  pub fitted : {a r : Answer} {n s : ℕ} → form ≤ 2 → says a ≡ checked field_limit nodes → a ≡ Ok (n, s) → Fitted (target form nodes) out out' r
      → Rewrites form nodes out out' r
  fitted {a} {r} h e q f = rewrites r (f.answer ∙ sym (rewriting_fit form nodes (length out) h (sym e ∙ ap says q))) f.buffer
