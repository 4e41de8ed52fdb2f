-- The promise of `reach_of` from its answer alone; and 'the reach is the same number in all three forms' (document 02, F-3) on tables.
use Rattle.std.specs.Prelude.{ℕ, ◌-◌, ◌≤◌, ◌≡◌, List, ◌++◌, length, take, drop, leb, Ok, Err}
use Rattle.std.proofs.Math.Path.{ap, sym}
use Rattle.std.proofs.Common.{◌∙◌, arith, take_at}
use Rattle.node.specs.Limits.{field_limit}
use Rattle.node.specs.Ltl.{Formula, Word}
use Rattle.node.specs.Result.{Result, Done, Counts}
use Rattle.node.proofs.ResultLaws.{guard-done, bind_done, bind_to, bind_refused}
use Rattle.node.specs.Answer.{Answer, says}
use Rattle.node.specs.Returned.{Returned}
use Rattle.node.specs.declared.Refusal.{Refusal}
use Rattle.node.specs.Table.{root, checked}
use Rattle.node.specs.Formed.{Formed}
use Rattle.node.proofs.TableLaws.{checked-done}
use Rattle.node.specs.Postorder.{SignalsBelow}
use Rattle.node.proofs.PostorderLaws.{tree-signals}
use Rattle.node.specs.Written.{nodes_of, count}
use Rattle.node.proofs.WrittenLaws.{length_of, table_of, table-root}
use Rattle.forms.proofs.FormSignals.{form-signals}
use Rattle.rewriter.specs.Rewriting.{target, fitting, rewriting, leaves}
use Rattle.rewriter.specs.RewritingLaws.{Accepts, accepts}
use Rattle.rewriter.specs.Promise.{Rewrites}
use Rattle.lookahead.specs.Span.{Span, Silent, Ahead, Endless, span}
use Rattle.lookahead.proofs.SpanAgrees.{Shared, span-agrees}
use Rattle.lookahead.proofs.SpanForms.{form-span}
use Rattle.lookahead.specs.Reaching.{Distance, Letters, reported, reaching, looks}
use Rattle.lookahead.specs.Promise.{Reaches}
use Rattle.lookahead.specs.declared.Reach.{Reach}

-- the two ways to an answer
pub reaching-refused : {number place : ℕ} (nodes : List ℕ) → checked field_limit nodes ≡ Result.Refused number place → reaching nodes ≡ Result.Refused number place
unfolding reaching
reaching-refused nodes e = bind_refused (checked field_limit nodes) _ _ _ e

pub reaching-done : {c : Counts} (nodes : List ℕ) → checked field_limit nodes ≡ Done c → reaching nodes ≡ Done (reported (span (root nodes)))
unfolding reaching
reaching-done nodes e = bind_to (checked field_limit nodes) _ _ e

-- what an accepted answer says
reached : {d : Distance} (nodes : List ℕ) → reaching nodes ≡ Done d → reported (span (root nodes)) ≡ d
unfolding reaching
reached nodes e = let q = (bind_done (checked field_limit nodes) _ e).2 in cc

-- words that agree on letters 0 to the reach agree on all that is looked at
reported_shared : (s : Span) (n : ℕ) → reported s ≡ Letters n → (u v : Word) → ((t : ℕ) → t ≤ n → (k : ℕ) → u t k ≡ v t k) → Shared u v s 0
reported_shared Silent n e u v h = tt
reported_shared (Ahead m) n e u v h = let q : m ≡ n = cc in λ p l g. h p (omega arith)
reported_shared Endless n e u v h = let z : ◌≡◌ {A = ℕ} 0 1 = cc in absurd (omega arith)

-- the promise follows from the answer
pub reaches : {r : Returned Reach} {nodes : List ℕ} → looks r ≡ reaching nodes → Reaches r nodes
reaches {r} {nodes} e =
    record {
      answer = e;
      agrees = λ n q u v h. span-agrees u v (root nodes) 0 (reported_shared (span (root nodes)) n (reached nodes (sym e ∙ q)) u v h);
      forms = λ d q number. ap reported (form-span number (root nodes)) ∙ reached nodes (sym e ∙ q);
    }

-- a refused table, and one that is accepted
module _ {t : Answer} (nodes : List ℕ) (e : says t ≡ checked field_limit nodes) where
  pub reaches_refused : {x : Refusal} {r : Returned Reach} → t ≡ Err x → r ≡ Err x → Reaches r nodes
  reaches_refused q h = reaches (ap looks h ∙ sym (reaching-refused nodes (sym e ∙ ap says q)))

  pub formed_of : {x y : ℕ} → t ≡ Ok (x, y) → Formed field_limit nodes
  formed_of q = (checked-done (sym e ∙ ap says q)).formed

  pub reaches_done : {x y : ℕ} {r : Returned Reach} → t ≡ Ok (x, y) → looks r ≡ Done (reported (span (root nodes))) → Reaches r nodes
  reaches_done q k = reaches (k ∙ sym (reaching-done nodes (sym e ∙ ap says q)))

-- the rewriter's forms
module _ (number : ℕ) (nodes : List ℕ) where
  -- the form's own nodes have the table's reach
  pub form-reaching : (room : ℕ) {c : Counts} → rewriting number nodes room ≡ Done c → reaching (nodes_of (target number nodes)) ≡ reaching nodes
  unfolding rewriting
  form-reaching room e =
      let f : Formula = target number nodes in
      let q = bind_done (checked field_limit nodes) (λ _. fitting f room) (guard-done (leb number 2) 21 0 _ e).1 in
      let a : Accepts number nodes room _ = accepts room e in
      let p = a.formed.some in
      let s : SignalsBelow field_limit f = form-signals number field_limit (root nodes) (tree-signals a.formed (length nodes - 1) (omega arith)) in
      reaching-done (nodes_of f) (table_of field_limit f (omega arith) s a.few)
      ∙ ap (λ (g : Formula). Done (reported (span g))) (table-root f s a.few)
      ∙ ap (λ (x : Span). Done (reported x)) (form-span number (root nodes))
      ∙ sym (reaching-done nodes q.1)

  -- so have the nodes that the rewriter leaves
  pub left-reaching : (out out' : List ℕ) {r : Answer} (n s : ℕ) → Rewrites number nodes out out' r → r ≡ Ok (n, s) → reaching (take n out') ≡ reaching nodes
  left-reaching out out' n s w q =
      let e : rewriting number nodes (length out) ≡ Done (record { nodes = n; signals = s }) = sym w.answer ∙ ap says q in
      let f : Formula = target number nodes in
      let told : n ≡ count f = ap (λ (c : Counts). c.nodes) (let a : Accepts number nodes (length out) _ = accepts (length out) e in a.counts) in
      let left : out' ≡ nodes_of f ++ drop (count f) out = w.buffer ∙ ap (λ (x : Result Counts). leaves x f out) e in
      ap reaching (ap (take n) left ∙ take_at (nodes_of f) (drop (count f) out) n (length_of f ∙ sym told)) ∙ form-reaching (length out) e
