-- Demand 3 proved: of every text's bytes that are accepted, for the reader's nodes and for each form.
use Rattle.std.specs.Prelude.{ℕ, ◌-◌, ◌≤◌, ◌≡◌, refl, List, ◌++◌, leb, length, take, drop}
use Rattle.std.proofs.Common.{ap, ◌∙◌, sym, subst, take_at, le-leb, arith}
use Rattle.std.proofs.Math.Logic.Iff as Equiv
use Rattle.node.specs.Limits.{max_nodes, field_limit}
use Rattle.node.specs.Ltl.{Formula}
use Rattle.node.specs.Result.{Done, guard, Counts}
use Rattle.node.proofs.ResultLaws.{guard-pass}
use Rattle.node.specs.Table.{tree_at}
use Rattle.node.specs.Postorder.{SignalsBelow}
use Rattle.node.proofs.PostorderLaws.{signals-more}
use Rattle.node.specs.Written.{nodes_of, count}
use Rattle.node.proofs.WrittenLaws.{length_of, root_of, table-root}
use Rattle.forms.specs.Forms.{form}
use Rattle.forms.proofs.FormLaws.{form_holds}
use Rattle.forms.proofs.FormSignals.{form-signals}
use Rattle.forms.specs.Forbidden.{forbidden}
use Rattle.forms.proofs.ForbiddenLaws.{none_forbidden}
use Rattle.rewriter.specs.Rewriting.{fitting, rewriting, rewritten, target}
use Rattle.rewriter.specs.RewritingLaws.{accepts as rewriter-accepts}
use Rattle.rewriter.specs.OwnNodes.{own-rewriting}
use Rattle.language.specs.Numbered.{numbered}
use Rattle.language.specs.Reading.{NumberedFormula, text_expansion, reading, nodes_after, signals_after}
use Rattle.language.proofs.Laws.Buffers.{accepted_expansion, accepted_delivers}
use Rattle.language.proofs.Laws.Meaning.ListedSignals.{unnumbered, numbered-back}
use Rattle.language.proofs.Laws.Meaning.Acceptance.{accepts, text-agrees, text-signals, list-limited, text-once, text-listed}
use Rattle.claim.specs.Claim.{Demand3, Claim, Leaves}

module _ (text : List ℕ) (c : NumberedFormula) (e : text_expansion text ≡ Done c) where
  pub text_few : count c.formula ≤ max_nodes
  text_few = (accepts e).few_nodes

  pub text-small : SignalsBelow field_limit c.formula
  text-small = signals-more (let few = list-limited text c e in omega arith) c.formula (text-signals text c e)

  -- a form's nodes in front of one buffer, the text's signal list in front of the other
  pub form-demand : (number : ℕ) (rest others : List ℕ) → count (form number c.formula) ≤ max_nodes
      → Demand3 text number (nodes_of (form number c.formula) ++ rest) (c.signals ++ others) (count (form number c.formula)) (length c.signals)
  form-demand number rest others h =
      let f : Formula = form number c.formula in
      let list : take (length c.signals) (c.signals ++ others) ≡ c.signals = take_at c.signals others (length c.signals) refl in
      let nodes : take (count f) (nodes_of f ++ rest) ≡ nodes_of f = take_at (nodes_of f) rest (count f) (length_of f) in
      let bounded = form-signals number field_limit c.formula text-small in
      let root : tree_at (nodes_of f ++ rest) (count f - 1) ≡ f = root_of f rest bounded (omega arith) in
      record {
        means = λ w t. rw (root, list) (Equiv.trans (text-agrees text c e w t) (Equiv.symm (form_holds number c.formula (numbered text c.signals w) t)));
        clean = ap (forbidden number) nodes ∙ none_forbidden number c.formula bounded (omega arith);
        below = rw root (form-signals number (length c.signals) c.formula (text-signals text c e));
        words = λ u. rw list (record { word = unnumbered text c.signals u; same = numbered-back text c.signals (text-once text c e) u });
        once = rw list (text-once text c e);
        listed = λ x p. rw list (text-listed text c e x p);
      }

  rewriter_demand : (number : ℕ) (out others : List ℕ) (k : Counts) → rewriting number (nodes_of c.formula) (length out) ≡ Done k
      → Demand3 text number (rewritten number (nodes_of c.formula) out) (c.signals ++ others) k.nodes (length c.signals)
  rewriter_demand number out others k q =
      let a = rewriter-accepts (length out) q in
      let n : k.nodes ≡ count (target number (nodes_of c.formula)) = ap (λ (x : Counts). x.nodes) a.counts in
      let own = table-root c.formula text-small text_few in
      let fits : count (form number c.formula) ≤ max_nodes = subst (λ (g : Formula). count (form number g) ≤ max_nodes) own a.few in
      rw (q, n)
      (subst (λ (g : Formula). Demand3 text number (nodes_of (form number g) ++ drop (count (form number g)) out) (c.signals ++ others) (count (form number g)) (length c.signals))
      (sym own) (form-demand number (drop (count (form number c.formula)) out) others fits))

  form-fits : (number : ℕ) → number ≤ 2 → (room : ℕ) → count (form number c.formula) ≤ max_nodes
      → rewriting number (nodes_of c.formula) room ≡ guard (leb (count (form number c.formula)) room) 18 0 (Done (record { nodes = count (form number c.formula); signals = 0 }))
  unfolding fitting
  form-fits number h room k = own-rewriting number c.formula room h text-small text_few ∙ guard-pass 16 0 _ (le-leb (count (form number c.formula)) max_nodes k)

-- demand 3: for every text's bytes that are accepted
pub demand_3 : (text : List ℕ) (c : NumberedFormula) → text_expansion text ≡ Done c → Claim text c
demand_3 text c e =
    record { reader = λ rest others. form-demand text c e 0 rest others (text_few text c e); rewriter = rewriter_demand text c e; fits = form-fits text c e }

pub reader_claim : (text : List ℕ) (work : ℕ) (nodes signals : List ℕ) (c : NumberedFormula) → reading text work (length nodes) (length signals) ≡ Done c
    → Leaves text (nodes_after (Done c) nodes) (signals_after (Done c) signals) c
reader_claim text work nodes signals c e =
    let d = demand_3 text c (accepted_expansion text work nodes signals c e).0 in
    let a = accepted_delivers text work nodes signals c e in
    record {
      claim = d;
      demand = d.reader (drop (count c.formula) nodes) (drop (length c.signals) signals);
      handed = ap (λ (k : ℕ). take k (nodes_after (Done c) nodes)) a.nodes_told ∙ a.nodes_laid.front;
      list = a.signals_laid.front;
    }
