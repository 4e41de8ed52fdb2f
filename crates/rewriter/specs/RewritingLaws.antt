-- The ways through the rewriter's answer, and what an accepted one means.
use Rattle.std.specs.Prelude.{ℕ, ◌-◌, ◌<◌, ◌≤◌, ◌≡◌, ◌↔◌, List, ◌++◌, length, take, drop, leb}
use Rattle.std.proofs.Common.{ap, ◌∙◌, take_at, arith, leb-true, le-leb}
use Rattle.std.proofs.lemmas.Bool.{lt-leb}
use Rattle.node.specs.Limits.{max_nodes, field_limit}
use Rattle.node.specs.Ltl.{Formula, Word, Holds}
use Rattle.node.specs.Result.{Done, Refused, ◌>>=◌, Counts}
use Rattle.node.proofs.ResultLaws.{guard-pass, guard-stop, guard-done, bind_done}
use Rattle.node.specs.Table.{root, NodeHolds, checked}
use Rattle.node.specs.Formed.{Formed}
use Rattle.node.proofs.TableLaws.{checked-done}
use Rattle.node.specs.Postorder.{SignalsBelow}
use Rattle.node.proofs.PostorderLaws.{tree-signals}
use Rattle.node.specs.Written.{nodes_of, count}
use Rattle.node.proofs.WrittenLaws.{length_of, root_of}
use Rattle.forms.proofs.FormLaws.{form_holds}
use Rattle.forms.proofs.FormSignals.{form-signals}
use Rattle.forms.specs.Forbidden.{forbidden}
use Rattle.forms.proofs.ForbiddenLaws.{none_forbidden}
use Rattle.rewriter.specs.Rewriting.{target, fitting, rewriting}

-- the three ways of a formula of the format into a buffer
module _ (f : Formula) (room : ℕ) where
  pub fitting_many : max_nodes < count f → fitting f room ≡ Refused 16 0
  unfolding fitting
  fitting_many h = guard-stop 16 0 _ (lt-leb (count f) max_nodes h)

  pub fitting_short : count f ≤ max_nodes → room < count f → fitting f room ≡ Refused 18 0
  unfolding fitting
  fitting_short h l = guard-pass 16 0 _ (le-leb (count f) max_nodes h) ∙ guard-stop 18 0 _ (lt-leb (count f) room l)

  pub fitting-good : count f ≤ max_nodes → count f ≤ room → fitting f room ≡ Done (record { nodes = count f; signals = 0 })
  unfolding fitting
  fitting-good h l = guard-pass 16 0 _ (le-leb (count f) max_nodes h) ∙ guard-pass 18 0 _ (le-leb (count f) room l)

-- the three ways of a table into its form
module _ (number : ℕ) (nodes : List ℕ) (room : ℕ) where
  pub rewriting-form : 2 < number → rewriting number nodes room ≡ Refused 21 0
  unfolding rewriting
  rewriting-form h = guard-stop 21 0 _ (lt-leb number 2 h)

  pub rewriting-table : {n p : ℕ} → number ≤ 2 → checked field_limit nodes ≡ Refused n p → rewriting number nodes room ≡ Refused n p
  unfolding rewriting ◌>>=◌
  rewriting-table h e = guard-pass 21 0 _ (le-leb number 2 h) ∙ rw e

  pub rewriting_fit : {c : Counts} → number ≤ 2 → checked field_limit nodes ≡ Done c → rewriting number nodes room ≡ fitting (target number nodes) room
  unfolding rewriting ◌>>=◌
  rewriting_fit h e = guard-pass 21 0 _ (le-leb number 2 h) ∙ rw e

-- what an accepted answer says
pub record Accepts (number : ℕ) (nodes : List ℕ) (room : ℕ) (c : Counts) : Type 0 where
  pub formed : Formed field_limit nodes
  pub few : count (target number nodes) ≤ max_nodes
  pub fits : count (target number nodes) ≤ room
  pub counts : c ≡ record { nodes = count (target number nodes); signals = 0 }

pub accepts : {number : ℕ} {nodes : List ℕ} {c : Counts} (room : ℕ) → rewriting number nodes room ≡ Done c → Accepts number nodes room c
unfolding rewriting fitting
accepts {number} {nodes} {c} room e =
    let f : Formula = target number nodes in
    let p = guard-done (leb number 2) 21 0 _ e in
    let q = bind_done (checked field_limit nodes) (λ _. fitting f room) p.1 in
    let r = guard-done (leb (count f) max_nodes) 16 0 _ q.2 in
    let s = guard-done (leb (count f) room) 18 0 (Done (record { nodes = count f; signals = 0 })) r.1 in
    record { formed = (checked-done q.1).formed; few = leb-true (count f) max_nodes r.0; fits = leb-true (count f) room s.0; counts = let g = s.1 in cc }

-- an accepted table's form, the nodes written and any after them
module _ (number : ℕ) (nodes out : List ℕ) {room : ℕ} {c : Counts} (a : Accepts number nodes room c) where
  target-signals : SignalsBelow field_limit (target number nodes)
  target-signals =
      let h = a.formed.some in form-signals number field_limit (root nodes) (tree-signals a.formed (length nodes - 1) (omega arith))

  -- the last node written holds where the table's root does
  pub written_holds : (w : Word) (t : ℕ) → NodeHolds (nodes_of (target number nodes) ++ drop (count (target number nodes)) out) (count (target number nodes) - 1) w t ↔ Holds (root nodes) w t
  written_holds w t =
      let h = a.few in
      rw (root_of (target number nodes) (drop (count (target number nodes)) out) target-signals (omega arith)) (form_holds number (root nodes) w t)

  -- none of the nodes written is forbidden
  pub written_clean : forbidden number (take (count (target number nodes)) (nodes_of (target number nodes) ++ drop (count (target number nodes)) out)) ≡ 0
  written_clean =
      let h = a.few in
      let f : Formula = target number nodes in
      ap (forbidden number) (take_at (nodes_of f) (drop (count f) out) (count f) (length_of f)) ∙ none_forbidden number (root nodes) target-signals (omega arith)
