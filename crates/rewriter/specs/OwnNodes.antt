-- A formula's own nodes are a table of the format (node/WrittenLaws). So of the reader's nodes 'a form fits if its definition gives at most 8,192 nodes; then only 18
-- refuses it' (document 01, 'Forms').
use Rattle.std.specs.Prelude.{ℕ, ◌≤◌, ◌≡◌}
use Rattle.std.proofs.Common.{ap, ◌∙◌, arith}
use Rattle.node.specs.Limits.{max_nodes, field_limit}
use Rattle.node.specs.Ltl.{Formula}
use Rattle.node.specs.Postorder.{SignalsBelow}
use Rattle.node.specs.Written.{nodes_of, count}
use Rattle.node.proofs.WrittenLaws.{table_of, table-root}
use Rattle.forms.specs.Forms.{form}
use Rattle.rewriter.specs.Rewriting.{fitting, rewriting}
use Rattle.rewriter.specs.RewritingLaws.{rewriting_fit}

-- so a form of them is refused by its size alone
pub own-rewriting : (number : ℕ) (f : Formula) (room : ℕ) → number ≤ 2 → SignalsBelow field_limit f → count f ≤ max_nodes
    → rewriting number (nodes_of f) room ≡ fitting (form number f) room
own-rewriting number f room h s l =
    rewriting_fit number (nodes_of f) room h (table_of field_limit f (omega arith) s l) ∙ ap (λ (g : Formula). fitting (form number g) room) (table-root f s l)
