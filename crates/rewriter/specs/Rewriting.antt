-- The rewriter's whole answer, and the result buffer after it: document 01, 'Forms' and 'Refusals with their places'. Laws in RewritingLaws.
use Rattle.std.specs.Prelude.{ℕ, List, ◌++◌, length, drop, leb}
use Rattle.node.specs.Limits.{max_nodes, field_limit}
use Rattle.node.specs.Ltl.{Formula}
use Rattle.node.specs.Result.{Result, Done, Refused, ◌>>=◌, guard, Counts}
use Rattle.node.specs.Table.{root, checked}
use Rattle.node.specs.Written.{nodes_of, count}
use Rattle.forms.specs.Forms.{last_form, form}

-- 'the rewriter writes out the root's tree', in the form
abbrev pub target : ℕ → List ℕ → Formula
target number nodes = form number (root nodes)

-- 16: 'more than 8,192 nodes by the definition'; 18: 'result buffer short'; accepted with the form's nodes, no signals being told
unfoldable pub fitting : Formula → ℕ → Result Counts
fitting f room = guard (leb (count f) max_nodes) 16 0 (guard (leb (count f) room) 18 0 (Done (record { nodes = count f; signals = 0 })))

-- 'Rewriter: 21, 19, 16, 18'; 21: 'form not 0, 1, 2'; 19 with any signal number that a field holds
unfoldable pub rewriting : (number : ℕ) (nodes : List ℕ) (room : ℕ) → Result Counts
rewriting number nodes room = guard (leb number last_form) 21 0 (checked field_limit nodes >>= λ _. fitting (target number nodes) room)

-- 'Output is again a postorder tree', 'entries past an accepted result are unchanged'; a refusal writes nothing
abbrev pub leaves : Result Counts → Formula → List ℕ → List ℕ
leaves (Done counts) f out = nodes_of f ++ drop (count f) out
leaves (Refused number place) f out = out

-- the result buffer after the answer
abbrev pub rewritten : (number : ℕ) (nodes out : List ℕ) → List ℕ
rewritten number nodes out = leaves (rewriting number nodes (length out)) (target number nodes) out
