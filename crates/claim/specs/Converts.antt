-- What `convert` promises, demand 3 whole: the answer and the buffers that the definition gives; and so, of what stands in the lent buffers, that the text's own
-- meaning and the form's root hold at exactly the same positions of every word, that the form forbids none of the nodes, and that a form that fits is refused by 18 only.
use Rattle.std.specs.Prelude.{ℕ, ◌≤◌, ◌≡◌, List, length, Ok}
use Rattle.node.specs.Limits.{max_nodes}
use Rattle.node.specs.Result.{Done}
use Rattle.node.specs.Written.{count}
use Rattle.node.specs.Answer.{Answer, says}
use Rattle.forms.specs.Forms.{form}
use Rattle.language.specs.Limits.{work_bytes}
use Rattle.language.specs.Reading.{NumberedFormula, text_expansion, delivered}
use Rattle.claim.specs.Claim.{Demand3}
use Rattle.claim.specs.Yields.{told, Yields}
use Rattle.claim.specs.Converting.{in_form, conversion}

pub record Converts (text : List ℕ) (number : ℕ) (work nodes signals work' nodes' signals' : List ℕ) (r : Answer) : Type 0 where
  -- accepted or refused as the definition says, and every buffer is the definition's
  pub yields : Yields (conversion text number work nodes signals) work nodes signals work' nodes' signals' r
  -- accepted: demand 3 on what stands in the lent buffers, by the counts told
  pub demand : (n s : ℕ) → r ≡ Ok (n, s) → Demand3 text number nodes' signals' n s
  -- 'A form fits if its definition gives at most 8,192 nodes; then only 18 refuses it': of an accepted text, given a work buffer that is long enough
  pub fits : (c : NumberedFormula) → text_expansion text ≡ Done c → number ≤ 2 → count (form number c.formula) ≤ max_nodes → work_bytes ≤ length work
      → says r ≡ told (delivered (length nodes) (length signals) (in_form number c))
