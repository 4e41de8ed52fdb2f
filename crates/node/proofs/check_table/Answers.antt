-- `check_table` meets its contract: where all nodes fit the scan comes to its end, otherwise to the first that does not.
use mathlib.Core.Path.{sym, ◌∙◌}
use borrow.Author.Rules.{rules}
use Rattle.node.specs.Formed.{counted}
use Rattle.node.proofs.TableLaws.{all-scanned, checked-empty, checked_many, checked-scan}
use Rattle.node.proofs.check_table.Goals as goal

pub returns-then-nodes-eq0 : goal.returns-then-nodes-eq0
returns-then-nodes-eq0 c = sym (checked-empty _ _ c.if-nodes-eq0.true)

pub returns-then-nodes-gt-MAX_NODES : goal.returns-then-nodes-gt-MAX_NODES
returns-then-nodes-gt-MAX_NODES c = sym (checked_many _ _ c.if-nodes-gt-MAX_NODES.true)

pub returns-then-all_fit : goal.returns-then-all_fit
returns-then-all_fit c =
    let a = c.args in
    sym (checked-scan a.limit a.nodes.now c.if-nodes-eq0.false c.if-nodes-gt-MAX_NODES.false
    ∙ all-scanned a.limit 0 a.nodes.now (counted a.limit a.nodes.now) (sym c.all_fit.ensures ∙ c.if-all_fit.true))

pub first_misfit-place-requires : goal.first_misfit-place-requires
first_misfit-place-requires c = (search rules, sym c.all_fit.ensures ∙ c.if-all_fit.false)

pub returns : goal.returns
returns c =
    let a = c.args in
    sym (checked-scan a.limit a.nodes.now c.if-nodes-eq0.false c.if-nodes-gt-MAX_NODES.false ∙ c.first_misfit-place.ensures.1)
