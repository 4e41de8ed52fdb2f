-- `names::numbering::number_one` meets its contract: the table and the tally with one entry more.
use mathlib.Core.Path.{sym, ◌∙◌}
use native.Mathlib.Omega.{arith}
use Rattle.names.proofs.NumberingLaws.{numbered_other, numbered-name, numbered-first, numbered-behind}
use Rattle.names.proofs.numbering.number_one.Goals as goal

pub returns-then-not-declares : goal.returns-then-not-declares
returns-then-not-declares c =
    (λ h n. numbered_other h _ c.requires.1 c.kind_at-kind.ensures n (sym c.declares.ensures ∙ c.if-not-declares.true), omega arith)

pub returns-then-count-lt-MAX_NAMES : goal.returns-then-count-lt-MAX_NAMES
returns-then-count-lt-MAX_NAMES c = (
  λ h n. numbered-name h _ c.requires.1 c.kind_at-kind.ensures (sym c.declares.ensures ∙ c.if-not-declares.false) n c.name_at-at.ensures
      c.if-count-lt-MAX_NAMES.true c.requires.4,
  omega arith,
)

pub returns-then-count-eq-MAX_NAMES : goal.returns-then-count-eq-MAX_NAMES
returns-then-count-eq-MAX_NAMES c = (
  λ h n. numbered-first h _ c.requires.1 c.kind_at-kind.ensures (sym c.declares.ensures ∙ c.if-not-declares.false) n c.name_at-at.ensures
      c.if-count-eq-MAX_NAMES.true,
  omega arith,
)

pub returns : goal.returns
returns c = (
  λ h n. numbered-behind h _ c.requires.1 c.kind_at-kind.ensures (sym c.declares.ensures ∙ c.if-not-declares.false) n c.name_at-at.ensures
      (omega arith),
  omega arith,
)
