-- `names::declare::declare_one` meets its contract: the table and the place with one entry more.
use Prim.Native.Nat.{min}
use mathlib.Core.Path.{sym, ap, ◌∙◌}
use Rattle.names.proofs.MeetingLaws.{met-other, met-more}
use Rattle.names.proofs.declare.declare_one.Goals as goal

pub returns-then-not-declares : goal.returns-then-not-declares
returns-then-not-declares c =
    λ h m. met-other h _ c.requires.2 _ c.requires.1 c.kind_at-kind.ensures m (sym c.declares.ensures ∙ c.if-not-declares.true)

pub returns : goal.returns
returns c =
    λ h m. met-more h _ c.requires.2 _ c.requires.1 c.kind_at-kind.ensures m (sym c.declares.ensures ∙ c.if-not-declares.false)
    c.name_at-at.ensures c.from-seen.ensures c.min.ensures (c.min-2.ensures ∙ ap (min _) c.max.ensures)
