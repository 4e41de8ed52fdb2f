-- `names::walk::visit` meets its contract: the entry's kind decides what is done.
use mathlib.Core.Path.{refl, sym, ap, ◌∙◌}
use Rattle.entries.specs.Kinds as Kind
use Rattle.names.specs.Roles as Roles
use Rattle.names.proofs.WalkEntries.{walk-quiet}
use Rattle.names.proofs.walk.visit.Goals as goal

pub use_name-requires : goal.use_name-requires
use_name-requires c =
    let kind_at_lem = c.kind_at-kind in
    (c.requires, ap Roles.uses (sym kind_at_lem.ensures) ∙ sym c.uses.ensures ∙ c.if-uses.true)

pub bind_name-requires : goal.bind_name-requires
bind_name-requires c =
    let kind_at_lem = c.kind_at-kind in
    (c.requires, ap Roles.binds (sym kind_at_lem.ensures) ∙ sym c.binds.ensures ∙ c.if-binds.true)

pub end_name-requires : goal.end_name-requires
end_name-requires c =
    let kind_at_lem = c.kind_at-kind in
    (c.requires, ap Roles.ends (sym kind_at_lem.ensures) ∙ sym c.ends.ensures ∙ c.if-ends.true)

pub declare_name-requires : goal.declare_name-requires
declare_name-requires c =
    let kind_at_lem = c.kind_at-kind in
    (c.requires, ap (Roles.declares Kind.parameter) (sym kind_at_lem.ensures) ∙ sym c.declares.ensures ∙ c.if-declares.true)

pub returns : goal.returns
returns c =
    let kind_at_lem = c.kind_at-kind in
    let uses = c.uses in
    record {
      next = refl;
      walking = λ h d s. walk-quiet h _ c.requires.inside kind_at_lem.ensures d s (sym uses.ensures ∙ c.if-uses.false) (sym c.binds.ensures ∙ c.if-binds.false)
          (sym c.ends.ensures ∙ c.if-ends.false) (sym c.declares.ensures ∙ c.if-declares.false);
    }
