-- `assemble` meets its contract: lines that do not fit the table make no formula that does; those that fit are put together by the operators of the layout.
use mathlib.Core.Path.{refl}
use native.Mathlib.Omega.{arith}
use Rattle.node.specs.Operators.{And, Implies}
use Rattle.language.specs.Tree.{Initially}
use Rattle.language.specs.Expansion.{section}
use Rattle.assembly.specs.LayoutLaws.{assembled}
use Rattle.assembly.specs.WholeLaws.{assembled_many}
use Rattle.assembly.proofs.assemble.Goals as goal

pub returns-then-m-gt-MAX_NODES : goal.returns-then-m-gt-MAX_NODES
returns-then-m-gt-MAX_NODES c =
    λ ss g. assembled_many c.args.strict ss g (omega arith) (omega arith)

pub section-i-requires : goal.section-i-requires
section-i-requires c =
    record { some = c.requires.some; lined = c.requires.gathered.lined (omega arith) }

pub preset-p-requires : goal.preset-p-requires
preset-p-requires c =
    record { some = c.requires.some; lined = c.requires.gathered.lined (omega arith) }

pub assumed-a-requires : goal.assumed-a-requires
assumed-a-requires c =
    record { some = c.requires.some; lined = c.requires.gathered.lined (omega arith) }

pub promised-g-requires : goal.promised-g-requires
promised-g-requires c =
    record { some = c.requires.some; lined = c.requires.gathered.lined (omega arith) }

pub returns : goal.returns
returns c =
    λ ss g.
    let l = g.lined (omega arith) in
    let v = c.join-implied.ensures.wrote Implies refl (c.assumed-a.ensures ss l) (c.promised-g.ensures ss l) in
    let w = c.join-rest.ensures.wrote And refl (c.preset-p.ensures ss l) v in
    assembled c.args.strict (section ss) (c.join.ensures.wrote Implies refl (c.section-i.ensures Initially refl ss l) w)
