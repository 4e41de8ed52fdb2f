-- An entry of a kind: what it is worked out to, as a value or as a formula; the expression that stands there.
use Rattle.std.specs.Prelude.{ℕ, List, ◌≡◌}
use Rattle.std.proofs.Common.{sym, ap, ◌∙◌, subst}
use Rattle.node.specs.Result.{Result, ◌>>=◌}
use Rattle.language.specs.Tree.{Expr}
use Rattle.language.specs.Values.{value}
use Rattle.language.specs.DeclaredNames.{Port}
use Rattle.language.specs.Expansion.{Context, expansion}
use Rattle.name_values.specs.World.{World}
use Rattle.operands.specs.Entries.{kind_at}
use Rattle.operands.specs.ClassLaws.{expr-kind}
use Rattle.operands.specs.Working.{Source}
use Rattle.operands.specs.Makings.{Making, making_of, View, view}
use Rattle.machine.specs.Came.{Aim, Evaluate, Expand, Came, worth, nodes, works}
use Rattle.machine.specs.Realm.{Operand, Realm}
use Rattle.machine.specs.Table.{Began}
use Rattle.machine.specs.States.{mode_of}
use Rattle.machine.specs.StateLaws.{Entered, aim_evaluate, aim_expand}
use Rattle.machine.specs.declared.Machine.{Machine}

pub works-value : {s : Source} {R : Realm s} {mem out : List ℕ} {m : Machine} {x : Result Came} {o : Began} (h : Entered R mem out m x o) → m.mode ≡ mode_of Evaluate
    → works h.aim h.context h.tree ≡ (value h.context.values h.tree >>= worth)
works-value h e = ap (λ (a : Aim). works a h.context h.tree) (aim_evaluate h.aim (sym h.at.mode ∙ e))

pub works-formula : {s : Source} {R : Realm s} {mem out : List ℕ} {m : Machine} {x : Result Came} {o : Began} (h : Entered R mem out m x o) → m.mode ≡ mode_of Expand
    → works h.aim h.context h.tree ≡ (expansion h.context h.tree >>= nodes)
works-formula h e = ap (λ (a : Aim). works a h.context h.tree) (aim_expand h.aim (sym h.at.mode ∙ e))

-- the expression of an entry that is a formula's
pub operand_making : {s : Source} {W : World} {ps : List Port} {env : List ℕ} {c : Context} {k : ℕ} {e : Expr} → Operand s W ps env c k e → {z : Making} → making_of (kind_at s.work k) ≡ z → View z e
operand_making {e = e} p h = subst (λ (y : Making). View y e) (sym (ap making_of (expr-kind e p.known.proper p.known.at)) ∙ h) (view e)
