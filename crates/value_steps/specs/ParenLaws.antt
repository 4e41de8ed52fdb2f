-- A parenthesis is what stands in it, as a value and as a formula.
use Rattle.std.specs.Prelude.{ℕ, ◌-◌, ◌<◌, List, ◌≡◌, refl, Ok}
use Rattle.std.proofs.Common.{sym, ap, ◌∙◌, subst, arith}
use Rattle.std.proofs.Math.Option.{some}
use Rattle.machine.specs.declared.Move.TheVariants.{Next}
use Rattle.language.specs.Tokens.{Token}
use Rattle.language.specs.Tree.{Expr, Paren}
use Rattle.language.specs.Expansion.{Context}
use Rattle.entries.specs.Kinds as Kind
use Rattle.entries.specs.Flat.{flat}
use Rattle.name_values.proofs.KnownLaws.{known-paren}
use Rattle.operands.specs.Classes.{class_of}
use Rattle.operands.specs.ClassLaws.{has_entry}
use Rattle.operands.specs.Operands.{below}
use Rattle.operands.specs.Working.{Source}
use Rattle.machine.specs.Came.{Aim, Evaluate, Expand, works}
use Rattle.machine.specs.Realm.{Operand}
use Rattle.machine.specs.States.{Ready, Steps}
use Rattle.machine.specs.StateLaws.{entered}
use Rattle.machine.specs.EnterLaws.{leads}
use Rattle.machine.specs.Moves.{came}
use Rattle.machine.specs.OperandLaws.{operand-view, operand_as, alongside}
use Rattle.machine.specs.declared.Machine.{Machine}
use Rattle.value_steps.specs.Parens.{Parenthesis}

works-paren : (a : Aim) (c : Context) (t : Token) (e : Expr) → works a c (Paren t e) ≡ works a c e
works-paren Evaluate c t e = refl
works-paren Expand c t e = refl

pub paren-inside : {s : Source} {mem : List ℕ} {m : Machine} → Ready s mem m → Parenthesis s.work m → 0 < m.value
paren-inside {m = m} r k =
    let n = entered r.state k.mode in
    let v = operand-view n.at.operand (ap class_of k.kind) in
    let p = operand_as n.at.operand v.2 in
    let l = below Kind.paren (some v.0) (flat v.1) p.known.at in
    let z = has_entry v.1 (known-paren v.0 v.1 p.known).proper in
    omega arith

pub paren-steps : {s : Source} {mem : List ℕ} {m : Machine} {j : ℕ} → Parenthesis s.work m → j ≡ m.value - 1 → Steps s mem mem m (Ok (Next (came m m.mode j 0)))
paren-steps {s} {m = m} {j} k ej = record {
  turns = λ R x o out h.
      let n = entered h k.mode in
      let v = operand-view n.at.operand (ap class_of k.kind) in
      let t = v.0 in
      let a = v.1 in
      let p = operand_as n.at.operand v.2 in
      let l = below Kind.paren (some t) (flat a) p.known.at in
      let q = alongside p (known-paren t a p.known) in
      let z = has_entry a q.known.proper in
      leads n {j = j} {t = a} (omega arith) (ap (works n.aim n.context) v.2 ∙ works-paren n.aim n.context t a)
      (subst (λ (i : ℕ). Operand s R.W R.ports n.at.env n.context i a) (sym ej) q);
}
