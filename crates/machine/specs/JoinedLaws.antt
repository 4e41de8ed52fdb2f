-- An operator between two expressions: where its operands stand.
use Rattle.std.specs.Prelude.{ℕ, List, ◌≡◌}
use Rattle.language.specs.Tokens.{Token}
use Rattle.language.specs.Operators.{Infix}
use Rattle.language.specs.Tree.{Expr, Joined}
use Rattle.language.specs.Expansion.{Context}
use Rattle.entries.specs.Kinds as Kind
use Rattle.name_values.proofs.KnownLaws.{known_joined}
use Rattle.operands.specs.Working.{Source}
use Rattle.machine.specs.Realm.{Operand, Realm}
use Rattle.machine.specs.Operators.{Between, OpAt}
use Rattle.machine.specs.OperatorLaws.{joined_at}
use Rattle.machine.specs.OperandLaws.{operand_as, Two, two_operands}

module _ {s : Source} (R : Realm s) {env : List ℕ} {c : Context} {k : ℕ} {e : Expr} (p : Operand s R.W R.ports env c k e) {o : Infix} {t : Token} {a b : Expr} (q : e ≡ Joined t o a b) where
  pub joined-known : Operand s R.W R.ports env c k (Joined t o a b)
  joined-known = operand_as p q

  pub joined-two : Two joined-known a b
  joined-two = two_operands joined-known (Kind.joining o) t a b joined-known.known.at (known_joined t o a b joined-known.known)

  pub joined_op : OpAt s k (Between o) t.at
  joined_op = joined_at R.lexed t o a b joined-known
