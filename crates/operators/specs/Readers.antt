-- The grammar's readers of expressions with fuel that is always enough, in the form in which the frames of the parser's stack use them.
use Rattle.std.specs.Prelude.{ℕ, zero, suc, true, false, eqb, length}
use Rattle.std.proofs.Math.Option.{Option, none, some}
use Rattle.node.specs.Operators.{And, X, F, G}
use Rattle.node.specs.Result.{Done, ◌>>=◌}
use Rattle.language.specs.Tokens.{Token}
use Rattle.language.specs.Operators.{
  Window,
  FinallyIn,
  GloballyIn,
  Big,
  BigSum,
  Infix,
  Connects,
  Prefix,
  WidthOf,
  Applies,
  Role,
  Plain,
  Counted,
  Windowed,
  Folding,
  InfixRow,
  infixes,
  PrefixRow,
  prefixes,
  loosest,
}
use Rattle.language.specs.Tree.{Expr, Empty, Element}
use Rattle.language.specs.Grammar.{Tokens, Read, Reader, rest, stop, next, infix_of, prefix_of, climb, expr, binders_of, over}

-- an expression whose operators have levels up to `max`
unfoldable pub reads : Reader
reads max ts = expr (suc (length ts)) max ts

-- e, and the operators of levels up to `max` after it
unfoldable pub climbs : ℕ → Expr → Tokens → Read Expr
climbs max e ts = climb (suc (length ts)) reads max e ts

-- Table 1's rows of a token
unfoldable pub infix_row : Token → Option InfixRow
infix_row t = infix_of infixes t

unfoldable pub prefix_row : Token → Option PrefixRow
prefix_row t = prefix_of prefixes t

-- what a token that is an operator stands for; what other tokens are given plays no part
abbrev pub operator_in : Option InfixRow → Infix
operator_in none = Connects And
operator_in (some r) = r.operator

abbrev pub level_in : Option PrefixRow → ℕ
level_in none = 0
level_in (some r) = r.level

abbrev pub sole_of : Role → Prefix
sole_of (Plain p) = p
sole_of Counted = Applies X
sole_of (Windowed FinallyIn) = Applies F
sole_of (Windowed GloballyIn) = Applies G
sole_of (Folding o) = WidthOf

abbrev pub window_of : Role → Window
window_of (Plain p) = FinallyIn
window_of Counted = FinallyIn
window_of (Windowed o) = o
window_of (Folding o) = FinallyIn

abbrev pub big_of : Role → Big
big_of (Plain p) = BigSum
big_of Counted = BigSum
big_of (Windowed o) = BigSum
big_of (Folding o) = o

abbrev pub role_in : Option PrefixRow → Role
role_in none = Counted
role_in (some r) = r.role

unfoldable pub operator_at : Token → Infix
operator_at t = operator_in (infix_row t)

unfoldable pub level_at : Token → ℕ
level_at t = level_in (prefix_row t)

unfoldable pub role_at : Token → Role
role_at t = role_in (prefix_row t)

-- the elements of a set from e on, up to where none follows; f bounds their number
abbrev pub elements_from : ℕ → Expr → Tokens → Read Expr
elements_from zero e ts = stop ts
elements_from (suc f) e ts =
    elim (next "," ts) [
      | true ↦ reads loosest (rest ts) >>= λ (x, us). elements_from f x us >>= λ (es, vs). Done (Element e es, vs)
      | false ↦ Done (Element e Empty, ts)
    ]

unfoldable pub listed : Expr → Tokens → Read Expr
listed e ts = elements_from (suc (length ts)) e ts

-- the names of a big operator t from here on, then its operand; only a name after the first is read at level 0
unfoldable pub folds : ℕ → Token → Tokens → Read Expr
folds max t ts =
    binders_of (suc (length ts)) reads ts >>= λ (bs, us). reads (level_at t) us >>= λ (e, vs). climbs max (over t (big_of (role_at t)) (eqb max 0) bs e) vs
