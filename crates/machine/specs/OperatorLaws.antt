-- The operator at an entry: that of the expression which stands there; and as the code computes it from the number of the entry's token.
use Rattle.std.specs.Prelude.{ℕ, ◌<◌, Bool, List, ◌++◌, ◌≡◌, refl}
use Rattle.std.proofs.Math.Option.{some}
use Rattle.std.proofs.Common.{ap, ◌∙◌, arith}
use Rattle.node.specs.Operators.{Unary, Not, X, G, F, Binary, And, Or, Implies, Iff, U, R, W}
use Rattle.node.specs.Kinds.{unary_kind, binary_kind}
use Rattle.language.specs.Tokens.{Token, tokens}
use Rattle.language.specs.Operators.{
  Arithmetic,
  Plus,
  Minus,
  Times,
  Divide,
  Modulo,
  Measure,
  Size,
  Min,
  Max,
  Combination,
  Cup,
  Cap,
  Without,
  Comparison,
  Equal,
  Unequal,
  Less,
  AtMost,
  Greater,
  AtLeast,
  Big,
  Window,
  Infix,
  Calculates,
  Combines,
  Compares,
  Prefix,
  Measures,
}
use Rattle.language.specs.Tree.{Expr, Prefixed, Joined, InWindow, Each, Between as BetweenOf, Range}
use Rattle.language.specs.DeclaredNames.{Port}
use Rattle.language.specs.Expansion.{Context}
use Rattle.entries.specs.Kinds as Kind
use Rattle.entries.specs.Flat.{Entry, under, flat}
use Rattle.entries.specs.Stored.{EndsAt}
use Rattle.spellings.specs.Interned.{Lexed}
use Rattle.name_values.specs.World.{World}
use Rattle.sets.specs.Operators.{arithmetic, combination, comparison, measurement}
use Rattle.operators.specs.Codes.{arithmetic_code, combination_code, comparison_code, measure_code}
use Rattle.operators.specs.Tables.{infix_code_at, prefix_code_at}
use Rattle.operands.specs.Entries.{number_at}
use Rattle.operands.specs.ClassLaws.{kind_of_lem, place_is}
use Rattle.operands.specs.SpellingLaws.{infix_is, prefix_is, window-is, big-is, sign-is}
use Rattle.operands.specs.Working.{Source}
use Rattle.machine.specs.Realm.{Operand}
use Rattle.machine.specs.Operators.{Operator, Before, Between, Bounds, Stepping, Folds, Within, kind_of, Spelt, OpAt}

module _ {s : Source} {count : ℕ} (x : Lexed s.text s.work count) {k : ℕ} where
  operator_at_lem : (o : Operator) (t : Token) (es : List Entry) → EndsAt s.work (tokens s.text) k (under (kind_of o) (some t) es) → Spelt (number_at s.work k) o → OpAt s k o t.at
  operator_at_lem o t es h e = record { kind = kind_of_lem (kind_of o) (some t) es h; place = place_is x (kind_of o) t es h; spelt = e }

  module _ {W : World} {ps : List Port} {env : List ℕ} {c : Context} where
    pub prefixed-at : (t : Token) (o : Prefix) (e : Expr) → Operand s W ps env c k (Prefixed t o e) → OpAt s k (Before o) t.at
    prefixed-at t o e p = let h = p.known in operator_at_lem (Before o) t (flat e) h.at (prefix_is x (Kind.before o) t (flat e) h.at h.proper.0.1)

    pub joined_at : (t : Token) (o : Infix) (a b : Expr) → Operand s W ps env c k (Joined t o a b) → OpAt s k (Between o) t.at
    joined_at t o a b p =
        let h = p.known in
        let es = flat a ++ flat b in
        operator_at_lem (Between o) t es h.at (infix_is x (Kind.joining o) t es h.at h.proper.0.1)

    pub bounds-at : (t : Token) (l u : Bool) (a b : Expr) → Operand s W ps env c k (BetweenOf t l u a b) → OpAt s k (Bounds l u) t.at
    bounds-at t l u a b p =
        let h = p.known in
        let es = flat a ++ flat b in
        operator_at_lem (Bounds l u) t es h.at (sign-is x (Kind.between u) t es h.at h.proper.0.1)

    pub range_at : (t : Token) (a b d : Expr) → Operand s W ps env c k (Range t a b d) → OpAt s k Stepping t.at
    range_at t a b d p = operator_at_lem Stepping t (flat a ++ (flat b ++ flat d)) p.known.at tt

    pub window-at : (t : Token) (o : Window) (a b d : Expr) → Operand s W ps env c k (InWindow t o a b d) → OpAt s k (Within o) t.at
    window-at t o a b d p =
        let h = p.known in
        let es = flat a ++ (flat b ++ flat d) in
        operator_at_lem (Within o) t es h.at (window-is x Kind.window t es h.at h.proper.0.1)

    pub each_at : (t : Token) (o : Big) (further : Bool) (i : Token) (a e : Expr) → Operand s W ps env c k (Each t o further i a e) → OpAt s k (Folds o) t.at
    each_at t o further i a e p =
        let h = p.known in
        let es = under (Kind.binder further) (some i) (flat a) ++ flat e in
        operator_at_lem (Folds o) t es h.at (big-is x (Kind.big o) t es h.at h.proper.0.1)

-- operators of numbers and sets by their codes
arithmetic_of : (o : Arithmetic) → arithmetic (arithmetic_code o) ≡ o
arithmetic_of Plus = refl
arithmetic_of Minus = refl
arithmetic_of Times = refl
arithmetic_of Divide = refl
arithmetic_of Modulo = refl

combination_of : (o : Combination) → combination (combination_code o) ≡ o
combination_of Cup = refl
combination_of Cap = refl
combination_of Without = refl

pub comparison_of : (o : Comparison) → comparison (comparison_code o) ≡ o
comparison_of Equal = refl
comparison_of Unequal = refl
comparison_of Less = refl
comparison_of AtMost = refl
comparison_of Greater = refl
comparison_of AtLeast = refl

measure_of : (o : Measure) → measurement (measure_code o) ≡ o
measure_of Size = refl
measure_of Min = refl
measure_of Max = refl

module _ {s : Source} {k p : ℕ} where
  pub op_arithmetic : {o : Arithmetic} → OpAt s k (Between (Calculates o)) p → arithmetic (infix_code_at (number_at s.work k)) ≡ o
  op_arithmetic {o} h = ap arithmetic h.spelt ∙ arithmetic_of o

  pub op_combination : {o : Combination} → OpAt s k (Between (Combines o)) p → combination (infix_code_at (number_at s.work k)) ≡ o
  op_combination {o} h = ap combination h.spelt ∙ combination_of o

  pub op_comparison : {o : Comparison} → OpAt s k (Between (Compares o)) p → comparison (infix_code_at (number_at s.work k)) ≡ o
  op_comparison {o} h = ap comparison h.spelt ∙ comparison_of o

  pub op_measure : {o : Measure} → OpAt s k (Before (Measures o)) p → measurement (prefix_code_at (number_at s.work k)) ≡ o
  op_measure {o} h = ap measurement h.spelt ∙ measure_of o

-- the code of an operator of formulas is its nodes' kind, of four bits
pub unary-small : (o : Unary) → unary_kind o < 16
unary-small Not = omega arith
unary-small X = omega arith
unary-small G = omega arith
unary-small F = omega arith

pub binary-small : (o : Binary) → binary_kind o < 16
binary-small And = omega arith
binary-small Or = omega arith
binary-small Implies = omega arith
binary-small Iff = omega arith
binary-small U = omega arith
binary-small R = omega arith
binary-small W = omega arith
