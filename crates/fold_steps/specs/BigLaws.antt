-- Big operators by the kinds of their entries and their codes; their set and their operand.
use Rattle.std.specs.Prelude.{ℕ, ◌+◌, ◌-◌, ◌≤◌, ◌<◌, Bool, true, false, List, ◌∷◌, ◌++◌, ◌≡◌, refl, ltb, eqb}
use Rattle.std.proofs.Math.Option.{some}
use Rattle.std.proofs.Common.{◌∙◌, subst, arith, length-append, lt-ltb, le-ltb, eq-eqb, ne_eqb}
use Rattle.node.specs.Ltl.{Formula}
use Rattle.node.specs.Result.{Result, Done}
use Rattle.language.specs.Limits.{max_number}
use Rattle.language.specs.Bytes.{same}
use Rattle.language.specs.Tokens.{Token}
use Rattle.language.specs.Operators.{Times, Cup, Big, BigSum, BigProduct, BigCap, BigCup, BigAnd, BigOr}
use Rattle.language.specs.Tree.{Expr, Each}
use Rattle.language.specs.Values.{Value, Number, Set, misfit}
use Rattle.language.specs.DeclaredNames.{Port}
use Rattle.language.specs.Expansion.{Context, at}
use Rattle.language.proofs.Laws.Basics.Tests.{pick, leave}
use Rattle.entries.specs.Kinds as Kind
use Rattle.entries.specs.Flat.{under, flat}
use Rattle.spellings.specs.Interned.{Lexed}
use Rattle.name_values.specs.World.{World}
use Rattle.name_values.proofs.KnownLaws.{own-more, known-each}
use Rattle.operators.specs.Codes.{arithmetic_code, combination_code, big_code}
use Rattle.operands.specs.Entries.{size_at}
use Rattle.operands.specs.ClassLaws.{has_entry, size_is}
use Rattle.operands.specs.Operands.{below}
use Rattle.operands.specs.Working.{Source}
use Rattle.machine.specs.Realm.{Plain, Operand}
use Rattle.machine.specs.Operators.{Folds, OpAt}
use Rattle.machine.specs.OperatorLaws.{each_at}
use Rattle.machine.specs.Stack.{OfNumbers, OfSets, OfFormulas}
use Rattle.machine.specs.OperandLaws.{alongside}
use Rattle.fold_steps.specs.Bigs.{big_by}

-- the operator by kind and code
pub big_by_lem : (o : Big) → Kind.big o < Kind.big_formulas → big_by (Kind.big o) (big_code o) ≡ o
big_by_lem BigSum l = refl
big_by_lem BigProduct l = refl
big_by_lem BigCap l = refl
big_by_lem BigCup l = refl
big_by_lem BigAnd l = absurd (omega arith)
big_by_lem BigOr l = absurd (omega arith)

-- as the code finds it
module _ {kind code : ℕ} where
  pub by_product : kind < Kind.big_sets → code ≡ arithmetic_code Times → big_by kind code ≡ BigProduct
  by_product l e = pick (ltb kind Kind.big_sets) _ _ (lt-ltb kind Kind.big_sets l) ∙ pick (eqb code (arithmetic_code Times)) _ _ (eq-eqb code (arithmetic_code Times) e)

  pub by_sum : kind < Kind.big_sets → (code ≡ arithmetic_code Times → ⊥) → big_by kind code ≡ BigSum
  by_sum l e = pick (ltb kind Kind.big_sets) _ _ (lt-ltb kind Kind.big_sets l) ∙ leave (eqb code (arithmetic_code Times)) _ _ (ne_eqb code (arithmetic_code Times) e)

  pub by_cup : Kind.big_sets ≤ kind → code ≡ combination_code Cup → big_by kind code ≡ BigCup
  by_cup l e = leave (ltb kind Kind.big_sets) _ _ (le-ltb kind Kind.big_sets l) ∙ pick (eqb code (combination_code Cup)) _ _ (eq-eqb code (combination_code Cup) e)

  pub by_cap : Kind.big_sets ≤ kind → (code ≡ combination_code Cup → ⊥) → big_by kind code ≡ BigCap
  by_cap l e = leave (ltb kind Kind.big_sets) _ _ (le-ltb kind Kind.big_sets l) ∙ leave (eqb code (combination_code Cup)) _ _ (ne_eqb code (combination_code Cup) e)

-- operators of numbers, of sets, of formulas
pub of_numbers : (o : Big) → Kind.big o < Kind.big_sets → OfNumbers o
of_numbers BigSum l = tt
of_numbers BigProduct l = tt
of_numbers BigCap l = omega arith
of_numbers BigCup l = omega arith
of_numbers BigAnd l = omega arith
of_numbers BigOr l = omega arith

pub of_sets : (o : Big) → Kind.big_sets ≤ Kind.big o → Kind.big o < Kind.big_formulas → OfSets o
of_sets BigSum l u = omega arith
of_sets BigProduct l u = omega arith
of_sets BigCap l u = tt
of_sets BigCup l u = tt
of_sets BigAnd l u = omega arith
of_sets BigOr l u = omega arith

pub of_formulas : (o : Big) → Kind.big_formulas ≤ Kind.big o → OfFormulas o
of_formulas BigSum l = omega arith
of_formulas BigProduct l = omega arith
of_formulas BigCap l = omega arith
of_formulas BigCup l = omega arith
of_formulas BigAnd l = tt
of_formulas BigOr l = tt

-- the operator's name stands for a number, and for no formula
abbrev NoFormula : Result Value → Result Formula → Type 0
NoFormula v f = ((n : ℕ) → v ≡ Done (Number n) → f ≡ misfit) × ((l : List ℕ) → v ≡ Done (Set l) → f ≡ misfit)

plain_at : (c : Context) → Plain c → (i : Token) (v : ℕ) → Plain (at c i v)
plain_at c h i v = record { number = λ t n. (go t (same i.text t.text)).0 n; set = λ t l. (go t (same i.text t.text)).1 l }
  where
    go : (t : Token) (b : Bool) → NoFormula (elim b [ true ↦ Done (Number v) | false ↦ c.values t ]) (elim b [ true ↦ misfit | false ↦ c.formulas t ])
    go t true = ((λ n e. refl), λ l e. refl)
    go t false = (h.number t, h.set t)

-- the set's expression stands before the binder's entry, the operand's at the entry before the operator's, at every element
pub record Parts (s : Source) (W : World) (ps : List Port) (env : List ℕ) (c : Context) (k : ℕ) (t : Token) (o : Big) (i : Token) (x a : Expr) : Type 0 where
  pub set : Operand s W ps env c (k - 2 - size_at s.work (k - 1)) x
  pub each : (v : ℕ) → v ≤ max_number → Operand s W ps (v ∷ env) (at c i v) (k - 1) a
  pub inside : 2 + size_at s.work (k - 1) ≤ k
  pub here : (count : ℕ) → Lexed s.text s.work count → OpAt s k (Folds o) t.at

pub parts_of : {s : Source} {W : World} {ps : List Port} {env : List ℕ} {c : Context} {k : ℕ} (t : Token) (o : Big) (further : Bool) (i : Token) (x a : Expr)
    → Operand s W ps env c k (Each t o further i x a) → Parts s W ps env c k t o i x a
parts_of {s} {W} {ps} {env} {c} {k} t o further i x a p =
    let d = known-each t o further i x a p.known in
    let b = under (Kind.binder further) (some i) (flat x) in
    let l = below (Kind.big o) (some t) (b ++ flat a) p.known.at in
    let ma = has_entry a (d.2 0).proper in
    let mx = has_entry x d.0.proper in
    let a1 = length-append b (flat a) in
    let a2 = own-more (Kind.binder further) (some i) (flat x) in
    let sa = size_is a ma (d.2 0).at in
    record {
      set = subst (λ (j : ℕ). Operand s W ps env c j x) (omega arith) (alongside p d.0);
      each = λ v u. record { known = d.2 v; small = (u, p.small); ports = p.ports; plain = plain_at c p.plain i v };
      inside = omega arith;
      here = λ n z. each_at z t o further i x a p;
    }
