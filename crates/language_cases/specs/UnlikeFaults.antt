-- A text that targets the other model and has a fault is refused as the same text with equal models is, by the same number at the same place; only 16, which counts the X
-- nodes, may be its own.
use Rattle.std.specs.Prelude.{ℕ, Bool, ◌≡◌, leb}
use Rattle.std.proofs.Math.Bool.{true, false}
use Rattle.std.proofs.Math.Option.{Option, none, some}
use Rattle.std.proofs.Common.{sym}
use Rattle.node.specs.Limits.{max_nodes}
use Rattle.node.specs.Ltl.{Formula}
use Rattle.node.specs.Result.{Result, Done, Refused, ◌>>=◌, guard}
use Rattle.node.proofs.ResultLaws.{not_done}
use Rattle.node.specs.Written.{count}
use Rattle.language.specs.Tree.{Spec}
use Rattle.language.specs.Places.{refuse_at}
use Rattle.language.specs.DeclaredNames.{Declarations, declarations}
use Rattle.language.specs.Numbering.{in_order, signal_list, too_many_signals}
use Rattle.language.specs.Lines.{lines}
use Rattle.language.specs.Expansion.{expand}
use Rattle.language.specs.Shifting.{adapted}
use Rattle.language.specs.Reading.{NumberedFormula, spec_expansion}

-- the same text, stating the model that it targets
abbrev with_target : Spec → Spec
with_target x = record {
  semantics = x.target;
  strict = x.strict;
  target = x.target;
  target_word = x.target_word;
  parameters = x.parameters;
  definitions = x.definitions;
  main = x.main;
}

-- what is made of a formula, whatever it is converted to
abbrev ended : Declarations → Formula → Result NumberedFormula
ended d g =
    let list = signal_list (in_order d) in
    refuse_at 15 (too_many_signals 0 (in_order d)) (guard (leb (count g) max_nodes) 16 0 (Done (record { formula = g; signals = list })))

module _ (n p : ℕ) (other : n ≡ 16 → ⊥) where
  sized : (b c : Bool) (k l : NumberedFormula) → guard b 16 0 (Done k) ≡ Refused n p → guard c 16 0 (Done l) ≡ Refused n p
  unfolding guard
  sized true c k l e = absurd (not_done (sym e))
  sized false c k l e = absurd (other cc)

  counted : (o : Option ℕ) (r s : Result NumberedFormula) → (r ≡ Refused n p → s ≡ Refused n p) → refuse_at 15 o r ≡ Refused n p → refuse_at 15 o s ≡ Refused n p
  unfolding refuse_at
  counted none r s h e = h e
  counted (some q) r s h e = e

  alike : (d : Declarations) (f g : Formula) → ended d f ≡ Refused n p → ended d g ≡ Refused n p
  alike d f g = counted (too_many_signals 0 (in_order d)) _ _ (sized (leb (count f) max_nodes) (leb (count g) max_nodes) _ _)

  through : {A : Type 0} (r : Result A) (j k : A → Result NumberedFormula) → ((a : A) → j a ≡ Refused n p → k a ≡ Refused n p) → r >>= j ≡ Refused n p → r >>= k ≡ Refused n p
  unfolding ◌>>=◌
  through (Done a) j k h e = h a e
  through (Refused m q) j k h e = e

  pub same-fault : (x : Spec) → spec_expansion x ≡ Refused n p → spec_expansion (with_target x) ≡ Refused n p
  unfolding spec_expansion
  same-fault x =
      through (declarations x) _ _ (λ d. through (expand x d (lines x d)) _ _ (λ f. alike d
      (adapted x.semantics x.target (signal_list (in_order d)) f) (adapted x.target x.target (signal_list (in_order d)) f)))
