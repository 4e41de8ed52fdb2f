-- A text's answer by stages: refused by its tree, by its declarations, by a line, or by 15 and 16, which come behind all lines.
use Rattle.std.specs.Prelude.{ℕ, ◌≤◌, ◌<◌, List, ◌≡◌}
use Rattle.std.proofs.Math.Option.{none, some}
use Rattle.std.proofs.Math.Path.{ap}
use Rattle.std.proofs.Common.{◌∙◌, le-leb}
use Rattle.std.proofs.lemmas.Bool.{lt-leb}
use Rattle.node.specs.Limits.{max_nodes}
use Rattle.node.specs.Ltl.{Formula}
use Rattle.node.specs.Result.{Result, Done, Refused, ◌>>=◌}
use Rattle.node.proofs.ResultLaws.{guard-pass, guard-stop, bind_refused, bind_to}
use Rattle.node.specs.Written.{count}
use Rattle.language.specs.Tree.{Spec}
use Rattle.language.specs.Places.{refuse_at}
use Rattle.language.specs.Parsing.{parsed}
use Rattle.language.specs.DeclaredNames.{Declarations, declarations}
use Rattle.language.specs.Numbering.{in_order, signal_list, too_many_signals}
use Rattle.language.specs.Lines.{lines}
use Rattle.language.specs.Expansion.{expand}
use Rattle.language.specs.Shifting.{adapted}
use Rattle.language.specs.Reading.{NumberedFormula, spec_expansion, text_expansion}
use Rattle.ending.specs.Endings.{fitted, ended}

module _ (k : NumberedFormula → Result NumberedFormula) where
  -- 15, whatever 16 says
  module _ (x : Spec) (d : Declarations) where
    pub line_refused : {n p : ℕ} → expand x d (lines x d) ≡ Refused n p → (expand x d (lines x d) >>= ended x d) >>= k ≡ Refused n p
    line_refused e = bind_refused _ _ _ k (bind_refused _ _ _ (ended x d) e)

    module _ {f : Formula} (e : expand x d (lines x d) ≡ Done f) where
      lines-done : (expand x d (lines x d) >>= ended x d) >>= k ≡ ended x d f >>= k
      lines-done = ap (λ r. r >>= k) (bind_to _ _ (ended x d) e)

      abbrev rest : Result NumberedFormula
      rest = fitted (adapted x.semantics x.target (signal_list (in_order d)) f) (signal_list (in_order d))

      pub too_many_lem : {p : ℕ} → too_many_signals 0 (in_order d) ≡ some p → (expand x d (lines x d) >>= ended x d) >>= k ≡ Refused 15 p
      unfolding refuse_at
      too_many_lem s = lines-done ∙ bind_refused _ _ _ k (ap (λ o. refuse_at 15 o rest) s)

      pub few_signals_lem : too_many_signals 0 (in_order d) ≡ none → (expand x d (lines x d) >>= ended x d) >>= k ≡ rest >>= k
      unfolding refuse_at
      few_signals_lem s = lines-done ∙ ap (λ r. r >>= k) (ap (λ o. refuse_at 15 o rest) s)

  -- 16
  module _ (f : Formula) (list : List ℕ) where
    pub too_large : max_nodes < count f → fitted f list >>= k ≡ Refused 16 0
    too_large h = bind_refused _ _ _ k (guard-stop 16 0 _ (lt-leb (count f) max_nodes h))

    pub not-too-large : count f ≤ max_nodes → fitted f list >>= k ≡ k (record { formula = f; signals = list })
    not-too-large h = bind_to _ _ k (guard-pass 16 0 _ (le-leb (count f) max_nodes h))

  pub text-refused : (text : List ℕ) {n p : ℕ} → parsed text ≡ Refused n p → text_expansion text >>= k ≡ Refused n p
  unfolding text_expansion
  text-refused text e = bind_refused _ _ _ k (bind_refused _ _ _ spec_expansion e)

  pub text-parsed : (text : List ℕ) {x : Spec} → parsed text ≡ Done x → text_expansion text >>= k ≡ spec_expansion x >>= k
  unfolding text_expansion
  text-parsed text e = ap (λ r. r >>= k) (bind_to _ _ spec_expansion e)

  module _ (x : Spec) where
    pub declarations-refused : {n p : ℕ} → declarations x ≡ Refused n p → spec_expansion x >>= k ≡ Refused n p
    unfolding spec_expansion
    declarations-refused e = bind_refused _ _ _ k (bind_refused _ _ _ (λ d. expand x d (lines x d) >>= ended x d) e)

    pub declarations-done : {d : Declarations} → declarations x ≡ Done d → spec_expansion x >>= k ≡ (expand x d (lines x d) >>= ended x d) >>= k
    unfolding spec_expansion
    declarations-done e = ap (λ r. r >>= k) (bind_to _ _ (λ d. expand x d (lines x d) >>= ended x d) e)
