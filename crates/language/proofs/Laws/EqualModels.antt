-- 'Files with equal models give the nodes they gave': where the stated model is the targeted one, the answer is that of the text's formula as it was expanded.
use Rattle.std.specs.Prelude.{ℕ, ◌≡◌, refl, leb}
use Rattle.std.proofs.Common.{arith}
use Rattle.node.specs.Limits.{max_nodes}
use Rattle.node.specs.Result.{Result, Done, ◌>>=◌, guard}
use Rattle.node.specs.Written.{count}
use Rattle.language.specs.Tree.{Model, Mealy, Moore, Spec}
use Rattle.language.specs.Places.{refuse_at}
use Rattle.language.specs.DeclaredNames.{declarations}
use Rattle.language.specs.Numbering.{in_order, signal_list, too_many_signals}
use Rattle.language.specs.Lines.{lines}
use Rattle.language.specs.Expansion.{expand}
use Rattle.language.specs.Shifting.{adapted}
use Rattle.language.specs.Reading.{NumberedFormula, spec_expansion}

-- the answer without any conversion
abbrev pub as_expanded : Spec → Result NumberedFormula
as_expanded x =
    declarations x >>= λ d. expand x d (lines x d) >>= λ f.
    refuse_at 15 (too_many_signals 0 (in_order d)) (guard (leb (count f) max_nodes) 16 0 (Done (record { formula = f; signals = signal_list (in_order d) })))

pub equal_models : (x : Spec) → x.semantics ≡ x.target → spec_expansion x ≡ as_expanded x
unfolding spec_expansion
equal_models x e = go x.semantics x.target e
  where
    differ : Mealy ≡ Moore → ⊥
    differ e = let z : ◌≡◌ {A = ℕ} 0 1 = cc in omega arith

    given : Model → Model → Result NumberedFormula
    given m n =
        declarations x >>= λ d. expand x d (lines x d) >>= λ f.
        let list = signal_list (in_order d) in
        let g = adapted m n list f in
        refuse_at 15 (too_many_signals 0 (in_order d)) (guard (leb (count g) max_nodes) 16 0 (Done (record { formula = g; signals = list })))

    go : (m n : Model) → m ≡ n → given m n ≡ as_expanded x
    go Mealy Mealy e = refl
    go Mealy Moore e = absurd (differ e)
    go Moore Mealy e = absurd (differ (let z : Mealy ≡ Moore = cc in z))
    go Moore Moore e = refl
