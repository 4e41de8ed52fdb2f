-- What a pass has carried along, entry by entry.
use Prim.Native.Nat.{ℕ, suc, ◌+◌}
use mathlib.Core.List.{List, [], ◌∷◌}
use Rattle.std.specs.Prelude.{◌≡◌}
use Rattle.std.proofs.Math.Path.{refl, ap}
use Rattle.std.proofs.Common.{sym, ◌∙◌, add-one}
use native.Mathlib.Omega.{arith}
use Rattle.std.proofs.Math.ListN.{length}
use Rattle.entries.specs.Flat.{Entry}
use Rattle.traversal.specs.declared.Cell.{Cell}
use Rattle.traversal.specs.PassLaws.{run}
use Rattle.traversal.specs.Passed.{passed}

module _ {State : Type 0} (step : Cell → State → State) (cell : ℕ → Cell) (s : State) where
  pub passed_none : passed step cell s 0 ≡ s
  unfolding passed
  passed_none = refl

  pub passed-more : (i : ℕ) → passed step cell s (i + 1) ≡ step (cell i) (passed step cell s i)
  unfolding passed
  passed-more i = ap (passed step cell s) (add-one i)

  run-passed : (es : List Entry) (i : ℕ) → run step cell es i (passed step cell s i) ≡ passed step cell s (i + length es)
  unfolding passed
  run-passed [] i = let k : i ≡ i + 0 = omega arith in ap (passed step cell s) k
  run-passed (e ∷ es) i = let k : suc i + length es ≡ i + suc (length es) = omega arith in run-passed es (suc i) ∙ ap (passed step cell s) k

  pub passed-all : (es : List Entry) (n : ℕ) → n ≡ length es → passed step cell s n ≡ run step cell es 0 s
  passed-all es n e =
      let k : n ≡ 0 + length es = omega arith in
      ap (passed step cell s) k ∙ sym (run-passed es 0) ∙ ap (run step cell es 0) passed_none
