-- How the formula of an entry is made, by the range that its kind lies in.
use Rattle.std.specs.Prelude.{ℕ, ◌≤◌, ◌<◌, false, ◌≡◌, refl}
use Rattle.std.proofs.Common.{arith}
use Rattle.std.proofs.Math.ListN.{get_or-eq_default}
use Rattle.entries.specs.Kinds as Kind
use Rattle.operands.specs.KindLaws.{alike}
use Rattle.operands.specs.Makings.{a_misfit, a_truth, a_unary, a_comparison, a_connective, a_window, makings, making_of}

pub truth_making : (k : ℕ) → Kind.truth ≤ k → k < Kind.index → making_of k ≡ a_truth
truth_making = alike makings a_misfit a_truth Kind.truth Kind.index refl

pub unary_making : (k : ℕ) → Kind.unary ≤ k → k < Kind.arithmetic → making_of k ≡ a_unary
unary_making = alike makings a_misfit a_unary Kind.unary Kind.arithmetic refl

pub comparison_making : (k : ℕ) → Kind.equality ≤ k → k < Kind.membership → making_of k ≡ a_comparison
comparison_making = alike makings a_misfit a_comparison Kind.equality Kind.membership refl

pub connective_making : (k : ℕ) → Kind.binary ≤ k → k < Kind.nexts → making_of k ≡ a_connective
connective_making = alike makings a_misfit a_connective Kind.binary Kind.nexts refl

pub window_making : (k : ℕ) → Kind.window ≤ k → k < Kind.big_numbers → making_of k ≡ a_window
window_making = alike makings a_misfit a_window Kind.window Kind.big_numbers refl

-- no formulas: measures and widths, operators of numbers and sets, sets
pub misfit_measures : (k : ℕ) → Kind.measure ≤ k → k < Kind.unary → making_of k ≡ a_misfit
misfit_measures = alike makings a_misfit a_misfit Kind.measure Kind.unary refl

pub misfit_values : (k : ℕ) → Kind.arithmetic ≤ k → k < Kind.equality → making_of k ≡ a_misfit
misfit_values = alike makings a_misfit a_misfit Kind.arithmetic Kind.equality refl

pub misfit-sets : (k : ℕ) → Kind.binder false ≤ k → making_of k ≡ a_misfit
misfit-sets k h = get_or-eq_default makings a_misfit {n = k} (omega arith)
