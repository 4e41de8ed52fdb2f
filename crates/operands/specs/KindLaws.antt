-- The class of a kind by the range that it lies in.
use Rattle.std.specs.Prelude.{ℕ, ◌+◌, ◌-◌, ◌≤◌, ◌<◌, false, List, ◌≡◌, refl, get_or, take, drop, replicate}
use Rattle.std.proofs.Common.{sym, ap, ◌∙◌, arith, get_or-take, get_or-drop}
use Rattle.std.proofs.lemmas.List.{get_or-replicate}
use Rattle.entries.specs.Kinds as Kind
use Rattle.operands.specs.Classes.{a_formula, a_measure, a_calculation, a_combination, a_big, a_between, a_range, classes, class_of}

-- the entries of a list that are the same, from the one at a on up to that at b
pub alike : {A : Type 0} (l : List A) (d z : A) (a b : ℕ) → take (b - a) (drop a l) ≡ replicate (b - a) z → (k : ℕ) → a ≤ k → k < b → get_or l k d ≡ z
alike l d z a b e k h u =
    let j = k - a in
    let c : j < b - a = omega arith in
    let i : k ≡ a + j = omega arith in
    ap (λ (y : ℕ). get_or l y d) i ∙ sym (get_or-drop a l j d) ∙ sym (get_or-take (b - a) (drop a l) j d c) ∙ ap (λ m. get_or m j d) e ∙ get_or-replicate (b - a) j z d c

pub measure-class : (k : ℕ) → Kind.measure ≤ k → k < Kind.width → class_of k ≡ a_measure
measure-class = alike classes a_range a_measure Kind.measure Kind.width refl

pub calculation_class : (k : ℕ) → Kind.arithmetic ≤ k → k < Kind.combination → class_of k ≡ a_calculation
calculation_class = alike classes a_range a_calculation Kind.arithmetic Kind.combination refl

pub combination-class : (k : ℕ) → Kind.combination ≤ k → k < Kind.equality → class_of k ≡ a_combination
combination-class = alike classes a_range a_combination Kind.combination Kind.equality refl

pub big-class : (k : ℕ) → Kind.big_numbers ≤ k → k < Kind.binder false → class_of k ≡ a_big
big-class = alike classes a_range a_big Kind.big_numbers (Kind.binder false) refl

pub between-class : (k : ℕ) → Kind.binder false ≤ k → k < Kind.listed → class_of k ≡ a_between
between-class = alike classes a_range a_between (Kind.binder false) Kind.listed refl

-- formulas: constants and indices, operators of formulas, comparisons and connectives
pub leaf-class : (k : ℕ) → Kind.truth ≤ k → k < Kind.paren → class_of k ≡ a_formula
leaf-class = alike classes a_range a_formula Kind.truth Kind.paren refl

pub unary-class : (k : ℕ) → Kind.unary ≤ k → k < Kind.arithmetic → class_of k ≡ a_formula
unary-class = alike classes a_range a_formula Kind.unary Kind.arithmetic refl

pub binary-class : (k : ℕ) → Kind.equality ≤ k → k < Kind.big_numbers → class_of k ≡ a_formula
binary-class = alike classes a_range a_formula Kind.equality Kind.big_numbers refl
