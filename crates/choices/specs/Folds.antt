-- Formulas folded to the left as they are written.
use Rattle.std.specs.Prelude.{ℕ, Bool, true, false, List, [], ◌∷◌, ◌++◌, ◌≡◌}
use Rattle.node.specs.Ltl.{Formula}
use Rattle.language.specs.Expansion.{conjunction, disjunction}
use Rattle.writing.specs.Writing.{Wrote}
use Rattle.choices.specs.declared.folds.Fold.{Fold}

-- with `&&`, or with `||`
abbrev pub over : Bool → List Formula → Formula
over true fs = conjunction fs
over false fs = disjunction fs

-- fs are the formulas so far, whose fold is written from `at` on
abbrev pub Begun : Bool → (all : Bool) → List Formula → (out out' : List ℕ) → (at end : ℕ) → Type 0
Begun false all fs out out' at end = (fs ≡ []) × ((out' ≡ out) × (end ≡ at))
Begun true all fs out out' at end = (fs ≡ [] → ⊥) × Wrote (over all fs) out out' at end

pub record Folded (all : Bool) (f : Fold) (fs : List Formula) (out out' : List ℕ) (at : ℕ) : Type 0 where
  pub begun : Begun f.some all fs out out' at f.end

-- one formula more, whatever formulas were folded
pub record Furthers (all : Bool) (f : Fold) (r : ℕ) (out out' : List ℕ) (g : Fold) : Type 0 where
  pub folded : {fs : List Formula} {a : Formula} {before between : List ℕ} {at : ℕ} → Folded all f fs before between at → Wrote a between out f.end r
      → Folded all g (fs ++ (a ∷ [])) before out' at

pub record Finishes (all : Bool) (f : Fold) (out out' : List ℕ) (r : ℕ) : Type 0 where
  pub wrote : {fs : List Formula} {before : List ℕ} {at : ℕ} → Folded all f fs before out at → Wrote (over all fs) before out' at r
