-- A test passed by every element of a list, computed at once, is passed by each.
use Rattle.std.specs.Prelude.{Bool, true, ◌&&◌}
use Rattle.std.proofs.Math.Bool.{So, So-prop, and-eq-true_iff}
use mathlib.Core.List.{List, [], ◌∷◌, Mem, not-mem-nil, eq-or-mem_of_mem-cons}
use Rattle.std.proofs.Math.Logic.Or
use Rattle.std.proofs.Common.{sym, subst}

abbrev pub every : {A : Type 0} → (A → Bool) → List A → Bool
every test [] = true
every test (a ∷ l) = test a && every test l

pub every-each : {A : Type 0} (test : A → Bool) (l : List A) → So (every test l) → (a : A) → Mem a l → So (test a)
every-each test [] t a m = absurd (not-mem-nil m)
every-each test (x ∷ l) t a m =
    let both = (and-eq-true_iff (test x) (every test l)).0 t in
    Or.elim (So-prop (test a)) (eq-or-mem_of_mem-cons m) (λ q. subst (λ y. So (test y)) (sym q) both.0) (λ n. every-each test l both.1 a n)
