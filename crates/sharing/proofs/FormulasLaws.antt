-- Laws of a table's trees: they stay whatever stands behind; and a table each of whose words fits passes the test.
use Rattle.std.specs.Prelude.{ℕ, suc, ◌+◌, ◌<◌, ◌≡◌, refl, List, [], ◌∷◌, ◌++◌, true, length, get_or}
use Rattle.std.proofs.Common.{ap, ◌∙◌, subst, length-append, zero-add, arith}
use Rattle.node.specs.Ltl.{Formula}
use Rattle.node.specs.Result.{Result}
use Rattle.node.proofs.ResultLaws.{guard-pass}
use Rattle.node.specs.Formed.{Formed, counted}
use Rattle.node.specs.Table.{among, formula_of, formulas, tree_at, node_fits, scanned, checked}
use Rattle.node.proofs.TableLaws.{formulas-keep, checked-scan}

pub formulas-append : (fs : List Formula) (t u : List ℕ) → formulas fs (t ++ u) ≡ formulas (formulas fs t) u
unfolding formulas
formulas-append fs [] u = refl
formulas-append fs (w ∷ t) u = formulas-append (fs ++ (formula_of fs w ∷ [])) t u

pub formulas-length : (fs : List Formula) (t : List ℕ) → length (formulas fs t) ≡ length fs + length t
unfolding formulas
formulas-length fs [] = omega arith
formulas-length fs (w ∷ t) =
    let h = formulas-length (fs ++ (formula_of fs w ∷ [])) t in
    let l = length-append fs (formula_of fs w ∷ []) in
    omega arith

-- a tree stays whatever stands behind the table
pub tree_longer : (t u : List ℕ) (i : ℕ) → i < length t → tree_at (t ++ u) i ≡ tree_at t i
unfolding tree_at
tree_longer t u i h =
    let l = formulas-length [] t in
    ap (λ (x : List Formula). among x i) (formulas-append [] t u) ∙ formulas-keep (formulas [] t) u i (omega arith)

-- if each word fits, the scan comes to its end
scan_all_lem : {A : Type 0} (limit n : ℕ) (ws : List ℕ) (r : Result A) → ((j : ℕ) → j < length ws → node_fits limit (n + j) (get_or ws j 0) ≡ true) → scanned limit n ws r ≡ r
unfolding scanned
scan_all_lem limit n [] r each = refl
scan_all_lem limit n (w ∷ ws) r each =
    let z : n + 0 ≡ n = omega arith in
    guard-pass 19 n _ (subst (λ (k : ℕ). node_fits limit k w ≡ true) z (each 0 (omega arith)))
    ∙ scan_all_lem limit (suc n) ws r (λ j h. let e : n + suc j ≡ suc n + j = omega arith in subst (λ (k : ℕ). node_fits limit k (get_or ws j 0) ≡ true) e (each (suc j) (omega arith)))

-- a table of the format passes its test
pub formed-checked : {limit : ℕ} {ws : List ℕ} → Formed limit ws → checked limit ws ≡ counted limit ws
formed-checked {limit} {ws} f =
    let s = f.some in
    checked-scan limit ws (λ e. omega arith) f.few ∙ scan_all_lem limit 0 ws (counted limit ws) (λ j h. rw zero-add (f.each j h))
