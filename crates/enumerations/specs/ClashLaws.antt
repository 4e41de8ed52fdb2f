-- A word against the rows before it, one by one, and that the code's answer is the definition's.
use Rattle.std.specs.Prelude.{ℕ, ◌+◌, ◌≤◌, ◌<◌, List, [], ◌∷◌, map, true, false, ◌&&◌, ◌||◌, not, ◌≡◌, refl, eqb, length, get_or, take}
use Rattle.std.proofs.Common.{sym, ap, ap₂, ◌∙◌, add-one, arith, eq-eqb, ne_eqb}
use Rattle.std.proofs.Math.Seq.{slice, slice-cons}
use Rattle.language.specs.Words.{meet}
use Rattle.traversal.specs.StackLaws.{no_part}
use Rattle.enumerations.specs.Clashes.{clash_rows}
use Rattle.enumerations.specs.Pass.{Row, any_clash}

module _ (n o : ℕ) (v ks : List ℕ) (rs : List (List ℕ)) (i count : ℕ) (few : count ≤ length ks) (few' : count ≤ length rs) where
  pub clash_none : count ≤ i → false ≡ clash_rows n o v (slice i count ks) (slice i count rs)
  clash_none h = sym (ap (λ l. clash_rows n o v l (slice i count rs)) (no_part ks i count h))

  one : i < count → clash_rows n o v (slice i count ks) (slice i count rs) ≡ (not (eqb (get_or ks i 0) o) && meet (take n (get_or rs i [])) v) || clash_rows n o v (slice (i + 1) count ks)
      (slice (i + 1) count rs)
  one h =
      ap₂ (clash_rows n o v) (slice-cons i count ks 0 h few) (slice-cons i count rs [] h few')
      ∙ ap (λ j. (not (eqb (get_or ks i 0) o) && meet (take n (get_or rs i [])) v) || clash_rows n o v (slice j count ks) (slice j count rs)) (sym (add-one i))

  pub clash-own : i < count → get_or ks i 0 ≡ o → clash_rows n o v (slice i count ks) (slice i count rs) ≡ clash_rows n o v (slice (i + 1) count ks) (slice (i + 1) count rs)
  clash-own h e = one h ∙ ap (λ b. (not b && meet (take n (get_or rs i [])) v) || clash_rows n o v (slice (i + 1) count ks) (slice (i + 1) count rs)) (eq-eqb _ _ e)

  pub clash-not : i < count → (get_or ks i 0 ≡ o → ⊥) → meet (take n (get_or rs i [])) v ≡ false
      → clash_rows n o v (slice i count ks) (slice i count rs) ≡ clash_rows n o v (slice (i + 1) count ks) (slice (i + 1) count rs)
  clash-not h e m = one h ∙ ap₂ (λ b c. (not b && c) || clash_rows n o v (slice (i + 1) count ks) (slice (i + 1) count rs)) (ne_eqb _ _ e) m

  pub clash-here : i < count → (get_or ks i 0 ≡ o → ⊥) → meet (take n (get_or rs i [])) v ≡ true → clash_rows n o v (slice i count ks) (slice i count rs) ≡ true
  clash-here h e m = one h ∙ ap₂ (λ b c. (not b && c) || clash_rows n o v (slice (i + 1) count ks) (slice (i + 1) count rs)) (ne_eqb _ _ e) m

-- the rows as the definition has them
pub clash_rows_lem : (n o : ℕ) (v : List ℕ) (rows : List Row) (ks : List ℕ) (rs : List (List ℕ)) → ks ≡ map (λ (r : Row). r.owner) rows → map (take n) rs ≡ map (λ (r : Row). r.marks) rows
    → clash_rows n o v ks rs ≡ any_clash o v rows
clash_rows_lem n o v rows ks rs e d = ap (λ l. clash_rows n o v l rs) e ∙ go rows rs d
  where
    go : (rows : List Row) (rs : List (List ℕ)) → map (take n) rs ≡ map (λ (r : Row). r.marks) rows → clash_rows n o v (map (λ (r : Row). r.owner) rows) rs ≡ any_clash o v rows
    go [] rs d = refl
    go (r ∷ rows) [] d = let z : ◌≡◌ {A = ℕ} 0 1 = cc in absurd (omega arith)
    go (r ∷ rows) (q ∷ rs) d =
        let m : take n q ≡ r.marks = cc in
        let l : map (take n) rs ≡ map (λ (r : Row). r.marks) rows = cc in
        ap₂ (λ m b. (not (eqb r.owner o) && meet m v) || b) m (go rows rs l)
