-- 'The negation form of a shared table has at most 6 times its nodes' (document 02, F-10): each subformula of a formula's form is one of the at most six that a subformula of
-- the formula has of its own, in plain or negated.
use Rattle.std.specs.Prelude.{ℕ, ◌*◌, ◌≤◌, refl, length}
use Rattle.std.proofs.Common.{subst, length-append, arith}
use mathlib.Core.List.Memᴰ
use mathlib.Core.List.{List, [], ◌∷◌, ◌++◌, Memᴰ}
use Rattle.node.specs.Limits.{max_nodes, field_limit}
use Rattle.node.specs.Ltl.{Not, X, G, F, And, Or, Implies, Iff, U, R, W, Formula, True, False, Signal, One, Two}
use Rattle.node.specs.Formed.{Formed}
use Rattle.node.specs.Table.{formulas, root}
use Rattle.node.specs.Postorder.{SignalsBelow}
use Rattle.forms.specs.Forms.{plain, negated, form}
use Rattle.sharing.specs.Sharing.{distinct_nodes, distinct_count}
use Rattle.sharing.specs.Subformulas.{Everywhere}
use Rattle.sharing.proofs.SubformulaLaws.{everywhere_map}
use Rattle.sharing.proofs.DistinctLaws.{length_of}
use Rattle.sharing.proofs.CountLaws.{Holding, count-within, trees_length, root-holding, own-holding}

-- what lies between a formula's two forms and those of its operands
between : Formula → List Formula
between True = []
between False = []
between (Signal k) = []
between (One o a) = []
between (Two And a b) = []
between (Two Or a b) = []
between (Two Implies a b) = []
between (Two Iff a b) =
    Two And (plain a) (plain b) ∷ Two And (negated a) (negated b) ∷ Two And (plain a) (negated b) ∷ Two And (negated a) (plain b) ∷ []
between (Two U a b) = []
between (Two R a b) = []
between (Two W a b) = Two And (negated a) (negated b) ∷ []

-- a formula's own: at most six
own : Formula → List Formula
own g = plain g ∷ negated g ∷ between g

between_few : (g : Formula) → length (between g) ≤ 4
unfolding between
between_few True = omega arith
between_few False = omega arith
between_few (Signal k) = omega arith
between_few (One o a) = omega arith
between_few (Two And a b) = omega arith
between_few (Two Or a b) = omega arith
between_few (Two Implies a b) = omega arith
between_few (Two Iff a b) = omega arith
between_few (Two U a b) = omega arith
between_few (Two R a b) = omega arith
between_few (Two W a b) = omega arith

-- those of a list of formulas
owns : List Formula → List Formula
owns [] = []
owns (g ∷ l) = own g ++ owns l

owns_few : (l : List Formula) → length (owns l) ≤ 6 * length l
unfolding owns own
owns_few [] = omega arith
owns_few (g ∷ l) =
    let h = owns_few l in
    let k = between_few g in
    let a = length-append (between g) (owns l) in
    omega arith

-- all that a formula has of its own is in the list
abbrev Owned : List Formula → Formula → Type 0
Owned l g = (x : Formula) → Memᴰ x (own g) → Memᴰ x l

member-owned : (g : Formula) (l : List Formula) → Memᴰ g l → Owned (owns l) g
unfolding owns
member-owned g l (Memᴰ.head {x = y} {xs} e) x m = Memᴰ.append_left (owns xs) (subst (λ (z : Formula). Memᴰ x (own z)) e m)
member-owned g l (Memᴰ.tail {x = y} {xs} k) x m = Memᴰ.append_right (own y) (member-owned g xs k x m)

-- the places of a formula's own
module _ (l : List Formula) (g : Formula) (o : Owned l g) where
  plain_in : Memᴰ (plain g) l
  unfolding own
  plain_in = o (plain g) (Memᴰ.head refl)

  negated_in : Memᴰ (negated g) l
  unfolding own
  negated_in = o (negated g) (Memᴰ.tail (Memᴰ.head refl))

  between_in : (x : Formula) → Memᴰ x (between g) → Memᴰ x l
  unfolding own
  between_in x m = o x (Memᴰ.tail (Memᴰ.tail m))

-- so both forms of a formula have their subformulas in the list
forms_held : (l : List Formula) (f : Formula) → Everywhere (Owned l) f → Holding l (plain f) × Holding l (negated f)
unfolding Everywhere plain negated between
forms_held l True h = (plain_in l True h, negated_in l True h)
forms_held l False h = (plain_in l False h, negated_in l False h)
forms_held l (Signal k) h = (plain_in l (Signal k) h, (plain_in l (Signal k) h, negated_in l (Signal k) h))
forms_held l (One Not a) h = let x = forms_held l a h.0 in (x.1, x.0)
forms_held l (One X a) h = let x = forms_held l a h.0 in ((x.0, plain_in l (One X a) h.1), (x.1, negated_in l (One X a) h.1))
forms_held l (One G a) h = let x = forms_held l a h.0 in ((x.0, plain_in l (One G a) h.1), (x.1, negated_in l (One G a) h.1))
forms_held l (One F a) h = let x = forms_held l a h.0 in ((x.0, plain_in l (One F a) h.1), (x.1, negated_in l (One F a) h.1))
forms_held l (Two And a b) h =
    let x = forms_held l a h.0 in
    let y = forms_held l b h.1 in
    ((x.0, y.0, plain_in l (Two And a b) h.2), (x.1, y.1, negated_in l (Two And a b) h.2))
forms_held l (Two Or a b) h =
    let x = forms_held l a h.0 in
    let y = forms_held l b h.1 in
    ((x.0, y.0, plain_in l (Two Or a b) h.2), (x.1, y.1, negated_in l (Two Or a b) h.2))
forms_held l (Two Implies a b) h =
    let x = forms_held l a h.0 in
    let y = forms_held l b h.1 in
    ((x.1, y.0, plain_in l (Two Implies a b) h.2), (x.0, y.1, negated_in l (Two Implies a b) h.2))
forms_held l (Two Iff a b) h =
    let x = forms_held l a h.0 in
    let y = forms_held l b h.1 in
    let m = between_in l (Two Iff a b) h.2 in (
      ((x.0, y.0, m _ (Memᴰ.head refl)), (x.1, y.1, m _ (Memᴰ.tail (Memᴰ.head refl))), plain_in l (Two Iff a b) h.2),
      (
        (x.0, y.1, m _ (Memᴰ.tail (Memᴰ.tail (Memᴰ.head refl)))),
        (x.1, y.0, m _ (Memᴰ.tail (Memᴰ.tail (Memᴰ.tail (Memᴰ.head refl))))),
        negated_in l (Two Iff a b) h.2,
      ),
    )
forms_held l (Two U a b) h =
    let x = forms_held l a h.0 in
    let y = forms_held l b h.1 in
    ((x.0, y.0, plain_in l (Two U a b) h.2), (x.1, y.1, negated_in l (Two U a b) h.2))
forms_held l (Two R a b) h =
    let x = forms_held l a h.0 in
    let y = forms_held l b h.1 in
    ((x.0, y.0, plain_in l (Two R a b) h.2), (x.1, y.1, negated_in l (Two R a b) h.2))
forms_held l (Two W a b) h =
    let x = forms_held l a h.0 in
    let y = forms_held l b h.1 in
    let m = between_in l (Two W a b) h.2 in
    ((x.0, y.0, plain_in l (Two W a b) h.2), (y.1, (x.1, y.1, m _ (Memᴰ.head refl)), negated_in l (Two W a b) h.2))

-- six times a list that has each subformula
bound-within : (f : Formula) (l : List Formula) → Holding l f → distinct_count (plain f) ≤ 6 * length l
bound-within f l h =
    let o = everywhere_map (λ g. Memᴰ g l) (Owned (owns l)) (λ g m. member-owned g l m) f h in
    let c = count-within (plain f) (owns l) (forms_held (owns l) f o).0 in
    let k = owns_few l in
    omega arith

-- 'at most 6 times its nodes': of the formula's own nodes, and of any table
pub bound : (f : Formula) → SignalsBelow field_limit f → distinct_count f ≤ field_limit → distinct_count (plain f) ≤ 6 * distinct_count f
bound f s h =
    let b = bound-within f (formulas [] (distinct_nodes f)) (own-holding f s h) in
    let l = trees_length (distinct_nodes f) in
    let c = length_of f in
    omega arith

pub bound-root : {limit : ℕ} {ws : List ℕ} → Formed limit ws → distinct_count (form 1 (root ws)) ≤ 6 * length ws
bound-root {limit} {ws} f =
    let b = bound-within (root ws) (formulas [] ws) (root-holding f) in
    let l = trees_length ws in
    omega arith

-- so a table of 1,365 nodes or fewer always fits
pub always_fits : {limit : ℕ} {ws : List ℕ} → Formed limit ws → length ws ≤ 1_365 → distinct_count (form 1 (root ws)) ≤ max_nodes
always_fits f h = let b = bound-root f in omega arith
