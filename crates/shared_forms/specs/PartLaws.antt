-- The parts that the recipe for a needed form puts together: the last is the form; each of the others is made of earlier parts, or is an operand's form that is noted before.
use Rattle.std.specs.Prelude.{ℕ, zero, suc, ◌+◌, ◌-◌, ◌*◌, ◌/◌, ◌%◌, ◌≤◌, ◌<◌, ◌≡◌, refl, ◌≢◌, List, true, ltb, eqb}
use Rattle.std.proofs.Math.Path.{ap}
use Rattle.std.proofs.Common.{ap₂, ◌∙◌, sym, subst, lt-ltb, le-ltb, ltb-true, eqb-true}
use Rattle.std.proofs.lemmas.Bool.{false≢true}
use Rattle.std.proofs.Math.ListN.{length}
use Rattle.std.proofs.Math.Decide.{dec_lt}
use native.Mathlib.Omega.{arith}
use Rattle.node.specs.Tests.{and_left, and_right}
use Rattle.node.specs.Limits.{field_limit}
use Rattle.node.specs.Ltl.{Formula, Signal}
use Rattle.node.specs.Fields.{kind_of, first_of, second_of}
use Rattle.node.specs.Kinds.{Shape, Truth, Falsehood, Atom, UnaryOf, BinaryOf, Unused, kind_count, shape_of, build}
use Rattle.node.proofs.KindLaws.{no_shape}
use Rattle.node.specs.Table.{tree_at, fits}
use Rattle.node.specs.Formed.{Formed, Below, NodeIs}
use Rattle.node.proofs.TableLaws.{node-is}
use Rattle.sharing.specs.Subformulas.{Everywhere}
use Rattle.shared_forms.specs.Templates.{template, list_of, by_list, substitute, recipe}
use Rattle.shared_forms.specs.Forming.{row_count, form_at, word_at, row_at, recipe_at, part_word, operand_place, stands_for, part_at, asked_at, Operand, Place}
use Rattle.shared_forms.specs.TemplateLaws.{operand_signals, makes, Reciped, kind-reciped, parts-such, Local, local_below}

-- a node that is known has one of the kinds
known-kind : (limit n k a b : ℕ) → Below limit (shape_of k) n a b → k < kind_count
known-kind limit n k a b l = go (dec_lt k kind_count)
  where
    go : Dec (k < kind_count) → k < kind_count
    go (yes h) = h
    go (no h) = absurd (subst (λ (s : Shape). Below limit s n a b) (no_shape {kind = k} (omega arith)) l)

pub list-below : (form half : ℕ) → list_of form half < 4
list-below zero half = omega arith
list-below (suc zero) zero = omega arith
list-below (suc zero) (suc half) = omega arith
list-below (suc (suc form)) half = omega arith

pub list-negated : (form half : ℕ) → form ≡ 1 → half ≢ 0 → 3 ≡ list_of form half
list-negated zero half e d = absurd (omega arith)
list-negated (suc zero) zero e d = absurd (d refl)
list-negated (suc zero) (suc half) e d = refl
list-negated (suc (suc form)) half e d = absurd (omega arith)

pub list-core : (form half : ℕ) → form ≢ 0 → form ≢ 1 → 2 ≡ list_of form half
list-core zero half d e = absurd (d refl)
list-core (suc zero) half d e = absurd (e refl)
list-core (suc (suc form)) half d e = refl

-- the form at an operand's place
noted : (form : ℕ) (ws : List ℕ) (c p : ℕ) → p < 2 → by_list (list_of form p) (tree_at ws c) ≡ form_at form ws (2 * c + p)
noted form ws c p l =
    let h : (2 * c + p) % 2 ≡ p = omega arith in
    let i : (2 * c + p) / 2 ≡ c = omega arith in
    sym (ap₂ (λ (m n : ℕ). by_list (list_of form m) (tree_at ws n)) h i)

-- what a template's signal stands for is the form that is noted at its place
stands_noted : (form : ℕ) (ws : List ℕ) (a b r : ℕ) → r < 4 → stands_for form (tree_at ws) a b r ≡ form_at form ws (operand_place a b r)
unfolding stands_for
stands_noted form ws a b zero h = noted form ws a 0 (omega arith)
stands_noted form ws a b (suc zero) h = noted form ws a 1 (omega arith)
stands_noted form ws a b (suc (suc zero)) h = noted form ws b 0 (omega arith)
stands_noted form ws a b (suc (suc (suc zero))) h = noted form ws b 1 (omega arith)
stands_noted form ws a b (suc (suc (suc (suc r)))) h = absurd (omega arith)

-- the place for a signal, by its operand
pub place-first : (a b r : ℕ) → r < 2 → 2 * a + r % 2 ≡ operand_place a b r
place-first a b r h = rw (lt-ltb r 2 h)

pub place-second : (a b r : ℕ) → 2 ≤ r → 2 * b + r % 2 ≡ operand_place a b r
place-second a b r h = rw (le-ltb r 2 h)

-- an operand's form is noted before those of the node
place-below : (limit : ℕ) (s : Shape) (i a b r : ℕ) → Below limit s i a b → r < operand_signals s → operand_place a b r < 2 * i
place-below limit Truth i a b r l h = absurd (omega arith)
place-below limit Falsehood i a b r l h = absurd (omega arith)
place-below limit Atom i a b r l h = absurd (omega arith)
place-below limit (UnaryOf o) i a b r l h = rw (lt-ltb r 2 h) (omega arith)
place-below limit (BinaryOf o) i a b r l h = go (dec_lt r 2)
  where
    go : Dec (r < 2) → operand_place a b r < 2 * i
    go (yes k) = rw (lt-ltb r 2 k) (let m = l.0 in omega arith)
    go (no k) = rw (le-ltb r 2 (omega arith)) (let m = l.1 in omega arith)
place-below limit Unused i a b r l h = absurd l

-- the fields of a recipe's node are small
fields-small : (n : ℕ) (s : Shape) (a b : ℕ) → n ≤ 10 → fits 5 n s a b ≡ true → (a < 16) × (b < 16)
fields-small n Truth a b l h =
    let p = eqb-true a 0 (and_left (eqb a 0) (eqb b 0) h) in
    let q = eqb-true b 0 (and_right (eqb a 0) (eqb b 0) h) in
    (omega arith, omega arith)
fields-small n Falsehood a b l h =
    let p = eqb-true a 0 (and_left (eqb a 0) (eqb b 0) h) in
    let q = eqb-true b 0 (and_right (eqb a 0) (eqb b 0) h) in
    (omega arith, omega arith)
fields-small n Atom a b l h =
    let p = ltb-true a 5 (and_left (ltb a 5) (eqb b 0) h) in
    let q = eqb-true b 0 (and_right (ltb a 5) (eqb b 0) h) in
    (omega arith, omega arith)
fields-small n (UnaryOf o) a b l h =
    let p = ltb-true a n (and_left (ltb a n) (eqb b 0) h) in
    let q = eqb-true b 0 (and_right (ltb a n) (eqb b 0) h) in
    (omega arith, omega arith)
fields-small n (BinaryOf o) a b l h =
    let p = ltb-true a n (and_left (ltb a n) (ltb b n) h) in
    let q = ltb-true b n (and_right (ltb a n) (ltb b n) h) in
    (omega arith, omega arith)
fields-small n Unused a b l h = absurd (false≢true h)

module _ {form x : ℕ} {ws : List ℕ} (p : Place form ws x) where
  half_inside : x / 2 < length ws
  half_inside = let i = p.inside in omega arith

  pub node : NodeIs field_limit ws (x / 2) (shape_of (kind_of (word_at ws x))) (first_of (word_at ws x)) (second_of (word_at ws x))
  node = node-is (x / 2) (kind_of (word_at ws x)) (first_of (word_at ws x)) (second_of (word_at ws x)) p.formed half_inside refl refl refl

  pub kind-below : kind_of (word_at ws x) < kind_count
  kind-below = known-kind field_limit (x / 2) (kind_of (word_at ws x)) (first_of (word_at ws x)) (second_of (word_at ws x)) node.lower

  pub row_below : row_at form ws x < row_count
  row_below = let k = kind-below in let l = list-below form (x % 2) in omega arith

  known : Reciped (operand_signals (shape_of (kind_of (word_at ws x)))) (template (row_at form ws x))
  known = kind-reciped form (x % 2) (kind_of (word_at ws x)) kind-below

  pub recipe_few : length (recipe_at form ws x) ≤ 10
  unfolding recipe
  recipe_few = known.few

  recipe-formed : Formed 5 (recipe_at form ws x)
  unfolding recipe
  recipe-formed = known.formed

  pub recipe_some : 0 < length (recipe_at form ws x)
  recipe_some = recipe-formed.some

  -- the template makes the form
  made : substitute (stands_for form (tree_at ws) (first_of (word_at ws x)) (second_of (word_at ws x))) (template (row_at form ws x)) ≡ form_at form ws x
  made =
      makes form (x % 2) (kind_of (word_at ws x)) kind-below (tree_at ws) (first_of (word_at ws x)) (second_of (word_at ws x))
      ∙ ap (by_list (list_of form (x % 2))) (sym node.tree)

  -- the last part is the form
  pub part-last : (j : ℕ) → j + 1 ≡ length (recipe_at form ws x) → part_at form ws x j ≡ form_at form ws x
  unfolding part_at recipe
  part-last j e =
      let l : j ≡ length (recipe_at form ws x) - 1 = omega arith in
      ap (substitute (stands_for form (tree_at ws) (first_of (word_at ws x)) (second_of (word_at ws x)))) (ap (tree_at (recipe_at form ws x)) l ∙ known.top) ∙ made

  -- each part is one of its subformulas
  pub part-such : (P : Formula → Type 0) → Everywhere P (form_at form ws x) → (j : ℕ) → j < length (recipe_at form ws x) → Everywhere P (part_at form ws x j)
  unfolding part_at recipe
  part-such P h j l =
      parts-such P (stands_for form (tree_at ws) (first_of (word_at ws x)) (second_of (word_at ws x))) form (x % 2) (kind_of (word_at ws x)) kind-below
      (subst (Everywhere P) (sym made) h) j l

  module _ (j : ℕ) (here : j < length (recipe_at form ws x)) where
    -- what is known of the recipe's node
    pub step : NodeIs 5 (recipe_at form ws x) j (shape_of (kind_of (part_word form ws x j))) (first_of (part_word form ws x j)) (second_of (part_word form ws x j))
    step = node-is j _ _ _ recipe-formed here refl refl refl

    pub step-kind : kind_of (part_word form ws x j) < kind_count
    step-kind = known-kind 5 j (kind_of (part_word form ws x j)) (first_of (part_word form ws x j)) (second_of (part_word form ws x j)) step.lower

    -- its fields are small
    pub step-fields : (first_of (part_word form ws x j) < 16) × (second_of (part_word form ws x j) < 16)
    step-fields =
        let f = recipe_few in
        fields-small j (shape_of (kind_of (part_word form ws x j))) (first_of (part_word form ws x j)) (second_of (part_word form ws x j)) (omega arith)
        (recipe-formed.each j here)

    module _ (operand : Operand (kind_of (part_word form ws x j)) (first_of (part_word form ws x j))) where
      tree : tree_at (recipe_at form ws x) j ≡ Signal (first_of (part_word form ws x j))
      tree =
          step.tree ∙ ap (λ (k : ℕ). build (shape_of k) (tree_at (recipe_at form ws x)) (first_of (part_word form ws x j)) (second_of (part_word form ws x j)))
          operand.signal

      local : Local (operand_signals (shape_of (kind_of (word_at ws x)))) (tree_at (recipe_at form ws x) j)
      unfolding recipe
      local = known.local j here

      -- it is an operand's form, noted before
      pub operand-part : part_at form ws x j ≡ form_at form ws (asked_at form ws x j)
      unfolding part_at substitute
      operand-part =
          ap (substitute (stands_for form (tree_at ws) (first_of (word_at ws x)) (second_of (word_at ws x)))) tree
          ∙ stands_noted form ws (first_of (word_at ws x)) (second_of (word_at ws x)) (first_of (part_word form ws x j)) operand.operand

      pub operand_below : asked_at form ws x j < 2 * (x / 2)
      operand_below =
          place-below field_limit (shape_of (kind_of (word_at ws x))) (x / 2) (first_of (word_at ws x)) (second_of (word_at ws x)) (first_of (part_word form ws x j)) node.lower
          (local_below tree local operand.operand)
