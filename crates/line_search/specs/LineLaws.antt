-- What the walk finds: in a table whose root is a text's formula, and in rows that are right, the line that the definition names.
use Prim.Native.Nat.{ℕ, zero, suc, ◌+◌, ◌<◌}
use Rattle.std.specs.Prelude.{◌≡◌, Bool, ◌&&◌, get_or}
use Rattle.std.proofs.Math.Path.{refl, sym, ap, ap₂, subst}
use Rattle.std.proofs.Common.{◌∙◌}
use Rattle.std.proofs.Math.Bool.{true, false, not}
use Rattle.std.proofs.lemmas.Bool.{false≢true}
use mathlib.Core.List.{List, [], ◌∷◌, ◌++◌, map}
use Rattle.std.proofs.Math.Option.{Option, none, some}
use native.Mathlib.Omega.{arith}
use Rattle.std.proofs.Math.ListN.{length, length-append}
use Rattle.node.specs.Operators.{Unary, Binary, G, And, Implies, W}
use Rattle.node.specs.Ltl.{Formula, True, False, Signal, One, Two}
use Rattle.node.specs.Fields.{kind_of, first_of, second_of}
use Rattle.node.specs.Kinds.{Shape, Truth, Falsehood, Atom, UnaryOf, BinaryOf, Unused, shape_of, build}
use Rattle.node.specs.Table.{tree_at}
use Rattle.node.specs.Formed.{Formed, Below}
use Rattle.node.proofs.TableLaws.{node-is}
use Rattle.bits.specs.Bits.{Values}
use Rattle.rows.specs.Row.{row}
use Rattle.language.specs.Bytes.{if◌then◌otherwise◌}
use Rattle.language.specs.Tree.{Part, Preset, Require, Assert, Guarantee}
use Rattle.language.specs.Expansion.{joined, conjunction, whole}
use Rattle.faults.specs.Naming.{first_false, all_true, broken_from}
use Rattle.line_search.specs.Walking.{operand_of, walked, seen}

-- node i stands for f
pub record At (ws : List ℕ) (i : ℕ) (f : Formula) : Type 0 where
  pub tree : tree_at ws i ≡ f
  pub below : i < length ws

-- how many operands
abbrev operands : Formula → ℕ
operands True = 0
operands False = 0
operands (Signal k) = 0
operands (One o a) = 1
operands (Two o a b) = 2

module _ {limit : ℕ} {ws : List ℕ} (formed : Formed limit ws) where
  -- the operands of a node stand for those of its formula
  second_at : (i : ℕ) (o : Binary) (a b : Formula) → At ws i (Two o a b) → At ws (operand_of ws i true) b
  second_at i o a b h =
      let n = node-is i (kind_of (get_or ws i 0)) (first_of (get_or ws i 0)) (second_of (get_or ws i 0)) formed h.below refl refl refl in
      go (shape_of (kind_of (get_or ws i 0))) (sym h.tree ∙ n.tree) n.lower
    where
      go : (s : Shape) → Two o a b ≡ build s (tree_at ws) (first_of (get_or ws i 0)) (second_of (get_or ws i 0)) → Below limit s i (first_of (get_or ws i 0)) (second_of (get_or ws i 0))
          → At ws (second_of (get_or ws i 0)) b
      go Truth e l = absurd (omega (arith, ap operands e))
      go Falsehood e l = absurd (omega (arith, ap operands e))
      go Atom e l = absurd (omega (arith, ap operands e))
      go (UnaryOf u) e l = absurd (omega (arith, ap operands e))
      go (BinaryOf u) e l = let m = h.below in record { tree = cc e; below = omega (arith, l.1) }
      go Unused e l = absurd (omega (arith, ap operands e))

  first-at : (i : ℕ) (o : Binary) (a b : Formula) → At ws i (Two o a b) → At ws (operand_of ws i false) a
  first-at i o a b h =
      let n = node-is i (kind_of (get_or ws i 0)) (first_of (get_or ws i 0)) (second_of (get_or ws i 0)) formed h.below refl refl refl in
      go (shape_of (kind_of (get_or ws i 0))) (sym h.tree ∙ n.tree) n.lower
    where
      go : (s : Shape) → Two o a b ≡ build s (tree_at ws) (first_of (get_or ws i 0)) (second_of (get_or ws i 0)) → Below limit s i (first_of (get_or ws i 0)) (second_of (get_or ws i 0))
          → At ws (first_of (get_or ws i 0)) a
      go Truth e l = absurd (omega (arith, ap operands e))
      go Falsehood e l = absurd (omega (arith, ap operands e))
      go Atom e l = absurd (omega (arith, ap operands e))
      go (UnaryOf u) e l = absurd (omega (arith, ap operands e))
      go (BinaryOf u) e l = let m = h.below in record { tree = cc e; below = omega (arith, l.0) }
      go Unused e l = absurd (omega (arith, ap operands e))

  only_at : (i : ℕ) (o : Unary) (a : Formula) → At ws i (One o a) → At ws (operand_of ws i false) a
  only_at i o a h =
      let n = node-is i (kind_of (get_or ws i 0)) (first_of (get_or ws i 0)) (second_of (get_or ws i 0)) formed h.below refl refl refl in
      go (shape_of (kind_of (get_or ws i 0))) (sym h.tree ∙ n.tree) n.lower
    where
      go : (s : Shape) → One o a ≡ build s (tree_at ws) (first_of (get_or ws i 0)) (second_of (get_or ws i 0)) → Below limit s i (first_of (get_or ws i 0)) (second_of (get_or ws i 0))
          → At ws (first_of (get_or ws i 0)) a
      go Truth e l = absurd (omega (arith, ap operands e))
      go Falsehood e l = absurd (omega (arith, ap operands e))
      go Atom e l = absurd (omega (arith, ap operands e))
      go (UnaryOf u) e l = let m = h.below in record { tree = cc e; below = omega (arith, l) }
      go (BinaryOf u) e l = absurd (omega (arith, ap operands e))
      go Unused e l = absurd (omega (arith, ap operands e))

  -- the sections of a whole formula, from its root on
  module _ (i : ℕ) (f : Part → Formula) where
    pub preset-standard : At ws i (whole false f) → At ws (walked ws 1 2 i) (f Preset)
    unfolding walked
    preset-standard h = first-at _ And _ _ (second_at i Implies _ _ h)

    pub preset-strict : At ws i (whole true f) → At ws (walked ws 1 3 i) (f Preset)
    unfolding walked
    preset-strict h = first-at _ And _ _ (first-at _ And _ _ (second_at i Implies _ _ h))

    pub require-standard : At ws i (whole false f) → At ws (walked ws 3 5 i) (f Require)
    unfolding walked
    require-standard h = only_at _ G _ (first-at _ And _ _ (first-at _ Implies _ _ (second_at _ And _ _ (second_at i Implies _ _ h))))

    pub require-strict : At ws i (whole true f) → At ws (walked ws 3 5 i) (f Require)
    unfolding walked
    require-strict h = only_at _ G _ (first-at _ And _ _ (first-at _ Implies _ _ (second_at _ And _ _ (second_at i Implies _ _ h))))

    pub assert-standard : At ws i (whole false f) → At ws (walked ws 7 5 i) (f Assert)
    unfolding walked
    assert-standard h = only_at _ G _ (first-at _ And _ _ (second_at _ Implies _ _ (second_at _ And _ _ (second_at i Implies _ _ h))))

    pub assert-strict : At ws i (whole true f) → At ws (walked ws 5 4 i) (f Assert)
    unfolding walked
    assert-strict h = first-at _ W _ _ (second_at _ And _ _ (first-at _ And _ _ (second_at i Implies _ _ h)))

    pub guarantee-standard : At ws i (whole false f) → At ws (walked ws 15 4 i) (f Guarantee)
    unfolding walked
    guarantee-standard h = second_at _ And _ _ (second_at _ Implies _ _ (second_at _ And _ _ (second_at i Implies _ _ h)))

    pub guarantee-strict : At ws i (whole true f) → At ws (walked ws 7 3 i) (f Guarantee)
    unfolding walked
    guarantee-strict h = second_at _ Implies _ _ (second_at _ And _ _ (second_at i Implies _ _ h))

-- the last of some lines, and the conjunction and the first false one with it
pub record Last {A : Type 0} (us : List A) : Type 0 where
  pub before : List A
  pub last : A
  pub there : us ≡ before ++ (last ∷ [])

last_of : {A : Type 0} (u : A) (us : List A) → Last (u ∷ us)
last_of u [] = record { before = []; last = u; there = refl }
last_of u (v ∷ us) = let l = last_of v us in record { before = u ∷ l.before; last = l.last; there = ap (λ x. u ∷ x) l.there }

joined-last : (a : Formula) (fs : List Formula) (b : Formula) → joined And a (fs ++ (b ∷ [])) ≡ Two And (joined And a fs) b
joined-last a [] b = refl
joined-last a (f ∷ fs) b = joined-last (Two And a f) fs b

conjunction-last : (f : Formula) (fs : List Formula) (b : Formula) → conjunction ((f ∷ fs) ++ (b ∷ [])) ≡ Two And (conjunction (f ∷ fs)) b
conjunction-last f fs b = joined-last f fs b

-- the first, or another where there is none
abbrev or_if : ℕ → ℕ → ℕ
or_if zero f = f
or_if (suc m) f = suc m

module _ (row_of : Formula → Values) (p : ℕ) where
  abbrev first_of_lines : ℕ → List Formula → ℕ
  first_of_lines k fs = first_false k (map row_of fs) p

  first-last : (k : ℕ) (fs : List Formula) (b : Formula) (f : ℕ)
      → or_if (first_of_lines (suc k) (fs ++ (b ∷ []))) f ≡ or_if (first_of_lines (suc k) fs) (if row_of b p then f otherwise suc (k + length fs))
  unfolding first_false
  first-last k [] b f = go (row_of b p)
    where
      go : (x : Bool) → or_if (if x then 0 otherwise suc k) f ≡ (if x then f otherwise suc (k + 0))
      go true = refl
      go false = omega arith
  first-last k (a ∷ fs) b f = go (row_of a p) (first-last (suc k) fs b f)
    where
      go : (x : Bool) → or_if (first_of_lines (suc (suc k)) (fs ++ (b ∷ []))) f ≡ or_if (first_of_lines (suc (suc k)) fs) (if row_of b p then f otherwise suc (suc k + length fs))
          → or_if (if x then first_of_lines (suc (suc k)) (fs ++ (b ∷ [])) otherwise suc k) f
          ≡ or_if (if x then first_of_lines (suc (suc k)) fs otherwise suc k) (if row_of b p then f otherwise suc (k + suc (length fs)))
      go true h = h ∙ (let e : suc (suc k + length fs) ≡ suc (k + suc (length fs)) = omega arith in ap (λ (m : ℕ). or_if (first_of_lines (suc (suc k)) fs) (if row_of b p then f otherwise m)) e)
      go false h = refl

  -- the lines of a section, as the walk sees them
  module _ {limit : ℕ} {ws : List ℕ} (formed : Formed limit ws) (value : ℕ → Bool) (right : (i : ℕ) → i < length ws → value i ≡ row_of (tree_at ws i) p) where
    value_at_lem : (i : ℕ) (f : Formula) → At ws i f → value i ≡ row_of f p
    value_at_lem i f h = right i h.below ∙ ap (λ (g : Formula). row_of g p) h.tree

    lines-seen : (n : ℕ) (fs : List Formula) → length fs ≡ n → (i f : ℕ) → At ws i (conjunction fs) → seen ws value i n f ≡ or_if (first_of_lines 1 fs) f
    unfolding seen first_false
    lines-seen zero [] e i f h = refl
    lines-seen zero (a ∷ fs) e i f h = absurd (omega (arith, e))
    lines-seen (suc zero) [] e i f h = absurd (omega (arith, e))
    lines-seen (suc zero) (a ∷ []) e i f h = go (value i) (row_of a p) (value_at_lem i a h)
      where
        go : (x y : Bool) → x ≡ y → (if x then f otherwise 1) ≡ or_if (if y then 0 otherwise 1) f
        go true true q = refl
        go false false q = refl
        go true false q = absurd (false≢true (sym q))
        go false true q = absurd (false≢true q)
    lines-seen (suc zero) (a ∷ b ∷ fs) e i f h = absurd (omega (arith, e))
    lines-seen (suc (suc n)) [] e i f h = absurd (omega (arith, e))
    lines-seen (suc (suc n)) (a ∷ fs) e i f h =
        let l = last_of a fs in
        go l.before l.last l.there (λ gs q j g k. lines-seen (suc n) gs q j g k)
      where
        go : (bs : List Formula) (z : Formula) → a ∷ fs ≡ bs ++ (z ∷ [])
            → ((gs : List Formula) → length gs ≡ suc n → (j g : ℕ) → At ws j (conjunction gs) → seen ws value j (suc n) g ≡ or_if (first_of_lines 1 gs) g)
            → seen ws value i (suc (suc n)) f ≡ or_if (first_of_lines 1 (a ∷ fs)) f
        go [] z q ih = absurd (omega (arith, e, ap length q))
        go (b ∷ bs) z q ih =
            let whole : length (a ∷ fs) ≡ length (b ∷ bs) + 1 = ap length q ∙ length-append (b ∷ bs) (z ∷ []) in
            let size : length (b ∷ bs) ≡ suc n = omega (arith, e, whole) in
            let number : suc (suc n) ≡ suc (0 + length (b ∷ bs)) = omega (arith, size) in
            let here : At ws i (Two And (conjunction (b ∷ bs)) z) = subst (At ws i) (ap conjunction q ∙ conjunction-last b bs z) h in
            let first = first_of_lines 1 (b ∷ bs) in
            ih (b ∷ bs) size (operand_of ws i false) (if value (operand_of ws i true) then f otherwise suc (suc n)) (first-at formed i And _ _ here)
            ∙ ap (λ (x : Bool). or_if first (if x then f otherwise suc (suc n))) (value_at_lem (operand_of ws i true) z (second_at formed i And _ _ here))
            ∙ ap (λ (m : ℕ). or_if first (if row_of z p then f otherwise m)) number
            ∙ sym (first-last 0 (b ∷ bs) z f)
            ∙ ap (λ (gs : List Formula). or_if (first_of_lines 1 gs) f) (sym q)

    pub section-seen : (fs : List Formula) (i k : ℕ) → k ≡ length fs → At ws i (conjunction fs) → seen ws value i k 0 ≡ first_of_lines 1 fs
    section-seen fs i k e h = lines-seen k fs (sym e) i 0 h ∙ plain (first_of_lines 1 fs)
      where
        plain : (m : ℕ) → or_if m 0 ≡ m
        plain zero = refl
        plain (suc m) = refl

-- a section's row is that of all its lines
module _ (n l : ℕ) (letter : ℕ → ℕ → Bool) (p : ℕ) where
  abbrev row_at : Formula → Bool
  row_at f = row n l letter f p

  joined_true : (a : Formula) (fs : List Formula) → row_at (joined And a fs) ≡ (row_at a && all_true (map (row n l letter) fs) p)
  unfolding row all_true
  joined_true a [] = go (row_at a)
    where
      go : (x : Bool) → x ≡ (x && true)
      go true = refl
      go false = refl
  joined_true a (f ∷ fs) = joined_true (Two And a f) fs ∙ go (row_at a) (row_at f) (all_true (map (row n l letter) fs) p)
    where
      go : (x y z : Bool) → ((x && y) && z) ≡ (x && (y && z))
      go true y z = refl
      go false y z = refl

  pub conjunction_true : (fs : List Formula) → row_at (conjunction fs) ≡ all_true (map (row n l letter) fs) p
  unfolding row all_true
  conjunction_true [] = refl
  conjunction_true (a ∷ fs) = joined_true a fs

-- the search for a break looks at the values of its own positions alone
module _ (strict : Bool) (R R' A A' : Values) where
  pub broken_same : (p n : ℕ) → ((q : ℕ) → q < p + n → R q ≡ R' q) → ((q : ℕ) → q < p + n → A q ≡ A' q) → broken_from strict R A p n ≡ broken_from strict R' A' p n
  unfolding broken_from
  broken_same p zero r a = refl
  broken_same p (suc n) r a =
      ap₂ (λ (x y : Bool). if strict && not x then none otherwise (if y then broken_from strict R A (suc p) n otherwise some p)) (r p (omega arith)) (a p (omega arith))
      ∙ ap (λ (o : Option ℕ). if strict && not (R' p) then none otherwise (if A' p then o otherwise some p)) (broken_same (suc p) n (λ q h. r q (omega arith)) (λ q h. a q (omega arith)))
