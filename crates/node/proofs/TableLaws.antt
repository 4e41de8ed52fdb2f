-- Laws of a table's formulas and of its test: a node that fits has the formula that its kind says, of its operands' formulas.
use Rattle.std.specs.Prelude.{ℕ, zero, suc, ◌+◌, ◌<◌, ◌≤◌, ◌≡◌, refl, List, [], ◌∷◌, ◌++◌, Bool, true, false, ◌&&◌, length, get_or, drop, ltb, leb, eqb}
use Rattle.std.proofs.Common.{ap, ap₂, ◌∙◌, sym, length-append, add-zero, zero-add, add-one, arith, ltb-true, leb-true, lt-ltb, le-ltb, le-leb}
use Rattle.std.proofs.lemmas.Bool.{false≢true, lt-leb}
use Rattle.std.proofs.Math.ListN.{get_or-append, drop_of_length-le}
use Rattle.std.proofs.Math.Seq.{get_or-append_seam, drop-cons}
use Rattle.std.proofs.Math.Decide.{dec_lt}
use Rattle.node.specs.Limits.{max_nodes}
use Rattle.node.specs.Ltl.{Formula, True, One, Two}
use Rattle.node.specs.Fields.{kind_of, first_of, second_of}
use Rattle.node.specs.Kinds.{Shape, Truth, Falsehood, Atom, UnaryOf, BinaryOf, Unused, kind_count, shape_of, build}
use Rattle.node.proofs.KindLaws.{no_shape}
use Rattle.node.specs.Result.{Result, Done, Refused, guard, Counts}
use Rattle.node.specs.Tests.{and_left, and_right}
use Rattle.node.proofs.ResultLaws.{guard-pass, guard-stop, guard-done}
use Rattle.node.specs.Formed.{Formed, Below, NodeIs, all_fit, counted}
use Rattle.node.specs.Table.{among, formula_of, formulas, tree_at, fits, node_fits, scanned, checked}

-- a node's formula depends on the formulas below its number only
build-below : (limit n : ℕ) (s : Shape) (t u : ℕ → Formula) (a b : ℕ) → fits limit n s a b ≡ true → ((k : ℕ) → k < n → t k ≡ u k) → build s t a b ≡ build s u a b
build-below limit n Truth t u a b ok e = refl
build-below limit n Falsehood t u a b ok e = refl
build-below limit n Atom t u a b ok e = refl
build-below limit n (UnaryOf o) t u a b ok e = ap (One o) (e a (ltb-true a n (and_left (ltb a n) (eqb b 0) ok)))
build-below limit n (BinaryOf o) t u a b ok e =
    ap₂ (Two o) (e a (ltb-true a n (and_left (ltb a n) (ltb b n) ok))) (e b (ltb-true b n (and_right (ltb a n) (ltb b n) ok)))
build-below limit n Unused t u a b ok e = refl

-- the formulas of the earlier nodes stay
pub formulas-keep : (fs : List Formula) (nodes : List ℕ) (k : ℕ) → k < length fs → among (formulas fs nodes) k ≡ among fs k
unfolding formulas
formulas-keep fs [] k h = refl
formulas-keep fs (w ∷ ws) k h =
    formulas-keep (fs ++ (formula_of fs w ∷ [])) ws k (simp length-append (omega arith)) ∙ get_or-append fs (formula_of fs w ∷ []) True k h

formulas-step : (limit : ℕ) (fs : List Formula) (ws : List ℕ) (j : ℕ) → j < length ws → node_fits limit (length fs + j) (get_or ws j 0) ≡ true
    → among (formulas fs ws) (length fs + j) ≡ build (shape_of (kind_of (get_or ws j 0))) (among (formulas fs ws)) (first_of (get_or ws j 0)) (second_of (get_or ws j 0))
unfolding formulas
formulas-step limit fs [] j h ok = absurd (omega arith)
formulas-step limit fs (w ∷ ws) zero h ok =
    let gs : List Formula = fs ++ (formula_of fs w ∷ []) in
    let l : length fs < length gs = simp length-append (omega arith) in
    ap (among (formulas gs ws)) (add-zero (length fs)) ∙ formulas-keep gs ws (length fs) l ∙ get_or-append_seam fs (formula_of fs w) [] True
    ∙ build-below limit (length fs) (shape_of (kind_of w)) (among fs) (among (formulas gs ws)) (first_of w) (second_of w) (rw add-zero at ok)
    (λ k hk. sym (formulas-keep gs ws k (omega arith) ∙ get_or-append fs (formula_of fs w ∷ []) True k hk))
formulas-step limit fs (w ∷ ws) (suc j) h ok =
    let gs : List Formula = fs ++ (formula_of fs w ∷ []) in
    let e : length fs + suc j ≡ length gs + j = simp length-append (omega arith) in
    rw e (formulas-step limit gs ws j (omega arith) (rw e at ok))

-- a node that fits has the formula that its kind says, of its operands' formulas
pub tree-step : (limit : ℕ) (ws : List ℕ) (i : ℕ) → i < length ws → node_fits limit i (get_or ws i 0) ≡ true
    → tree_at ws i ≡ build (shape_of (kind_of (get_or ws i 0))) (tree_at ws) (first_of (get_or ws i 0)) (second_of (get_or ws i 0))
unfolding tree_at
tree-step limit ws i h ok = rw zero-add at (formulas-step limit [] ws i h (rw zero-add ok))

fits_below : (limit n : ℕ) (s : Shape) (a b : ℕ) → fits limit n s a b ≡ true → Below limit s n a b
fits_below limit n Truth a b ok = tt
fits_below limit n Falsehood a b ok = tt
fits_below limit n Atom a b ok = ltb-true a limit (and_left (ltb a limit) (eqb b 0) ok)
fits_below limit n (UnaryOf o) a b ok = ltb-true a n (and_left (ltb a n) (eqb b 0) ok)
fits_below limit n (BinaryOf o) a b ok = (ltb-true a n (and_left (ltb a n) (ltb b n) ok), ltb-true b n (and_right (ltb a n) (ltb b n) ok))
fits_below limit n Unused a b ok = false≢true ok

pub node-is : {limit : ℕ} {ws : List ℕ} (i k a b : ℕ) → Formed limit ws → i < length ws → k ≡ kind_of (get_or ws i 0) → a ≡ first_of (get_or ws i 0) → b ≡ second_of (get_or ws i 0)
    → NodeIs limit ws i (shape_of k) a b
node-is {limit} {ws} i k a b f h ek ea eb =
    rw (ek, ea, eb) (record {
      tree = tree-step limit ws i h (f.each i h);
      lower = fits_below limit i (shape_of (kind_of (get_or ws i 0))) (first_of (get_or ws i 0)) (second_of (get_or ws i 0)) (f.each i h);
    })

-- what the last arm of a `match` knows whose other arms are 0, 1, .., n - 1 in this order
abbrev pub Rest : ℕ → ℕ → Type 0
Rest zero k = Unit {0}
Rest (suc n) k = Rest n k × (k ≡ n → ⊥)

pub rest-above : (n k : ℕ) → Rest n k → n ≤ k
rest-above zero k r = omega arith
rest-above (suc n) k r = let h = rest-above n k r.0 in let g = r.1 in omega arith

-- a node that fits has one of the fourteen kinds
pub no_other : {limit : ℕ} {ws : List ℕ} {i a b : ℕ} (k : ℕ) → NodeIs limit ws i (shape_of k) a b → Rest kind_count k → ⊥
no_other {limit} {ws} {i} {a} {b} k n r =
    let e : shape_of k ≡ Unused = no_shape (rest-above kind_count k r) in
    let m : NodeIs limit ws i Unused a b = rw e at n in m.lower

-- the scan: one node more, the first that does not fit, and the end
module _ {A : Type 0} (limit : ℕ) (ws : List ℕ) (i : ℕ) (r : Result A) where
  pub scan_step : i < length ws → scanned limit i (drop i ws) r ≡ guard (node_fits limit i (get_or ws i 0)) 19 i (scanned limit (i + 1) (drop (i + 1) ws) r)
  unfolding scanned
  scan_step h = rw (add-one i, drop-cons ws i 0)

  pub scan-end : length ws ≤ i → scanned limit i (drop i ws) r ≡ r
  unfolding scanned
  scan-end h = rw drop_of_length-le

  pub scan-bad : {b : Bool} → i < length ws → b ≡ node_fits limit i (get_or ws i 0) → b ≡ false → scanned limit i (drop i ws) r ≡ Refused 19 i
  scan-bad h e f = scan_step h ∙ guard-stop 19 i (scanned limit (i + 1) (drop (i + 1) ws) r) (sym e ∙ f)

  pub scan_good : {b : Bool} → i < length ws → b ≡ node_fits limit i (get_or ws i 0) → b ≡ true → scanned limit i (drop i ws) r ≡ scanned limit (i + 1) (drop (i + 1) ws) r
  scan_good h e f = scan_step h ∙ guard-pass 19 i (scanned limit (i + 1) (drop (i + 1) ws) r) (sym e ∙ f)

each_fits : {A : Type 0} {a : A} (limit n : ℕ) (ws : List ℕ) → scanned limit n ws (Done a) ≡ Done a → (j : ℕ) → j < length ws → node_fits limit (n + j) (get_or ws j 0) ≡ true
unfolding scanned
each_fits limit n [] e j h = absurd (omega arith)
each_fits limit n (w ∷ ws) e zero h = rw add-zero (guard-done (node_fits limit n w) 19 n (scanned limit (suc n) ws (Done _)) e).0
each_fits limit n (w ∷ ws) e (suc j) h =
    let s : n + suc j ≡ suc n + j = omega arith in
    rw s (each_fits limit (suc n) ws (guard-done (node_fits limit n w) 19 n (scanned limit (suc n) ws (Done _)) e).1 j (omega arith))

scanned-done : {A : Type 0} {a b : A} (limit n : ℕ) (ws : List ℕ) → scanned limit n ws (Done a) ≡ Done b → a ≡ b
unfolding scanned
scanned-done limit n [] e = cc
scanned-done limit n (w ∷ ws) e = scanned-done limit (suc n) ws (guard-done (node_fits limit n w) 19 n (scanned limit (suc n) ws (Done _)) e).1

-- the three ways through the test
module _ (limit : ℕ) (ws : List ℕ) where
  pub checked-empty : length ws ≡ 0 → checked limit ws ≡ Refused 19 0
  unfolding checked
  checked-empty e = guard-stop 19 0 _ (le-ltb 0 (length ws) (omega arith))

  pub checked_many : max_nodes < length ws → checked limit ws ≡ Refused 19 max_nodes
  unfolding checked
  checked_many h = guard-pass 19 0 _ (lt-ltb 0 (length ws) (omega arith)) ∙ guard-stop 19 max_nodes _ (lt-leb (length ws) max_nodes h)

  pub checked-scan : (length ws ≡ 0 → ⊥) → length ws ≤ max_nodes → checked limit ws ≡ scanned limit 0 ws (counted limit ws)
  unfolding checked
  checked-scan h l = guard-pass 19 0 _ (lt-ltb 0 (length ws) (omega arith)) ∙ guard-pass 19 max_nodes _ (le-leb (length ws) max_nodes l)

-- what an accepted table is
pub record Accepts (limit : ℕ) (ws : List ℕ) (c : Counts) : Type 0 where
  pub formed : Formed limit ws
  pub counts : c ≡ record { nodes = length ws; signals = limit }

pub checked-done : {limit : ℕ} {ws : List ℕ} {c : Counts} → checked limit ws ≡ Done c → Accepts limit ws c
unfolding checked
checked-done {limit} {ws} {c} e =
    let all : Result Counts = scanned limit 0 ws (Done (record { nodes = length ws; signals = limit })) in
    let p = guard-done (ltb 0 (length ws)) 19 0 (guard (leb (length ws) max_nodes) 19 max_nodes all) e in
    let q = guard-done (leb (length ws) max_nodes) 19 max_nodes all p.1 in
    let s = scanned-done limit 0 ws q.1 in
    record {
      formed = record {
        some = ltb-true 0 (length ws) p.0;
        few = leb-true (length ws) max_nodes q.0;
        each = λ i h. rw zero-add at (each_fits limit 0 ws (q.1 ∙ ap Done (sym s)) i h);
      };
      counts = sym s;
    }

-- if each word fits, the scan comes to its end
pub all-scanned : {A : Type 0} (limit n : ℕ) (ws : List ℕ) (r : Result A) → all_fit limit n ws ≡ true → scanned limit n ws r ≡ r
unfolding all_fit scanned
all-scanned limit n [] r e = refl
all-scanned limit n (w ∷ ws) r e =
    guard-pass 19 n (scanned limit (suc n) ws r) (and_left (node_fits limit n w) (all_fit limit (suc n) ws) e)
    ∙ all-scanned limit (suc n) ws r (and_right (node_fits limit n w) (all_fit limit (suc n) ws) e)

-- one node more, and the end
module _ (limit : ℕ) (ws : List ℕ) (i : ℕ) where
  pub all-step : i < length ws → all_fit limit i (drop i ws) ≡ (node_fits limit i (get_or ws i 0) && all_fit limit (i + 1) (drop (i + 1) ws))
  unfolding all_fit
  all-step h = rw (add-one i, drop-cons ws i 0)

  pub all_end : length ws ≤ i → all_fit limit i (drop i ws) ≡ true
  unfolding all_fit
  all_end h = rw drop_of_length-le

  -- a node against the format lies before the end
  pub misfit-inside : all_fit limit i (drop i ws) ≡ false → i < length ws
  misfit-inside e = go (dec_lt i (length ws))
    where
      go : Dec (i < length ws) → i < length ws
      go (yes h) = h
      go (no h) = absurd (false≢true (sym e ∙ all_end (omega arith)))

  -- and after a node that fits
  pub misfit-after : {b : Bool} → b ≡ node_fits limit i (get_or ws i 0) → b ≡ true → all_fit limit i (drop i ws) ≡ false → all_fit limit (i + 1) (drop (i + 1) ws) ≡ false
  misfit-after f h e = ap (λ (t : Bool). t && all_fit limit (i + 1) (drop (i + 1) ws)) (sym h ∙ f) ∙ sym (all-step (misfit-inside e)) ∙ e
