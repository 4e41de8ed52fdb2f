-- Laws of rows: sweeps step by step and turned over, the row of a node from its operands' rows.
use Rattle.std.specs.Prelude.{ℕ, zero, suc, ◌+◌, ◌-◌, ◌≤◌, ◌<◌, ◌≡◌, refl, Bool, true, false, not, ◌&&◌, ◌||◌}
use Rattle.std.proofs.Common.{sym, ap, ap₂, ◌∙◌, arith, lt-ltb, le-ltb}
use Rattle.std.specs.Bool.{beq}
use Rattle.std.proofs.Math.Bool.{not-not}
use Rattle.node.specs.Ltl.{Unary, Not, X, G, F, Binary, And, Or, Implies, Iff, U, R, W, Formula}
use Rattle.node.specs.Kinds.{Shape, Truth, Falsehood, Atom, UnaryOf, BinaryOf, Unused, build}
use Rattle.bits.specs.Bits.{Values}
use Rattle.recordings.specs.Lasso.{next}
use Rattle.recordings.specs.LassoLaws.{next-lt}
use Rattle.rows.specs.Row.{sweep_from, sweep, around, row_unary, row_binary, row, shown}
use Rattle.rows.specs.Shapes.{Uses, shape_row, Agree}

pub sweep-end : (n : ℕ) (f : ℕ → Bool → Bool) (s : Bool) → sweep n f s n ≡ s
unfolding sweep_from
sweep-end n f s = let e : n - n ≡ 0 = omega arith in rw e

pub sweep-step : (n : ℕ) (f : ℕ → Bool → Bool) (s : Bool) (p : ℕ) → p < n → sweep n f s p ≡ f p (sweep n f s (suc p))
unfolding sweep_from
sweep-step n f s p h = let e : n - p ≡ suc (n - suc p) = omega arith in rw e

pub sweep_ext : (n : ℕ) (f g : ℕ → Bool → Bool) (s : Bool) → ((q : ℕ) → q < n → (v : Bool) → f q v ≡ g q v) → (p : ℕ) → sweep n f s p ≡ sweep n g s p
unfolding sweep_from
sweep_ext n f g s h p = go p (n - p) (λ q l m. h q (omega arith))
  where
    go : (p k : ℕ) → ((q : ℕ) → p ≤ q → q < p + k → (v : Bool) → f q v ≡ g q v) → sweep_from f s p k ≡ sweep_from g s p k
    go p zero e = refl
    go p (suc k) e = e p (omega arith) (omega arith) (sweep_from f s (suc p) k) ∙ ap (g p) (go (suc p) k (λ q l m. e q (omega arith) (omega arith)))

pub around_ext : (n l : ℕ) (f g : ℕ → Bool → Bool) (s : Bool) → ((q : ℕ) → q < n → (v : Bool) → f q v ≡ g q v) → (p : ℕ) → around n l s f p ≡ around n l s g p
unfolding around
around_ext n l f g s h p = ap (λ x. sweep n f x p) (sweep_ext n f g s h l) ∙ sweep_ext n f g (sweep n g s l) h p

-- turned over: each value the contrary
abbrev pub dual : (ℕ → Bool → Bool) → ℕ → Bool → Bool
dual f q v = not (f q (not v))

sweep-dual : (f : ℕ → Bool → Bool) (s : Bool) (p k : ℕ) → not (sweep_from f s p k) ≡ sweep_from (dual f) (not s) p k
unfolding sweep_from
sweep-dual f s p zero = refl
sweep-dual f s p (suc k) =
    ap (λ x. not (f p x)) (sym (not-not (sweep_from f s (suc p) k))) ∙ ap (λ x. not (f p (not x))) (sweep-dual f s (suc p) k)

pub around-dual : (n l : ℕ) (s : Bool) (f : ℕ → Bool → Bool) (p : ℕ) → not (around n l s f p) ≡ around n l (not s) (dual f) p
unfolding around
around-dual n l s f p = sweep-dual f (sweep n f s l) p (n - p) ∙ ap (λ x. sweep n (dual f) x p) (sweep-dual f s l (n - l))

pub row-build : (n l : ℕ) (letter : ℕ → ℕ → Bool) (s : Shape) (t : ℕ → Formula) (x y p : ℕ)
    → row n l letter (build s t x y) p ≡ shape_row n l letter s x (row n l letter (t x)) (row n l letter (t y)) p
unfolding row
row-build n l letter Truth t x y p = refl
row-build n l letter Falsehood t x y p = refl
row-build n l letter Atom t x y p = refl
row-build n l letter (UnaryOf o) t x y p = refl
row-build n l letter (BinaryOf o) t x y p = refl
row-build n l letter Unused t x y p = refl

pub uses-map : (s : Shape) {A B C D : Type 0} → (A → C) → (B → D) → Uses s A B → Uses s C D
uses-map Truth f g u = tt
uses-map Falsehood f g u = tt
uses-map Atom f g u = tt
uses-map (UnaryOf o) f g u = f u
uses-map (BinaryOf o) f g u = (f u.0, g u.1)
uses-map Unused f g u = u

row_unary_ext : (n l : ℕ) (o : Unary) (a c : Values) → l < n → Agree n a c → Agree n (row_unary n l o a) (row_unary n l o c)
row_unary_ext n l Not a c h e p m = ap not (e p m)
row_unary_ext n l X a c h e p m = e (next n l p) (next-lt n l p h)
row_unary_ext n l G a c h e p m = around_ext n l _ _ true (λ q k v. ap (λ x. x && v) (e q k)) p
row_unary_ext n l F a c h e p m = around_ext n l _ _ false (λ q k v. ap (λ x. x || v) (e q k)) p

row_binary_ext : (n l : ℕ) (o : Binary) (a b c d : Values) → Agree n a c → Agree n b d → Agree n (row_binary n l o a b) (row_binary n l o c d)
row_binary_ext n l And a b c d e f p m = ap₂ ◌&&◌ (e p m) (f p m)
row_binary_ext n l Or a b c d e f p m = ap₂ ◌||◌ (e p m) (f p m)
row_binary_ext n l Implies a b c d e f p m = ap₂ (λ x y. not x || y) (e p m) (f p m)
row_binary_ext n l Iff a b c d e f p m = ap₂ beq (e p m) (f p m)
row_binary_ext n l U a b c d e f p m = around_ext n l _ _ false (λ q k v. ap₂ (λ x y. y || (x && v)) (e q k) (f q k)) p
row_binary_ext n l R a b c d e f p m = around_ext n l _ _ true (λ q k v. ap₂ (λ x y. y && (x || v)) (e q k) (f q k)) p
row_binary_ext n l W a b c d e f p m = around_ext n l _ _ true (λ q k v. ap₂ (λ x y. y || (x && v)) (e q k) (f q k)) p

pub shape_ext : (n l : ℕ) (letter : ℕ → ℕ → Bool) (s : Shape) (x : ℕ) (a b c d : Values) → l < n → Uses s (Agree n a c) (Agree n b d)
    → Agree n (shape_row n l letter s x a b) (shape_row n l letter s x c d)
shape_ext n l letter Truth x a b c d h u p m = refl
shape_ext n l letter Falsehood x a b c d h u p m = refl
shape_ext n l letter Atom x a b c d h u p m = refl
shape_ext n l letter (UnaryOf o) x a b c d h u p m = row_unary_ext n l o a c h u p m
shape_ext n l letter (BinaryOf o) x a b c d h u p m = row_binary_ext n l o a b c d u.0 u.1 p m
shape_ext n l letter Unused x a b c d h u p m = refl

pub shown_in : (n : ℕ) (f : Values) (p : ℕ) → p < n → shown n f p ≡ f p
shown_in n f p h = ap (λ b. b && f p) (lt-ltb p n h)

pub shown_out : (n : ℕ) (f : Values) (p : ℕ) → n ≤ p → shown n f p ≡ false
shown_out n f p h = ap (λ b. b && f p) (le-ltb p n h)
