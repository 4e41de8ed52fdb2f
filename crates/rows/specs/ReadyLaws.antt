-- Operands that are ready, how the kinds are told apart, and that a store at `base` changes no operand.
use Rattle.std.specs.Prelude.{ℕ, ◌+◌, ◌-◌, ◌≤◌, ◌<◌, ◌≡◌, refl, Bool, ◌⊎◌, ◌≢◌, List, length, set}
use Rattle.std.proofs.Common.{sym, ap, ap₂, subst, inl, inr, arith, length-set}
use Rattle.std.proofs.Math.Decide.{ℕ_discrete, dec_lt}
use Rattle.node.specs.Ltl.{Not, X, G, F, And, Or, Implies, Iff, U, R, W}
use Rattle.node.specs.Kinds.{Unused, shape_of, unary_kind, binary_kind, kind_count}
use Rattle.node.proofs.KindLaws.{no_shape}
use Rattle.rows.specs.Memory.{rows_limit, bits_at, Kept, Filled, Written}
use Rattle.rows.specs.MemoryLaws.{kept-agree, last-kept, written, written_as}
use Rattle.bits.specs.Bits.{Values, width}
use Rattle.recordings.specs.Recording.{letter_of}
use Rattle.rows.specs.Shapes.{Agree, Uses, shape_row}
use Rattle.rows.specs.RowLaws.{uses-map, shape_ext}
use Rattle.rows.specs.Steps.{step_of, pair_of, loop_of}
use Rattle.recordings.specs.declared.Lasso.{Lasso}
use Rattle.rows.specs.declared.Op.{Op}
use Rattle.rows.specs.Ready.{Ready, Inside, Operands, op_row, partner, pair_op, Placed, Plain, Boolean, Temporal, op_step, pair_row, loop_row}

-- the row of a node whose last byte was cleared
pub ready-cleared : {bs rows : List ℕ} {w : Lasso} {op : Op} {base : ℕ} (at v : ℕ) → Ready bs rows w op base → Ready bs (set rows at v) w op base
ready-cleared {rows = rows} {w = w} {base = base} at v r =
    record { recorded = r.recorded; room = subst (λ x. base + width w.n ≤ x) (sym (length-set rows at v)) r.room; low = r.low; uses = r.uses }

inside : (n at base : ℕ) (rows : List ℕ) → base + width n ≤ length rows → base ≤ rows_limit → at + width n ≤ base → Inside n at rows
inside n at base rows room low h = (omega arith, omega arith)

pub operands : {bs rows : List ℕ} {w : Lasso} {op : Op} {base : ℕ} → Ready bs rows w op base → Operands bs rows w op
operands {bs} {rows} {w} {op} {base} r = record {
  recorded = r.recorded;
  uses = uses-map (shape_of op.kind) (inside w.n op.first base rows r.room r.low)
      (inside w.n op.second base rows r.room r.low) r.uses;
}

-- a store at `base` changes no operand
pub same_row : {bs old new : List ℕ} {w : Lasso} {op : Op} {base : ℕ} → Ready bs old w op base → Kept base (width w.n) old new
    → Agree w.n (op_row bs new w op) (op_row bs old w op)
same_row {bs} {old} {new} {w} {op} {base} r k =
    shape_ext w.n w.l (letter_of bs w.k) (shape_of op.kind) op.signal (bits_at new op.first) (bits_at new op.second)
    (bits_at old op.first) (bits_at old op.second) r.recorded.loop
    (uses-map (shape_of op.kind) (λ h. kept-agree w.n base op.first k h) (λ h. kept-agree w.n base op.second k h) r.uses)

pub ready-still : {bs old new : List ℕ} {w : Lasso} {op : Op} {base : ℕ} → Ready bs old w op base → Kept base (width w.n) old new → Ready bs new w op base
ready-still {bs} {old} {new} {w} {op} {base} r k =
    record { recorded = r.recorded; room = subst (λ x. base + width w.n ≤ x) (sym k.size) r.room; low = r.low; uses = r.uses }

-- the kinds from `!` to `<->`
pub boolean : (P : ℕ → Type 0) → P (unary_kind Not) → P (binary_kind And) → P (binary_kind Or) → P (binary_kind Implies) → P (binary_kind Iff) → (k : ℕ) → unary_kind Not ≤ k → k < unary_kind X → P k
boolean P a b c d f k h l = go (ℕ_discrete k (unary_kind Not)) (ℕ_discrete k (binary_kind And)) (ℕ_discrete k (binary_kind Or)) (ℕ_discrete k (binary_kind Implies))
  where
    go : Dec (k ≡ unary_kind Not) → Dec (k ≡ binary_kind And) → Dec (k ≡ binary_kind Or) → Dec (k ≡ binary_kind Implies) → P k
    go (yes e) y z w = subst P (sym e) a
    go (no n) (yes e) z w = subst P (sym e) b
    go (no n) (no m) (yes e) w = subst P (sym e) c
    go (no n) (no m) (no o) (yes e) = subst P (sym e) d
    go (no n) (no m) (no o) (no q) = let e : k ≡ binary_kind Iff = omega arith in subst P (sym e) f

-- the kinds from G to W
temporal : (P : ℕ → Type 0) → P (unary_kind G) → P (unary_kind F) → P (binary_kind U) → P (binary_kind R) → P (binary_kind W) → (k : ℕ) → unary_kind G ≤ k → k < kind_count → P k
temporal P a b c d f k h l = go (ℕ_discrete k (unary_kind G)) (ℕ_discrete k (unary_kind F)) (ℕ_discrete k (binary_kind U)) (ℕ_discrete k (binary_kind R))
  where
    go : Dec (k ≡ unary_kind G) → Dec (k ≡ unary_kind F) → Dec (k ≡ binary_kind U) → Dec (k ≡ binary_kind R) → P k
    go (yes e) y z w = subst P (sym e) a
    go (no n) (yes e) z w = subst P (sym e) b
    go (no n) (no m) (yes e) w = subst P (sym e) c
    go (no n) (no m) (no o) (yes e) = subst P (sym e) d
    go (no n) (no m) (no o) (no q) = let e : k ≡ binary_kind W = omega arith in subst P (sym e) f

-- a node in order has one of the fourteen kinds
pub kind-lt : (k : ℕ) (A B : Type 0) → Uses (shape_of k) A B → k < kind_count
kind-lt k A B u = go (dec_lt k kind_count)
  where
    go : Dec (k < kind_count) → k < kind_count
    go (yes h) = h
    go (no h) =
        let m : kind_count ≤ k = omega arith in
        let e : shape_of k ≡ Unused = no_shape m in absurd (subst (λ s. Uses s A B) e u)

boolean-uses : (A : ℕ → Type 0) (x y k : ℕ) → unary_kind Not ≤ k → k < unary_kind X → Uses (shape_of k) (A x) (A y) → A x × A (partner (shape_of k) x y)
boolean-uses A x y = boolean (λ k. Uses (shape_of k) (A x) (A y) → A x × A (partner (shape_of k) x y)) (λ u. (u, u)) (λ u. u) (λ u. u) (λ u. u) (λ u. u)

temporal-uses : (A : ℕ → Type 0) (x y k : ℕ) → unary_kind G ≤ k → k < kind_count → Uses (shape_of k) (A x) (A y) → A x × A (partner (shape_of k) x y)
temporal-uses A x y = temporal (λ k. Uses (shape_of k) (A x) (A y) → A x × A (partner (shape_of k) x y)) (λ u. (u, u)) (λ u. (u, u)) (λ u. u) (λ u. u) (λ u. u)

boolean-row : (n l : ℕ) (letter : ℕ → ℕ → Bool) (signal : ℕ) (a : ℕ → Values) (x y p k : ℕ) → unary_kind Not ≤ k → k < unary_kind X
    → pair_of (shape_of k) (a x p) (a (partner (shape_of k) x y) p) ≡ shape_row n l letter (shape_of k) signal (a x) (a y) p
boolean-row n l letter signal a x y p =
    boolean (λ k. pair_of (shape_of k) (a x p) (a (partner (shape_of k) x y) p) ≡ shape_row n l letter (shape_of k) signal (a x) (a y) p) refl refl refl refl refl

temporal-row : (n l : ℕ) (letter : ℕ → ℕ → Bool) (signal : ℕ) (a : ℕ → Values) (x y p k : ℕ) → unary_kind G ≤ k → k < kind_count
    → loop_of n l (shape_of k) (a x) (a (partner (shape_of k) x y)) p ≡ shape_row n l letter (shape_of k) signal (a x) (a y) p
temporal-row n l letter signal a x y p =
    temporal (λ k. loop_of n l (shape_of k) (a x) (a (partner (shape_of k) x y)) p ≡ shape_row n l letter (shape_of k) signal (a x) (a y) p) refl refl refl refl refl

boolean-two : (x y k : ℕ) → unary_kind Not ≤ k → k < unary_kind X → k ≢ unary_kind Not → partner (shape_of k) x y ≡ y
boolean-two x y = boolean (λ k. k ≢ unary_kind Not → partner (shape_of k) x y ≡ y) (λ d. absurd (d refl)) (λ d. refl) (λ d. refl) (λ d. refl) (λ d. refl)

temporal-two : (x y k : ℕ) → unary_kind G ≤ k → k < kind_count → k ≢ unary_kind G → k ≢ unary_kind F → partner (shape_of k) x y ≡ y
temporal-two x y = temporal (λ k. k ≢ unary_kind G → k ≢ unary_kind F → partner (shape_of k) x y ≡ y) (λ d e. absurd (d refl)) (λ d e. absurd (e refl)) (λ d e. refl) (λ d e. refl) (λ d e. refl)

-- an operator of two operands has its own
pub pair_two : (op : Op) → Boolean op ⊎ Temporal op → op.kind ≢ unary_kind Not → op.kind ≢ unary_kind G → op.kind ≢ unary_kind F → op ≡ pair_op op
pair_two op (inl h) a b c = ap (λ y. record { kind = op.kind; signal = op.signal; first = op.first; second = y }) (sym (boolean-two op.first op.second op.kind h.0 h.1 a))
pair_two op (inr h) a b c = ap (λ y. record { kind = op.kind; signal = op.signal; first = op.first; second = y }) (sym (temporal-two op.first op.second op.kind h.0 h.1 b c))

placed : {bs rows : List ℕ} {w : Lasso} {op : Op} {base : ℕ} → Ready bs rows w op base
    → (op.first + width w.n ≤ base) × (partner (shape_of op.kind) op.first op.second + width w.n ≤ base) → Placed rows w.n (pair_op op) base
placed r u = record { few = r.recorded.few; room = r.room; low = r.low; first_in_lem = u.0; second_in = u.1 }

module _ {bs rows : List ℕ} {w : Lasso} {op : Op} {base : ℕ} (r : Ready bs rows w op base) where
  pub boolean-placed : Boolean op → Placed rows w.n (pair_op op) base
  boolean-placed b = placed r (boolean-uses (λ x. x + width w.n ≤ base) op.first op.second op.kind b.0 b.1 r.uses)

  pub temporal-placed : Temporal op → Placed rows w.n (pair_op op) base
  temporal-placed b = placed r (temporal-uses (λ x. x + width w.n ≤ base) op.first op.second op.kind b.0 b.1 r.uses)

-- fewer positions
pub placed-part : {rows : List ℕ} {n : ℕ} {op : Op} {base : ℕ} (m : ℕ) → Placed rows n op base → m ≤ n → Placed rows m op base
placed-part m r h =
    record { few = omega (arith, r.few); room = omega (arith, r.room); low = r.low; first_in_lem = omega (arith, r.first_in_lem); second_in = omega (arith, r.second_in) }

pub placed-still : {old new : List ℕ} {n : ℕ} {op : Op} {base : ℕ} → Placed old n op base → length new ≡ length old → Placed new n op base
placed-still {n = n} {base = base} r e = record { few = r.few; room = subst (λ x. base + width n ≤ x) (sym e) r.room; low = r.low; first_in_lem = r.first_in_lem; second_in = r.second_in }

-- a store at `base` changes no step
pub same_step : {old new : List ℕ} {n : ℕ} {op : Op} {base : ℕ} → Placed old n op base → Kept base (width n) old new
    → (q : ℕ) → q < n → (v : Bool) → op_step new op q v ≡ op_step old op q v
same_step {old} {new} {n} {op} {base} r k q h v =
    ap₂ (λ x y. step_of (shape_of op.kind) x y v) (kept-agree n base op.first k r.first_in_lem q h) (kept-agree n base op.second k r.second_in q h)

pub boolean-is : (bs rows : List ℕ) (w : Lasso) (op : Op) → Boolean op → (p : ℕ) → pair_row rows (pair_op op) p ≡ op_row bs rows w op p
boolean-is bs rows w op b p = boolean-row w.n w.l (letter_of bs w.k) op.signal (bits_at rows) op.first op.second p op.kind b.0 b.1

pub temporal-is : (bs rows : List ℕ) (w : Lasso) (op : Op) → Temporal op → (p : ℕ) → loop_row rows w (pair_op op) p ≡ op_row bs rows w op p
temporal-is bs rows w op b p = temporal-row w.n w.l (letter_of bs w.k) op.signal (bits_at rows) op.first op.second p op.kind b.0 b.1

-- the last byte cleared, and then all positions filled
pub other_written : {bs old new : List ℕ} {w : Lasso} {op : Op} {base : ℕ} → Ready bs old w op base
    → Filled w.n base (op_row bs (set old (base + width w.n - 1) 0) w op) (set old (base + width w.n - 1) 0) new → Written w.n base (op_row bs old w op) old new
other_written {bs} {old} {new} {w} {op} {base} r h =
    let pos : 0 < w.n = (let l = r.recorded.loop in omega arith) in
    written_as w.n base _ _ (written w.n base _ pos r.room h) (same_row r (last-kept w.n base old pos))

pub is_plain : (op : Op) → Plain op ⊎ Temporal op → op.kind < unary_kind G → Plain op
is_plain op (inl p) h = p
is_plain op (inr t) h = absurd (let l = t.0 in omega arith)

pub is-temporal : (op : Op) → Plain op ⊎ Temporal op → unary_kind G ≤ op.kind → Temporal op
is-temporal op (inl (inl l)) h = absurd (omega arith)
is-temporal op (inl (inr e)) h = absurd (omega arith)
is-temporal op (inr t) h = t

-- kinds from X on
pub late : (op : Op) → unary_kind X ≤ op.kind → op.kind < kind_count → Plain op ⊎ Temporal op
late op h l = go (ℕ_discrete op.kind (unary_kind X))
  where
    go : Dec (op.kind ≡ unary_kind X) → Plain op ⊎ Temporal op
    go (yes e) = inl (inr e)
    go (no d) = inr (omega arith, l)
