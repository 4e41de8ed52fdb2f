-- The rows of a table one after the other, each from those before it.
use Rattle.std.specs.Prelude.{ℕ, suc, ◌+◌, ◌*◌, ◌≤◌, ◌<◌, ◌≡◌, refl, List, length, get_or}
use Rattle.std.proofs.Common.{sym, ap, ◌∙◌, subst, mul-le-mul_left, mul-le-mul, arith}
use Rattle.std.proofs.Math.Decide.{ℕ_discrete}
use Rattle.node.specs.Limits.{field_limit}
use Rattle.node.specs.Fields.{kind_of, first_of, second_of}
use Rattle.node.specs.Kinds.{Shape, Truth, Falsehood, Atom, UnaryOf, BinaryOf, Unused, shape_of}
use Rattle.node.specs.Table.{tree_at}
use Rattle.node.specs.Formed.{Formed, Below}
use Rattle.node.proofs.TableLaws.{node-is}
use Rattle.recordings.specs.Limits.{max_positions}
use Rattle.rows.specs.Memory.{row_bytes, rows_limit, bits_at, Written}
use Rattle.rows.specs.MemoryLaws.{kept_row, written_as}
use Rattle.bits.specs.Bits.{width}
use Rattle.recordings.specs.Recording.{letter_of}
use Rattle.rows.specs.Row.{row, node_row}
use Rattle.rows.specs.Shapes.{Agree, Uses}
use Rattle.rows.specs.RowLaws.{uses-map, shape_ext, row-build, shown_in}
use Rattle.recordings.specs.Promise.{Recorded}
use Rattle.rows.specs.Ready.{Ready, op_row}
use Rattle.recordings.specs.declared.Lasso.{Lasso}
use Rattle.rows.specs.declared.Op.{Op}
use Rattle.evaluator.specs.Evaluated.{NodeOf, Trees, RightRow, Evaluated, RowDone, Turn, Table}

below-uses : (limit : ℕ) (s : Shape) (n a b : ℕ) → Below limit s n a b → Uses s (a < n) (b < n)
below-uses limit Truth n a b h = tt
below-uses limit Falsehood n a b h = tt
below-uses limit Atom n a b h = tt
below-uses limit (UnaryOf o) n a b h = h
below-uses limit (BinaryOf o) n a b h = h
below-uses limit Unused n a b h = h

pub trees_of : {limit : ℕ} {ws : List ℕ} → Formed limit ws → Trees ws
trees_of {limit} {ws} f =
    record {
      few = f.few;
      each = λ i h.
          let m = node-is i (kind_of (get_or ws i 0)) (first_of (get_or ws i 0)) (second_of (get_or ws i 0)) f h refl refl refl in
          record { tree = m.tree; uses = below-uses limit (shape_of (kind_of (get_or ws i 0))) i (first_of (get_or ws i 0)) (second_of (get_or ws i 0)) m.lower };
    }

pub evaluated_none : (bs : List ℕ) (w : Lasso) (ws rows : List ℕ) → Evaluated bs w ws 0 rows rows
evaluated_none bs w ws rows = record { size = refl; right = λ i h. absurd (omega arith); beyond = λ k h. refl }

-- a row ends before the next begins
pub before-row : (v i j : ℕ) → i < j → v * i + v ≤ v * j
before-row v i j h = let m : v * suc i ≤ v * j = mul-le-mul_left v h in omega arith

pub evaluated_more : (bs : List ℕ) (w : Lasso) (ws : List ℕ) (i : ℕ) {old mid new : List ℕ} → Evaluated bs w ws i old mid → RowDone bs w ws i mid new → Evaluated bs w ws (i + 1) old new
evaluated_more bs w ws i {old} {mid} {new} e d =
    record { size = d.kept.size ∙ e.size; right = λ j h. go j h (ℕ_discrete j i); beyond = λ k h. past k h }
  where
    v : ℕ
    v = width w.n

    past : (k : ℕ) → v * (i + 1) ≤ k → get_or new k 0 ≡ get_or old k 0
    past k h = let m = before-row v i (i + 1) (omega arith) in d.kept.beyond k (omega arith) ∙ e.beyond k (omega arith)

    go : (j : ℕ) → j < i + 1 → Dec (j ≡ i) → RightRow bs w ws new j
    go j h (yes q) = subst (λ x. RightRow bs w ws new x) (sym q) d.right
    go j h (no q) = λ p l. kept_row w.n (v * i) (v * j) d.kept (before-row v j i (omega arith)) p l ∙ e.right j (omega arith) p l

-- an operator of kind k, signal number or first operand x, second operand y
abbrev pub op_of : ℕ → ℕ → ℕ → ℕ → Op
op_of v k x y = record { kind = k; signal = x; first = v * x; second = v * y }

pub ready_of : (bs rows : List ℕ) (w : Lasso) (ws : List ℕ) (i k x y : ℕ) → Recorded bs w → width w.n * i + width w.n ≤ length rows → width w.n * i ≤ rows_limit
    → NodeOf ws i (shape_of k) x y → Ready bs rows w (op_of (width w.n) k x y) (width w.n * i)
ready_of bs rows w ws i k x y r room low t =
    record { recorded = r; room = room; low = low; uses = uses-map (shape_of k) (λ h. before-row (width w.n) x i h) (λ h. before-row (width w.n) y i h) t.uses }

-- a row written from its operands' rows is right
pub row_done : (bs : List ℕ) (w : Lasso) (ws : List ℕ) (i k x y : ℕ) {old new : List ℕ} → w.l < w.n → ((j : ℕ) → j < i → RightRow bs w ws old j) → NodeOf ws i (shape_of k) x y
    → Written w.n (width w.n * i) (op_row bs old w (op_of (width w.n) k x y)) old new → RowDone bs w ws i old new
row_done bs w ws i k x y {old} {new} inside r t f = record { kept = f.kept; right = (written_as n (v * i) (op_row bs old w (op_of v k x y)) (node_row bs w ws i) f value).right }
  where
    n : ℕ
    n = w.n

    v : ℕ
    v = width n

    agree : (j : ℕ) → j < i → Agree n (bits_at old (v * j)) (node_row bs w ws j)
    agree j h q l = r j h q (omega arith) ∙ shown_in n (node_row bs w ws j) q l

    value : (p : ℕ) → p < n → op_row bs old w (op_of v k x y) p ≡ node_row bs w ws i p
    value p l =
        shape_ext n w.l (letter_of bs w.k) (shape_of k) x (bits_at old (v * x)) (bits_at old (v * y)) (node_row bs w ws x) (node_row bs w ws y) inside
        (uses-map (shape_of k) (agree x) (agree y) t.uses) p l
        ∙ sym (row-build n w.l (letter_of bs w.k) (shape_of k) (tree_at ws) x y p)
        ∙ ap (λ f. row n w.l (letter_of bs w.k) f p) (sym t.tree)

-- the offset of a row fits
pub offset_fits : (n x : ℕ) → n ≤ max_positions → x < field_limit → width n * x ≤ rows_limit
offset_fits n x h l = let v : width n ≤ row_bytes = omega arith in let m : x ≤ field_limit = omega arith in mul-le-mul v m

-- row i lies in the buffer, and begins below the limit
pub row_room : (ws bs : List ℕ) (w : Lasso) (i : ℕ) (rows : List ℕ) → Turn ws bs w i rows → (width w.n * i + width w.n ≤ length rows) × (width w.n * i ≤ rows_limit)
row_room ws bs w i rows t =
    let h = t.here in
    let f = t.trees.few in
    let m = before-row (width w.n) i (length ws) h in
    let r = t.room in
    (omega arith, offset_fits w.n i t.recorded.few (omega arith))

pub turn_of : (ws bs : List ℕ) (w : Lasso) (i : ℕ) {old mid : List ℕ} → Table ws bs w old → Evaluated bs w ws i old mid → i < length ws → Turn ws bs w i mid
turn_of ws bs w i t e h =
    record { trees = t.trees; recorded = t.recorded; here = h; room = subst (λ x. width w.n * length ws ≤ x) (sym e.size) t.room; right = e.right }
