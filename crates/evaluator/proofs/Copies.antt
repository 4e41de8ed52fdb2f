-- A row copied: two nodes of the same word have the same formula, so the same row.
use Rattle.std.specs.Prelude.{ℕ, ◌*◌, ◌<◌, ◌≡◌, List, length, get_or}
use Rattle.std.proofs.Common.{sym, ap, ◌∙◌, arith}
use Rattle.node.specs.Fields.{kind_of, first_of, second_of}
use Rattle.node.specs.Kinds.{shape_of, build}
use Rattle.node.specs.Table.{tree_at}
use Rattle.bits.specs.Bits.{width}
use Rattle.recordings.specs.Recording.{letter_of}
use Rattle.recordings.specs.declared.Lasso.{Lasso}
use Rattle.rows.specs.Row.{row, shown}
use Rattle.rows.specs.Memory.{Copied}
use Rattle.rows.specs.MemoryLaws.{copied_bit}
use Rattle.evaluator.specs.Evaluated.{Trees, Turn, RowDone}

-- the same word, the same formula
same-tree : (ws : List ℕ) (i j : ℕ) → Trees ws → i < length ws → j < length ws → get_or ws j 0 ≡ get_or ws i 0 → tree_at ws i ≡ tree_at ws j
same-tree ws i j t hi hj e =
    (t.each i hi).tree ∙ ap (λ x. build (shape_of (kind_of x)) (tree_at ws) (first_of x) (second_of x)) (sym e) ∙ sym (t.each j hj).tree

pub copy_done : (ws bs : List ℕ) (w : Lasso) (i j : ℕ) {old new : List ℕ} → Turn ws bs w i old → j < i → get_or ws j 0 ≡ get_or ws i 0
    → Copied (width w.n * j) (width w.n * i) (width w.n) (width w.n) old new → RowDone bs w ws i old new
copy_done ws bs w i j {old} {new} t h e c =
    let hi = t.here in
    let q = same-tree ws i j t.trees hi (omega arith) e in
    record {
      kept = c.kept;
      right = λ p l. copied_bit (width w.n * j) (width w.n * i) (width w.n) c p l ∙ t.right j h p l
          ∙ ap (λ f. shown w.n (row w.n w.l (letter_of bs w.k) f) p) (sym q);
    }
