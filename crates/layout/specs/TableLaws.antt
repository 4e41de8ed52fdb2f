-- What stands in the table of pieces, by one computed test.
use Rattle.std.specs.Prelude.{ℕ, ◌+◌, ◌<◌, ◌≤◌, ◌≡◌, refl, Bool, true, false, not, List, eqb, length, get_or}
use Rattle.std.proofs.Common.{ap, ◌∙◌, arith}
use Rattle.node.specs.Kinds.{kind_count, shape_of}
use Rattle.node.proofs.KindLaws.{Each, each_below}
use Rattle.language.specs.Bytes.{if◌then◌otherwise◌}
use Rattle.signal_names.specs.Promise.{part, Puts}
use Rattle.layout.specs.Layout.{piece}
use Rattle.layout.specs.Table.{table, row_at, following}

-- a row of the table
pub record Row (kind done : ℕ) : Type 0 where
  pub size : get_or table (row_at kind done) 0 ≡ length (piece (shape_of kind) done)
  pub more : get_or table (row_at kind done + 1) 0 ≡ (if following (shape_of kind) done then 1 otherwise 0)
  pub bytes : part table (row_at kind done + 2) (length (piece (shape_of kind) done)) ≡ piece (shape_of kind) done
  pub short : length (piece (shape_of kind) done) ≤ 10
  pub inside : row_at kind done + 2 + length (piece (shape_of kind) done) ≤ 504

abbrev Rows : ℕ → Type 0
Rows kind = Each (Row kind) 3

row_0 : Rows 0
unfolding table
row_0 = (
  (
    (tt, record { size = refl; more = refl; bytes = refl; inside = omega arith; short = omega arith }),
    record { size = refl; more = refl; bytes = refl; inside = omega arith; short = omega arith },
  ),
  record { size = refl; more = refl; bytes = refl; inside = omega arith; short = omega arith },
)

row_1 : Rows 1
unfolding table
row_1 = (
  (
    (tt, record { size = refl; more = refl; bytes = refl; inside = omega arith; short = omega arith }),
    record { size = refl; more = refl; bytes = refl; inside = omega arith; short = omega arith },
  ),
  record { size = refl; more = refl; bytes = refl; inside = omega arith; short = omega arith },
)

row_2 : Rows 2
unfolding table
row_2 = (
  (
    (tt, record { size = refl; more = refl; bytes = refl; inside = omega arith; short = omega arith }),
    record { size = refl; more = refl; bytes = refl; inside = omega arith; short = omega arith },
  ),
  record { size = refl; more = refl; bytes = refl; inside = omega arith; short = omega arith },
)

row_3 : Rows 3
unfolding table
row_3 = (
  (
    (tt, record { size = refl; more = refl; bytes = refl; inside = omega arith; short = omega arith }),
    record { size = refl; more = refl; bytes = refl; inside = omega arith; short = omega arith },
  ),
  record { size = refl; more = refl; bytes = refl; inside = omega arith; short = omega arith },
)

row_4 : Rows 4
unfolding table
row_4 = (
  (
    (tt, record { size = refl; more = refl; bytes = refl; inside = omega arith; short = omega arith }),
    record { size = refl; more = refl; bytes = refl; inside = omega arith; short = omega arith },
  ),
  record { size = refl; more = refl; bytes = refl; inside = omega arith; short = omega arith },
)

row_5 : Rows 5
unfolding table
row_5 = (
  (
    (tt, record { size = refl; more = refl; bytes = refl; inside = omega arith; short = omega arith }),
    record { size = refl; more = refl; bytes = refl; inside = omega arith; short = omega arith },
  ),
  record { size = refl; more = refl; bytes = refl; inside = omega arith; short = omega arith },
)

row_6 : Rows 6
unfolding table
row_6 = (
  (
    (tt, record { size = refl; more = refl; bytes = refl; inside = omega arith; short = omega arith }),
    record { size = refl; more = refl; bytes = refl; inside = omega arith; short = omega arith },
  ),
  record { size = refl; more = refl; bytes = refl; inside = omega arith; short = omega arith },
)

row_7 : Rows 7
unfolding table
row_7 = (
  (
    (tt, record { size = refl; more = refl; bytes = refl; inside = omega arith; short = omega arith }),
    record { size = refl; more = refl; bytes = refl; inside = omega arith; short = omega arith },
  ),
  record { size = refl; more = refl; bytes = refl; inside = omega arith; short = omega arith },
)

row_8 : Rows 8
unfolding table
row_8 = (
  (
    (tt, record { size = refl; more = refl; bytes = refl; inside = omega arith; short = omega arith }),
    record { size = refl; more = refl; bytes = refl; inside = omega arith; short = omega arith },
  ),
  record { size = refl; more = refl; bytes = refl; inside = omega arith; short = omega arith },
)

row_9 : Rows 9
unfolding table
row_9 = (
  (
    (tt, record { size = refl; more = refl; bytes = refl; inside = omega arith; short = omega arith }),
    record { size = refl; more = refl; bytes = refl; inside = omega arith; short = omega arith },
  ),
  record { size = refl; more = refl; bytes = refl; inside = omega arith; short = omega arith },
)

row_10 : Rows 10
unfolding table
row_10 = (
  (
    (tt, record { size = refl; more = refl; bytes = refl; inside = omega arith; short = omega arith }),
    record { size = refl; more = refl; bytes = refl; inside = omega arith; short = omega arith },
  ),
  record { size = refl; more = refl; bytes = refl; inside = omega arith; short = omega arith },
)

row_11 : Rows 11
unfolding table
row_11 = (
  (
    (tt, record { size = refl; more = refl; bytes = refl; inside = omega arith; short = omega arith }),
    record { size = refl; more = refl; bytes = refl; inside = omega arith; short = omega arith },
  ),
  record { size = refl; more = refl; bytes = refl; inside = omega arith; short = omega arith },
)

row_12 : Rows 12
unfolding table
row_12 = (
  (
    (tt, record { size = refl; more = refl; bytes = refl; inside = omega arith; short = omega arith }),
    record { size = refl; more = refl; bytes = refl; inside = omega arith; short = omega arith },
  ),
  record { size = refl; more = refl; bytes = refl; inside = omega arith; short = omega arith },
)

row_13 : Rows 13
unfolding table
row_13 = (
  (
    (tt, record { size = refl; more = refl; bytes = refl; inside = omega arith; short = omega arith }),
    record { size = refl; more = refl; bytes = refl; inside = omega arith; short = omega arith },
  ),
  record { size = refl; more = refl; bytes = refl; inside = omega arith; short = omega arith },
)

pub table-row : (kind done : ℕ) → kind < kind_count → done < 3 → Row kind done
table-row kind done h l = each_below (Row kind) 3 (each_below Rows kind_count
    ((((((((((((((tt, row_0), row_1), row_2), row_3), row_4), row_5), row_6), row_7), row_8), row_9), row_10), row_11), row_12), row_13) kind h) done l

pub table-length : length table ≡ 504
unfolding table
table-length = refl

-- a place of the table is not 0 exactly if an operand follows
told-bool : (x : ℕ) (b : Bool) → x ≡ (if b then 1 otherwise 0) → not (eqb x 0) ≡ b
told-bool x true e = ap (λ (n : ℕ). not (eqb n 0)) e
told-bool x false e = ap (λ (n : ℕ). not (eqb n 0)) e

module _ {pieces : List ℕ} (kind done : ℕ) (is : pieces ≡ table) (h : kind < kind_count) (l : done < 3) where
  abbrev r : Row kind done
  r = table-row kind done h l

  pub follows_is : not (eqb (get_or pieces (row_at kind done + 1) 0) 0) ≡ following (shape_of kind) done
  follows_is = told-bool _ (following (shape_of kind) done) (ap (λ (x : List ℕ). get_or x (row_at kind done + 1) 0) is ∙ r.more)

  pub size_is : get_or pieces (row_at kind done) 0 ≡ length (piece (shape_of kind) done)
  size_is = ap (λ (x : List ℕ). get_or x (row_at kind done) 0) is ∙ r.size

  pub bytes-is : part pieces (row_at kind done + 2) (length (piece (shape_of kind) done)) ≡ piece (shape_of kind) done
  bytes-is = ap (λ (x : List ℕ). part x (row_at kind done + 2) (length (piece (shape_of kind) done))) is ∙ r.bytes

  pub in_table : row_at kind done + 2 + length (piece (shape_of kind) done) ≤ length pieces
  in_table = omega (arith, r.inside, ap length is, table-length)

  pub put_is : {n at m : ℕ} {out out' : List ℕ} → n ≡ length (piece (shape_of kind) done) → Puts (part pieces (row_at kind done + 2) n) out out' at m → Puts (piece (shape_of kind) done) out out' at m
  put_is e p = rw (bytes-is) at (rw e at p)
