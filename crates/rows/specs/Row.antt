-- The row of a formula over a lasso, for every operator, and its bytes (document 01, 'Recordings'). That a row says where its formula holds is
-- the theorem of Agreement. Laws in RowLaws.
use Rattle.std.specs.Prelude.{ℕ, zero, suc, ◌+◌, ◌*◌, ◌-◌, Bool, true, false, not, ◌&&◌, ◌||◌, List, [], ◌∷◌, ◌++◌, ltb}
use Rattle.std.specs.Bool.{beq}
use Rattle.node.specs.Ltl.{Unary, Not, X, G, F, Binary, And, Or, Implies, Iff, U, R, W, Formula, True, False, Signal, One, Two}
use Rattle.node.specs.Table.{tree_at}
use Rattle.bits.specs.Bits.{Values, number, width}
use Rattle.recordings.specs.Recording.{letter_of}
use Rattle.recordings.specs.Lasso.{next}
use Rattle.recordings.specs.declared.Lasso.{Lasso}

-- k steps backwards to position p, from the value s: `f q v` is the value at q where v is the value one position later
unfoldable pub sweep_from : (ℕ → Bool → Bool) → Bool → ℕ → ℕ → Bool
sweep_from f s p zero = s
sweep_from f s p (suc k) = f p (sweep_from f s (suc p) k)

-- from the end of the lasso back to p
abbrev pub sweep : ℕ → (ℕ → Bool → Bool) → Bool → ℕ → Bool
sweep n f s p = sweep_from f s p (n - p)

-- round the loop: a first sweep from the seed gives the value at l, which comes after n - 1; the second starts from it
unfoldable pub around : ℕ → ℕ → Bool → (ℕ → Bool → Bool) → ℕ → Bool
around n l seed f p = sweep n f (sweep n f seed l) p

-- the row of an operator from its operands' rows; a seed is the value of a loop in which nothing is ever decided
abbrev pub row_unary : ℕ → ℕ → Unary → Values → Values
row_unary n l Not a p = not (a p)
row_unary n l X a p = a (next n l p)
row_unary n l G a p = around n l true (λ q v. a q && v) p
row_unary n l F a p = around n l false (λ q v. a q || v) p

abbrev pub row_binary : ℕ → ℕ → Binary → Values → Values → Values
row_binary n l And a b p = a p && b p
row_binary n l Or a b p = a p || b p
row_binary n l Implies a b p = not (a p) || b p
row_binary n l Iff a b p = beq (a p) (b p)
row_binary n l U a b p = around n l false (λ q v. b q || (a q && v)) p
row_binary n l R a b p = around n l true (λ q v. b q && (a q || v)) p
row_binary n l W a b p = around n l true (λ q v. b q || (a q && v)) p

-- the row of a formula; `letter p k`: is signal k present at position p?
unfoldable pub row : ℕ → ℕ → (ℕ → ℕ → Bool) → Formula → Values
row n l letter True p = true
row n l letter False p = false
row n l letter (Signal k) p = letter p k
row n l letter (One o a) p = row_unary n l o (row n l letter a) p
row n l letter (Two o a b) p = row_binary n l o (row n l letter a) (row n l letter b) p

-- the row of node i of a table over a recording
abbrev pub node_row : List ℕ → Lasso → List ℕ → ℕ → Values
node_row bs w nodes i = row w.n w.l (letter_of bs w.k) (tree_at nodes i)

-- 'spare bits are 0'
abbrev pub shown : ℕ → Values → Values
shown n f p = ltb p n && f p

-- the values g 0, .., g (n - 1)
unfoldable pub tabulate : (ℕ → ℕ) → ℕ → List ℕ
tabulate g zero = []
tabulate g (suc n) = tabulate g n ++ (g n ∷ [])

-- the lists g 0, .., g (n - 1), one after the other
unfoldable pub joined : (ℕ → List ℕ) → ℕ → List ℕ
joined g zero = []
joined g (suc n) = joined g n ++ g n

-- 'one row of N bits, rounded up to bytes'
abbrev pub row_bytes : ℕ → Values → List ℕ
row_bytes n f = tabulate (λ j. number (λ q. shown n f (8 * j + q)) 8) (width n)

-- the rows of the first `count` nodes
abbrev pub table_bytes : List ℕ → Lasso → List ℕ → ℕ → List ℕ
table_bytes bs w nodes count = joined (λ i. row_bytes w.n (node_row bs w nodes i)) count
