-- The bytes of the table of recipes: where the count of a recipe's nodes stands, and the fields of each.
use Rattle.std.specs.Prelude.{ℕ, zero, suc, ◌+◌, ◌*◌, ◌≤◌, ◌<◌, ◌≡◌, refl, List, [], ◌∷◌, ◌++◌, length, get_or, take, replicate}
use Rattle.std.proofs.Common.{ap, ◌∙◌, length-append, length-take, get_or-take, get_or-append-add, arith}
use Rattle.std.proofs.lemmas.List.{length-replicate}
use Rattle.std.proofs.Math.ListN.{get_or-append}
use Rattle.node.specs.Ltl.{Formula, True}
use Rattle.node.specs.Fields.{kind_of, first_of, second_of}
use Rattle.sharing.specs.Sharing.{distinct_nodes}
use Rattle.shared_forms.specs.Templates.{templates, recipe, threes, row_bytes, row_of, rows, recipes}
use Rattle.shared_forms.specs.Forming.{row_count, StepIs}

-- a list that is cut or filled up to n
fill_length : (n : ℕ) (l : List ℕ) → length (take n (l ++ replicate n 0)) ≡ n
fill_length n l =
    let a = length-append l (replicate n 0) in
    let r = length-replicate {A = ℕ} n 0 in
    length-take n (l ++ replicate n 0) ∙ omega arith

fill_at : (n : ℕ) (l : List ℕ) (j : ℕ) → j < n → j < length l → get_or (take n (l ++ replicate n 0)) j 0 ≡ get_or l j 0
fill_at n l j h k = get_or-take n (l ++ replicate n 0) j 0 h ∙ get_or-append l (replicate n 0) 0 j k

row-length : (f : Formula) → length (row_of f) ≡ row_bytes
unfolding row_of
row-length f = fill_length row_bytes (length (distinct_nodes f) ∷ threes (distinct_nodes f))

rows_at : (fs : List Formula) (i j : ℕ) → i < length fs → j < row_bytes → get_or (rows fs) (row_bytes * i + j) 0 ≡ get_or (row_of (get_or fs i True)) j 0
unfolding rows
rows_at [] i j h k = absurd (omega arith)
rows_at (f ∷ fs) zero j h k =
    let l = row-length f in
    let e : row_bytes * 0 + j ≡ j = omega arith in
    ap (λ (n : ℕ). get_or (row_of f ++ rows fs) n 0) e ∙ get_or-append (row_of f) (rows fs) 0 j (omega arith)
rows_at (f ∷ fs) (suc i) j h k =
    let l = row-length f in
    let e : row_bytes * suc i + j ≡ length (row_of f) + (row_bytes * i + j) = omega arith in
    ap (λ (n : ℕ). get_or (row_of f ++ rows fs) n 0) e ∙ get_or-append-add (row_of f) (rows fs) (row_bytes * i + j) 0 ∙ rows_at fs i j (omega arith) k

threes-length : (ws : List ℕ) → length (threes ws) ≡ 3 * length ws
unfolding threes
threes-length [] = refl
threes-length (w ∷ ws) = let h = threes-length ws in omega arith

-- the fields of word j
record Three (ws l : List ℕ) (j : ℕ) : Type 0 where
  kind_at_lem : get_or l (3 * j) 0 ≡ kind_of (get_or ws j 0)
  first-at : get_or l (3 * j + 1) 0 ≡ first_of (get_or ws j 0)
  second_at : get_or l (3 * j + 2) 0 ≡ second_of (get_or ws j 0)

threes-at : (ws : List ℕ) (j : ℕ) → j < length ws → Three ws (threes ws) j
unfolding threes
threes-at [] j h = absurd (omega arith)
threes-at (w ∷ ws) zero h = record { kind_at_lem = refl; first-at = refl; second_at = refl }
threes-at (w ∷ ws) (suc j) h =
    let t = threes-at ws j (omega arith) in
    let l : List ℕ = kind_of w ∷ first_of w ∷ second_of w ∷ threes ws in
    let at : (n m : ℕ) → m ≡ n + 3 → get_or l m 0 ≡ get_or (threes ws) n 0 = λ n m e. ap (λ (x : ℕ). get_or l x 0) (e ∙ suc-three n) in
    record {
      kind_at_lem = at (3 * j) (3 * suc j) (omega arith) ∙ t.kind_at_lem;
      first-at = at (3 * j + 1) (3 * suc j + 1) (omega arith) ∙ t.first-at;
      second_at = at (3 * j + 2) (3 * suc j + 2) (omega arith) ∙ t.second_at;
    }
  where
    suc-three : (n : ℕ) → n + 3 ≡ suc (suc (suc n))
    suc-three n = omega arith

rows-count : length templates ≡ row_count
unfolding templates
rows-count = refl

module _ (row : ℕ) (inside : row < row_count) where
  -- byte d of the row, if the row has that many
  byte_at : (d : ℕ) → d < row_bytes → d < length (length (recipe row) ∷ threes (recipe row))
      → get_or recipes (row_bytes * row + d) 0 ≡ get_or (length (recipe row) ∷ threes (recipe row)) d 0
  unfolding recipes recipe row_of
  byte_at d h k =
      let c = rows-count in
      rows_at templates row d (omega arith) h ∙ fill_at row_bytes (length (recipe row) ∷ threes (recipe row)) d h k

  pub count-byte : get_or recipes (row_bytes * row) 0 ≡ length (recipe row)
  count-byte =
      let e : row_bytes * row ≡ row_bytes * row + 0 = omega arith in
      ap (λ (n : ℕ). get_or recipes n 0) e ∙ byte_at 0 (omega arith) (omega arith)

  pub step-bytes : (j : ℕ) → j < length (recipe row) → length (recipe row) ≤ 10
      → StepIs row j (get_or recipes (row_bytes * row + 1 + 3 * j) 0) (get_or recipes (row_bytes * row + 1 + 3 * j + 1) 0) (get_or recipes (row_bytes * row + 1 + 3 * j + 2) 0)
  step-bytes j h few =
      let t = threes-at (recipe row) j h in
      let l = threes-length (recipe row) in
      let at : (n m : ℕ) → n < 31 → n < length (threes (recipe row)) → m ≡ row_bytes * row + suc n → get_or recipes m 0 ≡ get_or (threes (recipe row)) n 0 =
      λ n m a b e. ap (λ (x : ℕ). get_or recipes x 0) e ∙ byte_at (suc n) (omega arith) (omega arith) in
      record {
        kind-is = at (3 * j) (row_bytes * row + 1 + 3 * j) (omega arith) (omega arith) (omega arith) ∙ t.kind_at_lem;
        first-is = at (3 * j + 1) (row_bytes * row + 1 + 3 * j + 1) (omega arith) (omega arith) (omega arith) ∙ t.first-at;
        second_is = at (3 * j + 2) (row_bytes * row + 1 + 3 * j + 2) (omega arith) (omega arith) (omega arith) ∙ t.second_at;
      }
