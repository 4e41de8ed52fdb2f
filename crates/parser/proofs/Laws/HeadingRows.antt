-- The words of MAIN's subsections by their numbers: the code's table is the definition's, and a subsection that has not stood leaves fewer that may.
use Prim.Native.Nat.{ℕ, zero, suc, ◌+◌, ◌≤◌, ◌<◌}
use native.Mathlib.Omega.{arith}
use mathlib.Core.List.{List, [], ◌∷◌}
use mathlib.Core.Bool.{Bool, true, false, ◌&&◌, ◌||◌, false≢true}
use mathlib.Core.Option.{Option, none, some}
use mathlib.Core.Path.{◌≡◌, refl, sym, ap, ap₂, ◌∙◌, subst}
use Prim.Native.String.{String}
use lib.Dec.{eqb, leb, ltb}
use lib.ListN.{get_or}
use borrow.Author.Tests.{eqb-true, eqb-false, eq-eqb, ne_eqb, leb-true, ltb-true}
use Rattle.language.specs.Tokens.{Token}
use Rattle.language.specs.Grammar.{named}
use Rattle.language.specs.Sections.{HeadingRow, headings, heading_of, seen}
use Rattle.language.proofs.Laws.Basics.Lists.{All}
use Rattle.language.proofs.Laws.Basics.Tests.{pick, leave, and_left, and_right, or_left, or_right, some_none}
use Rattle.lexer.specs.Numbers.{number, numbered, fixed}
use Rattle.lexer.specs.NumberLaws.{known, named-number}
use Rattle.entries.specs.Headings.{no_heading}
use Rattle.parser.specs.Headings.{row_of, row_number, heading_number, heading_code}

-- the row of a token's word, unless its subsection has stood
abbrev pub fresh : List ℕ → Option HeadingRow → Option HeadingRow
fresh before none = none
fresh before (some r) = elim (seen before r.number) [ true ↦ none | false ↦ some r ]

abbrev all_known : List HeadingRow → Bool
all_known [] = true
all_known (r ∷ rs) = known r.names && all_known rs

rows-number : (rs : List HeadingRow) (before : List ℕ) (t : Token) → all_known rs ≡ true → heading_of rs before t ≡ fresh before (row_of rs (number t))
rows-number [] before t h = refl
rows-number (r ∷ rs) before t h =
    go (named r.names t) (numbered r.names (number t)) (named-number r.names t (and_left (known r.names) (all_known rs) h))
    (rows-number rs before t (and_right (known r.names) (all_known rs) h))
  where
    go : (b c : Bool) → b ≡ c → heading_of rs before t ≡ fresh before (row_of rs (number t)) →
        ◌≡◌ {A = Option HeadingRow} (elim b [ true ↦ elim (seen before r.number) [ true ↦ none | false ↦ some r ] | false ↦ heading_of rs before t ])
        (fresh before (elim c [ true ↦ some r | false ↦ row_of rs (number t) ]))
    go true true e later = refl
    go true false e later = absurd (false≢true (sym e))
    go false true e later = absurd (false≢true e)
    go false false e later = later

pub heading_number_lem : (before : List ℕ) (t : Token) → heading_of headings before t ≡ fresh before (row_of headings (number t))
heading_number_lem before t = rows-number headings before t refl

-- each row's number is that of its subsection, and below `no_heading`
pub record Numbered (r : HeadingRow) : Type 0 where
  pub small : r.number < no_heading
  pub code : heading_code r.heading ≡ r.number

headings-numbered : All Numbered headings
headings-numbered =
    (row refl refl, (row refl refl, (row refl refl, (row refl refl, (row refl refl, (row refl refl, (row refl refl, (row refl refl, tt))))))))
  where
    row : {r : HeadingRow} → ltb r.number no_heading ≡ true → heading_code r.heading ≡ r.number → Numbered r
    row {r} l e = record { small = ltb-true r.number no_heading l; code = e }

row-numbered : (rs : List HeadingRow) → All Numbered rs → (k : ℕ) (r : HeadingRow) → row_of rs k ≡ some r → Numbered r
row-numbered [] h k r e = absurd (some_none (sym e))
row-numbered (q ∷ rs) h k r e = go (numbered q.names k) e (row-numbered rs h.1 k r)
  where
    go : (b : Bool) → elim b [ true ↦ some q | false ↦ row_of rs k ] ≡ some r → (row_of rs k ≡ some r → Numbered r) → Numbered r
    go true e later = let same : q ≡ r = cc in subst Numbered same h.0
    go false e later = later e

-- what the number of a word shows
pub record Row (k : ℕ) : Type 0 where
  pub row : HeadingRow
  pub is : row_of headings k ≡ some row
  pub number : row.number ≡ heading_number k
  pub code : heading_code row.heading ≡ row.number

rows : (k : ℕ) (o : Option HeadingRow) → row_of headings k ≡ o → heading_number k ≡ row_number o
unfolding heading_number
rows k o e = ap row_number e

pub no_row : (k : ℕ) → heading_number k ≡ no_heading → row_of headings k ≡ none
no_row k e = go (row_of headings k) refl
  where
    go : (o : Option HeadingRow) → row_of headings k ≡ o → row_of headings k ≡ none
    go none m = m
    go (some r) m = absurd (omega (arith, (row-numbered headings headings-numbered k r m).small, rows k (some r) m))

pub row_of_lem : (k : ℕ) → heading_number k < no_heading → Row k
row_of_lem k l = go (row_of headings k) refl
  where
    go : (o : Option HeadingRow) → row_of headings k ≡ o → Row k
    go none m = absurd (omega (arith, rows k none m))
    go (some r) m = record { row = r; is = m; number = sym (rows k (some r) m); code = (row-numbered headings headings-numbered k r m).code }

pub heading-most : (k : ℕ) → heading_number k ≤ no_heading
heading-most k = go (row_of headings k) refl
  where
    go : (o : Option HeadingRow) → row_of headings k ≡ o → heading_number k ≤ no_heading
    go none m = omega (arith, rows k none m)
    go (some r) m = omega (arith, (row-numbered headings headings-numbered k r m).small, rows k (some r) m)

-- no word has a number outside the table
abbrev in_table : List String → Bool
in_table [] = true
in_table (s ∷ ss) = (leb (fixed "INPUTS") (fixed s) && leb (fixed s) (fixed "GUARANTEES")) && in_table ss

numbered_out : (ss : List String) (k : ℕ) → in_table ss ≡ true → ((n : ℕ) → fixed "INPUTS" ≤ n → n ≤ fixed "GUARANTEES" → k ≡ n → ⊥) → numbered ss k ≡ false
numbered_out [] k h out = refl
numbered_out (s ∷ ss) k h out =
    let b = and_left (leb (fixed "INPUTS") (fixed s) && leb (fixed s) (fixed "GUARANTEES")) (in_table ss) h in
    ap₂ ◌||◌
    (ne_eqb k (fixed s) (out (fixed s) (leb-true (fixed "INPUTS") (fixed s) (and_left (leb (fixed "INPUTS") (fixed s)) (leb (fixed s) (fixed "GUARANTEES")) b))
    (leb-true (fixed s) (fixed "GUARANTEES") (and_right (leb (fixed "INPUTS") (fixed s)) (leb (fixed s) (fixed "GUARANTEES")) b))))
    (numbered_out ss k (and_right (leb (fixed "INPUTS") (fixed s) && leb (fixed s) (fixed "GUARANTEES")) (in_table ss) h) out)

abbrev all_in_table : List HeadingRow → Bool
all_in_table [] = true
all_in_table (r ∷ rs) = in_table r.names && all_in_table rs

rows_out : (rs : List HeadingRow) (k : ℕ) → all_in_table rs ≡ true → ((n : ℕ) → fixed "INPUTS" ≤ n → n ≤ fixed "GUARANTEES" → k ≡ n → ⊥) → row_of rs k ≡ none
rows_out [] k h out = refl
rows_out (r ∷ rs) k h out =
    leave (numbered r.names k) _ _ (numbered_out r.names k (and_left (in_table r.names) (all_in_table rs) h) out) ∙ rows_out rs k (and_right (in_table r.names) (all_in_table rs) h) out

pub heading_out : (k : ℕ) → ((n : ℕ) → fixed "INPUTS" ≤ n → n ≤ fixed "GUARANTEES" → k ≡ n → ⊥) → no_heading ≡ heading_number k
unfolding heading_number
heading_out k out = sym (ap row_number (rows_out headings k refl out))

-- the code's table, by one test over all its entries
abbrev pub table : List ℕ
table = 0 ∷ 1 ∷ 2 ∷ 3 ∷ 4 ∷ 5 ∷ 6 ∷ 7 ∷ 5 ∷ 6 ∷ 7 ∷ []

-- a test passes for each number below n
abbrev pub below : (ℕ → Bool) → ℕ → Bool
below f zero = true
below f (suc n) = f n && below f n

pub below_at : (f : ℕ → Bool) (n i : ℕ) → below f n ≡ true → i < n → f i ≡ true
below_at f zero i h l = absurd (omega arith)
below_at f (suc n) i h l = go (eqb i n) refl (λ m. below_at f n i (and_right (f n) (below f n) h) (omega arith))
  where
    go : (b : Bool) → eqb i n ≡ b → ((i ≡ n → ⊥) → f i ≡ true) → f i ≡ true
    go true e later = ap f (eqb-true i n e) ∙ and_left (f n) (below f n) h
    go false e later = later (eqb-false i n e)

pub heading_in : (i : ℕ) → i < 11 → get_or table i 0 ≡ heading_number (fixed "INPUTS" + i)
unfolding heading_number
heading_in i l = eqb-true (get_or table i 0) (heading_number (fixed "INPUTS" + i)) (below_at (λ j. eqb (get_or table j 0) (heading_number (fixed "INPUTS" + j))) 11 i refl l)

-- how many of the first n subsections have not stood
abbrev pub left : ℕ → List ℕ → ℕ
left zero before = 0
left (suc n) before = elim (seen before n) [ true ↦ left n before | false ↦ suc (left n before) ]

left_other : (n m : ℕ) (before : List ℕ) → n ≤ m → left n (m ∷ before) ≡ left n before
left_other zero m before l = refl
left_other (suc n) m before l = go (eqb m n) (ne_eqb m n (λ e. omega arith)) (seen before n) (left_other n m before (omega arith))
  where
    go : (b : Bool) → b ≡ false → (c : Bool) → left n (m ∷ before) ≡ left n before →
        ◌≡◌ {A = ℕ} (elim (b || c) [ true ↦ left n (m ∷ before) | false ↦ suc (left n (m ∷ before)) ]) (elim c [ true ↦ left n before | false ↦ suc (left n before) ])
    go true e c later = absurd (false≢true (sym e))
    go false e true later = later
    go false e false later = ap suc later

pub left_less : (n m : ℕ) (before : List ℕ) → m < n → seen before m ≡ false → left n before ≡ suc (left n (m ∷ before))
left_less zero m before l e = absurd (omega arith)
left_less (suc n) m before l e = go (eqb m n) refl (λ q. left_less n m before (omega arith) e)
  where
    last : m ≡ n → left (suc n) before ≡ suc (left (suc n) (m ∷ before))
    last q =
        leave (seen before n) _ _ (subst (λ k. seen before k ≡ false) q e)
        ∙ ap suc (sym (left_other n m before (omega arith)))
        ∙ ap suc (sym (pick (eqb m n || seen before n) _ _ (or_left (eqb m n) (seen before n) (eq-eqb m n q))))

    earlier : (c : Bool) → seen before n ≡ c → left n before ≡ suc (left n (m ∷ before)) → eqb m n ≡ false → left (suc n) before ≡ suc (left (suc n) (m ∷ before))
    earlier true s later q =
        pick (seen before n) _ _ s ∙ later ∙ ap suc (sym (pick (eqb m n || seen before n) _ _ (or_right (eqb m n) (seen before n) s)))
    earlier false s later q =
        leave (seen before n) _ _ s ∙ ap suc later ∙ ap suc (sym (leave (eqb m n || seen before n) _ _ (ap₂ ◌||◌ q s)))

    go : (b : Bool) → eqb m n ≡ b → ((m ≡ n → ⊥) → left n before ≡ suc (left n (m ∷ before))) → left (suc n) before ≡ suc (left (suc n) (m ∷ before))
    go true q later = last (eqb-true m n q)
    go false q later = earlier (seen before n) refl (later (eqb-false m n q)) q
