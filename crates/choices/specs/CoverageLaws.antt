-- Row by row: those whose next mark admits a bit; bit by bit: every valuation.
use Rattle.std.specs.Prelude.{ℕ, suc, ◌+◌, ◌-◌, ◌≤◌, ◌<◌, Bool, ◌&&◌, not, ◌≡◌, refl, eqb, length, get_or, take, set, replicate}
use Rattle.std.proofs.Math.Bool.{true, false}
use mathlib.Core.List.{List, [], ◌∷◌, ◌++◌, map, map-append}
use Rattle.std.proofs.Math.Path.{sym, ap}
use Rattle.std.proofs.Common.{◌∙◌, add-one, arith, length-set, take-suc, take-suc-set, get_or-set_same, get_or-set_other, eqb-true, ne_eqb}
use Rattle.std.proofs.lemmas.List.{length-replicate, get_or-replicate, take_all}
use Rattle.std.proofs.Math.Seq.{slice-cons}
use Rattle.std.proofs.lemmas.Bool.{eqb-false}
use Rattle.language.specs.Limits.{max_words, max_marks}
use Rattle.language.specs.Numbering.{Mark, mark_of, admits, after, covered}
use Rattle.choices.specs.Coverage.{Rows, rest, rests, Kept, width_of, unnamed}

-- the rest of one word more
abbrev remaining : Bool → Mark → List Mark → List (List Mark)
remaining b m v = elim (admits b m) [ true ↦ v ∷ [] | false ↦ [] ]

after_more : (b : Bool) (vs : List (List Mark)) (m : Mark) (v : List Mark) → after b (vs ++ ((m ∷ v) ∷ [])) ≡ after b vs ++ remaining b m v
after_more b [] m v = refl
after_more b ([] ∷ vs) m v = after_more b vs m v
after_more b ((n ∷ u) ∷ vs) m v = go (admits b n) (after_more b vs m v)
  where
    go : (c : Bool) → after b (vs ++ ((m ∷ v) ∷ [])) ≡ after b vs ++ remaining b m v
        → elim c [ true ↦ u ∷ after b (vs ++ ((m ∷ v) ∷ [])) | false ↦ after b (vs ++ ((m ∷ v) ∷ [])) ] ≡ elim c [ true ↦ u ∷ after b vs | false ↦ after b vs ] ++ remaining b m v
    go true h = ap (λ (l : List (List Mark)). u ∷ l) h
    go false h = h

-- a row's next mark
rest-cons : (i width : ℕ) (row : List ℕ) → i < width → width ≤ length row → rest i width row ≡ mark_of (get_or row i 0) ∷ rest (i + 1) width row
rest-cons i width row h l = ap (map mark_of) (slice-cons i width row 0 h l) ∙ ap (λ (k : ℕ). mark_of (get_or row i 0) ∷ rest k width row) (sym (add-one i))

-- a row of no marks; an empty array, and one of which nothing is taken
abbrev blank : List ℕ
blank = replicate max_marks 0

pub rows-blank : (rows : List (List ℕ)) → rows ≡ replicate max_words blank → Rows rows 0
rows-blank rows e = record {
  few = omega arith;
  all = ap length e ∙ length-replicate max_words blank;
  each = λ j h. ap (λ (l : List (List ℕ)). length (get_or l j [])) e ∙ ap length (get_or-replicate max_words j blank [] (omega (arith, h, ap length e))) ∙ length-replicate {A = ℕ} max_marks 0;
}

pub rows_none : (rows : List (List ℕ)) (k : ℕ) → Rows rows k → Rows rows 0
rows_none rows k h = record { few = omega arith; all = h.all; each = h.each }

-- one row more in an array
pub rows_more : (rows : List (List ℕ)) (k : ℕ) (row : List ℕ) → Rows rows k → k < max_words → length row ≡ max_marks → Rows (set rows k row) (k + 1)
rows_more rows k row h l full =
    record { few = omega arith; all = length-set rows k row ∙ h.all; each = λ j g. go j g (eqb j k) refl }
  where
    go : (j : ℕ) → j < length (set rows k row) → (b : Bool) → eqb j k ≡ b → length (get_or (set rows k row) j []) ≡ max_marks
    go j g true e =
        ap (λ (i : ℕ). length (get_or (set rows k row) i [])) (eqb-true j k e) ∙ ap length (get_or-set_same rows k row [] (omega (arith, l, h.all))) ∙ full
    go j g false e = ap length (get_or-set_other rows k j row [] (eqb-false j k e)) ∙ h.each j (omega (arith, g, length-set rows k row))

-- of the first j rows those are kept whose mark i admits the bit
pub record Keeping (holds : Bool) (rows : List (List ℕ)) (i width j : ℕ) (kept : List (List ℕ)) (k : ℕ) : Type 0 where
  pub filled : Rows kept k
  pub fewer : k ≤ j
  pub inside : j ≤ length rows
  pub same : rests (i + 1) width (take k kept) ≡ after holds (rests i width (take j rows))

pub keeping_none : (holds : Bool) (rows : List (List ℕ)) (i width : ℕ) (kept : List (List ℕ)) → Rows kept 0 → Keeping holds rows i width 0 kept 0
unfolding rests
keeping_none holds rows i width kept h = record { filled = h; fewer = omega arith; inside = omega arith; same = refl }

module _ {holds : Bool} {rows : List (List ℕ)} {i width j : ℕ} {kept : List (List ℕ)} {k : ℕ} (few : length rows ≤ max_words)
    (bit : i < width) (narrow : width ≤ max_marks) (h : Keeping holds rows i width j kept k) (more : j < length rows) (full : length (get_or rows j []) ≡ max_marks) where
  row : List ℕ
  row = get_or rows j []

  passed : after holds (rests i width (take (j + 1) rows)) ≡ rests (i + 1) width (take k kept) ++ remaining holds (mark_of (get_or (get_or rows j []) i 0)) (rest (i + 1) width (get_or rows j []))
  unfolding rests
  passed =
      ap (λ (n : ℕ). after holds (rests i width (take n rows))) (add-one j)
      ∙ ap (λ (l : List (List ℕ)). after holds (rests i width l)) (take-suc rows j [] more)
      ∙ ap (after holds) (map-append (rest i width) (take j rows) (get_or rows j [] ∷ []) ∙ ap (λ (v : List Mark). rests i width (take j rows) ++ (v ∷ []))
      (rest-cons i width (get_or rows j []) bit (omega arith)))
      ∙ after_more holds (rests i width (take j rows)) _ _
      ∙ ap (λ (l : List (List Mark)). l ++ remaining holds (mark_of (get_or (get_or rows j []) i 0)) (rest (i + 1) width (get_or rows j []))) (sym h.same)

  pub keeping-row : admits holds (mark_of (get_or (get_or rows j []) i 0)) ≡ true → Keeping holds rows i width (j + 1) (set kept k (get_or rows j [])) (k + 1)
  unfolding rests
  keeping-row e =
      let f = h.fewer in
      let room : k < max_words = omega arith in
      record {
        filled = rows_more kept k (get_or rows j []) h.filled room full;
        fewer = omega arith;
        inside = omega arith;
        same =
            ap (λ (n : ℕ). rests (i + 1) width (take n (set kept k (get_or rows j [])))) (add-one k)
            ∙ ap (rests (i + 1) width) (take-suc-set kept k (get_or rows j []) (omega (arith, h.filled.all)))
            ∙ map-append (rest (i + 1) width) (take k kept) (get_or rows j [] ∷ [])
            ∙ ap (λ (b : Bool). rests (i + 1) width (take k kept) ++ (elim b [ true ↦ rest (i + 1) width (get_or rows j []) ∷ [] | false ↦ [] ])) (sym e)
            ∙ sym passed;
      }

  pub keeping-not : admits holds (mark_of (get_or (get_or rows j []) i 0)) ≡ false → Keeping holds rows i width (j + 1) kept k
  keeping-not e =
      let f = h.fewer in
      record {
        filled = h.filled;
        fewer = omega arith;
        inside = omega arith;
        same = sym (passed ∙ ap (λ (b : Bool). rests (i + 1) width (take k kept) ++ (elim b [ true ↦ rest (i + 1) width (get_or rows j []) ∷ [] | false ↦ [] ])) e ∙ append-none
            (rests (i + 1) width (take k kept)));
      }
    where
      append-none : (l : List (List Mark)) → l ++ [] ≡ l
      append-none [] = refl
      append-none (v ∷ l) = ap (λ (m : List (List Mark)). v ∷ m) (append-none l)

pub keeping_all : {holds : Bool} {rows : List (List ℕ)} {i width j : ℕ} {kept : List (List ℕ)} {k : ℕ} → Keeping holds rows i width j kept k → length rows ≤ j
    → Kept (after holds (rests i width rows)) (i + 1) width kept k
keeping_all {holds} {rows} {i} {width} {j} h l =
    record { filled = h.filled; same = h.same ∙ ap (λ (t : List (List ℕ)). after holds (rests i width t)) (take_all j rows l) }

-- no bit left: one row names what is left
pub covered_none : (rows : List (List ℕ)) (i width : ℕ) → width ≤ i → not (eqb (length rows) 0) ≡ covered (width - i) (rests i width rows)
unfolding rests
covered_none rows i width l =
    let z : width - i ≡ 0 = omega arith in
    rw z (go rows)
  where
    go : (rows : List (List ℕ)) → not (eqb (length rows) 0) ≡ covered 0 (map (rest i width) rows)
    go [] = refl
    go (r ∷ rows) = ap not (ne_eqb (suc (length rows)) 0 (λ e. omega arith))

pub covered-bit : (i width : ℕ) (vs : List (List Mark)) → i < width → covered (width - i) vs ≡ covered (width - (i + 1)) (after false vs) && covered (width - (i + 1)) (after true vs)
covered-bit i width vs h = let e : width - i ≡ suc (width - (i + 1)) = omega arith in ap (λ (n : ℕ). covered n vs) e

-- after both tests of a bit
module _ (i width : ℕ) (vs : List (List Mark)) (bit : i < width) {b : Bool} {us : List (List Mark)} (e : b ≡ covered (width - (i + 1)) us) (s : us ≡ after false vs) where
  first : b ≡ covered (width - (i + 1)) (after false vs)
  first = e ∙ ap (covered (width - (i + 1))) s

  pub covered-not : b ≡ false → false ≡ covered (width - i) vs
  covered-not h = sym (covered-bit i width vs bit ∙ ap (λ (a : Bool). a && covered (width - (i + 1)) (after true vs)) (sym first ∙ h))

  pub covered-both : {c : Bool} {ws : List (List Mark)} → b ≡ true → c ≡ covered (width - (i + 1)) ws → ws ≡ after true vs → c ≡ covered (width - i) vs
  covered-both h d t =
      d ∙ ap (covered (width - (i + 1))) t ∙ sym (covered-bit i width vs bit ∙ ap (λ (a : Bool). a && covered (width - (i + 1)) (after true vs)) (sym first ∙ h))

-- all words from their first bit on
pub rests-all : (width : ℕ) (rows : List (List ℕ)) → rests 0 width rows ≡ map (map mark_of) (map (take width) rows)
unfolding rests
rests-all width [] = refl
rests-all width (r ∷ rows) = ap (λ (l : List (List Mark)). map mark_of (take width r) ∷ l) (rests-all width rows)

pub unnamed_some : (rows : List (List ℕ)) → (rows ≡ [] → ⊥) → unnamed rows ≡ not (covered (width_of rows) (map (map mark_of) rows))
unnamed_some [] h = absurd (h refl)
unnamed_some (r ∷ rows) h = refl
