-- The loop over MAIN's subsections: which have stood, one turn, and the ways out. A subsection stands at most once, so the definition's fuel is enough.
use Rattle.std.specs.Prelude.{Ok, Err}
use Prim.Native.Nat.{ℕ, zero, suc, ◌≤◌, ◌<◌}
use native.Mathlib.Omega.{arith}
use mathlib.Core.List.{List, [], ◌∷◌}
use mathlib.Core.Bool.{Bool, true, false, ◌&&◌, ◌||◌}
use mathlib.Core.Option.{Option, none, some}
use mathlib.Core.Path.{◌≡◌, refl, sym, ap, ap₂, ◌∙◌, subst}
use lib.Dec.{eqb}
use lib.ListN.{length, drop, get_or, set}
use lib.Seq.{get_or-set_same, get_or-set_other}
use borrow.Author.Tests.{eqb-true, eqb-false}
use Rattle.node.specs.Returned.{refusal}
use Rattle.node.specs.Result.{Done, ◌>>=◌}
use Rattle.node.proofs.ResultLaws.{bind_refused, bind_to}
use Rattle.language.specs.Tree.{Subsection, Inputs, Outputs, Lines}
use Rattle.language.specs.Grammar.{Tokens, Read, front, rest, stop, expect}
use Rattle.language.specs.Sections.{HeadingRow, headings, heading_of, seen, subsection_of, subsections_of}
use Rattle.language.proofs.Laws.Basics.Tests.{pick, leave, or_left}
use Rattle.entries.specs.Headings.{no_heading}
use Rattle.entries.specs.Flat.{each, flat_subsection}
use Rattle.entries.specs.declared.Cursor.{Cursor}
use Rattle.entries.specs.Parse.{Parse}
use Rattle.entries.specs.Cursors.{Ready, number_at}
use Rattle.entries.specs.CursorLaws.{ready-number, before-end}
use Rattle.entries.specs.Reads.{Reads}
use Rattle.entries.specs.ReadsLaws.{kept_same}
use Rattle.entries.specs.TokenReads.{took_none}
use Rattle.parser.specs.Headings.{row_of, heading_number, heading_code, end_of, marked}
use Rattle.parser.proofs.Laws.Rows.{Accepted, accepted, was-refused}
use Rattle.parser.proofs.Laws.Loops.{Going, going_start, going-refused, going-rest, going_more}
use Rattle.parser.proofs.Laws.HeadingRows.{below_at, heading_out, heading-most, fresh, heading_number_lem, Row, no_row, row_of_lem, left, left_less}

-- the definition's step, by the row of the word that stands there
abbrev subsections_by : ℕ → List ℕ → Option HeadingRow → Tokens → Read (List Subsection)
subsections_by f before (some r) ts = subsection_of r.heading (rest ts) >>= λ (s, ts). subsections_of f (r.number ∷ before) ts >>= λ (ss, ts). Done (s ∷ ss, ts)
subsections_by f before none ts = end_of (seen before 0 && seen before 1) ts

subsections_by_lem : (f : ℕ) (before : List ℕ) (o : Option HeadingRow) (ts : Tokens) →
    ◌≡◌ {A = Read (List Subsection)}
    (elim o [
      | some r ↦ subsection_of r.heading (rest ts) >>= λ (s, ts). subsections_of f (r.number ∷ before) ts >>= λ (ss, ts). Done (s ∷ ss, ts)
      | none ↦ elim (seen before 0 && seen before 1) [ true ↦ expect "}" ts >>= λ (c, ts). Done ([], ts) | false ↦ stop ts ]
    ])
    (subsections_by f before o ts)
subsections_by_lem f before none ts = refl
subsections_by_lem f before (some r) ts = refl

step : (f : ℕ) (before : List ℕ) (o : Option HeadingRow) (ts : Tokens) → heading_of headings before (front ts) ≡ o → subsections_of (suc f) before ts ≡ subsections_by f before o ts
step f before o ts e = subsections_by_lem f before (heading_of headings before (front ts)) ts ∙ ap (λ x. subsections_by f before x ts) e

-- the marks of those that have stood
abbrev Flags : List ℕ → List ℕ → Type 0
Flags marks before = (n : ℕ) → n < no_heading → marked (get_or marks n 0) ≡ seen before n

flags_set : (marks before : List ℕ) (m : ℕ) → m < length marks → Flags marks before → Flags (set marks m 1) (m ∷ before)
flags_set marks before m l h n k = go (eqb m n) refl
  where
    go : (b : Bool) → eqb m n ≡ b → marked (get_or (set marks m 1) n 0) ≡ (eqb m n || seen before n)
    go true e =
        let same : m ≡ n = eqb-true m n e in
        ap marked (ap (λ i. get_or (set marks m 1) i 0) (sym same) ∙ get_or-set_same marks m 1 0 l) ∙ sym (or_left (eqb m n) (seen before n) e)
    go false e =
        ap marked (get_or-set_other marks m n 1 0 (λ q. eqb-false m n e (sym q))) ∙ h n k ∙ ap (λ b. b || seen before n) (sym e)

pub record Standing (x : Read (List Subsection)) (marks : List ℕ) (ts : Tokens) (w v : List ℕ) (s d : Cursor) : Type 0 where
  pub before : List ℕ
  pub flags : Flags marks before
  pub fuel : ℕ
  pub enough : left no_heading before ≤ fuel
  pub going : Going flat_subsection x (subsections_of (suc fuel) before (drop d.at ts)) ts w v s d

-- none has stood at first
abbrev no_marks : List ℕ
no_marks = 0 ∷ 0 ∷ 0 ∷ 0 ∷ 0 ∷ 0 ∷ 0 ∷ 0 ∷ []

pub no_marks_lem : (n : ℕ) → n < no_heading → get_or no_marks n 0 ≡ 0
no_marks_lem n l = eqb-true (get_or no_marks n 0) 0 (below_at (λ i. eqb (get_or no_marks i 0) 0) no_heading n refl l)

pub below_none : (k : ℕ) {n : ℕ} → n ≡ heading_number k → (n ≡ no_heading → ⊥) → n < no_heading
below_none k e m = omega (arith, heading-most k)

pub standing_start : {marks : List ℕ} {ts : Tokens} {w : List ℕ} {s : Cursor} → Ready ts w s → ((n : ℕ) → n < no_heading → get_or marks n 0 ≡ 0) → Standing (subsections_of 9 [] (drop s.at ts)) marks ts w w s s
standing_start ready zeros = record { before = []; flags = λ n l. ap marked (zeros n l); fuel = no_heading; enough = omega arith; going = going_start ready refl }

-- every subsection has an entry
flat_subsection_some : (s : Subsection) → 0 < length (flat_subsection s)
flat_subsection_some (Inputs ds) = omega arith
flat_subsection_some (Outputs ds) = omega arith
flat_subsection_some (Lines p es) = omega arith

module _ {x : Read (List Subsection)} {marks : List ℕ} {ts : Tokens} {w v : List ℕ} {s d : Cursor} (h : Standing x marks ts w v s d) {n : ℕ} (is : n ≡ heading_number (number_at v d)) where
  ready : Ready ts v d
  ready = h.going.took.ready

  word : heading_of headings h.before (front (drop d.at ts)) ≡ fresh h.before (row_of headings (number_at v d))
  word = heading_number_lem h.before (front (drop d.at ts)) ∙ ap (λ k. fresh h.before (row_of headings k)) (sym (ready-number ready))

  -- no subsection's word
  pub word_none : n ≡ no_heading → heading_of headings h.before (front (drop d.at ts)) ≡ none
  word_none e = word ∙ ap (fresh h.before) (no_row (number_at v d) (sym is ∙ e))

  module _ (l : n < no_heading) where
    pub row : Row (number_at v d)
    row = row_of_lem (number_at v d) (omega arith)

    row_is : row.row.number ≡ n
    row_is = row.number ∙ sym is

    pub row-code : heading_code row.row.heading ≡ n
    row-code = row.code ∙ row_is

    -- a word is no end
    pub word-inside : d.at < d.count
    word-inside = go (number_at v d) refl
      where
        go : (k : ℕ) → number_at v d ≡ k → d.at < d.count
        go zero e = absurd (omega (arith, heading_out 0 (λ i a b c. omega arith), is ∙ ap heading_number e))
        go (suc k) e = before-end v d (omega arith)

    flag : marked (get_or marks n 0) ≡ seen h.before row.row.number
    flag = h.flags n l ∙ ap (seen h.before) (sym row_is)

    -- one that has stood
    pub word-seen : marked (get_or marks n 0) ≡ true → heading_of headings h.before (front (drop d.at ts)) ≡ none
    word-seen e = word ∙ ap (fresh h.before) row.is ∙ pick (seen h.before row.row.number) _ _ (sym flag ∙ e)

    unseen : marked (get_or marks n 0) ≡ false → seen h.before row.row.number ≡ false
    unseen e = sym flag ∙ e

    word-fresh : marked (get_or marks n 0) ≡ false → heading_of headings h.before (front (drop d.at ts)) ≡ some row.row
    word-fresh e = word ∙ ap (fresh h.before) row.is ∙ leave (seen h.before row.row.number) _ _ (unseen e)

    module _ (e : marked (get_or marks n 0) ≡ false) {z : List ℕ} {q : Parse} (r : Reads ts v z d flat_subsection (subsection_of row.row.heading (rest (drop d.at ts))) q) where
      pub subsections-stop : {i p : ℕ} → q ≡ Err (refusal i p) → Reads ts w z s (each flat_subsection) x q
      subsections-stop m = going-refused h.going r.kept m (step h.fuel h.before (some row.row) (drop d.at ts) (word-fresh e) ∙ bind_refused _ _ _ _ (was-refused m r))

      pub subsection-further : {f : Cursor} → q ≡ Ok f → d.at < f.at
      subsection-further m = let a = accepted m r in omega (arith, flat_subsection_some a.value, a.took.out, a.took.onward.slack)

      pub subsections-again : {f : Cursor} → n < length marks → q ≡ Ok f → Standing x (set marks n 1) ts w z s f
      subsections-again {f} b m = go h.fuel refl
        where
          a : Accepted ts z d f flat_subsection (subsection_of row.row.heading (rest (drop d.at ts)))
          a = accepted m r

          fewer : left no_heading h.before ≡ suc (left no_heading (row.row.number ∷ h.before))
          fewer = left_less no_heading row.row.number h.before (omega (arith, row_is)) (unseen e)

          go : (i : ℕ) → h.fuel ≡ i → Standing x (set marks n 1) ts w z s f
          go zero o = absurd (omega (arith, fewer, h.enough))
          go (suc i) o =
              record {
                before = row.row.number ∷ h.before;
                flags = subst (λ k. Flags (set marks n 1) (k ∷ h.before)) (sym row_is) (flags_set marks h.before n b h.flags);
                fuel = i;
                enough = omega (arith, fewer, h.enough);
                going =
                    going_more h.going r.kept a.value
                    (step h.fuel h.before (some row.row) (drop d.at ts) (word-fresh e) ∙ bind_to _ _ _ a.read
                    ∙ ap (λ k. subsections_of k (row.row.number ∷ h.before) (drop f.at ts) >>= λ (ss, us). Done (a.value ∷ ss, us)) o)
                    a.took;
              }

-- the end of MAIN
pub subsections_end : {x : Read (List Subsection)} {marks : List ℕ} {ts : Tokens} {w v : List ℕ} {s d : Cursor} {q : Parse} (h : Standing x marks ts w v s d)
    → heading_of headings h.before (front (drop d.at ts)) ≡ none →
    Reads ts v v d (each flat_subsection) (end_of (marked (get_or marks 0 0) && marked (get_or marks 1 0)) (drop d.at ts)) q → Reads ts w v s (each flat_subsection) x q
subsections_end {marks = marks} {ts} {v = v} {d = d} h e r =
    going-rest h.going (kept_same v d.out)
    (step h.fuel h.before none (drop d.at ts) e ∙ ap (λ b. end_of b (drop d.at ts)) (ap₂ ◌&&◌ (sym (h.flags 0 (omega arith))) (sym (h.flags 1 (omega arith)))))
    (took_none h.going.took.ready) r
