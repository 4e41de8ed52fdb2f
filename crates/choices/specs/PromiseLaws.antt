-- From word to word of the entries: how each function goes on, and what it has at the end.
use Rattle.std.specs.Prelude.{ℕ, ◌+◌, ◌-◌, ◌≤◌, ◌<◌, Bool, true, false, ◌&&◌, not, List, [], ◌∷◌, ◌++◌, map, ◌≡◌, refl, eqb, length, get_or, take, set}
use Rattle.std.proofs.lemmas.List.{map-append, length-map}
use Rattle.std.proofs.Math.Path.{sym, ap}
use Rattle.std.proofs.Common.{ap₂, ◌∙◌, subst, add-one, arith, length-append, take-suc-set, eq-eqb, ne_eqb}
use Rattle.node.specs.Limits.{max_nodes}
use Rattle.language.specs.Limits.{max_words, max_marks}
use Rattle.node.specs.Ltl.{Formula}
use Rattle.language.specs.Tokens.{Token}
use Rattle.language.specs.DeclaredNames.{Port, word_width}
use Rattle.language.specs.Numbering.{mark_of, marks_of, first_of, covered}
use Rattle.language.specs.Expansion.{one_of, width_is, conjunction, disjunction}
use Rattle.language.specs.Lines.{leaves_unnamed}
use Rattle.language.proofs.Laws.Basics.Lists.{All, all_right, all_map}
use Rattle.language.proofs.Laws.Basics.Tests.{and_false}
use Rattle.language.proofs.Laws.Values.RegularWords.{Regular as RegularWords}
use Rattle.lexer.specs.Stored.{offset_in, length_in}
use Rattle.entries.specs.Kinds as Kind
use Rattle.traversal.specs.declared.Cell.{Cell}
use Rattle.traversal.specs.Cells.{cell_at}
use Rattle.enumerations.specs.Pass.{bytes_at}
use Rattle.writing.specs.Writing.{Wrote}
use Rattle.writing.specs.WritingLaws.{wrote_none}
use Rattle.choices.specs.declared.folds.Fold.{Fold}
use Rattle.choices.specs.Entries.{words_at, row_in, rows_at, texts_of, Words}
use Rattle.choices.specs.EntryLaws.{words_none, words-skip, words-here, Passed, passed_none, passed-all, passed-skip, passed_here, passed-word, length-bytes}
use Rattle.choices.specs.Literals.{is_star, literal, matching}
use Rattle.choices.specs.LiteralLaws.{literals_at, star-more, literal-more}
use Rattle.choices.specs.Folds.{Folded, Furthers, Finishes}
use Rattle.choices.specs.FoldLaws.{folded_none}
use Rattle.choices.specs.Coverage.{Rows, rests, width_of, Regular, unnamed}
use Rattle.choices.specs.CoverageLaws.{rows_more, rests-all, unnamed_some}
use Rattle.choices.specs.Promise.{Readable, Tabled, Matches, OneOf, WidthsAre, Unnamed}

-- widths
abbrev sizes_are : ℕ → List ℕ → Bool
sizes_are n [] = true
sizes_are n (x ∷ xs) = eqb (length_in x) n && sizes_are n xs

unfoldable pub widths_from : List ℕ → ℕ → ℕ → ℕ → Bool
widths_from w i to n = sizes_are n (words_at w i (to - i))

module _ (w : List ℕ) (i to n : ℕ) where
  pub widths_none : to ≤ i → true ≡ widths_from w i to n
  unfolding widths_from
  widths_none h = sym (ap (sizes_are n) (words_none w i to h))

  module _ (inside : i < to) {c : Cell} (here : c ≡ cell_at w i) where
    pub widths-skip : (c.kind ≡ Kind.word → ⊥) → widths_from w i to n ≡ widths_from w (i + 1) to n
    unfolding widths_from
    widths-skip h = ap (sizes_are n) (words-skip w i to inside here h)

    pub widths-same : c.kind ≡ Kind.word → length_in c.token ≡ n → widths_from w i to n ≡ widths_from w (i + 1) to n
    unfolding widths_from
    widths-same h e = ap (sizes_are n) (words-here w i to inside here h) ∙ ap (λ (b : Bool). b && sizes_are n (words_at w (i + 1) (to - (i + 1)))) (eq-eqb (length_in c.token) n e)

    pub widths-other : c.kind ≡ Kind.word → (length_in c.token ≡ n → ⊥) → widths_from w i to n ≡ false
    unfolding widths_from
    widths-other h e = ap (sizes_are n) (words-here w i to inside here h) ∙ and_false (eqb (length_in c.token) n) _ (ne_eqb (length_in c.token) n e)

sizes_are_lem : (text : List ℕ) (n : ℕ) (xs : List ℕ) (ws : List Token) → map (row_in text) xs ≡ texts_of ws → sizes_are n xs ≡ width_is n ws
sizes_are_lem text n [] [] e = refl
sizes_are_lem text n [] (v ∷ ws) e = let z : ◌≡◌ {A = ℕ} 0 1 = cc in absurd (omega arith)
sizes_are_lem text n (x ∷ xs) [] e = let z : ◌≡◌ {A = ℕ} 0 1 = cc in absurd (omega arith)
sizes_are_lem text n (x ∷ xs) (v ∷ ws) e =
    let h : row_in text x ≡ v.text = cc in
    let t : map (row_in text) xs ≡ texts_of ws = cc in
    let l : length_in x ≡ length v.text = sym (length-bytes text (offset_in x) (length_in x)) ∙ ap length h in
    ap₂ (λ (m : ℕ) (b : Bool). eqb m n && b) l (sizes_are_lem text n xs ws t)

pub widths_are : {w : List ℕ} {from to n : ℕ} {r : Bool} → r ≡ widths_from w from to n → WidthsAre w from to n r
unfolding widths_from rows_at
widths_are {w} {from} {to} {n} e = record { same = λ text ws h. e ∙ sizes_are_lem text n (words_at w from (to - from)) ws h.rows }

-- one word: its marks before mark i are folded
pub record Matched (text : List ℕ) (place first : ℕ) (out : List ℕ) (at i : ℕ) (f : Fold) (out' : List ℕ) : Type 0 where
  pub folded : (ps : List Port) (name : List ℕ) → first ≡ first_of ps name → Folded true f (literals_at ps name text place i) out out' at

pub matched_none : (text : List ℕ) (place first : ℕ) (out : List ℕ) (at : ℕ) → Matched text place first out at 0 (record { some = false; end = at }) out
unfolding bytes_at
matched_none text place first out at = record { folded = λ ps name e. folded_none true out at }

module _ {text : List ℕ} {place first : ℕ} {out : List ℕ} {at i : ℕ} {f : Fold} {out' : List ℕ} (m : Matched text place first out at i f out') where
  module _ {b : ℕ} (here : b ≡ get_or text (place + i) 0) where
    pub matched-star : is_star (mark_of b) ≡ true → Matched text place first out at (i + 1) f out'
    matched-star h = record { folded = λ ps name e. subst (λ (fs : List Formula). Folded true f fs out out' at) (sym (star-more ps name text place i here h)) (m.folded ps name e) }

    pub matched-literal : {r : ℕ} {between out'' : List ℕ} {g : Fold} → is_star (mark_of b) ≡ false → Wrote (literal (eqb b 49) (first + i)) out' between f.end r → Furthers true f r between out'' g
        → Matched text place first out at (i + 1) g out''
    matched-literal {r} {between} {out''} {g} h a u = record {
      folded = λ ps name e.
          subst (λ (fs : List Formula). Folded true g fs out out'' at) (sym (literal-more ps name text place i here h))
          (u.folded (m.folded ps name e) (subst (λ (k : ℕ). Wrote (literal (eqb b 49) (k + i)) out' between f.end r) e a));
    }

  pub matched_all : {x r : ℕ} {out'' : List ℕ} → place ≡ offset_in x → i ≡ length_in x → Finishes true f out' out'' r → Matches text x first out out'' at r
  matched_all {x} {r} {out''} p n h = record {
    wrote = λ ps name e. subst (λ (fs : List Formula). Wrote (conjunction fs) out out'' at r) (ap₂ (literals_at ps name text) p n) (h.wrote (m.folded ps name e));
  }

-- one of the words: those before entry i are folded
pub record Matching (text w : List ℕ) (from to first : ℕ) (out : List ℕ) (at i : ℕ) (f : Fold) (out' : List ℕ) : Type 0 where
  pub done : List ℕ
  pub passed : Passed w from to i done
  pub folded : (ps : List Port) (name : List ℕ) → first ≡ first_of ps name → Folded false f (map (λ (x : ℕ). matching ps name (row_in text x)) done) out out' at

pub matching_none : (text w : List ℕ) (from to first : ℕ) (out : List ℕ) (at : ℕ) → Matching text w from to first out at from (record { some = false; end = at }) out
matching_none text w from to first out at = record { done = []; passed = passed_none w from to; folded = λ ps name e. folded_none false out at }

module _ {text w : List ℕ} {from to first : ℕ} {out : List ℕ} {at i : ℕ} {f : Fold} {out' : List ℕ} (m : Matching text w from to first out at i f out') where
  module _ (inside : i < to) {c : Cell} (here : c ≡ cell_at w i) where
    pub matching-skip : (c.kind ≡ Kind.word → ⊥) → Matching text w from to first out at (i + 1) f out'
    matching-skip h = record { done = m.done; passed = passed-skip m.passed inside here h; folded = m.folded }

    pub matching-word : {r : ℕ} {between out'' : List ℕ} {g : Fold} → c.kind ≡ Kind.word → Matches text c.token first out' between f.end r → Furthers false f r between out'' g
        → Matching text w from to first out at (i + 1) g out''
    matching-word {out'' = out''} {g = g} h a b =
        record {
          done = m.done ++ (c.token ∷ []);
          passed = passed-word m.passed inside here h;
          folded = λ ps name e.
              subst (λ (fs : List Formula). Folded false g fs out out'' at) (sym (map-append (λ (x : ℕ). matching ps name (row_in text x)) m.done (c.token ∷ [])))
              (b.folded (m.folded ps name e) (a.wrote ps name e));
        }

one_of-texts : (ps : List Port) (name : List ℕ) (ws : List Token) → one_of ps name ws ≡ disjunction (map (matching ps name) (texts_of ws))
one_of-texts ps name ws = ap disjunction (go ws)
  where
    go : (ws : List Token) → map (λ (v : Token). matching ps name v.text) ws ≡ map (matching ps name) (texts_of ws)
    go [] = refl
    go (v ∷ ws) = ap (λ (l : List Formula). matching ps name v.text ∷ l) (go ws)

map_rows : (text : List ℕ) (ps : List Port) (name : List ℕ) (xs : List ℕ) → map (λ (x : ℕ). matching ps name (row_in text x)) xs ≡ map (matching ps name) (map (row_in text) xs)
map_rows text ps name [] = refl
map_rows text ps name (x ∷ xs) = ap (λ (l : List Formula). matching ps name (row_in text x) ∷ l) (map_rows text ps name xs)

pub matching-all : {text w : List ℕ} {from to first : ℕ} {out : List ℕ} {at i : ℕ} {f : Fold} {out' out'' : List ℕ} {r : ℕ} → Matching text w from to first out at i f out' → to ≤ i → at ≤ max_nodes
    → Finishes false f out' out'' r → OneOf text w from to first out out'' at r
unfolding rows_at
matching-all {text} {w} {from} {to} {first} {out} {at} {i} {f} {out'} {out''} {r} m l few h = record {
  wrote = λ ps name ws here e.
      let same : disjunction (map (λ (x : ℕ). matching ps name (row_in text x)) m.done) ≡ one_of ps name ws =
      ap disjunction (ap (map (λ (x : ℕ). matching ps name (row_in text x))) (passed-all m.passed l) ∙ map_rows text ps name (words_at w from (to - from)) ∙ ap (map (matching ps name)) here.rows)
      ∙ sym (one_of-texts ps name ws) in
      subst (λ (g : Formula). Wrote g out out'' at r) same (h.wrote (m.folded ps name (e few)));
}

pub one_of-past : {text w : List ℕ} {from to first : ℕ} {out out' : List ℕ} {at r : ℕ} → max_nodes < at → max_nodes < r → OneOf text w from to first out out' at r
one_of-past h g = record { wrote = λ ps name ws here e. wrote_none (omega arith) g }

-- the words in rows of an array
pub record Tabling (text w : List ℕ) (from to i : ℕ) (rows : List (List ℕ)) (count width : ℕ) : Type 0 where
  pub done : List ℕ
  pub passed : Passed w from to i done
  pub filled : Rows rows count
  pub counted : count ≡ length done
  pub same : map (take (width_of (rows_at text w from to))) (take count rows) ≡ map (row_in text) done
  pub wide : 0 < count → width ≡ width_of (rows_at text w from to)

pub tabling_none : (text w : List ℕ) (from to : ℕ) (rows : List (List ℕ)) → Rows rows 0 → Tabling text w from to from rows 0 0
tabling_none text w from to rows h =
    record { done = []; passed = passed_none w from to; filled = h; counted = refl; same = refl; wide = λ l. absurd (omega arith) }

module _ {text w : List ℕ} {from to i : ℕ} {rows : List (List ℕ)} {count width : ℕ} (regular : Regular (rows_at text w from to)) (t : Tabling text w from to i rows count width) (inside : i < to)
    {c : Cell} (here : c ≡ cell_at w i) where
  pub tabling_skip : (c.kind ≡ Kind.word → ⊥) → Tabling text w from to (i + 1) rows count width
  tabling_skip h = record { done = t.done; passed = passed-skip t.passed inside here h; filled = t.filled; counted = t.counted; same = t.same; wide = t.wide }

  module _ (h : c.kind ≡ Kind.word) where
    split : map (row_in text) t.done ++ (row_in text c.token ∷ map (row_in text) (words_at w (i + 1) (to - (i + 1)))) ≡ rows_at text w from to
    unfolding rows_at
    split = sym (map-append (row_in text) t.done _) ∙ ap (map (row_in text)) (passed_here t.passed inside here h)

    -- it is as wide as the first, and not the 17th
    pub tabling-width : length_in c.token ≡ width_of (rows_at text w from to)
    tabling-width =
        let a = all_right (λ (r : List ℕ). length r ≡ width_of (rows_at text w from to)) (map (row_in text) t.done) _
        (subst (All (λ (r : List ℕ). length r ≡ width_of (rows_at text w from to))) (sym split) regular.equal) in
        sym (length-bytes text (offset_in c.token) (length_in c.token)) ∙ a.0

    pub tabling-narrow : length_in c.token ≤ max_marks
    tabling-narrow = let e = tabling-width in let n = regular.narrow in omega arith

    pub tabling-room : count < max_words
    tabling-room =
        let e = ap length split in
        let l = length-append (map (row_in text) t.done) (row_in text c.token ∷ map (row_in text) (words_at w (i + 1) (to - (i + 1)))) in
        let m = length-map t.done (row_in text) in
        let k = t.counted in
        let f = regular.few in
        omega arith

    pub tabling-word : (row : List ℕ) → take (length_in c.token) row ≡ row_in text c.token → length row ≡ max_marks → Tabling text w from to (i + 1) (set rows count row) (count + 1) (length_in c.token)
    tabling-word row e full =
        let z = tabling-room in
        let k = t.counted in
        let l = length-append t.done (c.token ∷ []) in
        let a = t.filled.all in
        record {
          done = t.done ++ (c.token ∷ []);
          passed = passed-word t.passed inside here h;
          filled = rows_more rows count row t.filled z full;
          counted = omega arith;
          same =
              ap (λ (n : ℕ). map (take (width_of (rows_at text w from to))) (take n (set rows count row))) (add-one count)
              ∙ ap (map (take (width_of (rows_at text w from to)))) (take-suc-set rows count row (omega arith))
              ∙ map-append (take (width_of (rows_at text w from to))) (take count rows) (row ∷ [])
              ∙ ap₂ (λ (l : List (List ℕ)) (r : List ℕ). l ++ (r ∷ [])) t.same (ap (λ (n : ℕ). take n row) (sym tabling-width) ∙ e)
              ∙ sym (map-append (row_in text) t.done (c.token ∷ []));
          wide = λ l. tabling-width;
        }

pub tabling_wide : {text w : List ℕ} {from to i : ℕ} {rows : List (List ℕ)} {count width : ℕ} → Regular (rows_at text w from to) → Tabling text w from to i rows count width → (count ≡ 0 → ⊥)
    → width ≤ max_marks
tabling_wide r t h = let e = t.wide (omega arith) in let n = r.narrow in omega arith

-- the words' rows are all there
module _ {text w : List ℕ} {from to i : ℕ} {rows : List (List ℕ)} {count width : ℕ} (t : Tabling text w from to i rows count width) (past : to ≤ i) where
  all-rows : map (row_in text) t.done ≡ rows_at text w from to
  unfolding rows_at
  all-rows = ap (map (row_in text)) (passed-all t.passed past)

  size-rows : count ≡ length (rows_at text w from to)
  size-rows = t.counted ∙ sym (length-map t.done (row_in text)) ∙ ap length all-rows

  none_left : (l : List (List ℕ)) → length l ≡ 0 → false ≡ unnamed l
  none_left [] e = refl
  none_left (r ∷ l) e = absurd (omega arith)

  pub tabling_empty : count ≡ 0 → false ≡ unnamed (rows_at text w from to)
  tabling_empty e = none_left (rows_at text w from to) (sym size-rows ∙ e)

  pub tabling_all : {b : Bool} → (count ≡ 0 → ⊥) → b ≡ covered (width - 0) (rests 0 width (take count rows)) → not b ≡ unnamed (rows_at text w from to)
  tabling_all {b} h e =
      let v : width ≡ width_of (rows_at text w from to) = t.wide (omega arith) in
      let z : width - 0 ≡ width_of (rows_at text w from to) = omega arith in
      let same : rests 0 width (take count rows) ≡ map (map mark_of) (rows_at text w from to) =
      ap (λ (n : ℕ). rests 0 n (take count rows)) v ∙ rests-all (width_of (rows_at text w from to)) (take count rows) ∙ ap (map (map mark_of)) (t.same ∙ all-rows) in
      ap not (e ∙ ap₂ covered z same) ∙ sym (unnamed_some (rows_at text w from to) (λ n. h (size-rows ∙ ap length n)))

unnamed-texts : (ws : List Token) → unnamed (texts_of ws) ≡ leaves_unnamed ws
unnamed-texts [] = refl
unnamed-texts (v ∷ ws) = ap (λ l. not (covered (length v.text) (marks_of v ∷ l))) (go ws)
  where
    go : (ws : List Token) → map (map mark_of) (texts_of ws) ≡ map marks_of ws
    go [] = refl
    go (v ∷ ws) = ap (λ l. marks_of v ∷ l) (go ws)

pub unnamed-is : {text w : List ℕ} {from to : ℕ} {r : Bool} → r ≡ unnamed (rows_at text w from to) → Unnamed text w from to r
unnamed-is e = record { same = λ ws h. e ∙ ap unnamed h.rows ∙ unnamed-texts ws }

-- the words of an enumeration that refusal 10 lets pass
pub tabled : {text w : List ℕ} {from to : ℕ} {ws : List Token} → Readable w to → Words text w from to ws → RegularWords ws → Tabled text w from to
tabled {ws = ws} b h r = record { readable = b; regular = subst Regular (sym h.rows) (go ws r) }
  where
    go : (ws : List Token) → RegularWords ws → Regular (texts_of ws)
    go [] r = record { equal = tt; narrow = omega arith; few = omega arith }
    go (v ∷ ws) r =
        let n = r.narrow in
        let l = length-map (v ∷ ws) (λ (t : Token). t.text) in
        let f = r.few in
        record {
          equal = all_map (λ (t : Token). length t.text ≡ word_width (v ∷ ws)) (λ (s : List ℕ). length s ≡ length v.text) (λ (t : Token). t.text) (λ t e. e) (v ∷ ws) r.equal;
          narrow = n;
          few = omega arith;
        }
