-- The loop over a section's lines, step by step: where it starts, a line that is passed over, a line that is folded, and what it has folded in the end.
use Rattle.std.specs.Prelude.{ℕ, suc, ◌+◌, ◌<◌, ◌≤◌, Bool, true, false, ◌≡◌, refl, List, [], ◌∷◌, ◌++◌, map, eqb, length, get_or}
use Rattle.std.proofs.Common.{take, ap, ◌∙◌, sym, append_assoc, append-nil, length-append, length-take, eq-eqb, ne_eqb, arith}
use Rattle.std.proofs.lemmas.List.{map-append, length-map, get_or_at}
use Rattle.node.specs.Limits.{max_nodes, field_bits}
use Rattle.node.specs.Ltl.{Formula}
use Rattle.node.specs.Fields.{above, below}
use Rattle.node.proofs.FieldLaws.{above_join, below-join}
use Rattle.node.specs.Postorder.{size}
use Rattle.language.specs.Tree.{Part, part_code}
use Rattle.language.specs.Expansion.{Sections, conjunction, lines_of, section}
use Rattle.writing.specs.Writing.{Puts, Wrote}
use Rattle.writing.specs.Parts.{moves, Stands}
use Rattle.writing.specs.PartLaws.{copied}
use Rattle.assembly.specs.Gathered.{in_turn, word, InTable, Lined}
use Rattle.choices.specs.declared.folds.Fold.{Fold}
use Rattle.choices.specs.Folds.{Folded, Furthers, Finishes}
use Rattle.choices.specs.FoldLaws.{folded_none}
use Rattle.assembly.specs.Folding.{lines_in, Passed}

-- one section's lines, then the others'
lines-first : (k : ℕ) (p : Part) (fs : List Formula) (ls : List (Part × Formula))
    → lines_in k (map (λ f. (p, f)) fs ++ ls) ≡ elim (eqb k (part_code p)) [ true ↦ fs ++ lines_in k ls | false ↦ lines_in k ls ]
lines-first k p [] ls = go (eqb k (part_code p))
  where
    go : (b : Bool) → ◌≡◌ {A = List Formula} (lines_in k ls) (elim b [ true ↦ lines_in k ls | false ↦ lines_in k ls ])
    go true = refl
    go false = refl
lines-first k p (f ∷ fs) ls = go (eqb k (part_code p)) (lines-first k p fs ls)
  where
    go : (b : Bool) → ◌≡◌ {A = List Formula} (lines_in k (map (λ f. (p, f)) fs ++ ls)) (elim b [ true ↦ fs ++ lines_in k ls | false ↦ lines_in k ls ])
        → ◌≡◌ {A = List Formula} (elim b [ true ↦ f ∷ lines_in k (map (λ f. (p, f)) fs ++ ls) | false ↦ lines_in k (map (λ f. (p, f)) fs ++ ls) ])
        (elim b [ true ↦ (f ∷ fs) ++ lines_in k ls | false ↦ lines_in k ls ])
    go true e = ap (λ (x : List Formula). f ∷ x) e
    go false e = e

-- a part's lines among all lines in turn are those of the part's sections
pub lines_of_lem : (p : Part) (ss : Sections) → lines_in (part_code p) (in_turn ss) ≡ lines_of p ss
lines_of_lem p [] = refl
lines_of_lem p (s ∷ ss) =
    lines-first (part_code p) s.0 s.1 (in_turn ss)
    ∙ ap (λ (x : List Formula). elim (eqb (part_code p) (part_code s.0)) [ true ↦ s.1 ++ x | false ↦ x ]) (lines_of_lem p ss)

-- a line more
lines-last : (k : ℕ) (ls : List (Part × Formula)) (l : Part × Formula) → lines_in k (ls ++ (l ∷ [])) ≡ lines_in k ls ++ lines_in k (l ∷ [])
lines-last k [] l = refl
lines-last k (x ∷ ls) l = go (eqb k (part_code x.0)) (lines-last k ls l)
  where
    go : (b : Bool) → lines_in k (ls ++ (l ∷ [])) ≡ lines_in k ls ++ lines_in k (l ∷ [])
        → elim b [ true ↦ x.1 ∷ lines_in k (ls ++ (l ∷ [])) | false ↦ lines_in k (ls ++ (l ∷ [])) ] ≡ elim b [ true ↦ x.1 ∷ lines_in k ls | false ↦ lines_in k ls ] ++ lines_in k (l ∷ [])
    go true e = ap (λ (x' : List Formula). x.1 ∷ x') e
    go false e = e

lines_skip : (k : ℕ) (ls : List (Part × Formula)) (l : Part × Formula) → (k ≡ part_code l.0 → ⊥) → lines_in k (ls ++ (l ∷ [])) ≡ lines_in k ls
lines_skip k ls l d =
    lines-last k ls l
    ∙ ap (λ (b : Bool). lines_in k ls ++ elim b [ true ↦ l.1 ∷ [] | false ↦ [] ]) (ne_eqb k (part_code l.0) d)
    ∙ append-nil (lines_in k ls)

lines-take : (k : ℕ) (ls : List (Part × Formula)) (l : Part × Formula) → k ≡ part_code l.0 → lines_in k (ls ++ (l ∷ [])) ≡ lines_in k ls ++ (l.1 ∷ [])
lines-take k ls l e =
    lines-last k ls l
    ∙ ap (λ (b : Bool). lines_in k ls ++ elim b [ true ↦ l.1 ∷ [] | false ↦ [] ]) (eq-eqb k (part_code l.0) e)

pub passed_none : (part : ℕ) {ls : List (Part × Formula)} {words table out : List ℕ} {count at : ℕ} → Lined ls words count table
    → Passed part ls table out out at 0 0 (record { some = false; end = at })
passed_none part {ls} {out = out} {at = at} l = record { done = []; rest = ls; split = refl; index = refl; stand = l.stand; folded = folded_none true out at }

-- the line ahead, of which w is the word
pub record Ahead (part : ℕ) (ls : List (Part × Formula)) (table out out' : List ℕ) (at i start : ℕ) (f : Fold) (w : ℕ) : Type 0 where
  pub done : List (Part × Formula)
  pub line : Part × Formula
  pub rest : List (Part × Formula)
  pub split : ls ≡ done ++ (line ∷ rest)
  pub index : length done ≡ i
  pub stands : Stands line.1 table start
  pub stand : InTable rest table (start + size line.1)
  pub folded : Folded true f (lines_in part done) out out' at
  pub code : above field_bits w ≡ part_code line.0
  pub nodes : below field_bits w ≡ size line.1

pub ahead : {part : ℕ} {ls : List (Part × Formula)} {words table out out' : List ℕ} {count at i start : ℕ} {f : Fold}
    → Lined ls words count table → Passed part ls table out out' at i start f → i < count → Ahead part ls table out out' at i start f (get_or (take count words) i 0)
ahead {part} {ls} {words} {table} {out} {out'} {count} {at} {i} {start} {f} l p h = go p.rest p.split p.stand
  where
    go : (rest : List (Part × Formula)) → ls ≡ p.done ++ rest → InTable rest table start → Ahead part ls table out out' at i start f (get_or (take count words) i 0)
    go [] e s = absurd (omega (arith, ap length e ∙ length-append p.done [], l.counted, p.index))
    go (x ∷ rest) e s =
        let at_i : get_or (take count words) i 0 ≡ word x =
        ap (λ (ws : List ℕ). get_or ws i 0) (l.listed ∙ ap (map word) e ∙ map-append word p.done (x ∷ rest))
        ∙ get_or_at (map word p.done) (word x) (map word rest) 0 i (length-map p.done word ∙ p.index) in
        let room = s.0.room in
        record {
          done = p.done;
          line = x;
          rest = rest;
          split = e;
          index = p.index;
          stands = s.0;
          stand = s.1;
          folded = p.folded;
          code = ap (above field_bits) at_i ∙ above_join field_bits (part_code x.0) (omega arith);
          nodes = ap (below field_bits) at_i ∙ below-join field_bits (part_code x.0) (omega arith);
        }

-- there are as many words
pub words_enough : {ls : List (Part × Formula)} {words table : List ℕ} {count : ℕ} → Lined ls words count table → count ≤ length words
words_enough {ls} {words} {table} {count} l = omega (arith, simp (length-take, length-map) at (ap length l.listed), l.counted)

module _ {part : ℕ} {ls : List (Part × Formula)} {table out between : List ℕ} {at i start : ℕ} {f : Fold} {w : ℕ} (a : Ahead part ls table out between at i start f w) where
  pub ahead-fits : start + below field_bits w ≤ max_nodes
  ahead-fits = omega (arith, a.stands.room, a.nodes)

  index-more : length (a.done ++ (a.line ∷ [])) ≡ suc i
  index-more = length-append a.done (a.line ∷ []) ∙ omega (arith, a.index)

  pub skipped : (above field_bits w ≡ part → ⊥) → Passed part ls table out between at (suc i) (start + below field_bits w) f
  skipped d = record {
    done = a.done ++ (a.line ∷ []);
    rest = a.rest;
    split = a.split ∙ sym (append_assoc a.done (a.line ∷ []) a.rest);
    index = index-more;
    stand = rw a.nodes a.stand;
    folded = rw (lines_skip part a.done a.line (λ e. d (a.code ∙ sym e))) a.folded;
  }

  pub folded_more : above field_bits w ≡ part → {copied out' : List ℕ} {m : ℕ} {g : Fold} → Puts (moves start f.end (below field_bits w) table) between copied f.end m
      → Furthers true f m copied out' g → Passed part ls table out out' at (suc i) (start + below field_bits w) g
  folded_more e p h = record {
    done = a.done ++ (a.line ∷ []);
    rest = a.rest;
    split = a.split ∙ sym (append_assoc a.done (a.line ∷ []) a.rest);
    index = index-more;
    stand = rw a.nodes a.stand;
    folded = rw (lines-take part a.done a.line (sym e ∙ a.code)) (h.folded a.folded (copied a.stands a.nodes p));
  }

-- all lines are passed
pub passed-all : {part : ℕ} {ls : List (Part × Formula)} {words table out out' : List ℕ} {count at i start : ℕ} {f : Fold}
    → Lined ls words count table → Passed part ls table out out' at i start f → count ≤ i → Folded true f (lines_in part ls) out out' at
passed-all {part} {ls} {out = out} {out' = out'} {at = at} {f = f} l p h = go p.rest p.split
  where
    go : (rest : List (Part × Formula)) → ls ≡ p.done ++ rest → Folded true f (lines_in part ls) out out' at
    go [] e = rw (e ∙ append-nil p.done) p.folded
    go (x ∷ rest) e = absurd (omega (arith, ap length e ∙ length-append p.done (x ∷ rest), l.counted, p.index))

-- and the fold is the section
pub section-is : {part : ℕ} (p : Part) (ss : Sections) → part ≡ part_code p → {f : Fold} {out between out' : List ℕ} {at r : ℕ} → Folded true f (lines_in part (in_turn ss)) out between at
    → Finishes true f between out' r → Wrote (section ss p) out out' at r
section-is p ss c d e =
    let same = ap (λ (k : ℕ). lines_in k (in_turn ss)) c ∙ lines_of_lem p ss in
    rw (ap conjunction same) at (e.wrote d)
