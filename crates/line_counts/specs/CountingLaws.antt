-- Words counted one by one, and the words of a text's lines: as many as the section has lines.
use Rattle.std.specs.Prelude.{ℕ, suc, ◌+◌, ◌<◌, ◌≤◌, Bool, true, false, ◌≡◌, refl, List, [], ◌∷◌, ◌++◌, map, eqb, length, get_or, take}
use Rattle.std.proofs.Common.{sym, ap, ap₂, ◌∙◌, take-suc, eq-eqb, ne_eqb, arith}
use Rattle.std.proofs.lemmas.List.{get_or-take}
use Rattle.node.specs.Fields.{above}
use Rattle.node.proofs.FieldLaws.{above_join}
use Rattle.node.specs.Limits.{max_nodes, field_bits}
use Rattle.node.specs.Ltl.{Formula}
use Rattle.node.specs.Postorder.{size}
use Rattle.node.proofs.PostorderLaws.{size_pos}
use Rattle.language.specs.Tree.{Part, Preset, Assert, Guarantee, part_code}
use Rattle.language.specs.Expansion.{Sections, lines_of}
use Rattle.assembly.specs.Gathered.{in_turn, word, InTable, Lined}
use Rattle.assembly.specs.Folding.{lines_in}
use Rattle.assembly.specs.FoldingLaws.{lines_of_lem, words_enough}
use Rattle.line_counts.specs.declared.LineCounts.{LineCounts}
use Rattle.line_counts.specs.Counting.{one, counted, PartCount, Counts}

-- a word of the part, and another
abbrev digit : Bool → ℕ
digit b = elim b [ true ↦ 1 | false ↦ 0 ]

pub is_one : (part w : ℕ) → above field_bits w ≡ part → 1 ≡ one part w
is_one part w e = sym (ap digit (eq-eqb part (above field_bits w) (sym e)))

pub is_none : (part w : ℕ) → (above field_bits w ≡ part → ⊥) → 0 ≡ one part w
is_none part w d = sym (ap digit (ne_eqb part (above field_bits w) (λ e. d (sym e))))

pub one-most : (part w : ℕ) → one part w ≤ 1
one-most part w = go (eqb part (above field_bits w))
  where
    go : (b : Bool) → digit b ≤ 1
    go true = omega arith
    go false = omega arith

pub one_few : (part w : ℕ) {m : ℕ} → m ≡ one part w → m ≤ 1
one_few part w e = omega (arith, e, one-most part w)

-- no word, a word more
pub counting_none : (part : ℕ) (words : List ℕ) → PartCount part words 0 0
unfolding counted
counting_none part words = record { is = λ h. refl }

counted-last : (part : ℕ) (ws : List ℕ) (w : ℕ) → counted part (ws ++ (w ∷ [])) ≡ counted part ws + one part w
unfolding counted
counted-last part [] w = omega arith
counted-last part (v ∷ ws) w = omega (arith, counted-last part ws w)

pub counting_more : {part : ℕ} {words : List ℕ} {k i n m : ℕ} → i < k → PartCount part words i n → m ≡ one part (get_or (take k words) i 0) → PartCount part words (suc i) (n + m)
counting_more {part} {words} {k} {i} l e q = record {
  is = λ h. ap₂ ◌+◌ (e.is (omega arith)) (q ∙ ap (one part) (get_or-take k words i 0 l)) ∙ sym (counted-last part (take i words) (get_or words i 0)) ∙ ap (counted part) (sym (take-suc words i 0 (omega arith)));
}

-- the words of lines
lines-counted : (part : ℕ) (ls : List (Part × Formula)) (table : List ℕ) (at : ℕ) → InTable ls table at → counted part (map word ls) ≡ length (lines_in part ls)
unfolding counted
lines-counted part [] table at t = refl
lines-counted part (l ∷ ls) table at t =
    let room = t.0.room in
    let code : above field_bits (word l) ≡ part_code l.0 = above_join field_bits (part_code l.0) (omega arith) in
    ap (λ (k : ℕ). digit (eqb part k) + counted part (map word ls)) code ∙ go (eqb part (part_code l.0)) (lines-counted part ls table (at + size l.1) t.1)
  where
    go : (b : Bool) → counted part (map word ls) ≡ length (lines_in part ls)
        → digit b + counted part (map word ls) ≡ length {A = Formula} (elim b [ true ↦ l.1 ∷ lines_in part ls | false ↦ lines_in part ls ])
    go true e = omega (arith, e)
    go false e = omega (arith, e)

-- each has a node at least
lines_few : (ls : List (Part × Formula)) (table : List ℕ) (at : ℕ) → InTable ls table at → at ≤ max_nodes → at + length ls ≤ max_nodes
lines_few [] table at t h = omega arith
lines_few (l ∷ ls) table at t h = let room = t.0.room in omega (arith, lines_few ls table (at + size l.1) t.1 room, size_pos l.1)

-- a section's, among the words of all lines
section-counted : (p : Part) (ss : Sections) {words table : List ℕ} {count n : ℕ} → PartCount (part_code p) words count n → Lined (in_turn ss) words count table → n ≡ length (lines_of p ss)
section-counted p ss {words} {table} e l =
    e.is (words_enough l) ∙ ap (counted (part_code p)) l.listed ∙ lines-counted (part_code p) (in_turn ss) table 0 l.stand ∙ ap (λ (fs : List Formula). length fs) (lines_of_lem p ss)

pub counts : {words : List ℕ} {count a b c : ℕ} → PartCount (part_code Preset) words count a → PartCount (part_code Assert) words count b → PartCount (part_code Guarantee) words count c
    → Counts words count (record { preset = a; assert = b; guarantee = c })
counts {words} {count} {a} {b} {c} d e f = record {
  are = λ ss table l.
      ap (λ (i : ℕ). record { preset = i; assert = b; guarantee = c }) (section-counted Preset ss d l)
      ∙ ap₂ (λ (i j : ℕ). record { preset = length (lines_of Preset ss); assert = i; guarantee = j }) (section-counted Assert ss e l) (section-counted Guarantee ss f l);
}

-- more lines than can stand in a table
pub counts_none : {words : List ℕ} {count : ℕ} (r : LineCounts) → max_nodes < count → Counts words count r
counts_none r h = record { are = λ ss table l. absurd (omega (arith, lines_few (in_turn ss) table 0 l.stand (omega arith), l.counted)) }
