-- Lines that are gathered: none, and a line more.
use Rattle.std.specs.Prelude.{ℕ, suc, ◌+◌, ◌-◌, ◌<◌, ◌≤◌, ◌≡◌, refl, List, [], ◌∷◌, ◌++◌, length, take, set}
use Rattle.std.proofs.Common.{ap, ap₂, ◌∙◌, sym, subst, length-append, take-suc-set, arith}
use Rattle.std.proofs.lemmas.List.{map-append}
use Rattle.std.proofs.Math.Decide.{dec_lt}
use Rattle.node.specs.Limits.{max_nodes, field_bits}
use Rattle.node.specs.Ltl.{Formula}
use Rattle.node.specs.Fields.{join}
use Rattle.node.specs.Postorder.{size}
use Rattle.node.proofs.PostorderLaws.{size_pos}
use Rattle.language.specs.Tree.{Part, Initially, Preset, Require, Assert, Assume, Guarantee, part_code}
use Rattle.writing.specs.Writing.{Puts, Wrote}
use Rattle.writing.specs.WritingLaws.{ends, past}
use Rattle.writing.specs.Parts.{Stands}
use Rattle.writing.specs.PartLaws.{stands, stands-below, length_stays}
use Rattle.assembly.specs.Gathered.{parts, word, extent, InTable, Lined, GatheredFrom, LineRoom, Adds}

pub extent-last : (ls : List (Part × Formula)) (l : Part × Formula) → extent (ls ++ (l ∷ [])) ≡ extent ls + size l.1
extent-last [] l = omega arith
extent-last (x ∷ ls) l = omega (arith, extent-last ls l)

-- a line has a node at least
extent-length : (ls : List (Part × Formula)) → length ls ≤ extent ls
extent-length [] = omega arith
extent-length (l ∷ ls) = omega (arith, extent-length ls, size_pos l.1)

part-known : (p : Part) → part_code p < parts
part-known Initially = omega arith
part-known Preset = omega arith
part-known Require = omega arith
part-known Assert = omega arith
part-known Assume = omega arith
part-known Guarantee = omega arith

-- formulas that stand in a table, still after words were stored behind them, and with one more behind them
table-last : (ls : List (Part × Formula)) (l : Part × Formula) {vs table table' : List ℕ} (at : ℕ) {m r : ℕ} → InTable ls table at → at + extent ls ≡ m → Puts vs table table' m r → r ≤ max_nodes
    → Stands l.1 table' m → InTable (ls ++ (l ∷ [])) table' at
table-last [] l {table' = table'} at {m} t e p h s = let z : m ≡ at = omega arith in (subst (λ (k : ℕ). Stands l.1 table' k) z s, tt)
table-last (x ∷ ls) l at t e p h s = (stands-below t.0 (omega arith) p h, table-last ls l (at + size x.1) t.1 (omega arith) p h s)

pub gathered_none : (start : ℕ) (words : List ℕ) {table : List ℕ} → (start ≤ max_nodes → (start ≡ 0) × (length table ≡ max_nodes)) → GatheredFrom start [] words 0 table start
gathered_none start words e = record {
  lined = λ h. record { counted = refl; listed = refl; stand = tt };
  starts = λ h. (e h).0;
  ends = λ h. (e h).0;
  sized = λ h. (e h).1;
  many = λ h. omega arith;
}

module _ {start : ℕ} {ls : List (Part × Formula)} {f : Formula} {words table table' : List ℕ} {count at next : ℕ} (g : GatheredFrom start ls words count table at) (w : Wrote f table table' at next)
  where
    -- a line that fits comes after those that fit, and they are no more than the table's nodes
    pub line-fits : next ≤ max_nodes → (at ≤ max_nodes) × (next ≡ at + size f)
    line-fits h = let e = ends w h in (omega arith, e)

    line-few : next ≤ max_nodes → count < max_nodes
    line-few h =
        let n = line-fits h in
        let c = (g.lined n.0).counted in
        omega (arith, extent-length ls, g.ends n.0, size_pos f)

    pub line-room : (p : Part) {part : ℕ} → part ≡ part_code p → max_nodes ≤ length words → LineRoom part at next words count
    line-room p e l = record { known = omega (arith, part-known p); long = l; behind = λ h. let n = line-fits h in omega arith; few = line-few }

    more-many : (p : Part) → max_nodes < next → max_nodes < start + extent (ls ++ ((p, f) ∷ []))
    more-many p h = go (dec_lt max_nodes at)
      where
        go : Dec (max_nodes < at) → max_nodes < start + extent (ls ++ ((p, f) ∷ []))
        go (yes l) = omega (arith, extent-last ls (p, f), g.many l)
        go (no l) = omega (arith, extent-last ls (p, f), past w h, g.ends (omega arith))

    -- its word goes behind theirs
    more-lined : (p : Part) {words' : List ℕ} → max_nodes ≤ length words → words' ≡ set words count (join field_bits (part_code p) (next - at)) → next ≤ max_nodes
        → Lined (ls ++ ((p, f) ∷ [])) words' (suc count) table'
    more-lined p {words'} l e h =
        let n = line-fits h in
        let r = line-few h in
        let d = g.lined n.0 in
        let z : next - at ≡ size f = omega arith in
        let y : 0 + extent ls ≡ at = omega (arith, g.ends n.0) in
        record {
          counted = length-append ls ((p, f) ∷ []) ∙ omega (arith, d.counted);
          listed = ap (take (suc count)) e ∙ take-suc-set words count _ (omega arith)
              ∙ ap₂ (λ (ws : List ℕ) (k : ℕ). ws ++ (join field_bits (part_code p) k ∷ [])) d.listed z
              ∙ sym (map-append word ls ((p, f) ∷ []));
          stand = table-last ls (p, f) 0 d.stand y w.puts h (stands w (g.sized n.0) h);
        }

-- a line that does not fit, and one that does
pub adds_none : {part at next : ℕ} {words words' : List ℕ} {count r : ℕ} → max_nodes < next → Adds part at next words words' count r
adds_none h = record {
  more = λ p e g w. record {
    lined = λ l. absurd (omega arith);
    starts = λ l. absurd (omega arith);
    ends = λ l. absurd (omega arith);
    sized = λ l. absurd (omega arith);
    many = more-many g w p;
  };
}

pub adds_one : {part at next : ℕ} {words words' : List ℕ} {count : ℕ} → next ≤ max_nodes → max_nodes ≤ length words → words' ≡ set words count (join field_bits part (next - at))
    → Adds part at next words words' count (suc count)
adds_one {part} {at} {next} {words} {words'} {count} h l e = record {
  more = λ p c {start} {ls} {f} g w.
      let n = line-fits g w h in
      let d = ends w h in
      record {
        lined = λ k. more-lined g w p l (e ∙ ap (λ (j : ℕ). set words count (join field_bits j (next - at))) c) h;
        starts = λ k. g.starts n.0;
        ends = λ k. omega (arith, extent-last ls (p, f), g.ends n.0);
        sized = λ k. length_stays w.puts h ∙ g.sized n.0;
        many = λ k. absurd (omega arith);
      };
}
