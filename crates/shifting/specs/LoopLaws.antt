-- The loop: what it keeps from node to node, and what it leaves when it ends or finds no room.
use Rattle.std.specs.Prelude.{ℕ, ◌+◌, ◌-◌, ◌<◌, ◌≤◌, Bool, List, [], ◌∷◌, ◌++◌, ◌≡◌, length, get_or, set, replicate}
use Rattle.std.proofs.Math.Path.{refl, ap}
use Rattle.std.proofs.Common.{ap₂, sym, ◌∙◌, subst, length-append, length-set, get_or-set_same, get_or-set_other}
use Rattle.std.proofs.lemmas.List.{length-replicate, get_or_at}
use Rattle.std.proofs.Math.ListN.{get_or-append, get_or-eq_default}
use Rattle.std.proofs.Math.Decide.{dec_lt}
use native.Mathlib.Omega.{arith}
use Rattle.basics.specs.Lists.{get_or_zeros}
use Rattle.node.specs.Limits.{max_nodes, field_limit}
use Rattle.node.specs.Ltl.{Formula}
use Rattle.node.specs.Postorder.{size, nodes_from}
use Rattle.node.proofs.PostorderLaws.{length-nodes}
use Rattle.language.specs.Shifting.{shifted}
use Rattle.language.proofs.Laws.Meaning.ShiftLaws.{shifted-below, shifted-size}
use Rattle.writing.specs.Writing.{Puts, Wrote}
use Rattle.writing.specs.WritingLaws.{after, ends, past, wrote_none}
use Rattle.writing.specs.PartLaws.{stands}
use Rattle.writing.specs.PassLaws.{passes-all}
use Rattle.shifting.specs.Passing.{renumbered, is_late, written, Pass, passed, Numbers, Shifts}
use Rattle.shifting.specs.PassingLaws.{passed-next, passed-numbers, passed-grows, passed-passes}
use Rattle.shifting.specs.NodeLaws.{renumbered-same}

-- after i nodes: what the pass has written stands in the table up to `at`, and `numbers` has the new number of each
pub record Passing (late : ℕ → Bool) (table out₀ out numbers : List ℕ) (at i : ℕ) : Type 0 where
  pub fits : at ≤ max_nodes
  pub words : Puts (passed late table i).words out₀ out 0 at
  pub numbered : (j : ℕ) → get_or numbers j 0 ≡ get_or (passed late table i).numbers j 0
  pub held : Numbers numbers

pub passing_none : (late : ℕ → Bool) (table out : List ℕ) → Passing late table out out (replicate max_nodes 0) 0 0
unfolding passed
passing_none late table out = record {
  fits = omega arith;
  words = record { stored = λ h. record { next = refl; words = refl }; many = λ h. absurd (omega arith) };
  numbered = λ j. get_or_zeros max_nodes j;
  held = record { whole = length-replicate {A = ℕ} max_nodes 0; small = λ j. let z = get_or_zeros max_nodes j in omega arith };
}

-- one number more
number_more : (ns ms : List ℕ) (i v : ℕ) → length ms ≡ i → i < length ns → ((j : ℕ) → get_or ns j 0 ≡ get_or ms j 0) → (j : ℕ) → get_or (set ns i v) j 0 ≡ get_or (ms ++ (v ∷ [])) j 0
number_more ns ms i v l h e j = go (dec_lt j i) (dec_lt i j)
  where
    go : Dec (j < i) → Dec (i < j) → get_or (set ns i v) j 0 ≡ get_or (ms ++ (v ∷ [])) j 0
    go (yes a) b = get_or-set_other ns i j v 0 (λ z. omega arith) ∙ e j ∙ sym (get_or-append ms (v ∷ []) 0 j (omega arith))
    go (no a) (yes b) =
        get_or-set_other ns i j v 0 (λ z. omega arith) ∙ e j ∙ get_or-eq_default ms 0 (omega arith) ∙ sym (get_or-eq_default (ms ++ (v ∷ [])) 0 (omega (arith, length-append ms (v ∷ []))))
    go (no a) (no b) = let z : j ≡ i = omega arith in ap (λ (k : ℕ). get_or (set ns i v) k 0) z ∙ get_or-set_same ns i v 0 h ∙ sym (get_or_at ms v [] 0 j (l ∙ sym z))

number_small : (ns : List ℕ) (i v limit : ℕ) → v < limit → i < length ns → ((j : ℕ) → get_or ns j 0 < limit) → (j : ℕ) → get_or (set ns i v) j 0 < limit
number_small ns i v limit l h e j = go (dec_lt j i) (dec_lt i j)
  where
    go : Dec (j < i) → Dec (i < j) → get_or (set ns i v) j 0 < limit
    go (yes a) b = let z = get_or-set_other ns i j v 0 (λ z. omega arith) in omega (arith, e j)
    go (no a) (yes b) = let z = get_or-set_other ns i j v 0 (λ z. omega arith) in omega (arith, e j)
    go (no a) (no b) = let z : j ≡ i = omega arith in subst (λ (k : ℕ). get_or (set ns i v) k 0 < limit) (sym z) (let y = get_or-set_same ns i v 0 h in omega arith)

module _ {late : ℕ → Bool} {table out₀ out numbers : List ℕ} {at i : ℕ} (p : Passing late table out₀ out numbers at i) where
  -- the node written for word i
  module _ {w v r : ℕ} {l : Bool} {out' : List ℕ} (read : w ≡ get_or table i 0) (told : l ≡ is_late late w) (new : v ≡ renumbered numbers w) (wrote : Puts (written l at v) out out' at r) where
    pub passing-words : Puts (passed late table (i + 1)).words out₀ out' 0 r
    passing-words =
        let before = passed late table i in
        let n = (p.words.stored p.fits).next in
        let here : at ≡ length before.words = omega arith in
        let same : written l at v ≡ written (is_late late (get_or table i 0)) (length before.words) (renumbered before.numbers (get_or table i 0)) =
        ap₂ (λ (b : Bool) (x : ℕ). written b x v) (told ∙ ap (is_late late) read) here
        ∙ ap (written (is_late late (get_or table i 0)) (length before.words)) (new ∙ renumbered-same numbers before.numbers w p.numbered ∙ ap (renumbered before.numbers) read) in
        subst (λ (ws : List ℕ). Puts ws out₀ out' 0 r) (ap (λ ws. before.words ++ ws) same ∙ ap (λ (q : Pass). q.words) (sym (passed-next late table i))) (after p.words wrote)

    pub passing-next : r ≤ max_nodes → i < max_nodes → Passing late table out₀ out' (set numbers i (r - 1)) r (i + 1)
    passing-next h g =
        let before = passed late table i in
        let ws = passing-words in
        let n = (ws.stored h).next in
        let whole = p.held.whole in
        let last : (passed late table (i + 1)).numbers ≡ before.numbers ++ ((r - 1) ∷ []) =
        ap (λ (q : Pass). q.numbers) (passed-next late table i)
        ∙ ap (λ (k : ℕ). before.numbers ++ ((k - 1) ∷ [])) (ap (λ (q : Pass). length q.words) (sym (passed-next late table i)) ∙
        (let z : length (passed late table (i + 1)).words ≡ r = omega arith in z)) in
        record {
          fits = h;
          words = ws;
          numbered = λ j. number_more numbers before.numbers i (r - 1) (passed-numbers late table i) (omega arith) p.numbered j ∙ ap (λ (l : List ℕ). get_or l j 0) (sym last);
          held = record {
            whole = length-set numbers i (r - 1) ∙ whole;
            small = number_small numbers i (r - 1) field_limit (omega arith) (omega arith) p.held.small;
          };
        }

-- all nodes of a formula
module _ (late : ℕ → Bool) (table : List ℕ) (m : ℕ) where
  written_all : {f : Formula} {before : List ℕ} → length before ≡ max_nodes → Wrote f before table 0 m → m ≤ max_nodes → (passed late table m).words ≡ nodes_from 0 (shifted late f)
  unfolding passed
  written_all {f} l w h =
      let e : m ≡ size f = let z = ends w h in omega arith in
      ap (λ (n : ℕ). (passed late table n).words) e ∙ passes-all (passed-passes late table) (stands w l h) refl

  -- a formula that was too large before
  pub shift_many : {out out' : List ℕ} {r : ℕ} → max_nodes < m → max_nodes < r → Shifts late table m out out' r
  shift_many h g = record { shifts = λ {f} l w. wrote_none (let s = shifted-size late f in omega (arith, past w h)) g }

  module _ (h : m ≤ max_nodes) where
    -- no room for the nodes of the first n
    pub shift_past : {out between out' : List ℕ} {n r r' : ℕ} → Puts (passed late table n).words out between 0 r → max_nodes < r → n ≤ m → max_nodes < r' → Shifts late table m out out' r'
    shift_past {n = n} p g l k = record {
      shifts = λ {f} b w.
          let whole = ap length (written_all b w h) in
          let z : n + (m - n) ≡ m = omega arith in
          let grows : length (passed late table n).words ≤ length (passed late table m).words = subst (λ (i : ℕ). length (passed late table n).words ≤ length (passed late table i).words) z
          (passed-grows late table n (m - n)) in
          wrote_none (omega (arith, p.many g, length-nodes 0 (shifted late f))) k;
    }

    pub shift-all : {out out' numbers : List ℕ} {at i : ℕ} → Passing late table out out' numbers at i → i ≡ m → Shifts late table m out out' at
    shift-all {out} {out'} {at = at} p e = record {
      shifts = λ {f} b w. record {
        puts = subst (λ (ws : List ℕ). Puts ws out out' 0 at) (ap (λ (n : ℕ). (passed late table n).words) e ∙ written_all b w h) p.words;
        signals = λ _. shifted-below late _ f (w.signals h);
      };
    }
