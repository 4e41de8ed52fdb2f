-- A chain is linked from the inside out: each next and operator goes over the chain so far and the copy before it.
use Rattle.std.specs.Prelude.{ℕ, zero, suc, ◌+◌, ◌-◌, ◌*◌, ◌<◌, ◌≤◌, ◌≡◌, refl, List, length}
use Rattle.std.proofs.Common.{ap, ap₂, ◌∙◌, sym, subst, suc-mul, mul-le-mul_right, arith}
use Rattle.std.proofs.lemmas.List.Edits.{sets}
use Rattle.std.proofs.Math.Decide.{dec_lt}
use Rattle.node.specs.Limits.{max_nodes, field_limit}
use Rattle.node.specs.Ltl.{Unary, Binary, Formula, One, Two}
use Rattle.node.specs.Postorder.{size, nodes_from, SignalsBelow}
use Rattle.node.proofs.PostorderLaws.{size_pos, length-nodes}
use Rattle.writing.specs.Parts.{moves, Stands}
use Rattle.writing.specs.PartLaws.{fitting, stands, stands-below, copied, length-moves}
use Rattle.writing.specs.Writing.{Puts, Wrote, Caps, Joins, chain_by}
use Rattle.writing.specs.WritingLaws.{ends, past, wrote_none}
use Rattle.writing.specs.Windows.{place, layers, Layered, Linked, Windowed}

pub place_is : (from width n : ℕ) → place from width n ≡ from + n * width
unfolding place
place_is from width zero = omega arith
place_is from width (suc n) = let e = place_is from width n in rw suc-mul (omega arith)

pub place_end : (from width n : ℕ) → place from width (suc n) ≡ from + width + n * width
unfolding place
place_end from width n = let e = place_is from width n in omega arith

pub place-one : (from width : ℕ) → from + width ≡ place from width 1
unfolding place
place-one from width = refl

pub place-back : (from width j : ℕ) → 0 < j → place from width j ≡ place from width (j - 1) + width
unfolding place
place-back from width zero h = absurd (omega arith)
place-back from width (suc j) h = let e : j ≡ suc j - 1 = omega arith in ap (λ (k : ℕ). place from width k + width) e

pub place_mono : (from width : ℕ) {i n : ℕ} → i ≤ n → place from width i ≤ place from width n
place_mono from width {i} {n} h = let a = place_is from width i in let b = place_is from width n in let c = mul-le-mul_right width h in omega arith

pub place-from : (from width n : ℕ) → from + width ≤ place from width (suc n)
unfolding place
place-from from width zero = omega arith
place-from from width (suc n) = let e = place-from from width n in omega arith

-- a chain has all its copies
pub chain_long : (x : Unary) (o : Binary) (from n : ℕ) (a : Formula) → place from (size a) (suc n) ≤ from + size (chain_by x o n a)
unfolding place size
chain_long x o from zero a = omega arith
chain_long x o from (suc n) a = let e = chain_long x o from n a in omega arith

-- a formula that is stored is written
wrote-sets : (a : Formula) (out : List ℕ) (at : ℕ) → SignalsBelow field_limit a → Wrote a out (sets out at (nodes_from at a)) at (at + size a)
wrote-sets a out at s =
    let e = length-nodes at a in
    record { puts = record { stored = λ h. record { next = omega arith; words = refl }; many = λ h. omega arith }; signals = λ h. s }

wrote_layer : (a : Formula) (from n : ℕ) (before : List ℕ) → SignalsBelow field_limit a
    → Wrote a (layers a from n before) (layers a from (suc n) before) (place from (size a) n) (place from (size a) (suc n))
unfolding layers place
wrote_layer a from n before s = wrote-sets a (layers a from n before) (place from (size a) n) s

-- the first copy stands below the others
layers_stand : (a : Formula) (from n : ℕ) (before : List ℕ) → length before ≡ max_nodes → SignalsBelow field_limit a → place from (size a) (suc n) ≤ max_nodes
    → Stands a (layers a from (suc n) before) from
unfolding place layers
layers_stand a from zero before l s h = stands (wrote_layer a from zero before s) l h
layers_stand a from (suc n) before l s h =
    stands-below (layers_stand a from n before l s (omega arith)) (place-from from (size a) n) (wrote_layer a from (suc n) before s).puts h

pub layered_none : (from width : ℕ) {out : List ℕ} → from + width ≤ max_nodes → Layered 0 from width out out
unfolding layers place
layered_none from width h = record { copies = λ l w. (w.puts.stored h).words }

pub layered_more : (n from width : ℕ) {out between out' : List ℕ} {at r : ℕ} → Layered n from width out between → at ≡ place from width (suc n) → place from width (suc (suc n)) ≤ max_nodes
    → Puts (moves from at width between) between out' at r → (r ≡ place from width (suc (suc n))) × Layered (suc n) from width out out'
unfolding layers place
layered_more n from width {out} {between} {out'} {at} {r} y e h p =
    let len = length-moves from at width between in
    let b = place-from from width n in (
      (fitting p (omega arith)).next ∙ omega arith,
      record {
        copies = λ {a} {before} l w.
            let s : width ≡ size a = let q = ends w (omega arith) in omega arith in
            let t : between ≡ layers a from (suc n) before = y.copies l w in
            let i : at ≡ place from (size a) (suc n) = e ∙ ap (λ (k : ℕ). place from k (suc n)) s in
            let st : Stands a between from = rw t (layers_stand a from n before l (w.signals (omega arith)) (rw (sym s) (omega arith))) in
            let c = copied st s p in
            let m = length-nodes at a in
            (fitting c.puts (omega arith)).words ∙ ap₂ (λ (x : List ℕ) (k : ℕ). sets x k (nodes_from k a)) t i;
      },
    )

-- the last copy is a chain of none further
pub linked_none : (op next n from width : ℕ) {out : List ℕ} {m : ℕ} → m ≡ place from width (suc n) → Linked op next n n from width out out m
linked_none op next n from width {out} {m} e = record {
  wrote = λ o k x q a before s g t.
      let z : n - n ≡ 0 = omega arith in
      rw (z, t, e, sym s) (wrote_layer a from n before g);
}

-- the next and the operator over the chain so far and the copy before it
pub linked_more : (op next n i j from width : ℕ) {out between middle out' : List ℕ} {first r later r' : ℕ} → j ≡ suc i → j ≤ n → first ≡ place from width j
    → Linked op next n j from width out between r → Caps next between middle r later → Joins op middle out' first later r' → Linked op next n i from width out out' r'
linked_more op next n i j from width {out} {between} {middle} {out'} {first} {r} {later} {r'} f l e y u v = record {
  wrote = λ o k x q a before s g t.
      let d : n - i ≡ suc (n - j) = omega arith in
      let c : Wrote (One x (chain_by x o (n - j) a)) (layers a from j before) middle (place from width j) later = (u x q (place from width j)).wrote (y.wrote o k x q a before s g t) in
      let w : Wrote a (layers a from i before) (layers a from j before) (place from width i) (place from width j) =
      subst (λ (z : ℕ). Wrote a (layers a from i before) (layers a from z before) (place from width i) (place from width z)) (sym f)
      (subst (λ (z : ℕ). Wrote a (layers a from i before) (layers a from (suc i) before) (place from z i) (place from z (suc i))) s (wrote_layer a from i before g)) in
      let b : Wrote (Two o a (One x (chain_by x o (n - j) a))) (layers a from i before) out' (place from width i) r' =
      (subst (λ (z : ℕ). Joins op middle out' z later r') e v).wrote o k w c in
      subst (λ (z : ℕ). Wrote (chain_by x o z a) (layers a from i before) out' (place from width i) r') (sym d) b;
}

-- the whole
pub windowed : (op next n from m width : ℕ) {out between out' : List ℕ} {r : ℕ} → m ≡ from + width → m ≤ max_nodes → Layered n from width out between
    → Linked op next n 0 from width between out' r → Windowed op next n out out' from m r
unfolding layers place
windowed op next n from m width {out} {between} {out'} {r} e h y v = record {
  wrote = λ o k x q {a} {before} l w.
      let w' : Wrote a before out from (from + width) = rw e at w in
      let s : size a ≡ width = let z = ends w h in omega arith in
      let z : n - 0 ≡ n = omega arith in
      subst (λ (j : ℕ). Wrote (chain_by x o j a) before out' from r) z (v.wrote o k x q a before s (w.signals h) (y.copies l w'));
}

-- an operand that ends nowhere in the table, or copies that do not fit
pub windowed_none : (op next n from m : ℕ) {out out' : List ℕ} {r : ℕ} → (from < m → m ≤ max_nodes → max_nodes < m + n * (m - from)) → max_nodes < r
    → Windowed op next n out out' from m r
windowed_none op next n from m {out} {out'} {r} g h = record { wrote = λ o k x q {a} {before} l w. wrote_none (go x o w (dec_lt max_nodes m)) h }
  where
    go : (x : Unary) (o : Binary) {a : Formula} {before : List ℕ} → Wrote a before out from m → Dec (max_nodes < m) → max_nodes < from + size (chain_by x o n a)
    go x o {a} w (yes t) =
        let b = place-from from (size a) n in
        let c = chain_long x o from n a in
        omega (arith, past w t)
    go x o {a} w (no t) =
        let e : m ≡ from + size a = ends w (omega arith) in
        let s = size_pos a in
        let c = chain_long x o from n a in
        let d = place_end from (size a) n in
        let f : m - from ≡ size a = omega arith in
        let b : max_nodes < m + n * size a = subst (λ (k : ℕ). max_nodes < m + n * k) f (g (omega arith) (omega arith)) in
        omega arith
