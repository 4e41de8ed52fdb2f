-- What stood in a table before words were stored stays; what was stored can be read; a formula's nodes moved are its nodes.
use Rattle.std.specs.Prelude.{ℕ, zero, suc, ◌+◌, ◌<◌, ◌≤◌, ◌≡◌, refl, List, [], ◌∷◌, ◌++◌, map, length, get_or, set}
use Rattle.std.proofs.Common.{ap, ap₂, ◌∙◌, sym, subst, length-append, length-set, get_or-set_same, ext_get_or, arith}
use Rattle.std.proofs.lemmas.List.{map-append, length-map, get_or_at}
use Rattle.std.proofs.Math.ListN.{get_or-append}
use Rattle.std.proofs.lemmas.List.Edits.{sets}
use Rattle.std.proofs.Math.Seq.{length-sets}
use Rattle.std.proofs.Math.Decide.{dec_lt}
use Rattle.node.specs.Limits.{max_nodes}
use Rattle.node.specs.Ltl.{Formula}
use Rattle.node.specs.Postorder.{size, nodes_from}
use Rattle.node.proofs.PostorderLaws.{length-nodes}
use Rattle.writing.specs.Moving.{moved}
use Rattle.writing.specs.MovingLaws.{moved-nodes}
use Rattle.writing.specs.Writing.{Stored, Puts, Wrote}
use Rattle.writing.specs.Parts.{part, moves, Stands}
use Rattle.basics.specs.Lists.{sets-append, get_or-sets-below}

-- words that fit are stored
pub fitting : {vs out out' : List ℕ} {at r : ℕ} → Puts vs out out' at r → at + length vs ≤ max_nodes → Stored vs out out' at r
fitting {vs} {out} {out'} {at} {r} p h = go (dec_lt max_nodes r)
  where
    go : Dec (max_nodes < r) → Stored vs out out' at r
    go (yes l) = absurd (omega (arith, p.many l))
    go (no l) = p.stored (omega arith)

pub length_part : (from n : ℕ) (l : List ℕ) → length (part from n l) ≡ n
unfolding part
length_part from zero l = refl
length_part from (suc n) l = length-append (part from n l) _ ∙ omega (arith, length_part from n l)

pub part-below : (from n : ℕ) (l : List ℕ) (i : ℕ) (vs : List ℕ) → from + n ≤ i → part from n (sets l i vs) ≡ part from n l
unfolding part
part-below from zero l i vs h = refl
part-below from (suc n) l i vs h = ap₂ (λ (x : List ℕ) (y : ℕ). x ++ (y ∷ [])) (part-below from n l i vs (omega arith)) (get_or-sets-below l i vs (from + n) (omega arith))

-- the stored words themselves
stored_at : (l : List ℕ) (i : ℕ) (vs : List ℕ) (k : ℕ) → k < length vs → i + length vs ≤ length l → get_or (sets l i vs) (i + k) 0 ≡ get_or vs k 0
stored_at l i [] k h g = absurd (omega arith)
stored_at l i (v ∷ vs) zero h g =
    ap (λ (j : ℕ). get_or (sets (set l i v) (suc i) vs) j 0) (omega arith) ∙ get_or-sets-below (set l i v) (suc i) vs i (omega arith) ∙ get_or-set_same l i v 0 (omega arith)
stored_at l i (v ∷ vs) (suc k) h g =
    let e = length-set l i v in
    ap (λ (j : ℕ). get_or (sets (set l i v) (suc i) vs) j 0) (omega arith) ∙ stored_at (set l i v) (suc i) vs k (omega arith) (omega arith)

pub get_d_part : (from n : ℕ) (l : List ℕ) (k : ℕ) → k < n → get_or (part from n l) k 0 ≡ get_or l (from + k) 0
unfolding part
get_d_part from zero l k h = absurd (omega arith)
get_d_part from (suc n) l k h = go (get_d_part from n l k) (dec_lt k n)
  where
    go : (k < n → get_or (part from n l) k 0 ≡ get_or l (from + k) 0) → Dec (k < n) → get_or (part from n l ++ (get_or l (from + n) 0 ∷ [])) k 0 ≡ get_or l (from + k) 0
    go e (yes g) = let m = length_part from n l in get_or-append (part from n l) _ 0 k (omega arith) ∙ e g
    go e (no g) = get_or_at (part from n l) (get_or l (from + n) 0) [] 0 k (length_part from n l ∙ omega arith) ∙ ap (λ (j : ℕ). get_or l (from + j) 0) (omega arith)

pub part_stored : (l : List ℕ) (i : ℕ) (vs : List ℕ) → i + length vs ≤ length l → part i (length vs) (sets l i vs) ≡ vs
part_stored l i vs h =
    let e = length_part i (length vs) (sets l i vs) in
    ext_get_or 0 (part i (length vs) (sets l i vs)) vs e (λ k g. get_d_part i (length vs) (sets l i vs) k (omega arith) ∙ stored_at l i vs k (omega arith) h)

pub length-moves : (from to n : ℕ) (l : List ℕ) → length (moves from to n l) ≡ n
length-moves from to n l = length-map (part from n l) (moved from to) ∙ length_part from n l

pub moves_none : (from to : ℕ) (l : List ℕ) {out : List ℕ} → out ≡ sets out to (moves from to 0 l)
unfolding part
moves_none from to l = refl

-- one more node moved from a table l into another
pub moves_next : (from to n : ℕ) (l into : List ℕ) {out out' : List ℕ} {w : ℕ} → out ≡ sets into to (moves from to n l) → w ≡ moved from to (get_or l (from + n) 0)
    → out' ≡ set out (to + n) w → out' ≡ sets into to (moves from to (suc n) l)
unfolding part
moves_next from to n l into {out} {out'} {w} e f g =
    let ms : List ℕ = moves from to n l in
    g
    ∙ ap₂ (λ (x : List ℕ) (k : ℕ). sets x k (w ∷ [])) e (ap (λ (k : ℕ). to + k) (sym (length-moves from to n l)))
    ∙ sym (sets-append into to ms (w ∷ []))
    ∙ ap (sets into to) (ap (λ (x : ℕ). ms ++ (x ∷ [])) f ∙ sym (map-append (moved from to) (part from n l) _))

-- one more node copied within a table: it is read below what was stored
pub moves_more : (from to n : ℕ) (l : List ℕ) {out out' : List ℕ} {w r : ℕ} → out ≡ sets l to (moves from to n l) → from + n < to → w ≡ moved from to (get_or out (from + n) 0)
    → Puts (w ∷ []) out out' (to + n) r → to + n < max_nodes → out' ≡ sets l to (moves from to (suc n) l)
moves_more from to n l {out} {out'} {w} {r} e h f p g =
    let same : get_or out (from + n) 0 ≡ get_or l (from + n) 0 = ap (λ (x : List ℕ). get_or x (from + n) 0) e ∙ get_or-sets-below l to (moves from to n l) (from + n) h in
    moves_next from to n l l e (f ∙ ap (moved from to) same) (fitting p (omega arith)).words

-- all of them
pub moves-all : (from to i n : ℕ) (l into : List ℕ) {out : List ℕ} → i ≡ n → out ≡ sets into to (moves from to i l) → to + n ≤ max_nodes → Puts (moves from to n l) into out to (to + n)
moves-all from to i n l into {out} e f h =
    let len = length-moves from to n l in
    record { stored = λ g. record { next = omega arith; words = f ∙ ap (λ (k : ℕ). sets into to (moves from to k l)) e }; many = λ g. omega arith }

-- those that do not fit
pub moves-past : (from to n : ℕ) (l : List ℕ) {into out : List ℕ} {r : ℕ} → max_nodes < to + n → max_nodes < r → Puts (moves from to n l) into out to r
moves-past from to n l h g = let len = length-moves from to n l in record { stored = λ k. absurd (omega arith); many = λ k. omega arith }

-- a formula that was written stands there
pub stands : {f : Formula} {out out' : List ℕ} {at r : ℕ} → Wrote f out out' at r → length out ≡ max_nodes → r ≤ max_nodes → Stands f out' at
stands {f} {out} {out'} {at} {r} w l h =
    let s = w.puts.stored h in
    let e = length-nodes at f in
    let n = s.next in
    record {
      room = omega arith;
      words = ap₂ (λ (k : ℕ) (x : List ℕ). part at k x) (sym e) s.words ∙ part_stored out at (nodes_from at f) (omega arith);
      signals = w.signals h;
    }

-- and still stands where later words were stored after it
pub stands-below : {f : Formula} {vs out out' : List ℕ} {at n r : ℕ} → Stands f out at → at + size f ≤ n → Puts vs out out' n r → r ≤ max_nodes → Stands f out' at
stands-below {f} {vs} {out} {out'} {at} {n} {r} s g p h = record {
  room = s.room;
  words = ap (part at (size f)) (p.stored h).words ∙ part-below at (size f) out n vs g ∙ s.words;
  signals = s.signals;
}

-- its nodes moved are its nodes
pub stands-moves : {f : Formula} {out : List ℕ} {from : ℕ} → Stands f out from → (to : ℕ) → moves from to (size f) out ≡ nodes_from to f
stands-moves {f} {out} {from} s to =
    let g = s.room in
    ap (map (moved from to)) s.words ∙ moved-nodes from to from f (omega arith) (omega arith) s.signals ∙ ap (λ (k : ℕ). nodes_from k f) (omega arith)

-- a copy of a formula that stands before it, or in another table
pub copied : {f : Formula} {table out out' : List ℕ} {from to n r : ℕ} → Stands f table from → n ≡ size f → Puts (moves from to n table) out out' to r → Wrote f out out' to r
copied {f} {table} {out} {out'} {from} {to} {n} {r} s e p = record {
  puts = subst (λ (vs : List ℕ). Puts vs out out' to r) (ap (λ (k : ℕ). moves from to k table) e ∙ stands-moves s to) p;
  signals = λ h. s.signals;
}

-- a formula moved into another table
pub lent : {f : Formula} {out : List ℕ} {from n : ℕ} → Stands f out from → n ≡ size f → (into : List ℕ) (to : ℕ) → sets into to (moves from to n out) ≡ sets into to (nodes_from to f)
lent {f} {out} {from} {n} s e into to = ap (sets into to) (ap (λ (k : ℕ). moves from to k out) e ∙ stands-moves s to)

-- what stood below the stored words stays, and the table keeps its length
pub below_stays : {vs out out' : List ℕ} {at r : ℕ} → Puts vs out out' at r → r ≤ max_nodes → (k : ℕ) → k < at → get_or out' k 0 ≡ get_or out k 0
below_stays {vs} {out} {out'} {at} {r} p h k g = ap (λ (l : List ℕ). get_or l k 0) (p.stored h).words ∙ get_or-sets-below out at vs k g

pub length_stays : {vs out out' : List ℕ} {at r : ℕ} → Puts vs out out' at r → r ≤ max_nodes → length out' ≡ length out
length_stays {vs} {out} {out'} {at} {r} p h = ap length (p.stored h).words ∙ length-sets out at vs
