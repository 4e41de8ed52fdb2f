-- The buffer as one list: rows that are right bit by bit are the bytes of the table's rows, and then comes what was there before.
use Prim.Native.Nat.{ℕ, zero, suc, ◌+◌, ◌*◌, ◌-◌, ◌/◌, ◌%◌, ◌≤◌, ◌<◌}
use Rattle.std.specs.Prelude.{◌≡◌, refl, get_or, take, drop}
use Rattle.std.proofs.Math.Path.{sym, ap₂}
use Rattle.std.proofs.Common.{ap, ◌∙◌, take-append-drop, length-append, length-drop, length-take, ext_get_or, get_or-drop, get_or-take, take-add}
use mathlib.Core.List.{List, [], ◌∷◌, ◌++◌}
use Rattle.std.proofs.Math.Decide.{dec_lt}
use Rattle.std.proofs.Math.Nat.{mul-le-mul_left}
use native.Mathlib.Omega.{arith}
use Rattle.std.proofs.Math.ListN.{length, get_or-append}
use Rattle.std.proofs.lemmas.List.{get_or_at}
use Rattle.bits.specs.Bits.{Values, bit_of, bit_at, number, width}
use Rattle.bits.specs.BitLaws.{number_lt, number_bit, bits-same}
use Rattle.rows.specs.Row.{node_row, shown, tabulate, joined, table_bytes}
use Rattle.evaluator.specs.Evaluated.{Evaluated}
use Rattle.recordings.specs.declared.Lasso.{Lasso}

length_tab : (g : ℕ → ℕ) (n : ℕ) → length (tabulate g n) ≡ n
unfolding tabulate
length_tab g zero = refl
length_tab g (suc n) = simp (length-append, length_tab g n) (omega arith)

get_or_tab : (g : ℕ → ℕ) (n k : ℕ) → k < n → get_or (tabulate g n) k 0 ≡ g k
unfolding tabulate
get_or_tab g zero k h = absurd (omega arith)
get_or_tab g (suc n) k h = go (dec_lt k n) (get_or_tab g n k)
  where
    go : Dec (k < n) → (k < n → get_or (tabulate g n) k 0 ≡ g k) → get_or (tabulate g n ++ (g n ∷ [])) k 0 ≡ g k
    go (yes l) ih = get_or-append (tabulate g n) (g n ∷ []) 0 k (rw length_tab l) ∙ ih l
    go (no l) ih =
        let e : k ≡ n = omega arith in
        rw e (get_or_at (tabulate g n) (g n) [] 0 n (length_tab g n))

-- v bytes of a list, from byte `at` on, are a table of bytes
part-is : (g : ℕ → ℕ) (v at : ℕ) (xs : List ℕ) → at + v ≤ length xs → ((j : ℕ) → j < v → get_or xs (at + j) 0 ≡ g j) → take v (drop at xs) ≡ tabulate g v
part-is g v at xs h e = ext_get_or 0 (take v (drop at xs)) (tabulate g v) size (λ j l. each j (rw size at l))
  where
    long : length (take v (drop at xs)) ≡ v
    long = simp (length-take, length-drop) (omega arith)

    size : length (take v (drop at xs)) ≡ length (tabulate g v)
    size = long ∙ sym (length_tab g v)

    each : (j : ℕ) → j < length (tabulate g v) → get_or (take v (drop at xs)) j 0 ≡ get_or (tabulate g v) j 0
    each j l = let m : j < v = rw (length_tab g v) at l in rw (get_or-take, get_or-drop) (e j m ∙ sym (get_or_tab g v j m))

module _ (bs : List ℕ) (w : Lasso) (ws : List ℕ) (count : ℕ) (old new : List ℕ) (e : Evaluated bs w ws count old new)
    (small : (k : ℕ) → get_or new k 0 < 256) (room : width w.n * count ≤ length old) where
  abbrev pub v : ℕ
  v = width w.n

  byte : (i j : ℕ) → i < count → j < v → get_or new (v * i + j) 0 ≡ number (λ q. shown w.n (node_row bs w ws i) (8 * j + q)) 8
  unfolding bit_at
  byte i j below jl =
      let g : Values = λ q. shown w.n (node_row bs w ws i) (8 * j + q) in
      bits-same 8 (get_or new (v * i + j) 0) (number g 8) (small (v * i + j)) (number_lt g 8)
      (λ s l.
      let at : (8 * (v * i) + (8 * j + (7 - s))) / 8 ≡ v * i + j = omega arith in
      let low : 7 - (8 * (v * i) + (8 * j + (7 - s))) % 8 ≡ s = omega arith in
      sym (ap₂ (λ x y. bit_of (get_or new x 0) y) at low) ∙ e.right i below (8 * j + (7 - s)) (omega arith) ∙ sym (number_bit g 8 s l))

  front : (i : ℕ) → i ≤ count → take (v * i) new ≡ table_bytes bs w ws i
  unfolding joined
  front zero h = let z : v * 0 ≡ 0 = omega arith in rw z
  front (suc i) h =
      let z : v * suc i ≡ v * i + v = omega arith in
      let m : v * suc i ≤ v * count = mul-le-mul_left v h in
      let r : v * i + v ≤ length new = omega (arith, e.size) in
      rw z
      (take-add (v * i) v new
      ∙ ap₂ ◌++◌ (front i (omega arith)) (part-is (λ j. number (λ q. shown w.n (node_row bs w ws i) (8 * j + q)) 8) v (v * i) new r (λ j l. byte i j h l)))

  rest : drop (v * count) new ≡ drop (v * count) old
  rest =
      ext_get_or 0 (drop (v * count) new) (drop (v * count) old) (length-drop (v * count) new ∙ ap (λ x. x - v * count) e.size ∙ sym (length-drop (v * count) old))
      (λ k h. get_or-drop (v * count) new k 0 ∙ e.beyond (v * count + k) (omega arith) ∙ sym (get_or-drop (v * count) old k 0))

  pub listed : new ≡ table_bytes bs w ws count ++ drop (v * count) old
  listed = sym (take-append-drop (v * count) new) ∙ ap₂ ◌++◌ (front count (omega arith)) rest
