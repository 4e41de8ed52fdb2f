-- A formula that is larger than all that a table holds goes to its end: so do a formula's own node, behind its operands', and with it the count.
use Rattle.std.specs.Prelude.{ℕ, ◌+◌, ◌<◌, ◌≤◌, ◌≡◌, List, [], ◌∷◌, length}
use Rattle.std.proofs.Common.{ap, ◌∙◌, subst, length-append, arith}
use Rattle.node.specs.Limits.{field_limit}
use Rattle.node.specs.Ltl.{Unary, Binary, Formula, True, False, Signal, One, Two}
use Rattle.node.specs.Fields.{pack}
use Rattle.node.specs.Kinds.{unary_kind, binary_kind, true_kind, false_kind, signal_kind}
use Rattle.node.specs.Table.{tree_at}
use Rattle.node.specs.Postorder.{size, SignalsBelow}
use Rattle.sharing.specs.Sharing.{position, having, write, distinct_nodes, distinct_count}
use Rattle.sharing.proofs.PlaceLaws.{Placing, stood, added, placing}
use Rattle.sharing.proofs.WriteLaws.{having-grows, write-grows, grows-length}
use Rattle.sharing.proofs.StandsLaws.{Found, found_inside, found-written}
use Rattle.sharing.proofs.SubformulaLaws.{everywhere_size}
use Rattle.sharing.proofs.TreeLaws.{found-tree}
use Rattle.sharing.proofs.SoundLaws.{Sound, sound_none, sound-write, sound-such}

-- a table in which nothing is larger than n
abbrev pub Small : ℕ → List ℕ → Type 0
Small n t = Sound (λ g. size g ≤ n) t

pub small_none : (n : ℕ) → Small n []
small_none n = sound_none (λ g. size g ≤ n)

pub small-write : (n : ℕ) (t : List ℕ) (f : Formula) → size f ≤ n → SignalsBelow field_limit f → length (write t f).table ≤ field_limit → Small n t → Small n (write t f).table
small-write n t f h s few m = sound-write (λ g. size g ≤ n) t f (everywhere_size n f h) s few m

-- a larger formula is not found there
not_larger : (n : ℕ) (t : List ℕ) (f : Formula) (v : ℕ) → Small n t → SignalsBelow field_limit f → n < size f → Found t f v → ⊥
not_larger n t f v m s larger h =
    let p = sound-such (λ g. size g ≤ n) t m v (found_inside t f v h) in
    let z : size (tree_at t v) ≡ size f = ap size (found-tree field_limit t m.fit m.few f v s h) in
    omega arith

-- the word goes to the end of the table
pub record Ends (t : List ℕ) (w : ℕ) : Type 0 where
  pub number : position t w ≡ length t
  pub longer : length (having t w) ≡ length t + 1

ends : (n : ℕ) (t : List ℕ) (w : ℕ) (f : Formula) → Small n t → SignalsBelow field_limit f → n < size f → Found (having t w) f (position t w) → Ends t w
ends n t w f m s larger h = go (placing t w)
  where
    go : Placing t w → Ends t w
    go (stood i e) = absurd (not_larger n t f (position t w) m s larger (subst (λ (x : List ℕ). Found x f (position t w)) e h))
    go (added p e) = record { number = p; longer = ap length e ∙ length-append t (w ∷ []) }

-- so a formula's own node goes behind its operands' where nothing is larger
pub one-ends : (t : List ℕ) (o : Unary) (a : Formula) → Small (size a) t → SignalsBelow field_limit a → length (write t a).table ≤ field_limit
    → Ends (write t a).table (pack (unary_kind o) (write t a).number 0)
unfolding write SignalsBelow size
one-ends t o a m s h =
    let x = write t a in
    ends (size a) x.table (pack (unary_kind o) x.number 0) (One o a) (small-write (size a) t a (omega arith) s h m) s (omega arith) (found-written t (One o a))

pub two_ends : (t : List ℕ) (o : Binary) (a b : Formula) → Small (size a + size b) t → SignalsBelow field_limit a → SignalsBelow field_limit b
    → length (write (write t a).table b).table ≤ field_limit
    → Ends (write (write t a).table b).table (pack (binary_kind o) (write t a).number (write (write t a).table b).number)
unfolding write SignalsBelow size
two_ends t o a b m sa sb h =
    let x = write t a in
    let y = write x.table b in
    let l = grows-length (write-grows x.table b) in
    let n : ℕ = size a + size b in
    ends n y.table (pack (binary_kind o) x.number y.number) (Two o a b)
    (small-write n x.table b (omega arith) sb h (small-write n t a (omega arith) sa (omega arith) m)) (sa, sb) (omega arith) (found-written t (Two o a b))

-- one node more than its operands have
pub count-one : (o : Unary) (a : Formula) → SignalsBelow field_limit a → distinct_count a ≤ field_limit → distinct_count (One o a) ≡ distinct_count a + 1
unfolding write distinct_nodes distinct_count
count-one o a s h = (one-ends [] o a (small_none (size a)) s h).longer

pub count-two : (o : Binary) (a b : Formula) → SignalsBelow field_limit a → SignalsBelow field_limit b → length (write (distinct_nodes a) b).table ≤ field_limit
    → distinct_count (Two o a b) ≡ length (write (distinct_nodes a) b).table + 1
unfolding write distinct_nodes distinct_count
count-two o a b sa sb h = (two_ends [] o a b (small_none (size a + size b)) sa sb h).longer

-- the formula's own node is the last
pub last-number : (f : Formula) → SignalsBelow field_limit f → distinct_count f ≤ field_limit → (write [] f).number + 1 ≡ distinct_count f
unfolding write distinct_nodes distinct_count SignalsBelow size
last-number True s h = let e = ends 0 [] (pack true_kind 0 0) True (small_none 0) s (omega arith) (found-written [] True) in omega arith
last-number False s h = let e = ends 0 [] (pack false_kind 0 0) False (small_none 0) s (omega arith) (found-written [] False) in omega arith
last-number (Signal k) s h = let e = ends 0 [] (pack signal_kind k 0) (Signal k) (small_none 0) s (omega arith) (found-written [] (Signal k)) in omega arith
last-number (One o a) s h =
    let x = write [] a in
    let l = grows-length (having-grows x.table (pack (unary_kind o) x.number 0)) in
    let e = one-ends [] o a (small_none (size a)) s (omega arith) in
    omega arith
last-number (Two o a b) s h =
    let x = write [] a in
    let y = write x.table b in
    let l = grows-length (having-grows y.table (pack (binary_kind o) x.number y.number)) in
    let e = two_ends [] o a b (small_none (size a + size b)) s.0 s.1 (omega arith) in
    omega arith
