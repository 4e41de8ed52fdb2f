-- How many nodes `X[n] a` and a window have, by a law: texts with thousands of nodes are not worked out.
use Rattle.std.specs.Prelude.{ℕ, zero, suc, ◌+◌, ◌*◌, ◌≤◌, ◌≡◌, refl, List, [], length}
use Rattle.std.proofs.Common.{ap, ◌∙◌, sym, arith}
use Rattle.node.specs.Limits.{field_limit}
use Rattle.node.specs.Ltl.{Unary, X, Binary, Formula, One}
use Rattle.node.specs.Fields.{pack}
use Rattle.node.specs.Kinds.{binary_kind}
use Rattle.node.specs.Derived.{nexts, chain_by, chain}
use Rattle.node.specs.Postorder.{size, SignalsBelow}
use Rattle.sharing.specs.Sharing.{Placed, place, write, distinct_nodes, distinct_count}
use Rattle.sharing.proofs.WriteLaws.{write-one, write_two}
use Rattle.sharing.proofs.StandsLaws.{found_adds, found-written}
use Rattle.sharing.proofs.LastLaws.{Small, small_none, small-write, one-ends, count-one, count-two}

nexts-signals : (limit n : ℕ) (a : Formula) → SignalsBelow limit a → SignalsBelow limit (nexts n a)
unfolding SignalsBelow
nexts-signals limit zero a s = s
nexts-signals limit (suc n) a s = nexts-signals limit n a s

-- n nodes more
pub count-nexts : (n : ℕ) (a : Formula) → SignalsBelow field_limit a → distinct_count a + n ≤ field_limit → distinct_count (nexts n a) ≡ distinct_count a + n
count-nexts zero a s h = omega arith
count-nexts (suc n) a s h =
    let e = count-nexts n a s (omega arith) in
    let c = count-one X (nexts n a) (nexts-signals field_limit n a s) (omega arith) in
    omega arith

pub chain-signals : (limit : ℕ) (x : Unary) (o : Binary) (n : ℕ) (a : Formula) → SignalsBelow limit a → SignalsBelow limit (chain_by x o n a)
unfolding SignalsBelow
chain-signals limit x o zero a s = s
chain-signals limit x o (suc n) a s = (s, chain-signals limit x o n a s)

chain-size : (o : Binary) (n : ℕ) (a : Formula) → size a ≤ size (chain o n a)
unfolding size
chain-size o zero a = omega arith
chain-size o (suc n) a = omega arith

-- a formula alone
alone : (f : Formula) → length (write [] f).table ≡ distinct_count f
unfolding distinct_nodes distinct_count
alone f = refl

own-small : (a : Formula) (n : ℕ) → SignalsBelow field_limit a → distinct_count a ≤ field_limit → size a ≤ n → Small n (distinct_nodes a)
unfolding distinct_nodes distinct_count
own-small a n s h l = small-write n [] a l s h (small_none n)

-- a chain begins with its formula: behind that formula's nodes it is written as it is without them
pub chain-behind : (x : Unary) (o : Binary) (n : ℕ) (t : List ℕ) (a : Formula) → write (write t a).table (chain_by x o n a) ≡ write t (chain_by x o n a)
chain-behind x o zero t a = found_adds (write t a).table a (write t a).number (found-written t a)
chain-behind x o (suc n) t a =
    let r : Formula = One x (chain_by x o n a) in
    let u : List ℕ = (write t a).table in
    write_two u o a r
    ∙ ap (λ (p : Placed). let y = write p.table r in place y.table (pack (binary_kind o) p.number y.number))
    (found_adds u a (write t a).number (found-written t a))
    ∙ sym (write_two t o a r)

chain-alone : (o : Binary) (n : ℕ) (a : Formula) → length (write (distinct_nodes a) (chain o n a)).table ≡ distinct_count (chain o n a)
unfolding distinct_nodes
chain-alone o n a = ap (λ (x : Placed). length x.table) (chain-behind X o n [] a) ∙ alone (chain o n a)

-- two nodes more for each step
pub count-chain : (o : Binary) (n : ℕ) (a : Formula) → SignalsBelow field_limit a → distinct_count a + 2 * n ≤ field_limit → distinct_count (chain o n a) ≡ distinct_count a + 2 * n
unfolding SignalsBelow
count-chain o zero a s h = omega arith
count-chain o (suc n) a s h =
    let c : Formula = chain o n a in
    let sc = chain-signals field_limit X o n a s in
    let e = count-chain o n a s (omega arith) in
    let same = chain-alone o n a in
    let small = own-small a (size c) s (omega arith) (chain-size o n a) in
    let one : length (write (distinct_nodes a) (One X c)).table ≡ distinct_count c + 1 =
    ap (λ (x : Placed). length x.table) (write-one (distinct_nodes a) X c) ∙ (one-ends (distinct_nodes a) X c small sc (omega arith)).longer ∙ ap (λ (m : ℕ). m + 1) same in
    let two = count-two o a (One X c) s sc (omega arith) in
    omega arith
