-- The nodes that wait for an operand: the root, an operand of it, and so on, each lower than the one before, none of them with a number yet, and the formula of each what is
-- written next of the one before.
use Rattle.std.specs.Prelude.{ℕ, suc, ◌+◌, ◌-◌, ◌≤◌, ◌<◌, ◌≡◌, refl, List, ◌≢◌, get_or, set}
use Rattle.std.proofs.Common.{◌∙◌, subst, sym, get_or-set_other, arith}
use Rattle.node.specs.Ltl.{Formula}
use Rattle.sharing.proofs.WriteLaws.{Grows}
use Rattle.ordering.specs.FirstLaws.{First, itself, first-grows, first_more}

-- node i comes next, and d nodes wait for it: those in `waiting`, of which the first is the root
pub data Chain (tree : ℕ → Formula) (memo waiting t : List ℕ) (root : ℕ) : ℕ → ℕ → Type 0 where
  whole : get_or memo root 0 ≡ 0 → Chain tree memo waiting t root 0 root
  part : {d i a : ℕ} → Chain tree memo waiting t root d i → get_or waiting d 0 ≡ i → a < i → get_or memo a 0 ≡ 0 → First t (tree a) (tree i) → Chain tree memo waiting t root (suc d) a

module _ {tree : ℕ → Formula} {memo waiting t : List ℕ} {root : ℕ} where
  -- the numbers fall
  pub chain-low : {d i : ℕ} → Chain tree memo waiting t root d i → i + d ≤ root
  chain-low (whole f) = omega arith
  chain-low (part c e l f p) = let h = chain-low c in omega arith

  pub chain-fresh : {d i : ℕ} → Chain tree memo waiting t root d i → get_or memo i 0 ≡ 0
  chain-fresh (whole f) = f
  chain-fresh (part c e l f p) = f

  -- the last one is what is written next of the root's formula
  pub chain_first : {d i : ℕ} → Chain tree memo waiting t root d i → First t (tree i) (tree root)
  chain_first (whole f) = itself
  chain_first (part c e l f p) = first_more p (chain_first c)

  -- where none waits it is the root
  pub chain-root : {d i : ℕ} → Chain tree memo waiting t root d i → d ≡ 0 → i ≡ root
  chain-root (whole f) z = refl
  chain-root (part c e l f p) z = absurd (omega arith)

  -- a store behind the waiting ones
  pub chain_store : (m v : ℕ) {d i : ℕ} → d ≤ m → Chain tree memo waiting t root d i → Chain tree memo (set waiting m v) t root d i
  chain_store m v h (whole f) = whole f
  chain_store m v h (part {d = d} c e l f p) = part (chain_store m v (omega arith) c) (get_or-set_other waiting m d v 0 (omega arith) ∙ e) l f p

  -- a lower node is given a number, and the table grows
  pub chain_noted : {u : List ℕ} (k v : ℕ) {d i : ℕ} → Grows t u → k < i → Chain tree memo waiting t root d i → Chain tree (set memo k v) waiting u root d i
  chain_noted k v m h (whole f) = whole (get_or-set_other memo k root v 0 (omega arith) ∙ f)
  chain_noted k v m h (part {a = a} c e l f p) =
      part (chain_noted k v m (omega arith) c) e l (get_or-set_other memo k a v 0 (omega arith) ∙ f) (first-grows m p)

-- the node that waited last goes on
pub record Back (tree : ℕ → Formula) (memo waiting t : List ℕ) (root d a : ℕ) : Type 0 where
  pub chain : Chain tree memo waiting t root (d - 1) (get_or waiting (d - 1) 0)
  pub above : a < get_or waiting (d - 1) 0

pub chain_back : {tree : ℕ → Formula} {memo waiting t : List ℕ} {root d a : ℕ} → Chain tree memo waiting t root d a → d ≢ 0 → Back tree memo waiting t root d a
chain_back (whole f) z = absurd (z refl)
chain_back {tree} {memo} {waiting} {t} {root} {a = a} (part {d = d} c e l f p) z =
    let same : suc d - 1 ≡ d = omega arith in
    record { chain = rw same (subst (Chain tree memo waiting t root d) (sym e) c); above = rw same (subst (λ (n : ℕ). a < n) (sym e) l) }
