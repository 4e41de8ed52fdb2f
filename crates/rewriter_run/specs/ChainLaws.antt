-- The chain grows by a node.
use Rattle.std.specs.Prelude.{ℕ, ◌+◌, ◌-◌, ◌≤◌, ◌<◌, ◌≡◌, Bool, true, false, List, length, get_or, set}
use Rattle.std.proofs.Common.{◌∙◌, ap, sym, get_or-set_same, get_or-set_other, arith}
use Rattle.std.proofs.Math.Decide.{dec_lt}
use Rattle.node.specs.Fields.{pack}
use Rattle.rewriter_run.specs.Chain.{second_of, ChainTo}

pub second-low : (shared : Bool) (before : ℕ) → second_of shared before ≤ before
second-low true before = omega arith
second-low false before = omega arith

-- the first node
pub chain-one : {kind : ℕ} {shared : Bool} (nodes : List ℕ) → 0 < length nodes → ChainTo kind shared (set nodes 0 (pack 2 0 0)) 1
chain-one nodes h = record { leaf = get_or-set_same nodes 0 (pack 2 0 0) 0 h; each = λ i l m. absurd (omega arith) }

-- one node more
pub chain_more : {kind : ℕ} {shared : Bool} {nodes : List ℕ} {n w : ℕ} → ChainTo kind shared nodes n → 1 ≤ n → n < length nodes
    → w ≡ pack kind (n - 1) (second_of shared (n - 1)) → ChainTo kind shared (set nodes n w) (n + 1)
chain_more {kind} {shared} {nodes} {n} {w} c some inside e =
    record { leaf = get_or-set_other nodes n 0 w 0 (λ q. omega arith) ∙ c.leaf; each = λ i h l. go i h l (dec_lt i n) }
  where
    go : (i : ℕ) → 1 ≤ i → i < n + 1 → Dec (i < n) → get_or (set nodes n w) i 0 ≡ pack kind (i - 1) (second_of shared (i - 1))
    go i h l (yes m) = get_or-set_other nodes n i w 0 (λ q. omega arith) ∙ c.each i h m
    go i h l (no m) =
        let s : n ≡ i = omega arith in
        ap (λ (k : ℕ). get_or (set nodes n w) k 0) (sym s) ∙ get_or-set_same nodes n w 0 inside ∙ e
        ∙ ap (λ (k : ℕ). pack kind (k - 1) (second_of shared (k - 1))) s
