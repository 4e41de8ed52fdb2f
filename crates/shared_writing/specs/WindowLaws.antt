-- A window from the inside out: each step takes the operand, which stands in the array from the start, over the next of the chain so far.
use Rattle.std.specs.Prelude.{ℕ, suc, ◌<◌, ◌≤◌, List, ◌≡◌, length}
use Rattle.std.proofs.Common.{ap, subst, arith}
use Rattle.std.proofs.Math.Decide.{dec_lt}
use Rattle.node.specs.Limits.{max_nodes, field_limit}
use Rattle.node.specs.Ltl.{Unary, Binary, Formula, One}
use Rattle.node.specs.Kinds.{binary_kind, unary_kind}
use Rattle.sharing.specs.Sharing.{Placed, write}
use Rattle.sharing.proofs.WriteLaws.{write-grows, grows-length}
use Rattle.sharing.proofs.ChainLaws.{chain-signals, chain-behind}
use Rattle.shared_table.specs.Shared.{capacity, Shares}
use Rattle.shared_writing.specs.Writing.{Stays, Wrote, Caps, Joins, Windowed, chain_by}
use Rattle.shared_writing.specs.StayLaws.{stays_none, stays_past, stays_then}
use Rattle.shared_writing.specs.WritingLaws.{wrote_longer, rising, one_longer, two_longer}
use Rattle.shared_writing.specs.KeptLaws.{wrote-again}

-- whatever formula stands in the array before m: its chain with i further times is written behind, up to r
pub record Chains (op next i : ℕ) (out out' : List ℕ) (m r : ℕ) : Type 0 where
  pub stays : Stays out out' m r
  pub wrote : (o : Binary) → op ≡ binary_kind o → (x : Unary) → next ≡ unary_kind x → {a : Formula} → Wrote a out out m m → Wrote (chain_by x o i a) out out' m r

pub chains_start : {op next m : ℕ} {out : List ℕ} → Chains op next 0 out out m m
chains_start {m = m} {out} = record { stays = stays_none out m; wrote = λ o k x q w. w }

pub chains_more : (i : ℕ) {op next m r later r' : ℕ} {out between middle out' : List ℕ} → Chains op next i out between m r → Caps next between middle r later
    → Joins op middle out' m later r' → Chains op next (suc i) out out' m r'
chains_more i y u v = record {
  stays = stays_then y.stays (stays_then u.stays v.stays);
  wrote = λ o k x q w. v.wrote o k w (u.wrote x q (y.wrote o k x q w));
}

-- a chain's nodes behind those of its formula
module _ (x : Unary) (o : Binary) (n : ℕ) (a : Formula) (t : List ℕ) where
  whole : length (write (write t a).table (chain_by x o n a)).table ≡ length (write t (chain_by x o n a)).table
  whole = ap (λ (p : Placed). length p.table) (chain-behind x o n t a)

  -- it needs as much room as its formula, and one step more as much as it
  formula_longer : length (write t a).table ≤ length (write t (chain_by x o n a)).table
  formula_longer = let e = whole in let g = grows-length (write-grows (write t a).table (chain_by x o n a)) in omega arith

  step_longer : length (write t (chain_by x o n a)).table ≤ length (write t (chain_by x o (suc n) a)).table
  step_longer =
      let e = whole in
      let later = one_longer x (chain_by x o n a) (write t a).table in
      let both = two_longer o a (One x (chain_by x o n a)) t in
      omega arith

chain_longer : (x : Unary) (o : Binary) (i n : ℕ) → i ≤ n → (a : Formula) (t : List ℕ) → length (write t (chain_by x o i a)).table ≤ length (write t (chain_by x o n a)).table
chain_longer x o i n h a t = rising (λ (j : ℕ). length (write t (chain_by x o j a)).table) (λ j. step_longer x o j a t) i n h

-- steps that do not fit
pub chains_none : (i n : ℕ) {op next m r r' : ℕ} {out out' : List ℕ} → Chains op next i out out' m r → i ≤ n → max_nodes < r → max_nodes < r' → Chains op next n out out' m r'
chains_none i n {out' = out'} y l h g = record {
  stays = stays_then y.stays (stays_past out' g);
  wrote = λ o k x q {a} w. wrote_longer (chain_longer x o i n l a) h g (y.wrote o k x q w);
}

-- what is written behind the operand is written as it is with it
module _ {op next n m r at : ℕ} {out out' before : List ℕ} (y : Chains op next n out out' m r) (o : Binary) (k : op ≡ binary_kind o) (x : Unary) (u : next ≡ unary_kind x)
    {a : Formula} (w : Wrote a before out at m) where
  behind : {t : List ℕ} → Shares before t → Wrote (chain_by x o n a) out out' m r
  behind {t} q = y.wrote o k x u (wrote-again (record { table = t; shares = q }) w)

  too_many_lem : max_nodes < r → at ≤ max_nodes → (t : List ℕ) → Shares before t → Dec (max_nodes < m) → capacity (length before) < length (write t (chain_by x o n a)).table
  too_many_lem h l t q (yes d) = let b = w.many d l t q in let f = formula_longer x o n a t in omega arith
  too_many_lem h l t q (no d) =
      let b = (behind q).many h (omega arith) (write t a).table (w.held (omega arith) t q).shares in
      let same : capacity (length out) ≡ capacity (length before) = ap capacity w.stays.long in
      let e = whole x o n a t in
      omega arith

  wrote-chain : Wrote (chain_by x o n a) before out' at r
  wrote-chain = record {
    stays = stays_then w.stays y.stays;
    held = λ h t q.
        let b = (behind q).held h (write t a).table (w.held (y.stays.further h) t q).shares in
        let e = chain-behind x o n t a in
        record {
          shares = subst (λ (p : Placed). Shares out' p.table) e b.shares;
          number = subst (λ (p : Placed). r ≡ suc p.number) e b.number;
        };
    many = λ h l t q. too_many_lem h l t q (dec_lt max_nodes m);
    signals = λ h. chain-signals field_limit x o n a (w.signals (y.stays.further h));
  }

pub windowed : (n : ℕ) {op next m r : ℕ} {out out' : List ℕ} → Chains op next n out out' m r → Windowed op next n out out' m r
windowed n y = record { stays = y.stays; wrote = λ o k x u w. wrote-chain y o k x u w }
