-- A chain is written into the table also where nothing fits any more.
use Rattle.std.specs.Prelude.{ℕ, ◌≤◌, ◌<◌, List, ◌≡◌, length, replicate}
use Rattle.std.proofs.Common.{arith}
use Rattle.std.proofs.Math.Decide.{dec_lt}
use Rattle.std.proofs.lemmas.List.{length-replicate}
use Rattle.node.specs.Limits.{max_nodes}
use Rattle.node.specs.Operators.{Unary, Binary}
use Rattle.node.specs.Kinds.{unary_kind, binary_kind}
use Rattle.node.specs.Ltl.{Formula}
use Rattle.writing.specs.Writing.{Wrote, chain_by}
use Rattle.writing.specs.WritingLaws.{ends, wrote_none}
use Rattle.writing.specs.Windows.{Windowed}

-- a table
record Sized (n : ℕ) : Type 0 where
  table : List ℕ
  sized : length table ≡ n

some_table : (n : ℕ) → Sized n
some_table n = record { table = replicate n 0; sized = length-replicate {A = ℕ} n 0 }

pub wrote-chain : {op next n : ℕ} (o : Binary) (x : Unary) {f : Formula} {table out out' : List ℕ} {at m r : ℕ} → op ≡ binary_kind o → next ≡ unary_kind x
    → (at ≤ max_nodes → length table ≡ max_nodes) → Wrote f table out at m → Windowed op next n out out' at m r → Wrote (chain_by x o n f) table out' at r
wrote-chain {op} {next} {n} o x {f} {table} {out} {out'} {at} {m} {r} k q l w h = go (dec_lt max_nodes at)
  where
    beyond : max_nodes < at → Dec (max_nodes < m) → max_nodes < m
    beyond g (yes p) = p
    beyond g (no p) = absurd (let e = ends w (omega arith) in omega arith)

    late : max_nodes < at → Dec (max_nodes < r) → max_nodes < r
    late g (yes p) = p
    late g (no p) =
        let b = some_table max_nodes in
        let v : Wrote f b.table out at m = wrote_none (omega arith) (beyond g (dec_lt max_nodes m)) in
        absurd (let e = ends (h.wrote o k x q b.sized v) (omega arith) in omega arith)

    go : Dec (max_nodes < at) → Wrote (chain_by x o n f) table out' at r
    go (yes g) = wrote_none (omega arith) (late g (dec_lt max_nodes r))
    go (no g) = h.wrote o k x q (l (omega arith)) w
