-- `window` meets its contract: what does not fit is told before anything is written; what fits is layered, then linked.
use Prim.Native.Nat.{◌-◌, ◌*◌, ◌≤◌}
use native.Mathlib.Nat.{mul-le-mul, mul-le-mul_left}
use native.Mathlib.Omega.{arith}
use Rattle.node.specs.Limits.{max_nodes}
use Rattle.writing.specs.WindowLaws.{place_end, windowed, windowed_none}
use Rattle.writing.proofs.window.window.Goals as goal

pub returns-then-m-from : goal.returns-then-m-from
returns-then-m-from c = let d = c.args in windowed_none d.op d.next d.n d.from d.m (λ h l. absurd (omega arith)) (omega arith)

pub returns-then-m-gt-MAX_NODES : goal.returns-then-m-gt-MAX_NODES
returns-then-m-gt-MAX_NODES c = let d = c.args in windowed_none d.op d.next d.n d.from d.m (λ h l. absurd (omega arith)) (omega arith)

pub returns-then-n-gt-MAX_NODES : goal.returns-then-n-gt-MAX_NODES
returns-then-n-gt-MAX_NODES c =
    let d = c.args in
    windowed_none d.op d.next d.n d.from d.m (λ h l. let b : d.n * 1 ≤ d.n * (d.m - d.from) = mul-le-mul_left d.n (omega arith) in omega arith) (omega arith)

pub overflow_mul-n : goal.overflow_mul-n
overflow_mul-n c =
    let d = c.args in
    let b : d.n * (d.m - d.from) ≤ max_nodes * max_nodes = mul-le-mul {n₂ = max_nodes} {m₂ = max_nodes} (omega arith) (omega arith) in
    omega arith

pub returns-then-m-n : goal.returns-then-m-n
returns-then-m-n c = let d = c.args in windowed_none d.op d.next d.n d.from d.m (λ h l. omega arith) (omega arith)

pub layer-requires : goal.layer-requires
layer-requires c = let d = c.args in omega (arith, place_end d.from (d.m - d.from) d.n)

pub link-requires : goal.link-requires
link-requires c =
    let d = c.args in
    let e = place_end d.from (d.m - d.from) d.n in
    ((omega arith, omega arith), (omega arith, omega arith))

pub returns : goal.returns
returns c =
    let d = c.args in
    windowed d.op d.next d.n d.from d.m (d.m - d.from) (omega arith) (omega arith) c.layer.ensures c.link.ensures
