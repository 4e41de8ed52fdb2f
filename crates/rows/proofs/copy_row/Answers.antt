-- `copy_row` meets its contract: what std says of a copy, index by index.
use Prim.Native.Nat.{◌+◌, ◌-◌}
use mathlib.Core.Path.{◌≡◌, ap, ◌∙◌}
use native.Mathlib.Omega.{arith}
use lib.ListN.{get_or}
use Rattle.rows.proofs.copy_row.Goals as goal

pub returns : goal.returns
returns c =
    let e = c.copy_within.ensures in
    let a = c.args in
    record {
      kept = record { size = e.len; below = λ k h. e.by_index.1 k 0 h; beyond = λ k h. e.by_index.2 k 0 (omega arith) };
      same = λ k h.
          let at : a.from + (a.base + k - a.base) ≡ a.from + k = omega arith in
          e.by_index.0 (a.base + k) 0 (omega arith) (omega arith) ∙ ap (λ j. get_or a.rows.now j 0) at;
    }
