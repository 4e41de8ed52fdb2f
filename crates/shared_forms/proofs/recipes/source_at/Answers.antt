-- `recipes::source_at` meets its contract: the fields of the node, and its kind behind the rows of the form.
use Prim.Native.Nat.{◌%◌}
use native.Mathlib.Omega.{arith}
use Rattle.shared_forms.specs.PartLaws.{list-below, kind-below}
use Rattle.shared_forms.proofs.recipes.source_at.Goals as goal

pub overflow_mul-result : goal.overflow_mul-result
overflow_mul-result c =
    let l = c.list_of-list.ensures in
    let b = list-below c.args.form (c.args.x % 2) in
    record { fits = omega arith }

pub overflow_add-result : goal.overflow_add-result
overflow_add-result c =
    let l = c.list_of-list.ensures in
    let b = list-below c.args.form (c.args.x % 2) in
    let k = kind-below c.requires in
    let e = c.kind-kind.ensures in
    record { fits = omega arith }
