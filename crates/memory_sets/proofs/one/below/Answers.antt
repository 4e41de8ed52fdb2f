-- `one::below` meets its contract: a set ascends, so it is parted where its elements are no longer below x.
use Rattle.std.specs.Prelude.{ℕ, ◌+◌, ◌-◌, ◌≡◌, ltb, drop}
use Rattle.std.proofs.Common.{arith, rules}
use Rattle.std.proofs.lemmas.List.Sorted.{IsPartitionPoint-from_clause, IsPartitionedBy-ltb}
use Rattle.memory_sets.proofs.SearchLaws.{ascending, parted_at}
use Rattle.memory_sets.proofs.one.below.Goals as goal

pub returns : goal.returns
returns c =
    let a = drop c.args.set.at c.args.memory.now in
    let e : c.args.set.at + c.args.set.count - c.args.set.at ≡ c.args.set.count = omega arith in
    let parted = IsPartitionedBy-ltb (λ (y : ℕ). y) _ c.args.x (ascending a c.args.set.count _ c.requires e) in
    let point = IsPartitionPoint-from_clause (λ (y : ℕ). ltb y c.args.x) _ _ c.partition_point.ensures.partitioned parted (λ b r q k. search rules) in
    parted_at a c.args.set.count _ c.requires e c.args.x c.partition_point.result c.partition_point.ensures.bound point
