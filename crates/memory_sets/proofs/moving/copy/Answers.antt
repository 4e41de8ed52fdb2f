-- `moving::copy` meets its contract.
use Rattle.std.specs.Prelude.{ℕ, ◌+◌, ◌-◌, ◌≡◌, take, drop}
use Rattle.std.proofs.Common.{ap, ◌∙◌, arith, rules}
use Rattle.memory_sets.proofs.MovingLaws.{copied-part}
use Rattle.memory_sets.proofs.moving.copy.Goals as goal

pub returns : goal.returns
returns c =
    let k : c.args.b + c.args.n - c.args.b ≡ c.args.n = omega arith in
    let j : c.args.a + c.args.n - c.args.a ≡ c.args.n = omega arith in
    copied-part _ _ c.args.memory.now c.args.b (c.args.b + c.args.n - c.args.b) c.args.n c.copy_from_slice.new.self k (omega (arith, c.requires)) (search rules)
    (c.copy_from_slice.ensures.after ∙ ap (λ (m : ℕ). take m (drop c.args.a c.args.source.now)) j)
