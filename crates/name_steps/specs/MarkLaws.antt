-- A definition's nodes by their note.
use Rattle.std.specs.Prelude.{ℕ, ◌+◌, ◌/◌, ◌%◌, ◌≤◌, ◌<◌, List, ◌≡◌}
use Rattle.std.proofs.Common.{ap, ◌∙◌, subst, arith}
use Rattle.node.proofs.FieldLaws.{above_join, below-join}
use Rattle.node.specs.Limits.{max_nodes, field_bits, field_limit}
use Rattle.node.specs.Postorder.{size}
use Rattle.writing.specs.Writing.{Puts}
use Rattle.writing.specs.WritingLaws.{wrote_none}
use Rattle.writing.specs.Parts.{moves}
use Rattle.writing.specs.PartLaws.{copied}
use Rattle.name_values.specs.World.{World}
use Rattle.machine.specs.Notes.{marked, Lasts}
use Rattle.name_steps.specs.Marks.{Copyable, Again}

marked_from : (from n : ℕ) → n < field_limit → marked from n / field_limit ≡ from
marked_from from n l = above_join field_bits from l

marked-size : (from n : ℕ) → n < field_limit → marked from n % field_limit ≡ n
marked-size from n l = below-join field_bits from l

pub copyable : {W : World} {table : List ℕ} {at r v : ℕ} → Lasts W table at r v → Copyable v at
copyable {W} {table} {at} {r} {v} h = record { within = λ l. (whole l).0; before = λ l. (whole l).1 }
  where
    whole : at ≤ max_nodes → (v / field_limit + v % field_limit ≤ max_nodes) × (v / field_limit + v % field_limit ≤ at)
    whole l =
        let b = h.before l in
        let e = h.noted l in
        let n : size h.formula < field_limit = omega arith in
        let x : v / field_limit ≡ h.from = ap (λ (i : ℕ). i / field_limit) e ∙ marked_from h.from (size h.formula) n in
        let y : v % field_limit ≡ size h.formula = ap (λ (i : ℕ). i % field_limit) e ∙ marked-size h.from (size h.formula) n in
        (omega arith, omega arith)

pub again-past : {v : ℕ} {out out' : List ℕ} {at r : ℕ} → max_nodes < at → max_nodes < r → Again v out out' at r
again-past l m = record { wrote = λ f from e s. wrote_none (omega arith) m }

pub again_copied : {v : ℕ} {out out' : List ℕ} {at r : ℕ} → at ≤ max_nodes → Puts (moves (v / field_limit) at (v % field_limit) out) out out' at r → Again v out out' at r
again_copied {v} {out} {out'} {at} {r} l p = record {
  wrote = λ f from e s.
      let t = s l in
      let g = t.room in
      let n : size f < field_limit = omega arith in
      let x : v / field_limit ≡ from = ap (λ (i : ℕ). i / field_limit) (e l) ∙ marked_from from (size f) n in
      let y : v % field_limit ≡ size f = ap (λ (i : ℕ). i % field_limit) (e l) ∙ marked-size from (size f) n in
      copied t y (subst (λ (i : ℕ). Puts (moves i at (v % field_limit) out) out out' at r) x p);
}
