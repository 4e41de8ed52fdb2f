-- Each memory is enough for its text.
use Rattle.std.specs.Prelude.{ℕ, ◌≤◌, List, replicate}
use Rattle.std.proofs.Common.{ap, arith}
use Rattle.std.proofs.lemmas.List.{length-replicate}
use Rattle.machine_run.specs.Running.{max_memory}
use Rattle.memory_notes.specs.Laid.{last_slots}
use Rattle.reader.specs.declared.expansion.CheckedTree.{CheckedTree}
use Rattle.reader.specs.Naming.{SomeParsed, Roomy}
use Rattle.reader.specs.Memories.{few_entries, little_memory, some_memory}

pub few_roomy : {entries : ℕ} → entries ≤ few_entries → Roomy (replicate little_memory 0) entries
few_roomy h =
    let l = length-replicate {A = ℕ} little_memory 0 in
    let q = ap last_slots l in
    record { room = omega (arith, q); kept = omega (arith, q); most = omega arith }

module _ {text w refs found : List ℕ} {t : CheckedTree} (h : SomeParsed text w refs found t) where
  pub roomy : (n : ℕ) → some_memory ≤ n → n ≤ max_memory → Roomy (replicate n 0) t.entries
  roomy n l m =
      let e = length-replicate {A = ℕ} n 0 in
      let few = h.parsed.checked.tree.stored.few in
      record { room = omega (arith, few); kept = omega arith; most = omega arith }
