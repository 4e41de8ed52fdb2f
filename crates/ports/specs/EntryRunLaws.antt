-- A name's entries are such a run, and are stored one after another.
use Prim.Native.Nat.{ℕ, zero, suc, ◌+◌, ◌-◌, ◌≤◌, ◌<◌}
use Rattle.std.specs.Prelude.{List, ◌∷◌, ◌≡◌, refl, length, set}
use Rattle.std.proofs.Math.Path.{sym, ap, ap₂}
use Rattle.std.proofs.Common.{◌∙◌, add-one}
use native.Mathlib.Omega.{arith}
use Rattle.std.proofs.Math.ListN.{length-set}
use Rattle.std.proofs.Math.Seq.{sets}
use Rattle.language.specs.Limits.{offset_bits, index_bits, width_bits}
use Rattle.language.specs.DeclaredNames.{Port}
use Rattle.language.specs.Numbering.{fields, entries}
use Rattle.language.specs.Listed.{flag}
use Rattle.ports.specs.EntryRuns.{run, Stores}

pub entries-run : (p : Port) (n i : ℕ) → entries p n i ≡ run (flag p.output) p.name.at p.width n i
unfolding run
entries-run p zero i = refl
entries-run p (suc n) i = ap (fields offset_bits index_bits width_bits (flag p.output) p.name.at i p.width ∷◌) (entries-run p n (suc i))

pub run_length : (top offset width n i : ℕ) → length (run top offset width n i) ≡ n
unfolding run
run_length top offset width zero i = refl
run_length top offset width (suc n) i = ap suc (run_length top offset width n (suc i))

module _ (top offset width count at : ℕ) where
  pub stores_none : (old : List ℕ) → Stores top offset width count at 0 old old
  stores_none old = record { size = refl; few = omega arith; rest = ap₂ (λ k n. sets old k (run top offset width n 0)) (omega arith) (omega arith) }

  pub stores_more : (i v : ℕ) (old new : List ℕ) → i < count → v ≡ fields offset_bits index_bits width_bits top offset i width → Stores top offset width count at i old new
      → Stores top offset width count at (i + 1) old (set new (at + i) v)
  unfolding run
  stores_more i v old new l e s =
      let n : count - i ≡ suc (count - (i + 1)) = omega arith in
      let k : suc (at + i) ≡ at + (i + 1) = omega arith in
      record {
        size = length-set new (at + i) v ∙ s.size;
        few = omega arith;
        rest = s.rest ∙ ap (λ m. sets new (at + i) (run top offset width m i)) n
            ∙ ap (λ u. sets (set new (at + i) u) (suc (at + i)) (run top offset width (count - (i + 1)) (suc i))) (sym e)
            ∙ ap₂ (λ j m. sets (set new (at + i) v) j (run top offset width (count - (i + 1)) m)) k (sym (add-one i));
      }

  pub stores_all : (i : ℕ) (old new : List ℕ) → count ≤ i → Stores top offset width count at i old new → new ≡ sets old at (run top offset width count 0)
  unfolding run
  stores_all i old new l s =
      let n : count - i ≡ 0 = omega arith in
      sym (s.rest ∙ ap (λ m. sets new (at + i) (run top offset width m i)) n)
