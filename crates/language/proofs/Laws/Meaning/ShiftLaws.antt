-- What the X above the late signals does: the formula holds where it held in the word that is read later at them; its signals are the same, and it has no fewer nodes.
use Rattle.std.specs.Prelude.{ℕ, suc, ◌≤◌, ◌≡◌, Bool, List, ◌↔◌}
use Rattle.std.proofs.Math.Path.{subst}
use Rattle.std.proofs.Math.Bool.{true, false, So}
use Rattle.std.proofs.Math.Logic.Iff as Equiv
use native.Mathlib.Omega.{arith}
use Rattle.node.specs.Ltl.{Formula, True, False, Signal, One, Two, Word, Holds}
use Rattle.node.proofs.LtlLaws.{unary-same, binary-same}
use Rattle.node.proofs.TemporalLaws.{Same}
use Rattle.node.specs.Postorder.{size, SignalsBelow}
use Rattle.node.specs.Written.{count}
use Rattle.node.proofs.WrittenLaws.{count-is}
use Rattle.language.specs.Tree.{Model, Mealy, Moore}
use Rattle.language.specs.Shifting.{shifted, adapted}

-- the word u is v with the late signals read one position later
abbrev pub ReadLater : (ℕ → Bool) → Word → Word → Type 0
ReadLater late u v = (t k : ℕ) → u t k ≡ elim (late k) [ true ↦ v (suc t) k | false ↦ v t k ]

module _ (late : ℕ → Bool) (u v : Word) (r : ReadLater late u v) where
  signal-later : (k t : ℕ) → So (u t k) ↔ Holds (shifted late (Signal k)) v t
  unfolding Holds
  signal-later k t = go (late k) (r t k)
    where
      go : (b : Bool) → u t k ≡ elim b [ true ↦ v (suc t) k | false ↦ v t k ] → So (u t k) ↔ Holds (elim b [ true ↦ shifted (λ _. true) (Signal k) | false ↦ Signal k ]) v t
      go true e = subst (λ (b : Bool). So b ↔ So (v (suc t) k)) (let z : v (suc t) k ≡ u t k = cc in z) Equiv.rfl
      go false e = subst (λ (b : Bool). So b ↔ So (v t k)) (let z : v t k ≡ u t k = cc in z) Equiv.rfl

  pub shifted_holds : (f : Formula) → Same (Holds f u) (Holds (shifted late f) v)
  unfolding Holds
  shifted_holds True t = Equiv.rfl
  shifted_holds False t = Equiv.rfl
  shifted_holds (Signal k) t = signal-later k t
  shifted_holds (One o a) t = unary-same o (shifted_holds a) t
  shifted_holds (Two o a b) t = binary-same o (shifted_holds a) (shifted_holds b) t

module _ (late : ℕ → Bool) where
  pub shifted-below : (n : ℕ) (f : Formula) → SignalsBelow n f → SignalsBelow n (shifted late f)
  unfolding SignalsBelow
  shifted-below n True h = tt
  shifted-below n False h = tt
  shifted-below n (Signal k) h = go (late k)
    where
      go : (b : Bool) → SignalsBelow n (elim b [ true ↦ shifted (λ _. true) (Signal k) | false ↦ Signal k ])
      go true = h
      go false = h
  shifted-below n (One o a) h = shifted-below n a h
  shifted-below n (Two o a b) h = (shifted-below n a h.0, shifted-below n b h.1)

  pub shifted-size : (f : Formula) → size f ≤ size (shifted late f)
  unfolding size
  shifted-size True = omega arith
  shifted-size False = omega arith
  shifted-size (Signal k) = go (late k)
    where
      go : (b : Bool) → 1 ≤ size (elim b [ true ↦ shifted (λ _. true) (Signal k) | false ↦ Signal k ])
      go true = omega arith
      go false = omega arith
  shifted-size (One o a) = let h = shifted-size a in omega arith
  shifted-size (Two o a b) = let h = shifted-size a in let k = shifted-size b in omega arith

  pub shifted-count : (f : Formula) → count f ≤ count (shifted late f)
  shifted-count f = omega (arith, shifted-size f, count-is f, count-is (shifted late f))

-- the same of a text's formula, whatever its models
pub adapted-below : (m n : Model) (list : List ℕ) (limit : ℕ) (f : Formula) → SignalsBelow limit f → SignalsBelow limit (adapted m n list f)
adapted-below Mealy Mealy list limit f h = h
adapted-below Mealy Moore list limit f h = shifted-below _ limit f h
adapted-below Moore Mealy list limit f h = shifted-below _ limit f h
adapted-below Moore Moore list limit f h = h
