-- What holds of every entry of a list by its number.
use Rattle.std.specs.Prelude.{ℕ, zero, suc, ◌+◌, ◌<◌, List, [], ◌∷◌, ◌++◌, ◌≡◌, refl, length}
use Rattle.std.proofs.Common.{sym, ◌∙◌, subst, arith}
use Rattle.language.specs.Lists.{All}
use Rattle.entries.specs.Flat.{Entry, each}
use Rattle.names.specs.Walkable.{entry_of}

-- P of all entries, which are numbered from `start` on
abbrev pub Every : (ℕ → Entry → Type 0) → ℕ → List Entry → Type 0
Every P start [] = Unit {0}
Every P start (n ∷ es) = P start n × Every P (suc start) es

module _ (P : ℕ → Entry → Type 0) where
  pub every_append : (start at : ℕ) (es fs : List Entry) → start + length es ≡ at → Every P start es → Every P at fs → Every P start (es ++ fs)
  every_append start at [] fs e h g = subst (λ m. Every P m fs) (sym e ∙ omega arith) g
  every_append start at (n ∷ es) fs e h g = (h.0, every_append (suc start) at es fs (omega arith) h.1 g)

  -- the entries of a list's things
  pub every-each : {A : Type 0} (flatten : A → List Entry) (Q : A → Type 0) → ((a : A) → Q a → (start : ℕ) → Every P start (flatten a)) → (l : List A) → All Q l → (start : ℕ)
      → Every P start (each flatten l)
  every-each flatten Q f [] h start = tt
  every-each flatten Q f (a ∷ l) h start = every_append start (start + length (flatten a)) (flatten a) (each flatten l) refl (f a h.0 start)
      (every-each flatten Q f l h.1 (start + length (flatten a)))

  pub every-all : (es : List Entry) → All (λ n. (k : ℕ) → P k n) es → (start : ℕ) → Every P start es
  every-all [] h start = tt
  every-all (n ∷ es) h start = (h.0 start, every-all es h.1 (suc start))

  pub every-at : (start : ℕ) (es : List Entry) → Every P start es → (i : ℕ) → i < length es → P (start + i) (entry_of es i)
  every-at start [] h i l = absurd (omega arith)
  every-at start (n ∷ es) h zero l = subst (λ m. P m n) (omega arith) h.0
  every-at start (n ∷ es) h (suc i) l = subst (λ m. P m (entry_of es i)) (omega arith) (every-at (suc start) es h.1 i (omega arith))
