-- What an entry does to the visible names, told by its kind: it uses a name, brings a big operator's name, ends a big operator, or declares a name.
use Rattle.std.specs.Prelude.{ℕ, Bool, true, false, not, ◌&&◌, ◌||◌, ◌≡◌, eqb, leb}
use Rattle.language.specs.Operators.{BigSum, BigOr}
use Rattle.entries.specs.Kinds as Kind

-- a name, or a bus that is indexed; the enumeration of a bus is a name too
abbrev pub uses : ℕ → Bool
uses k = eqb k Kind.named || eqb k Kind.index

abbrev pub binds : ℕ → Bool
binds k = eqb k (Kind.binder false) || eqb k (Kind.binder true)

-- the end of a big operator, with which its name is gone
abbrev pub ends : ℕ → Bool
ends k = leb (Kind.big BigSum) k && leb k (Kind.big BigOr)

-- a line or an identifier that declares a name, of the kinds from `low` on: parameters come first, signals and buses last
abbrev pub declares : ℕ → ℕ → Bool
declares low k = leb low k && not (eqb k Kind.word) && leb k Kind.typed

-- an entry that does nothing of this
pub record Quiet (k : ℕ) : Type 0 where
  pub no_use : uses k ≡ false
  pub no_binder : binds k ≡ false
  pub no_end : ends k ≡ false
  pub no_declared : declares Kind.parameter k ≡ false

-- the end of a big operator only ends one
pub record Ending (k : ℕ) : Type 0 where
  pub no_use : uses k ≡ false
  pub no_binder : binds k ≡ false
  pub is-end : ends k ≡ true
  pub no_declared : declares Kind.parameter k ≡ false

-- what an entry does, by one answer each
pub record Role (k : ℕ) (u b e d : Bool) : Type 0 where
  pub use_is : uses k ≡ u
  pub bind_is : binds k ≡ b
  pub end_is : ends k ≡ e
  pub declare-is : declares Kind.parameter k ≡ d
