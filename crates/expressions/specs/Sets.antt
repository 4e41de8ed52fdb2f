-- The end of a set.
use Rattle.std.specs.Prelude.{ℕ, List}
use Rattle.entries.specs.Kinds as Kind
use Rattle.entries.specs.declared.Cursor.{Cursor}
use Rattle.entries.specs.Cursors.{emitted_of}
use Rattle.expressions.specs.declared.stack.Machine.{Machine}
use Rattle.expressions.specs.declared.stack.Turn.{Turn}
use Rattle.expressions.specs.declared.stack.Turn.TheVariants.{Next}
use Rattle.expressions.specs.Complete.{Builds, built_of, built_in}
use Rattle.expressions.specs.Grown.{Grows, grown_in}

-- an element's entry, then the set's: what they ask for, and the state after them
pub record Lists (w : List ℕ) (m : Machine) (c : Cursor) (n : ℕ) : Type 0 where
  pub element : Grows w c Kind.element 0 n
  pub set : Builds (grown_in w c Kind.element 0 n) m (emitted_of c) Kind.listed 1

abbrev pub listed_of : List ℕ → Machine → Cursor → ℕ → Turn
listed_of w m c n = Next (built_of (grown_in w c Kind.element 0 n) m (emitted_of c))

abbrev pub listed_in : List ℕ → Machine → Cursor → ℕ → List ℕ
listed_in w m c n = built_in (grown_in w c Kind.element 0 n) m (emitted_of c) Kind.listed 1
