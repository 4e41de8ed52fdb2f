-- `word_width` meets its contract: no word stands before entry i.
use Prim.Native.Nat.{ℕ, ◌≤◌}
use mathlib.Core.List.{List}
use Rattle.language.specs.Limits.{max_tokens}
use Rattle.language.specs.Tokens.{Token, tokens}
use Rattle.spellings.specs.Interned.{Lexed}
use Rattle.name_values.specs.Declaring.{EnumerationAt}
use Rattle.declarations.specs.EnumerationLaws.{Scanning}
use Rattle.declarations.proofs.enumeration.word_width.Given as goal

abbrev pub invariant-loop-i : goal.invariant-loop-i
invariant-loop-i l = (l.i ≤ max_tokens) × ((text : List ℕ) (count : ℕ) (words : List Token) (x : Lexed text l.work count) → EnumerationAt (tokens text) l.work l.e words → Scanning x words l.i)
