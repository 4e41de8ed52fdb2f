-- Where the operands of an expression stand: before its own entry.
use Rattle.std.specs.Prelude.{ℕ, ◌≤◌, List, length}
use Rattle.std.proofs.Math.Option.{Option}
use Rattle.std.proofs.Common.{arith}
use Rattle.language.specs.Tokens.{Token}
use Rattle.language.specs.Grammar.{Tokens}
use Rattle.entries.specs.Flat.{Entry, under}
use Rattle.entries.specs.Stored.{EndsAt}
use Rattle.name_values.proofs.KnownLaws.{own-more}

pub below : {w : List ℕ} {ts : Tokens} {k : ℕ} (n : ℕ) (t : Option Token) (es : List Entry) → EndsAt w ts k (under n t es) → length es ≤ k
below n t es h = let z = own-more n t es in let q = h.size in omega arith
