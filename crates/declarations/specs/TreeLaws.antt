-- What a stored tree gives: the machine's realm, its expressions, and entries and names within their limits.
use Rattle.std.specs.Prelude.{ℕ, ◌-◌, ◌<◌, true, List, [], ◌≡◌, length}
use Rattle.std.proofs.Common.{arith}
use Rattle.language.specs.Limits.{max_tokens, max_names}
use Rattle.language.specs.Tokens.{Token, tokens}
use Rattle.language.specs.Tree.{Expr, Definition, Spec}
use Rattle.language.specs.Names.{visible}
use Rattle.language.specs.DeclaredNames.{Table}
use Rattle.language.specs.Expansion.{context_of, define_all}
use Rattle.entries.specs.Flat.{outline}
use Rattle.names.specs.References.{number_in}
use Rattle.names.proofs.ResolvedLaws.{number-below}
use Rattle.names.specs.Resolved.{declared_names}
use Rattle.name_values.specs.Worked.{world_in, Worked}
use Rattle.operands.specs.Working.{source}
use Rattle.machine.specs.Realm.{Realm}
use Rattle.memory_notes.specs.ShortTables.{ShortTable}
use Rattle.memory_notes.specs.RealmLaws.{operand}
use Rattle.memory_notes.specs.Realms.{realm}
use Rattle.notes.specs.Notes.{Notes}
use Rattle.declarations.specs.Expressions.{Expression}
use Rattle.declarations.specs.Trees.{Tree}

module _ {text w refs found : List ℕ} {entries names : ℕ} {x : Spec} (t : Tree text w refs found entries names x) where
  -- what the machine works in, by the table
  abbrev pub tree-realm : (d : Table) → ShortTable d → Realm (source text w refs)
  tree-realm d short = realm x [] d t.stored t.resolved short

  -- an expression that is worked behind some definitions
  pub tree-expression : (before : List Definition) (k : ℕ) (e : Expr) → Worked x text w refs before k e → (d : Table) (short : ShortTable d) (sorts numbers : List ℕ)
      → Notes (tokens text) w (world_in x [] d) sorts numbers → Expression text w refs sorts numbers k (tree-realm d short) (define_all (context_of [] d) before) e
  tree-expression before k e h d short sorts numbers n = record { operand = operand x [] d h; notes = n }

  pub tree-inside : (k : ℕ) → k < length (outline x) → k < max_tokens
  tree-inside k l = let a = t.stored.total in let b = t.stored.few in omega arith

  -- the entry before one of the tree's
  pub tree-before : (k : ℕ) → k < length (outline x) → k - 1 < entries
  tree-before k l = let a = t.stored.total in omega arith

  pub number_small : (n : Token) → visible (declared_names x) n ≡ true → number_in (declared_names x) n < max_names
  number_small n v = let a = t.resolved.count in let b = t.resolved.few in let c = number-below (declared_names x) n v in omega arith
