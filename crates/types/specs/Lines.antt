-- From line to line: what is known of names, and what a text must have for the pass to find its first wrong type.
use Rattle.std.specs.Prelude.{ℕ, List, [], set}
use Rattle.language.specs.Tree.{Defined, Enumerated, OneSignal, OfWidth, OfType, Spec}
use Rattle.language.specs.Places.{TextLine as Line, ParameterLine, DefinitionLine, DeclarationLine, FormulaLine, all_lines}
use Rattle.language.specs.Names.{Names}
use Rattle.language.specs.Types.{type_code, Typings, type_of, typed_after, typed_signals}
use Rattle.names.specs.References.{reference}
use Rattle.traversal.specs.LineLaws.{Each}
use Rattle.types.specs.Known.{KnownName, Known}

-- before a line: the types of declared names by their references, and by their names
pub record Context : Type 0 where
  pub table : List ℕ
  pub names : Typings

-- a definition's type is known after its line
abbrev pub table_next : Names → Context → Line → List ℕ
table_next declared k (ParameterLine x e) = k.table
table_next declared k (DefinitionLine (Defined x e)) = set k.table (reference declared [] x) (type_code (type_of k.names e))
table_next declared k (DefinitionLine (Enumerated x is)) = k.table
table_next declared k (DeclarationLine d) = k.table
table_next declared k (FormulaLine e) = k.table

abbrev pub next : Names → Context → Line → Context
next declared k l = record { table = table_next declared k l; names = typed_after k.names l }

-- the names that a line uses are known
abbrev pub KnownLine : Names → Context → Line → Type 0
KnownLine declared k (ParameterLine x e) = Known declared [] k.table k.names e
KnownLine declared k (DefinitionLine (Defined x e)) = Known declared [] k.table k.names e
KnownLine declared k (DefinitionLine (Enumerated x is)) = Unit {0}
KnownLine declared k (DeclarationLine (OneSignal x)) = Unit {0}
KnownLine declared k (DeclarationLine (OfWidth x e)) = Known declared [] k.table k.names e
KnownLine declared k (DeclarationLine (OfType u x)) = KnownName declared [] k.table k.names u
KnownLine declared k (FormulaLine e) = Known declared [] k.table k.names e

-- from this table on every line's names are known: the signals' and buses' first, then a parameter's, an enumeration's or a definition's after its line
pub record TypesKnown (declared : Names) (table : List ℕ) (x : Spec) : Type 0 where
  pub lines : Each (next declared) (KnownLine declared) (record { table = table; names = typed_signals (all_lines x) }) (all_lines x)
