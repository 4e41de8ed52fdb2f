-- What the machine works in for a checked text: the world of its names, for any ports and any table whose words are short.
use Rattle.std.specs.Prelude.{ℕ, List}
use Rattle.language.specs.Tree.{Spec}
use Rattle.language.specs.DeclaredNames.{Table, Port}
use Rattle.names.specs.Resolved.{Stored, Resolved}
use Rattle.name_values.specs.Worked.{world_in}
use Rattle.operands.specs.Working.{source}
use Rattle.machine.specs.Realm.{Realm}
use Rattle.memory_notes.specs.ShortTables.{ShortTable}
use Rattle.memory_notes.specs.RealmLaws.{world_short, world-bodies}

abbrev pub realm : (x : Spec) (ps : List Port) (d : Table) {text w refs found : List ℕ} {count entries names : ℕ} → Stored text w count entries x → Resolved x refs found names → ShortTable d
    → Realm (source text w refs)
realm x ps d {count = count} stored resolved short =
    record { W = world_in x ps d; ports = ps; count = count; lexed = stored.lexed; bodies = world-bodies x ps d stored resolved short; short = world_short x ps d short }
