-- What a function of the parser returns: the cursor behind what was read, or a refusal.
use Rattle.node.specs.Returned.{Returned}
use Rattle.entries.specs.declared.Cursor.{Cursor}

abbrev pub Parse : Type 0
Parse = Returned Cursor
