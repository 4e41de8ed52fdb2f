-- Room for the rows of every table over every recording: 8,192 rows of 256 bytes. Laws in RoomLaws.
use Rattle.std.specs.Prelude.{ℕ, ◌*◌}
use Rattle.node.specs.Limits.{max_nodes}
use Rattle.rows.specs.Memory.{row_bytes}

-- the longest rows, for the most nodes
abbrev pub rows_room : ℕ
rows_room = row_bytes * max_nodes
