-- The lines of document 01's listing, byte by byte.
use Rattle.std.specs.Prelude.{ℕ, zero, suc, List, [], ◌++◌, slice_index, codes, Ok, Err}
use Rattle.std.specs.Fmt.{decimal}
use Rattle.node.specs.Answer.{Answer}
use Rattle.node.specs.Fields.{kind_of, first_of, second_of}

-- a line's last two numbers, a blank before each, and a line feed
abbrev pub two : ℕ → ℕ → List ℕ
two first second = codes " " ++ decimal first ++ codes " " ++ decimal second ++ codes "\n"

-- an answer's line
abbrev pub answer_line : Answer → List ℕ
answer_line (Ok (nodes, signals)) = codes "accepted" ++ two nodes signals
answer_line (Err r) = codes "refused" ++ two r.number r.place

-- the line of node i: its number, kind, first and second field
abbrev pub node_line : ℕ → ℕ → List ℕ
node_line i word = decimal i ++ codes " " ++ decimal (kind_of word) ++ two (first_of word) (second_of word)

-- the lines of the first n nodes
abbrev pub node_lines : ℕ → List ℕ → List ℕ
node_lines zero nodes = []
node_lines (suc n) nodes = node_lines n nodes ++ node_line n (slice_index nodes n)
