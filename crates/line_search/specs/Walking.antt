-- A line found from a table's root by operands, and where its row says that it is false: what the code does, in its own steps. Laws in WalkingLaws.
use Rattle.std.specs.Prelude.{ℕ, zero, suc, ◌+◌, ◌*◌, ◌-◌, ◌/◌, ◌%◌, Bool, true, false, List, eqb, get_or, length}
use Rattle.std.proofs.Math.Option.{Option, none, some}
use Rattle.node.specs.Fields.{first_of, second_of}
use Rattle.bits.specs.Bits.{bit_at, width}
use Rattle.language.specs.Bytes.{if◌then◌otherwise◌}
use Rattle.language.specs.Tree.{Part, Initially, Preset, Require, Assert, Assume, Guarantee}
use Rattle.faults.specs.Naming.{Finding, FaultIn, broken_from, or_else}
use Rattle.line_counts.specs.declared.LineCounts.{LineCounts}

-- an operand of node i, the second or the first
abbrev pub operand_of : List ℕ → ℕ → Bool → ℕ
operand_of ws i true = second_of (get_or ws i 0)
operand_of ws i false = first_of (get_or ws i 0)

-- so many steps from node i on, one for each bit of the path
unfoldable pub walked : List ℕ → (path steps : ℕ) → ℕ → ℕ
walked ws path zero i = i
walked ws path (suc k) i = walked ws (path / 2) k (operand_of ws i (eqb (path % 2) 1))

-- the value of node i at position p, in rows of so many bytes
abbrev pub value_of : List ℕ → (width i p : ℕ) → Bool
value_of rows width i p = bit_at rows (8 * (width * i) + p)

-- the first false of lines 1 to k of a section whose node is i, or f
unfoldable pub seen : List ℕ → (ℕ → Bool) → (i k f : ℕ) → ℕ
seen ws value i zero f = f
seen ws value i (suc zero) f = if value i then f otherwise 1
seen ws value i (suc (suc k)) f = seen ws value (operand_of ws i false) (suc k) (if value (operand_of ws i true) then f otherwise suc (suc k))

-- a position, or the end
abbrev pub or_end : ℕ → Option ℕ → ℕ
or_end n none = n
or_end n (some p) = p

-- the node of each section that is looked at: standard and strict files have them at unlike places
abbrev pub section_at : List ℕ → Bool → Part → ℕ
section_at ws strict Preset = walked ws 1 (if strict then 3 otherwise 2) (length ws - 1)
section_at ws strict Require = walked ws 3 5 (length ws - 1)
section_at ws strict Assert = walked ws (if strict then 5 otherwise 7) (if strict then 4 otherwise 5) (length ws - 1)
section_at ws strict Guarantee = walked ws (if strict then 7 otherwise 15) (if strict then 3 otherwise 4) (length ws - 1)
section_at ws strict Initially = 0
section_at ws strict Assume = 0

-- the first false line of a section at p, of k lines
abbrev pub false_at : List ℕ → List ℕ → Bool → Part → (n k p : ℕ) → ℕ
false_at ws rows strict q n k p = seen ws (λ i. value_of rows (width n) i p) (section_at ws strict q) k 0

abbrev pub break_at : List ℕ → List ℕ → Bool → ℕ → Option ℕ
break_at ws rows strict n = broken_from strict (value_of rows (width n) (section_at ws strict Require)) (value_of rows (width n) (section_at ws strict Assert)) 0 n

abbrev pub after_break : List ℕ → List ℕ → Bool → LineCounts → ℕ → Option ℕ → Finding
after_break ws rows strict lines n (some p) = FaultIn Assert (false_at ws rows strict Assert n lines.assert p)
after_break ws rows strict lines n none = FaultIn Guarantee (false_at ws rows strict Guarantee n lines.guarantee 0)

-- the line that is named
abbrev pub line_found : List ℕ → List ℕ → Bool → LineCounts → ℕ → Finding
line_found ws rows strict lines n = or_else (false_at ws rows strict Preset n lines.preset 0) (after_break ws rows strict lines n (break_at ws rows strict n))
