-- `add_line` meets its contract: a line that does not fit the table leaves more than fit.
use mathlib.Core.Path.{refl}
use native.Mathlib.Numerals.{add-one}
use native.Mathlib.Omega.{arith}
use Rattle.assembly.specs.GatheredLaws.{adds_none, adds_one}
use Rattle.assembly.proofs.add_line.Goals as goal

pub returns-then-next-gt-MAX_NODES : goal.returns-then-next-gt-MAX_NODES
returns-then-next-gt-MAX_NODES c = adds_none (omega arith)

pub overflow_sub-lines : goal.overflow_sub-lines
overflow_sub-lines c =
    omega (arith, c.requires.behind (omega arith), c.requires.few (omega arith))

pub offset_bounds-lines-count : goal.offset_bounds-lines-count
offset_bounds-lines-count c =
    omega (arith, c.requires.behind (omega arith), c.requires.few (omega arith))

pub bounds-lines-count : goal.bounds-lines-count
bounds-lines-count c =
    omega (arith, c.requires.behind (omega arith), c.requires.few (omega arith))

pub overflow_add-result : goal.overflow_add-result
overflow_add-result c =
    omega (arith, c.requires.behind (omega arith), c.requires.few (omega arith))

pub returns : goal.returns
returns c = rw add-one (adds_one (omega arith) (omega arith) refl)
