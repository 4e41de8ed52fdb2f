-- `expand_declared` meets its contract: refused by a line, or what follows the lines, which are counted.
use native.Mathlib.Omega.{arith}
use Rattle.reader.specs.CountingLaws.{finishes_counted}
use Rattle.reader.specs.LiningLaws.{sizes, some_given, some-complete, lines-complete, lines-refused}
use Rattle.reader.proofs.expansion.expand_declared.Goals as goal

pub gather-gathering-requires : goal.gather-gathering-requires
gather-gathering-requires c =
    record { sizes = sizes c.requires.sized (omega arith); some_given = some_given c.start-from.ensures c.requires.some_ready }

pub returns-in-Err : goal.returns-in-Err
returns-in-Err c =
    λ x d h. lines-refused c.start-from.ensures c.gather-gathering.ensures h _ _ c.in-Err.is c.uncounted.ensures

pub slice_bounds-finish-end-2 : goal.slice_bounds-finish-end-2
slice_bounds-finish-end-2 c =
    c.requires.sized.list-size

pub finish-a-requires : goal.finish-a-requires
finish-a-requires c =
    some-complete c.start-from.ensures c.gather-gathering.ensures c.requires.some_ready c.in-Ok.is

pub returns : goal.returns
returns c =
    λ x d h.
    let g = lines-complete c.start-from.ensures c.gather-gathering.ensures h c.in-Ok.is in
    finishes_counted g (c.finish-a.ensures x d g) c.count_lines-counts.ensures
