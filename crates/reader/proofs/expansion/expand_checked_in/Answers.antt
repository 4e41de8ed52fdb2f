-- `expand_checked_in` meets its contract: refused by a declaration, or the answer on the lines.
use Prim.Native.Nat.{ℕ}
use native.Mathlib.Omega.{arith}
use lib.ListN.{length-replicate}
use Rattle.node.specs.Limits.{max_nodes}
use Rattle.reader.specs.NamingLaws.{parsed-given, memory_room, names-refused, names-ready, names-convert, some_ready, some_sized}
use Rattle.reader.proofs.expansion.expand_checked_in.Goals as goal

pub declare-declared-requires : goal.declare-declared-requires
declare-declared-requires c =
    (parsed-given c.requires.some_parsed, (memory_room c.requires.roomy (length-replicate {A = ℕ} max_nodes 0), omega arith))

pub returns-in-Err : goal.returns-in-Err
returns-in-Err c =
    record { converts = λ x h. names-refused h c.declare-declared.ensures _ _ c.in-Err.is c.uncounted.ensures }

pub expand_declared-requires : goal.expand_declared-requires
expand_declared-requires c =
    record {
      some_ready = some_ready c.requires.some_parsed c.declare-declared.ensures c.in-Ok.is (omega arith) (omega arith);
      sized = some_sized c.requires.some_parsed c.declare-declared.ensures c.in-Ok.is (omega arith) (omega arith);
    }

pub returns : goal.returns
returns c =
    record {
      converts = λ x h. names-convert h c.declare-declared.ensures c.in-Ok.is
          (c.expand_declared.ensures x _ (names-ready h c.declare-declared.ensures c.in-Ok.is (omega arith) (omega arith)));
    }
