-- That every case of the table holds, computed: apart from the table, so that an edit of the table is read.
use Rattle.std.specs.Prelude.{refl}
use Rattle.std.proofs.Math.Bool.{So}
use mathlib.Core.List.{Mem}
use Rattle.node.specs.Postorder.{size, nodes_from}
use Rattle.node.specs.Result.{◌>>=◌, guard}
use Rattle.node.specs.Table.{tree_at, formulas, scanned, checked}
use Rattle.node.specs.Written.{nodes_of, count}
use Rattle.bits.specs.Bits.{bit_at, number}
use Rattle.recordings.specs.Recording.{blank, filled, readable}
use Rattle.recordings.specs.Lasso.{next}
use Rattle.rows.specs.Row.{sweep_from, around, row}
use Rattle.evaluator.specs.Evaluation.{evaluation, verdict_of}
use Rattle.language.specs.Places.{refuse_at}
use Rattle.language.specs.Parsing.{parsed}
use Rattle.language.specs.Reading.{text_expansion, spec_expansion}
use Rattle.language.proofs.Cases.Every.{every, every-each}
use Rattle.starred.specs.Table.{Case, Met, cases, passes, met}

-- the table, computed
tested : So (every passes cases)
unfolding text_expansion parsed spec_expansion refuse_at count size nodes_of nodes_from verdict_of evaluation ◌>>=◌ guard checked scanned readable filled blank tree_at formulas number bit_at next sweep_from around row
tested = refl

-- every starred case holds
pub all-met : (s : Case) → Mem s cases → Met s
all-met s m = met s (every-each passes cases tested s m)
