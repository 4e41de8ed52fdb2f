-- `tlsf_evaluate` meets its contract: the answer's number fits the word, since the definition's does.
use mathlib.Core.Path.{subst, sym}
use Rattle.node.specs.Result.{Result, Counts}
use Rattle.tlsf_c.specs.Packed.{Fits}
use Rattle.tlsf_c.specs.PackedLaws.{evaluation-fits}
use Rattle.tlsf_c.proofs.tlsf_evaluate.Goals as goal

pub pack-requires : goal.pack-requires
pack-requires c =
    subst (λ (x : Result Counts). Fits x) (sym c.evaluate.ensures.answer) (evaluation-fits _ _ _ _)
