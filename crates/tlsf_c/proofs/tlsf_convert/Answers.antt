-- `tlsf_convert` meets its contract: the answer's number fits the word, since the definition's does.
use mathlib.Core.Path.{subst, sym}
use Rattle.node.specs.Result.{Result, Counts}
use Rattle.tlsf_c.specs.Packed.{Fits}
use Rattle.tlsf_c.specs.PackedLaws.{converting-fits}
use Rattle.tlsf_c.proofs.tlsf_convert.Goals as goal

pub pack-requires : goal.pack-requires
pack-requires c =
    subst (λ (x : Result Counts). Fits x) (sym c.convert.ensures.yields.answer) (converting-fits _ _ _ _ _)
