-- `tlsf_rewrite` meets its contract: the answer's number fits the word, since the definition's does.
use mathlib.Core.Path.{subst, sym}
use Rattle.node.specs.Result.{Result, Counts}
use Rattle.tlsf_c.specs.Packed.{Fits}
use Rattle.tlsf_c.specs.PackedLaws.{rewriting-fits}
use Rattle.tlsf_c.proofs.tlsf_rewrite.Goals as goal

pub pack-requires : goal.pack-requires
pack-requires c =
    subst (λ (x : Result Counts). Fits x) (sym c.rewrite.ensures.answer) (rewriting-fits _ _ _)
