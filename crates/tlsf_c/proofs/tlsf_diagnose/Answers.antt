-- `tlsf_diagnose` meets its contract: the answer's number fits the word, since the definition's does.
use mathlib.Core.Path.{subst, sym, ap, ◌∙◌}
use Rattle.node.specs.Result.{Result, Counts}
use Rattle.tlsf_c.specs.Packed.{packed, Fits}
use Rattle.tlsf_c.specs.PackedLaws.{line-fits}
use Rattle.tlsf_c.proofs.tlsf_diagnose.Goals as goal

pub pack-requires : goal.pack-requires
pack-requires c =
    subst (λ (x : Result Counts). Fits x) (sym c.named.ensures) (line-fits _ _ _ _ c.diagnose.result c.diagnose.ensures.answer)

pub returns : goal.returns
returns c =
    record { answer = c.diagnose.result; packs = c.pack.ensures ∙ ap packed c.named.ensures; promise = c.diagnose.ensures }
