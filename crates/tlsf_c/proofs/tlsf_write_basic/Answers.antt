-- `tlsf_write_basic` meets its contract: the answer's number fits the word, since the definition's does.
use mathlib.Core.Path.{subst, sym, ap, ◌∙◌}
use Rattle.node.specs.Result.{Result, Counts}
use Rattle.tlsf_c.specs.Packed.{packed, Fits}
use Rattle.tlsf_c.specs.PackedLaws.{writing-fits}
use Rattle.tlsf_c.specs.Promise.{counted}
use Rattle.tlsf_c.proofs.tlsf_write_basic.Goals as goal

pub pack-requires : goal.pack-requires
pack-requires c =
    subst (λ (x : Result Counts). Fits x) (sym (c.counted.ensures ∙ ap counted c.write_basic.ensures.answer)) (writing-fits _ _ _)

pub returns : goal.returns
returns c =
    record { answer = c.write_basic.result; packs = c.pack.ensures ∙ ap packed c.counted.ensures; promise = c.write_basic.ensures }
