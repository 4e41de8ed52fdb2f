-- `tlsf_reach` meets its contract: the answer's number fits the word, since the definition's does.
use mathlib.Core.Path.{subst, sym, ap, ◌∙◌}
use Rattle.node.specs.Result.{Result, Counts}
use Rattle.lookahead.specs.Reaching.{valued}
use Rattle.tlsf_c.specs.Packed.{Fits}
use Rattle.tlsf_c.specs.PackedLaws.{reaching-fits}
use Rattle.tlsf_c.proofs.tlsf_reach.Goals as goal

pub pack-requires : goal.pack-requires
pack-requires c =
    subst (λ (x : Result Counts). Fits x) (sym (c.answer.ensures ∙ ap valued c.reach_of-reach.ensures.answer)) (reaching-fits _)

pub returns : goal.returns
returns c =
    record {
      answer = c.answer.result;
      packs = c.pack.ensures;
      promise = record { reach = c.reach_of-reach.result; values = c.answer.ensures; promise = c.reach_of-reach.ensures };
    }
