-- `token_word` meets its contract.
use mathlib.Core.Path.{ap, ◌∙◌}
use Rattle.words.specs.Words.{word_at}
use Rattle.entries.specs.Stored.{index_of}
use Rattle.declarations.proofs.enumeration.token_word.Goals as goal

pub returns : goal.returns
returns c = c.get.ensures ∙ ap (λ x. word_at c.args.work.now (index_of x)) c.entry_word-word.ensures
