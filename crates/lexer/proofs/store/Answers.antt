-- `lexer::store` meets its contract: the word is packed as `word_of` packs it.
use borrow.Author.Tests.{lt-ltb, le-ltb}
use Rattle.language.specs.Limits.{max_tokens}
use Rattle.lexer.proofs.store.Goals as goal

pub returns-then-n-lt-MAX_TOKENS : goal.returns-then-n-lt-MAX_TOKENS
returns-then-n-lt-MAX_TOKENS c =
    let if1 = c.if-n-lt-MAX_TOKENS in
    let put = c.put in
    rw (lt-ltb c.args.n max_tokens if1.true, ← c.min.ensures) put.ensures

pub returns-else-n-lt-MAX_TOKENS : goal.returns-else-n-lt-MAX_TOKENS
returns-else-n-lt-MAX_TOKENS c =
    rw (le-ltb c.args.n max_tokens c.if-n-lt-MAX_TOKENS.false)
