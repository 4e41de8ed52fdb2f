-- `outlined` meets its contract: the lexer's refusal, the parser's, or the parser's tree on the tokens that the lexer has stored.
use native.Mathlib.Omega.{arith}
use Rattle.node.proofs.ReturnedLaws.{raised}
use Rattle.outline.specs.Tokenizing.{lexed, outlined, not_outlined, tokenized, handed_up}
use Rattle.outline.proofs.outlined.Goals as goal

pub returns-in_err-count : goal.returns-in_err-count
returns-in_err-count c = handed_up c.lex.ensures c.in_err-count.was (raised c.from_residual.ensures)

pub parse-requires : goal.parse-requires
parse-requires c =
    let l = c.lex.ensures in
    lexed (tokenized l c.in_ok-count.was) (omega (arith, l.size, c.requires))

pub returns-in_err-outline : goal.returns-in_err-outline
returns-in_err-outline c =
    let l = c.lex.ensures in
    not_outlined (tokenized l c.in_ok-count.was) l.size l.kept c.parse.ensures c.in_err-outline.was (raised c.from_residual-in_err-outline.ensures)

pub returns : goal.returns
returns c =
    let l = c.lex.ensures in
    outlined (tokenized l c.in_ok-count.was) l.size l.kept c.parse.ensures c.in_ok-outline.was
