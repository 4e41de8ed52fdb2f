-- `lexer::piece::slash` meets its contract, by the byte after the slash.
use Prim.Native.Nat.{◌+◌}
use mathlib.Core.Path.{refl}
use lib.ListN.{drop, length-drop}
use Rattle.language.proofs.Laws.Grammar.PieceLaws.{line_size-fits}
use Rattle.lexer.proofs.PlaceLaws.{begins-none, line_at, comment-at, slash-last, slash-at}
use native.Mathlib.Omega.{arith}
use Rattle.lexer.proofs.piece.slash.Goals as goal

pub sign-requires : goal.sign-requires
sign-requires c =
    (c.requires.0, begins-none _ _ _ _ c.requires.0 (λ i. omega (arith, c.type_inv.text i)) _ refl (λ e. let f = c.requires.1 in omega arith))

pub returns-then-text-at-lt2 : goal.returns-then-text-at-lt2
returns-then-text-at-lt2 c =
    let if1 = c.if-text-at-lt2 in
    λ e. slash-last _ _ _ _ c.requires.0 (λ i. omega (arith, c.type_inv.text i)) c.requires.1 e _ c.sign.ensures if1.true

pub overflow_add-result : goal.overflow_add-result
overflow_add-result c =
    omega (arith, c.line_size.ensures, line_size-fits (drop (c.args.at + 1) c.args.text.now), length-drop (c.args.at + 1) c.args.text.now, c.requires.0.inside)

pub returns-then-next-eq47 : goal.returns-then-next-eq47
returns-then-next-eq47 c =
    let if1 = c.if-text-at-lt2 in
    let if2 = c.if-next-eq47 in
    λ e. line_at _ _ _ _ c.requires.0 (λ i. omega (arith, c.type_inv.text i)) c.requires.1 e if1.false if2.true _ c.line_size.ensures

pub returns-then-next-eq42 : goal.returns-then-next-eq42
returns-then-next-eq42 c =
    let if1 = c.if-text-at-lt2 in
    let if3 = c.if-next-eq42 in
    let comment-size = c.comment_size in
    λ e. rw c.closed.ensures (comment-at _ _ _ _ c.requires.0 (λ i. omega (arith, c.type_inv.text i)) c.requires.1 e if1.false if3.true _ comment-size.ensures)

pub sign-requires-2 : goal.sign-requires-2
sign-requires-2 c =
    (c.requires.0, begins-none _ _ _ _ c.requires.0 (λ i. omega (arith, c.type_inv.text i)) _ refl (λ e. let f = c.requires.1 in omega arith))

pub returns : goal.returns
returns c =
    let if1 = c.if-text-at-lt2 in
    let if2 = c.if-next-eq47 in
    let if3 = c.if-next-eq42 in
    λ e. slash-at _ _ _ _ c.requires.0 (λ i. omega (arith, c.type_inv.text i)) c.requires.1 e _ c.sign-2.ensures if1.false if2.false if3.false
