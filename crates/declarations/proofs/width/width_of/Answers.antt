-- `width_of` meets its contract, kind by kind.
use mathlib.Core.Path.{refl, sym, ◌∙◌, subst}
use Rattle.operands.specs.Entries.{kind_at}
use Rattle.node.proofs.ReturnedLaws.{raised}
use Rattle.declarations.specs.LengthLaws.{kept_refused}
use Rattle.declarations.specs.Widths.{IsSized}
use Rattle.declarations.specs.WidthsLaws.{sizing_place, sizes_signal, typed_there, sizes_typed, sizes_untyped, sizing_workable, sizes-refused, sizes-bus}
use Rattle.declarations.proofs.width.width_of.Goals as goal

pub returns-then-kind-eq-SIGNAL : goal.returns-then-kind-eq-SIGNAL
unfolding kind_at
returns-then-kind-eq-SIGNAL c =
    let word = c.kind_at-kind in
    let is = c.if-kind-eq-SIGNAL in
    let a = c.args in (
      (λ f n m x d y s. sizes_signal a.source.now.text.now a.source.now.work.now a.source.now.refs.now f n m a.names.sorts a.names.numbers a.place.own a.place.enumeration x d y s
          (sym word.ensures ∙ is.true)),
      λ n e. refl,
    )

pub returns-then-e-eq-NO_ENTRY : goal.returns-then-e-eq-NO_ENTRY
unfolding kind_at
returns-then-e-eq-NO_ENTRY c =
    let word = c.kind_at-kind in
    let is = c.if-kind-eq-TYPED in
    let none = c.if-e-eq-NO_ENTRY in
    let token = c.place_at-at in
    let size = c.sized in
    let a = c.args in (
      (λ f n m x d y s. sizes_untyped a.source.now.text.now a.source.now.work.now a.source.now.refs.now f n m a.names.sorts a.names.numbers a.place.own a.place.enumeration x d y s
          (sym word.ensures ∙ is.true) none.true _ (subst (λ p. IsSized 0 p size.result) (token.ensures ∙ sizing_place s) size.ensures)),
      λ n e. refl,
    )

pub word_width-requires : goal.word_width-requires
unfolding kind_at
word_width-requires c =
    let word = c.kind_at-kind in
    let is = c.if-kind-eq-TYPED in
    let some = c.if-e-eq-NO_ENTRY in
    let a = c.args in
    let g = c.requires in (
      g.sizing.tree.stored.lexed.room,
      typed_there a.source.now.text.now a.source.now.work.now a.source.now.refs.now g.found a.entries g.names a.names.sorts a.names.numbers a.place.own a.place.enumeration g.x g.d g.m
          g.sizing (sym word.ensures ∙ is.true) some.false,
    )

pub returns-then-kind-eq-TYPED : goal.returns-then-kind-eq-TYPED
unfolding kind_at
returns-then-kind-eq-TYPED c =
    let word = c.kind_at-kind in
    let is = c.if-kind-eq-TYPED in
    let some = c.if-e-eq-NO_ENTRY in
    let token = c.place_at-at in
    let width = c.word_width in
    let size = c.sized-then-kind-eq-TYPED in
    let a = c.args in (
      (λ f n m x d y s. sizes_typed a.source.now.text.now a.source.now.work.now a.source.now.refs.now f n m a.names.sorts a.names.numbers a.place.own a.place.enumeration x d y s
          (sym word.ensures ∙ is.true) some.false _ width.ensures _
          (subst (λ p. IsSized width.result p size.result) (token.ensures ∙ sizing_place s) size.ensures)),
      λ n e. refl,
    )

pub number_of-requires : goal.number_of-requires
unfolding kind_at
number_of-requires c =
    let word = c.kind_at-kind in
    let other = c.if-kind-eq-SIGNAL in
    let wide = c.if-kind-eq-TYPED in
    let a = c.args in
    let g = c.requires in
    sizing_workable a.source.now.text.now a.source.now.work.now a.source.now.refs.now g.found a.entries g.names a.names.sorts a.names.numbers a.place.own a.place.enumeration g.x g.d _
    c.before-2.ensures g.room g.m g.sizing (λ q. other.false (word.ensures ∙ q)) (λ q. wide.false (word.ensures ∙ q))

pub returns-in_err-n : goal.returns-in_err-n
unfolding kind_at
returns-in_err-n c =
    let word = c.kind_at-kind in
    let other = c.if-kind-eq-SIGNAL in
    let wide = c.if-kind-eq-TYPED in
    let worked = c.number_of in
    let out = raised c.from_residual.ensures in
    let a = c.args in (
      (λ f n m x d y s. sizes-refused a.source.now.text.now a.source.now.work.now a.source.now.refs.now f n m a.names.sorts a.names.numbers a.place.own a.place.enumeration x d y s
          (λ q. other.false (word.ensures ∙ q)) (λ q. wide.false (word.ensures ∙ q)) _ c.before-2.ensures worked.result worked.ensures _ c.in_err-n.was out),
      kept_refused _ _ out,
    )

pub returns : goal.returns
unfolding kind_at
returns c =
    let word = c.kind_at-kind in
    let other = c.if-kind-eq-SIGNAL in
    let wide = c.if-kind-eq-TYPED in
    let worked = c.number_of in
    let token = c.place_at-at in
    let a = c.args in (
      (λ f n m x d y s. sizes-bus a.source.now.text.now a.source.now.work.now a.source.now.refs.now f n m a.names.sorts a.names.numbers a.place.own a.place.enumeration x d y s
          (λ q. other.false (word.ensures ∙ q)) (λ q. wide.false (word.ensures ∙ q)) _ c.before-2.ensures worked.result worked.ensures _ c.in_ok-n.was _
          (subst (λ p. IsSized c.in_ok-n.n p c.sized-2.result) (token.ensures ∙ sizing_place s) c.sized-2.ensures)),
      λ n e. worked.ensures.same _ c.in_ok-n.was,
    )
