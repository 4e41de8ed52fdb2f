-- A numeral is the digits at its place.
use Rattle.std.specs.Prelude.{ℕ, true, List, [], ◌≡◌, drop}
use Rattle.std.proofs.Math.Option.{some}
use Rattle.std.proofs.Common.{sym, ap, ◌∙◌, subst, arith}
use Rattle.node.specs.Result.{Done, ◌>>=◌}
use Rattle.node.proofs.ResultLaws.{bind_again, bind_same, bind_at}
use Rattle.node.specs.Returned.{Returned}
use Rattle.language.specs.Tokens.{Token, tokens, is_of, Numeral as Digits}
use Rattle.language.specs.Grammar.{front}
use Rattle.language.specs.Values.{Number, in_range, decimal, value}
use Rattle.language.proofs.Laws.Values.ValueLaws.{in_range_sane}
use Rattle.entries.specs.Kinds as Kind
use Rattle.entries.specs.StoredLaws.{ends-own}
use Rattle.sets.specs.Answers.{says}
use Rattle.sets.specs.Digits.{digits_at}
use Rattle.operands.specs.Entries.{kind_at, place_at}
use Rattle.operands.specs.Classes.{class_of}
use Rattle.operands.specs.ClassLaws.{place_is}
use Rattle.operands.specs.NumeralTokens.{numeral_spelt}
use Rattle.operands.specs.Working.{Source}
use Rattle.machine.specs.Came.{worth}
use Rattle.machine.specs.States.{Steps}
use Rattle.machine.specs.StateLaws.{entered}
use Rattle.machine.specs.NumberLaws.{comes_number}
use Rattle.machine.specs.Moves.{numbered}
use Rattle.machine.specs.OperandLaws.{operand-view, operand_as}
use Rattle.machine.specs.declared.Machine.{Machine}
use Rattle.machine.specs.Entering.{Evaluates}
use Rattle.machine.specs.EnteringLaws.{works-value}

pub numeral-steps : {s : Source} {mem : List ℕ} {m : Machine} {p : ℕ} (w : Returned ℕ) → Evaluates s.work m Kind.numeral Kind.truth → p ≡ place_at s.work m.value
    → says w ≡ in_range p (decimal 0 (digits_at s.text p)) → Steps s mem mem m (numbered m w)
numeral-steps {s} {m = m} {p} w k q g = record {
  turns = λ R x o out h.
      let e = k.mode in
      let e1 = k.from in
      let e2 = k.until in
      let n = entered h (omega arith) in
      let a = n.at.operand in
      let kind : kind_at s.work m.value ≡ Kind.numeral = omega arith in
      let v = operand-view a (ap class_of kind) in
      let t = v.0 in
      let b = operand_as a v.1 in
      let place : p ≡ t.at = q ∙ place_is R.lexed Kind.numeral t [] b.known.at in
      let own = ends-own Kind.numeral (some t) [] b.known.at in
      let same : front (drop own.index (tokens s.text)) ≡ t = own.keeps.0 in
      let spelt : digits_at s.text t.at ≡ t.text = subst (λ (u : Token). digits_at s.text u.at ≡ u.text) same
      (numeral_spelt s.text own.index (let z = own.keeps.1 in omega arith) (subst (λ (u : Token). is_of Digits u ≡ true) (sym same) b.known.proper.1)) in
      let g' : says w ≡ in_range t.at (decimal 0 t.text) =
      g ∙ ap (λ (i : ℕ). in_range i (decimal 0 (digits_at s.text i))) place ∙ ap (λ (l : List ℕ). in_range t.at (decimal 0 l)) spelt in
      comes_number n w g' (in_range_sane t.at (decimal 0 t.text)) (works-value n e ∙ ap (λ d. value n.context.values d >>= worth) v.1
      ∙ bind_again (in_range t.at (decimal 0 t.text)) (λ i. Done (Number i)) worth ∙ bind_same (in_range t.at (decimal 0 t.text)) _ _ (λ i. bind_at (Number i) worth));
}
