-- A numeral's token is all the digits from its place on.
use Rattle.std.specs.Prelude.{ℕ, ◌<◌, true, List, ◌≡◌, length, take, drop}
use Rattle.std.proofs.lemmas.Bool.{false≢true}
use Rattle.std.proofs.Common.{ap}
use Rattle.language.specs.Bytes.{is_digit}
use Rattle.language.specs.Tokens.{Numeral, Token, is_of, run, tokens}
use Rattle.language.specs.Grammar.{front}
use Rattle.language.proofs.Laws.Basics.Lists.{All}
use Rattle.language.proofs.Laws.Grammar.EveryToken.{tokens-each}
use Rattle.sets.specs.Digits.{digits_at}
use Rattle.lexer.specs.LexingLaws.{front-all}

abbrev Spelt : List ℕ → Token → Type 0
Spelt text t = is_of Numeral t ≡ true → digits_at text t.at ≡ t.text

tokens_spelt : (text : List ℕ) → All (Spelt text) (tokens text)
unfolding digits_at
tokens_spelt text = tokens-each text (Spelt text) (λ _ w. absurd (false≢true w)) (λ at b s h. record {
  blank = λ _ w. absurd (false≢true w);
  quoted = λ _ w. absurd (false≢true w);
  fixed = λ _ w. absurd (false≢true w);
  wrong = λ w. absurd (false≢true w);
  name = λ _ _ w. absurd (false≢true w);
  marks = λ w. absurd (false≢true w);
  numeral = λ _. ap (λ l. take (run is_digit l) l) h;
})

pub numeral_spelt : (text : List ℕ) (i : ℕ) → i < length (tokens text) → is_of Numeral (front (drop i (tokens text))) ≡ true
    → digits_at text (front (drop i (tokens text))).at ≡ (front (drop i (tokens text))).text
numeral_spelt text i l = front-all (Spelt text) i (tokens text) l (tokens_spelt text)
