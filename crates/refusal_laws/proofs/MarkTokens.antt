-- A word of an enumeration in a text is a run of `0`, `1` and `*`.
use Rattle.std.specs.Prelude.{ℕ, List, [], ◌∷◌, true, ◌≡◌, take}
use Rattle.std.proofs.lemmas.Bool.{false≢true}
use Rattle.language.specs.Bytes.{is_mark}
use Rattle.language.specs.Tokens.{Marks, Token, is_of, run, tokens}
use Rattle.language.proofs.Laws.Basics.Lists.{All}
use Rattle.language.proofs.Laws.Basics.Tests.{split}
use Rattle.language.proofs.Laws.Grammar.EveryToken.{tokens-each}

abbrev pub AreMarks : List ℕ → Type 0
AreMarks ms = All (λ m. is_mark m ≡ true) ms

run_marks : (s : List ℕ) → AreMarks (take (run is_mark s) s)
run_marks [] = tt
run_marks (b ∷ s) = split (λ n. AreMarks (take n (b ∷ s))) (is_mark b) (λ e. (e, run_marks s)) (λ _. tt)

abbrev pub Marked : Token → Type 0
Marked t = is_of Marks t ≡ true → AreMarks t.text

pub tokens-marked : (text : List ℕ) → All Marked (tokens text)
tokens-marked text = tokens-each text Marked (λ _ w. absurd (false≢true w)) (λ at b s h. record {
  blank = λ _ w. absurd (false≢true w);
  quoted = λ _ w. absurd (false≢true w);
  fixed = λ _ w. absurd (false≢true w);
  wrong = λ w. absurd (false≢true w);
  name = λ _ _ w. absurd (false≢true w);
  marks = λ _. run_marks (b ∷ s);
  numeral = λ w. absurd (false≢true w);
})
