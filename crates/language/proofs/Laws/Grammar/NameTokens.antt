-- A name stands in the text as the whole run of name bytes at its offset; what holds of all tokens of a text holds of all tokens of its tree.
use Rattle.std.specs.Prelude.{ℕ, List, true, ◌≡◌, take}
use Rattle.std.proofs.lemmas.Bool.{false≢true}
use Rattle.std.proofs.Common.{ap}
use Rattle.node.specs.Result.{Done}
use Rattle.language.specs.Bytes.{is_name_byte}
use Rattle.language.specs.Tokens.{Name, Token, is_of, run, tokens}
use Rattle.language.specs.Tree.{Spec}
use Rattle.language.specs.Parsing.{parsed}
use Rattle.language.specs.Numbered.{name_at}
use Rattle.language.proofs.Laws.Basics.Lists.{All}
use Rattle.language.proofs.Laws.Basics.Results.{value_of}
use Rattle.language.proofs.Laws.Grammar.EveryToken.{tokens-each}
use Rattle.language.proofs.Laws.Grammar.TreeTokens.{InSpec}
use Rattle.language.proofs.Laws.Grammar.SpecReads.{spec_of_decides}
use Rattle.language.proofs.Laws.Grammar.Parses.{parses}

-- a name is what stands in the text at its offset
abbrev pub NamedIn : List ℕ → Token → Type 0
NamedIn text t = is_of Name t ≡ true → name_at text t.at ≡ t.text

pub tokens-named : (text : List ℕ) → All (NamedIn text) (tokens text)
tokens-named text = tokens-each text (NamedIn text) (λ _ w. absurd (false≢true w)) (λ at b s h. record {
  blank = λ _ w. absurd (false≢true w);
  quoted = λ _ w. absurd (false≢true w);
  fixed = λ _ w. absurd (false≢true w);
  wrong = λ w. absurd (false≢true w);
  name = λ _ _ _. ap (λ (u : List ℕ). take (run is_name_byte u) u) h;
  marks = λ w. absurd (false≢true w);
  numeral = λ w. absurd (false≢true w);
})

-- what holds of all tokens
pub parsed-tokens : (P : Token → Type 0) (text : List ℕ) {x : Spec} → All P (tokens text) → parsed text ≡ Done x → InSpec P x
parsed-tokens P text h e = value_of (parses e).read (spec_of_decides P (tokens text) h)
