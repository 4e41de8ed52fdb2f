-- What a token's word holds can be read back, and words stored elsewhere do not disturb it.
use Rattle.std.specs.Prelude.{ℕ, ◌^◌, ◌<◌, min, ◌≡◌, length}
use Rattle.std.proofs.Math.Path.{ap}
use Rattle.std.proofs.Common.{◌∙◌}
use native.Mathlib.Omega.{arith}
use Rattle.node.specs.BitFields.{above, below}
use Rattle.node.proofs.FieldLaws.{above_join, below-join}
use Rattle.language.specs.Tokens.{Token}
use Rattle.lexer.specs.Numbers.{number}
use Rattle.lexer.specs.Stored.{offset_bits, length_bits, longest, token_word, number_in, offset_in, length_in}

length-fits : (n : ℕ) → min longest n < 2 ^ length_bits
length-fits n = omega arith

-- a token that lies in the first 65,536 bytes
module _ (t : Token) (near : t.at < 2 ^ offset_bits) where
  pub number_word : number_in (token_word t) ≡ number t
  unfolding token_word
  number_word = ap (above offset_bits) (above_join length_bits _ (length-fits (length t.text))) ∙ above_join offset_bits (number t) near

  pub offset_word : offset_in (token_word t) ≡ t.at
  unfolding token_word
  offset_word = ap (below offset_bits) (above_join length_bits _ (length-fits (length t.text))) ∙ below-join offset_bits (number t) near

  pub length-word : length_in (token_word t) ≡ min longest (length t.text)
  unfolding token_word
  length-word = below-join length_bits _ (length-fits (length t.text))

  pub word_fits : number t < 2 ^ 8 → token_word t < 2 ^ 32
  unfolding token_word
  word_fits h = let l = length-fits (length t.text) in omega arith
