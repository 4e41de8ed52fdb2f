-- A numeral's digits in the text: 'Tokens are read longest first', so all digits from its offset on.
use Rattle.std.specs.Prelude.{ℕ, List, take, drop}
use Rattle.language.specs.Bytes.{is_digit}
use Rattle.language.specs.Tokens.{run}

abbrev front : List ℕ → List ℕ
front s = take (run is_digit s) s

unfoldable pub digits_at : List ℕ → ℕ → List ℕ
digits_at text at = front (drop at text)
