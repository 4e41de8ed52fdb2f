-- Words that are short enough for a row.
use Rattle.std.specs.Prelude.{◌≤◌, length}
use Rattle.language.specs.Limits.{max_marks}
use Rattle.language.specs.Tokens.{Token}

-- a word within document 01's limit
abbrev pub Short : Token → Type 0
Short t = length t.text ≤ max_marks
