-- What the word of entry k says: its kind, how many entries its expression takes, the place and the number of its token; and the kind of an expression's own entry.
use Rattle.std.specs.Prelude.{ℕ, ◌+◌, List}
use Rattle.words.specs.Words.{word_at}
use Rattle.lexer.specs.Stored.{number_in, offset_in}
use Rattle.language.specs.Tree.{Expr}
use Rattle.entries.specs.Stored.{first_entry, kind_of, index_of, size_of}
use Rattle.traversal.specs.Parts as Part

unfoldable pub kind_at : List ℕ → ℕ → ℕ
kind_at w k = kind_of (word_at w (first_entry + k))

unfoldable pub size_at : List ℕ → ℕ → ℕ
size_at w k = size_of (word_at w (first_entry + k))

unfoldable pub place_at : List ℕ → ℕ → ℕ
place_at w k = offset_in (word_at w (index_of (word_at w (first_entry + k))))

unfoldable pub number_at : List ℕ → ℕ → ℕ
number_at w k = number_in (word_at w (index_of (word_at w (first_entry + k))))

abbrev pub own_kind : Expr → ℕ
own_kind e = Part.kind_of {N = Unit {0}} (Part.Whole tt e)
