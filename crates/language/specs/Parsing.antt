-- Refusals 1 to 10: from a text's bytes to its tree (document 01, 'Refusals with their places').
use Rattle.std.specs.Prelude.{ℕ, suc, List, [], ◌∷◌, true, false, leb, length, drop}
use Rattle.std.proofs.Math.Option.{Option, none, some}
use Rattle.node.specs.Result.{Result, Done, ◌>>=◌, guard}
use Rattle.language.specs.Limits.{max_bytes, max_tokens}
use Rattle.language.specs.Bytes.{if◌then◌otherwise◌}
use Rattle.language.specs.Tokens.{Token, Wrong, is_of, tokens}
use Rattle.language.specs.Tree.{Spec}
use Rattle.language.specs.Sections.{spec_of}
use Rattle.language.specs.Places.{refuse_at, too_deep}
use Rattle.language.specs.Names.{not_visible, declared_again, too_many, place_of_first}
use Rattle.language.specs.Types.{wrong_type}
use Rattle.language.specs.Words.{wrong_words}

-- refusal 2: the place of the first byte that begins no token, or of what is not closed
abbrev pub no_token : List Token → Option ℕ
no_token [] = none
no_token (t ∷ ts) = elim (is_of Wrong t) [ true ↦ some t.at | false ↦ no_token ts ]

-- the list ends with a token for the text's end, which is not counted
abbrev pub too_many_tokens : List Token → Option ℕ
too_many_tokens ts = if leb (length ts) (suc max_tokens) then none otherwise place_of_first (drop max_tokens ts)

-- refusals 5 to 10, 'each over the whole text, first place first'
abbrev pub well_formed : Spec → Result Spec
well_formed x =
    refuse_at 5 (too_deep x) (refuse_at 6 (not_visible x) (refuse_at 7 (declared_again x) (refuse_at 8 (too_many x)
    (refuse_at 9 (wrong_type x) (refuse_at 10 (wrong_words x) (Done x))))))

-- refusals 1 to 10: a text's tree
unfoldable pub parsed : List ℕ → Result Spec
parsed text =
    guard (leb (length text) max_bytes) 1 max_bytes
    (let ts = tokens text in
    refuse_at 2 (no_token ts) (refuse_at 3 (too_many_tokens ts) (spec_of ts >>= well_formed)))
