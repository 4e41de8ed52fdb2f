-- Where a part of a tree starts, from where its first operand does.
use Rattle.std.specs.Prelude.{ℕ, List, [], ◌∷◌, ◌≡◌, eqb, get_or}
use Rattle.language.specs.Bytes.{if◌then◌otherwise◌}
use Rattle.language.specs.Tokens.{Token}
use Rattle.language.specs.Places.{start}
use Rattle.entries.specs.Kinds as Kind
use Rattle.traversal.specs.Parts.{Part, Whole, Binder}

-- by kind: 1 if the entry starts with its first operand, 0 if with its token, 2 for a big operator's name, which starts nothing: its kind stands in place of its start
abbrev pub starting : List ℕ
starting =
    0 ∷ 0 ∷ 0 ∷ 0 ∷ 0 ∷ 0 ∷ 0 ∷ 0 ∷ 0 ∷ 0 ∷ 0 ∷ 0 ∷ 0 ∷ 0 ∷ 1 ∷ 1 ∷
    1 ∷ 1 ∷ 1 ∷ 1 ∷ 1 ∷ 1 ∷ 1 ∷ 1 ∷ 1 ∷ 1 ∷ 1 ∷ 1 ∷ 1 ∷ 1 ∷ 1 ∷ 1 ∷
    1 ∷ 1 ∷ 1 ∷ 1 ∷ 0 ∷ 0 ∷ 0 ∷ 0 ∷ 0 ∷ 0 ∷ 0 ∷ 0 ∷ 0 ∷ 2 ∷ 2 ∷ 1 ∷
    1 ∷ 1 ∷ 1 ∷ 0 ∷ 1 ∷ 0 ∷ 0 ∷ 0 ∷ 0 ∷ 0 ∷ 0 ∷ 0 ∷ 0 ∷ 0 ∷ 0 ∷ 0 ∷ []

-- an entry of kind k whose token is at this place, and whose first operand starts at s
unfoldable pub start_of : ℕ → ℕ → ℕ → ℕ
start_of k place s =
    if eqb (get_or starting k 0) 1 then s otherwise (
    if eqb (get_or starting k 0) 2 then k otherwise place)

abbrev pub first_of : List ℕ → ℕ
first_of [] = 0
first_of (n ∷ ns) = n

abbrev pub start_part : {N : Type 0} → Part N → ℕ
start_part (Whole y e) = start e
start_part (Binder y further i s) = Kind.binder further

abbrev pub AtPlace : ℕ → Token → Type 0
AtPlace x t = x ≡ t.at
