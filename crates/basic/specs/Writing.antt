-- The writer's whole answer on a text and its buffers' lengths, in the order of refusals (document 02, F-1: 17, 1 to 16, 22, 18).
use Rattle.std.specs.Prelude.{ℕ, suc, Bool, true, false, not, ◌&&◌, ◌||◌, List, [], ◌∷◌, ◌++◌, leb, length, drop}
use Rattle.std.proofs.Math.Option.{Option, none, some}
use Rattle.basics.specs.Told.{max_told}
use Rattle.node.specs.Result.{Result, Done, Refused, ◌>>=◌, guard}
use Rattle.language.specs.Limits.{max_name, work_bytes}
use Rattle.language.specs.Bytes.{same}
use Rattle.language.specs.Places.{refuse_at}
use Rattle.language.specs.Parsing.{parsed}
use Rattle.language.specs.Reading.{spec_expansion}
use Rattle.basic.specs.Spelling.{names_of}
use Rattle.basic.specs.Basic.{basic_text}

-- is the name among those before it?
abbrev pub taken : (before : List (List ℕ)) → List ℕ → Bool
taken [] n = false
taken (b ∷ bs) n = same b n || taken bs n

-- 22: the smallest signal number whose name is longer than 64 bytes or equals that of a smaller number; k is the first name's
abbrev pub fault_from : (before : List (List ℕ)) → ℕ → List (List ℕ) → Option ℕ
fault_from before k [] = none
fault_from before k (n ∷ ns) =
    elim (leb (length n) max_name && not (taken before n)) [ true ↦ fault_from (n ∷ before) (suc k) ns | false ↦ some k ]

-- what the text alone decides
unfoldable pub written : List ℕ → Result (List ℕ)
written text =
    parsed text >>= λ x. spec_expansion x >>= λ c.
    refuse_at 22 (fault_from [] 0 (names_of text c.signals)) (Done (basic_text x.target text c))

-- 18: the bytes do not fit the lent buffer, or are more than an answer can tell
abbrev pub fits : (room : ℕ) → List ℕ → Bool
fits room s = leb (length s) room && leb (length s) max_told

-- 17, then 1 to 16 and 22, then 18
unfoldable pub writing : List ℕ → (work room : ℕ) → Result (List ℕ)
writing text work room = guard (leb work_bytes work) 17 0 (written text >>= λ s. guard (fits room s) 18 0 (Done s))

-- 'The text is the only result, its bytes the answer's count'
abbrev pub bytes_told : Result (List ℕ) → Result ℕ
bytes_told r = r >>= λ s. Done (length s)

-- the lent buffer: bytes past the text stay, and a refused call changes none
abbrev pub text_after : Result (List ℕ) → List ℕ → List ℕ
text_after (Done s) out = s ++ drop (length s) out
text_after (Refused n p) out = out
