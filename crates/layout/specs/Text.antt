-- The whole text as it is written: INFO and the lists around the formula's text.
use Rattle.std.specs.Prelude.{ℕ, zero, suc, ◌+◌, ◌*◌, ◌<◌, ◌≤◌, min, ◌≡◌, true, false, List, [], ◌∷◌, ◌++◌, eqb, length, get_or}
use Rattle.node.specs.Ltl.{Formula}
use Rattle.node.specs.Result.{Result, Done, guard, ◌>>=◌}
use Rattle.node.specs.Returned.{Returned}
use Rattle.node.specs.Table.{root}
use Rattle.basics.specs.Told.{max_told}
use Rattle.language.specs.Limits.{max_name}
use Rattle.language.specs.Bytes.{ascii}
use Rattle.language.specs.Places.{refuse_at}
use Rattle.language.specs.Tree.{Model, Mealy, Moore}
use Rattle.language.specs.Numbered.{flag_of}
use Rattle.basic.specs.Answer.{tells}
use Rattle.basic.specs.Spelling.{names_of, side_of}
use Rattle.basic.specs.Basic.{basic_tokens, parted}
use Rattle.basic.specs.Writing.{fits, fault_from, bytes_told, text_after}
use Rattle.signal_names.specs.Promise.{slot_bytes}
use Rattle.layout.specs.Layout.{layout, weight, nth}

-- a model by its code
abbrev pub model_of : ℕ → Model
model_of zero = Mealy
model_of (suc n) = Moore

abbrev pub head_text : Model → List ℕ
head_text Mealy = ascii "INFO { TITLE : \"converted\" DESCRIPTION : \"converted\" SEMANTICS : Mealy TARGET : Mealy } MAIN { INPUTS { "
head_text Moore = ascii "INFO { TITLE : \"converted\" DESCRIPTION : \"converted\" SEMANTICS : Moore TARGET : Moore } MAIN { INPUTS { "

abbrev pub outputs_text : List ℕ
outputs_text = ascii "} OUTPUTS { "

abbrev pub guarantee_text : List ℕ
guarantee_text = ascii "} GUARANTEE { "

abbrev pub end_text : List ℕ
end_text = ascii "; } }"

-- what stands after a name
abbrev pub line_end : List ℕ
line_end = ascii " ; "

-- an entry's line, in the list of its direction
abbrev pub line_of : (name : ℕ → List ℕ) (flag : ℕ) → ℕ → ℕ → List ℕ
line_of name flag k e = elim (eqb (flag_of e) flag) [ true ↦ name k ++ line_end | false ↦ [] ]

-- the lines of the entries from number k on
unfoldable pub lines_from : (name : ℕ → List ℕ) (flag : ℕ) → ℕ → List ℕ → List ℕ
lines_from name flag k [] = []
lines_from name flag k (e ∷ es) = line_of name flag k e ++ lines_from name flag (suc k) es

abbrev pub line_size : (flag e size : ℕ) → ℕ
line_size flag e size = elim (eqb (flag_of e) flag) [ true ↦ size + length line_end | false ↦ 0 ]

-- the longest line
abbrev pub max_line : ℕ
max_line = max_name + length line_end

unfoldable pub lines_size : (size : ℕ → ℕ) (flag : ℕ) → ℕ → List ℕ → ℕ
lines_size size flag k [] = 0
lines_size size flag k (e ∷ es) = line_size flag e (size k) + lines_size size flag (suc k) es

abbrev pub text_of : Model → (name : ℕ → List ℕ) (list : List ℕ) → Formula → List ℕ
text_of m name list f =
    head_text m ++ (lines_from name 0 0 list ++ (outputs_text ++ (lines_from name 1 0 list ++ (guarantee_text ++ (layout name f ++ end_text)))))

-- bytes of INFO and the words between the lists
abbrev pub fixed_size : ℕ
fixed_size = length (head_text Mealy) + length outputs_text + length guarantee_text + length end_text

-- what the code's constants stand for, in their order
abbrev pub fixed_sizes : List ℕ
fixed_sizes = length (head_text Mealy) ∷ length outputs_text ∷ length guarantee_text ∷ length end_text ∷ length line_end ∷ fixed_size ∷ []

-- slot k has a name
pub record Listed (names sizes : List ℕ) (k : ℕ) : Type 0 where
  pub sized : k < length sizes
  pub small : get_or sizes k 0 ≤ max_name
  pub room : slot_bytes * k + max_name ≤ length names

-- the size that is told
pub record Sizes (sizes list : List ℕ) (f : Formula) (r : ℕ) : Type 0 where
  pub is : r ≡ fixed_size + lines_size (nth sizes) 0 0 list + lines_size (nth sizes) 1 0 list + min max_told (weight (nth sizes) f)
  pub small : r ≤ 2 * max_told

-- an answer and the lent buffer after it, of what the definition gives
pub record Delivers (r : Result (List ℕ)) (out out' : List ℕ) (w : Returned ℕ) : Type 0 where
  pub answer : tells w ≡ bytes_told r
  pub text_left : out' ≡ text_after r out

-- 18
abbrev pub handed : (room : ℕ) → List ℕ → Result (List ℕ)
handed room s = guard (fits room s) 18 0 (Done s)

-- 22, then 18: what a text's list and nodes give
abbrev pub outcome : (room : ℕ) (text : List ℕ) → Model → (list nodes : List ℕ) → Result (List ℕ)
outcome room text m list nodes =
    refuse_at 22 (fault_from [] 0 (names_of text list)) (Done (parted (basic_tokens m (side_of false text list) (side_of true text list) (names_of text list) (root nodes)))) >>= handed room
