-- A set word by word; the definitions' sets ascend within the limits.
use Rattle.std.specs.Prelude.{ℕ, ◌+◌, ◌≤◌, ◌<◌, ◌≡◌, List, [], ◌∷◌, length, get_or, take, drop}
use Rattle.std.proofs.Common.{sym, ap, ◌∙◌, length-take, length-drop, length-take-le, get_or-take, get_or-drop, ext_get_or, arith, le-leb}
use Rattle.node.specs.Result.{Done}
use Rattle.node.proofs.ResultLaws.{guard-pass}
use Rattle.language.specs.Limits.{max_number, max_elements}
use Rattle.language.specs.Operators.{Combination, Cap}
use Rattle.language.specs.Sets.{member_of, combine}
use Rattle.language.specs.Values.{limited}
use Rattle.language.proofs.Laws.Basics.Lists.{All}
use Rattle.language.proofs.Laws.Basics.Results.{Within}
use Rattle.language.proofs.Laws.Values.SetLaws.{Ascending, insert_ascending, keep_fewer, combine_ascending}
use Rattle.language.proofs.Laws.Values.ValueLaws.{SaneNumber, SaneSet, limited_sane}
use Rattle.memory_sets.specs.declared.Span.{Span}
use Rattle.memory_sets.specs.Places.{elements_at, Two}
use Rattle.memory_sets.specs.Sorting.{set_of}

-- a set's words from its elements, and its elements from its words
pub words_of_lem : (mem : List ℕ) (s : Span) (l : List ℕ) → elements_at mem s ≡ l → (i : ℕ) → i < length l → get_or mem (s.at + i) 0 ≡ get_or l i 0
words_of_lem mem s l e i u =
    let size = ap length e in
    let most = length-take s.count (drop s.at mem) in
    sym (get_or-drop s.at mem i 0) ∙ sym (get_or-take s.count (drop s.at mem) i 0 (omega arith)) ∙ ap (λ r. get_or r i 0) e

pub elements_of : (mem : List ℕ) (at : ℕ) (l : List ℕ) → at + length l ≤ length mem → ((i : ℕ) → i < length l → get_or mem (at + i) 0 ≡ get_or l i 0) → take (length l) (drop at mem) ≡ l
elements_of mem at l fits h = ext_get_or 0 _ _ size (λ i u. word i (omega (arith, size, u)))
  where
    size : length (take (length l) (drop at mem)) ≡ length l
    size = length-take-le (length l) (drop at mem) (rw length-drop (omega arith))

    word : (i : ℕ) → i < length l → get_or (take (length l) (drop at mem)) i 0 ≡ get_or l i 0
    word i u = get_or-take (length l) (drop at mem) i 0 u ∙ get_or-drop at mem i 0 ∙ h i u

-- an intersection is within the limit
pub cap_limited : (place : ℕ) (s t : List ℕ) → length s ≤ max_elements → limited place (combine Cap s t) ≡ Done (combine Cap s t)
cap_limited place s t few =
    guard-pass 12 place (Done (combine Cap s t)) (le-leb (length (combine Cap s t)) max_elements (omega (arith, few, keep_fewer (member_of t) s)))

-- the definitions' sets are (ranges and bounds: the language's `range_sane` and `between_sane`)
pub combine_sane : (place : ℕ) (o : Combination) {mem : List ℕ} {l r : Span} {to : ℕ} → Two mem l r to → Within SaneSet (limited place (combine o (elements_at mem l) (elements_at mem r)))
combine_sane place o {mem} {l} {r} two =
    let left = elements_at mem l in
    let right = elements_at mem r in
    limited_sane place (combine o left right) (combine_ascending o 0 max_number left right two.left.ascends two.right.ascends)

set_of_ascending : (s : List ℕ) → All SaneNumber s → Ascending 0 max_number (set_of s)
set_of_ascending [] h = tt
set_of_ascending (x ∷ s) h = insert_ascending 0 max_number x (set_of s) (omega arith) h.0 (set_of_ascending s h.1)

pub set_of_sane : (place : ℕ) (s : List ℕ) → All SaneNumber s → Within SaneSet (limited place (set_of s))
set_of_sane place s h = limited_sane place (set_of s) (set_of_ascending s h)
