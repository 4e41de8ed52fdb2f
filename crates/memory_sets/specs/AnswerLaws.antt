-- Laws of answers: a set at an address or a refusal.
use Rattle.std.specs.Prelude.{ℕ, suc, ◌+◌, ◌≤◌, ◌<◌, ◌≡◌, refl, List, ◌++◌, length, take, drop, Ok, Err}
use Rattle.std.proofs.Common.{ap, ◌∙◌, arith}
use Rattle.node.specs.Result.{Result, Done}
use Rattle.node.specs.Returned.{Returned, refusal}
use Rattle.language.specs.Limits.{max_elements}
use Rattle.language.specs.Values.{limited}
use Rattle.sets.specs.Answers.{elements, count, SetIs}
use Rattle.sets.specs.ListingLaws.{limited-over, limited-within}
use Rattle.sets.specs.SelectionLaws.{selected_limited}
use Rattle.memory_sets.specs.Places.{SetAt, ListedAt, SelectedAt}
use Rattle.memory_sets.specs.PlaceLaws.{outside-within, part-words, part-outside}

-- a set's room was lent, and a set or a refusal came of it
pub part-set : (mem : List ℕ) (at k : ℕ) (part : List ℕ) (r : Returned ℕ) (s : Result (List ℕ)) → k ≡ suc max_elements → at + k ≤ length mem → length part ≡ k → SetIs r part s →
    SetAt mem (take at mem ++ (part ++ drop k (drop at mem))) at r s
part-set mem at k part r s e fits size h = record { set = record { says = same r h.few ∙ h.says; few = h.few }; kept = outside-within (omega arith) (omega arith) (part-outside mem at k part fits size) }
  where
    same : (r : Returned ℕ) → count r ≤ max_elements → elements r (drop at (take at mem ++ (part ++ drop k (drop at mem)))) ≡ elements r part
    same (Ok n) l = ap Done (part-words mem at k part fits size n (omega arith))
    same (Err r) l = refl

-- a set that was listed, within the limit or not; one that was selected
module _ (place : ℕ) {mem mem' : List ℕ} {to n : ℕ} {s : List ℕ} where
  pub listed-over : ListedAt mem mem' to n s → max_elements < n → SetAt mem mem' to (Err (refusal 12 place)) (limited place s)
  listed-over h l = record { set = limited-over place _ _ s h.listing _ l; kept = h.kept }

  pub listed-within : ListedAt mem mem' to n s → n ≤ max_elements → SetAt mem mem' to (Ok n) (limited place s)
  listed-within h l = record { set = limited-within place _ _ s h.listing l; kept = h.kept }

  pub selected_within : SelectedAt mem mem' to n s → SetAt mem mem' to (Ok n) (limited place s)
  selected_within h = record { set = selected_limited place s _ n h.selected; kept = h.kept }
