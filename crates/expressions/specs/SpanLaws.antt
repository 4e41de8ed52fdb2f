-- The last trees of the entries: where they begin, and that there are so many.
use Rattle.std.specs.Prelude.{ℕ, zero, suc, ◌+◌, ◌-◌, List, [], ◌∷◌, ◌++◌, ◌≡◌, refl, length}
use Rattle.std.proofs.Common.{append_assoc, append-nil, sym, ap, ◌∙◌, subst}
use Rattle.language.specs.Grammar.{Tokens}
use Rattle.language.proofs.Laws.Basics.Lists.{All as Every}
use Rattle.entries.specs.Flat.{Entry}
use Rattle.entries.specs.Stored.{EntriesFrom}
use Rattle.entries.specs.StoredLaws.{entries-left}
use Rattle.expressions.specs.Stack.{Rooted, size_at, start_of, Trees}
use Rattle.expressions.specs.StackLaws.{trees_more, start-more}
use Rattle.expressions.specs.States.{behind}

-- trees behind entries
pub behind-append : (P : List Entry) (css : List (List Entry)) → behind P css ≡ P ++ behind [] css
behind-append P [] = sym (append-nil P)
behind-append P (c ∷ css) = behind-append (P ++ c) css ∙ append_assoc P c (behind [] css) ∙ ap (λ l. P ++ l) (sym (behind-append c css))

behind-left : (w : List ℕ) (ts : Tokens) (o : ℕ) (P : List Entry) (css : List (List Entry)) → EntriesFrom w ts o (behind P css) → EntriesFrom w ts o P
behind-left w ts o P [] h = h
behind-left w ts o P (c ∷ css) h = entries-left w ts o P c (behind-left w ts o (P ++ c) css h)

trees_snoc : (w : List ℕ) (out n : ℕ) → Trees w out n → Trees w (start_of w out n) 1 → Trees w out (suc n)
trees_snoc w out zero h g = g
trees_snoc w out (suc n) h g = (h.0, h.1, trees_snoc w (out - size_at w out) n h.2 g)

start_snoc : (w : List ℕ) (out n : ℕ) → start_of w out (suc n) ≡ start_of w (start_of w out n) 1
start_snoc w out zero = refl
start_snoc w out (suc n) = start_snoc w (out - size_at w out) n

-- the last trees of the entries, the complete one and those before it
pub spans : (w : List ℕ) (ts : Tokens) (o out : ℕ) (P : List Entry) (css : List (List Entry)) (A : List Entry) → Every Rooted css → Rooted A → out ≡ o + length (behind P css ++ A)
    → EntriesFrom w ts o (behind P css ++ A)
    → Trees w out (suc (length css)) × (start_of w out (suc (length css)) ≡ o + length P)
spans w ts o out P [] A firm rooted at h = (trees_more w ts o out P A rooted at h 0 tt, start-more w ts o out P A rooted at h 0)
spans w ts o out P (c ∷ css) A firm rooted at h =
    let later = spans w ts o out (P ++ c) css A firm.1 rooted at h in
    let front = entries-left w ts o (behind (P ++ c) css) A h in
    let here = behind-left w ts o (P ++ c) css front in
    let one = trees_more w ts o (o + length (P ++ c)) P c firm.0 refl here 0 tt in
    let begins = start-more w ts o (o + length (P ++ c)) P c firm.0 refl here 0 in (
      trees_snoc w out (suc (length css)) later.0 (subst (λ i. Trees w i 1) (sym later.1) one),
      start_snoc w out (suc (length css)) ∙ ap (λ i. start_of w i 1) later.1 ∙ begins,
    )
