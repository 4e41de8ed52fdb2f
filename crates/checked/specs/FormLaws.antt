-- Refusals 5 to 10 in their order, from what each stage answers.
use Rattle.std.specs.Prelude.{ℕ, ◌≡◌, refl, Some, None}
use Rattle.std.proofs.Math.Option.{Option, none, some}
use Rattle.std.proofs.Common.{sym, ◌∙◌}
use Rattle.std.proofs.Math.Path.{ap}
use Rattle.node.specs.Result.{Result, Done, Refused, ◌>>=◌}
use Rattle.node.proofs.ResultLaws.{bind_at}
use Rattle.language.specs.Tree.{Spec}
use Rattle.language.specs.Places.{refuse_at, too_deep}
use Rattle.language.specs.Names.{not_visible, declared_again, too_many}
use Rattle.language.specs.Types.{wrong_type}
use Rattle.language.specs.Words.{wrong_words}
use Rattle.language.specs.Parsing.{well_formed}
use Rattle.traversal.specs.Places.{Place, placed, place_in}
use Rattle.traversal.specs.PlaceLaws.{place-placed}
use Rattle.names.specs.Resolved.{naming}

-- what a stage has found
found : {r s : Place} (o : Option ℕ) → r ≡ placed o → r ≡ s → o ≡ place_in s
found o h e = sym (place-placed o) ∙ ap place_in (sym h ∙ e)

pub found_at : {r : Place} {p : ℕ} (o : Option ℕ) → r ≡ placed o → r ≡ Some p → o ≡ some p
unfolding place_in
found_at o h e = found o h e

pub found_none : {r : Place} (o : Option ℕ) → r ≡ placed o → r ≡ None → o ≡ none
unfolding place_in
found_none o h e = found o h e

-- a place is refused, and without one the next is asked
refuse : {A : Type 0} (n : ℕ) {p : ℕ} {o : Option ℕ} (r : Result A) → o ≡ some p → refuse_at n o r ≡ Refused n p
unfolding refuse_at
refuse n r e = ap (λ o. refuse_at n o r) e

pass : {A : Type 0} (n : ℕ) {o : Option ℕ} (r : Result A) → o ≡ none → refuse_at n o r ≡ r
unfolding refuse_at
pass n r e = ap (λ o. refuse_at n o r) e

then : {A B : Type 0} (n : ℕ) (o : Option ℕ) (r : Result A) (k : A → Result B) → refuse_at n o (r >>= k) ≡ refuse_at n o r >>= k
unfolding refuse_at ◌>>=◌
then n none r k = refl
then n (some p) r k = refl

-- 9 and 10
abbrev late : Spec → Result Spec
late x = refuse_at 9 (wrong_type x) (refuse_at 10 (wrong_words x) (Done x))

-- 6 to 8, then 9 and 10
named_then : (x : Spec) → refuse_at 6 (not_visible x) (refuse_at 7 (declared_again x) (refuse_at 8 (too_many x) (late x))) ≡ naming x >>= late
named_then x =
    ap (λ r. refuse_at 6 (not_visible x) (refuse_at 7 (declared_again x) r)) (ap (refuse_at 8 (too_many x)) (sym (bind_at x late)) ∙ then 8 (too_many x) (Done x) late)
    ∙ ap (refuse_at 6 (not_visible x)) (then 7 (declared_again x) _ late) ∙ then 6 (not_visible x) _ late

module _ (x : Spec) where
  pub deep-refused : {p : ℕ} → too_deep x ≡ some p → well_formed x ≡ Refused 5 p
  deep-refused d = refuse 5 _ d

  module _ (d : too_deep x ≡ none) where
    shallow : well_formed x ≡ naming x >>= late
    shallow = pass 5 _ d ∙ named_then x

    pub names-refused : {n p : ℕ} → naming x ≡ Refused n p → well_formed x ≡ Refused n p
    unfolding ◌>>=◌
    names-refused e = shallow ∙ ap (λ r. r >>= late) e

    module _ (e : naming x ≡ Done x) where
      named : well_formed x ≡ late x
      unfolding ◌>>=◌
      named = shallow ∙ ap (λ r. r >>= late) e

      pub type-refused : {p : ℕ} → wrong_type x ≡ some p → well_formed x ≡ Refused 9 p
      type-refused t = named ∙ refuse 9 _ t

      pub words-refused : {p : ℕ} → wrong_type x ≡ none → wrong_words x ≡ some p → well_formed x ≡ Refused 10 p
      words-refused t v = named ∙ pass 9 _ t ∙ refuse 10 _ v

      pub all-passed : wrong_type x ≡ none → wrong_words x ≡ none → well_formed x ≡ Done x
      all-passed t v = named ∙ pass 9 _ t ∙ pass 10 _ v
