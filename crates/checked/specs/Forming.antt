-- Refusals 5 to 10 of a stored tree, by what the stages answer one after another.
use Rattle.std.specs.Prelude.{ℕ, List, ◌≡◌, Ok, Err, Some, None}
use Rattle.std.proofs.Math.Option.{none}
use Rattle.std.proofs.Common.{subst}
use Rattle.node.specs.Result.{Done, Refused}
use Rattle.node.specs.declared.Refusal.{Refusal}
use Rattle.node.specs.Returned.{Returned, refusal}
use Rattle.language.specs.Tree.{Spec}
use Rattle.language.specs.Places.{too_deep}
use Rattle.language.specs.Types.{wrong_type}
use Rattle.language.specs.Words.{wrong_words}
use Rattle.traversal.specs.Places.{Place}
use Rattle.names.specs.Resolved.{Stored, naming, Resolved, Says, Answers}
use Rattle.depth.specs.Promise.{TooDeep}
use Rattle.types.specs.Running.{WrongType}
use Rattle.enumerations.specs.Promise.{WrongWords}
use Rattle.checked.specs.Checking.{Forms}
use Rattle.checked.specs.StoredLaws.{deep-place, type_place, words-place}
use Rattle.checked.specs.FormLaws.{found_at, found_none, deep-refused, names-refused, type-refused, words-refused, all-passed}

module _ {text w : List ℕ} {count m : ℕ} {x : Spec} (s : Stored text w count m x) (refs found : List ℕ) {deep : Place} (d : TooDeep w m deep) where
  pub too_deep_lem : {p : ℕ} → deep ≡ Some p → Forms x refs found (Err (refusal 5 p))
  too_deep_lem e = record { says = deep-refused x (found_at (too_deep x) (deep-place s d) e) }

  module _ (shallow : deep ≡ None) {r : Returned ℕ} (a : Answers x refs found r) where
    none_deep : too_deep x ≡ none
    none_deep = found_none (too_deep x) (deep-place s d) shallow

    pub not_named : {e : Refusal} → r ≡ Err e → Forms x refs found (Err e)
    not_named {e} q =
        let h : naming x ≡ Refused e.number e.place = subst (Says x refs found) q a.says in
        record { says = names-refused x none_deep h }

    module _ {n : ℕ} (e : r ≡ Ok n) where
      named : (naming x ≡ Done x) × Resolved x refs found n
      named = subst (Says x refs found) e a.says

      module _ {wrong : Place} (t : WrongType refs w m wrong) where
        pub wrong-typed : {p : ℕ} → wrong ≡ Some p → Forms x refs found (Err (refusal 9 p))
        wrong-typed q = record { says = type-refused x none_deep named.0 (found_at (wrong_type x) (type_place s named.1 t) q) }

        module _ (right : wrong ≡ None) where
          none_wrong : wrong_type x ≡ none
          none_wrong = found_none (wrong_type x) (type_place s named.1 t) right

          module _ {word : Place} (v : WrongWords text w m word) where
            pub wrong-worded : {p : ℕ} → word ≡ Some p → Forms x refs found (Err (refusal 10 p))
            wrong-worded q = record { says = words-refused x none_deep named.0 none_wrong (found_at (wrong_words x) (words-place s v) q) }

            pub all-formed : word ≡ None → Forms x refs found (Ok n)
            all-formed q =
                record { says = (all-passed x none_deep named.0 none_wrong (found_none (wrong_words x) (words-place s v) q), named.1) }
