-- `formed` meets its contract: each stage's answer in the order of the refusals.
use Rattle.node.proofs.ReturnedLaws.{raised}
use Rattle.checked.specs.Forming.{too_deep_lem, not_named, wrong-typed, wrong-worded, all-formed}
use Rattle.checked.proofs.formed.Goals as goal

pub returns-in-Some : goal.returns-in-Some
returns-in-Some c =
    λ x s. too_deep_lem s _ _ c.too_deep.ensures c.in-Some.is

pub returns-in_err-names : goal.returns-in_err-names
returns-in_err-names c =
    λ x s. rw (raised c.from_residual.ensures) (not_named s _ _ c.too_deep.ensures c.in_default.is (c.resolve.ensures x s) c.in_err-names.was)

pub returns-in-Some-wrong_type : goal.returns-in-Some-wrong_type
returns-in-Some-wrong_type c =
    λ x s.
    wrong-typed s _ _ c.too_deep.ensures c.in_default.is (c.resolve.ensures x s) c.in_ok-names.was
    c.wrong_type.ensures c.in-Some-wrong_type.is

pub returns-in-Some-wrong_words : goal.returns-in-Some-wrong_words
returns-in-Some-wrong_words c =
    λ x s.
    wrong-worded s _ _ c.too_deep.ensures c.in_default.is (c.resolve.ensures x s) c.in_ok-names.was
    c.wrong_type.ensures
    c.in_default-wrong_type.is c.wrong_words.ensures c.in-Some-wrong_words.is

pub returns : goal.returns
returns c =
    λ x s.
    all-formed s _ _ c.too_deep.ensures c.in_default.is (c.resolve.ensures x s) c.in_ok-names.was
    c.wrong_type.ensures
    c.in_default-wrong_type.is c.wrong_words.ensures c.in_default-wrong_words.is
