use Rattle.storing.specs.StoringLaws.{unary_full, unary-wrote, end, binary_full, binary_full_right, binary-wrote, ends}
use Rattle.form_writers.proofs.copy.+copy_copy_both_copy_one.Goals as goal

pub copy_both-returns-in_err-m : goal.copy_both-returns-in_err-m
copy_both-returns-in_err-m t c = binary_full _ _ _ c.in_err-m.was c.from_residual.ensures c.copy.ensures

pub copy_both-returns-in_err-n : goal.copy_both-returns-in_err-n
copy_both-returns-in_err-n t c =
    binary_full_right _ _ _ c.in_err-n.was c.from_residual-in_err-n.ensures (c.copy.ensures.stored _ c.in_ok-m.was) c.copy-2.ensures

pub copy_both-join-requires : goal.copy_both-join-requires
copy_both-join-requires t c =
    ends _ _ _ c.requires.binary.small c.requires.ready.room (c.copy.ensures.stored _ c.in_ok-m.was) (c.copy-2.ensures.stored _ c.in_ok-n.was)

pub copy_both-returns : goal.copy_both-returns
copy_both-returns t c =
    binary-wrote _ _ _ (c.copy.ensures.stored _ c.in_ok-m.was) (c.copy-2.ensures.stored _ c.in_ok-n.was) c.requires.binary.number c.join.ensures

pub copy_one-returns-in_err-m : goal.copy_one-returns-in_err-m
copy_one-returns-in_err-m t c = unary_full _ _ c.in_err-m.was c.from_residual.ensures c.copy.ensures

pub copy_one-cap-requires : goal.copy_one-cap-requires
copy_one-cap-requires t c = end _ _ c.requires.unary.small c.requires.ready.room (c.copy.ensures.stored _ c.in_ok-m.was)

pub copy_one-returns : goal.copy_one-returns
copy_one-returns t c = unary-wrote _ _ (c.copy.ensures.stored _ c.in_ok-m.was) c.requires.unary.number c.cap.ensures
