-- `fit` meets its contract: what does not fit the table is not handed over, the rest is.
use Prim.Native.Nat.{ℕ}
use native.Mathlib.Omega.{arith}
use lib.ListN.{length-replicate}
use Rattle.rewriter.specs.FittingLaws.{fitted_none, fitted_some}
use Rattle.rewriter.proofs.fit.Goals as goal

pub returns-in_err-n : goal.returns-in_err-n
returns-in_err-n g c =
    rw c.from_residual.ensures (fitted_none _ c.args.out.now (length-replicate {A = ℕ} g.row.ENTRIES 0) c.in_err-n.was c.write_form.ensures)

pub returns : goal.returns
returns g c =
    fitted_some _ g.row.ENTRIES c.args.out.now _ (omega (arith, length-replicate {A = ℕ} g.row.ENTRIES 0, c.requires.1)) c.write_form.ensures c.in_ok-n.was
    c.hand_over.ensures
