-- `header_fits` meets its contract, test by test.
use borrow.Author.Tests.{lt-ltb, le-ltb, le-leb, lt-leb}
use Rattle.recordings.proofs.header_fits.Goals as goal

pub returns-then-lasso : goal.returns-then-lasso
returns-then-lasso c =
    simp (lt-ltb _ _ c.if-lasso-gt0.true, le-leb _ _ c.if-lasso-le-MAX_POSITIONS.true, lt-ltb _ _ c.if-lasso.true)

pub returns-else-lasso : goal.returns-else-lasso
returns-else-lasso c =
    simp (lt-ltb _ _ c.if-lasso-gt0.true, le-leb _ _ c.if-lasso-le-MAX_POSITIONS.true, le-ltb _ _ c.if-lasso.false)

pub returns-else-lasso-le-MAX_POSITIONS : goal.returns-else-lasso-le-MAX_POSITIONS
returns-else-lasso-le-MAX_POSITIONS c =
    simp (lt-ltb _ _ c.if-lasso-gt0.true, lt-leb _ _ c.if-lasso-le-MAX_POSITIONS.false)

pub returns-else-lasso-gt0 : goal.returns-else-lasso-gt0
returns-else-lasso-gt0 c =
    simp (le-ltb _ _ c.if-lasso-gt0.false)
