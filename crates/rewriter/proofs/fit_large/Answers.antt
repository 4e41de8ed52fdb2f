-- `fit_large` meets its contract: what fits is handed over, the rest is refused by 16.
use native.Mathlib.Omega.{arith}
use Rattle.rewriter.specs.FittingLaws.{fitted_many}
use Rattle.rewriter.proofs.fit_large.Goals as goal

pub fit-requires : goal.fit-requires
fit-requires c = (c.requires, omega arith)

pub returns-in-Some : goal.returns-in-Some
returns-in-Some c = c.fit.ensures.fitted _ c.in-Some.is

pub returns-in-None : goal.returns-in-None
returns-in-None c = fitted_many _ c.fit.ensures c.in-None.is
