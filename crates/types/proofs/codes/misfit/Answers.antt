-- Whether an operand fits: each way through the definition.
use Rattle.types.specs.CodeLaws.{nowhere, here, fits_any, fits-definable, not-definable, fits_one, not-one}
use Rattle.types.proofs.codes.misfit.Goals as goal

pub returns-then-takes-eq-ANY : goal.returns-then-takes-eq-ANY
returns-then-takes-eq-ANY c = nowhere _ c.args.start (fits_any c.args.takes c.args.given c.if-takes-eq-ANY.true)

pub returns-then-given-lt-UNDEFINABLE : goal.returns-then-given-lt-UNDEFINABLE
returns-then-given-lt-UNDEFINABLE c =
    nowhere _ c.args.start (fits-definable c.args.takes c.args.given c.if-takes-eq-ANY.false c.if-takes-eq-DEFINABLE.true c.if-given-lt-UNDEFINABLE.true)

pub returns-then-takes-eq-DEFINABLE : goal.returns-then-takes-eq-DEFINABLE
returns-then-takes-eq-DEFINABLE c =
    here _ c.args.start (not-definable c.args.takes c.args.given c.if-takes-eq-ANY.false c.if-takes-eq-DEFINABLE.true c.if-given-lt-UNDEFINABLE.false)

pub returns-then-takes-given : goal.returns-then-takes-given
returns-then-takes-given c =
    nowhere _ c.args.start (fits_one c.args.takes c.args.given c.if-takes-eq-ANY.false c.if-takes-eq-DEFINABLE.false c.if-takes-given.true)

pub returns : goal.returns
returns c =
    here _ c.args.start (not-one c.args.takes c.args.given c.if-takes-eq-ANY.false c.if-takes-eq-DEFINABLE.false c.if-takes-given.false)
