use mathlib.Core.Path.{sym, ◌∙◌}
use native.Mathlib.Omega.{arith}
use Rattle.language.specs.Bytes.{is_name_byte}
use Rattle.signal_names.specs.NameLaws.{run_on, run-stop, run_end}
use Rattle.signal_names.proofs.name_size.Goals as goal

pub returns-then-not-is_name_byte : goal.returns-then-not-is_name_byte
returns-then-not-is_name_byte c =
    omega (arith, c.loop-i.invariant.1, run-stop is_name_byte c.args.text.now c.loop-i.i (omega arith) (sym c.is_name_byte.ensures ∙ c.if-not-is_name_byte.true))

pub loop-i-preserved : goal.loop-i-preserved
loop-i-preserved c = (
  (omega arith, omega arith),
  omega (
    arith,
    c.loop-i.invariant.1,
    run_on is_name_byte c.args.text.now c.loop-i.i (omega arith)
        (sym c.is_name_byte.ensures ∙ c.if-not-is_name_byte.false),
  ),
)

pub returns : goal.returns
returns c =
    omega (arith, c.loop-i.invariant.1, run_end is_name_byte c.args.text.now c.loop-i.i (omega arith))
