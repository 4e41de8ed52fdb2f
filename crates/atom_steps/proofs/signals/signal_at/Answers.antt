use native.Mathlib.Omega.{arith}
use Rattle.atom_steps.specs.SignalLaws.{signalled_past, signalled}
use Rattle.atom_steps.proofs.signals.signal_at.Goals as goal

pub returns-then-at-gt-MAX_NODES : goal.returns-then-at-gt-MAX_NODES
returns-then-at-gt-MAX_NODES c =
    let at-if1 = c.if-at-gt-MAX_NODES in
    signalled_past at-if1.true (omega arith)

pub overflow_add-memory : goal.overflow_add-memory
overflow_add-memory c =
    let at-if1 = c.if-at-gt-MAX_NODES in
    omega (arith, c.requires.1 at-if1.false)

pub signal-requires : goal.signal-requires
signal-requires c =
    let at-if1 = c.if-at-gt-MAX_NODES in
    c.requires.1 at-if1.false

pub returns : goal.returns
returns c =
    let at-if1 = c.if-at-gt-MAX_NODES in
    let at-signal = c.signal in
    signalled at-if1.false at-signal.ensures
