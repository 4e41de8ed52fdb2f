use mathlib.Core.Path.{sym, ap, ◌∙◌}
use native.Mathlib.Omega.{arith}
use Rattle.entries.specs.Stored.{kind_of, size_of}
use Rattle.notes.specs.Chosen.{choice, takes}
use Rattle.notes.specs.ChoosingLaws.{choosing-heading, choosing-skip, choosing-take}
use Rattle.notes.proofs.choose.choose.Goals as goal
use Rattle.notes.proofs.choose.choose.Goals.{then-takes, else-takes}

pub loop-i-preserved-then-kind-eq-HEADING : goal.loop-i-preserved-then-kind-eq-HEADING
loop-i-preserved-then-kind-eq-HEADING c = record {
  few = omega arith;
  chosen = λ ts es h t. choosing-heading _ ts _ _ es _ _ c.loop-i.heading c.loop-i.i c.loop-i.at c.loop-i.order c.loop-i-test.true
      (c.loop-i.invariant.chosen ts es h t) _ (ap kind_of (sym c.entry_word-word.ensures) ∙ c.if-kind-eq-HEADING.true) (ap size_of c.entry_word-word.ensures);
}

pub loop-i-preserved : goal.loop-i-preserved
loop-i-preserved c =
    let kind = ap (takes (choice c.args.wanted c.args.low c.args.high) c.loop-i.heading) (ap kind_of (sym c.entry_word-word.ensures)) ∙ sym c.takes.ensures in
    elim c.if-takes.branch [
      | then-takes w ↦ record {
        few = omega arith;
        chosen = λ ts es h t. rw (w.order-is, w.at-is, w.store.ensures)
            (choosing-take _ ts _ _ es _ _ c.loop-i.heading c.loop-i.i c.loop-i.at c.loop-i.order c.loop-i-test.true
            (c.loop-i.invariant.chosen ts es h t) (λ e. c.if-kind-eq-HEADING.false (ap kind_of c.entry_word-word.ensures ∙ e)) (kind ∙ w.if-takes.true));
      }
      | else-takes w ↦ record {
        few = omega arith;
        chosen = λ ts es h t. rw (w.order-is, w.at-is)
            (choosing-skip _ ts _ _ es _ _ c.loop-i.heading c.loop-i.i c.loop-i.at c.loop-i.order c.loop-i-test.true
            (c.loop-i.invariant.chosen ts es h t) (λ e. c.if-kind-eq-HEADING.false (ap kind_of c.entry_word-word.ensures ∙ e)) (kind ∙ w.if-takes.false));
      }
    ]
