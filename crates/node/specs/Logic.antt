-- 'or' and 'some' of classical logic, in a logic without excluded middle: it cannot be that all of it fails.
-- A formula built with these holds as soon as it is not refuted (`Stable`), which the duals of negation form need. `Adequacy` shows that under
-- excluded middle they are the usual ones.

-- A or B
abbrev pub Either : Type 0 → Type 0 → Type 0
Either A B = ¬ (¬ A × ¬ B)

-- P x for some x
abbrev pub Some : {X : Type 0} → (X → Type 0) → Type 0
Some {X} P = ¬ ((x : X) → ¬ P x)

-- A holds unless it is refuted
abbrev pub Stable : Type 0 → Type 0
Stable A = ¬ (¬ A) → A
