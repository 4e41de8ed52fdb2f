-- Kinds of entries that do nothing to names, and those that end the names of a big operator.
use Rattle.std.specs.Prelude.{ℕ, Bool, true, false, ◌≡◌, refl}
use Rattle.language.specs.Operators.{Equal, Unequal, Less, AtMost, Greater, AtLeast, Big, BigSum, BigProduct, BigCap, BigCup, BigAnd, BigOr, Infix, Calculates, Combines, Compares, Membership, Connects, Prefix, Measures, WidthOf, Applies}
use Rattle.entries.specs.Kinds as Kind
use Rattle.names.specs.Roles.{uses, binds, ends, declares, Quiet, Ending}

abbrev pub quiet : {k : ℕ} → uses k ≡ false → binds k ≡ false → ends k ≡ false → declares Kind.parameter k ≡ false → Quiet k
quiet a b c d = record { no_use = a; no_binder = b; no_end = c; no_declared = d }

pub quiet_truth : Quiet Kind.truth
quiet_truth = quiet refl refl refl refl

pub quiet_before : (o : Prefix) → Quiet (Kind.before o)
quiet_before (Measures m) = quiet refl refl refl refl
quiet_before WidthOf = quiet refl refl refl refl
quiet_before (Applies o) = quiet refl refl refl refl

pub quiet_joining : (o : Infix) → Quiet (Kind.joining o)
quiet_joining (Calculates o) = quiet refl refl refl refl
quiet_joining (Combines o) = quiet refl refl refl refl
quiet_joining (Compares Equal) = quiet refl refl refl refl
quiet_joining (Compares Unequal) = quiet refl refl refl refl
quiet_joining (Compares Less) = quiet refl refl refl refl
quiet_joining (Compares AtMost) = quiet refl refl refl refl
quiet_joining (Compares Greater) = quiet refl refl refl refl
quiet_joining (Compares AtLeast) = quiet refl refl refl refl
quiet_joining Membership = quiet refl refl refl refl
quiet_joining (Connects o) = quiet refl refl refl refl

pub quiet_window : Quiet Kind.window
quiet_window = quiet refl refl refl refl

pub quiet_between : (h : Bool) → Quiet (Kind.between h)
quiet_between false = quiet refl refl refl refl
quiet_between true = quiet refl refl refl refl

abbrev ending : {k : ℕ} → uses k ≡ false → binds k ≡ false → ends k ≡ true → declares Kind.parameter k ≡ false → Ending k
ending a b c d = record { no_use = a; no_binder = b; is-end = c; no_declared = d }

pub ending-big : (o : Big) → Ending (Kind.big o)
ending-big BigSum = ending refl refl refl refl
ending-big BigProduct = ending refl refl refl refl
ending-big BigCap = ending refl refl refl refl
ending-big BigCup = ending refl refl refl refl
ending-big BigAnd = ending refl refl refl refl
ending-big BigOr = ending refl refl refl refl
