-- Laws of formulas: congruence and stability.
use Rattle.std.specs.Prelude.{suc}
use Rattle.std.proofs.Math.Logic.Iff as Equiv
use Rattle.node.proofs.LogicLaws.{stable-not, stable-and, stable_to, stable_so, or_same, to_same}
use Rattle.node.specs.Temporal.{Property}
use Rattle.node.proofs.TemporalLaws.{Same, StableAll, stable_always, always_same, eventually_same, until_same, release_same, weak_same}
use Rattle.node.specs.Ltl.{Unary, Not, X, G, F, Binary, And, Or, Implies, Iff, U, R, W, Formula, True, False, Signal, One, Two, UnaryMeans, BinaryMeans, Word, Holds}

-- equivalents put for equivalents
pub unary-same : (o : Unary) {P P' : Property} → Same P P' → Same (UnaryMeans o P) (UnaryMeans o P')
unary-same Not h t = Equiv.not (h t)
unary-same X h t = h (suc t)
unary-same G h t = always_same h t
unary-same F h t = eventually_same h t

pub binary-same : (o : Binary) {P P' Q Q' : Property} → Same P P' → Same Q Q' → Same (BinaryMeans o P Q) (BinaryMeans o P' Q')
binary-same And h k t = Equiv.and (h t) (k t)
binary-same Or h k t = or_same (h t) (k t)
binary-same Implies h k t = to_same (h t) (k t)
binary-same Iff h k t = Equiv.and (to_same (h t) (k t)) (to_same (k t) (h t))
binary-same U h k t = until_same h k t
binary-same R h k t = release_same h k t
binary-same W h k t = weak_same h k t

pub stable-unary : (o : Unary) {P : Property} → StableAll P → StableAll (UnaryMeans o P)
stable-unary Not s t = stable-not
stable-unary X s t = s (suc t)
stable-unary G s t = stable_always s t
stable-unary F s t = stable-not

pub stable-binary : (o : Binary) {P Q : Property} → StableAll P → StableAll Q → StableAll (BinaryMeans o P Q)
stable-binary And s u t = stable-and (s t) (u t)
stable-binary Or s u t = stable-not
stable-binary Implies s u t = stable_to (u t)
stable-binary Iff s u t = stable-and (stable_to (u t)) (stable_to (s t))
stable-binary U s u t = stable-not
stable-binary R s u t = stable-not
stable-binary W s u t = stable-not

pub stable : (f : Formula) (w : Word) → StableAll (Holds f w)
unfolding Holds
stable True w t = λ h. tt
stable False w t = λ h. h (λ e. e)
stable (Signal k) w t = stable_so (w t k)
stable (One o a) w t = stable-unary o (stable a w) t
stable (Two o a b) w t = stable-binary o (stable a w) (stable b w) t
