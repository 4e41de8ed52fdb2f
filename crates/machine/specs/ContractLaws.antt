-- Contracts of steps, of equal moves.
use Rattle.std.specs.Prelude.{ℕ, List, ◌≡◌, Ok}
use Rattle.std.proofs.Common.{sym, ap, subst}
use Rattle.machine.specs.declared.Move.TheVariants.{Next}
use Rattle.machine.specs.Stepped.{Stepped}
use Rattle.operands.specs.Working.{Source}
use Rattle.machine.specs.States.{Steps, Writes, Takes, TakesToWrite}
use Rattle.machine.specs.declared.Machine.{Machine}

module _ {s : Source} {mem mem' : List ℕ} {m : Machine} where
  pub steps_as : {r t : Stepped} → r ≡ t → Steps s mem mem' m t → Steps s mem mem' m r
  steps_as e h = subst (Steps s mem mem' m) (sym e) h

  pub steps_next : {n k : Machine} → n ≡ k → Steps s mem mem' m (Ok (Next k)) → Steps s mem mem' m (Ok (Next n))
  steps_next e h = subst (Steps s mem mem' m) (sym (ap (λ (y : Machine). Ok (Next y)) e)) h

  pub takes_as : {r t : Stepped} → r ≡ t → Takes s mem mem' m t → Takes s mem mem' m r
  takes_as e h = subst (Takes s mem mem' m) (sym e) h

  pub takes-next : {n k : Machine} → n ≡ k → Takes s mem mem' m (Ok (Next k)) → Takes s mem mem' m (Ok (Next n))
  takes-next e h = subst (Takes s mem mem' m) (sym (ap (λ (y : Machine). Ok (Next y)) e)) h

  module _ {out out' : List ℕ} where
    pub writes_as : {r t : Stepped} → r ≡ t → Writes s mem mem' out out' m t → Writes s mem mem' out out' m r
    writes_as e h = subst (Writes s mem mem' out out' m) (sym e) h

    pub takes-to-write-as : {r t : Stepped} → r ≡ t → TakesToWrite s mem mem' out out' m t → TakesToWrite s mem mem' out out' m r
    takes-to-write-as e h = subst (TakesToWrite s mem mem' out out' m) (sym e) h
