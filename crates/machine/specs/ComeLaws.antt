-- What has come, by the machine's mode; and a value of another kind than is taken.
use Rattle.std.specs.Prelude.{ℕ, ◌≤◌, List, ◌≡◌, refl, length}
use Rattle.std.proofs.Common.{sym, ap, ◌∙◌, arith}
use Rattle.node.specs.Ltl.{Formula}
use Rattle.node.specs.Result.{Result, ◌>>=◌}
use Rattle.node.proofs.ResultLaws.{bind_at}
use Rattle.language.specs.Limits.{max_number}
use Rattle.language.specs.Values.{Number, Set, Logic, Bus, Unsized, Choice, misfit}
use Rattle.operands.specs.Working.{Source}
use Rattle.machine.specs.Came.{Came, Worth, Nodes, as_number, as_set, as_formula}
use Rattle.machine.specs.Realm.{Realm}
use Rattle.machine.specs.Memory.{free_of, Held, Sits}
use Rattle.machine.specs.Telling.{is_number, is_set, is_nodes, Fine}
use Rattle.machine.specs.Table.{Began}
use Rattle.machine.specs.States.{Come}
use Rattle.machine.specs.declared.Machine.{Machine}

pub record IsNumber (m : Machine) (v : Came) : Type 0 where
  pub same : v ≡ Worth (Number m.value)
  pub small : m.value ≤ max_number

pub record IsSet (mem : List ℕ) (m : Machine) (v : Came) : Type 0 where
  pub set : List ℕ
  pub same : v ≡ Worth (Set set)
  pub count : m.value ≡ length set
  pub fine : Fine set
  pub held : Held mem m.from set
  pub sits : Sits (free_of mem) m.top m.from (length set)

pub record IsFormula (v : Came) : Type 0 where
  pub formula : Formula
  pub same : v ≡ Nodes formula

-- whatever is done with it then
pub misfit_then : {A B : Type 0} {r : Result A} (k : A → Result B) → r ≡ misfit → (r >>= k) ≡ misfit
unfolding ◌>>=◌
misfit_then k e = rw e

-- what is done with a number
pub number_then : {B : Type 0} {m : Machine} {v : Came} → IsNumber m v → (k : ℕ → Result B) → (as_number v >>= k) ≡ k m.value
number_then {m = m} n k = ap (λ (y : Came). as_number y >>= k) n.same ∙ bind_at m.value k

module _ {s : Source} (R : Realm s) (o : Began) (mem : List ℕ) (m : Machine) where
  pub came-number : (v : Came) → Come R o mem m v → m.mode ≡ is_number → IsNumber m v
  came-number (Worth (Number n)) c e = record { same = ap (λ (i : ℕ). Worth (Number i)) (sym c.tells.value-is); small = (let q = c.tells.value-is in let l = c.tells.small in omega arith) }
  came-number (Worth (Set l)) c e = let z = c.tells.mode_is in absurd (omega arith)
  came-number (Worth Logic) c e = let z = c.tells in absurd (omega arith)
  came-number (Worth (Bus p x n)) c e = let z = c.tells.mode_is in absurd (omega arith)
  came-number (Worth (Unsized p)) c e = let z = c.tells.mode_is in absurd (omega arith)
  came-number (Worth (Choice ws)) c e = let z = c.tells.mode_is in absurd (omega arith)
  came-number (Nodes f) c e = absurd (omega arith)

  pub not-number : (v : Came) → Come R o mem m v → (m.mode ≡ is_number → ⊥) → as_number v ≡ misfit
  not-number (Worth (Number n)) c e = absurd (e c.tells.mode_is)
  not-number (Worth (Set l)) c e = refl
  not-number (Worth Logic) c e = refl
  not-number (Worth (Bus p x n)) c e = refl
  not-number (Worth (Unsized p)) c e = refl
  not-number (Worth (Choice ws)) c e = refl
  not-number (Nodes f) c e = refl

  pub came-set : (v : Came) → Come R o mem m v → m.mode ≡ is_set → IsSet mem m v
  came-set (Worth (Number n)) c e = let z = c.tells.mode_is in absurd (omega arith)
  came-set (Worth (Set l)) c e = record { set = l; same = refl; count = c.tells.count; fine = c.tells.fine; held = c.stands.0; sits = c.stands.1 }
  came-set (Worth Logic) c e = let z = c.tells in absurd (omega arith)
  came-set (Worth (Bus p x n)) c e = let z = c.tells.mode_is in absurd (omega arith)
  came-set (Worth (Unsized p)) c e = let z = c.tells.mode_is in absurd (omega arith)
  came-set (Worth (Choice ws)) c e = let z = c.tells.mode_is in absurd (omega arith)
  came-set (Nodes f) c e = absurd (omega arith)

  pub not_set : (v : Came) → Come R o mem m v → (m.mode ≡ is_set → ⊥) → as_set v ≡ misfit
  not_set (Worth (Number n)) c e = refl
  not_set (Worth (Set l)) c e = absurd (e c.tells.mode_is)
  not_set (Worth Logic) c e = refl
  not_set (Worth (Bus p x n)) c e = refl
  not_set (Worth (Unsized p)) c e = refl
  not_set (Worth (Choice ws)) c e = refl
  not_set (Nodes f) c e = refl

  pub came-formula : (v : Came) → Come R o mem m v → m.mode ≡ is_nodes → IsFormula v
  came-formula (Worth (Number n)) c e = let z = c.tells.mode_is in absurd (omega arith)
  came-formula (Worth (Set l)) c e = let z = c.tells.mode_is in absurd (omega arith)
  came-formula (Worth Logic) c e = let z = c.tells in absurd (omega arith)
  came-formula (Worth (Bus p x n)) c e = let z = c.tells.mode_is in absurd (omega arith)
  came-formula (Worth (Unsized p)) c e = let z = c.tells.mode_is in absurd (omega arith)
  came-formula (Worth (Choice ws)) c e = let z = c.tells.mode_is in absurd (omega arith)
  came-formula (Nodes f) c e = record { formula = f; same = refl }

  pub not-formula : (v : Came) → Come R o mem m v → (m.mode ≡ is_nodes → ⊥) → as_formula v ≡ misfit
  not-formula (Worth v) c e = refl
  not-formula (Nodes f) c e = absurd (e c)
