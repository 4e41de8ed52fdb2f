-- What has come of an operand, taken as the definitions take it.
use Rattle.std.specs.Prelude.{ℕ, List, ◌≡◌, refl}
use Rattle.node.specs.Ltl.{Formula}
use Rattle.node.specs.Result.{Result, Done, Refused, ◌>>=◌}
use Rattle.language.specs.Values.{Value, Number, Set, number, set}
use Rattle.machine.specs.Came.{Came, worth, nodes, as_value, as_number, as_set, as_formula}

pub take-value : (r : Result Value) (k : Value → Result Came) → ((r >>= worth) >>= λ v. as_value v >>= k) ≡ (r >>= k)
unfolding ◌>>=◌
take-value (Done v) k = refl
take-value (Refused n p) k = refl

pub take-number : (r : Result Value) (k : ℕ → Result Came) → ((r >>= worth) >>= λ v. as_number v >>= k) ≡ ((r >>= number) >>= k)
unfolding ◌>>=◌
take-number (Done v) k = refl
take-number (Refused n p) k = refl

pub take-set : (r : Result Value) (k : List ℕ → Result Came) → ((r >>= worth) >>= λ v. as_set v >>= k) ≡ ((r >>= set) >>= k)
unfolding ◌>>=◌
take-set (Done v) k = refl
take-set (Refused n p) k = refl

pub take-formula : (r : Result Formula) (k : Formula → Result Came) → ((r >>= nodes) >>= λ v. as_formula v >>= k) ≡ (r >>= k)
unfolding ◌>>=◌
take-formula (Done f) k = refl
take-formula (Refused n p) k = refl

-- the last step of a value's clause
pub then_worth : {A : Type 0} (r : Result A) (k : A → Result Value) (g : A → Result Came) → ((a : A) → (k a >>= worth) ≡ g a) → ((r >>= k) >>= worth) ≡ (r >>= g)
unfolding ◌>>=◌
then_worth (Done a) k g h = h a
then_worth (Refused n p) k g h = refl

pub then_nodes : {A : Type 0} (r : Result A) (k : A → Result Formula) (g : A → Result Came) → ((a : A) → (k a >>= nodes) ≡ g a) → ((r >>= k) >>= nodes) ≡ (r >>= g)
unfolding ◌>>=◌
then_nodes (Done a) k g h = h a
then_nodes (Refused n p) k g h = refl

pub number-last : (r : Result ℕ) → ((r >>= λ n. Done (Number n)) >>= worth) ≡ (r >>= λ n. worth (Number n))
unfolding ◌>>=◌
number-last (Done n) = refl
number-last (Refused n p) = refl

pub set_last : (r : Result (List ℕ)) → ((r >>= λ l. Done (Set l)) >>= worth) ≡ (r >>= λ l. worth (Set l))
unfolding ◌>>=◌
set_last (Done l) = refl
set_last (Refused n p) = refl
