-- Big operators go over a set's elements in ascending order ('Big operators fold to the left, ascending; one element is itself'): what they give over nothing, over
-- one element, and over one element more.
use Rattle.std.specs.Prelude.{ℕ, ◌≡◌, List, [], ◌∷◌, ◌++◌}
use Rattle.std.proofs.Math.Path.{refl}
use Rattle.std.proofs.Common.{sym, ap, ◌∙◌}
use Rattle.node.specs.Result.{Result, Done, Refused, ◌>>=◌}
use Rattle.node.proofs.ResultLaws.{bind_again, bind_refused, bind_same, bind_to, bind_value}
use Rattle.language.specs.Operators.{Plus, Times, Cup, Cap, Big, BigSum, BigProduct, BigCap, BigCup, BigAnd, BigOr}
use Rattle.language.specs.Sets.{combine}
use Rattle.language.specs.Values.{Value, Number, Set, Logic, number, set, calculate, limited, onward, folded, big}

-- any fold
module _ {A : Type 0} (step : A → A → Result A) (none : Result A) (f : ℕ → Result A) where
  pub folded_none : folded step none f [] ≡ none
  folded_none = refl

  pub folded-one : (k : ℕ) → folded step none f (k ∷ []) ≡ f k
  folded-one k = bind_value (f k)

  onward-more : (a : A) (s : List ℕ) (k : ℕ) → onward step f a (s ++ (k ∷ [])) ≡ (onward step f a s >>= λ c. f k >>= step c)
  onward-more a [] k = bind_same (f k) _ _ (λ b. bind_value (step a b)) ∙ sym (bind_to (Done a) a (λ c. f k >>= step c) refl)
  onward-more a (j ∷ s) k =
      bind_same (f j) _ _ (λ b. bind_same (step a b) _ _ (λ c. onward-more c s k) ∙ sym (bind_again (step a b) _ _)) ∙
      sym (bind_again (f j) _ _)

  -- the value so far, joined with the operand at the last element
  pub folded_more : (j : ℕ) (s : List ℕ) (k : ℕ) → folded step none f (j ∷ s ++ (k ∷ [])) ≡ (folded step none f (j ∷ s) >>= λ a. f k >>= step a)
  folded_more j s k = bind_same (f j) _ _ (λ a. onward-more a s k) ∙ sym (bind_again (f j) _ _)

-- 'over nothing `&&` is true, `||` false, `+` 0, `*` 1, `(+)` empty'; '`(*)[..]` of nothing' is 11
abbrev pub nothing : ℕ → Big → Result Value
nothing p BigSum = Done (Number 0)
nothing p BigProduct = Done (Number 1)
nothing p BigCap = Refused 11 p
nothing p BigCup = Done (Set [])
nothing p BigAnd = Done Logic
nothing p BigOr = Done Logic

pub big_none : (p : ℕ) (o : Big) (f : ℕ → Result Value) → big p o f [] ≡ nothing p o
big_none p BigSum f = bind_to (Done 0) 0 _ refl
big_none p BigProduct f = bind_to (Done 1) 1 _ refl
big_none p BigCap f = bind_refused (Refused 11 p) 11 p _ refl
big_none p BigCup f = bind_to (Done []) [] _ refl
big_none p BigAnd f = refl
big_none p BigOr f = refl

-- 'one element is itself'
abbrev pub alone : Big → Result Value → Result Value
alone BigSum r = r >>= number >>= λ n. Done (Number n)
alone BigProduct r = r >>= number >>= λ n. Done (Number n)
alone BigCap r = r >>= set >>= λ m. Done (Set m)
alone BigCup r = r >>= set >>= λ m. Done (Set m)
alone BigAnd r = Done Logic
alone BigOr r = Done Logic

pub big-one : (p : ℕ) (o : Big) (f : ℕ → Result Value) (k : ℕ) → big p o f (k ∷ []) ≡ alone o (f k)
big-one p BigSum f k = rw (bind_value (f k >>= number))
big-one p BigProduct f k = rw (bind_value (f k >>= number))
big-one p BigCap f k = rw (bind_value (f k >>= set))
big-one p BigCup f k = rw (bind_value (f k >>= set))
big-one p BigAnd f k = refl
big-one p BigOr f k = refl

-- the value so far, joined with the operand at one element more: '`(+)` .. set too large' is 12
abbrev pub more : ℕ → Big → (sofar operand : Result Value) → Result Value
more p BigSum r q = r >>= number >>= λ m. q >>= number >>= calculate p Plus m >>= λ n. Done (Number n)
more p BigProduct r q = r >>= number >>= λ m. q >>= number >>= calculate p Times m >>= λ n. Done (Number n)
more p BigCap r q = r >>= set >>= λ m. q >>= set >>= (λ n. Done (combine Cap m n)) >>= λ u. Done (Set u)
more p BigCup r q = r >>= set >>= λ m. q >>= set >>= (λ n. limited p (combine Cup m n)) >>= λ u. Done (Set u)
more p BigAnd r q = Done Logic
more p BigOr r q = Done Logic

-- a fold whose values are wrapped up
module _ {A : Type 0} (wrap : A → Value) (unwrap : Value → Result A) (again : (a : A) → unwrap (wrap a) ≡ Done a) (step : A → A → Result A) (none : Result A) (f : ℕ → Result Value) where
  unwrapped : (r : Result A) → (r >>= (λ a. Done (wrap a)) >>= unwrap) ≡ r
  unfolding ◌>>=◌
  unwrapped (Done a) = again a
  unwrapped (Refused n p) = refl

  wrapped_more : (j : ℕ) (s : List ℕ) (k : ℕ) →
      (folded step none (λ i. f i >>= unwrap) (j ∷ s ++ (k ∷ [])) >>= λ a. Done (wrap a)) ≡
      (folded step none (λ i. f i >>= unwrap) (j ∷ s) >>= (λ a. Done (wrap a)) >>= unwrap >>= λ a. f k >>= unwrap >>= step a >>= λ c. Done (wrap c))
  wrapped_more j s k =
      ap (λ r. r >>= λ a. Done (wrap a)) (folded_more step none (λ i. f i >>= unwrap) j s k) ∙
      bind_again (folded step none (λ i. f i >>= unwrap) (j ∷ s)) _ _ ∙
      ap (λ r. r >>= λ a. f k >>= unwrap >>= step a >>= λ c. Done (wrap c)) (sym (unwrapped (folded step none (λ i. f i >>= unwrap) (j ∷ s))))

pub big-more : (p : ℕ) (o : Big) (f : ℕ → Result Value) (j : ℕ) (s : List ℕ) (k : ℕ) → big p o f (j ∷ s ++ (k ∷ [])) ≡ more p o (big p o f (j ∷ s)) (f k)
big-more p BigSum f j s k = wrapped_more Number number (λ n. refl) (calculate p Plus) (Done 0) f j s k
big-more p BigProduct f j s k = wrapped_more Number number (λ n. refl) (calculate p Times) (Done 1) f j s k
big-more p BigCap f j s k = wrapped_more Set set (λ m. refl) (λ a b. Done (combine Cap a b)) (Refused 11 p) f j s k
big-more p BigCup f j s k = wrapped_more Set set (λ m. refl) (λ a b. limited p (combine Cup a b)) (Done []) f j s k
big-more p BigAnd f j s k = refl
big-more p BigOr f j s k = refl
