-- What an expression of numbers and sets is worked out to, by the values of its operands: the laws of arithmetic and of sets, said of expressions; and what a name
-- stands for.
use Rattle.std.specs.Prelude.{ℕ, ◌≤◌, ◌<◌, ◌≡◌, refl, Bool, true, ◌||◌, List, [], ◌∷◌, eqb}
use Rattle.std.proofs.Common.{sym, ap, subst, ◌∙◌, arith}
use Rattle.std.proofs.Math.Bool.{So}
use Rattle.node.specs.Result.{Result, Done, Refused, ◌>>=◌}
use Rattle.language.specs.Limits.{max_number}
use Rattle.language.specs.Bytes.{same}
use Rattle.language.specs.Tokens.{Token}
use Rattle.language.specs.Operators.{Arithmetic, Combination, Size, Min, Max, Big, Calculates, Combines, Measures, WidthOf}
use Rattle.language.specs.Tree.{Expr, Named, Numeral, Paren, Prefixed, Joined, Each, Between, Listed, Empty, Element, Range}
use Rattle.language.specs.Sets.{member_of, insert}
use Rattle.language.specs.Values.{Value, Number, Set, Bus, Unsized, decimal, big, Scope, naming, value}
use Rattle.language.proofs.Laws.Basics.Tests.{split, pick, same_equal, same_refl}
use Rattle.language.proofs.Laws.Basics.Exactly.{Exactly, exactly_as}
use Rattle.language.proofs.Laws.Values.SetMembers.{in_combination, insert-member}
use Rattle.language.proofs.Laws.Values.SetExtent.{Least, Greatest, min-least, max_greatest, tally, size-tally}
use Rattle.language.proofs.Laws.Values.SetLaws.{insert_ascending}
use Rattle.language.proofs.Laws.Values.SetAnswers.{Small, ascending_rises, limited_exact, combine_exact, InRange, range_exact, Above, Below, between_exact}
use Rattle.language.proofs.Laws.Values.Arithmetic.{Gives, in_range_exact, calculate_exact}
use Rattle.language.proofs.Laws.Values.ValueLaws.{SaneNumber, Ordered, SaneSet}

-- an operand that is worked out to a number, to a set
pub record IsNumber (sc : Scope) (e : Expr) (n : ℕ) : Type 0 where
  pub worked : value sc e ≡ Done (Number n)
  pub sane : SaneNumber n

pub record IsSet (sc : Scope) (e : Expr) (s : List ℕ) : Type 0 where
  pub worked : value sc e ≡ Done (Set s)
  pub sane : SaneSet s

-- the answer is a number, a set, of which Q holds
abbrev pub NumberWith : (ℕ → Type 0) → Value → Type 0
NumberWith Q v = (n : ℕ) × (v ≡ Number n) × Q n

abbrev pub SetWith : (List ℕ → Type 0) → Value → Type 0
SetWith Q v = (s : List ℕ) × (v ≡ Set s) × Q s

module _ (sc : Scope) (t : Token) where
  pub numeral_worked : Exactly 11 t.at (NumberWith (λ n. (n ≡ decimal 0 t.text) × (n ≤ max_number))) (value sc (Numeral t))
  numeral_worked = exactly_as 11 t.at Number _ (in_range_exact t.at (decimal 0 t.text))

  pub calculated : (o : Arithmetic) (a b : Expr) (m n : ℕ) → IsNumber sc a m → IsNumber sc b n →
      Exactly 11 t.at (NumberWith (λ c. Gives o m n c × (c ≤ max_number))) (value sc (Joined t (Calculates o) a b))
  unfolding ◌>>=◌
  calculated o a b m n h k = rw (h.worked, k.worked) (exactly_as 11 t.at Number _ (calculate_exact t.at o m n h.sane))

  pub combined : (o : Combination) (a b : Expr) (m n : List ℕ) → IsSet sc a m → IsSet sc b n →
      Exactly 12 t.at (SetWith (Small (λ k. So (in_combination o (member_of m k) (member_of n k))))) (value sc (Joined t (Combines o) a b))
  unfolding ◌>>=◌
  combined o a b m n h k =
      rw (h.worked, k.worked) (exactly_as 12 t.at Set _ (combine_exact t.at o max_number m n h.sane.0 k.sane.0))

  pub least : (e : Expr) (s : List ℕ) → IsSet sc e s → Exactly 11 t.at (NumberWith (Least s)) (value sc (Prefixed t (Measures Min) e))
  unfolding ◌>>=◌
  least e s h = rw h.worked (exactly_as 11 t.at Number _ (min-least t.at s (ascending_rises 0 max_number s h.sane.0)))

  pub greatest : (e : Expr) (s : List ℕ) → IsSet sc e s → Exactly 11 t.at (NumberWith (Greatest s)) (value sc (Prefixed t (Measures Max) e))
  unfolding ◌>>=◌
  greatest e s h = rw h.worked (exactly_as 11 t.at Number _ (max_greatest t.at s (ascending_rises 0 max_number s h.sane.0)))

  -- how many numbers are in the set, the numbers below any n that is above them all
  pub counted : (e : Expr) (s : List ℕ) → IsSet sc e s → (n : ℕ) → ((k : ℕ) → So (member_of s k) → k < n) →
      value sc (Prefixed t (Measures Size) e) ≡ Done (Number (tally (member_of s) n))
  unfolding ◌>>=◌
  counted e s h n b = rw h.worked (ap (λ r. r >>= λ c. Done (Number c)) (size-tally t.at s (ascending_rises 0 max_number s h.sane.0) n b))

  pub ranged : (x y z : Expr) (a b c : ℕ) → IsNumber sc x a → IsNumber sc y b → IsNumber sc z c →
      Exactly 12 t.at (SetWith (λ s. (a < b) × Small (InRange a b c) s)) (value sc (Range t x y z))
  unfolding ◌>>=◌
  ranged x y z a b c h k l = rw (h.worked, k.worked, l.worked) (exactly_as 12 t.at Set _ (range_exact t.at a b c))

  pub bounded : (l h : Bool) (x y : Expr) (a b : ℕ) → IsNumber sc x a → IsNumber sc y b →
      Exactly 12 t.at (SetWith (Small (λ k. Above l a k × Below h k b))) (value sc (Between t l h x y))
  unfolding ◌>>=◌
  bounded l h x y a b u v = rw (u.worked, v.worked) (exactly_as 12 t.at Set _ (between_exact t.at l h a b))

  -- a big operator goes over the set's elements, its name standing for each
  pub over-elements : (o : Big) (further : Bool) (i : Token) (s e : Expr) (m : List ℕ) → IsSet sc s m →
      value sc (Each t o further i s e) ≡ big t.at o (λ k. value (naming i (Done (Number k)) sc) e) m
  unfolding ◌>>=◌
  over-elements o further i s e m h = rw h.worked

  -- SIZEOF a bus is its width, of one not yet sized 13 at its name
  pub sized : (e : Expr) (p n : ℕ) (x : List ℕ) → value sc e ≡ Done (Bus p x n) → value sc (Prefixed t WidthOf e) ≡ Done (Number n)
  unfolding ◌>>=◌
  sized e p n x h = rw h

  pub unsized : (e : Expr) (p : ℕ) → value sc e ≡ Done (Unsized p) → value sc (Prefixed t WidthOf e) ≡ Refused 13 p
  unfolding ◌>>=◌
  unsized e p h = rw h

  pub parenthesised : (e : Expr) → value sc (Paren t e) ≡ value sc e
  parenthesised e = refl

-- a name stands for what was put under it last
module _ (x : Token) (r : Result Value) (sc : Scope) (t : Token) where
  pub named_here : x.text ≡ t.text → value (naming x r sc) (Named t) ≡ r
  named_here e = pick (same x.text t.text) r (sc t) (subst (λ s. same x.text s ≡ true) e (same_refl x.text))

  pub named-before : ¬ (x.text ≡ t.text) → value (naming x r sc) (Named t) ≡ value sc (Named t)
  named-before n = split (λ s. s ≡ sc t) (same x.text t.text) (λ e. absurd (n (same_equal x.text t.text e))) (λ _. refl)

-- the elements of a set in braces, as written
pub data Elements (sc : Scope) : Expr → List ℕ → Type 0 where
  none : Elements sc Empty []
  also : {e es : Expr} {n : ℕ} {ns : List ℕ} → IsNumber sc e n → Elements sc es ns → Elements sc (Element e es) (n ∷ ns)

abbrev collected : List ℕ → List ℕ
collected [] = []
collected (n ∷ ns) = insert n (collected ns)

collected-member : (ns : List ℕ) (k : ℕ) → member_of (collected ns) k ≡ member_of ns k
collected-member [] k = refl
collected-member (n ∷ ns) k = insert-member n (collected ns) k ∙ ap (λ b. eqb k n || b) (collected-member ns k)

elements_worked : {sc : Scope} {es : Expr} {ns : List ℕ} → Elements sc es ns → (value sc es ≡ Done (Set (collected ns))) × Ordered (collected ns)
unfolding ◌>>=◌
elements_worked none = (refl, tt)
elements_worked (also {n = n} {ns = ns} h more) =
    let rest = elements_worked more in
    (rw (h.worked, rest.0), insert_ascending 0 max_number n (collected ns) (omega arith) h.sane rest.1)

pub listed : (sc : Scope) (t : Token) (es : Expr) (ns : List ℕ) → Elements sc es ns →
    Exactly 12 t.at (SetWith (Small (λ k. So (member_of ns k)))) (value sc (Listed t es))
unfolding ◌>>=◌
listed sc t es ns h =
    let whole = elements_worked h in
    rw whole.0 (exactly_as 12 t.at Set _ (limited_exact t.at _ (collected ns) (record {
      rises = ascending_rises 0 max_number (collected ns) whole.1;
      members = λ k. let e = collected-member ns k in (λ m. sym e ∙ m, λ m. e ∙ m);
    })))
