-- An operator's expansion holds where the operator's own meaning does, if its operands do: one law for each operator.
use Rattle.std.specs.Prelude.{ℕ, ◌+◌, ◌-◌, ◌≤◌, refl, Bool, leb}
use Rattle.std.proofs.Math.Bool.{true, false, So, false≢true}
use mathlib.Core.List.{List, [], ◌∷◌}
use Rattle.std.proofs.Math.Logic.Iff as Equiv
use Rattle.node.specs.Logic.{Some}
use Rattle.node.proofs.LogicLaws.{or_same}
use Rattle.node.specs.Temporal.{Property}
use Rattle.node.proofs.TemporalLaws.{Same}
use Rattle.node.specs.Ltl.{Unary, Binary, Formula, One, Two, UnaryMeans, BinaryMeans, Holds, Word as NodeWord}
use Rattle.node.proofs.LtlLaws.{unary-same, binary-same}
use Rattle.node.specs.Result.{Result, Done, Refused, ◌>>=◌, guard}
use Rattle.language.specs.Operators.{Big, BigSum, BigProduct, BigCap, BigCup, BigAnd, BigOr, Window}
use Rattle.language.specs.Sets.{member_of}
use Rattle.language.specs.Values.{misfit}
use Rattle.language.specs.Expansion.{conjunction, disjunction, truth, nexts, chain, window_operator, gather, big_formula}
use Rattle.language.specs.Meaning.{EachMeans, WindowMeans, or_else}
use Rattle.language.proofs.Laws.Basics.Tests.{so_leb}
use Rattle.language.proofs.Laws.Meaning.ExpansionLaws.{AllHold, SomeHold, conjunction_holds, disjunction_holds, truth_holds, nexts_hold, window_holds, window_same, each-cons, some_cons}

-- an accepted formula holds where P does
unfoldable pub Agrees : Result Formula → NodeWord → Property → Type 0
Agrees (Done f) v P = Same P (Holds f v)
Agrees (Refused n p) v P = Unit {0}

-- the same of formulas that are yet to be joined, in the way that H says
unfoldable pub ListAgrees : Result (List Formula) → (List Formula → NodeWord → Property) → NodeWord → Property → Type 0
ListAgrees (Done fs) H v P = Same P (H fs v)
ListAgrees (Refused n p) H v P = Unit {0}

module _ (v : NodeWord) where
  pub misfit-agrees : (P : Property) → Agrees misfit v P
  unfolding Agrees
  misfit-agrees P = tt

  pub truth-agrees : (b : Bool) → Agrees (Done (truth b)) v (λ t. So b)
  unfolding Agrees
  truth-agrees b = truth_holds b v

  pub prefix_agrees : (o : Unary) (r : Result Formula) (P : Property) → Agrees r v P → Agrees (r >>= λ f. Done (One o f)) v (UnaryMeans o P)
  unfolding Agrees ◌>>=◌ Holds
  prefix_agrees o (Done f) P h = unary-same o h
  prefix_agrees o (Refused n p) P h = tt

  pub infix_agrees : (o : Binary) (r q : Result Formula) (P Q : Property) → Agrees r v P → Agrees q v Q →
      Agrees (r >>= λ f. q >>= λ g. Done (Two o f g)) v (BinaryMeans o P Q)
  unfolding Agrees ◌>>=◌ Holds
  infix_agrees o (Done f) (Done g) P Q h k = binary-same o h k
  infix_agrees o (Done f) (Refused n p) P Q h k = tt
  infix_agrees o (Refused n p) q P Q h k = tt

  pub member-agrees : (r : Result ℕ) (s : Result (List ℕ)) →
      Agrees (r >>= λ n. s >>= λ m. Done (truth (member_of m n))) v (λ t. So (member_of (or_else [] s) (or_else 0 r)))
  unfolding Agrees ◌>>=◌
  member-agrees (Done n) (Done m) = truth_holds (member_of m n) v
  member-agrees (Done n) (Refused k p) = tt
  member-agrees (Refused k p) s = tt

  pub nexts-agree : (r : Result ℕ) (q : Result Formula) (P : Property) → Agrees q v P →
      Agrees (r >>= λ k. q >>= λ f. Done (nexts k f)) v (λ t. P (t + or_else 0 r))
  unfolding Agrees ◌>>=◌
  nexts-agree (Done k) (Done f) P h = λ t. Equiv.trans (h (t + k)) (nexts_hold k f v t)
  nexts-agree (Done k) (Refused n p) P h = tt
  nexts-agree (Refused n p) q P h = tt

  pub window-agrees : (o : Window) (p : ℕ) (r s : Result ℕ) (q : Result Formula) (P : Property) → Agrees q v P →
      Agrees (r >>= λ j. s >>= λ k. guard (leb j k) 11 p (q >>= λ f. Done (nexts j (chain (window_operator o) (k - j) f)))) v
      (WindowMeans o (or_else 0 r) (or_else 0 s) P)
  unfolding Agrees ◌>>=◌ guard
  window-agrees o p (Done j) (Done k) q P h = go (leb j k) (so_leb j k).0 q h
    where
      go : (b : Bool) → (So b → j ≤ k) → (q : Result Formula) → Agrees q v P →
          Agrees (guard b 11 p (q >>= λ f. Done (nexts j (chain (window_operator o) (k - j) f)))) v (WindowMeans o j k P)
      go false l q h = tt
      go true l (Done f) h = λ t. Equiv.trans (window_same o j k h t) (window_holds o j k (l refl) f v t)
      go true l (Refused n m) h = tt
  window-agrees o p (Done j) (Refused n m) q P h = tt
  window-agrees o p (Refused n m) s q P h = tt

  -- a big operator: each operand agrees, so do their list's fold and the quantifier
  and-agree : (F : ℕ → Result Formula) (P : ℕ → Property) → ((k : ℕ) → Agrees (F k) v (P k)) → (m : List ℕ) →
      ListAgrees (gather F m) AllHold v (λ t. (k : ℕ) → So (member_of m k) → P k t)
  unfolding Agrees ◌>>=◌ ListAgrees
  and-agree F P h [] = λ t. (λ f. tt, λ u k e. absurd (false≢true e))
  and-agree F P h (x ∷ m) = step (F x) (h x) (gather F m) (and-agree F P h m)
    where
      step : (r : Result Formula) → Agrees r v (P x) → (q : Result (List Formula)) → ListAgrees q AllHold v (λ t. (k : ℕ) → So (member_of m k) → P k t) →
          ListAgrees (r >>= λ b. q >>= λ bs. Done (b ∷ bs)) AllHold v (λ t. (k : ℕ) → So (member_of (x ∷ m) k) → P k t)
      step (Done f) a (Done fs) b = λ t. Equiv.trans (each-cons x m (λ k. P k t)) (Equiv.and (a t) (b t))
      step (Done f) a (Refused n p) b = tt
      step (Refused n p) a q b = tt

  or-agree : (F : ℕ → Result Formula) (P : ℕ → Property) → ((k : ℕ) → Agrees (F k) v (P k)) → (m : List ℕ) →
      ListAgrees (gather F m) SomeHold v (λ t. Some (λ k. So (member_of m k) × P k t))
  unfolding Agrees ◌>>=◌ ListAgrees
  or-agree F P h [] = λ t. (λ s. s (λ k c. false≢true c.0), λ e. absurd e)
  or-agree F P h (x ∷ m) = step (F x) (h x) (gather F m) (or-agree F P h m)
    where
      step : (r : Result Formula) → Agrees r v (P x) → (q : Result (List Formula)) → ListAgrees q SomeHold v (λ t. Some (λ k. So (member_of m k) × P k t)) →
          ListAgrees (r >>= λ b. q >>= λ bs. Done (b ∷ bs)) SomeHold v (λ t. Some (λ k. So (member_of (x ∷ m) k) × P k t))
      step (Done f) a (Done fs) b = λ t. Equiv.trans (some_cons x m (λ k. P k t)) (or_same (a t) (b t))
      step (Done f) a (Refused n p) b = tt
      step (Refused n p) a q b = tt

  fold_agrees : (r : Result (List Formula)) (H : List Formula → NodeWord → Property) (g : List Formula → Formula) (P : Property) →
      ((fs : List Formula) → Same (H fs v) (Holds (g fs) v)) → ListAgrees r H v P → Agrees (r >>= λ fs. Done (g fs)) v P
  unfolding Agrees ◌>>=◌ ListAgrees
  fold_agrees (Done fs) H g P k h = λ t. Equiv.trans (h t) (k fs t)
  fold_agrees (Refused n p) H g P k h = tt

  big-agrees : (o : Big) (F : ℕ → Result Formula) (P : ℕ → Property) → ((k : ℕ) → Agrees (F k) v (P k)) → (m : List ℕ) →
      Agrees (big_formula o F m) v (λ t. EachMeans o m (λ k. P k t))
  big-agrees BigSum F P h m = misfit-agrees _
  big-agrees BigProduct F P h m = misfit-agrees _
  big-agrees BigCap F P h m = misfit-agrees _
  big-agrees BigCup F P h m = misfit-agrees _
  big-agrees BigAnd F P h m = fold_agrees (gather F m) AllHold conjunction _ (λ fs. conjunction_holds fs v) (and-agree F P h m)
  big-agrees BigOr F P h m = fold_agrees (gather F m) SomeHold disjunction _ (λ fs. disjunction_holds fs v) (or-agree F P h m)

  pub each-agrees : (o : Big) (r : Result (List ℕ)) (F : ℕ → Result Formula) (P : ℕ → Property) → ((k : ℕ) → Agrees (F k) v (P k)) →
      Agrees (r >>= big_formula o F) v (λ t. EachMeans o (or_else [] r) (λ k. P k t))
  unfolding Agrees ◌>>=◌
  each-agrees o (Done m) F P h = big-agrees o F P h m
  each-agrees o (Refused n q) F P h = tt
