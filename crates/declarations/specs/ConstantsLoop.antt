-- The loop over parameters, whichever tree it is: those from position j on are still to be worked out.
use Rattle.std.specs.Prelude.{ℕ, ◌+◌, ◌-◌, ◌≤◌, ◌<◌, List, ◌≡◌, length, get_or, set, Ok, Err}
use Rattle.node.specs.Returned.{Returned}
use Rattle.node.specs.declared.Refusal.{Refusal}
use Rattle.declarations.specs.declared.evaluate.Names.{Names}
use Rattle.std.proofs.Common.{sym, ap, ◌∙◌, subst, arith}
use Rattle.language.specs.Limits.{max_names, max_tokens}
use Rattle.language.specs.Tree.{Spec}
use Rattle.language.specs.DeclaredNames.{Table}
use Rattle.name_values.specs.Sorts as Sort
use Rattle.declarations.specs.Expressions.{Room, Workable, Numbered}
use Rattle.declarations.specs.Constants.{Parameters, ParametersGiven, ConstantsTold}
use Rattle.declarations.specs.ConstantsLaws.{Turning, turning-starts, next-inside, next_small, next-workable, next-told, turning-stopped, turning-more, turning-all}

pub record Looping (text w refs order : List ℕ) (count entries : ℕ) (sorts₀ numbers₀ : List ℕ) (j : ℕ) (sorts numbers : List ℕ) : Type 0 where
  pub turning : (found : List ℕ) (names : ℕ) (x : Spec) (d : Table) → Parameters text w refs found entries names order count sorts₀ numbers₀ x d
      → Turning text w refs found entries names order count x d j sorts numbers

module _ {text w refs order : List ℕ} {count entries : ℕ} {sorts₀ numbers₀ : List ℕ} where
  pub looping_starts : Looping text w refs order count entries sorts₀ numbers₀ 0 sorts₀ numbers₀
  looping_starts = record { turning = λ found names x d h. turning-starts text w refs found entries names order count x d sorts₀ numbers₀ h }

  module _ {j : ℕ} {sorts numbers : List ℕ} (l : Looping text w refs order count entries sorts₀ numbers₀ j sorts numbers) where
    module _ {mem₀ table₀ : List ℕ} (g : ParametersGiven text w refs order count sorts₀ numbers₀ mem₀ table₀ entries) (inside : j < count) where
      at_turn : Turning text w refs g.found entries g.names order count g.x g.d j sorts numbers
      at_turn = l.turning g.found g.names g.x g.d g.parameters

      -- its own entry, and the number of its name
      pub looping-inside : {k : ℕ} → k ≡ get_or order j 0 → k < max_tokens
      looping-inside q = let i = next-inside text w refs g.found entries g.names order count g.x g.d j sorts numbers inside at_turn in omega arith

      pub looping-small : {k r : ℕ} → k ≡ get_or order j 0 → r ≡ get_or refs k 0 → r < max_names
      looping-small q e =
          subst (λ (i : ℕ). i < max_names) (sym (e ∙ ap (λ (i : ℕ). get_or refs i 0) q))
          (next_small text w refs g.found entries g.names order count g.x g.d j sorts numbers inside at_turn)

      pub looping-workable : {mem table : List ℕ} {k i : ℕ} → k ≡ get_or order j 0 → i ≡ k - 1 → Room refs sorts numbers mem table entries → Workable text w refs sorts numbers mem table entries i
      looping-workable {i = i} q e r =
          next-workable text w refs g.found entries g.names order count g.x g.d j sorts numbers inside at_turn i (e ∙ ap (λ (n : ℕ). n - 1) q) r

    -- what its expression comes to
    module _ (inside : j < count) {table table' : List ℕ} {k i : ℕ} {v : Returned ℕ} (q : k ≡ get_or order j 0) (e : i ≡ k - 1) (f : Numbered text w refs sorts numbers table table' i v) where
      pub looping-stopped : {a : Returned Names} {u : Refusal} → v ≡ Err u → a ≡ Err u → (found : List ℕ) (names : ℕ) (x : Spec) (d : Table) → Parameters text w refs found entries names order count sorts₀ numbers₀ x d
          → ConstantsTold text w x d a
      looping-stopped {a} {u} s z found names x d h =
          let t = l.turning found names x d h in
          subst (ConstantsTold text w x d) (sym z) (turning-stopped text w refs found entries names order count x d j sorts numbers inside t v u s
          (next-told text w refs found entries names order count x d j sorts numbers inside t i v (e ∙ ap (λ (n : ℕ). n - 1) q) f))

      pub looping-more : {r n : ℕ} → v ≡ Ok n → r ≡ get_or refs k 0 → max_names ≤ length sorts → max_names ≤ length numbers
          → Looping text w refs order count entries sorts₀ numbers₀ (j + 1) (set sorts r Sort.number) (set numbers r n)
      looping-more {r} {n} u s a b = record {
        turning = λ found names x d h.
            let t = l.turning found names x d h in
            turning-more text w refs found entries names order count x d j sorts numbers inside t v r n u (s ∙ ap (λ (i : ℕ). get_or refs i 0) q) a b
            (next-told text w refs found entries names order count x d j sorts numbers inside t i v (e ∙ ap (λ (n : ℕ). n - 1) q) f);
      }

    pub looping-all : count ≤ j → (found : List ℕ) (names : ℕ) (x : Spec) (d : Table) → Parameters text w refs found entries names order count sorts₀ numbers₀ x d
        → ConstantsTold text w x d (Ok (record { sorts = sorts; numbers = numbers }))
    looping-all a found names x d h = turning-all text w refs found entries names order count x d j sorts numbers a (l.turning found names x d h)
