-- The loop over the declarations of a heading, whichever tree it is: those from position j on wait for their turn.
use Rattle.std.specs.Prelude.{ℕ, ◌+◌, ◌≤◌, ◌<◌, Bool, false, List, ◌≡◌, length, get_or, set, Ok, Err}
use Rattle.node.specs.Returned.{Returned}
use Rattle.node.specs.declared.Refusal.{Refusal}
use Rattle.declarations.specs.declared.turns.Sized.{Sized}
use Rattle.std.proofs.Common.{sym, ap, ◌∙◌, subst, arith}
use Rattle.language.specs.Limits.{max_names, max_tokens}
use Rattle.language.specs.Tree.{Declaration, Spec}
use Rattle.language.specs.DeclaredNames.{Table}
use Rattle.declarations.specs.Expressions.{Room}
use Rattle.declarations.specs.Widths.{Sizing, Sizable, Sizes, sort_of}
use Rattle.declarations.specs.Turns.{Declared, TurnsGiven, TurnsTold}
use Rattle.declarations.specs.TurnsLaws.{Turning, turning-starts, next-inside, next_small, next-sizable, turning-stopped, turning-more, turning-all}

pub record Looping (text w refs places enumerations : List ℕ) (from to entries : ℕ) (sorts₀ numbers₀ : List ℕ) (j : ℕ) (sorts numbers widths : List ℕ) : Type 0 where
  pub turning : (found : List ℕ) (names : ℕ) (x : Spec) (output : Bool) (ds : List Declaration) (d : Table)
      → Declared text w refs found entries names places enumerations from to sorts₀ numbers₀ x ds d
      → Turning text w refs found entries names places enumerations from to x output ds d j sorts numbers widths

-- the width that is worked out, of whatever declaration stands there
abbrev pub WidthTold : (text w refs sorts numbers : List ℕ) (k e : ℕ) → Returned ℕ → Type 0
WidthTold text w refs sorts numbers k e v =
    (found : List ℕ) (n m : ℕ) (x : Spec) (d : Table) (y : Declaration) → Sizing text w refs found n m sorts numbers k e x d y → Sizes x.definitions d y v

module _ {text w refs places enumerations : List ℕ} {from to entries : ℕ} {sorts₀ numbers₀ : List ℕ} where
  pub looping_starts : (widths : List ℕ) → Looping text w refs places enumerations from to entries sorts₀ numbers₀ from sorts₀ numbers₀ widths
  looping_starts widths = record {
    turning = λ found names x output ds d h. turning-starts text w refs found entries names places enumerations from to x output ds d sorts₀ numbers₀ widths h;
  }

  module _ {j : ℕ} {sorts numbers widths : List ℕ} (l : Looping text w refs places enumerations from to entries sorts₀ numbers₀ j sorts numbers widths) where
    module _ {widths₀ mem₀ table₀ : List ℕ} (g : TurnsGiven text w refs places enumerations from to sorts₀ numbers₀ widths₀ mem₀ table₀ entries) (inside : j < to) where
      at_turn : Turning text w refs g.found entries g.names places enumerations from to g.x false g.ds g.d j sorts numbers widths
      at_turn = l.turning g.found g.names g.x false g.ds g.d g.declared

      -- its own entry, and the number of its name
      pub looping-inside : {k : ℕ} → k ≡ get_or places j 0 → k < max_tokens
      looping-inside q = let i = next-inside text w refs g.found entries g.names places enumerations from to g.x false g.ds g.d j sorts numbers widths inside at_turn in omega arith

      pub looping-small : {k r : ℕ} → k ≡ get_or places j 0 → r ≡ get_or refs k 0 → r < max_names
      looping-small q e =
          subst (λ (i : ℕ). i < max_names) (sym (e ∙ ap (λ (i : ℕ). get_or refs i 0) q))
          (next_small text w refs g.found entries g.names places enumerations from to g.x false g.ds g.d j sorts numbers widths inside at_turn)

      pub looping-sizable : {mem table : List ℕ} {k e : ℕ} → k ≡ get_or places j 0 → e ≡ get_or enumerations j 0 → Room refs sorts numbers mem table entries
          → Sizable text w refs sorts numbers mem table entries k e
      looping-sizable {k = k} {e} hk he r =
          next-sizable text w refs g.found entries g.names places enumerations from to g.x false g.ds g.d j sorts numbers widths inside at_turn k e hk he r

    -- what its width comes to
    module _ (inside : j < to) {k e : ℕ} {v : Returned ℕ} (hk : k ≡ get_or places j 0) (he : e ≡ get_or enumerations j 0) (f : WidthTold text w refs sorts numbers k e v) where
      pub looping-stopped : {a : Returned Sized} {u : Refusal} → v ≡ Err u → a ≡ Err u → (found : List ℕ) (names : ℕ) (x : Spec) (output : Bool) (ds : List Declaration) (d : Table)
          → Declared text w refs found entries names places enumerations from to sorts₀ numbers₀ x ds d → TurnsTold text w x output ds d from a
      looping-stopped {a} {u} s z found names x output ds d h =
          subst (TurnsTold text w x output ds d from) (sym z)
          (turning-stopped text w refs found entries names places enumerations from to x output ds d j sorts numbers widths inside
          (l.turning found names x output ds d h) k e hk he v f u s)

      pub looping-more : {n r sort : ℕ} → v ≡ Ok n → r ≡ get_or refs k 0 → sort ≡ sort_of n → max_names ≤ length sorts → max_names ≤ length numbers → j < length widths
          → Looping text w refs places enumerations from to entries sorts₀ numbers₀ (j + 1) (set sorts r sort) (set numbers r n) (set widths j n)
      looping-more {n} {r} {sort} u hr hs a b c = record {
        turning = λ found names x output ds d h.
            turning-more text w refs found entries names places enumerations from to x output ds d j sorts numbers widths inside (l.turning found names x output ds d h) k e hk he v f n r sort u hr hs
            a b c;
      }

    pub looping-all : to ≤ j → (found : List ℕ) (names : ℕ) (x : Spec) (output : Bool) (ds : List Declaration) (d : Table)
        → Declared text w refs found entries names places enumerations from to sorts₀ numbers₀ x ds d → TurnsTold text w x output ds d from (Ok (record { names = record { sorts = sorts; numbers = numbers }; widths = widths }))
    looping-all a found names x output ds d h =
        turning-all text w refs found entries names places enumerations from to x output ds d j sorts numbers widths a (l.turning found names x output ds d h)
