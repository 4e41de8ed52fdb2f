-- The signs of bounds, as the grammar asks for them.
use Rattle.std.specs.Prelude.{ℕ, ◌+◌, List, [], ◌∷◌, Bool, true, false, ◌||◌, ◌≡◌, refl, eqb, drop}
use Rattle.std.proofs.Common.{sym, ◌∙◌}
use Rattle.std.proofs.Math.Path.{ap}
use Rattle.node.specs.Result.{Done, ◌>>=◌}
use Rattle.node.proofs.ResultLaws.{bind_at}
use Rattle.language.specs.Tokens.{Token}
use Rattle.language.specs.Grammar.{Tokens, Read, front, rest, stop, named, sign_of}
use Rattle.language.proofs.Laws.Basics.Tests.{pick, leave, or_left_false, or_right_false}
use Rattle.lexer.specs.Numbers.{fixed}
use Rattle.entries.specs.declared.Cursor.{Cursor}
use Rattle.entries.specs.Cursors.{Ready, number_at}
use Rattle.entries.specs.CursorLaws.{drop-next}
use Rattle.entries.specs.TokenReads.{next-named}
use Rattle.operators.specs.Signs.{strict_at}
use Rattle.operators.specs.SignLaws.{or_false}
use Rattle.expressions.specs.Frames.{is_strict}
use Rattle.expressions.specs.Signs.{sign_at}

module _ {ts : Tokens} {w : List ℕ} {c : Cursor} (ready : Ready ts w c) {B : Type 0} (K : (Token × Bool) × Tokens → Read B) where
  abbrev us : Tokens
  us = drop c.at ts

  strict-here : named ("<" ∷ "LE" ∷ []) (front us) ≡ strict_at (number_at w c)
  strict-here = next-named ready ("<" ∷ "LE" ∷ []) refl

  lax_here : named ("<=" ∷ "LEQ" ∷ []) (front us) ≡ (eqb (number_at w c) (fixed "<=") || eqb (number_at w c) (fixed "LEQ"))
  lax_here = next-named ready ("<=" ∷ "LEQ" ∷ []) refl ∙ ap (λ b. eqb (number_at w c) (fixed "<=") || b) (or_false (eqb (number_at w c) (fixed "LEQ")))

  pub sign-here : sign_at (number_at w c) ≡ true → (sign_of us >>= K) ≡ K ((front us, is_strict (front us)), drop (c.at + 1) ts)
  sign-here e = go (is_strict (front us)) refl
    where
      ends : (b : Bool) → is_strict (front us) ≡ b → sign_of us ≡ Done ((front us, b), rest us) → (sign_of us >>= K) ≡ K ((front us, is_strict (front us)), drop (c.at + 1) ts)
      ends b z q = ap (λ (r : Read (Token × Bool)). r >>= K) q ∙ bind_at ((front us, b), rest us) K ∙ ap (λ a. K ((front us, a), rest us)) (sym z) ∙ ap (λ vs. K ((front us, is_strict (front us)), vs))
          (sym (drop-next c.at ts))

      go : (b : Bool) → is_strict (front us) ≡ b → (sign_of us >>= K) ≡ K ((front us, is_strict (front us)), drop (c.at + 1) ts)
      go true z = ends true z (pick (is_strict (front us)) _ _ z)
      go false z =
          let lax : (eqb (number_at w c) (fixed "<=") || eqb (number_at w c) (fixed "LEQ")) ≡ true = ap (λ a. a || (eqb (number_at w c) (fixed "<=") || eqb (number_at w c) (fixed "LEQ"))) (sym z ∙ strict-here) ∙ e in
          ends false z (leave (is_strict (front us)) _ _ z ∙ pick (named ("<=" ∷ "LEQ" ∷ []) (front us)) _ _ (lax_here ∙ lax))

  pub sign_other : sign_at (number_at w c) ≡ false → (sign_of us >>= K) ≡ stop us
  unfolding ◌>>=◌
  sign_other e =
      ap (λ (r : Read (Token × Bool)). r >>= K)
      (leave (is_strict (front us)) _ _ (strict-here ∙ or_left_false (strict_at (number_at w c)) _ e) ∙ leave (named ("<=" ∷ "LEQ" ∷ []) (front us)) _ _
      (lax_here ∙ or_right_false (strict_at (number_at w c)) _ e))
