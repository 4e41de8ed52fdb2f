-- What INFO says, from the numbers of the words that say it.
use Rattle.std.specs.Prelude.{Ok, Err}
use Prim.Native.Nat.{ℕ, ◌+◌, ◌-◌}
use native.Mathlib.Omega.{arith}
use mathlib.Core.List.{List, []}
use mathlib.Core.Bool.{Bool, true, false}
use mathlib.Core.Path.{◌≡◌, refl, sym, ap, ◌∙◌, subst}
use lib.Dec.{eqb}
use lib.ListN.{drop}
use borrow.Author.Tests.{eqb-true}
use Rattle.node.specs.declared.Refusal.{Refusal}
use Rattle.node.specs.Returned.{Returned}
use Rattle.node.specs.Result.{Result, Done, ◌>>=◌}
use Rattle.node.proofs.ResultLaws.{not_done, bind_done, bind_to}
use Rattle.language.specs.Bytes.{if◌then◌otherwise◌}
use Rattle.language.specs.Tree.{Model, Mealy, Moore}
use Rattle.language.specs.Grammar.{Tokens, Read, front, rest, stop, next, expect}
use Rattle.language.specs.Sections.{model_of, strict_of, info_end}
use Rattle.lexer.specs.Numbers.{fixed}
use Rattle.entries.specs.declared.Cursor.{Cursor}
use Rattle.entries.specs.Parse.{Parse}
use Rattle.entries.specs.Cursors.{Ready, number_at, place_at}
use Rattle.entries.specs.CursorLaws.{ready-place}
use Rattle.entries.specs.TokenReads.{next_number_lem}
use Rattle.parser.specs.declared.Facts.{Facts}
use Rattle.parser.specs.Information.{pair_of, to_semantics, to_target, closing_of, Info, information_of}
use Rattle.language.specs.Models.{model_code}
use Rattle.parser.specs.Outlines.{told_of, behind, Informs}
use Rattle.parser.proofs.Laws.Rows.{Accepted, accepted}
use Rattle.parser.proofs.Laws.Skims.{Skims, skim_then, skim_map}

-- two answers that are the same
done-value : {A B : Type 0} {a b : A} {u v : B} → ◌≡◌ {A = Result (A × B)} (Done (a, u)) (Done (b, v)) → a ≡ b
done-value {A} {B} {a} {b} {u} {v} e = let p : ◌≡◌ {A = A × B} (a, u) (b, v) = cc in ap (λ z. z.0) p

ok-value : {A B : Type 0} {a b : A} {u v : B} → ◌≡◌ {A = Returned (A × B)} (Ok (a, u)) (Ok (b, v)) → a ≡ b
ok-value {A} {B} {a} {b} {u} {v} e = let p : ◌≡◌ {A = A × B} (a, u) (b, v) = cc in ap (λ z. z.0) p

module _ {ts : Tokens} {w : List ℕ} {c : Cursor} (ready : Ready ts w c) where
  -- the model's word
  pub model_number : {m : Model} {us : Tokens} → model_of (drop c.at ts) ≡ Done (m, us) → number_at w c ≡ fixed "Mealy" + model_code m
  model_number {m} {us} e = go (next "Mealy" (drop c.at ts)) refl (next "Moore" (drop c.at ts)) refl e
    where
      go : (a : Bool) → next "Mealy" (drop c.at ts) ≡ a → (b : Bool) → next "Moore" (drop c.at ts) ≡ b →
          (if a then Done (Mealy, rest (drop c.at ts)) otherwise (if b then Done (Moore, rest (drop c.at ts)) otherwise stop (drop c.at ts))) ≡ Done (m, us) → number_at w c ≡ fixed "Mealy" + model_code m
      go true x b y z = eqb-true (number_at w c) _ (sym (next_number_lem ready "Mealy" refl) ∙ x) ∙ ap (λ n. fixed "Mealy" + model_code n) (done-value z)
      go false x true y z = eqb-true (number_at w c) _ (sym (next_number_lem ready "Moore" refl) ∙ y) ∙ ap (λ n. fixed "Mealy" + model_code n) (done-value z)
      go false x false y z = absurd (not_done z)

  -- the comma before Strict
  strictness_number : {s : Bool} {us : Tokens} → strict_of (drop c.at ts) ≡ Done (s, us) → eqb (number_at w c) (fixed ",") ≡ s
  strictness_number {s} {us} e = sym (next_number_lem ready "," refl) ∙ go (next "," (drop c.at ts)) e
    where
      go : (a : Bool) → ◌≡◌ {A = Read Bool} (elim a [ true ↦ expect "Strict" (rest (drop c.at ts)) >>= λ (t, vs). Done (true, vs) | false ↦ Done (false, drop c.at ts) ]) (Done (s, us)) → a ≡ s
      go true z = done-value (bind_done (expect "Strict" (rest (drop c.at ts))) _ z).2
      go false z = done-value z

  target-strict : {s : Bool} {us : Tokens} → to_target (drop c.at ts) ≡ Done (s, us) → eqb (number_at w c) (fixed ",") ≡ s
  target-strict e =
      let a = bind_done (strict_of (drop c.at ts)) _ e in
      let b = bind_done (pair_of "TARGET" ":" a.0.1) _ a.2 in
      strictness_number a.1 ∙ done-value b.2

  pub closing_number : {m : Model} {us : Tokens} → closing_of (drop c.at ts) ≡ Done (m, us) → number_at w c ≡ fixed "Mealy" + model_code m
  closing_number e =
      let a = bind_done (model_of (drop c.at ts)) _ e in
      let b = bind_done (info_end a.0.1) _ a.2 in
      model_number a.1 ∙ ap (λ n. fixed "Mealy" + model_code n) (done-value b.2)

-- a refusal says nothing
pub uninformed : {ts : Tokens} {w : List ℕ} {c : Cursor} {x : Read Info} {q : Parse} {e : Refusal} {r : Returned (Facts × Cursor)} → q ≡ Err e → r ≡ Err e → Skims ts w c x q → Informs ts w c x r
uninformed {ts} {w} {c} {x} {e = e} {r = r} m n h = record { reads = subst (Skims ts w c x) (m ∙ sym (ap behind n)) h; facts = λ f d i us o y. never f d (sym n ∙ o) }
  where
    never : (f : Facts) (d : Cursor) {B : Type 0} → ◌≡◌ {A = Returned (Facts × Cursor)} (Err e) (Ok (f, d)) → B
    never f d z = absurd (cc)

module _ {ts : Tokens} {w : List ℕ} {c d e f : Cursor} {q₁ q₂ q₃ q₄ : Parse} (r₁ : Skims ts w c (to_semantics (drop c.at ts)) q₁) (m₁ : q₁ ≡ Ok d)
    (r₂ : Skims ts w d (model_of (drop d.at ts)) q₂) (m₂ : q₂ ≡ Ok e)
    (r₃ : Skims ts w e (to_target (drop e.at ts)) q₃) (m₃ : q₃ ≡ Ok f) (r₄ : Skims ts w f (closing_of (drop f.at ts)) q₄) where
  abbrev answer : Read Info
  answer = information_of (drop c.at ts)

  pub all_read : Skims ts w c answer q₄
  all_read =
      skim_then r₁ _ m₁ (λ a. skim_then r₂ _ m₂ (λ m. skim_then r₃ _ m₃ (λ s.
      skim_map (accepted m₃ r₃).took.ready (λ n. record { semantics = m; strict = s; target = n; target_word = front (drop f.at ts) }) r₄)))

  module _ {g : Cursor} (m₄ : q₄ ≡ Ok g) where
    semantics : Accepted ts w d e (λ m. []) (model_of (drop d.at ts))
    semantics = accepted m₂ r₂

    said : Info
    said = record { semantics = semantics.value; strict = (accepted m₃ r₃).value; target = (accepted m₄ r₄).value; target_word = front (drop f.at ts) }

    said_read : answer ≡ Done (said, drop g.at ts)
    unfolding said
    said_read = bind_to _ _ _ (accepted m₁ r₁).read ∙ bind_to _ _ _ semantics.read ∙ bind_to _ _ _ (accepted m₃ r₃).read ∙ bind_to _ _ _ (accepted m₄ r₄).read

    pub informed : {k k' p : ℕ} {b : Bool} {r : Returned (Facts × Cursor)} → k ≡ number_at w d → b ≡ eqb (number_at w e) (fixed ",") → k' ≡ number_at w f → p ≡ place_at w f →
        r ≡ Ok (record { semantics = k - fixed "Mealy"; strict = b; target = k' - fixed "Mealy"; place = p }, g) → Informs ts w c answer r
    unfolding said
    informed {k} {k'} {p} {b} {r} x y z u n =
        record {
          reads = subst (Skims ts w c answer) (m₄ ∙ sym (ap behind n)) all_read;
          facts = λ f d i us o e. ok-value (sym o ∙ n) ∙ facts ∙ ap told_of (done-value (sym said_read ∙ e));
        }
      where
        made : ℕ → Bool → ℕ → ℕ → Facts
        made a s t l = record { semantics = a; strict = s; target = t; place = l }

        facts : made (k - fixed "Mealy") b (k' - fixed "Mealy") p ≡ told_of said
        facts =
            ap (λ a. made a b (k' - fixed "Mealy") p) (omega (arith, model_number (accepted m₁ r₁).took.ready semantics.read))
            ∙ ap (λ s. made (model_code semantics.value) s (k' - fixed "Mealy") p) (y ∙ target-strict semantics.took.ready (accepted m₃ r₃).read)
            ∙ ap (λ t. made (model_code semantics.value) (accepted m₃ r₃).value t p) (omega (arith, closing_number (accepted m₃ r₃).took.ready (accepted m₄ r₄).read))
            ∙ ap (made (model_code semantics.value) (accepted m₃ r₃).value (model_code (accepted m₄ r₄).value)) (u ∙ ready-place (accepted m₃ r₃).took.ready)
