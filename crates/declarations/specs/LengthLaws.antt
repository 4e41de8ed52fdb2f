-- The lengths that are promised of what is noted: nothing where there is a refusal, and of what is noted itself.
use Rattle.std.specs.Prelude.{ℕ, List, ◌≡◌, Ok, Err, length}
use Rattle.std.proofs.Common.{sym, ap, ◌∙◌, subst, arith}
use Rattle.node.specs.Returned.{Returned}
use Rattle.node.specs.declared.Refusal.{Refusal}
use Rattle.language.specs.Limits.{max_names}
use Rattle.declarations.specs.declared.evaluate.Names.{Names}
use Rattle.declarations.specs.declared.turns.Sized.{Sized}
use Rattle.declarations.specs.Expressions.{LengthKept, Lengths}
use Rattle.declarations.specs.Turns.{Before, StayBefore, SizedLengths}

-- a refusal is no value
tag : {A : Type 0} → Returned A → ℕ
tag (Ok a) = 1
tag (Err e) = 0

no_value : {A : Type 0} {r : Returned A} {e : Refusal} {a : A} → r ≡ Err e → r ≡ Ok a → ⊥
unfolding tag
no_value q p = let z : ◌≡◌ {A = ℕ} 0 1 = sym (ap tag q) ∙ ap tag p in absurd (omega arith)

-- and a value is one value
value_or : {A : Type 0} → A → Returned A → A
value_or d (Ok a) = a
value_or d (Err e) = d

one_value : {A : Type 0} {a b : A} → ◌≡◌ {A = Returned A} (Ok a) (Ok b) → a ≡ b
unfolding value_or
one_value {a = a} e = ap (value_or a) e

pub kept_refused : (table table' : List ℕ) {A : Type 0} {r : Returned A} {e : Refusal} → r ≡ Err e → LengthKept table table' r
kept_refused table table' q a p = absurd (no_value q p)

pub lengths_refused : {table table' : List ℕ} {r : Returned Names} {e : Refusal} → r ≡ Err e → Lengths table table' r
lengths_refused q = record { table_kept = kept_refused _ _ q; sorts_full = λ a p. absurd (no_value q p); numbers_full = λ a p. absurd (no_value q p) }

pub lengths_noted : {table table' : List ℕ} {a : Names} → length table' ≡ length table → length a.sorts ≡ max_names → length a.numbers ≡ max_names → Lengths table table' (Ok a)
lengths_noted t s n = record {
  table_kept = λ b p. t;
  sorts_full = λ b p. ap (λ (i : Names). length i.sorts) (sym (one_value p)) ∙ s;
  numbers_full = λ b p. ap (λ (i : Names). length i.numbers) (sym (one_value p)) ∙ n;
}

pub before_refused : (n : ℕ) (old : List ℕ) {r : Returned Sized} {e : Refusal} → r ≡ Err e → StayBefore n old r
before_refused n old q a p = absurd (no_value q p)

pub before_sized : (n : ℕ) (old : List ℕ) {a : Sized} → Before n old a.widths → StayBefore n old (Ok a)
before_sized n old h b p = subst (λ (i : Sized). Before n old i.widths) (one_value p) h

pub sized_refused : {table table' : List ℕ} {r : Returned Sized} {e : Refusal} → r ≡ Err e → SizedLengths table table' r
sized_refused q = record {
  table_kept = kept_refused _ _ q;
  sorts_full = λ a p. absurd (no_value q p);
  numbers_full = λ a p. absurd (no_value q p);
  widths_full = λ a p. absurd (no_value q p);
}

pub sized_noted : {table table' : List ℕ} {a : Sized} → length table' ≡ length table → length a.names.sorts ≡ max_names → length a.names.numbers ≡ max_names → length a.widths ≡ max_names
    → SizedLengths table table' (Ok a)
sized_noted t s n w = record {
  table_kept = λ b p. t;
  sorts_full = λ b p. ap (λ (i : Sized). length i.names.sorts) (sym (one_value p)) ∙ s;
  numbers_full = λ b p. ap (λ (i : Sized). length i.names.numbers) (sym (one_value p)) ∙ n;
  widths_full = λ b p. ap (λ (i : Sized). length i.widths) (sym (one_value p)) ∙ w;
}
