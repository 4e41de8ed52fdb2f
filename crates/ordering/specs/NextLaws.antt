-- What comes next at a node, as the code finds it: the arity by tests of the kind, and the ways through the definition with the fields that were read.
use Rattle.std.specs.Prelude.{ℕ, zero, suc, ◌-◌, ◌^◌, ◌≤◌, ◌<◌, ◌≡◌, refl, List, ◌≢◌, Bool, cond, get_or, ltb}
use Rattle.std.proofs.Common.{ap, ap₂, ◌∙◌, sym, arith, lt-ltb, le-ltb}
use Rattle.node.specs.Limits.{max_nodes, field_limit, kind_limit}
use Rattle.node.specs.Fields.{pack, kind_of, first_of, second_of}
use Rattle.node.specs.Ltl.{Not, X, F}
use Rattle.node.specs.Kinds.{kind_count, unary_kind, has_two}
use Rattle.node.proofs.KindLaws.{by_kind, no_shape}
use Rattle.sharing.proofs.FormedLaws.{split-pack}
use Rattle.ordering.specs.declared.Next.{Next}
use Rattle.ordering.specs.declared.Next.TheVariants.{Operand, Word}
use Rattle.ordering.specs.Ordering.{arity_of, numbered, next_by, next_of, Readable}

arity_tests : (k : ℕ) → cond (ltb k (unary_kind Not)) 0 (cond (has_two k) 2 1) ≡ arity_of k
arity_tests =
    by_kind (λ k. cond (ltb k (unary_kind Not)) 0 (cond (has_two k) 2 1) ≡ arity_of k) ((((((((((((((tt, refl), refl), refl), refl), refl), refl), refl), refl), refl), refl), refl), refl), refl), refl) above
  where
    above : (k : ℕ) → kind_count ≤ k → cond (ltb k (unary_kind Not)) 0 (cond (has_two k) 2 1) ≡ arity_of k
    above k h = rw (no_shape h, le-ltb k (unary_kind Not) (omega arith), lt-ltb (unary_kind Not) k (omega arith), le-ltb k (unary_kind X) (omega arith), lt-ltb (unary_kind F) k (omega arith))

pub arity_none : (k : ℕ) → k < unary_kind Not → 0 ≡ arity_of k
arity_none k h = sym (ap (λ (t : Bool). cond t 0 (cond (has_two k) 2 1)) (lt-ltb k (unary_kind Not) h)) ∙ arity_tests k

pub arity_some : (k : ℕ) (t : Bool) → unary_kind Not ≤ k → has_two k ≡ t → cond t 2 1 ≡ arity_of k
arity_some k t h e = sym (ap₂ (λ (s : Bool) (u : Bool). cond s 0 (cond u 2 1)) (le-ltb k (unary_kind Not) h) e) ∙ arity_tests k

-- an operand that has a number
numbered_some : (a m : ℕ) (rest : ℕ → Next) → m ≢ 0 → numbered a m rest ≡ rest (m - 1)
numbered_some a zero rest h = absurd (h refl)
numbered_some a (suc v) rest h = ap rest (omega arith)

-- the ways through the definition
module _ (memo : List ℕ) (k a b : ℕ) where
  by_none : (n : ℕ) → n ≡ 0 → next_by memo k a b n ≡ Word (pack k a b)
  by_none n e = ap (next_by memo k a b) e

  by_first : (n : ℕ) → n ≢ 0 → get_or memo a 0 ≡ 0 → next_by memo k a b n ≡ Operand a
  by_first zero h e = absurd (h refl)
  by_first (suc zero) h e = ap (λ m. numbered a m (λ v. Word (pack k v 0))) e
  by_first (suc (suc n)) h e = ap (λ m. numbered a m (λ v. numbered b (get_or memo b 0) (λ u. Word (pack k v u)))) e

  module _ (some : get_or memo a 0 ≢ 0) where
    by_one : (n : ℕ) → n ≡ 1 → next_by memo k a b n ≡ Word (pack k (get_or memo a 0 - 1) 0)
    by_one n e = ap (next_by memo k a b) e ∙ numbered_some a (get_or memo a 0) (λ v. Word (pack k v 0)) some

    by_both : (n : ℕ) → n ≢ 0 → n ≢ 1 → next_by memo k a b n ≡ numbered b (get_or memo b 0) (λ u. Word (pack k (get_or memo a 0 - 1) u))
    by_both zero h g = absurd (h refl)
    by_both (suc zero) h g = absurd (g refl)
    by_both (suc (suc n)) h g = numbered_some a (get_or memo a 0) (λ v. numbered b (get_or memo b 0) (λ u. Word (pack k v u))) some

-- kinds and numbers fit their fields
pub kind_fits : {w k : ℕ} → w < 2 ^ 32 → k ≡ kind_of w → k < kind_limit
kind_fits h e = omega arith

pub number_fits : {memo : List ℕ} {w : ℕ} (a : ℕ) {f : ℕ} → Readable memo w → f ≡ get_or memo a 0 → f - 1 < field_limit
number_fits a r e = let m = r.few a in omega arith

-- and as the code goes them, with the fields that it has read
pub record FieldsRead (w k a b n : ℕ) : Type 0 where
  pub kind : k ≡ kind_of w
  pub first : a ≡ first_of w
  pub second : b ≡ second_of w
  pub arity : n ≡ arity_of k

module _ {w k a b n : ℕ} (read : FieldsRead w k a b n) where
  -- what it asks of them
  module _ {memo : List ℕ} (readable : Readable memo w) where
    own-arity : n ≡ arity_of (kind_of w)
    own-arity = read.arity ∙ ap arity_of read.kind

    pub first-inside : n ≢ 0 → a < max_nodes
    first-inside h = let o = own-arity in let e = read.first in let i = readable.first (omega arith) in omega arith

    pub second-inside : n ≢ 0 → n ≢ 1 → b < max_nodes
    second-inside h g = let o = own-arity in let e = read.second in let i = readable.second (omega arith) in omega arith

  module _ (memo : List ℕ) where
    by-fields : next_by memo k a b n ≡ next_of memo w
    unfolding next_of
    by-fields = rw (read.arity, read.kind, read.first, read.second)

    pub next-none : n ≡ 0 → Word w ≡ next_of memo w
    next-none z =
        let same : pack k a b ≡ w = rw (read.kind, read.first, read.second) (split-pack w) in
        ap Word (sym same) ∙ sym (by_none memo k a b n z) ∙ by-fields

    module _ {f : ℕ} (is-first : f ≡ get_or memo a 0) (not_None : n ≢ 0) where
      pub next-first : f ≡ 0 → Operand a ≡ next_of memo w
      next-first z = sym (by_first memo k a b n not_None (sym is-first ∙ z)) ∙ by-fields

      module _ (some : f ≢ 0) where
        pub next_one : {x : ℕ} → n ≡ 1 → x ≡ pack k (f - 1) 0 → Word x ≡ next_of memo w
        next_one o e = ap Word (e ∙ ap (λ (m : ℕ). pack k (m - 1) 0) is-first) ∙ sym (by_one memo k a b (λ z. some (is-first ∙ z)) n o) ∙ by-fields

        module _ (not-one : n ≢ 1) {s : ℕ} (is-second : s ≡ get_or memo b 0) where
          both : numbered b s (λ u. Word (pack k (f - 1) u)) ≡ next_of memo w
          both =
              ap₂ (λ (m : ℕ) (l : ℕ). numbered b m (λ u. Word (pack k (l - 1) u))) is-second is-first
              ∙ sym (by_both memo k a b (λ z. some (is-first ∙ z)) n not_None not-one) ∙ by-fields

          pub next-second : s ≡ 0 → Operand b ≡ next_of memo w
          next-second z = sym (ap (λ (m : ℕ). numbered b m (λ u. Word (pack k (f - 1) u))) z) ∙ both

          pub next-two : {x : ℕ} → s ≢ 0 → x ≡ pack k (f - 1) (s - 1) → Word x ≡ next_of memo w
          next-two h e = ap Word e ∙ sym (numbered_some b s (λ u. Word (pack k (f - 1) u)) h) ∙ both
