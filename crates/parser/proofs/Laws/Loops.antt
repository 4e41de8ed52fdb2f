-- Loops that read a list: what the definition answers is what it answers on the tokens that are left, with the elements read so far put before. Each turn takes a token, so
-- the definition's fuel, the number of tokens at first, is enough.
use Rattle.std.specs.Prelude.{Ok, Err}
use Prim.Native.Nat.{ℕ, zero, suc, ◌+◌, ◌≤◌, ◌<◌}
use native.Mathlib.Omega.{arith}
use mathlib.Core.List.{List, [], ◌∷◌, ◌++◌, append-nil, append_assoc}
use mathlib.Core.Path.{◌≡◌, refl, sym, ap, ◌∙◌}
use lib.ListN.{length, drop, length-drop}
use Rattle.node.specs.Returned.{refusal}
use Rattle.node.specs.Result.{Done, Refused, ◌>>=◌}
use Rattle.language.specs.Grammar.{Tokens, Read}
use Rattle.entries.specs.Flat.{Entry, each}
use Rattle.entries.specs.declared.Cursor.{Cursor}
use Rattle.entries.specs.Parse.{Parse}
use Rattle.entries.specs.Cursors.{Ready, Readied}
use Rattle.entries.specs.Reads.{Kept, Took, Reads, no_entries}
use Rattle.entries.specs.ReadsLaws.{kept_same, kept_then, ready-kept}
use Rattle.entries.specs.TokenReads.{took_none}
use Rattle.parser.specs.Steps.{onto, onto-done, onto-refused, onto_none, onto-more}
use Rattle.parser.proofs.Laws.Rows.{took_then, took_as, reads-done, reads-refused, reads-tail}

each_append : {A : Type 0} (g : A → List Entry) (xs ys : List A) → each g (xs ++ ys) ≡ each g xs ++ each g ys
each_append g [] ys = refl
each_append g (x ∷ xs) ys = ap (λ l. g x ++ l) (each_append g xs ys) ∙ sym (append_assoc (g x) (each g xs) (each g ys))

each-one : {A : Type 0} (g : A → List Entry) (x : A) → g x ≡ each g (x ∷ [])
each-one g x = sym (append-nil (g x))

-- at least one token is left, the text's end
pub left_some : {ts : Tokens} {w : List ℕ} {c : Cursor} → Ready ts w c → 1 ≤ length (drop c.at ts)
left_some {ts} {c = c} r = omega (arith, length-drop c.at ts, r.tells.total, r.fits.inside)

-- x is the definition's answer on all tokens, `now` its answer on those that are left
pub record Going {A : Type 0} (g : A → List Entry) (x now : Read (List A)) (ts : Tokens) (w v : List ℕ) (s d : Cursor) : Type 0 where
  pub so_far : List A
  pub answer : x ≡ onto so_far now
  pub kept : Kept w v s.out
  pub took : Took ts v s d (each g so_far)

module _ {A : Type 0} {g : A → List Entry} {ts : Tokens} where
  pub going_start : {x now : Read (List A)} {w : List ℕ} {s : Cursor} → Ready ts w s → x ≡ now → Going g x now ts w w s s
  going_start {x} {now} {w} {s} r e = record { so_far = []; answer = e ∙ onto_none now; kept = kept_same w s.out; took = took_none r }

  module _ {x now : Read (List A)} {w v : List ℕ} {s d : Cursor} (h : Going g x now ts w v s d) where
    grown : s.out ≤ d.out
    grown = omega (arith, h.took.out)

    module _ {z : List ℕ} (k : Kept v z d.out) where
      kept : Kept w z s.out
      kept = kept_then grown h.kept k

      pub going-refused : {q : Parse} {n p : ℕ} → q ≡ Err (refusal n p) → now ≡ Refused n p → Reads ts w z s (each g) x q
      going-refused m e = reads-refused m (h.answer ∙ onto-refused h.so_far e) kept

      pub going_done : {e : Cursor} (ys : List A) → now ≡ Done (ys, drop e.at ts) → Took ts z d e (each g ys) → Reads ts w z s (each g) x (Ok e)
      going_done ys e t =
          reads-done (h.so_far ++ ys) (h.answer ∙ onto-done h.so_far e) kept (took_as (sym (each_append g h.so_far ys)) (took_then h.took k t))

      pub going-last : {e : Cursor} (y : A) → now ≡ Done (y ∷ [], drop e.at ts) → Took ts z d e (g y) → Reads ts w z s (each g) x (Ok e)
      going-last y e t = going_done (y ∷ []) e (took_as (each-one g y) t)

      -- what is left is read as a whole
      pub going-rest : {z' : List ℕ} {e : Cursor} {y : Read (List A)} {q : Parse} → now ≡ y → Took ts z d e [] → Reads ts z z' e (each g) y q → Reads ts w z' s (each g) x q
      unfolding onto
      going-rest f t r = reads-tail (λ ys. h.so_far ++ ys) (h.answer ∙ ap (onto h.so_far) f) (λ ys. each_append g h.so_far ys) kept
          (took_as (append-nil (each g h.so_far)) (took_then h.took k t)) r

      -- a last token, and no element behind it
      pub going-tail : {z' : List ℕ} {B : Type 0} {e : Cursor} {y : Read B} {q : Parse} (ys : List A) → now ≡ (y >>= λ (b, us). Done (ys, us)) → Took ts z d e (each g ys)
          → Reads ts z z' e no_entries y q → Reads ts w z' s (each g) x q
      going-tail {e = e} {y} ys f t r =
          going-rest f (took_none (ready-kept k h.took.ready)) (reads-tail (λ b. ys) refl (λ b. sym (append-nil (each g ys))) (kept_same z d.out) t r)

      -- one turn more
      pub going_more : {later : Read (List A)} {e : Cursor} (y : A) → now ≡ (later >>= λ (ys, us). Done (y ∷ ys, us)) → Took ts z d e (g y) → Going g x later ts w z s e
      going_more {later} y f t =
          record {
            so_far = h.so_far ++ (y ∷ []);
            answer = h.answer ∙ ap (onto h.so_far) f ∙ onto-more h.so_far y later;
            kept = kept;
            took = took_as (sym (each_append g h.so_far (y ∷ []))) (took_then h.took k (took_as (each-one g y) t));
          }

-- with fuel for the tokens that are left, m of which are no element's
pub record Listing {A : Type 0} (g : A → List Entry) (m : ℕ) (step : ℕ → Tokens → Read (List A)) (x : Read (List A)) (ts : Tokens) (w v : List ℕ) (s d : Cursor) : Type 0 where
  pub fuel : ℕ
  pub enough : length (drop d.at ts) ≤ m + suc fuel
  pub going : Going g x (step (suc fuel) (drop d.at ts)) ts w v s d

module _ {A : Type 0} {g : A → List Entry} {m : ℕ} {step : ℕ → Tokens → Read (List A)} {ts : Tokens} {x : Read (List A)} {w : List ℕ} {s : Cursor} where
  pub listing_start : (f : ℕ) → Ready ts w s → x ≡ step f (drop s.at ts) → length (drop s.at ts) ≤ m + f → m < length (drop s.at ts) → Listing g m step x ts w w s s
  listing_start zero r e l b = absurd (omega arith)
  listing_start (suc f) r e l b = record { fuel = f; enough = l; going = going_start r e }

  module _ {v : List ℕ} {d : Cursor} (h : Listing g m step x ts w v s d) where
    -- the definition's answer on the tokens that are left
    abbrev pub current : Read (List A)
    current = step (suc h.fuel) (drop d.at ts)

    pub listing-more : {z : List ℕ} {e : Cursor} → Kept v z d.out → (y : A) → current ≡ (step h.fuel (drop e.at ts) >>= λ (ys, us). Done (y ∷ ys, us)) → Took ts z d e (g y) →
        d.at < e.at → m < length (drop e.at ts) → Listing g m step x ts w z s e
    listing-more {z} {e} k y f t l b = go h.fuel refl
      where
        lengths : length (drop e.at ts) < length (drop d.at ts)
        lengths = omega (arith, length-drop e.at ts, length-drop d.at ts)

        go : (n : ℕ) → h.fuel ≡ n → Listing g m step x ts w z s e
        go zero q = absurd (omega (arith, h.enough, lengths))
        go (suc n) q = record { fuel = n; enough = omega (arith, h.enough, lengths); going = going_more h.going k y (f ∙ ap (λ j. step j (drop e.at ts) >>= λ (ys, us). Done (y ∷ ys, us)) q) t }

-- a loop's invariant: whatever the tokens are that the buffer w holds
abbrev pub Lists : {A : Type 0} → (A → List Entry) → ℕ → (ℕ → Tokens → Read (List A)) → (Tokens → Read (List A)) → List ℕ → List ℕ → Cursor → Cursor → Type 0
Lists g m step D w v s d = (ts : Tokens) → Ready ts w s → Listing g m step (D (drop s.at ts)) ts w v s d

-- a call in the loop may read on
pub listing_readied : {A : Type 0} {g : A → List Entry} {m : ℕ} {step : ℕ → Tokens → Read (List A)} {x : Read (List A)} {w v : List ℕ} {s d : Cursor} (r : Readied w s)
    → Listing g m step x r.tokens w v s d → Readied v d
listing_readied r h = record { tokens = r.tokens; ready = h.going.took.ready }
