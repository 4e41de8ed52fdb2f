-- How each entry changes the pass's state.
use Rattle.std.specs.Prelude.{ℕ, zero, suc, ◌+◌, ◌≤◌, ◌<◌, List, [], ◌∷◌, ◌++◌, map, Bool, true, false, ◌≡◌, refl, leb, ltb, length, get_or, take, set}
use Rattle.std.proofs.lemmas.List.{map-append}
use Rattle.std.proofs.Math.Option.{some}
use Rattle.std.proofs.Math.Path.{sym, ap, subst}
use Rattle.std.proofs.Common.{ap₂, ◌∙◌, length-append, length-set, take-suc-set, get_or-set_same, get_or-set_other, add-one, arith, eqb-true, eq-eqb, ne_eqb, le-leb, lt-ltb, le-ltb}
use Rattle.std.proofs.Math.Dec.{eqb}
use Rattle.std.proofs.lemmas.Bool.{eqb-false, lt-leb}
use Rattle.language.specs.Limits.{max_words, max_marks}
use Rattle.language.specs.Places.{first}
use Rattle.language.proofs.Laws.Basics.Tests.{pick, leave}
use Rattle.lexer.specs.Stored.{offset_in, length_in}
use Rattle.entries.specs.Kinds as Kind
use Rattle.traversal.specs.declared.Cell.{Cell}
use Rattle.traversal.specs.Places.{placed, place_in}
use Rattle.traversal.specs.PlaceLaws.{place-placed}
use Rattle.enumerations.specs.declared.Progress.{Progress}
use Rattle.enumerations.specs.Pass.{Row, State, bytes_at, any_clash, size_of, shut, opened, tested, word, step}
use Rattle.enumerations.specs.RowLaws.{size-later}
use Rattle.enumerations.specs.Clashes.{clash_rows}
use Rattle.enumerations.specs.ClashLaws.{clash_rows_lem}
use Rattle.enumerations.specs.Progress.{marks_of, Agrees, Sized, Passes, shut_at}

pub as_told : {f : State → State} {p q q' : Progress} {os os' : List ℕ} {rs rs' : List (List ℕ)} → q ≡ q' → Passes f p q' os rs os' rs' → Passes f p q os rs os' rs'
as_told {f} {p} {os = os} {os' = os'} {rs = rs} {rs' = rs'} e h = subst (λ r. Passes f p r os rs os' rs') (sym e) h

shut-agrees : {s : State} {p : Progress} {os : List ℕ} {rs : List (List ℕ)} (place : ℕ) → Agrees s p os rs → Agrees (shut s place) (shut_at p place) os rs
shut-agrees {s} place a =
    record {
      owner = a.owner;
      size = a.size;
      closed = refl;
      count = a.count;
      owners = a.owners;
      rows = a.rows;
      found = ap (λ o. placed (first o (some place)))
          (ap place_in a.found ∙ place-placed s.found);
    }

module _ (text : List ℕ) {p : Progress} {os : List ℕ} {rs : List (List ℕ)} (z : Sized p os rs) (x : ℕ) where
  -- after a bad word
  pub passes-closed : p.closed ≡ true → Passes (word text x) p p os rs os rs
  unfolding word
  passes-closed e = record { sized = z; owner = omega arith; steps = λ s a. subst (λ t. Agrees t p os rs) (sym (pick s.closed _ _ (sym a.closed ∙ e))) a }

  module _ (e : p.closed ≡ false) {n : ℕ} (hn : n ≡ size_of p.count p.size (length_in x)) where
    opens : (s : State) → Agrees s p os rs → word text x s ≡ tested text x n s
    unfolding word
    opens s a =
        leave s.closed _ _ (sym a.closed ∙ e)
        ∙ ap (λ k. tested text x k s) (ap₂ (λ c m. size_of c m (length_in x)) (sym a.count) (sym a.size) ∙ sym hn)

    shuts : ((s : State) → Agrees s p os rs → tested text x n s ≡ shut s (offset_in x)) → Passes (word text x) p (shut_at p (offset_in x)) os rs os rs
    shuts f =
        record {
          sized = record { few = z.few; owners = z.owners; rows = z.rows; each = z.each };
          owner = omega arith;
          steps = λ s a. subst (λ t. Agrees t (shut_at p (offset_in x)) os rs) (sym (opens s a ∙ f s a)) (shut-agrees (offset_in x) a);
        }

    pub passes-unequal : (length_in x ≡ n → ⊥) → Passes (word text x) p (shut_at p (offset_in x)) os rs os rs
    unfolding tested
    passes-unequal h = shuts (λ s a. leave (eqb (length_in x) n) _ _ (ne_eqb _ _ h))

    module _ (same : length_in x ≡ n) where
      pub passes-long : max_marks < n → Passes (word text x) p (shut_at p (offset_in x)) os rs os rs
      unfolding tested
      passes-long h = shuts (λ s a. pick (eqb (length_in x) n) _ _ (eq-eqb _ _ same) ∙ leave (leb n max_marks) _ _ (lt-leb _ _ h))

      module _ (short : n ≤ max_marks) where
        pub passes-many : max_words ≤ p.count → Passes (word text x) p (shut_at p (offset_in x)) os rs os rs
        unfolding tested
        passes-many h =
            shuts (λ s a. pick (eqb (length_in x) n) _ _ (eq-eqb _ _ same) ∙ pick (leb n max_marks) _ _ (le-leb _ _ short)
            ∙ leave (ltb (length s.rows) max_words) _ _ (le-ltb (length s.rows) max_words (omega (arith, h, a.count))))

        module _ (room : p.count < max_words) (row : List ℕ) {b : Bool} (hr : take n row ≡ bytes_at text (offset_in x) n) (full : length row ≡ max_marks)
            (hb : b ≡ clash_rows n p.owner (take n row) (take p.count os) (take p.count rs)) where
          -- rows of the first word's size
          sized_rows : (s : State) → Agrees s p os rs → map (take n) (take p.count rs) ≡ marks_of s.rows
          sized_rows s a = go p.count refl
            where
              go : (k : ℕ) → p.count ≡ k → map (take n) (take p.count rs) ≡ marks_of s.rows
              go zero h = ap (λ c. map (take n) (take c rs)) h ∙ sym (ap (λ c. map (take s.size) (take c rs)) h) ∙ a.rows
              go (suc k) h =
                  let same : n ≡ s.size = hn ∙ sym (size-later p.count p.size (length_in x) (λ z. omega arith)) ∙ a.size in
                  ap (λ m. map (take m) (take p.count rs)) same ∙ a.rows

          clash-is : (s : State) → Agrees s p os rs → any_clash s.owner (bytes_at text (offset_in x) n) s.rows ≡ b
          clash-is s a = sym (hb ∙ clash_rows_lem n p.owner (take n row) s.rows (take p.count os) (take p.count rs) a.owners (sized_rows s a) ∙ ap₂ (λ o v. any_clash o v s.rows)
              a.owner hr)

          enters : (s : State) → Agrees s p os rs → tested text x n s ≡
              (elim (any_clash s.owner (bytes_at text (offset_in x) n) s.rows)
              [ true ↦ shut s (offset_in x) | false ↦ opened s n (record { owner = s.owner; marks = bytes_at text (offset_in x) n }) ])
          unfolding tested
          enters s a =
              pick (eqb (length_in x) n) _ _ (eq-eqb _ _ same) ∙ pick (leb n max_marks) _ _ (le-leb _ _ short) ∙ pick (ltb (length s.rows) max_words) _ _
              (lt-ltb (length s.rows) max_words (omega (arith, a.count, room)))

          pub passes-clash : b ≡ true → Passes (word text x) p (shut_at p (offset_in x)) os rs os rs
          passes-clash h = shuts (λ s a. enters s a ∙ pick (any_clash s.owner (bytes_at text (offset_in x) n) s.rows) _ _ (clash-is s a ∙ h))

          abbrev more : Progress
          more = record { owner = p.owner; count = p.count + 1; size = n; closed = false; found = p.found }

          push-agrees : (s : State) → Agrees s p os rs → Agrees (opened s n (record { owner = s.owner; marks = bytes_at text (offset_in x) n })) more (set os p.count p.owner)
              (set rs p.count row)
          push-agrees s a =
              record {
                owner = a.owner;
                size = refl;
                closed = refl;
                count = omega (arith, a.count, length-append s.rows (record { owner = s.owner; marks = bytes_at text (offset_in x) n } ∷ []));
                owners =
                    ap (λ k. take k (set os p.count p.owner)) (add-one p.count) ∙ take-suc-set os p.count p.owner (omega (arith, room, z.owners))
                    ∙ ap₂ (λ l o. l ++ (o ∷ [])) a.owners a.owner ∙ sym (map-append (λ (r : Row). r.owner) s.rows (record { owner = s.owner; marks = bytes_at text (offset_in x) n } ∷ []));
                rows =
                    ap (λ k. map (take n) (take k (set rs p.count row))) (add-one p.count) ∙ ap (map (take n)) (take-suc-set rs p.count row (omega (arith, room, z.rows)))
                    ∙ map-append (take n) (take p.count rs) (row ∷ []) ∙ ap₂ (λ l m. l ++ (m ∷ [])) (sized_rows s a) hr
                    ∙ sym (map-append (λ (r : Row). r.marks) s.rows (record { owner = s.owner; marks = bytes_at text (offset_in x) n } ∷ []));
                found = a.found;
              }

          each_row : (j : ℕ) → j < length (set rs p.count row) → length (get_or (set rs p.count row) j []) ≡ max_marks
          each_row j h = go (eqb j p.count) refl
            where
              go : (b : Bool) → eqb j p.count ≡ b → length (get_or (set rs p.count row) j []) ≡ max_marks
              go true e =
                  ap (λ k. length (get_or (set rs p.count row) k [])) (eqb-true j p.count e) ∙ ap length (get_or-set_same rs p.count row [] (omega (arith, room, z.rows))) ∙ full
              go false e = ap length (get_or-set_other rs p.count j row [] (eqb-false j p.count e)) ∙ z.each j (omega (arith, h, length-set rs p.count row))

          pub passes-open : b ≡ false → Passes (word text x) p more os rs (set os p.count p.owner) (set rs p.count row)
          passes-open h =
              record {
                sized = record { few = omega (arith, room); owners = length-set os p.count p.owner ∙ z.owners; rows = length-set rs p.count row ∙ z.rows; each = each_row };
                owner = omega arith;
                steps = λ s a. subst (λ t. Agrees t more (set os p.count p.owner) (set rs p.count row))
                    (sym (opens s a ∙ enters s a ∙ leave (any_clash s.owner (bytes_at text (offset_in x) n) s.rows) _ _ (clash-is s a ∙ h))) (push-agrees s a);
              }

-- entries of other kinds
module _ (text : List ℕ) {p : Progress} {os : List ℕ} {rs : List (List ℕ)} (z : Sized p os rs) {c d : Cell} (hc : c ≡ d) where
  kinds : (s : State) {q : Progress} {os' : List ℕ} {rs' : List (List ℕ)} {t : State} → step text c s ≡ t → Agrees t q os' rs' → Agrees (step text d s) q os' rs'
  kinds s {q} {os'} {rs'} e a = subst (λ b. Agrees (step text b s) q os' rs') hc (subst (λ u. Agrees u q os' rs') (sym e) a)

  pub passes-begun : c.kind ≡ Kind.enumeration → Passes (step text d) p (record { owner = 0; count = 0; size = 0; closed = false; found = p.found }) os rs os rs
  unfolding step
  passes-begun e =
      record {
        sized = record { few = omega arith; owners = z.owners; rows = z.rows; each = z.each };
        owner = omega arith;
        steps = λ s a. kinds s (pick (eqb c.kind Kind.enumeration) _ _ (eq-eqb _ _ e))
            (record { owner = refl; size = refl; closed = refl; count = refl; owners = refl; rows = refl; found = a.found });
      }

  pub passes-named : c.kind ≡ Kind.identifier → Passes (step text d) p (record { owner = p.owner + 1; count = p.count; size = p.size; closed = p.closed; found = p.found }) os rs os rs
  unfolding step
  passes-named e =
      record {
        sized = record { few = z.few; owners = z.owners; rows = z.rows; each = z.each };
        owner = omega arith;
        steps = λ s a. kinds s (leave (eqb c.kind Kind.enumeration) _ _ (ap (λ k. eqb k Kind.enumeration) e) ∙ pick (eqb c.kind Kind.identifier) _ _ (eq-eqb _ _ e))
            (record { owner = omega (arith, a.owner); size = a.size; closed = a.closed; count = a.count; owners = a.owners; rows = a.rows; found = a.found });
      }

  pub passes-word : {q : Progress} {os' : List ℕ} {rs' : List (List ℕ)} → c.kind ≡ Kind.word → Passes (word text c.token) p q os rs os' rs' → Passes (step text d) p q os rs os' rs'
  unfolding step
  passes-word e h =
      record {
        sized = h.sized;
        owner = h.owner;
        steps = λ s a. kinds s (leave (eqb c.kind Kind.enumeration) _ _ (ap (λ k. eqb k Kind.enumeration) e) ∙ leave (eqb c.kind Kind.identifier) _ _ (ap (λ k. eqb k Kind.identifier) e) ∙ pick
            (eqb c.kind Kind.word) _ _ (eq-eqb _ _ e)) (h.steps s a);
      }

  pub passes_by : (c.kind ≡ Kind.enumeration → ⊥) → (c.kind ≡ Kind.identifier → ⊥) → (c.kind ≡ Kind.word → ⊥) → Passes (step text d) p p os rs os rs
  unfolding step
  passes_by e f g =
      record {
        sized = z;
        owner = omega arith;
        steps = λ s a. kinds s (leave (eqb c.kind Kind.enumeration) _ _ (ne_eqb _ _ e) ∙ leave (eqb c.kind Kind.identifier) _ _ (ne_eqb _ _ f) ∙ leave (eqb c.kind Kind.word) _ _
            (ne_eqb _ _ g)) a;
      }
