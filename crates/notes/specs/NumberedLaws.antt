-- Lists by number, of which the last stands first, when what stands for the names changes.
use Rattle.std.specs.Prelude.{ℕ, Bool, true, false, ◌||◌, List, [], ◌∷◌, map, ◌≡◌, refl, eqb, length}
use Rattle.std.proofs.Common.{sym, ◌∙◌, subst, eqb-true, ne_eqb}
use Rattle.std.proofs.lemmas.List.{length-map}
use Rattle.std.proofs.lemmas.Bool.{eqb-false}
use Rattle.language.specs.Bytes.{same}
use Rattle.language.specs.Tokens.{Token}
use Rattle.language.specs.Names.{Names, visible}
use Rattle.language.proofs.Laws.Basics.Lists.{All, all_more}
use Rattle.language.proofs.Laws.Basics.Tests.{leave, same_equal}
use Rattle.language.proofs.Laws.Values.DistinctNames.{Apart, Distinct, Across, apart_sym}
use Rattle.names.specs.References.{number_in, pushed}
use Rattle.names.proofs.NumberingLaws.{number_same, number_other}
use Rattle.name_values.specs.World.{numbered}
use Rattle.name_values.proofs.AgreesLaws.{numbered-last}

numbered_else : {A : Type 0} (other a : A) (l : List A) (r : ℕ) → (r ≡ length l → ⊥) → numbered other (a ∷ l) r ≡ numbered other l r
unfolding numbered
numbered_else other a l r h = leave (eqb r (length l)) _ _ (ne_eqb r (length l) h)

module _ {A : Type 0} (other : A) (P : A → Type 0) (f g : Token → A) (r : ℕ) where
  -- whatever name it is
  pub numbered-moved : (ns : Names) → All (λ n. P (f n) → P (g n)) ns → P (numbered other (map f ns) r) → P (numbered other (map g ns) r)
  numbered-moved [] h p = p
  numbered-moved (n ∷ ns) h p = go (eqb r (length ns)) refl (numbered-moved ns h.1)
    where
      go : (b : Bool) → eqb r (length ns) ≡ b → (P (numbered other (map f ns) r) → P (numbered other (map g ns) r)) → P (numbered other (map g (n ∷ ns)) r)
      go true e ih =
          let q = eqb-true r (length ns) e in
          subst P (sym (numbered-last other (g n) (map g ns) r (q ∙ sym (length-map ns g)))) (h.0 (subst P (numbered-last other (f n) (map f ns) r (q ∙ sym (length-map ns f))) p))
      go false e ih =
          let q = eqb-false r (length ns) e in
          subst P (sym (numbered_else other (g n) (map g ns) r (λ d. q (d ∙ length-map ns g)))) (ih (subst P (numbered_else other (f n) (map f ns) r (λ d. q (d ∙ length-map ns f))) p))

  -- a name of another number than t's
  pub numbered_other : (ns : Names) (t : Token) → Distinct ns → visible ns t ≡ true → (r ≡ number_in ns t → ⊥) → ((n : Token) → Apart n t → P (f n) → P (g n)) → P (numbered other (map f ns) r)
      → P (numbered other (map g ns) r)
  numbered_other [] t d y h k p = p
  numbered_other (n ∷ ns) t d y h k p = go (same n.text t.text) refl (eqb r (length ns)) refl y (numbered_other ns t d.1)
    where
      go : (b : Bool) → same n.text t.text ≡ b → (c : Bool) → eqb r (length ns) ≡ c → (b || visible ns t) ≡ true
          → (visible ns t ≡ true → (r ≡ number_in ns t → ⊥) → ((m : Token) → Apart m t → P (f m) → P (g m)) → P (numbered other (map f ns) r) → P (numbered other (map g ns) r))
          → P (numbered other (map g (n ∷ ns)) r)
      go true e c u z ih =
          let a = number_same n ns t e in
          let q : r ≡ length ns → ⊥ = λ s. h (s ∙ sym a) in
          subst P (sym (numbered_else other (g n) (map g ns) r (λ s. q (s ∙ length-map ns g))))
          (numbered-moved ns (all_more (λ m v. k m (apart_sym t m (subst (λ l. same l m.text ≡ false) (same_equal n.text t.text e) v))) ns d.0)
          (subst P (numbered_else other (f n) (map f ns) r (λ s. q (s ∙ length-map ns f))) p))
      go false e true u z ih =
          let q = eqb-true r (length ns) u in
          subst P (sym (numbered-last other (g n) (map g ns) r (q ∙ sym (length-map ns g)))) (k n e (subst P (numbered-last other (f n) (map f ns) r (q ∙ sym (length-map ns f))) p))
      go false e false u z ih =
          let q = eqb-false r (length ns) u in
          subst P (sym (numbered_else other (g n) (map g ns) r (λ s. q (s ∙ length-map ns g))))
          (ih z (λ s. h (s ∙ sym (number_other n ns t e))) k (subst P (numbered_else other (f n) (map f ns) r (λ s. q (s ∙ length-map ns f))) p))

-- distinct names, the last first
pub distinct_pushed : (ns ms : Names) → Distinct ns → Distinct ms → Across ns ms → Distinct (pushed ns ms)
distinct_pushed [] ms d e a = e
distinct_pushed (n ∷ ns) ms d e a =
    distinct_pushed ns (n ∷ ms) d.1 (a.0, e)
    (both ns (all_more (λ m h. apart_sym n m h) ns d.0) a.1)
  where
    both : (ls : Names) → All (λ l. Apart l n) ls → Across ls ms → Across ls (n ∷ ms)
    both [] f g = tt
    both (l ∷ ls) f g = ((f.0, g.0), both ls f.1 g.1)
