-- The number of a declared name leads back to the entry that declares it.
use Prim.Native.Nat.{ℕ, zero, suc, ◌-◌, ◌≤◌, ◌<◌}
use Rattle.std.specs.Prelude.{List, [], ◌∷◌, Bool, true, false, ◌≡◌, refl, length, get_or, drop}
use Rattle.std.proofs.lemmas.Bool.{false≢true}
use Rattle.std.proofs.Common.{sym, ap, ◌∙◌, subst, arith}
use Rattle.language.specs.Bytes.{same}
use Rattle.language.specs.Limits.{max_names}
use Rattle.language.specs.Tokens.{Token}
use Rattle.language.specs.Tree.{Spec}
use Rattle.language.specs.Names.{Names}
use Rattle.language.proofs.Laws.Basics.Lists.{All}
use Rattle.language.proofs.Laws.Values.DistinctNames.{Apart, apart_sym, Distinct, distinct_names}
use Rattle.entries.specs.Kinds as Kind
use Rattle.entries.specs.Flat.{Entry, outline}
use Rattle.names.specs.Roles.{binds, ends, declares}
use Rattle.names.specs.Scan.{token_of}
use Rattle.names.specs.Declaring.{declared_in}
use Rattle.names.proofs.DeclaringLaws.{declared-outline}
use Rattle.names.specs.Balanced.{Balanced, after_binder_lem, after-end, after-declared, after_quiet, balanced_outline}
use Rattle.names.specs.Walkable.{entry_of}
use Rattle.names.proofs.WalkableLaws.{declares-names, rest_at}
use Rattle.names.proofs.MeetingLaws.{declared-here, declared_there}
use Rattle.names.specs.References.{number_in, reference}
use Rattle.names.specs.Walking.{open_after, open_before}
use Rattle.names.proofs.RoleLaws.{declares_only}
use Rattle.names.proofs.WalkBinders.{reference-outside}
use Rattle.names.proofs.RefersLaws.{open_kept, open_more, open_less}
use Rattle.names.specs.Resolved.{declared_names, Resolved}
use Rattle.names.proofs.ResolvedLaws.{number-found}
use Rattle.names.proofs.VisibleLaws.{In, in_declared}

-- the balance is that of the open names
balanced_next : (bs : Names) (n : Entry) (es : List Entry) → Balanced (length bs) (n ∷ es) → Balanced (length (open_after bs n)) es
balanced_next bs n es h = go (binds n.kind) (ends n.kind) (declares Kind.parameter n.kind) refl refl refl
  where
    opens : {os : Names} → open_after bs n ≡ os → Balanced (length os) es → Balanced (length (open_after bs n)) es
    opens e g = subst (λ os. Balanced (length os) es) (sym e) g

    ended : (os : Names) → binds n.kind ≡ false → ends n.kind ≡ true → Balanced (length os) (n ∷ es) → Balanced (length (open_after os n)) es
    ended [] x y g = absurd (let l = (after-end 0 n es x y g).0 in omega arith)
    ended (o ∷ os) x y g =
        let e : length (o ∷ os) - 1 ≡ length os = omega arith in
        subst (λ us. Balanced (length us) es) (sym (open_less o os n x y)) (subst (λ d. Balanced d es) e (after-end (length (o ∷ os)) n es x y g).1)

    go : (b e d : Bool) → binds n.kind ≡ b → ends n.kind ≡ e → declares Kind.parameter n.kind ≡ d → Balanced (length (open_after bs n)) es
    go true e d x y z = opens (open_more bs n x) (after_binder_lem (length bs) n es x h)
    go false true d x y z = ended bs x y h
    go false false true x y z = opens (open_kept bs n x y) (after-declared (length bs) n es x y z h).1
    go false false false x y z = opens (open_kept bs n x y) (after_quiet (length bs) n es x y z h)

module _ (es : List Entry) (balanced : Balanced 0 es) where
  balanced_at : (k : ℕ) → k ≤ length es → Balanced (length (open_before es k)) (drop k es)
  unfolding open_before
  balanced_at zero l = balanced
  balanced_at (suc k) l = balanced_next (open_before es k) (entry_of es k) (drop (suc k) es) (subst (Balanced (length (open_before es k))) (rest_at es k (omega arith)) (balanced_at k (omega arith)))

  none_open : (bs : Names) → length bs ≡ 0 → bs ≡ []
  none_open [] e = refl
  none_open (b ∷ bs) e = absurd (omega arith)

  -- no name is declared inside a big operator
  declared-outside : (k : ℕ) → k < length es → declares Kind.parameter (entry_of es k).kind ≡ true → open_before es (suc k) ≡ []
  unfolding open_before
  declared-outside k l y =
      let role = declares_only (entry_of es k).kind y in
      let bs = open_before es k in
      let e = (after-declared (length bs) (entry_of es k) (drop (suc k) es) role.bind_is role.end_is y (subst (Balanced (length bs)) (rest_at es k l) (balanced_at k (omega arith)))).0 in
      open_kept bs (entry_of es k) role.bind_is role.end_is ∙ none_open bs e

-- what holds of all declared names
declared-at : (P : Token → Type 0) (es : List Entry) (k : ℕ) → k < length es → declares Kind.parameter (entry_of es k).kind ≡ true → All P (declared_in Kind.parameter es) → P (token_of (entry_of es k))
declared-at P [] k l y h = absurd (omega arith)
declared-at P (n ∷ es) zero l y h = (subst (All P) (declared-here Kind.parameter n es y) h).0
declared-at P (n ∷ es) (suc k) l y h = declared-at P es k (omega arith) y (go (declares Kind.parameter n.kind) refl)
  where
    go : (b : Bool) → declares Kind.parameter n.kind ≡ b → All P (declared_in Kind.parameter es)
    go true e = (subst (All P) (declared-here Kind.parameter n es e) h).1
    go false e = subst (All P) (declared_there Kind.parameter n es e) h

distinct_rest : (n : Entry) (es : List Entry) → Distinct (declared_in Kind.parameter (n ∷ es)) → Distinct (declared_in Kind.parameter es)
distinct_rest n es h = go (declares Kind.parameter n.kind) refl
  where
    go : (b : Bool) → declares Kind.parameter n.kind ≡ b → Distinct (declared_in Kind.parameter es)
    go true e = (subst Distinct (declared-here Kind.parameter n es e) h).1
    go false e = subst Distinct (declared_there Kind.parameter n es e) h

-- entries that declare one spelling are one entry
one_entry : (es : List Entry) (j k : ℕ) → j < length es → k < length es → declares Kind.parameter (entry_of es j).kind ≡ true → declares Kind.parameter (entry_of es k).kind ≡ true
    → Distinct (declared_in Kind.parameter es) → same (token_of (entry_of es j)).text (token_of (entry_of es k)).text ≡ true → j ≡ k
one_entry [] j k l m y z d e = absurd (omega arith)
one_entry (n ∷ es) zero zero l m y z d e = refl
one_entry (n ∷ es) zero (suc k) l m y z d e =
    absurd (false≢true (sym (declared-at (Apart (token_of n)) es k (omega arith) z (subst Distinct (declared-here Kind.parameter n es y) d).0) ∙ e))
one_entry (n ∷ es) (suc j) zero l m y z d e =
    absurd (false≢true (sym (apart_sym (token_of n) (token_of (entry_of es j)) (declared-at (Apart (token_of n)) es j (omega arith) y (subst Distinct (declared-here Kind.parameter n es z) d).0)) ∙ e))
one_entry (n ∷ es) (suc j) (suc k) l m y z d e = ap suc (one_entry es j k (omega arith) (omega arith) y z (distinct_rest n es d) e)

module _ {x : Spec} {refs found : List ℕ} {n : ℕ} (r : Resolved x refs found n) (k : ℕ) (l : k < length (outline x)) (y : declares Kind.parameter (entry_of (outline x) k).kind ≡ true) where
  abbrev name : Token
  name = token_of (entry_of (outline x) k)

  -- a declaring entry has its name's number
  pub declared-number : get_or refs k 0 ≡ number_in (declared_names x) name
  declared-number =
      r.refers k l (declares-names (entry_of (outline x) k).kind y)
      ∙ ap (λ bs. reference (declared_names x) bs name) (declared-outside (outline x) (balanced_outline x) k l y)
      ∙ reference-outside (declared_names x) name

  pub found-entry : get_or found (get_or refs k 0) 0 ≡ k
  found-entry =
      let declared = declared_names x in
      let few : length declared ≤ max_names = (let a = r.count in let b = r.few in omega arith) in
      let own = declared-outline false x in
      let there : In declared name = declared-at (In declared) (outline x) k l y (subst (All (In declared)) (sym own) (in_declared x)) in
      let f = number-found (outline x) found declared name r.entries few there in
      let e : same (token_of (entry_of (outline x) (get_or found (number_in declared name) 0))).text name.text ≡ true = ap (λ u. same u.text name.text) f.declares.name ∙ f.alike in
      ap (λ d. get_or found d 0) declared-number
      ∙ one_entry (outline x) (get_or found (number_in declared name) 0) k f.declares.inside l f.declares.declaring y (subst Distinct (sym own) (distinct_names x r.distinct)) e
