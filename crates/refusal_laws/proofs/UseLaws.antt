-- 6 is refused at the first name that is used where it is not visible.
use Rattle.std.specs.Prelude.{ℕ, ◌≡◌, Bool, true, List, [], ◌∷◌, ◌++◌, map, ◌↔◌, ◌⊎◌}
use Rattle.std.proofs.Common.{sym, subst, inl, inr, ⊎_elim}
use Rattle.std.proofs.lemmas.Bool.{false≢true}
use Rattle.std.proofs.Math.Logic.Iff as Equiv
use Rattle.std.proofs.Math.Option.{Option}
use Rattle.language.specs.Bytes.{same}
use Rattle.language.specs.Tokens.{Token}
use Rattle.language.specs.Tree.{
  Expr,
  Named,
  Numeral,
  Truth,
  Index,
  Paren,
  Prefixed,
  Joined,
  Nexts,
  InWindow,
  Each,
  Between,
  Listed,
  Empty,
  Element,
  Range,
  Defined,
  Enumerated,
  OneSignal,
  OfWidth,
  OfType,
  Spec,
}
use Rattle.language.specs.Places.{first, TextLine, ParameterLine, DefinitionLine, DeclarationLine, FormulaLine, all_lines}
use Rattle.language.specs.Names.{Names, visible, hidden, walk, declares, declares_signal, over, walk_line, walk_lines, nowhere, not_visible}
use Rattle.language.proofs.Laws.Basics.Tests.{same_equal, same_refl, or_left, or_right, or_cases}
use Rattle.refusal_laws.specs.Refusals.{Among, Following, FirstPlace, joined, text_lines, Use, used, under, uses, uses_in, brings, signals_of, Called, HiddenAt}
use Rattle.refusal_laws.proofs.Places as Place
use Rattle.refusal_laws.proofs.LineLaws.{lines_are, declares_are, signal-names_are}

same_text : (a b : List ℕ) → (same a b ≡ true) ↔ (a ≡ b)
same_text a b = (same_equal a b, λ e. subst (λ (c : List ℕ). same a c ≡ true) e (same_refl a))

visible_called : (ns : Names) (t : Token) → (visible ns t ≡ true) ↔ Called t ns
visible_called [] t = (λ e. absurd (false≢true e), λ e. absurd e)
visible_called (n ∷ ns) t =
    let here = same_text n.text t.text in
    let more = visible_called ns t in (
      λ e. or_cases (same n.text t.text) (visible ns t) (λ h. inl (here.0 h)) (λ h. inr (more.0 h)) e,
      λ s. ⊎_elim (λ h. or_left (same n.text t.text) (visible ns t) (here.1 h)) (λ h. or_right (same n.text t.text) (visible ns t) (more.1 h)) s,
    )

-- a use of a name that is neither a big operator's around it nor one of ns
abbrev Hidden : Names → Use → ℕ → Type 0
Hidden ns u p = (¬ (Called u.name u.inside ⊎ Called u.name ns)) × (p ≡ u.name.at)

abbrev HiddenIn : Names → List Use → ℕ → Type 0
HiddenIn ns us p = Among (λ u. Hidden ns u p) us

hidden-first : (ns : Names) (t : Token) → FirstPlace (HiddenIn ns (used t ∷ [])) (hidden ns t)
hidden-first ns t =
    Place.same-places (hidden ns t) (λ p. (inl, λ s. ⊎_elim (λ h. h) (λ n. absurd n) s))
    (Place.unless-place (visible ns t) t.at
    (λ e n. n (inr ((visible_called ns t).0 e)))
    (λ e s. ⊎_elim (λ n. n) (λ c. false≢true (subst (λ (b : Bool). b ≡ true) e ((visible_called ns t).1 c))) s))

under_same : (ns : Names) (i : Token) (us : List Use) (p : ℕ) → HiddenIn (i ∷ ns) us p ↔ HiddenIn ns (map (under i) us) p
under_same ns i us p = Equiv.trans (Place.among_same turned us) (Equiv.symm (Place.among-map (λ u. Hidden ns u p) (under i) us))
  where
    turned : (u : Use) → Hidden (i ∷ ns) u p ↔ Hidden ns (under i u) p
    turned u = (
      λ h. (λ s. h.0 (⊎_elim (λ s. ⊎_elim (λ e. inr (inl e)) inl s) (λ c. inr (inr c)) s), h.1),
      λ h. (λ s. h.0 (⊎_elim (λ c. inl (inr c)) (λ s. ⊎_elim (λ e. inl (inl e)) inr s) s), h.1),
    )

both : (ns : Names) (us vs : List Use) {o q : Option ℕ} → FirstPlace (HiddenIn ns us) o → FirstPlace (HiddenIn ns vs) q → FirstPlace (HiddenIn ns (us ++ vs)) (first o q)
both ns us vs {o} {q} h k = Place.appended (Hidden ns) us vs o q h k

walk_first : (ns : Names) (e : Expr) → FirstPlace (HiddenIn ns (uses e)) (walk hidden nowhere ns e)
walk_first ns (Named t) = hidden-first ns t
walk_first ns (Numeral t) = Place.nowhere (λ p h. h)
walk_first ns (Truth t b) = Place.nowhere (λ p h. h)
walk_first ns (Index t e) = both ns (used t ∷ []) (uses e) (hidden-first ns t) (walk_first ns e)
walk_first ns (Paren t e) = walk_first ns e
walk_first ns (Prefixed t o e) = walk_first ns e
walk_first ns (Joined t o a b) = both ns (uses a) (uses b) (walk_first ns a) (walk_first ns b)
walk_first ns (Nexts t n e) = both ns (uses n) (uses e) (walk_first ns n) (walk_first ns e)
walk_first ns (InWindow t o n m e) = both ns (uses n) (uses m ++ uses e) (walk_first ns n) (both ns (uses m) (uses e) (walk_first ns m) (walk_first ns e))
walk_first ns (Each t o further i s e) =
    both ns (uses s) (map (under i) (uses e)) (walk_first ns s) (Place.same-places (walk hidden nowhere (i ∷ ns) e) (under_same ns i (uses e)) (walk_first (i ∷ ns) e))
walk_first ns (Between t l h a b) = both ns (uses a) (uses b) (walk_first ns a) (walk_first ns b)
walk_first ns (Listed t es) = walk_first ns es
walk_first ns Empty = Place.nowhere (λ p h. h)
walk_first ns (Element e es) = both ns (uses e) (uses es) (walk_first ns e) (walk_first ns es)
walk_first ns (Range t x y z) = both ns (uses x) (uses y ++ uses z) (walk_first ns x) (both ns (uses y) (uses z) (walk_first ns y) (walk_first ns z))

line_first : (ns : Names) (l : TextLine) → FirstPlace (HiddenIn ns (uses_in l)) (walk_line hidden nowhere ns l)
line_first ns (ParameterLine x e) = walk_first ns e
line_first ns (DefinitionLine (Defined x e)) = walk_first ns e
line_first ns (DefinitionLine (Enumerated x is)) = Place.nowhere (λ p h. h)
line_first ns (DeclarationLine (OneSignal x)) = Place.nowhere (λ p h. h)
line_first ns (DeclarationLine (OfWidth x e)) = walk_first ns e
line_first ns (DeclarationLine (OfType u x)) = hidden-first ns u
line_first ns (FormulaLine e) = walk_first ns e

-- ns are the names of the lines before, and the signals' S
module _ (S : List Token) where
  abbrev Known : List TextLine → Names → Type 0
  Known before ns = (t : Token) → Called t ns ↔ (Called t (joined brings before) ⊎ Called t S)

  abbrev Unseen : ℕ → List TextLine → TextLine → Type 0
  Unseen p before l = Among (λ u. (¬ (Called u.name u.inside ⊎ Called u.name (joined brings before) ⊎ Called u.name S)) × (p ≡ u.name.at)) (uses_in l)

  known-after : (before : List TextLine) (ns : Names) (l : TextLine) → Known before ns → Known (l ∷ before) (declares l ++ ns)
  known-after before ns l k t =
      let here = Place.among-append (λ (n : Token). n.text ≡ t.text) in
      Equiv.trans (Equiv.symm (here (declares l) ns)) (
        λ s. ⊎_elim (λ c. inl ((here (brings l) (joined brings before)).0 (inl (subst (Called t) (declares_are l) c))))
            (λ c. ⊎_elim (λ b. inl ((here (brings l) (joined brings before)).0 (inr b))) inr ((k t).0 c)) s,
        λ s. ⊎_elim
            (λ c. ⊎_elim (λ b. inl (subst (Called t) (sym (declares_are l)) b)) (λ b. inr ((k t).1 (inl b))) ((here (brings l) (joined brings before)).1 c))
            (λ c. inr ((k t).1 (inr c))) s,
      )

  unseen_same : (before : List TextLine) (ns : Names) (l : TextLine) → Known before ns → (p : ℕ) → HiddenIn ns (uses_in l) p ↔ Unseen p before l
  unseen_same before ns l k p =
      Place.among_same (λ u. (
        λ h. (λ s. h.0 (⊎_elim inl (λ c. inr ((k u.name).1 c)) s), h.1),
        λ h. (λ s. h.0 (⊎_elim inl (λ c. inr ((k u.name).0 c)) s), h.1),
      )) (uses_in l)

  lines-first : (before ls : List TextLine) (ns : Names) → Known before ns → FirstPlace (λ p. Following (Unseen p) before ls) (walk_lines hidden nowhere ns ls)
  lines-first before [] ns k = Place.nowhere (λ p h. h)
  lines-first before (l ∷ ls) ns k =
      Place.either (walk_line hidden nowhere ns l) (walk_lines hidden nowhere (declares l ++ ns) ls)
      (Place.same-places (walk_line hidden nowhere ns l) (unseen_same before ns l k) (line_first ns l))
      (lines-first (l ∷ before) ls (declares l ++ ns) (known-after before ns l k))

-- 6
pub hidden-is-first : (x : Spec) → FirstPlace (HiddenAt x) (not_visible x)
hidden-is-first x =
    let S = joined signals_of (text_lines x) in
    let ns = over declares_signal (all_lines x) in
    let begin : Known S [] ns = λ t. (λ c. inr (subst (Called t) (signal-names_are x) c), λ s. ⊎_elim (λ e. absurd e) (λ c. subst (Called t) (sym (signal-names_are x)) c) s) in
    subst (λ (ls : List TextLine). FirstPlace (HiddenAt x) (walk_lines hidden nowhere ns ls)) (sym (lines_are x)) (lines-first S [] (text_lines x) ns begin)
