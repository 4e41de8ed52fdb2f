-- Visible names are declared ones.
use Rattle.std.specs.Prelude.{true, ◌||◌, List, [], ◌∷◌, ◌++◌, ◌≡◌, refl}
use Rattle.std.proofs.lemmas.Bool.{false≢true}
use Rattle.std.proofs.Common.{sym, ap, ap₂, ◌∙◌}
use Rattle.language.specs.Bytes.{same}
use Rattle.language.specs.Tokens.{Token}
use Rattle.language.specs.Tree.{Spec}
use Rattle.language.specs.Places.{TextLine, ParameterLine, DefinitionLine, DeclarationLine, FormulaLine, all_lines}
use Rattle.language.specs.Names.{Names, visible, declares, declares_signal, over}
use Rattle.language.proofs.Laws.Basics.Lists.{All, all_more, all_left, all_right, all_append}
use Rattle.language.proofs.Laws.Basics.Tests.{or_left, or_right, or_cases, same_equal, same_refl}
use Rattle.language.proofs.Laws.Values.DistinctNames.{Apart, Across}
use Rattle.names.proofs.AlikeLaws.{alike-pushed}
use Rattle.names.specs.Resolved.{declared_names}

-- a name of its own list is visible
abbrev pub In : Names → Token → Type 0
In ns n = visible ns n ≡ true

abbrev pub Among : Names → Names → Type 0
Among ns ms = (t : Token) → visible ns t ≡ true → visible ms t ≡ true

pub visible-text : (ns : Names) (t u : Token) → t.text ≡ u.text → visible ns t ≡ visible ns u
visible-text [] t u e = refl
visible-text (n ∷ ns) t u e = ap₂ ◌||◌ (ap (same n.text) e) (visible-text ns t u e)

pub visible-left : (ns ms : Names) (t : Token) → visible ns t ≡ true → visible (ns ++ ms) t ≡ true
visible-left [] ms t y = absurd (false≢true y)
visible-left (n ∷ ns) ms t y = or_cases (same n.text t.text) (visible ns t) (λ e. or_left _ (visible (ns ++ ms) t) e) (λ e. or_right (same n.text t.text) _ (visible-left ns ms t e)) y

pub visible-right : (ns ms : Names) (t : Token) → visible ms t ≡ true → visible (ns ++ ms) t ≡ true
visible-right [] ms t y = y
visible-right (n ∷ ns) ms t y = or_right (same n.text t.text) _ (visible-right ns ms t y)

pub in_own : (ns : Names) → All (In ns) ns
in_own [] = tt
in_own (n ∷ ns) = (or_left _ (visible ns n) (same_refl n.text), all_more (λ m h. or_right (same n.text m.text) _ h) ns (in_own ns))

pub in_declared : (x : Spec) → All (In (declared_names x)) (over declares (all_lines x))
in_declared x =
    let ns = over declares (all_lines x) in
    all_more (λ n h. (alike-pushed ns []).sees n ∙ visible-left ns [] n h) ns (in_own ns)

pub among-more : (ms ns names : Names) → All (In names) ms → Among ns names → Among (ms ++ ns) names
among-more [] ns names h g t y = g t y
among-more (m ∷ ms) ns names h g t y =
    or_cases (same m.text t.text) (visible (ms ++ ns) t)
    (λ e. sym (visible-text names m t (same_equal m.text t.text e)) ∙ h.0)
    (λ e. among-more ms ns names h.1 g t e) y

pub among-all : (ns names : Names) → All (In names) ns → Among ns names
among-all ns names h t y = among-more ns [] names h (λ u z. absurd (false≢true z)) t (visible-left ns [] t y)

-- a visible name is apart from names that those visible are apart from
pub visible_apart : (ns ms : Names) → Across ns ms → (t : Token) → visible ns t ≡ true → All (Apart t) ms
visible_apart [] ms h t y = absurd (false≢true y)
visible_apart (n ∷ ns) ms h t y =
    or_cases (same n.text t.text) (visible ns t)
    (λ e. all_more (λ m a. ap (λ u. same u m.text) (sym (same_equal n.text t.text e)) ∙ a) ms h.0)
    (λ e. visible_apart ns ms h.1 t e) y

-- signals are declared by lines
pub of_signals : (P : Token → Type 0) (ls : List TextLine) → All P (over declares ls) → All P (over declares_signal ls)
of_signals P [] h = tt
of_signals P (ParameterLine x e ∷ ls) h = of_signals P ls h.1
of_signals P (DefinitionLine d ∷ ls) h = of_signals P ls (all_right P (declares (DefinitionLine d)) (over declares ls) h)
of_signals P (DeclarationLine d ∷ ls) h =
    let own = declares (DeclarationLine d) in
    all_append P own (over declares_signal ls) (all_left P own (over declares ls) h) (of_signals P ls (all_right P own (over declares ls) h))
of_signals P (FormulaLine e ∷ ls) h = of_signals P ls h
