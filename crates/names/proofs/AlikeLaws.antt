-- Lists of visible names that show and meet the same names: the order of a list does not matter to a walk.
use Rattle.std.specs.Prelude.{ℕ, max, List, [], ◌∷◌, ◌++◌, true, false, ◌||◌, ◌≡◌, refl}
use Rattle.std.proofs.Math.Option.{Option, none, some}
use Rattle.std.proofs.Common.{sym, ap, ap₂, ◌∙◌}
use Rattle.names.specs.References.{pushed}
use Rattle.language.specs.Bytes.{same}
use Rattle.language.specs.Tokens.{Token}
use Rattle.language.specs.Tree.{
  Expr,
  Named,
  Numeral,
  Truth,
  Index,
  Paren,
  Prefixed,
  Joined,
  Nexts,
  InWindow,
  Each,
  Between,
  Listed,
  Empty,
  Element,
  Range,
  Defined,
  Enumerated,
  OneSignal,
  OfWidth,
  OfType,
}
use Rattle.language.specs.Places.{first, unless, TextLine, ParameterLine, DefinitionLine, DeclarationLine, FormulaLine}
use Rattle.language.specs.Names.{Names, visible, hidden, again, walk, declares, walk_line, walk_lines, nowhere}
use Rattle.language.proofs.Laws.Values.SetMembers.{or_swap}
use Rattle.language.proofs.Laws.Basics.NoPlace.{first_comm, first_assoc}

-- the place where two names of one spelling meet
abbrev pub met : Token → Token → Option ℕ
met n t = elim (same n.text t.text) [ true ↦ some (max n.at t.at) | false ↦ none ]

pub record Alike (ns ms : Names) : Type 0 where
  pub sees : (t : Token) → visible ns t ≡ visible ms t
  pub meets : (t : Token) → again ns t ≡ again ms t

pub alike_same : (ns : Names) → Alike ns ns
alike_same ns = record { sees = λ t. refl; meets = λ t. refl }

pub alike_then : {ns ms ls : Names} → Alike ns ms → Alike ms ls → Alike ns ls
alike_then a b = record { sees = λ t. a.sees t ∙ b.sees t; meets = λ t. a.meets t ∙ b.meets t }

pub alike-cons : (n : Token) {ns ms : Names} → Alike ns ms → Alike (n ∷ ns) (n ∷ ms)
alike-cons n a =
    record {
      sees = λ t. ap (λ b. same n.text t.text || b) (a.sees t);
      meets = λ t. ap (first (met n t)) (a.meets t);
    }

first-over : (a b c : Option ℕ) → first a (first b c) ≡ first b (first a c)
first-over a b c = sym (first_assoc a b c) ∙ ap (λ p. first p c) (first_comm a b) ∙ first_assoc b a c

pub alike_swap : (n m : Token) (ns : Names) → Alike (n ∷ m ∷ ns) (m ∷ n ∷ ns)
alike_swap n m ns =
    record {
      sees = λ t. or_swap (same n.text t.text) (same m.text t.text) (visible ns t);
      meets = λ t. first-over (met n t) (met m t) (again ns t);
    }

alike-between : (l : Names) (n : Token) (ns : Names) → Alike (l ++ n ∷ ns) (n ∷ l ++ ns)
alike-between [] n ns = alike_same (n ∷ ns)
alike-between (m ∷ l) n ns = alike_then (alike-cons m (alike-between l n ns)) (alike_swap m n (l ++ ns))

pub alike-pushed : (l ns : Names) → Alike (pushed l ns) (l ++ ns)
alike-pushed [] ns = alike_same ns
alike-pushed (n ∷ l) ns = alike_then (alike-pushed l (n ∷ ns)) (alike-between l n ns)

-- a place that a list of names decides by what it shows and meets
abbrev pub Steady : (Names → Token → Option ℕ) → Type 0
Steady f = (ns ms : Names) → Alike ns ms → (t : Token) → f ns t ≡ f ms t

pub steady-hidden : Steady hidden
steady-hidden ns ms a t = ap (λ b. unless b t.at) (a.sees t)

pub steady-again : Steady again
steady-again ns ms a t = a.meets t

pub steady-nowhere : Steady nowhere
steady-nowhere ns ms a t = refl

module _ (used bound : Names → Token → Option ℕ) (steady-used : Steady used) (steady-bound : Steady bound) where
  walk-alike : (ns ms : Names) (e : Expr) → Alike ns ms → walk used bound ns e ≡ walk used bound ms e
  walk-alike ns ms (Named t) a = steady-used ns ms a t
  walk-alike ns ms (Numeral t) a = refl
  walk-alike ns ms (Truth t b) a = refl
  walk-alike ns ms (Index t e) a = ap₂ first (steady-used ns ms a t) (walk-alike ns ms e a)
  walk-alike ns ms (Paren t e) a = walk-alike ns ms e a
  walk-alike ns ms (Prefixed t o e) a = walk-alike ns ms e a
  walk-alike ns ms (Joined t o x y) a = ap₂ first (walk-alike ns ms x a) (walk-alike ns ms y a)
  walk-alike ns ms (Nexts t n e) a = ap₂ first (walk-alike ns ms n a) (walk-alike ns ms e a)
  walk-alike ns ms (InWindow t o n m e) a = ap₂ first (walk-alike ns ms n a) (ap₂ first (walk-alike ns ms m a) (walk-alike ns ms e a))
  walk-alike ns ms (Each t o further i s e) a =
      ap₂ first (steady-bound ns ms a i) (ap₂ first (walk-alike ns ms s a) (walk-alike (i ∷ ns) (i ∷ ms) e (alike-cons i a)))
  walk-alike ns ms (Between t l h x y) a = ap₂ first (walk-alike ns ms x a) (walk-alike ns ms y a)
  walk-alike ns ms (Listed t es) a = walk-alike ns ms es a
  walk-alike ns ms Empty a = refl
  walk-alike ns ms (Element e es) a = ap₂ first (walk-alike ns ms e a) (walk-alike ns ms es a)
  walk-alike ns ms (Range t x y z) a = ap₂ first (walk-alike ns ms x a) (ap₂ first (walk-alike ns ms y a) (walk-alike ns ms z a))

  walk_line-alike : (ns ms : Names) (l : TextLine) → Alike ns ms → walk_line used bound ns l ≡ walk_line used bound ms l
  walk_line-alike ns ms (ParameterLine x e) a = walk-alike ns ms e a
  walk_line-alike ns ms (DefinitionLine (Defined x e)) a = walk-alike ns ms e a
  walk_line-alike ns ms (DefinitionLine (Enumerated x is)) a = refl
  walk_line-alike ns ms (DeclarationLine (OneSignal x)) a = refl
  walk_line-alike ns ms (DeclarationLine (OfWidth x e)) a = walk-alike ns ms e a
  walk_line-alike ns ms (DeclarationLine (OfType u x)) a = steady-used ns ms a u
  walk_line-alike ns ms (FormulaLine e) a = walk-alike ns ms e a

  alike-append : (l : Names) {ns ms : Names} → Alike ns ms → Alike (l ++ ns) (l ++ ms)
  alike-append [] a = a
  alike-append (n ∷ l) a = alike-cons n (alike-append l a)

  pub walk_lines-alike : (ns ms : Names) (ls : List TextLine) → Alike ns ms → walk_lines used bound ns ls ≡ walk_lines used bound ms ls
  walk_lines-alike ns ms [] a = refl
  walk_lines-alike ns ms (l ∷ ls) a =
      ap₂ first (walk_line-alike ns ms l a) (walk_lines-alike (declares l ++ ns) (declares l ++ ms) ls (alike-append (declares l) a))
