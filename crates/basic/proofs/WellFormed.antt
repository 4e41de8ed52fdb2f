-- Refusals 6 to 10 find no place in a written text's tree.
use Rattle.std.specs.Prelude.{ℕ, zero, suc, max, ◌≤◌, ◌<◌, ◌≡◌, Bool, true, false, ◌||◌, List, [], ◌∷◌, ◌++◌, map, length, drop}
use Rattle.std.proofs.Math.Path.{refl, ap₂}
use Rattle.std.proofs.Common.{ap, ◌∙◌, sym, subst, append-nil, drop_of_length-le, arith}
use Rattle.std.proofs.lemmas.Bool.{false≢true}
use Rattle.std.proofs.lemmas.List.{map-append, length-map}
use Rattle.std.proofs.Math.Option.{Option, none, some}
use Rattle.std.proofs.Math.ListN.{get_or}
use Rattle.node.specs.Ltl.{Formula, True, False, Signal, One, Two}
use Rattle.node.specs.Postorder.{SignalsBelow}
use Rattle.language.specs.Limits.{max_names}
use Rattle.language.specs.Bytes.{same}
use Rattle.language.specs.Tokens.{Name, Token}
use Rattle.language.specs.Tree.{Expr, OneSignal, Model, Spec}
use Rattle.language.specs.Places.{first, unless, TextLine, DeclarationLine, FormulaLine, declaration_lines, all_lines, too_deep}
use Rattle.language.specs.Names.{Names, visible, hidden, again, walk, declares, declares_signal, over, walk_lines, nowhere, not_visible, doubled, declared_again, place_of_first, too_many}
use Rattle.language.specs.Types.{ExprType, AFormula, Typings, type_in, type_of, is_type, mistyped, typed_signals, mistyped_lines, wrong_type}
use Rattle.language.proofs.Laws.Basics.Lists.{All}
use Rattle.language.proofs.Laws.Basics.Tests.{leave, or_right, same_refl}
use Rattle.language.proofs.Laws.Grammar.Parses.{WellFormed}
use Rattle.language.proofs.Laws.Values.DistinctNames.{apart_sym}
use Rattle.basic.proofs.Lexed.{sign, past, token_at}
use Rattle.basic.proofs.ParsedFormula.{inside_of, tree_of}
use Rattle.basic.proofs.ParsedText.{singles, main_for, plain_spec}
use Rattle.basic.proofs.Source.{Unlike, AllUnlike}

-- the tokens of names that are declared from an offset on
abbrev pub name_tokens : ℕ → List (List ℕ) → Names
name_tokens at [] = []
name_tokens at (n ∷ ns) = token_at at (Name, n) ∷ name_tokens (past (sign ";") (past (Name, n) at)) ns

abbrev pub texts : Names → List (List ℕ)
texts ns = map (λ t. t.text) ns

pub token-texts : (at : ℕ) (ns : List (List ℕ)) → texts (name_tokens at ns) ≡ ns
token-texts at [] = refl
token-texts at (n ∷ ns) = ap (n ∷◌) (token-texts (past (sign ";") (past (Name, n) at)) ns)

-- a name among them is visible
visible_at_lem : (ns : Names) (k : ℕ) (t : Token) → k < length (texts ns) → t.text ≡ get_or (texts ns) k [] → visible ns t ≡ true
visible_at_lem [] k t h e = absurd (omega arith)
visible_at_lem (n ∷ ns) zero t h e = ap (λ (s : List ℕ). same n.text s || visible ns t) e ∙ ap (◌|| visible ns t) (same_refl n.text)
visible_at_lem (n ∷ ns) (suc k) t h e = or_right (same n.text t.text) (visible ns t) (visible_at_lem ns k t (omega arith) e)

-- their tokens are what the lines declare
declared-over : (f : TextLine → Names) → ((t : Token) → f (DeclarationLine (OneSignal t)) ≡ t ∷ []) → (at : ℕ) (ns : List (List ℕ)) (ls : List TextLine)
    → over f (declaration_lines (singles at ns) ls) ≡ name_tokens at ns ++ over f ls
declared-over f h at [] ls = refl
declared-over f h at (n ∷ ns) ls =
    let next = past (sign ";") (past (Name, n) at) in
    ap₂ (λ (a b : Names). a ++ b) (h (token_at at (Name, n))) (declared-over f h next ns ls)

-- a walk over the declarations finds no place of its own; what is asked of the visible names stays true of more
module _ (used bound : Names → Token → Option ℕ) (P : Names → Type 0) (grows : (t : Token) (ns : Names) → P ns → P (t ∷ ns)) where
  walk-singles : (at : ℕ) (ms : List (List ℕ)) (ls : List TextLine) → ((ns : Names) → P ns → walk_lines used bound ns ls ≡ none) → (ns : Names) → P ns
      → walk_lines used bound ns (declaration_lines (singles at ms) ls) ≡ none
  walk-singles at [] ls h ns p = h ns p
  walk-singles at (m ∷ ms) ls h ns p = walk-singles (past (sign ";") (past (Name, m) at)) ms ls h (token_at at (Name, m) ∷ ns) (grows (token_at at (Name, m)) ns p)

-- a walk over a formula's tree meets its signals' names alone
walk_inside : (used bound : Names → Token → Option ℕ) (ns : Names) (names : List (List ℕ)) → ((k : ℕ) (t : Token) → k < length names → t.text ≡ get_or names k [] → used ns t ≡ none) →
    (f : Formula) → SignalsBelow (length names) f → (at : ℕ) → walk used bound ns (inside_of names at f) ≡ none
unfolding SignalsBelow
walk_inside used bound ns names h True s at = refl
walk_inside used bound ns names h False s at = refl
walk_inside used bound ns names h (Signal k) s at = h k (token_at at (Name, get_or names k [])) s refl
walk_inside used bound ns names h (One o a) s at = walk_inside used bound ns names h a s _
walk_inside used bound ns names h (Two o a b) s at = ap₂ first (walk_inside used bound ns names h a s.0 _) (walk_inside used bound ns names h b s.1 _)

-- names that are unlike each other are not declared again
again_none : (ns : Names) (n : Token) → All (Unlike n.text) (texts ns) → again ns n ≡ none
again_none [] n h = refl
again_none (m ∷ ns) n h = ap₂ first (leave (same m.text n.text) (some (max m.at n.at)) none (apart_sym n m h.0)) (again_none ns n h.1)

doubled_none : (ns : Names) → AllUnlike (texts ns) → doubled ns ≡ none
doubled_none [] h = refl
doubled_none (n ∷ ns) h = ap₂ first (again_none ns n h.0) (doubled_none ns h.1)

-- every declared name is a formula
abbrev typings : Names → Typings
typings ns = map (λ t. record { name = t; type = AFormula }) ns

type_visible : (ns : Names) (t : Token) → visible ns t ≡ true → type_in (typings ns) t ≡ AFormula
type_visible [] t h = absurd (false≢true h)
type_visible (n ∷ ns) t h = go (same n.text t.text) h (λ g. type_visible ns t g)
  where
    go : (c : Bool) → (c || visible ns t) ≡ true → (visible ns t ≡ true → type_in (typings ns) t ≡ AFormula) → ◌≡◌ {A = ExprType} (elim c [ true ↦ AFormula | false ↦ type_in (typings ns) t ]) AFormula
    go true g f = refl
    go false g f = f g

typed-singles : (at : ℕ) (ns : List (List ℕ)) (ls : List TextLine) → typed_signals (declaration_lines (singles at ns) ls) ≡ typings (name_tokens at ns) ++ typed_signals ls
typed-singles at [] ls = refl
typed-singles at (n ∷ ns) ls = let next = past (sign ";") (past (Name, n) at) in ap (record { name = token_at at (Name, n); type = AFormula } ∷◌) (typed-singles next ns ls)

mistyped-singles : (ys : Typings) (at : ℕ) (ns : List (List ℕ)) (ls : List TextLine) → mistyped_lines ys (declaration_lines (singles at ns) ls) ≡ mistyped_lines ys ls
mistyped-singles ys at [] ls = refl
mistyped-singles ys at (n ∷ ns) ls = mistyped-singles ys (past (sign ";") (past (Name, n) at)) ns ls

module _ (ys : Typings) (names : List (List ℕ)) (h : (k : ℕ) (t : Token) → k < length names → t.text ≡ get_or names k [] → type_in ys t ≡ AFormula) where
  kind-inside : (f : Formula) → SignalsBelow (length names) f → (at : ℕ) → type_of ys (inside_of names at f) ≡ AFormula
  unfolding SignalsBelow
  kind-inside True s at = refl
  kind-inside False s at = refl
  kind-inside (Signal k) s at = h k (token_at at (Name, get_or names k [])) s refl
  kind-inside (One o a) s at = refl
  kind-inside (Two o a b) s at = refl

  right-kind : (f : Formula) → SignalsBelow (length names) f → (at place : ℕ) → unless (is_type AFormula (type_of ys (inside_of names at f))) place ≡ none
  right-kind f s at place = ap (λ (k : ExprType). unless (is_type AFormula k) place) (kind-inside f s at)

  mistyped-inside : (f : Formula) → SignalsBelow (length names) f → (at : ℕ) → mistyped ys (inside_of names at f) ≡ none
  unfolding SignalsBelow
  mistyped-inside True s at = refl
  mistyped-inside False s at = refl
  mistyped-inside (Signal k) s at = refl
  mistyped-inside (One o a) s at = ap₂ first (right-kind a s _ _) (mistyped-inside a s _)
  mistyped-inside (Two o a b) s at =
      ap₂ first (ap₂ first (right-kind a s.0 _ _) (right-kind b s.1 _ _)) (ap₂ first (mistyped-inside a s.0 _) (mistyped-inside b s.1 _))

-- a written text's tree
module _
    (m : Model)
    (inputs outputs names : List (List ℕ))
    (f : Formula)
    (word : Token)
    (at : ℕ × ℕ × ℕ)
    (sides : inputs ++ outputs ≡ names)
    (below : SignalsBelow (length names) f)
  where
    abbrev spec : Spec
    spec = plain_spec m word (main_for inputs outputs names f at)

    abbrev tokenNames : Names
    tokenNames = name_tokens at.0 inputs ++ name_tokens at.1 outputs

    tokens-over : (g : TextLine → Names) → ((t : Token) → g (DeclarationLine (OneSignal t)) ≡ t ∷ []) → ((e : Expr) → g (FormulaLine e) ≡ []) → over g (all_lines spec) ≡ tokenNames
    tokens-over g h no_more =
        declared-over g h at.0 inputs _
        ∙ ap (λ (ns : Names). name_tokens at.0 inputs ++ ns) (declared-over g h at.1 outputs _ ∙ ap (λ (ns : Names). name_tokens at.1 outputs ++ (ns ++ [])) (no_more _) ∙ append-nil
        (name_tokens at.1 outputs))

    declares-over : over declares (all_lines spec) ≡ tokenNames
    declares-over = tokens-over declares (λ t. refl) (λ e. refl)

    signals-over : over declares_signal (all_lines spec) ≡ tokenNames
    signals-over = tokens-over declares_signal (λ t. refl) (λ e. refl)

    texts-over : texts tokenNames ≡ names
    texts-over = map-append (λ (t : Token). t.text) (name_tokens at.0 inputs) (name_tokens at.1 outputs) ∙ ap₂ ◌++◌ (token-texts at.0 inputs) (token-texts at.1 outputs) ∙ sides

    -- every signal's name is visible
    abbrev Sees : Names → Type 0
    Sees ns = (k : ℕ) (t : Token) → k < length names → t.text ≡ get_or names k [] → visible ns t ≡ true

    sees-all : Sees tokenNames
    sees-all = subst (λ (l : List (List ℕ)). (k : ℕ) (t : Token) → k < length l → t.text ≡ get_or l k [] → visible tokenNames t ≡ true) texts-over (visible_at_lem tokenNames)

    -- 6
    all-visible : not_visible spec ≡ none
    all-visible =
        let P = Sees in
        let more : (t : Token) (ns : Names) → P ns → P (t ∷ ns) = λ t ns h k u l e. or_right (same t.text u.text) (visible ns u) (h k u l e) in
        let line : (ns : Names) → P ns → walk_lines hidden nowhere ns (FormulaLine (tree_of names at.2 f) ∷ []) ≡ none =
        λ ns h. ap (λ (p : Option ℕ). first p none) (walk_inside hidden nowhere ns names (λ k t l e. ap (λ (b : Bool). unless b t.at) (h k t l e)) f below _) in
        walk-singles hidden nowhere P more at.0 inputs _ (walk-singles hidden nowhere P more at.1 outputs _ line) (over declares_signal (all_lines spec)) (subst P (sym signals-over) sees-all)

    -- 7
    none-again : AllUnlike names → declared_again spec ≡ none
    none-again unlike =
        let P : Names → Type 0 = λ ns. Unit {0} in
        let line : (ns : Names) → P ns → walk_lines nowhere again ns (FormulaLine (tree_of names at.2 f) ∷ []) ≡ none =
        λ ns h. ap (λ (p : Option ℕ). first p none) (walk_inside nowhere again ns names (λ k t l e. refl) f below _) in
        ap₂ first (ap doubled declares-over ∙ doubled_none tokenNames (subst AllUnlike (sym texts-over) unlike))
        (walk-singles nowhere again P (λ t ns h. tt) at.0 inputs _ (walk-singles nowhere again P (λ t ns h. tt) at.1 outputs _ line) (over declares_signal (all_lines spec)) tt)

    -- 8
    few_names : length names ≤ max_names → too_many spec ≡ none
    few_names h =
        let size : length tokenNames ≡ length names = sym (length-map tokenNames (λ t. t.text)) ∙ ap length texts-over in
        ap (λ (ns : Names). place_of_first (drop max_names ns)) declares-over ∙ ap place_of_first (drop_of_length-le tokenNames {i = max_names} (omega arith))

    -- 9
    right-types : wrong_type spec ≡ none
    right-types =
        let ys = typings tokenNames in
        let tree = tree_of names at.2 f in
        let kinds : (k : ℕ) (t : Token) → k < length names → t.text ≡ get_or names k [] → type_in ys t ≡ AFormula = λ k t l e. type_visible tokenNames t (sees-all k t l e) in
        let typed : typed_signals (all_lines spec) ≡ ys =
        typed-singles at.0 inputs _ ∙ ap (typings (name_tokens at.0 inputs) ++◌) (typed-singles at.1 outputs _ ∙ append-nil (typings (name_tokens at.1 outputs)))
        ∙ sym (map-append (λ (t : Token). record { name = t; type = AFormula }) (name_tokens at.0 inputs) (name_tokens at.1 outputs)) in
        ap (λ (zs : Typings). mistyped_lines zs (all_lines spec)) typed ∙ mistyped-singles ys at.0 inputs _ ∙ mistyped-singles ys at.1 outputs _
        ∙ ap (λ (p : Option ℕ). first p none) (ap₂ first (right-kind ys names kinds f below _ _) (mistyped-inside ys names kinds f below _))

    -- 10 has no enumeration to look at
    pub formed : AllUnlike names → length names ≤ max_names → too_deep spec ≡ none → WellFormed spec
    formed unlike few shallow = record { shallow = shallow; visible = all-visible; distinct = none-again unlike; few = few_names few; typed = right-types; words = refl }
