-- The places of refusals 6 to 8 are at most the text's length n.
use Rattle.std.specs.Prelude.{ℕ, zero, suc, ◌≤◌, List, [], ◌∷◌, ◌++◌, drop}
use Rattle.std.proofs.Math.Option.{Option}
use Rattle.std.proofs.Common.{arith}
use Rattle.language.specs.Limits.{max_names}
use Rattle.language.specs.Bytes.{same}
use Rattle.language.specs.Tokens.{Token}
use Rattle.language.specs.Tree.{
  Expr,
  Named,
  Numeral,
  Truth,
  Index,
  Paren,
  Prefixed,
  Joined,
  Nexts,
  InWindow,
  Each,
  Between,
  Listed,
  Empty,
  Element,
  Range,
  Defined,
  Enumerated,
  OneSignal,
  OfWidth,
  OfType,
  Spec,
}
use Rattle.language.specs.Places.{TextLine, ParameterLine, DefinitionLine, DeclarationLine, FormulaLine, all_lines}
use Rattle.language.specs.Names.{Names, visible, hidden, again, walk, declares, declares_signal, over, walk_line, walk_lines, nowhere, not_visible, doubled, declared_again, place_of_first, too_many}
use Rattle.language.proofs.Laws.Basics.Lists.{All, all_append}
use Rattle.language.proofs.Laws.Basics.Tests.{split}
use Rattle.language.proofs.Laws.Grammar.TreeTokens.{InExpr, InSpec}
use Rattle.language.proofs.Laws.Places.PlaceBounds.{Low, At, InEntry, nowhere-low, here-low, low_first, low-unless, in_all_lines, in_declares, in_declares_signal, in_over}

module _ (n : ℕ) where
  low-hidden : (ns : Names) (t : Token) → All (At n) ns → At n t → Low n (hidden ns t)
  low-hidden ns t h g = low-unless n (visible ns t) t.at g

  low_again : (ns : Names) (t : Token) → All (At n) ns → At n t → Low n (again ns t)
  low_again [] t h g = nowhere-low n
  low_again (m ∷ ns) t h g =
      let at : m.at ≤ n = h.0 in
      let at' : t.at ≤ n = g in
      low_first n (split (Low n) (same m.text t.text) (λ _. here-low n (omega arith)) (λ _. nowhere-low n)) (low_again ns t h.1 g)

  -- a walk whose places are low
  module _
      (used bound : Names → Token → Option ℕ)
      (low-used : (ns : Names) (t : Token) → All (At n) ns → At n t → Low n (used ns t))
      (low-bound : (ns : Names) (t : Token) → All (At n) ns → At n t → Low n (bound ns t))
    where
      low-walk : (ns : Names) (e : Expr) → All (At n) ns → InExpr (At n) e → Low n (walk used bound ns e)
      low-walk ns (Named t) g h = low-used ns t g h
      low-walk ns (Numeral t) g h = nowhere-low n
      low-walk ns (Truth t b) g h = nowhere-low n
      low-walk ns (Index t e) g h = low_first n (low-used ns t g h.0) (low-walk ns e g h.1)
      low-walk ns (Paren t e) g h = low-walk ns e g h.1
      low-walk ns (Prefixed t o e) g h = low-walk ns e g h.1
      low-walk ns (Joined t o a b) g h = low_first n (low-walk ns a g h.1) (low-walk ns b g h.2)
      low-walk ns (Nexts t m e) g h = low_first n (low-walk ns m g h.1) (low-walk ns e g h.2)
      low-walk ns (InWindow t o l m e) g h = low_first n (low-walk ns l g h.1) (low_first n (low-walk ns m g h.2) (low-walk ns e g h.3))
      low-walk ns (Each t o further i s e) g h = low_first n (low-bound ns i g h.1) (low_first n (low-walk ns s g h.2) (low-walk (i ∷ ns) e (h.1, g) h.3))
      low-walk ns (Between t l u a b) g h = low_first n (low-walk ns a g h.1) (low-walk ns b g h.2)
      low-walk ns (Listed t es) g h = low-walk ns es g h.1
      low-walk ns Empty g h = nowhere-low n
      low-walk ns (Element e es) g h = low_first n (low-walk ns e g h.0) (low-walk ns es g h.1)
      low-walk ns (Range t x y z) g h = low_first n (low-walk ns x g h.1) (low_first n (low-walk ns y g h.2) (low-walk ns z g h.3))

      low-walkLine : (ns : Names) (l : TextLine) → All (At n) ns → InEntry (At n) l → Low n (walk_line used bound ns l)
      low-walkLine ns (ParameterLine x e) g h = low-walk ns e g h.1
      low-walkLine ns (DefinitionLine (Defined x e)) g h = low-walk ns e g h.1
      low-walkLine ns (DefinitionLine (Enumerated x is)) g h = nowhere-low n
      low-walkLine ns (DeclarationLine (OneSignal x)) g h = nowhere-low n
      low-walkLine ns (DeclarationLine (OfWidth x e)) g h = low-walk ns e g h.1
      low-walkLine ns (DeclarationLine (OfType u x)) g h = low-used ns u g h.0
      low-walkLine ns (FormulaLine e) g h = low-walk ns e g h

      low-walkLines : (ns : Names) (ls : List TextLine) → All (At n) ns → All (InEntry (At n)) ls → Low n (walk_lines used bound ns ls)
      low-walkLines ns [] g h = nowhere-low n
      low-walkLines ns (l ∷ ls) g h =
          low_first n (low-walkLine ns l g h.0) (low-walkLines (declares l ++ ns) ls (all_append (At n) (declares l) ns (in_declares (At n) l h.0) g) h.1)

  low_doubled : (ns : Names) → All (At n) ns → Low n (doubled ns)
  low_doubled [] h = nowhere-low n
  low_doubled (m ∷ ns) h = low_first n (low_again ns m h.1 h.0) (low_doubled ns h.1)

  pub low-place_of_first : (k : ℕ) (ts : List Token) → All (At n) ts → Low n (place_of_first (drop k ts))
  low-place_of_first zero [] h = nowhere-low n
  low-place_of_first zero (t ∷ ts) h = here-low n h.0
  low-place_of_first (suc k) [] h = nowhere-low n
  low-place_of_first (suc k) (t ∷ ts) h = low-place_of_first k ts h.1

  module _ (x : Spec) (h : InSpec (At n) x) where
    lines-low : All (InEntry (At n)) (all_lines x)
    lines-low = in_all_lines (At n) x h

    signals-low : All (At n) (over declares_signal (all_lines x))
    signals-low = in_over (At n) declares_signal (all_lines x) (in_declares_signal (At n)) lines-low

    names-low : All (At n) (over declares (all_lines x))
    names-low = in_over (At n) declares (all_lines x) (in_declares (At n)) lines-low

    pub low-notVisible : Low n (not_visible x)
    low-notVisible = low-walkLines hidden nowhere low-hidden (λ ns t g a. nowhere-low n) (over declares_signal (all_lines x)) (all_lines x) signals-low lines-low

    pub low-declaredAgain : Low n (declared_again x)
    low-declaredAgain =
        low_first n (low_doubled (over declares (all_lines x)) names-low)
        (low-walkLines nowhere again (λ ns t g a. nowhere-low n) low_again (over declares_signal (all_lines x)) (all_lines x) signals-low lines-low)

    pub low-tooMany : Low n (too_many x)
    low-tooMany = low-place_of_first max_names (over declares (all_lines x)) names-low
