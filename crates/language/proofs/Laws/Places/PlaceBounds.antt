-- Places, and places of refused answers, that are at most the text's length n; the lines of a tree hold the tree's tokens, so the place of refusal 5 is one of them.
use Rattle.std.specs.Prelude.{ℕ, ◌≤◌, List, [], ◌∷◌, Bool, leb}
use Rattle.std.proofs.Math.Option.{Option, none, some}
use Rattle.std.proofs.Common.{subst, arith}
use Rattle.node.specs.Result.{Result}
use Rattle.language.specs.Limits.{max_levels}
use Rattle.language.specs.Tokens.{Token}
use Rattle.language.specs.Tree.{
  Expr,
  Named,
  Numeral,
  Truth,
  Index,
  Paren,
  Prefixed,
  Joined,
  Nexts,
  InWindow,
  Each,
  Between,
  Listed,
  Empty,
  Element,
  Range,
  Identifier,
  Defined,
  Enumerated,
  OneSignal,
  OfWidth,
  OfType,
  Subsection,
  Inputs,
  Outputs,
  Lines,
  Spec,
}
use Rattle.language.specs.Places.{
  start,
  levels,
  first,
  first_in,
  unless,
  TextLine,
  ParameterLine,
  DefinitionLine,
  DeclarationLine,
  FormulaLine,
  all_lines,
  deep,
  deep_line,
  too_deep,
  refuse_at,
}
use Rattle.language.specs.Names.{Names, identifier_names, declares, declares_signal, over}
use Rattle.language.proofs.Laws.Places.AllLines.{OfSubsection, lines-all}
use Rattle.language.proofs.Laws.Basics.Lists.{All, all_more, all_append}
use Rattle.language.proofs.Laws.Basics.Tests.{split}
use Rattle.language.proofs.Laws.Basics.Results.{Answers, placed}
use Rattle.language.proofs.Laws.Grammar.TreeTokens.{InExpr, InIdentifier, InDefinition, InDeclaration, InSubsection, InSpec}

-- a place, if there is one, is at most n
abbrev pub Under : ℕ → Option ℕ → Type 0
Under n none = Unit {0}
Under n (some p) = p ≤ n

pub record Low (n : ℕ) (o : Option ℕ) : Type 0 where
  pub says : Under n o

abbrev pub At : ℕ → Token → Type 0
At n t = t.at ≤ n

-- what holds of every token of a line
abbrev pub InEntry : (Token → Type 0) → TextLine → Type 0
InEntry P (ParameterLine x e) = P x × InExpr P e
InEntry P (DefinitionLine d) = InDefinition P d
InEntry P (DeclarationLine d) = InDeclaration P d
InEntry P (FormulaLine e) = InExpr P e

module _ (n : ℕ) where
  pub nowhere-low : Low n none
  nowhere-low = record { says = tt }

  pub here-low : {p : ℕ} → p ≤ n → Low n (some p)
  here-low h = record { says = h }

  pub low_first : {a b : Option ℕ} → Low n a → Low n b → Low n (first a b)
  low_first {a} {b} h g = record { says = go a b h.says g.says }
    where
      go : (a b : Option ℕ) → Under n a → Under n b → Under n (first a b)
      go none b h g = g
      go (some p) none h g = h
      go (some p) (some q) h g = omega arith

  pub low-first_in : {A : Type 0} (Q : A → Type 0) (f : A → Option ℕ) (xs : List A) → ((x : A) → Q x → Low n (f x)) → All Q xs → Low n (first_in f xs)
  low-first_in Q f [] g h = nowhere-low
  low-first_in Q f (x ∷ xs) g h = low_first (g x h.0) (low-first_in Q f xs g h.1)

  pub low-unless : (b : Bool) (p : ℕ) → p ≤ n → Low n (unless b p)
  low-unless b p h = split (Low n) b (λ _. nowhere-low) (λ _. here-low h)

  pub low-start : (e : Expr) → InExpr (At n) e → start e ≤ n
  low-start (Named t) h = h
  low-start (Numeral t) h = h
  low-start (Truth t b) h = h
  low-start (Index t e) h = h.0
  low-start (Paren t e) h = h.0
  low-start (Prefixed t o e) h = h.0
  low-start (Joined t o a b) h = low-start a h.1
  low-start (Nexts t m e) h = h.0
  low-start (InWindow t o l m e) h = h.0
  low-start (Each t o further i s e) h = h.0
  low-start (Between t l u a b) h = low-start a h.1
  low-start (Listed t es) h = h.0
  low-start Empty h = omega arith
  low-start (Element e es) h = low-start e h.0
  low-start (Range t x y z) h = h.0

  -- refusal 5
  low-deep : (e : Expr) → InExpr (At n) e → Low n (deep e)
  low-deep e h = low-unless (leb (levels e) max_levels) (start e) (low-start e h)

  low-deep_line : (l : TextLine) → InEntry (At n) l → Low n (deep_line l)
  low-deep_line (ParameterLine x e) h = low-deep e h.1
  low-deep_line (DefinitionLine (Defined x e)) h = low-deep e h.1
  low-deep_line (DefinitionLine (Enumerated x is)) h = nowhere-low
  low-deep_line (DeclarationLine (OneSignal x)) h = nowhere-low
  low-deep_line (DeclarationLine (OfWidth x e)) h = low-deep e h.1
  low-deep_line (DeclarationLine (OfType u x)) h = nowhere-low
  low-deep_line (FormulaLine e) h = low-deep e h

-- the lines of a tree hold its tokens
module _ (P : Token → Type 0) where
  pub in_all_lines : (x : Spec) → InSpec P x → All (InEntry P) (all_lines x)
  in_all_lines x h = lines-all (InEntry P) x h.parameters h.definitions (all_more within x.main h.main)
    where
      within : (s : Subsection) → InSubsection P s → OfSubsection (InEntry P) s
      within (Inputs ds) g = g
      within (Outputs ds) g = g
      within (Lines p es) g = g

  in-identifierNames : (is : List Identifier) → All (InIdentifier P) is → All P (identifier_names is)
  in-identifierNames [] h = tt
  in-identifierNames (i ∷ is) h = (h.0.0, in-identifierNames is h.1)

  pub in_declares : (l : TextLine) → InEntry P l → All P (declares l)
  in_declares (ParameterLine x e) h = (h.0, tt)
  in_declares (DefinitionLine (Defined x e)) h = (h.0, tt)
  in_declares (DefinitionLine (Enumerated x is)) h = (h.0, in-identifierNames is h.1)
  in_declares (DeclarationLine (OneSignal x)) h = (h, tt)
  in_declares (DeclarationLine (OfWidth x e)) h = (h.0, tt)
  in_declares (DeclarationLine (OfType u x)) h = (h.1, tt)
  in_declares (FormulaLine e) h = tt

  pub in_declares_signal : (l : TextLine) → InEntry P l → All P (declares_signal l)
  in_declares_signal (ParameterLine x e) h = tt
  in_declares_signal (DefinitionLine d) h = tt
  in_declares_signal (DeclarationLine d) h = in_declares (DeclarationLine d) h
  in_declares_signal (FormulaLine e) h = tt

  pub in_over : (f : TextLine → Names) (ls : List TextLine) → ((l : TextLine) → InEntry P l → All P (f l)) → All (InEntry P) ls → All P (over f ls)
  in_over f [] g h = tt
  in_over f (l ∷ ls) g h = all_append P (f l) (over f ls) (g l h.0) (in_over f ls g h.1)

pub low-too_deep : (n : ℕ) (x : Spec) → InSpec (At n) x → Low n (too_deep x)
low-too_deep n x h = low-first_in n (InEntry (At n)) deep_line (all_lines x) (low-deep_line n) (in_all_lines (At n) x h)

-- an answer whose value has a property Q and whose refusal has a place of at most n
abbrev pub Held : {A : Type 0} → ℕ → (A → Type 0) → Result A → Type 0
Held n Q r = Answers (λ number p. p ≤ n) Q r

pub held_refuse_at : {A : Type 0} {n : ℕ} {Q : A → Type 0} (number : ℕ) (o : Option ℕ) {r : Result A} → Low n o → Held n Q r → Held n Q (refuse_at number o r)
held_refuse_at {n = n} number o l h = placed number o (λ p e. let here : Low n (some p) = subst (Low n) e l in here.says) h
