-- An expression's expansion holds where the expression's own meaning does: `agrees` for all expressions.
use Rattle.std.specs.Prelude.{ℕ, ◌≡◌, List}
use Rattle.std.proofs.Common.{subst}
use Rattle.node.specs.Temporal.{Property}
use Rattle.node.specs.Ltl.{Word as NodeWord}
use Rattle.node.specs.Result.{◌>>=◌}
use Rattle.language.specs.Bytes.{same}
use Rattle.language.specs.Tokens.{Token}
use Rattle.language.specs.Operators.{Calculates, Combines, Compares, Membership, Connects, Measures, WidthOf, Applies}
use Rattle.language.specs.Tree.{Expr, Named, Numeral, Truth, Index, Paren, Prefixed, Joined, Nexts, InWindow, Each, Between, Listed, Empty, Element, Range}
use Rattle.language.specs.Values.{number, set, Scope, value}
use Rattle.language.specs.DeclaredNames.{Port}
use Rattle.language.specs.Expansion.{Context, at, expansion}
use Rattle.language.specs.Meaning.{Word, Sense, with, Means}
use Rattle.language.proofs.Laws.Basics.Tests.{split}
use Rattle.language.proofs.Laws.Basics.Results.{done}
use Rattle.language.proofs.Laws.Values.NameLaws.{Visible, naming-within}
use Rattle.language.proofs.Laws.Values.BusValues.{OfBus, value-buses}
use Rattle.language.proofs.Laws.Meaning.BusPatterns.{BusAgrees}
use Rattle.language.proofs.Laws.Meaning.Agreement.{Agrees, misfit-agrees, truth-agrees, prefix_agrees, infix_agrees, member-agrees, nexts-agree, window-agrees, each-agrees}
use Rattle.language.proofs.Laws.Meaning.AtomAgreement.{index_agrees, compare_agrees}

-- the names that stand for formulas, each with its meaning
abbrev pub Readings : Type 1
Readings = Token → Word → Property

abbrev reading : Context → Readings → Sense
reading c m = record { values = c.values; means = m }

-- every visible name's formula holds in v where the name's meaning does in w
abbrev pub NamesAgree : Context → Readings → Word → NodeWord → Type 0
NamesAgree c m w v = (t : Token) → Agrees (c.formulas t) v (m t w)

-- every visible bus's signals are present in v where its bits are in w
abbrev pub BusesAgree : List Port → Word → NodeWord → Scope → Type 0
BusesAgree ps w v sc = Visible (OfBus (BusAgrees ps w v)) sc

module _ (w : Word) (v : NodeWord) where
  at-agrees : (c : Context) (m : Readings) (i : Token) (k : ℕ) → NamesAgree c m w v → NamesAgree (at c i k) m w v
  at-agrees c m i k g t = split (λ r. Agrees r v (m t w)) (same i.text t.text) (λ _. misfit-agrees v _) (λ _. g t)

  expansion-agrees : (e : Expr) (c : Context) (m : Readings) → BusesAgree c.ports w v c.values → NamesAgree c m w v → Agrees (expansion c e) v (Means (reading c m) e w)
  expansion-agrees (Named t) c m b g = g t
  expansion-agrees (Numeral t) c m b g = misfit-agrees v _
  expansion-agrees (Truth t a) c m b g = truth-agrees v a
  expansion-agrees (Index t e) c m b g = index_agrees c.ports w v (value c.values e >>= number) (c.values t) (b t)
  expansion-agrees (Paren t e) c m b g = expansion-agrees e c m b g
  expansion-agrees (Prefixed t (Measures o) e) c m b g = misfit-agrees v _
  expansion-agrees (Prefixed t WidthOf e) c m b g = misfit-agrees v _
  expansion-agrees (Prefixed t (Applies o) e) c m b g = prefix_agrees v o (expansion c e) (Means (reading c m) e w) (expansion-agrees e c m b g)
  expansion-agrees (Joined t (Calculates o) x y) c m b g = misfit-agrees v _
  expansion-agrees (Joined t (Combines o) x y) c m b g = misfit-agrees v _
  expansion-agrees (Joined t (Compares o) x y) c m b g =
      let B = BusAgrees c.ports w v in
      compare_agrees c.ports w v o (value c.values x) (value c.values y) (value-buses B x c.values b) (value-buses B y c.values b)
  expansion-agrees (Joined t Membership x y) c m b g = member-agrees v (value c.values x >>= number) (value c.values y >>= set)
  expansion-agrees (Joined t (Connects o) x y) c m b g =
      infix_agrees v o (expansion c x) (expansion c y) (Means (reading c m) x w) (Means (reading c m) y w) (expansion-agrees x c m b g) (expansion-agrees y c m b g)
  expansion-agrees (Nexts t n e) c m b g = nexts-agree v (value c.values n >>= number) (expansion c e) (Means (reading c m) e w) (expansion-agrees e c m b g)
  expansion-agrees (InWindow t o j k e) c m b g =
      window-agrees v o t.at (value c.values j >>= number) (value c.values k >>= number) (expansion c e) (Means (reading c m) e w) (expansion-agrees e c m b g)
  expansion-agrees (Each t o further i s e) c m b g =
      each-agrees v o (value c.values s >>= set) (λ k. expansion (at c i k) e) (λ k. Means (with (reading c m) i k) e w)
      (λ k. expansion-agrees e (at c i k) m (naming-within (OfBus (BusAgrees c.ports w v)) i _ c.values (done tt) b) (at-agrees c m i k g))
  expansion-agrees (Between t l h x y) c m b g = misfit-agrees v _
  expansion-agrees (Listed t es) c m b g = misfit-agrees v _
  expansion-agrees Empty c m b g = misfit-agrees v _
  expansion-agrees (Element e es) c m b g = misfit-agrees v _
  expansion-agrees (Range t x y z) c m b g = misfit-agrees v _

-- a context and a sense with the same values, whose names agree
pub record Matched (w : Word) (v : NodeWord) (c : Context) (s : Sense) : Type 0 where
  pub values : c.values ≡ s.values
  pub buses : BusesAgree c.ports w v c.values
  pub names : NamesAgree c s.means w v

pub agrees : {w : Word} {v : NodeWord} {c : Context} {s : Sense} → Matched w v c s → (e : Expr) → Agrees (expansion c e) v (Means s e w)
agrees {w} {v} {c} {s} h e =
    subst (λ q. Agrees (expansion c e) v (Means (record { values = q; means = s.means }) e w)) h.values (expansion-agrees w v e c s.means h.buses h.names)
