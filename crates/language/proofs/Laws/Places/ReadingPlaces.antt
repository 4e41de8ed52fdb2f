-- Every place that a reading gives is at most the text's length: refusals 11 to 15 are at places of the text's tokens, 16 to 18 at 0.
use Rattle.std.specs.Prelude.{ℕ, ◌+◌, ◌≤◌, ◌&&◌, List, [], ◌∷◌, ◌≡◌, leb, ltb, length}
use Rattle.std.proofs.Common.{arith}
use Rattle.node.specs.Limits.{max_nodes}
use Rattle.node.specs.Ltl.{Formula}
use Rattle.node.specs.Result.{Result, Done, Refused}
use Rattle.node.specs.Written.{count}
use Rattle.language.specs.Limits.{max_signals, work_bytes}
use Rattle.language.specs.Tokens.{Token}
use Rattle.language.specs.Operators.{
  Comparison,
  Equal,
  Unequal,
  Less,
  AtMost,
  Greater,
  AtLeast,
  Big,
  BigSum,
  BigProduct,
  BigCap,
  BigCup,
  BigAnd,
  BigOr,
  Calculates,
  Combines,
  Compares,
  Membership,
  Connects,
  Measures,
  WidthOf,
  Applies,
}
use Rattle.language.specs.Tree.{Expr, Named, Numeral, Truth, Index, Paren, Prefixed, Joined, Nexts, InWindow, Each, Between, Listed, Empty, Element, Range, Definition, Part, Spec}
use Rattle.language.specs.Parsing.{parsed}
use Rattle.language.specs.Values.{Value, Number, Set, Logic, Bus, Unsized, Choice, misfit, number, Sized, bus, choice, value}
use Rattle.language.specs.DeclaredNames.{Declared, Constant, Single, BusOf, Identifies, WaitingBus, Port, Declarations}
use Rattle.language.specs.Numbering.{in_order, signals_of, too_many_signals, signal_list}
use Rattle.language.specs.Lines.{Line, Written, Implied, implied, lines}
use Rattle.language.specs.Expansion.{width_is, against, compared, big_formula, Context, at, expansion, signal_of, at_signals, define, define_all, expand_line, expand_section, expand}
use Rattle.language.specs.Shifting.{adapted}
use Rattle.language.specs.Reading.{spec_expansion, text_expansion, reading}
use Rattle.language.proofs.Laws.Basics.Lists.{All, Any, all_any, all_append}
use Rattle.language.proofs.Laws.Basics.Tests.{split}
use Rattle.language.proofs.Laws.Basics.Results.{done, refused, guarded, bind, refusal_of, gathered}
use Rattle.language.proofs.Laws.Grammar.TreeTokens.{InExpr, InDefinition, InSubsection, InSpec}
use Rattle.language.proofs.Laws.Values.NameLaws.{define_all-keeps}
use Rattle.language.proofs.Laws.Values.LineLaws.{implied-all, written_all}
use Rattle.language.proofs.Laws.Places.PlaceBounds.{Low, At, nowhere-low, here-low, Held, held_refuse_at}
use Rattle.language.proofs.Laws.Places.ParsedPlaces.{parsed_held}
use Rattle.language.proofs.Laws.Places.ValuePlaces.{InValue, InScope, number_held, bus_held, choice_held, a_number_lem, a_set_lem, naming_held, value_held}
use Rattle.language.proofs.Laws.Places.SignalPlaces.{PortAt, find_held, in_declared, declarations_held}

-- a context of names that are refused at places of the text
record InContext (n : ℕ) (c : Context) : Type 0 where
  values : InScope n c.values
  formulas : (t : Token) → At n t → Held n Any (c.formulas t)

module _ (n : ℕ) where
  misfit_held : {A : Type 0} {Q : A → Type 0} → Held n Q (Refused 9 0)
  misfit_held = refused (omega arith)

  against_held : (ps : List Port) (o : Comparison) (b : Sized) (v : List Token) → b.place ≤ n → Held n Any (against ps o b v)
  against_held ps Equal b v h = guarded (width_is b.width v) 13 _ (λ _. h) (λ _. done tt)
  against_held ps Unequal b v h = guarded (width_is b.width v) 13 _ (λ _. h) (λ _. done tt)
  against_held ps Less b v h = misfit_held
  against_held ps AtMost b v h = misfit_held
  against_held ps Greater b v h = misfit_held
  against_held ps AtLeast b v h = misfit_held

  compared_held : (ps : List Port) (o : Comparison) (v w : Value) → InValue n v → InValue n w → Held n Any (compared ps o v w)
  compared_held ps o (Number m) w h g = bind (number w) _ (number_held n w g) λ k _. done tt
  compared_held ps o (Set s) w h g = misfit_held
  compared_held ps o Logic w h g = misfit_held
  compared_held ps o (Bus p x m) w h g = bind (choice w) _ (choice_held n w g) λ v _. against_held ps o _ v h
  compared_held ps o (Unsized p) w h g = refused h
  compared_held ps o (Choice v) w h g = bind (bus w) _ (bus_held n w g) λ b q. against_held ps o b v q

  big_formula_held : (o : Big) (f : ℕ → Result Formula) (s : List ℕ) → ((k : ℕ) → Held n Any (f k)) → Held n Any (big_formula o f s)
  big_formula_held BigSum f s h = misfit_held
  big_formula_held BigProduct f s h = misfit_held
  big_formula_held BigCap f s h = misfit_held
  big_formula_held BigCup f s h = misfit_held
  big_formula_held BigAnd f s h = bind _ _ (gathered Any f (λ k _. h k) s (all_any s)) λ fs _. done tt
  big_formula_held BigOr f s h = bind _ _ (gathered Any f (λ k _. h k) s (all_any s)) λ fs _. done tt

  in-at : (c : Context) (i : Token) (k : ℕ) → InContext n c → InContext n (at c i k)
  in-at c i k g = record { values = naming_held n i (Done (Number k)) c.values (done tt) g.values; formulas = naming_held n i misfit c.formulas misfit_held g.formulas }

  expansion_held : (c : Context) (e : Expr) → InContext n c → InExpr (At n) e → Held n Any (expansion c e)
  expansion_held c (Named t) g h = g.formulas t h
  expansion_held c (Numeral t) g h = misfit_held
  expansion_held c (Truth t b) g h = done tt
  expansion_held c (Index t e) g h =
      bind _ _ (a_number_lem n (value c.values e) (value_held n c.values e g.values h.1)) λ i _.
      bind _ _ (bind _ _ (g.values t h.0) (bus_held n)) λ b q. guarded (ltb i b.width) 13 _ (λ _. q) (λ _. done tt)
  expansion_held c (Paren t e) g h = expansion_held c e g h.1
  expansion_held c (Prefixed t (Measures m) e) g h = misfit_held
  expansion_held c (Prefixed t WidthOf e) g h = misfit_held
  expansion_held c (Prefixed t (Applies o) e) g h = bind _ _ (expansion_held c e g h.1) λ f _. done tt
  expansion_held c (Joined t (Calculates o) a b) g h = misfit_held
  expansion_held c (Joined t (Combines o) a b) g h = misfit_held
  expansion_held c (Joined t (Compares o) a b) g h =
      bind _ _ (value_held n c.values a g.values h.1) λ v q. bind _ _ (value_held n c.values b g.values h.2) λ w r. compared_held c.ports o v w q r
  expansion_held c (Joined t Membership a b) g h =
      bind _ _ (a_number_lem n (value c.values a) (value_held n c.values a g.values h.1)) λ m _.
      bind _ _ (a_set_lem n (value c.values b) (value_held n c.values b g.values h.2)) λ s _. done tt
  expansion_held c (Joined t (Connects o) a b) g h = bind _ _ (expansion_held c a g h.1) λ f _. bind _ _ (expansion_held c b g h.2) λ k _. done tt
  expansion_held c (Nexts t m e) g h =
      bind _ _ (a_number_lem n (value c.values m) (value_held n c.values m g.values h.1)) λ k _. bind _ _ (expansion_held c e g h.2) λ f _. done tt
  expansion_held c (InWindow t o l m e) g h =
      bind _ _ (a_number_lem n (value c.values l) (value_held n c.values l g.values h.1)) λ j _.
      bind _ _ (a_number_lem n (value c.values m) (value_held n c.values m g.values h.2)) λ k _.
      guarded (leb j k) 11 _ (λ _. h.0) (λ _. bind _ _ (expansion_held c e g h.3) λ f _. done tt)
  expansion_held c (Each t o further i s e) g h =
      bind _ _ (a_set_lem n (value c.values s) (value_held n c.values s g.values h.2)) λ m _. big_formula_held o _ m (λ k. expansion_held (at c i k) e (in-at c i k g) h.3)
  expansion_held c (Between t l u a b) g h = misfit_held
  expansion_held c (Listed t es) g h = misfit_held
  expansion_held c Empty g h = misfit_held
  expansion_held c (Element e es) g h = misfit_held
  expansion_held c (Range t x y z) g h = misfit_held

  signal_of_held : (ps : List Port) (t : Token) (d : Declared) → Held n Any (signal_of ps t d)
  signal_of_held ps t (Constant m) = misfit_held
  signal_of_held ps t Single = done tt
  signal_of_held ps t (BusOf w) = misfit_held
  signal_of_held ps t (Identifies v) = misfit_held
  signal_of_held ps t WaitingBus = misfit_held

  in-atSignals : (d : Declarations) → InContext n (at_signals d)
  in-atSignals d = record { values = in_declared n d.table; formulas = λ t a. bind _ _ (find_held n d.table t.text) λ x _. signal_of_held (in_order d) t x }

  in-define : (c : Context) (x : Token) (e : Expr) → InContext n c → InExpr (At n) e → InContext n (define c x e)
  in-define c x e g h =
      record {
        values = naming_held n x (value c.values e) c.values (value_held n c.values e g.values h) g.values;
        formulas = naming_held n x (expansion c e) c.formulas (expansion_held c e g h) g.formulas;
      }

  in-defineAll : (ds : List Definition) → All (InDefinition (At n)) ds → (c : Context) → InContext n c → InContext n (define_all c ds)
  in-defineAll = define_all-keeps (InContext n) (InDefinition (At n)) (λ c x e h g. in-define c x e g h.1)

  -- what holds of every token of a written line
  abbrev InLine : Line → Type 0
  InLine (Written e) = InExpr (At n) e
  InLine (Implied p) = Unit {0}

  expand_line_held : (c : Context) (l : Line) → InContext n c → InLine l → Held n Any (expand_line c l)
  expand_line_held c (Written e) g h = expansion_held c e g h
  expand_line_held c (Implied p) g h = done tt

  abbrev InPart : Part × List Line → Type 0
  InPart s = All InLine s.1

  expand_section_held : (c : Context) (s : Part × List Line) → InContext n c → InPart s → Held n Any (expand_section c s)
  expand_section_held c s g h = bind _ _ (gathered InLine (expand_line c) (λ l q. expand_line_held c l g q) s.1 h) λ fs _. done tt

  expand_held : (x : Spec) (d : Declarations) → InSpec (At n) x → Held n Any (expand x d (lines x d))
  expand_held x d h =
      let c = define_all (at_signals d) x.definitions in
      let own : (ps : List Port) → All InLine (implied ps) = λ ps. implied-all InLine Any (λ p _. tt) ps (all_any ps) in
      bind _ _
      (gathered InPart (expand_section c) (λ s q. expand_section_held c s (in-defineAll x.definitions h.definitions (at_signals d) (in-atSignals d)) q) (lines x d)
      (written_all InLine (InSubsection (At n)) (λ p es g. g) x.main _ h.main (own d.inputs, (own d.outputs, tt))))
      λ ss _. done tt

  low-too_many_signals : (m : ℕ) (ps : List Port) → All (PortAt n) ps → Low n (too_many_signals m ps)
  low-too_many_signals m [] h = nowhere-low n
  low-too_many_signals m (p ∷ ps) h =
      split (Low n) (leb (m + signals_of p) max_signals) (λ _. low-too_many_signals (m + signals_of p) ps h.1) (λ _. here-low n h.0)

  spec_expansion_held : (x : Spec) → InSpec (At n) x → Held n Any (spec_expansion x)
  unfolding spec_expansion
  spec_expansion_held x h =
      bind _ _ (declarations_held n x h) λ d v.
      bind _ _ (expand_held x d h) λ f _.
      held_refuse_at 15 _ (low-too_many_signals 0 (in_order d) (all_append (PortAt n) d.inputs d.outputs v.inputs v.outputs))
      (guarded (leb (count (adapted x.semantics x.target (signal_list (in_order d)) f)) max_nodes) 16 _ (λ _. omega arith) (λ _. done tt))

text_expansion_held : (text : List ℕ) → Held (length text) Any (text_expansion text)
unfolding text_expansion
text_expansion_held text = bind (parsed text) spec_expansion (parsed_held text) (spec_expansion_held (length text))

reading_held : (text : List ℕ) (work nodes signals : ℕ) → Held (length text) Any (reading text work nodes signals)
unfolding reading
reading_held text work nodes signals =
    guarded (leb work_bytes work) 17 _ (λ _. omega arith)
    (λ _. bind (text_expansion text) _ (text_expansion_held text) λ c _. guarded (leb (count c.formula) nodes && leb (length c.signals) signals) 18 _ (λ _. omega arith) (λ _. done tt))

-- every refused place lies in the text
pub reading-place : (text : List ℕ) (work nodes signals number p : ℕ) → reading text work nodes signals ≡ Refused number p → p ≤ length text
reading-place text work nodes signals number p e = refusal_of e (reading_held text work nodes signals)
