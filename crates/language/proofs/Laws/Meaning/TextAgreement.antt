-- A text's expansion holds where its lines, as the expansion lists them, do: declared names, definitions, lines, sections, the whole.
use Rattle.std.specs.Prelude.{ℕ, ◌≡◌, refl, Bool, ◌↔◌, eqb}
use Rattle.std.proofs.Common.{ap, subst, sym, arith}
use Rattle.std.proofs.Math.Bool.{true, false, So}
use Rattle.std.proofs.lemmas.Bool.{false≢true}
use mathlib.Core.List.{List, [], ◌∷◌, ◌++◌}
use Rattle.std.proofs.Math.Logic.Iff as Equiv
use Rattle.node.specs.Logic.{Either}
use Rattle.node.proofs.LogicLaws.{or_same, to_same, implies_or}
use Rattle.node.specs.Temporal.{Property}
use Rattle.node.proofs.TemporalLaws.{Same, always_same}
use Rattle.node.specs.Ltl.{Not, G, And, Implies, W, Formula, One, Two, Holds, Word as NodeWord}
use Rattle.node.proofs.LtlLaws.{stable}
use Rattle.node.specs.Result.{Result, Done, Refused, ◌>>=◌}
use Rattle.language.specs.Bytes.{same}
use Rattle.language.specs.Tokens.{Token}
use Rattle.language.specs.Tree.{Expr, Definition, Defined, Enumerated, Part, Initially, Preset, Require, Assert, Assume, Guarantee, part_code, Spec}
use Rattle.language.specs.Values.{naming, value}
use Rattle.language.specs.DeclaredNames.{Declared, Constant, Single, BusOf, Identifies, WaitingBus, find, declared, Port, Declarations}
use Rattle.language.specs.Numbering.{in_order}
use Rattle.language.specs.Lines.{Line, Written, Implied}
use Rattle.language.specs.Expansion.{gather, Context, expansion, signal_of, at_signals, define, define_all, expand_line, Sections, expand_section, lines_of, section, whole, expand}
use Rattle.language.specs.Meaning.{SignalOf, Word, Holding, Sense, Means, present, meaning, meaning_all, WholeMeans}
use Rattle.language.specs.LineMeaning.{LineMeans}
use Rattle.language.proofs.Laws.Basics.Lists.{All, all_more}
use Rattle.language.proofs.Laws.Basics.Results.{Within}
use Rattle.language.proofs.Laws.Values.RegularWords.{PortRegular}
use Rattle.language.proofs.Laws.Values.NameLaws.{defined_ports, naming-within, find-named}
use Rattle.language.proofs.Laws.Values.BusValues.{OfBus, value-buses, EntryOf, declared-buses}
use Rattle.language.proofs.Laws.Meaning.OwedLaws.{owed_same, owed_weak}
use Rattle.language.proofs.Laws.Meaning.ExpansionLaws.{AllHold, conjunction_holds}
use Rattle.language.proofs.Laws.Meaning.BusPatterns.{SingleAgrees, BusAgrees}
use Rattle.language.proofs.Laws.Meaning.Agreement.{Agrees, ListAgrees}
use Rattle.language.proofs.Laws.Meaning.AtomAgreement.{implied-agrees, signal-agrees}
use Rattle.language.proofs.Laws.Meaning.ExpressionAgreement.{Matched, agrees}

-- the meaning of lines listed by part, as the expansion lists them
abbrev pub LinesHold : Sense → List Line → Word → Property
LinesHold s [] w t = Unit {0}
LinesHold s (l ∷ ls) w t = LineMeans s l w t × LinesHold s ls w t

abbrev pub ListedMeans : Sense → List (Part × List Line) → Part → Word → Property
ListedMeans s [] q w t = Unit {0}
ListedMeans s (l ∷ ls) q w t = (So (eqb (part_code q) (part_code l.0)) → LinesHold s l.1 w t) × ListedMeans s ls q w t

-- the bus of an implied line agrees, and its words are no wider
abbrev pub LineAgrees : List Port → Word → NodeWord → Line → Type 0
LineAgrees ps w v (Written e) = Unit {0}
LineAgrees ps w v (Implied p) = BusAgrees ps w v p.name.text p.width × PortRegular p

module _ (w : Word) (v : NodeWord) where
  -- declared names, and definitions
  presence_agrees : (ps : List Port) (t : Token) (r : Result Declared) → Within (λ y. EntryOf (SingleAgrees ps w v) (BusAgrees ps w v) (t.text, y)) r →
      Agrees (r >>= signal_of ps t) v (Holding (SignalOf t.text) w)
  unfolding Agrees ◌>>=◌
  presence_agrees ps t (Done (Constant n)) h = tt
  presence_agrees ps t (Done Single) h = signal-agrees ps w v t.text h.says
  presence_agrees ps t (Done (BusOf n)) h = tt
  presence_agrees ps t (Done (Identifies vs)) h = tt
  presence_agrees ps t (Done WaitingBus) h = tt
  presence_agrees ps t (Refused n p) h = tt

  -- every declared name's signals are present where the declared ones are
  abbrev pub TableAgrees : Declarations → Type 0
  TableAgrees d = All (EntryOf (SingleAgrees (in_order d) w v) (BusAgrees (in_order d) w v)) d.table

  pub signals_matched : (d : Declarations) → TableAgrees d → Matched w v (at_signals d) (present (declared d.table))
  signals_matched d h =
      let ps = in_order d in
      record {
        values = refl;
        buses = declared-buses (SingleAgrees ps w v) (BusAgrees ps w v) d.table h;
        names = λ t. presence_agrees ps t (find d.table t.text) (find-named _ d.table h t.text);
      }

  define_matched : {c : Context} {s : Sense} (x : Token) (e : Expr) → Matched w v c s → Matched w v (define c x e) (meaning s x e)
  define_matched {c} {s} x e h =
      let B = BusAgrees c.ports w v in
      record {
        values = ap (λ q. naming x (value q e) q) h.values;
        buses = naming-within (OfBus B) x (value c.values e) c.values (value-buses B e c.values h.buses) h.buses;
        names = λ t. named t (same x.text t.text);
      }
    where
      named : (t : Token) (b : Bool) → Agrees (elim b [ true ↦ expansion c e | false ↦ c.formulas t ]) v (λ p. elim b [ true ↦ Means s e w p | false ↦ s.means t w p ])
      named t true = agrees h e
      named t false = h.names t

  pub definitions_matched : (ds : List Definition) {c : Context} {s : Sense} → Matched w v c s → Matched w v (define_all c ds) (meaning_all s ds)
  definitions_matched [] h = h
  definitions_matched (Defined x e ∷ ds) h = definitions_matched ds (define_matched x e h)
  definitions_matched (Enumerated x is ∷ ds) h = definitions_matched ds h

  -- lines and sections
  pub line-agrees : {c : Context} {s : Sense} → Matched w v c s → (l : Line) → LineAgrees c.ports w v l → Agrees (expand_line c l) v (LineMeans s l w)
  line-agrees h (Written e) g = agrees h e
  line-agrees {c} h (Implied p) g = implied-agrees c.ports w v p.name.text p.width g.0 p.words (all_more (λ u e. omega arith) p.words g.1)

  lines-agree : {c : Context} {s : Sense} → Matched w v c s → (ls : List Line) → All (LineAgrees c.ports w v) ls → ListAgrees (gather (expand_line c) ls) AllHold v (LinesHold s ls w)
  unfolding ListAgrees Agrees ◌>>=◌
  lines-agree h [] g = λ t. Equiv.rfl
  lines-agree {c} {s} h (l ∷ ls) g = step (expand_line c l) (line-agrees h l g.0) (gather (expand_line c) ls) (lines-agree h ls g.1)
    where
      step : (r : Result Formula) → Agrees r v (LineMeans s l w) → (q : Result (List Formula)) → ListAgrees q AllHold v (LinesHold s ls w) →
          ListAgrees (r >>= λ b. q >>= λ bs. Done (b ∷ bs)) AllHold v (LinesHold s (l ∷ ls) w)
      step (Done f) a (Done fs) b = λ t. Equiv.and (a t) (b t)
      step (Done f) a (Refused n p) b = tt
      step (Refused n p) a q b = tt

  hold_append : (fs gs : List Formula) (t : ℕ) → (AllHold fs v t × AllHold gs v t) ↔ AllHold (fs ++ gs) v t
  hold_append [] gs t = (λ p. p.1, λ h. (tt, h))
  hold_append (f ∷ fs) gs t = Equiv.trans (λ p. (p.0.0, (p.0.1, p.1)), λ p. ((p.0, p.1.0), p.1.1)) (Equiv.and Equiv.rfl (hold_append fs gs t))

  -- a section's lines, if the section is of the part that is sought
  chosen : (b : Bool) (fs gs : List Formula) (L M : Property) → Same L (AllHold fs v) → Same M (AllHold gs v) →
      Same (λ t. (So b → L t) × M t) (AllHold (elim b [ true ↦ fs ++ gs | false ↦ gs ]) v)
  chosen true fs gs L M h k t = Equiv.trans (Equiv.and (λ f. (h t).0 (f refl), λ a e. (h t).1 a) (k t)) (hold_append fs gs t)
  chosen false fs gs L M h k t = (λ p. (k t).0 p.1, λ a. (λ e. absurd (false≢true e), (k t).1 a))

  unfoldable SectionsAgree : Sense → List (Part × List Line) → Result Sections → Type 0
  SectionsAgree s ls (Done ss) = (p : Part) → Same (ListedMeans s ls p w) (AllHold (lines_of p ss) v)
  SectionsAgree s ls (Refused n p) = Unit {0}

  sections-agree : {c : Context} {s : Sense} → Matched w v c s → (ls : List (Part × List Line)) → All (λ l. All (LineAgrees c.ports w v) l.1) ls
      → SectionsAgree s ls (gather (expand_section c) ls)
  unfolding SectionsAgree ListAgrees ◌>>=◌
  sections-agree h [] g = λ p t. Equiv.rfl
  sections-agree {c} {s} h (l ∷ ls) g = step (gather (expand_line c) l.1) (lines-agree h l.1 g.0) (gather (expand_section c) ls) (sections-agree h ls g.1)
    where
      step : (r : Result (List Formula)) → ListAgrees r AllHold v (LinesHold s l.1 w) → (q : Result Sections) → SectionsAgree s ls q →
          SectionsAgree s (l ∷ ls) ((r >>= λ fs. Done (l.0, fs)) >>= λ b. q >>= λ bs. Done (b ∷ bs))
      step (Done fs) a (Done bs) b = λ p. chosen (eqb (part_code p) (part_code l.0)) fs (lines_of p bs) (LinesHold s l.1 w) (ListedMeans s ls p w) a (b p)
      step (Done fs) a (Refused n p) b = tt
      step (Refused n p) a q b = tt

  -- the six sections together
  under : (f g : Formula) (t : ℕ) {A B : Type 0} → A ↔ Holds f v t → B ↔ Holds g v t → Either (¬ A) B ↔ Holds (Two Implies f g) v t
  unfolding Holds
  under f g t h k = Equiv.trans (or_same (Equiv.not h) k) (Equiv.symm (implies_or (stable g v t)))

  pub whole-agrees : (strict : Bool) (P : Part → Property) (f : Part → Formula) → ((p : Part) → Same (P p) (Holds (f p) v)) →
      Same (WholeMeans strict P) (Holds (whole strict f) v)
  unfolding Holds
  whole-agrees false P f h t =
      under (f Initially) (Two And (f Preset) (Two Implies (Two And (One G (f Require)) (f Assume)) (Two And (One G (f Assert)) (f Guarantee)))) t (h Initially t)
      (Equiv.and (h Preset t) (to_same (Equiv.and (always_same (h Require) t) (h Assume t)) (Equiv.and (always_same (h Assert) t) (h Guarantee t))))
  whole-agrees true P f h t =
      under (f Initially) (Two And (Two And (f Preset) (Two W (f Assert) (One Not (f Require)))) (Two Implies (Two And (One G (f Require)) (f Assume)) (f Guarantee))) t (h Initially t)
      (Equiv.trans (λ p. ((p.0, p.1), p.2), λ p. (p.0.0, p.0.1, p.1))
      (Equiv.and (Equiv.and (h Preset t) (Equiv.trans (owed_same (h Assert) (h Require) t) (owed_weak (stable (f Assert) v) (stable (f Require) v) t)))
      (to_same (Equiv.and (always_same (h Require) t) (h Assume t)) (h Guarantee t))))

  -- a text's lines
  abbrev pub AllAgree : List Port → List (Part × List Line) → Type 0
  AllAgree ps ls = All (λ l. All (LineAgrees ps w v) l.1) ls

  pub expand-agrees : (x : Spec) (d : Declarations) (ls : List (Part × List Line)) → TableAgrees d → AllAgree (in_order d) ls →
      (P : Part → Property) → ((p : Part) → Same (P p) (ListedMeans (meaning_all (present (declared d.table)) x.definitions) ls p w)) → Agrees (expand x d ls) v (WholeMeans x.strict P)
  unfolding Agrees SectionsAgree ◌>>=◌
  expand-agrees x d ls h g P same =
      let ports : c.ports ≡ in_order d = defined_ports x.definitions (at_signals d) in
      go (gather (expand_section c) ls) (sections-agree (definitions_matched x.definitions (signals_matched d h)) ls (subst (λ (ps : List Port). AllAgree ps ls) (sym ports) g))
    where
      c : Context
      c = define_all (at_signals d) x.definitions

      go : (r : Result Sections) → SectionsAgree (meaning_all (present (declared d.table)) x.definitions) ls r
          → Agrees (r >>= λ ss. Done (whole x.strict (section ss))) v (WholeMeans x.strict P)
      go (Done ss) h = whole-agrees x.strict P (section ss) (λ p t. Equiv.trans (same p t) (Equiv.trans (h p t) (conjunction_holds (lines_of p ss) v t)))
      go (Refused n p) h = tt
