-- An accepted text's formula has only the numbers of declared signals.
use Rattle.std.specs.Prelude.{ℕ, ◌+◌, ◌≤◌, ◌≡◌, Bool, List, [], ◌∷◌, eqb, length}
use Rattle.std.proofs.Common.{sym, subst, arith}
use Rattle.std.proofs.Math.Bool.{true, false}
use Rattle.std.proofs.Math.Option.{none}
use Rattle.node.specs.Ltl.{Formula}
use Rattle.node.specs.Result.{Done}
use Rattle.node.specs.Postorder.{SignalsBelow}
use Rattle.language.specs.Tokens.{Token}
use Rattle.language.specs.Tree.{Expr, Definition, Part, Initially, Preset, Require, Assert, Assume, Guarantee, part_code, Spec}
use Rattle.language.specs.Names.{declared_again}
use Rattle.language.specs.Values.{value}
use Rattle.language.specs.DeclaredNames.{Declared, Constant, Single, BusOf, Identifies, WaitingBus, Port, Declarations, declarations}
use Rattle.language.specs.Numbering.{in_order, signals_of, first_of, signal_list}
use Rattle.language.specs.Lines.{Line, Written, Implied, implied, lines}
use Rattle.language.specs.Expansion.{signal_node, Context, signal_of, at_signals, define, define_all, expand_line, Sections, expand_section, lines_of, section, whole, expand}
use Rattle.language.proofs.Laws.Basics.Lists.{All, Any, all_any, all_more, all_append, all_left, all_right, all_both}
use Rattle.language.proofs.Laws.Basics.Tests.{split}
use Rattle.language.proofs.Laws.Basics.Results.{done, refused, bind, value_of, gathered, Within}
use Rattle.language.proofs.Laws.Values.RegularWords.{RegularDefinition, PortRegular}
use Rattle.language.proofs.Laws.Values.NameLaws.{defined_ports, define_all-keeps, naming-within, find-named}
use Rattle.language.proofs.Laws.Values.LineLaws.{implied-all, written_all}
use Rattle.language.proofs.Laws.Values.PortLaws.{ports_for_lem, ports_distinct, ports_regular, table-ported}
use Rattle.language.proofs.Laws.Values.SignalLaws.{PortListed, ports_listed}
use Rattle.language.proofs.Laws.Values.BusValues.{OfBus, value-buses, EntryOf, declared-buses, entries-of}
use Rattle.language.proofs.Laws.Values.SignalBounds.{conjunction-below, WordsBelow, one_of-below, BusBelow, ContextBelow, expansion-below}

module _ (N : ℕ) where
  -- a single signal below N
  abbrev SingleBelow : List Port → List ℕ → Type 0
  SingleBelow ps x = SignalsBelow N (signal_node ps x 0)

  -- declared names, and definitions
  signal_of-below : (ps : List Port) (t : Token) (y : Declared) → EntryOf (SingleBelow ps) (BusBelow N ps) (t.text, y) → Within (SignalsBelow N) (signal_of ps t y)
  signal_of-below ps t (Constant n) h = refused tt
  signal_of-below ps t Single h = done h
  signal_of-below ps t (BusOf n) h = refused tt
  signal_of-below ps t (Identifies v) h = refused tt
  signal_of-below ps t WaitingBus h = refused tt

  signals-below : (d : Declarations) → All (EntryOf (SingleBelow (in_order d)) (BusBelow N (in_order d))) d.table → ContextBelow N (at_signals d)
  signals-below d h =
      let ps = in_order d in
      record {
        values = declared-buses (SingleBelow ps) (BusBelow N ps) d.table h;
        formulas = λ t. bind _ _ (find-named (EntryOf (SingleBelow ps) (BusBelow N ps)) d.table h t.text) (signal_of-below ps t);
      }

  define-below : (c : Context) (x : Token) (e : Expr) → ContextBelow N c → ContextBelow N (define c x e)
  define-below c x e g =
      record {
        values = naming-within (OfBus (BusBelow N c.ports)) x (value c.values e) c.values (value-buses (BusBelow N c.ports) e c.values g.values) g.values;
        formulas = naming-within (SignalsBelow N) x _ c.formulas (expansion-below N e c g) g.formulas;
      }

  definitions_below : (ds : List Definition) (c : Context) → ContextBelow N c → ContextBelow N (define_all c ds)
  definitions_below ds = define_all-keeps (ContextBelow N) Any (λ c x e _. define-below c x e) ds (all_any ds)

  -- lines and sections
  abbrev LineBelow : List Port → Line → Type 0
  LineBelow ps (Written e) = Unit {0}
  LineBelow ps (Implied p) = WordsBelow N ps p.name.text p.words

  abbrev SectionBelow : List Port → Part × List Line → Type 0
  SectionBelow ps s = All (LineBelow ps) s.1

  abbrev ExpandedBelow : Part × List Formula → Type 0
  ExpandedBelow s = All (SignalsBelow N) s.1

  line-below : (c : Context) → ContextBelow N c → (l : Line) → LineBelow c.ports l → Within (SignalsBelow N) (expand_line c l)
  line-below c g (Written e) h = expansion-below N e c g
  line-below c g (Implied p) h = done (one_of-below N c.ports p.name.text p.words h)

  section-below : (c : Context) → ContextBelow N c → (s : Part × List Line) → SectionBelow c.ports s → Within ExpandedBelow (expand_section c s)
  section-below c g s h =
      bind _ _ (gathered (LineBelow c.ports) (expand_line c) (line-below c g) s.1 h)
      (λ fs k. done k)

  lines_of-below : (p : Part) (ss : Sections) → All ExpandedBelow ss → All (SignalsBelow N) (lines_of p ss)
  lines_of-below p [] h = tt
  lines_of-below p (s ∷ ss) h =
      let rest = lines_of-below p ss h.1 in
      split (All (SignalsBelow N)) (eqb (part_code p) (part_code s.0)) (λ _. all_append (SignalsBelow N) s.1 (lines_of p ss) h.0 rest) (λ _. rest)

  whole_below : (strict : Bool) (f : Part → Formula) → ((p : Part) → SignalsBelow N (f p)) → SignalsBelow N (whole strict f)
  unfolding SignalsBelow
  whole_below false f h = (h Initially, (h Preset, ((h Require, h Assume), (h Assert, h Guarantee))))
  whole_below true f h = (h Initially, ((h Preset, (h Assert, h Require)), ((h Require, h Assume), h Guarantee)))

  -- a port whose signals lie below N, with the words of its enumeration
  abbrev PortBelow : List Port → Port → Type 0
  PortBelow ps p = first_of ps p.name.text + signals_of p ≤ N

  abbrev PortWithin : List Port → Port → Type 0
  PortWithin ps p = PortBelow ps p × PortRegular p

  line-within : (ps : List Port) (p : Port) → PortWithin ps p → LineBelow ps (Implied p)
  line-within ps p h = let low = h.0 in all_more (λ v e. omega arith) p.words h.1

  expand-below : (x : Spec) (d : Declarations) → All (EntryOf (SingleBelow (in_order d)) (BusBelow N (in_order d))) d.table → All (SectionBelow (in_order d)) (lines x d)
      → Within (SignalsBelow N) (expand x d (lines x d))
  expand-below x d h k =
      let c : Context = define_all (at_signals d) x.definitions in
      let ports : c.ports ≡ in_order d = defined_ports x.definitions (at_signals d) in
      let g : ContextBelow N c = definitions_below x.definitions _ (signals-below d h) in
      bind _ _ (gathered (SectionBelow c.ports) (expand_section c) (section-below c g) (lines x d) (subst (λ (ps : List Port). All (SectionBelow ps) (lines x d)) (sym ports) k))
      (λ ss l. done (whole_below x.strict (section ss) (λ p. conjunction-below N (lines_of p ss) (lines_of-below p ss l))))

-- every signal number of an accepted text's formula is that of an entry of its signal list
pub spec_counted : (x : Spec) (d : Declarations) (f : Formula) → declarations x ≡ Done d → declared_again x ≡ none → All RegularDefinition x.definitions → expand x d (lines x d) ≡ Done f →
    SignalsBelow (length (signal_list (in_order d))) f
unfolding SignalsBelow
spec_counted x d f hd once r hf =
    let ps = in_order d in
    let N = length (signal_list ps) in
    let L = PortListed ps in
    let listed = ports_listed ps (ports_distinct x d once hd) in
    let ins = all_left L d.inputs d.outputs listed in
    let outs = all_right L d.inputs d.outputs listed in
    let regular = ports_regular x d r (ports_for_lem x d hd) in
    let names = entries-of (SingleBelow N ps) (BusBelow N ps) L (λ p l _. omega (arith, l.inside)) (λ p l. omega (arith, l.inside)) d.table (table-ported L x d hd ins outs) in
    let Q = LineBelow N ps in
    let low : (qs : List Port) → All L qs → All PortRegular qs → All Q (implied qs) =
    λ qs h r. implied-all Q (PortWithin N ps) (line-within N ps) qs (all_both (λ p l u. (l.inside, u)) qs h r) in
    value_of hf (expand-below N x d names
    (written_all Q Any (λ p es _. all_any es) x.main _ (all_any x.main) (low d.inputs ins regular.0, (low d.outputs outs regular.1, tt))))
