-- What an accepted text is: its tree, its declarations, its formula, and what each refusal has ruled out; and that its formula holds where the text does.
use Rattle.std.specs.Prelude.{ℕ, ◌≤◌, ◌≡◌, ◌↔◌, List, leb, length}
use Rattle.std.proofs.Common.{sym, subst, arith, leb-true}
use Rattle.std.proofs.Math.Logic.Iff as Equiv
use Rattle.std.proofs.Math.Option.{none}
use Rattle.node.specs.Limits.{max_nodes}
use Rattle.node.specs.Ltl.{Formula, Holds}
use Rattle.node.proofs.TemporalLaws.{Same}
use Rattle.node.specs.Postorder.{SignalsBelow}
use Rattle.node.specs.Result.{Done}
use Rattle.node.proofs.ResultLaws.{bind_done, guard-done}
use Rattle.node.specs.Written.{count}
use Rattle.language.specs.Limits.{max_signals}
use Rattle.language.specs.Tree.{Spec}
use Rattle.language.specs.Parsing.{parsed}
use Rattle.language.specs.DeclaredNames.{Identifies, find, Declarations, declarations, declared as named, defining}
use Rattle.language.specs.Numbering.{in_order, signal_list, too_many_signals}
use Rattle.language.specs.Lines.{lines}
use Rattle.language.specs.Expansion.{expand}
use Rattle.language.specs.Shifting.{adapted}
use Rattle.language.specs.Meaning.{Word, read_as, SpecMeans, OfSpec, TextMeans}
use Rattle.language.specs.Numbered.{numbered}
use Rattle.language.specs.Listed.{Once, ListedAs}
use Rattle.language.specs.Reading.{NumberedFormula, spec_expansion, text_expansion}
use Rattle.language.proofs.Laws.Basics.Lists.{All}
use Rattle.language.proofs.Laws.Basics.NoPlace.{refuse_at-done}
use Rattle.language.proofs.Laws.Grammar.Parses.{WellFormed, parses, parsed-proper}
use Rattle.language.proofs.Laws.Values.RegularWords.{regular-words}
use Rattle.language.proofs.Laws.Values.NameLaws.{Visible}
use Rattle.language.proofs.Laws.Values.ValueLaws.{Sane}
use Rattle.language.proofs.Laws.Values.NameBounds.{names_sane}
use Rattle.language.proofs.Laws.Values.SignalLaws.{signals_few}
use Rattle.language.proofs.Laws.Values.TextSignals.{spec_counted}
use Rattle.language.proofs.Laws.Values.PortLaws.{ports_distinct}
use Rattle.language.proofs.Laws.Values.IdentifierWords.{all_identifiers, identifiers_stand}
use Rattle.language.proofs.Laws.Meaning.ListedSignals.{names-once}
use Rattle.language.proofs.Laws.Meaning.SignalOrder.{signals-listed}
use Rattle.language.proofs.Laws.Meaning.TextPorts.{ports_placed, ports_numbered}
use Rattle.language.proofs.Laws.Meaning.SpecAgreement.{spec_agrees}
use Rattle.language.proofs.Laws.Meaning.ShiftLaws.{adapted-below}
use Rattle.language.proofs.Laws.Meaning.ShiftedWords.{adapted-holds}

-- an accepted text
pub record Accepts (text : List ℕ) (c : NumberedFormula) : Type 0 where
  pub spec : Spec
  pub declared : Declarations
  pub parsing : parsed text ≡ Done spec
  pub formed : WellFormed spec
  pub declaring : declarations spec ≡ Done declared
  pub plain : Formula
  pub expanding : expand spec declared (lines spec declared) ≡ Done plain
  pub adapting : c.formula ≡ adapted spec.semantics spec.target (signal_list (in_order declared)) plain
  pub few_signals : too_many_signals 0 (in_order declared) ≡ none
  pub few_nodes : count c.formula ≤ max_nodes
  pub listing : c.signals ≡ signal_list (in_order declared)

pub accepts : {text : List ℕ} {c : NumberedFormula} → text_expansion text ≡ Done c → Accepts text c
unfolding text_expansion spec_expansion
accepts {text} {c} e =
    let a = bind_done (parsed text) _ e in
    let x : Spec = a.0 in
    let b = bind_done (declarations x) _ a.2 in
    let d : Declarations = b.0 in
    let f = bind_done (expand x d (lines x d)) _ b.2 in
    let h = refuse_at-done 15 (too_many_signals 0 (in_order d)) _ f.2 in
    let g : Formula = adapted x.semantics x.target (signal_list (in_order d)) f.0 in
    let k = guard-done (leb (count g) max_nodes) 16 0 _ h.1 in
    let done : Done (record { formula = g; signals = signal_list (in_order d) }) ≡ Done c = k.1 in
    let formula : g ≡ c.formula = cc in
    let list : signal_list (in_order d) ≡ c.signals = cc in
    record {
      spec = x;
      declared = d;
      parsing = a.1;
      formed = (parses a.1).formed;
      declaring = b.1;
      plain = f.0;
      expanding = f.1;
      adapting = sym formula;
      few_signals = h.0;
      few_nodes = subst (λ n. count n ≤ max_nodes) formula (leb-true (count g) max_nodes k.0);
      listing = sym list;
    }

module _ (text : List ℕ) (c : NumberedFormula) (e : text_expansion text ≡ Done c) where
  -- an accepted text's formula holds, in the word numbered by its signal list, at exactly the positions where the text does
  pub text-agrees : (w : Word) → Same (TextMeans text w) (Holds c.formula (numbered text c.signals w))
  text-agrees w t =
      let a = accepts e in
      let x = a.spec in
      let list = signal_list (in_order a.declared) in
      let read = read_as x.semantics x.target x.main w in
      subst (λ r. OfSpec r w t ↔ Holds c.formula (numbered text c.signals w) t) (sym a.parsing)
      (subst (λ (l : List ℕ). SpecMeans x read t ↔ Holds c.formula (numbered text l w) t) (sym a.listing)
      (subst (λ (f : Formula). SpecMeans x read t ↔ Holds f (numbered text list w) t) (sym a.adapting)
      (Equiv.trans (spec_agrees text x a.declared a.plain a.parsing a.declaring a.expanding read t)
      (adapted-holds text x a.declared a.parsing a.declaring w x.semantics x.target a.plain t))))

  -- its signal numbers are those of entries of its signal list
  pub text-signals : SignalsBelow (length c.signals) c.formula
  text-signals =
      let a = accepts e in
      let x = a.spec in
      let list = signal_list (in_order a.declared) in
      subst (λ (l : List ℕ). SignalsBelow (length l) c.formula) (sym a.listing)
      (subst (SignalsBelow (length list)) (sym a.adapting)
      (adapted-below x.semantics x.target list (length list) a.plain
      (spec_counted x a.declared a.plain a.declaring a.formed.distinct (regular-words x a.formed.words) a.expanding)))

  -- its signal list has at most 255 entries
  pub list-limited : length c.signals ≤ max_signals
  list-limited =
      let a = accepts e in
      subst (λ l. length l ≤ max_signals) (sym a.listing) (omega (arith, signals_few 0 (in_order a.declared) (omega arith) a.few_signals))

  -- every name of it that stands for a number, set or bus stands for one within the limits; sets ascend
  pub text_sane : Visible Sane (defining (named (accepts e).declared.table) (accepts e).spec.definitions)
  text_sane =
      let a = accepts e in
      names_sane a.spec a.declared (parsed-proper text a.parsing) a.declaring

  -- no two entries of its signal list name the same signal
  pub text-once : Once text c.signals
  text-once =
      let a = accepts e in
      subst (Once text) (sym a.listing)
      (names-once text (in_order a.declared) (ports_distinct a.spec a.declared a.formed.distinct a.declaring) (ports_numbered text a.spec a.declared a.parsing a.declaring))

  -- it has the entries of every declared name one after another, inputs first, and no others
  pub text-listed : (x : Spec) → parsed text ≡ Done x → ListedAs x c.signals
  text-listed x h =
      let a = accepts e in
      let same : a.spec ≡ x = cc a.parsing in
      subst (λ y. ListedAs y c.signals) same
      (subst (ListedAs a.spec) (sym a.listing) (signals-listed text a.spec a.declared a.declaring (ports_placed text a.spec a.declared a.parsing a.declaring)))

  -- an identifier of its enumerations stands for its own words
  pub text-identifiers : All (λ i. find (accepts e).declared.table i.name.text ≡ Done (Identifies i.words)) (all_identifiers (accepts e).spec.definitions)
  text-identifiers =
      let a = accepts e in
      identifiers_stand a.spec a.formed.distinct a.declared a.declaring
