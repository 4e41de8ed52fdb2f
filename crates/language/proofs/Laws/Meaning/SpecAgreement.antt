-- A parsed text's formula holds, in the word numbered by its signal list, where its tree does.
use Rattle.std.specs.Prelude.{ℕ, ◌≡◌, ◌↔◌, List, []}
use Rattle.std.proofs.Common.{ap, sym, subst}
use Rattle.node.specs.Ltl.{Formula, Holds, Word as NodeWord}
use Rattle.node.specs.Temporal.{Property}
use Rattle.node.proofs.TemporalLaws.{Same}
use Rattle.node.specs.Result.{Result, Done, ◌>>=◌}
use Rattle.language.specs.Tree.{Part, Spec}
use Rattle.language.specs.Parsing.{parsed}
use Rattle.language.specs.Values.{Scope}
use Rattle.language.specs.DeclaredNames.{Port, Declarations, declarations, declared}
use Rattle.language.specs.Numbering.{in_order, signal_list}
use Rattle.language.specs.Lines.{implied, lines}
use Rattle.language.specs.Expansion.{expand}
use Rattle.language.specs.Meaning.{Word, Sense, or_else, present, meaning_all, SectionMeans, WholeMeans, names_of, SpecMeans}
use Rattle.language.specs.Numbered.{numbered}
use Rattle.language.proofs.Laws.Basics.Lists.{All, Any, all_any, all_left, all_right, all_both}
use Rattle.language.proofs.Laws.Grammar.Parses.{parses}
use Rattle.language.proofs.Laws.Values.RegularWords.{regular-words, PortRegular}
use Rattle.language.proofs.Laws.Values.LineLaws.{implied-all, written_all}
use Rattle.language.proofs.Laws.Values.PortLaws.{ports_for_lem, ports_regular, table-ported}
use Rattle.language.proofs.Laws.Values.BusValues.{entries-of}
use Rattle.language.proofs.Laws.Meaning.BusPatterns.{SingleAgrees, BusAgrees}
use Rattle.language.proofs.Laws.Meaning.NumberedLaws.{PortNumbered, single_numbered, bus-numbered}
use Rattle.language.proofs.Laws.Meaning.TextPorts.{ports_numbered}
use Rattle.language.proofs.Laws.Meaning.Agreement.{Agrees}
use Rattle.language.proofs.Laws.Meaning.TextAgreement.{ListedMeans, LineAgrees, TableAgrees, AllAgree, expand-agrees}
use Rattle.language.proofs.Laws.Meaning.ImpliedLines.{sections-same}

-- the names before the definitions
pub names_are : (x : Spec) (d : Declarations) → declarations x ≡ Done d → names_of x ≡ declared d.table
unfolding ◌>>=◌
names_are x d e = ap (λ (r : Result Declarations). declared (or_else [] (r >>= λ d. Done d.table))) e

module _ (text : List ℕ) (x : Spec) (d : Declarations) (hx : parsed text ≡ Done x) (hd : declarations x ≡ Done d) (w : Word) where
  abbrev pub word : NodeWord
  word = numbered text (signal_list (in_order d)) w

  -- what a parsed text's word numbered by its signal list agrees on: every declared name, and every line's bus
  pub record Met : Type 1 where
    pub table : TableAgrees w word d
    pub lined : AllAgree w word (in_order d) (lines x d)
    pub listed : (s : Sense) (q : Part) → Same (SectionMeans s x.definitions x.main q w) (ListedMeans s (lines x d) q w)

  pub met : Met
  met =
      let ps = in_order d in
      let L = PortNumbered text ps in
      let v = word in
      let ports : All L ps = ports_numbered text x d hx hd in
      let ins = all_left L d.inputs d.outputs ports in
      let outs = all_right L d.inputs d.outputs ports in
      let for = ports_for_lem x d hd in
      let regular = ports_regular x d (regular-words x (parses hx).formed.words) for in
      let Q = LineAgrees ps w v in
      let met-lines : (qs : List Port) → All L qs → All PortRegular qs → All Q (implied qs) =
      λ qs h r. implied-all Q (λ p. L p × PortRegular p) (λ p u. (bus-numbered text ps w p u.0, u.1)) qs (all_both (λ p a b. (a, b)) qs h r) in
      record {
        table = entries-of (SingleAgrees ps w v) (BusAgrees ps w v) L (single_numbered text ps w) (bus-numbered text ps w) d.table (table-ported L x d hd ins outs);
        lined =
            written_all Q Any (λ p es _. all_any es) x.main _ (all_any x.main) (met-lines d.inputs ins regular.0, (met-lines d.outputs outs regular.1, tt));
        listed = λ s q. sections-same x d s q w for regular.0 regular.1;
      }

-- the formula of a parsed text holds exactly where the text does
pub spec_agrees : (text : List ℕ) (x : Spec) (d : Declarations) (f : Formula) → parsed text ≡ Done x → declarations x ≡ Done d → expand x d (lines x d) ≡ Done f →
    (w : Word) → Same (SpecMeans x w) (Holds f (numbered text (signal_list (in_order d)) w))
unfolding Agrees
spec_agrees text x d f hx hd hf w t =
    let v = word text x d hx hd w in
    let m = met text x d hx hd w in
    let whole : Scope → Property = λ sc. WholeMeans x.strict (λ q. SectionMeans (meaning_all (present sc) x.definitions) x.definitions x.main q w) in
    let agreed : Agrees (Done f) v (whole (declared d.table)) =
    subst (λ r. Agrees r v (whole (declared d.table))) hf (expand-agrees w v x d (lines x d) m.table m.lined _ (λ q. m.listed _ q)) in
    subst (λ sc. whole sc t ↔ Holds f v t) (sym (names_are x d hd)) (agreed t)
