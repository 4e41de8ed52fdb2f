-- 'Signals number from 0, inputs first, a bus taking consecutive numbers': what the signal list has for every declared name, read from its entries.
use Rattle.std.specs.Prelude.{ℕ, ◌+◌, ◌^◌, ◌<◌, ◌≡◌, refl, Bool, true, false, List, [], ◌∷◌, ◌++◌, length, get_or}
use Rattle.std.proofs.Common.{ap, sym, subst, ◌∙◌, append_assoc, length-append, get_or-append-add, arith}
use Rattle.std.proofs.Math.ListN.{get_or-append}
use Rattle.node.specs.Result.{Done}
use Rattle.language.specs.Limits.{index_bits, width_bits}
use Rattle.language.specs.Tokens.{Token}
use Rattle.language.specs.Tree.{Definition, Declaration, OneSignal, OfWidth, OfType, Spec}
use Rattle.language.specs.DeclaredNames.{Port, inputs, outputs, Declarations, declarations}
use Rattle.language.specs.Numbering.{in_order, signals_of, entries, signal_list}
use Rattle.language.proofs.Laws.Basics.Lists.{All, all_left, all_right}
use Rattle.language.specs.Listed.{EntryReads, HasWidth, NumberedAt, NumberedFrom, ListedAs}
use Rattle.language.proofs.Laws.Values.PortLaws.{PortFor, Pairs, ports_for_lem}
use Rattle.language.proofs.Laws.Values.SignalLaws.{entry_of, list_length, first_reads, later-reads}
use Rattle.language.proofs.Laws.Values.EntryLaws.{entry-width, entry-index, entry_offset, entry-flag, entry-small}
use Rattle.language.proofs.Laws.Meaning.NumberedLaws.{PortPlaced}

entry-reads : (text : List ℕ) (p : Port) → PortPlaced text p → (i : ℕ) → i < signals_of p → EntryReads (entry_of p i) p.output p.name.at i p.width
entry-reads text p h i l =
    let at = h.offset in
    let narrow = h.narrow in
    let index : i < 2 ^ index_bits = omega arith in
    let width : p.width < 2 ^ width_bits = omega arith in
    record {
      flagged = entry-flag p.output at index width;
      offset = entry_offset p.output at index width;
      index = entry-index p.output at index width;
      width = entry-width p.output at index width;
      small = entry-small p.output at index width;
    }

has_width : (defs : List Definition) (output : Bool) (m : Declaration) (p : Port) → PortFor defs output m p → HasWidth m p.width
has_width defs output (OneSignal x) p f = f.shaped.0
has_width defs output (OfWidth x e) p f = f.shaped.0
has_width defs output (OfType u x) p f = f.shaped.0

-- a part of the list that stands from number k on
abbrev StandsFrom : List ℕ → ℕ → List ℕ → Type 0
StandsFrom list k part = (i : ℕ) → i < length part → get_or list (k + i) 0 ≡ get_or part i 0

module _ (text list : List ℕ) (defs : List Definition) (output : Bool) where
  numbered-at : (k : ℕ) (m : Declaration) (p : Port) (ps : List Port) → PortFor defs output m p → PortPlaced text p → StandsFrom list k (signal_list (p ∷ ps)) → NumberedAt list output m k p.width
  numbered-at k m p ps f h s =
      record {
        shaped = has_width defs output m p f;
        each = λ i l.
            subst (λ (t : Token). EntryReads (get_or list (k + i) 0) output t.at i p.width) f.named
            (subst (λ (b : Bool). EntryReads (get_or list (k + i) 0) b p.name.at i p.width) f.flagged
            (subst (λ (e : ℕ). EntryReads e p.output p.name.at i p.width) (sym (s i (omega (arith, list_length p ps)) ∙ first_reads p ps i l)) (entry-reads text p h i l)));
      }

  pub numbered_from_lem : (k : ℕ) (ds : List Declaration) (ps : List Port) → Pairs (PortFor defs output) ds ps → All (PortPlaced text) ps → StandsFrom list k (signal_list ps) →
      NumberedFrom list output k ds (k + length (signal_list ps))
  numbered_from_lem k [] [] f h s = omega arith
  numbered_from_lem k [] (p ∷ ps) f h s = absurd f
  numbered_from_lem k (m ∷ ds) [] f h s = absurd f
  numbered_from_lem k (m ∷ ds) (p ∷ ps) f h s = (
    p.width,
    numbered-at k m p ps f.0 h.0 s,
    subst (λ n. NumberedFrom list output (k + signals_of p) ds n) (omega (arith, list_length p ps))
        (numbered_from_lem (k + signals_of p) ds ps f.1 h.1 (λ i l. ap (λ (n : ℕ). get_or list n 0) (omega arith) ∙ s (signals_of p + i) (omega (arith, list_length p ps)) ∙ later-reads p ps i)),
  )

pub list-append : (ps qs : List Port) → signal_list (ps ++ qs) ≡ signal_list ps ++ signal_list qs
list-append [] qs = refl
list-append (p ∷ ps) qs = ap (entries p (signals_of p) 0 ++◌) (list-append ps qs) ∙ sym (append_assoc (entries p (signals_of p) 0) (signal_list ps) (signal_list qs))

pub signals-listed : (text : List ℕ) (x : Spec) (d : Declarations) → declarations x ≡ Done d → All (PortPlaced text) (in_order d) → ListedAs x (signal_list (in_order d))
signals-listed text x d hd h =
    let defs = x.definitions in
    let f = ports_for_lem x d hd in
    let A = signal_list d.inputs in
    let B = signal_list d.outputs in
    let placed = PortPlaced text in
    let ins = numbered_from_lem text (A ++ B) defs false 0 (inputs x.main) d.inputs f.ins (all_left placed d.inputs d.outputs h)
    (λ i l. ap (λ (n : ℕ). get_or (A ++ B) n 0) (omega arith) ∙ get_or-append A B 0 i l) in
    let outs = numbered_from_lem text (A ++ B) defs true (length A) (outputs x.main) d.outputs f.outs (all_right placed d.inputs d.outputs h) (λ i l. get_or-append-add A B i 0) in
    subst (ListedAs x) (sym (list-append d.inputs d.outputs))
    (record {
      between = length A;
      ins = subst (NumberedFrom (A ++ B) false 0 (inputs x.main)) (omega arith) ins;
      outs = subst (NumberedFrom (A ++ B) true (length A) (outputs x.main)) (omega (arith, length-append A B)) outs;
    })
