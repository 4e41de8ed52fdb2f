-- What the lines ask for, from a text's checked tree and what it declares.
use Rattle.std.specs.Prelude.{ℕ, suc, ◌≤◌, List, [], ◌∷◌, ◌≡◌, refl, get_or, Ok, Err}
use Rattle.std.proofs.Common.{ap, ◌∙◌, arith}
use Rattle.node.specs.Limits.{max_nodes}
use Rattle.language.specs.Limits.{max_signals}
use Rattle.language.specs.Tokens.{tokens}
use Rattle.language.specs.Tree.{Spec}
use Rattle.language.specs.DeclaredNames.{Port, Declarations}
use Rattle.language.specs.Numbering.{in_order, first_of}
use Rattle.language.proofs.Laws.Basics.Lists.{All, all_any, all_more, all_both}
use Rattle.language.proofs.Laws.Values.RegularWords.{Regular}
use Rattle.language.proofs.Laws.Values.PortLaws.{ports_distinct}
use Rattle.language.proofs.Laws.Values.SignalLaws.{ports_listed, signals_few}
use Rattle.names.specs.References.{number_in}
use Rattle.names.proofs.ResolvedLaws.{number-below}
use Rattle.names.specs.Resolved.{declared_names}
use Rattle.ports.specs.Signals.{Signals}
use Rattle.notes.specs.NotesLaws.{names_distinct}
use Rattle.operands.specs.Working.{source}
use Rattle.memory_notes.specs.Laid.{FirstSignals}
use Rattle.memory_notes.specs.SignalLaws.{first-signals}
use Rattle.assembly.specs.Implied.{BusAt, BusesFrom}
use Rattle.assembly.specs.declared.implied.Ports.{Ports}
use Rattle.declarations.specs.Promise.{Checked, PortNoted, PortsNoted, SignalsAre, WorkedOut}
use Rattle.lines.specs.Gathering.{buffers}
use Rattle.lines.specs.Whole.{Given}
use Rattle.lines.specs.BeginLaws.{world, begins}
use Rattle.lines.specs.PortLaws.{regular_ports, bus-at, ports_buses}
use Rattle.ending.specs.Listing.{start_of}

module _ {text w refs found : List ℕ} {entries names : ℕ} {x : Spec} (c : Checked text w refs found entries names x) {memory table list list' : List ℕ} {a : Ports} {count ins : ℕ} {s : Signals}
    (h : WorkedOut text w entries x memory table a.order a.enumerations a.firsts list list' count ins s) where
  abbrev D : Declarations
  D = h.result

  abbrev ps : List Port
  ps = in_order D

  -- with too many signals nothing is asked of their numbers
  numbered : start_of s ≤ max_nodes → FirstSignals ps (world x D) a.firsts
  numbered l = go s l h.listed
    where
      go : (i : Signals) → start_of i ≤ max_nodes → SignalsAre x ps a.firsts list list' i → FirstSignals ps (world x D) a.firsts
      go (Ok n) l t = let once = c.tree.resolved.distinct in first-signals x D h.is once (names_distinct x once) t.0 a.firsts t.1.1.1
      go (Err p) l t = absurd (omega arith)

  -- the number of a port's first signal
  abbrev First : ℕ → Port → Type 0
  First m q = m ≤ max_nodes → (get_or a.firsts (number_in (declared_names x) q.name) 0 ≡ first_of ps q.name.text) × (first_of ps q.name.text ≤ max_signals)

  first-told : All (First (start_of s)) ps
  first-told = go s h.listed
    where
      go : (i : Signals) → SignalsAre x ps a.firsts list list' i → All (First (start_of i)) ps
      go (Ok n) t =
          let few = signals_few 0 ps (omega arith) t.0 in
          all_both (λ q r b _. (b, omega (arith, r.inside))) ps (ports_listed ps (ports_distinct x D c.tree.resolved.distinct h.is)) t.1.1.1
      go (Err p) t = all_more (λ q _ l. absurd (omega arith)) ps (all_any ps)

  abbrev Known : Port → Type 0
  Known q = First (start_of s) q × Regular q.words

  port_bus : (j : ℕ) (q : Port) → Known q → PortNoted x (tokens text) w a.order a.enumerations j q → BusAt text w a ps (start_of s) j q
  port_bus j q b n =
      let first : start_of s ≤ max_nodes → get_or a.firsts (get_or a.order j 0) 0 ≡ first_of ps q.name.text = λ k. ap (λ i. get_or a.firsts i 0) n.named ∙ (b.0 k).0 in
      let below = number-below (declared_names x) q.name n.shown in
      bus-at c.tree.stored.lexed (omega arith) n.enumerates.wordless n.enumerates.there b.1
      (let i = n.named in let y = c.tree.resolved.count in let z = c.tree.resolved.few in omega arith) first (λ k. omega (arith, first k, (b.0 k).1))

  buses-from : (j : ℕ) (qs : List Port) → All Known qs → PortsNoted x (tokens text) w a.order a.enumerations j qs → BusesFrom text w a ps (start_of s) j qs
  buses-from j [] b n = tt
  buses-from j (q ∷ qs) b n = (port_bus j q b.0 n.0, buses-from (suc j) qs b.1 n.1)

  -- the lines of the text may be worked out
  pub given : (words : List ℕ) → Given (source text w refs) (buffers memory table words) a (record { entries = entries; ins = ins; count = count; start = start_of s }) x D
  given words =
      let known : All Known ps = all_both (λ q f r. (f, r)) ps first-told (regular_ports x D c.regular h.is) in
      let buses = ports_buses {qs = D.inputs} {rs = D.outputs} (buses-from 0 ps known h.noted) h.inputs h.ports h.few in
      record {
        begins = begins x D c.regular h.is c.tree.stored c.tree.resolved h.notes h.laid numbered (few s) (starts s);
        inputs = buses.0;
        outputs = buses.1;
      }
    where
      few : (i : Signals) → start_of i ≤ suc max_nodes
      few (Ok n) = omega arith
      few (Err p) = omega arith

      starts : (i : Signals) → start_of i ≤ max_nodes → start_of i ≡ 0
      starts (Ok n) l = refl
      starts (Err p) l = absurd (omega arith)
