-- The declarations of a checked tree: refused as the definition refuses them, or names worked out, with which the lines may go on.
use Rattle.std.specs.Prelude.{ℕ, ◌+◌, ◌≤◌, List, ◌≡◌, length, take, drop, Err, Ok}
use Rattle.std.proofs.Common.{sym, ap, ◌∙◌, subst, arith, take_at}
use Rattle.std.proofs.lemmas.List.Edits.{sets, sets-eq}
use Rattle.node.specs.Limits.{max_nodes}
use Rattle.node.specs.Result.{◌>>=◌}
use Rattle.node.specs.Returned.{Returned}
use Rattle.node.specs.declared.Refusal.{Refusal}
use Rattle.language.specs.Limits.{max_signals}
use Rattle.language.specs.Tree.{Spec}
use Rattle.language.specs.Numbering.{in_order, signal_list}
use Rattle.language.specs.Reading.{spec_expansion, delivered}
use Rattle.language.proofs.Laws.Values.SignalLaws.{signals_few}
use Rattle.ports.specs.Signals.{Signals}
use Rattle.assembly.specs.declared.implied.Ports.{Ports}
use Rattle.declarations.specs.declared.Declarations.{Declarations as Told}
use Rattle.declarations.specs.Promise as Promise
use Rattle.declarations.specs.Expressions.{MemoryRoom}
use Rattle.declarations.specs.Promise.{Checked, SignalsAre, WorkedOut, Declares}
use Rattle.ending.proofs.EndingsLaws.{declarations-refused, declarations-done}
use Rattle.ending.specs.Hands.{Hands}
use Rattle.ending.proofs.HandsLaws.{hands_as, hands_refused}
use Rattle.ending.specs.Listing.{Listing}
use Rattle.line_counts.specs.Promise.{CountsOf}
use Rattle.reader.specs.declared.expansion.CheckedTree.{CheckedTree}
use Rattle.reader.specs.declared.expansion.Named.{Named}
use Rattle.reader.specs.declared.expansion.Counted.{Counted}
use Rattle.reader.specs.Counting.{Finishes}
use Rattle.reader.specs.CountingLaws.{not_accepted_lem}
use Rattle.reader.specs.Beginning.{given}
use Rattle.reader.specs.Lining.{Ready, SomeReady, Sized}
use Rattle.reader.specs.Naming.{Parsed, SomeParsed, Roomy, Converts}

module _ {text w refs found : List ℕ} {t : CheckedTree} where
  pub parsed-given : SomeParsed text w refs found t → Promise.Given text w refs found t.entries t.names
  parsed-given h = record { x = h.x; checked = h.parsed.checked; refs_room = h.refs_room; found-room = h.found-room }

pub memory_room : {memory table : List ℕ} {entries : ℕ} → Roomy memory entries → length table ≡ max_nodes → MemoryRoom memory table entries
memory_room h t = record { sized = t; kept = h.kept; room = h.room; most = h.most }

list-taken : (n : ℕ) (list list' vs : List ℕ) → n ≡ length vs → list' ≡ sets list 0 vs → length vs ≤ length list → take n list' ≡ vs
list-taken n list list' vs e q l = ap (take n) (q ∙ sets-eq vs list 0 (omega arith)) ∙ take_at vs (drop (0 + length vs) list) n (sym e)

-- the declarations' answer
abbrev ports_of : Told → Ports
ports_of a = record { order = a.order; enumerations = a.enumerations; firsts = a.firsts }

abbrev named_by : CheckedTree → Told → List ℕ → Named
named_by t a list = record { entries = t.entries; facts = t.facts; ports = ports_of a; count = a.count; ins = a.ins; listed = a.listed; list = list }

module _ {text w refs found : List ℕ} {t : CheckedTree} {x : Spec} (h : Parsed text w refs found t x) {memory table list list' : List ℕ} {r : Returned Told}
    (g : (x : Spec) → Checked text w refs found t.entries t.names x → Declares text w t.entries x memory table list list' r) where
  abbrev Says : Returned Told → Type 0
  Says = Promise.Answer text w t.entries x memory table list list'

  pub names-refused : {u : Refusal} {k : Counted} (nodes signals : List ℕ) → r ≡ Err u → k.answer ≡ Err u → Converts x nodes signals nodes signals k
  names-refused nodes signals e q =
      let not = declarations-refused (delivered (length nodes) (length signals)) x (subst Says e (g x h.checked).answer) in
      record {
        hands = subst (Hands (spec_expansion x >>= delivered (length nodes) (length signals)) nodes signals nodes signals) (sym q) (hands_refused nodes signals not);
        lines = λ n s e. absurd (not_accepted_lem q e);
      }

  module _ {a : Told} (e : r ≡ Ok a) where
    pub all : WorkedOut text w t.entries x memory table a.order a.enumerations a.firsts list list' a.count a.ins a.listed
    all = subst Says e (g x h.checked).answer

    listed : max_signals ≤ length list → length list' ≡ length list → Listing a.listed all.result list'
    listed l k = go a.listed all.listed
      where
        go : (i : Signals) → SignalsAre x (in_order all.result) a.firsts list list' i → Listing i all.result list'
        go (Ok n) t =
            let few = signals_few 0 (in_order all.result) (omega arith) t.0 in
            let c = t.1.0 in
            (t.0, (c, (list-taken n list list' (signal_list (in_order all.result)) c t.1.1.0 (omega arith), omega arith)))
        go (Err e) t = t

    pub names-ready : max_signals ≤ length list → length list' ≡ length list → Ready text w refs memory table (named_by t a list') x all.result
    names-ready l k = record { facts = h.facts; listing = listed l k; given = given h.checked all }

    pub names-convert : {nodes signals nodes' signals' : List ℕ} {k : Counted} → Finishes x all.result nodes signals nodes' signals' k → Converts x nodes signals nodes' signals' k
    names-convert {nodes} {signals} {k = k} f = record {
      hands = hands_as (declarations-done (delivered (length nodes) (length signals)) x all.is) f.finishes;
      lines = λ n s q d e.
          let same : all.result ≡ d = (let i = all.is in cc) in
          subst (λ i. CountsOf x i k.lines) same (f.lines n s q);
    }

module _ {text w refs found : List ℕ} {t : CheckedTree} {memory table list list' : List ℕ} {r : Returned Told} {a : Told} (h : SomeParsed text w refs found t)
    (g : (x : Spec) → Checked text w refs found t.entries t.names x → Declares text w t.entries x memory table list list' r) (e : r ≡ Ok a)
    (l : max_signals ≡ length list) (k : length list' ≡ length list) where
  pub some_ready : SomeReady text w refs memory table (named_by t a list')
  some_ready = record { x = h.x; d = _; ready = names-ready h.parsed g e (omega arith) k }

  pub some_sized : Sized w refs memory (named_by t a list')
  some_sized =
      let f = all h.parsed g e in
      let z = f.room in
      record { work_room = h.work_room; refs_room = h.refs_room; room = omega (arith, f.laid.early, z.room); most = z.most; list-size = omega arith }
