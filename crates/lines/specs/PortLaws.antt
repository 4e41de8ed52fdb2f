-- The ports of a text's declarations as the implied lines ask for them.
use Rattle.std.specs.Prelude.{ℕ, suc, ◌+◌, ◌≤◌, ◌<◌, Bool, true, false, List, [], ◌∷◌, ◌++◌, ◌≡◌, refl, eqb, length, get_or}
use Rattle.std.proofs.Common.{sym, subst, arith, length-append, eqb-true}
use Rattle.std.proofs.Math.Decide.{dec_lt}
use Rattle.std.proofs.lemmas.Bool.{eqb-false}
use Rattle.node.specs.Limits.{max_nodes}
use Rattle.node.specs.Result.{Done}
use Rattle.language.specs.Limits.{max_tokens, max_names, max_signals}
use Rattle.language.specs.Tokens.{tokens}
use Rattle.language.specs.Tree.{Declaration, OneSignal, OfWidth, OfType, Definition, Spec}
use Rattle.language.specs.DeclaredNames.{Port, inputs, outputs, Declarations, declarations}
use Rattle.language.specs.Numbering.{in_order, first_of}
use Rattle.language.proofs.Laws.Basics.Lists.{All, all_any, all_append}
use Rattle.language.proofs.Laws.Values.RegularWords.{Regular, RegularDefinition, regular_type}
use Rattle.language.proofs.Laws.Values.PortLaws.{PortFor, ports_for_lem, pairs-right}
use Rattle.entries.specs.Kinds as Kind
use Rattle.spellings.specs.Interned.{Lexed}
use Rattle.name_values.specs.Declaring.{EnumerationAt}
use Rattle.assembly.specs.Implied.{BusAt, BusesFrom, Buses}
use Rattle.assembly.specs.ImpliedLaws.{bus_stored}
use Rattle.assembly.specs.declared.implied.Ports.{Ports}

-- the words of each port are regular
regular_port : (defs : List Definition) (output : Bool) → All RegularDefinition defs → (m : Declaration) (p : Port) → PortFor defs output m p → Regular p.words
regular_port defs output r (OneSignal x) p h = subst Regular (sym h.shaped.1) (regular_type [] tt x)
regular_port defs output r (OfWidth x e) p h = subst Regular (sym h.shaped.1) (regular_type [] tt x)
regular_port defs output r (OfType u x) p h = subst Regular (sym h.shaped.1) (regular_type defs r u)

pub regular_ports : (x : Spec) (d : Declarations) → All RegularDefinition x.definitions → declarations x ≡ Done d → All (λ p. Regular p.words) (in_order d)
regular_ports x d r e =
    let defs = x.definitions in
    let f = ports_for_lem x d e in
    all_append (λ p. Regular p.words) d.inputs d.outputs (pairs-right (λ m p h _. regular_port defs false r m p h) (inputs x.main) d.inputs f.ins (all_any (inputs x.main)))
    (pairs-right (λ m p h _. regular_port defs true r m p h) (outputs x.main) d.outputs f.outs (all_any (outputs x.main)))

between : (k : ℕ) → Kind.identifier ≤ k → k ≤ Kind.word → (k ≡ Kind.identifier → ⊥) → (k ≡ Kind.word → ⊥) → ⊥
between k a b f g = go (dec_lt k Kind.word)
  where
    go : Dec (k < Kind.word) → ⊥
    go (yes l) = f (omega arith)
    go (no l) = g (omega arith)

-- a port by the entry of its enumeration, or by a number past all entries
pub bus-at : {text w : List ℕ} {a : Ports} {count none m j : ℕ} {ps : List Port} {q : Port} → Lexed text w count → max_tokens ≤ none → (get_or a.enumerations j 0 ≡ none → q.words ≡ [])
    → ((get_or a.enumerations j 0 ≡ none → ⊥) → (get_or a.enumerations j 0 < max_tokens) × EnumerationAt (tokens text) w (get_or a.enumerations j 0) q.words) → Regular q.words
    → get_or a.order j 0 < max_names
    → (m ≤ max_nodes → get_or a.firsts (get_or a.order j 0) 0 ≡ first_of ps q.name.text) → (m ≤ max_nodes → get_or a.firsts (get_or a.order j 0) 0 ≤ max_signals) → BusAt text w a ps m j q
bus-at {text} {w} {a} {none = none} {m} {j} {ps} {q} lexed past wordless there regular named first small = record {
  typed = λ l.
      let h = (there (λ e. omega arith)).1 in
      bus_stored lexed (get_or a.enumerations j 0) h.identifiers h.all h.stored (λ i k. between _ i k h.no_identifier h.no_word) h.few regular first small;
  untyped = λ l. go l (eqb (get_or a.enumerations j 0) none) refl;
  named = named;
}
  where
    go : max_tokens ≤ get_or a.enumerations j 0 → (b : Bool) → eqb (get_or a.enumerations j 0) none ≡ b → q.words ≡ []
    go l true e = wordless (eqb-true (get_or a.enumerations j 0) none e)
    go l false e = let h = (there (eqb-false (get_or a.enumerations j 0) none e)).0 in absurd (omega arith)

-- ports one after the other, those of inputs before those of outputs
module _ (text w : List ℕ) (a : Ports) (ps : List Port) (m : ℕ) where
  buses-split : (j : ℕ) (qs rs : List Port) → BusesFrom text w a ps m j (qs ++ rs)
      → BusesFrom text w a ps m j qs × BusesFrom text w a ps m (j + length qs) rs
  buses-split j [] rs h = (tt, subst (λ i. BusesFrom text w a ps m i rs) (omega arith) h)
  buses-split j (q ∷ qs) rs h =
      let t = buses-split (suc j) qs rs h.1 in
      ((h.0, t.0), subst (λ i. BusesFrom text w a ps m i rs) (omega arith) t.1)

pub ports_buses : {text w : List ℕ} {a : Ports} {ps qs rs : List Port} {m ins ports : ℕ} → BusesFrom text w a ps m 0 (qs ++ rs) → length qs ≡ ins → length (qs ++ rs) ≡ ports → ports ≤ max_names
    → Buses text w a ps m 0 ins qs × Buses text w a ps m ins ports rs
ports_buses {text} {w} {a} {ps} {qs} {rs} {m} h i n f =
    let t = buses-split text w a ps m 0 qs rs h in
    let l = length-append qs rs in (
      record { buses = t.0; total = omega arith; few = omega arith },
      record { buses = subst (λ i. BusesFrom text w a ps m i rs) (omega arith) t.1; total = omega arith; few = omega arith },
    )
