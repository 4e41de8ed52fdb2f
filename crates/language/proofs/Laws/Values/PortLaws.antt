-- The ports of a text: one for each declaration in order, of its name and shape; and every name that stands for a signal or a bus is a port's.
use Rattle.std.specs.Prelude.{ℕ, zero, suc, ◌≤◌, ◌≡◌, refl, Bool, true, false, List, [], ◌∷◌, ◌++◌, map, length}
use Rattle.std.proofs.Common.{ap, ap₂, sym, ◌∙◌, subst, arith}
use Rattle.std.proofs.lemmas.List.{map-append}
use Rattle.std.proofs.Math.Option.{none}
use Rattle.node.specs.Result.{Done}
use Rattle.language.specs.Limits.{max_width}
use Rattle.language.specs.Tokens.{Token}
use Rattle.language.specs.Tree.{Identifier, Definition, Defined, Enumerated, Parameter, Declaration, OneSignal, OfWidth, OfType, Spec}
use Rattle.language.specs.Names.{declared_again}
use Rattle.language.specs.DeclaredNames.{
  Declared,
  Constant,
  Single,
  BusOf,
  Identifies,
  WaitingBus,
  Table,
  identified,
  identifiers,
  words_of_type,
  word_width,
  Port,
  sized,
  port_of,
  as_declared,
  turns,
  waiting,
  constants,
  inputs,
  outputs,
  Declarations,
  declarations,
}
use Rattle.language.specs.Numbering.{in_order}
use Rattle.language.proofs.Laws.Basics.Lists.{All, all_any, all_more, all_append}
use Rattle.language.proofs.Laws.Basics.Results.{done, bind, bind_any, value_of, Within}
use Rattle.language.proofs.Laws.Values.RegularWords.{RegularDefinition, regular_type, PortRegular}
use Rattle.language.proofs.Laws.Values.NameLaws.{sized_as}
use Rattle.language.specs.Listed.{declared_name}
use Rattle.language.proofs.Laws.Values.DistinctNames.{Distinct, declared_names, distinct_signals}

-- a single signal has width 0; a bus has one from 1 on; one of an enumeration has that of the words
abbrev Shape : List Definition → Declaration → Port → Type 0
Shape defs (OneSignal x) p = (p.width ≡ 0) × (p.words ≡ [])
Shape defs (OfWidth x e) p = (1 ≤ p.width) × (p.words ≡ [])
Shape defs (OfType u x) p = (1 ≤ p.width) × (p.words ≡ words_of_type defs u) × (p.width ≡ word_width (words_of_type defs u))

pub record PortFor (defs : List Definition) (output : Bool) (m : Declaration) (p : Port) : Type 0 where
  pub named : p.name ≡ declared_name m
  pub flagged : p.output ≡ output
  pub narrow : p.width ≤ max_width
  pub shaped : Shape defs m p

-- related element by element
abbrev pub Pairs : {A B : Type 0} → (A → B → Type 0) → List A → List B → Type 0
Pairs R [] [] = Unit {0}
Pairs R [] (b ∷ m) = ⊥
Pairs R (a ∷ l) [] = ⊥
Pairs R (a ∷ l) (b ∷ m) = R a b × Pairs R l m

-- what a width has passed
abbrev Allowed : ℕ → Type 0
Allowed n = (1 ≤ n) × (n ≤ max_width)

pub port_of_for : (defs : List Definition) (output : Bool) (d : Table) (m : Declaration) → Within (PortFor defs output m) (port_of defs output d m)
port_of_for defs output d (OneSignal x) = done (record { named = refl; flagged = refl; narrow = omega arith; shaped = (refl, refl) })
port_of_for defs output d (OfWidth x e) =
    bind _ _ (bind_any _ (sized x) (λ n. sized_as {Q = Allowed} x n tt (λ a b. (a, b)))) (λ k h. done (record { named = refl; flagged = refl; narrow = h.1; shaped = (h.0, refl) }))
port_of_for defs output d (OfType u x) =
    let n = word_width (words_of_type defs u) in
    bind _ _ (sized_as {Q = λ k. Allowed k × (k ≡ n)} x n tt (λ a b. ((a, b), refl)))
    (λ k h. done (record { named = refl; flagged = refl; narrow = h.0.1; shaped = (h.0.0, refl, h.1) }))

turns_for : (defs : List Definition) (output : Bool) (ds : List Declaration) (d : Table) → Within (λ s. Pairs (PortFor defs output) ds s.ports) (turns defs output ds d)
turns_for defs output [] d = done tt
turns_for defs output (m ∷ ds) d =
    bind _ _ (port_of_for defs output d m) (λ p h. bind _ _ (turns_for defs output ds ((p.name.text, as_declared p.width) ∷ d)) (λ s k. done (h, k)))

-- the ports of a text, those of inputs and those of outputs
pub record PortsFor (x : Spec) (d : Declarations) : Type 0 where
  pub ins : Pairs (PortFor x.definitions false) (inputs x.main) d.inputs
  pub outs : Pairs (PortFor x.definitions true) (outputs x.main) d.outputs

pub ports_for_lem : (x : Spec) (d : Declarations) → declarations x ≡ Done d → PortsFor x d
ports_for_lem x d e = value_of e within
  where
    within : Within (PortsFor x) (declarations x)
    within =
        bind_any _ _ (λ t. bind _ _ (turns_for x.definitions false (inputs x.main) t) (λ i h.
        bind _ _ (turns_for x.definitions true (outputs x.main) i.table) (λ o k. done (record { ins = h; outs = k }))))

-- names
abbrev pub port_names : List Port → List Token
port_names ps = map (λ p. p.name) ps

names_for : (defs : List Definition) (output : Bool) (ds : List Declaration) (ps : List Port) → Pairs (PortFor defs output) ds ps → port_names ps ≡ declared_names ds
names_for defs output [] [] h = refl
names_for defs output [] (p ∷ ps) h = absurd h
names_for defs output (m ∷ ds) [] h = absurd h
names_for defs output (m ∷ ds) (p ∷ ps) h = ap₂ ◌∷◌ h.0.named (names_for defs output ds ps h.1)

pub ports_distinct : (x : Spec) (d : Declarations) → declared_again x ≡ none → declarations x ≡ Done d → Distinct (port_names (in_order d))
ports_distinct x d e h =
    let f = ports_for_lem x d h in
    subst Distinct (ap₂ ◌++◌ (sym (names_for x.definitions false (inputs x.main) d.inputs f.ins)) (sym (names_for x.definitions true (outputs x.main) d.outputs f.outs)) ∙ sym
    (map-append (λ (p : Port). p.name) d.inputs d.outputs))
    (distinct_signals x e)

-- what holds of every element of the one list holds of every element of the other
pub pairs-right : {A B : Type 0} {R : A → B → Type 0} {Q : A → Type 0} {P : B → Type 0} → ((a : A) (b : B) → R a b → Q a → P b) → (l : List A) (m : List B) → Pairs R l m → All Q l → All P m
pairs-right f [] [] h q = tt
pairs-right f [] (b ∷ m) h q = absurd h
pairs-right f (a ∷ l) [] h q = absurd h
pairs-right f (a ∷ l) (b ∷ m) h q = (f a b h.0 q.0, pairs-right f l m h.1 q.1)

-- words as wide as the port
regular_port : (defs : List Definition) (output : Bool) → All RegularDefinition defs → (m : Declaration) (p : Port) → PortFor defs output m p → PortRegular p
regular_port defs output r (OneSignal x) p h = subst (All (λ v. length v.text ≡ p.width)) (sym h.shaped.1) tt
regular_port defs output r (OfWidth x e) p h = subst (All (λ v. length v.text ≡ p.width)) (sym h.shaped.1) tt
regular_port defs output r (OfType u x) p h =
    subst (All (λ v. length v.text ≡ p.width)) (sym h.shaped.1) (all_more (λ v e. e ∙ sym h.shaped.2) (words_of_type defs u) (regular_type defs r u).equal)

pub ports_regular : (x : Spec) (d : Declarations) → All RegularDefinition x.definitions → PortsFor x d → All PortRegular d.inputs × All PortRegular d.outputs
ports_regular x d r f =
    let defs = x.definitions in (
      pairs-right (λ m p h _. regular_port defs false r m p h) (inputs x.main) d.inputs f.ins (all_any (inputs x.main)),
      pairs-right (λ m p h _. regular_port defs true r m p h) (outputs x.main) d.outputs f.outs (all_any (outputs x.main)),
    )

-- a name of n bits is that of a port of which L holds
pub record NamesPort (L : Port → Type 0) (x : List ℕ) (n : ℕ) : Type 0 where
  pub port : Port
  pub holds : L port
  pub named : port.name.text ≡ x
  pub wide : port.width ≡ n

-- names that stand for a signal or a bus
abbrev pub EntryPorted : (Port → Type 0) → List ℕ × Declared → Type 0
EntryPorted L (x, Constant n) = Unit {0}
EntryPorted L (x, Single) = NamesPort L x 0
EntryPorted L (x, BusOf n) = NamesPort L x n
EntryPorted L (x, Identifies v) = Unit {0}
EntryPorted L (x, WaitingBus) = Unit {0}

module _ (L : Port → Type 0) where
  -- names before their turn
  identified-ported : (is : List Identifier) → All (EntryPorted L) (identified is)
  identified-ported [] = tt
  identified-ported (i ∷ is) = (tt, identified-ported is)

  identifiers-ported : (ds : List Definition) → All (EntryPorted L) (identifiers ds)
  identifiers-ported [] = tt
  identifiers-ported (Defined x e ∷ ds) = identifiers-ported ds
  identifiers-ported (Enumerated x is ∷ ds) = all_append (EntryPorted L) (identified is) (identifiers ds) (identified-ported is) (identifiers-ported ds)

  waiting-ported : (defs : List Definition) (output : Bool) (ds : List Declaration) (ps : List Port) (d : Table) → Pairs (PortFor defs output) ds ps → All L ps → All (EntryPorted L) d →
      All (EntryPorted L) (waiting ds d)
  waiting-ported defs output [] [] d h l k = k
  waiting-ported defs output [] (p ∷ ps) d h l k = k
  waiting-ported defs output (m ∷ ds) [] d h l k = absurd h
  waiting-ported defs output (OneSignal x ∷ ds) (p ∷ ps) d h l k =
      (record { port = p; holds = l.0; named = ap (λ (t : Token). t.text) h.0.named; wide = h.0.shaped.0 }, waiting-ported defs output ds ps d h.1 l.1 k)
  waiting-ported defs output (OfWidth x e ∷ ds) (p ∷ ps) d h l k = (tt, waiting-ported defs output ds ps d h.1 l.1 k)
  waiting-ported defs output (OfType u x ∷ ds) (p ∷ ps) d h l k = (tt, waiting-ported defs output ds ps d h.1 l.1 k)

  constants-ported : (xs : List Parameter) (d : Table) → All (EntryPorted L) d → Within (All (EntryPorted L)) (constants xs d)
  constants-ported [] d h = done h
  constants-ported (x ∷ xs) d h = bind_any _ _ (λ n. constants-ported xs ((x.name.text, Constant n) ∷ d) (tt, h))

  -- a name after its turn
  turn_ported : (p : Port) (n : ℕ) → L p → p.width ≡ n → EntryPorted L (p.name.text, as_declared n)
  turn_ported p zero l e = record { port = p; holds = l; named = refl; wide = e }
  turn_ported p (suc n) l e = record { port = p; holds = l; named = refl; wide = e }

  turns-ported : (defs : List Definition) (output : Bool) (ds : List Declaration) (d : Table) →
      Within (λ s. All L s.ports → All (EntryPorted L) d → All (EntryPorted L) s.table) (turns defs output ds d)
  turns-ported defs output [] d = done (λ l h. h)
  turns-ported defs output (m ∷ ds) d =
      bind_any _ _ (λ p. bind _ _ (turns-ported defs output ds ((p.name.text, as_declared p.width) ∷ d)) (λ s f.
      done (λ l h. f l.1 (turn_ported p p.width l.0 refl, h))))

  -- every name that stands for a signal or a bus is a port's
  pub table-ported : (x : Spec) (d : Declarations) → declarations x ≡ Done d → All L d.inputs → All L d.outputs → All (EntryPorted L) d.table
  table-ported x d e i o =
      let f = ports_for_lem x d e in
      let first = waiting-ported x.definitions false (inputs x.main) d.inputs _ f.ins i
      (waiting-ported x.definitions true (outputs x.main) d.outputs _ f.outs o (identifiers-ported x.definitions)) in
      value_of e (within first) i o
    where
      within : All (EntryPorted L) (waiting (inputs x.main) (waiting (outputs x.main) (identifiers x.definitions))) →
          Within (λ d. All L d.inputs → All L d.outputs → All (EntryPorted L) d.table) (declarations x)
      within first =
          bind _ _ (constants-ported x.parameters _ first) (λ t h.
          bind _ _ (turns-ported x.definitions false (inputs x.main) t) (λ s f.
          bind _ _ (turns-ported x.definitions true (outputs x.main) s.table) (λ u g.
          done (λ i o. g o (f i h)))))
