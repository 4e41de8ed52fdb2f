-- The ports of a text's declarations, in the slices.
use Rattle.std.specs.Prelude.{ℕ, zero, suc, ◌+◌, ◌-◌, ◌≤◌, ◌<◌, ◌^◌, Bool, true, false, List, [], ◌∷◌, ◌++◌, ◌≡◌, refl, leb, ltb, length, get_or}
use Rattle.std.proofs.lemmas.Bool.{false≢true, lt-leb}
use Rattle.std.proofs.Common.{sym, ap, ◌∙◌, subst, arith, length-append, le-leb, ltb-true, ltb-false}
use Rattle.node.specs.Result.{Done}
use Rattle.language.specs.Bytes.{same}
use Rattle.language.specs.Limits.{max_names, max_width, max_signals, offset_bits}
use Rattle.language.specs.Tokens.{Name, Token, is_of, tokens}
use Rattle.language.specs.Tree.{Definition, Declaration, OneSignal, OfWidth, OfType, Spec}
use Rattle.language.specs.Names.{visible}
use Rattle.language.specs.DeclaredNames.{Port, inputs, outputs, Declarations, declarations}
use Rattle.language.specs.Numbering.{in_order, first_of}
use Rattle.language.proofs.Laws.Basics.Lists.{All, all_append, all_more}
use Rattle.language.proofs.Laws.Basics.Tests.{same_refl}
use Rattle.language.specs.Listed.{declared_name}
use Rattle.language.proofs.Laws.Values.DistinctNames.{Apart, Distinct}
use Rattle.language.proofs.Laws.Values.PortLaws.{PortFor, Pairs, PortsFor, ports_for_lem, pairs-right, port_names, ports_distinct}
use Rattle.names.specs.References.{number_in}
use Rattle.names.proofs.ResolvedLaws.{number_apart}
use Rattle.names.specs.Resolved.{declared_names}
use Rattle.operands.specs.Entries.{place_at}
use Rattle.notes.specs.Owned.{DeclarationAt}
use Rattle.ports.specs.Ports.{PortsFrom, Ported, Room}
use Rattle.ports.specs.Firsts.{Separate, numbered_from}
use Rattle.ports.specs.FirstsLaws.{firsts-told}
use Rattle.declarations.specs.Along.{Along}
use Rattle.declarations.specs.AlongLaws.{along_both, pairs-length}
use Rattle.declarations.specs.Turnable.{Turnable}
use Rattle.declarations.specs.TurnableLaws.{signals-turnable}
use Rattle.declarations.specs.Trees.{Tree}
use Rattle.declarations.specs.TreeLaws.{number_small}
use Rattle.declarations.specs.Enumerations.{Enumerates}
use Rattle.declarations.specs.Widths.{EnumeratedBy}
use Rattle.declarations.specs.Describing.{Described}
use Rattle.declarations.specs.DescribingLaws.{placed-from, place_offset}
use Rattle.declarations.specs.Turns.{PlacedFrom, WidthsFrom}
use Rattle.declarations.specs.Placing.{PortsPlaced}
use Rattle.declarations.specs.PlacingLaws.{along_each}
use Rattle.declarations.specs.Promise.{PortsNoted}
use Rattle.declarations.specs.Final.{number_of, names-proper, near}

ports_append : (R : Token → ℕ) (order offsets widths : List ℕ) (ins j : ℕ) (ps qs : List Port) → PortsFrom R order offsets widths ins j ps → PortsFrom R order offsets widths ins (j + length ps) qs
    → PortsFrom R order offsets widths ins j (ps ++ qs)
ports_append R order offsets widths ins j [] qs h g = subst (λ i. PortsFrom R order offsets widths ins i qs) (omega arith) g
ports_append R order offsets widths ins j (p ∷ ps) qs h g = (
  h.0,
  ports_append R order offsets widths ins (suc j) ps qs h.1
      (subst (λ i. PortsFrom R order offsets widths ins i qs) (omega arith) g),
)

noted_append : (x : Spec) (ts : List Token) (w order enumerations : List ℕ) (j : ℕ) (ps qs : List Port) → PortsNoted x ts w order enumerations j ps
    → PortsNoted x ts w order enumerations (j + length ps) qs → PortsNoted x ts w order enumerations j (ps ++ qs)
noted_append x ts w order enumerations j [] qs h g = subst (λ i. PortsNoted x ts w order enumerations i qs) (omega arith) g
noted_append x ts w order enumerations j (p ∷ ps) qs h g = (h.0, noted_append x ts w order enumerations (suc j) ps qs h.1 (subst (λ i. PortsNoted x ts w order enumerations i qs) (omega arith) g))

widths_at : (widths : List ℕ) (j : ℕ) (ps : List Port) → WidthsFrom widths j ps → (i : ℕ) → j ≤ i → i < j + length ps → get_or widths i 0 ≤ max_width
widths_at widths j [] h i a b = absurd (omega arith)
widths_at widths j (p ∷ ps) h i a b = go (i - j) refl (widths_at widths (suc j) ps h.1 i)
  where
    go : (d : ℕ) → i - j ≡ d → (suc j ≤ i → i < suc j + length ps → get_or widths i 0 ≤ max_width) → get_or widths i 0 ≤ max_width
    go zero e ih = let z : j ≡ i = omega arith in let q = h.0.0 in let r = h.0.1 in subst (λ n. get_or widths n 0 ≤ max_width) z (omega arith)
    go (suc d) e ih = ih (omega arith) (omega arith)

-- the words of a port's enumeration
enumerates_for : (ts : List Token) (w : List ℕ) (defs : List Definition) (output : Bool) (m : Declaration) (p : Port) (e : ℕ) → PortFor defs output m p → EnumeratedBy ts w defs m e
    → Enumerates ts w e p.words
enumerates_for ts w defs output (OneSignal n) p e f h = record { wordless = λ _. f.shaped.1; there = λ q. absurd (q h) }
enumerates_for ts w defs output (OfWidth n b) p e f h = record { wordless = λ _. f.shaped.1; there = λ q. absurd (q h) }
enumerates_for ts w defs output (OfType u n) p e f h = subst (Enumerates ts w e) (sym f.shaped.1) h

module _ {text w refs found : List ℕ} {entries names : ℕ} {x : Spec} (t : Tree text w refs found entries names x) (places order enumerations offsets widths : List ℕ) (ins count : ℕ)
    (p : PortsPlaced t places ins count) (h : Described w refs found places count order enumerations offsets) where
  abbrev At : Declaration → ℕ → Type 0
  At m k = DeclarationAt x text w refs m k × Turnable x (declared_name m)

  -- one heading's ports
  section_ports : (output : Bool) (ds : List Declaration) (ps : List Port) (j : ℕ) → j + length ds ≤ count → ((i : ℕ) → j ≤ i → i < j + length ds → leb ins i ≡ output)
      → Pairs (PortFor x.definitions output) ds ps → Along (λ m k. DeclarationAt x text w refs m k × Turnable x (declared_name m)) places j ds → WidthsFrom widths j ps
      → PortsFrom (number_of t) order offsets widths ins j ps
  section_ports output [] [] j l o f a b = tt
  section_ports output [] (q ∷ ps) j l o f a b = absurd f
  section_ports output (m ∷ ds) [] j l o f a b = absurd f
  section_ports output (m ∷ ds) (q ∷ ps) j l o f a b = (
    record {
      number = h.numbers j (omega arith) ∙ a.0.0.own.number ∙ ap (number_in (declared_names x)) (sym f.0.named);
      offset = h.placed j (omega arith) ∙ place_offset t m (get_or places j 0) a.0.0 ∙ ap (λ (n : Token). n.at) (sym f.0.named);
      width = b.0.0;
      output = f.0.flagged ∙ sym (o j (omega arith) (omega arith));
    },
    section_ports output ds ps (suc j) (omega arith) (λ i c d. o i (omega arith) (omega arith)) f.1 a.1 b.1,
  )

  section_noted : (output : Bool) (ds : List Declaration) (ps : List Port) (j : ℕ) → j + length ds ≤ count → Pairs (PortFor x.definitions output) ds ps
      → PlacedFrom x text w refs places enumerations j ds → PortsNoted x (tokens text) w order enumerations j ps
  section_noted output [] [] j l f a = tt
  section_noted output [] (q ∷ ps) j l f a = absurd f
  section_noted output (m ∷ ds) [] j l f a = absurd f
  section_noted output (m ∷ ds) (q ∷ ps) j l f a = (
    record {
      named = h.numbers j (omega arith) ∙ a.0.there.own.number ∙ ap (number_in (declared_names x)) (sym f.0.named);
      shown = ap (visible (declared_names x)) f.0.named ∙ a.0.turnable.shown;
      enumerates = enumerates_for (tokens text) w x.definitions output m q (get_or enumerations j 0) f.0 a.0.enumerated;
    },
    section_noted output ds ps (suc j) (omega arith) f.1 a.1,
  )

  module _ (D : Declarations) (is : declarations x ≡ Done D) (wi : WidthsFrom widths 0 D.inputs) (wo : WidthsFrom widths ins D.outputs) where
    both : PortsFor x D
    both = ports_for_lem x D is

    ins-length : length (inputs x.main) ≡ length D.inputs
    ins-length = pairs-length (PortFor x.definitions false) (inputs x.main) D.inputs both.ins

    outs-length : length (outputs x.main) ≡ length D.outputs
    outs-length = pairs-length (PortFor x.definitions true) (outputs x.main) D.outputs both.outs

    pub inputs_are : length D.inputs ≡ ins
    inputs_are = let a = ins-length in let b = p.ins_total in omega arith

    pub ports-are : length (in_order D) ≡ count
    ports-are = let a = ins-length in let b = outs-length in let c = p.ins_total in let d = p.outs_total in let e = length-append D.inputs D.outputs in omega arith

    pub ports-ported : Ported (number_of t) order offsets widths ins count (in_order D)
    ports-ported =
        let a = inputs_are in
        let c = p.ins_total in
        let d = p.outs_total in
        let at : ins ≡ 0 + length D.inputs = omega arith in
        record {
          ports = ports_append (number_of t) order offsets widths ins 0 D.inputs D.outputs
              (section_ports false (inputs x.main) D.inputs 0 (omega arith) (λ i l m. lt-leb ins i (omega arith)) both.ins p.ins-along wi)
              (subst (λ i. PortsFrom (number_of t) order offsets widths ins i D.outputs) at
              (section_ports true (outputs x.main) D.outputs ins (omega arith) (λ i l m. le-leb ins i l) both.outs p.outs-along wo));
          total = ports-are;
        }

    pub ports-noted : PortsNoted x (tokens text) w order enumerations 0 (in_order D)
    ports-noted =
        let a = inputs_are in
        let c = p.ins_total in
        let d = p.outs_total in
        let at : ins ≡ 0 + length D.inputs = omega arith in
        noted_append x (tokens text) w order enumerations 0 D.inputs D.outputs
        (section_noted false (inputs x.main) D.inputs 0 (omega arith) both.ins (placed-from t places enumerations count 0 (inputs x.main) (omega arith) h.enumerated p.ins-along))
        (subst (λ i. PortsNoted x (tokens text) w order enumerations i D.outputs) at
        (section_noted true (outputs x.main) D.outputs ins (omega arith) both.outs
        (placed-from t places enumerations count ins (outputs x.main) (omega arith) h.enumerated p.outs-along)))

    -- the room that the listing asks for
    abbrev Fine : ℕ → Type 0
    Fine k = (get_or refs k 0 < max_names) × (place_at w k < 2 ^ offset_bits)

    fine : (m : Declaration) (k : ℕ) → (DeclarationAt x text w refs m k × Turnable x (declared_name m)) × (is_of Name (declared_name m) ≡ true) → Fine k
    fine m k g =
        let a = g.0.0.own.number in
        let b = number_small t (declared_name m) g.0.1.shown in
        let c = place_offset t m k g.0.0 in
        let d = near t m k g.0.0 g.1 in
        (omega arith, omega arith)

    all-fine : (i : ℕ) → i < count → Fine (get_or places i 0)
    all-fine i l = go (ltb i ins) refl
      where
        go : (b : Bool) → ltb i ins ≡ b → Fine (get_or places i 0)
        go true e =
            along_each (λ m k. (DeclarationAt x text w refs m k × Turnable x (declared_name m)) × (is_of Name (declared_name m) ≡ true)) Fine fine places 0 (inputs x.main)
            (along_both (λ m k. DeclarationAt x text w refs m k × Turnable x (declared_name m)) (λ m. is_of Name (declared_name m) ≡ true) places 0 (inputs x.main) p.ins-along (names-proper t).0)
            i (omega arith) (let q = p.ins_total in let r = ltb-true i ins e in omega arith)
        go false e =
            along_each (λ m k. (DeclarationAt x text w refs m k × Turnable x (declared_name m)) × (is_of Name (declared_name m) ≡ true)) Fine fine places ins (outputs x.main)
            (along_both (λ m k. DeclarationAt x text w refs m k × Turnable x (declared_name m)) (λ m. is_of Name (declared_name m) ≡ true) places ins (outputs x.main) p.outs-along
            (names-proper t).1) i (ltb-false i ins e) (let q = p.outs_total in omega arith)

    all-narrow : (i : ℕ) → i < count → get_or widths i 0 ≤ max_width
    all-narrow i l = go (ltb i ins) refl
      where
        go : (b : Bool) → ltb i ins ≡ b → get_or widths i 0 ≤ max_width
        go true e = widths_at widths 0 D.inputs wi i (omega arith) (let q = inputs_are in let r = ltb-true i ins e in omega arith)
        go false e = widths_at widths ins D.outputs wo i (ltb-false i ins e) (let q = outs-length in let r = p.outs_total in omega arith)

    pub list-room : (firsts list : List ℕ) → max_names ≤ length order → max_names ≤ length offsets → max_names ≤ length widths → max_names ≤ length firsts → max_signals ≤ length list
        → Room order offsets widths count firsts list
    list-room firsts list a b c d e =
        let few = p.few in
        record {
          numbers-room = omega arith;
          offsets_room = omega arith;
          widths_room = omega arith;
          list-room = e;
          named = λ j l. (let f = (all-fine j l).0 in let g = h.numbers j l in omega arith);
          near = λ j l. (let f = (all-fine j l).1 in let g = h.placed j l in omega arith);
          narrow = all-narrow;
        }

    -- the first signals' numbers
    shown : All (λ q. visible (declared_names x) q.name ≡ true) (in_order D)
    shown =
        let s = signals-turnable x t.resolved.distinct in
        all_append (λ q. visible (declared_names x) q.name ≡ true) D.inputs D.outputs
        (pairs-right (λ m q f g. ap (visible (declared_names x)) f.named ∙ g.shown) (inputs x.main) D.inputs both.ins s.0)
        (pairs-right (λ m q f g. ap (visible (declared_names x)) f.named ∙ g.shown) (outputs x.main) D.outputs both.outs s.1)

    separate : (ps : List Port) → All (λ q. visible (declared_names x) q.name ≡ true) ps → Distinct (port_names ps) → Separate (number_of t) ps
    separate [] v d = tt
    separate (q ∷ ps) v d = (apart ps v.1 d.0, separate ps v.1 d.1)
      where
        apart : (qs : List Port) → All (λ r. visible (declared_names x) r.name ≡ true) qs → All (Apart q.name) (port_names qs) → All (λ r. number_of t q.name ≡ number_of t r.name → ⊥) qs
        apart [] a b = tt
        apart (r ∷ qs) a b = (
          (λ e. false≢true (sym b.0 ∙ ap (same q.name.text) (sym (number_apart (declared_names x) q.name r.name v.0 a.0 e)) ∙ same_refl q.name.text)),
          apart qs a.1 b.1,
        )

    pub firsts-are : (firsts : List ℕ) → max_names ≤ length firsts
        → All (λ q. get_or (numbered_from (number_of t) 0 (in_order D) firsts) (number_of t q.name) 0 ≡ first_of (in_order D) q.name.text) (in_order D)
    firsts-are firsts room =
        all_more (λ q e. e ∙ omega arith) (in_order D)
        (firsts-told (number_of t) 0 (in_order D) firsts (all_more (λ q v. (let s = number_small t q.name v in omega arith)) (in_order D) shown)
        (separate (in_order D) shown (ports_distinct x D t.resolved.distinct is)) (ports_distinct x D t.resolved.distinct is))
