-- The implied lines stand behind the written ones, and together they are the lines of the sections.
use Rattle.std.specs.Prelude.{ℕ, suc, ◌≤◌, List, [], ◌∷◌, ◌++◌, map, ◌≡◌, length, Ok, Err}
use Rattle.std.proofs.Common.{sym, ap, ◌∙◌, subst, arith}
use Rattle.node.specs.Limits.{max_nodes}
use Rattle.node.specs.Ltl.{Formula}
use Rattle.node.specs.Result.{Done, Refused, ◌>>=◌}
use Rattle.node.proofs.ResultLaws.{bind_refused, bind_to}
use Rattle.node.specs.Returned.{Returned}
use Rattle.node.specs.declared.Refusal.{Refusal}
use Rattle.language.specs.Limits.{work_bytes}
use Rattle.language.specs.Tree.{Part, Require, Assert, part_code, Spec}
use Rattle.language.specs.DeclaredNames.{Port, Declarations}
use Rattle.language.specs.Numbering.{in_order}
use Rattle.language.specs.Lines.{implied, lines}
use Rattle.language.specs.Expansion.{gather, at_signals, expand_section}
use Rattle.language.proofs.Laws.Values.NameLaws.{defined_ports}
use Rattle.operands.specs.Working.{Source}
use Rattle.assembly.specs.Gathered.{in_turn, GatheredFrom, lines_in_turn}
use Rattle.assembly.specs.Implied.{implied_formulas, BusesFrom, Buses, AddsAll, Ready}
use Rattle.assembly.specs.ExpandLaws.{implied-behind}
use Rattle.assembly.specs.declared.implied.Ends.{Ends}
use Rattle.assembly.specs.declared.implied.Ports.{Ports}
use Rattle.assembly.specs.declared.implied.Span.{Span}
use Rattle.lines.specs.Items.{items, worked}
use Rattle.lines.specs.WorkedLaws.{sections-in_turn}
use Rattle.lines.specs.Gathering.{line_context, Buffers, SomeTree, WritesLines}
use Rattle.lines.specs.Whole.{Given, SomeGiven, Gathers}
use Rattle.lines.specs.declared.Plan.{Plan}

-- the lines of the sections, by the formulas of the written lines
module _ (x : Spec) (d : Declarations) where
  abbrev with_implied : List (Part × Formula) → List (Part × Formula)
  with_implied ls = (ls ++ map (λ f. (Require, f)) (implied_formulas (in_order d) d.inputs)) ++ map (λ f. (Assert, f)) (implied_formulas (in_order d) d.outputs)

  pub lines_in_turn_lem : {ls : List (Part × Formula)} → worked (line_context x d) (items x) ≡ Done ls → lines_in_turn x d (lines x d) ≡ Done (with_implied ls)
  lines_in_turn_lem {ls} e =
      let c = line_context x d in
      sections-in_turn c x ((Require, implied d.inputs) ∷ (Assert, implied d.outputs) ∷ [])
      ∙ bind_to _ _ (λ fs. gather (expand_section c) ((Require, implied d.inputs) ∷ (Assert, implied d.outputs) ∷ []) >>= λ u. Done (fs ++ in_turn u)) e
      ∙ implied-behind c ls d.inputs d.outputs
      ∙ ap (λ (ps : List Port). Done ((ls ++ map (λ f. (Require, f)) (implied_formulas ps d.inputs)) ++ map (λ f. (Assert, f)) (implied_formulas ps d.outputs)))
      (defined_ports x.definitions (at_signals d))

  pub lines-refused : {n p : ℕ} → worked (line_context x d) (items x) ≡ Refused n p → lines_in_turn x d (lines x d) ≡ Refused n p
  lines-refused e =
      let c = line_context x d in
      sections-in_turn c x ((Require, implied d.inputs) ∷ (Assert, implied d.outputs) ∷ [])
      ∙ bind_refused _ _ _ (λ fs. gather (expand_section c) ((Require, implied d.inputs) ∷ (Assert, implied d.outputs) ∷ []) >>= λ u. Done (fs ++ in_turn u)) e

-- buses at a later index: signals have numbers there only if they have before
module _ (text w : List ℕ) (a : Ports) (ps : List Port) (m n : ℕ) (h : n ≤ max_nodes → m ≤ max_nodes) where
  from-later : (j : ℕ) (qs : List Port) → BusesFrom text w a ps m j qs → BusesFrom text w a ps n j qs
  from-later j [] b = tt
  from-later j (q ∷ qs) b = (
    record {
      typed = λ l. let t = b.0.typed l in record { words = t.words; regular = t.regular; first-is = λ k. t.first-is (h k); small = λ k. t.small (h k) };
      untyped = b.0.untyped;
      named = b.0.named;
    },
    from-later (suc j) qs b.1,
  )

buses-later : {text w : List ℕ} {a : Ports} {ps : List Port} {m n first last from to : ℕ} {qs : List Port} → first ≡ from → last ≡ to → (n ≤ max_nodes → m ≤ max_nodes)
    → Buses text w a ps m from to qs → Buses text w a ps n first last qs
buses-later {text} {w} {a} {ps} {m} {n} {first} {last} {from} {to} {qs} f l h b = record {
  buses = rw f (from-later text w a ps m n h from qs b.buses);
  total = omega (arith, b.total);
  few = omega (arith, b.few);
}

fits-before : {start at count : ℕ} {ls : List (Part × Formula)} {words table : List ℕ} → GatheredFrom start ls words count table at → at ≤ max_nodes → start ≤ max_nodes
fits-before g h = omega (arith, g.starts h)

abbrev span : ℕ → ℕ → ℕ → Span
span part from to = record { part = part; from = from; to = to }

pub given-tree : {s : Source} {b : Buffers} {a : Ports} {plan : Plan} → SomeGiven s b a plan → SomeTree s b plan.entries plan.start
given-tree g = record { x = g.x; d = g.d; begins = g.given.begins }

pub answer-is : {s : Source} {b b' : Buffers} {entries start : ℕ} {r a : Returned Ends} → WritesLines s b b' entries start r → r ≡ a → WritesLines s b b' entries start a
answer-is {s} {b} {b'} {entries} {start} w e = subst (WritesLines s b b' entries start) e w

module _ {s : Source} {b b' : Buffers} {a : Ports} {plan : Plan} where
  -- a written line is refused
  pub gathers_refused : {r g : Returned Ends} {f : Refusal} {table' words' : List ℕ} → WritesLines s b b' plan.entries plan.start r → r ≡ Err f → g ≡ Err f → Gathers s b table' words' a plan g
  gathers_refused {table' = table'} {words' = words'} w e z =
      subst (Gathers s b table' words' a plan) (sym z) (record { says = λ {x} {d} g. record { says = lines-refused x d ((answer-is w e).says g.begins).says } })

  -- the written lines are there: those of the inputs follow, and those of the outputs
  module _ {written : Ends} {part from to : ℕ} (w : WritesLines s b b' plan.entries plan.start (Ok written)) (required : part ≡ part_code Require) (first : from ≡ 0) (last : to ≡ plan.ins) where
    pub inputs-ready : SomeGiven s b a plan → max_nodes ≤ length b'.words → work_bytes ≤ length s.work
        → Ready s.text s.work a (span part from to) written b'.table b'.words
    inputs-ready g l k =
        let f = (w.says g.given.begins).says in
        record {
          room = record { section = Require; code = required; start = plan.start; some = f.all; gathered = f.told; long = l; work = k };
          ports = in_order g.d;
          some = g.d.inputs;
          buses = buses-later first last (fits-before f.told) g.given.inputs;
        }

    module _ {e : Ends} {table'' words'' : List ℕ}
        (i : (ps qs : List Port) → Buses s.text s.work a ps written.at from to qs
        → AddsAll part written b'.table b'.words table'' words'' e (implied_formulas ps qs)) where
      inputs-gathered : {x : Spec} {d : Declarations} (g : Given s b a plan x d)
          → GatheredFrom plan.start ((w.says g.begins).says.all ++ map (λ f. (Require, f)) (implied_formulas (in_order d) d.inputs)) words'' e.count table'' e.at
      inputs-gathered {x} {d} g =
          let f = (w.says g.begins).says in
          (i (in_order d) d.inputs (buses-later first last (fits-before f.told) g.inputs)).more Require required f.told

      module _ {more begin end : ℕ} (asserted : more ≡ part_code Assert) (behind : begin ≡ plan.ins) (through : end ≡ plan.count) where
        pub outputs-ready : SomeGiven s b a plan → max_nodes ≤ length words'' → work_bytes ≤ length s.work → Ready s.text s.work a (span more begin end) e table'' words''
        outputs-ready g l k =
            let f = inputs-gathered g.given in
            record {
              room = record { section = Assert; code = asserted; start = plan.start; some = _; gathered = f; long = l; work = k };
              ports = in_order g.d;
              some = g.d.outputs;
              buses = buses-later behind through (fits-before f) g.given.outputs;
            }

        pub gathers-all : {r : Ends} {table''' words''' : List ℕ}
            → ((ps qs : List Port) → Buses s.text s.work a ps e.at begin end qs → AddsAll more e table'' words'' table''' words''' r (implied_formulas ps qs))
            → Gathers s b table''' words''' a plan (Ok r)
        gathers-all o = record {
          says = λ {x} {d} g.
              let h = inputs-gathered g in
              record {
                says = record {
                  all = _;
                  are = lines_in_turn_lem x d (w.says g.begins).says.are;
                  told = (o (in_order d) d.outputs (buses-later behind through (fits-before h) g.outputs)).more Assert asserted h;
                };
              };
        }
