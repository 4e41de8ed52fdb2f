-- What a definition's body has come to: a formula is marked where its nodes stand.
use Rattle.std.specs.Prelude.{ℕ, ◌+◌, ◌≤◌, ◌<◌, List, ◌≡◌, refl, length, get_or, Ok}
use Rattle.std.proofs.Common.{sym, ap, ap₂, ◌∙◌, subst, arith}
use Rattle.node.specs.Limits.{max_nodes}
use Rattle.node.specs.Ltl.{Formula}
use Rattle.node.proofs.PostorderLaws.{size_pos}
use Rattle.node.specs.Result.{Result, Done, Refused, ◌>>=◌}
use Rattle.node.proofs.ResultLaws.{not_done}
use Rattle.machine.specs.declared.Move.TheVariants.{Next}
use Rattle.writing.specs.WritingLaws.{ends}
use Rattle.writing.specs.Parts.{Stands as StandsAt}
use Rattle.writing.specs.PartLaws.{stands}
use Rattle.language.specs.Limits.{max_names}
use Rattle.language.specs.Tree.{Expr}
use Rattle.language.specs.Expansion.{Context, expansion}
use Rattle.name_values.specs.World.{Meaning, Defines}
use Rattle.operands.specs.Working.{Source}
use Rattle.machine.specs.Fields.{at_field, value_field, other_field}
use Rattle.machine.specs.Phases as Phase
use Rattle.machine.specs.Came.{Came, Nodes, nodes}
use Rattle.machine.specs.Frames.{KeepFormula}
use Rattle.machine.specs.Realm.{Realm}
use Rattle.machine.specs.Memory.{first_kept, frame_words}
use Rattle.machine.specs.MeansLaws.{means_kept}
use Rattle.machine.specs.Holding.{forms_of}
use Rattle.machine.specs.Notes.{marked, Lasts}
use Rattle.machine.specs.Telling.{is_nodes}
use Rattle.machine.specs.Table.{Began}
use Rattle.machine.specs.TableLaws.{laid-sized, Behind, laid-last, laid_end}
use Rattle.machine.specs.MemoryLaws.{agree_keeps}
use Rattle.machine.specs.FactLaws.{fact_keeps}
use Rattle.machine.specs.States.{Come, TopOf, Topped, Takes}
use Rattle.machine.specs.ComeLaws.{came-formula}
use Rattle.machine.specs.FormulaLaws.{formula-laid}
use Rattle.machine.specs.FrameViews.{by_phase}
use Rattle.machine.specs.TakeLaws.{at-word, top-phase, top_as}
use Rattle.machine.specs.Entering.{Waiting}
use Rattle.machine.specs.declared.Machine.{Machine}
use Rattle.value_steps.specs.NotingLaws.{renoted_noted, renoted_lasting, marking, marking_renoted}
use Rattle.value_steps.specs.ReleaseLaws.{below, Releasing, declared, defined, releases, lets_go}
use Rattle.value_steps.specs.Moves.{released}
use Rattle.name_steps.specs.Marks.{Marked}

-- the formula that has come of an expression
nodes-done : (r : Result Formula) {f : Formula} → (r >>= nodes) ≡ Done (Nodes f) → r ≡ Done f
unfolding ◌>>=◌
nodes-done (Done g) e = cc
nodes-done (Refused n p) e = absurd (not_done e)

-- a definition has one body
same_body : {m : Meaning} {n j : ℕ} {a c : Context} {u e : Expr} {f : Formula} → m ≡ Defines n a u → m ≡ Defines j c e → expansion a u ≡ Done f → expansion c e ≡ Done f
same_body {a = a} {c = c} {u = u} {e = e} p q h =
    let x : a ≡ c = cc in
    let y : u ≡ e = cc in
    sym (ap₂ expansion x y) ∙ h

module _ {s : Source} {R : Realm s} {mem out : List ℕ} {m : Machine} {x : Result Came} {o : Began} {q : ℕ} {c : Context} {d : Expr} (h : TopOf R mem out m x o (KeepFormula q c d)) where
  waiting : Releasing h q c d
  waiting = record { holds_nothing = refl; same = refl; returns = h.at.holds.0; defining = h.at.waits }

  -- where its nodes begin
  begins : {from : ℕ} {f : Formula} → from ≡ get_or mem (m.frames + at_field) 0 → (b : Behind o (forms_of h.rest) (record { formula = f; end = m.nodes }) out m.nodes) → from ≡ b.at
  begins e b = e ∙ at-word h ∙ h.at.holds.1 ∙ sym (laid_end (forms_of h.rest) b.others)

-- the notes lie in the memory, and the nodes are some
pub record Keeping (mem : List ℕ) (m : Machine) (from r : ℕ) : Type 0 where
  pub declared : r < max_names
  pub inside : first_kept ≤ length mem
  pub frames : m.frames + frame_words ≤ length mem
  pub some : m.nodes ≤ max_nodes → from < m.nodes

module _ {s : Source} {mem : List ℕ} {m : Machine} (w : Waiting mem m Phase.keep_formula) where
  -- whatever else it is, it goes on
  pub keep-passes : {scope : ℕ} → scope ≡ get_or mem (m.frames + value_field) 0 → Takes s mem mem m (Ok (Next (released m scope)))
  keep-passes es = record { turns = λ R x o out t. let v = by_phase t.frame Phase.keep_formula (top-phase t ∙ w.phase) in let h = top_as t v.3 in lets_go h (waiting h) es }

  module _ (e : m.mode ≡ is_nodes) {from r : ℕ} (ef : from ≡ get_or mem (m.frames + at_field) 0) (er : r ≡ get_or mem (m.frames + other_field) 0) where
    -- the definition that is kept
    pub keep-name : Topped s mem m → Keeping mem m from r
    keep-name t =
        let v = by_phase t.top.frame Phase.keep_formula (top-phase t.top ∙ w.phase) in
        let h = top_as t.top v.3 in
        let g = came-formula t.realm t.began mem m h.came h.come e in
        let b = laid-last (formula-laid h g.same) in
        record {
          declared = declared h (waiting h) er;
          inside = (below h).inside;
          frames = h.at.inside;
          some = λ l. let y = begins h {f = g.formula} ef b in let z = ends b.wrote l in let p = size_pos g.formula in omega arith;
        }

    pub keep-formula : {scope mark : ℕ} → scope ≡ get_or mem (m.frames + value_field) 0 → Marked from m.nodes mark → Takes s mem (marking mem r mark) m (Ok (Next (released m scope)))
    keep-formula {scope} {mark} es k = record {
      turns = λ R x o out t.
          let v = by_phase t.frame Phase.keep_formula (top-phase t ∙ w.phase) in
          let c = v.1 in
          let d = v.2 in
          let h = top_as t v.3 in
          let p = waiting h in
          let g = came-formula R o mem m h.came h.come e in
          let f = g.formula in
          let b = laid-last (formula-laid h g.same) in
          let y = begins h {f = f} ef b in
          let l = declared h p er in
          let z = below h in
          let z1 = z.first in
          let z2 = z.within in
          let z3 = z.ascending in
          let z4 = z.frames in
          let n = marking_renoted mem r mark l z.inside {z = o.regions} (omega arith) z3 z2 in
          let worked : expansion c d ≡ Done f = nodes-done (expansion c d) (means_kept x _ h.rest (Done h.came) h.same ∙ ap Done g.same) in
          let own : Lasts R.W out m.nodes r mark = record {
            formula = f;
            given = λ j a u i. same_body (defined h p er) i worked;
            from = from;
            noted = λ i. let q = ends b.wrote i in k.noted i ∙ ap (marked from) (omega arith);
            before = λ i. let q = ends b.wrote i in omega arith;
            stands = λ i. let q = ends b.wrote i in subst (StandsAt f out) (sym y) (stands b.wrote (laid-sized b.others (omega arith)) i);
          } in
          releases h p {from = m.from} es (n.agree _ _ _ (omega arith)) (renoted_noted n (defined h p er) (fact_keeps (agree_keeps (n.agree 0 0 o.regions.slots (omega arith))) (h.noted.facts r l)) h.noted)
          (renoted_lasting n (λ i. own) h.lasting) (subst (Come R o (marking mem r mark) (released m scope)) (sym g.same) e);
    }
