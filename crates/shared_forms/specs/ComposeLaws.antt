-- The loops that put the forms together, as the code has them.
use Rattle.std.specs.Prelude.{ℕ, ◌+◌, ◌-◌, ◌*◌, ◌≤◌, ◌<◌, ◌≡◌, refl, ◌≢◌, List, [], length, get_or, set, replicate}
use Rattle.std.proofs.Common.{ap, ◌∙◌, sym, subst, get_or-set_same, get_or-set_other, arith}
use Rattle.std.proofs.lemmas.List.{length-replicate, get_or-replicate}
use Rattle.std.proofs.Math.Decide.{ℕ_discrete}
use Rattle.basics.specs.Lists.{get_or_zeros}
use Rattle.node.specs.Limits.{max_nodes}
use Rattle.node.specs.Ltl.{Formula}
use Rattle.node.specs.Table.{root}
use Rattle.forms.specs.Forms.{form as form_of}
use Rattle.sharing.specs.Sharing.{distinct_count}
use Rattle.sharing.proofs.StandsLaws.{Found, found-stands}
use Rattle.sharing.proofs.SoundLaws.{sound_none}
use Rattle.shared_table.specs.Shared.{capacity, Shares, Puts}
use Rattle.shared_forms.specs.Templates.{recipe, recipes}
use Rattle.shared_forms.specs.Forming.{Step, StepIs, form_at, recipe_at, SourceIs, operand_place, Place, part_at, Within, Operand, Marking}
use Rattle.shared_forms.specs.Building.{word_over, over_at, Numbers, Steppable, Steps, Building, Composable, ComposingBy, Standing, TooMany, Composes, NotesForm, Blank, Begun}
use Rattle.shared_forms.specs.Promise.{Built, Builds}
use Rattle.shared_forms.specs.PromiseLaws.{built_few}
use Rattle.shared_forms.specs.PartLaws.{step-kind, step-fields, recipe_few, recipe_some, part-last}
use Rattle.shared_forms.specs.MarkLaws.{marking_note, marking-start, own-form}
use Rattle.shared_forms.specs.StepLaws.{operand-test, source-step, source-length, first_fits, second_fits, kind-here, first-here, second-here, operand-here, operand_read, place_here}
use Rattle.shared_forms.specs.PutLaws.{Written}
use Rattle.shared_forms.specs.BuildLaws.{composing_place, composing_more, part-put, part-many, noted-inside, noted-few, part-loaded}

-- a part as the code has it: what is noted, or what is put
module _ {k f s a b : ℕ} {numbers notes out : List ℕ} where
  pub steps-inside : {p : ℕ} → Steppable k f s a b numbers notes out → Operand k f → p ≡ operand_place a b f → p < length notes
  steps-inside h o e = rw e (h.noted o)

  pub steps_loaded : {p r : ℕ} → Operand k f → p ≡ operand_place a b f → r ≡ get_or notes p 0 → Steps k f s a b numbers notes out out r
  steps_loaded o e q = record { loaded = λ d. (q ∙ ap (λ (i : ℕ). get_or notes i 0) e, refl); put = λ d. absurd (d o) }

  pub steps-put : {out' : List ℕ} {w r : ℕ} → ¬ Operand k f → w ≡ word_over k a (get_or numbers f 0) (get_or numbers s 0) → Puts out out' w r → Steps k f s a b numbers notes out out' r
  steps-put {out'} {w} {r} d e p = record { loaded = λ o. absurd (d o); put = λ n. subst (λ (v : ℕ). Puts out out' v r) e p }

pub composable_place : {form x : ℕ} {ws notes out : List ℕ} → Composable form ws x notes out → Place form ws x
composable_place c = record { formed = c.building.marking.formed; inside = c.inside }

-- before the first part each number is that of node 0
pub numbers-start : Numbers (replicate 16 1)
numbers-start = record { slots = refl; some = λ l h. rw (get_or-replicate {A = ℕ} 16 l 1 0 h) (omega arith); few = λ l h. rw (get_or-replicate {A = ℕ} 16 l 1 0 h) (omega arith) }

pub compose_start : {form x row a b count : ℕ} {ws notes numbers out : List ℕ} → SourceIs form ws x row a b → count ≡ length (recipe row) → Composable form ws x notes out
    → Numbers numbers → ComposingBy form ws x row a b count 0 notes numbers out
compose_start q e g n =
    record { source = q; counted = e; within = omega arith; composing = record { inside = g.inside; needed = g.needed; building = g.building; numbered = n; parts = λ l h. absurd (omega arith) } }

module _ {form x row a b count j : ℕ} {ws notes numbers out : List ℕ} (l : ComposingBy form ws x row a b count j notes numbers out) where
  place : Place form ws x
  place = composing_place l.composing

  inside : j < count → j < length (recipe_at form ws x)
  inside h = let c = l.counted in let e = source-length l.source in omega arith

  pub compose_few : count ≤ 10
  compose_few = let c = l.counted in let e = source-length l.source in let f = recipe_few place in omega arith

  pub compose_some : 0 < count
  compose_some = let c = l.counted in let e = source-length l.source in let f = recipe_some place in omega arith

  pub compose_step : {table : List ℕ} → table ≡ recipes → j < count → Step table row j
  compose_step e h = source-step l.source e place (let c = l.counted in omega arith)

  module _ {k f s : ℕ} (h : j < count) (t : StepIs row j k f s) where
    pub compose-steppable : Steppable k f s a b numbers notes out
    compose-steppable =
        let q = l.source in
        let small = step-fields place j (inside h) in
        record {
          known = rw (kind-here q t) (step-kind place j (inside h));
          first_slot = rw (first-here q t) small.0;
          second-slot = rw (second-here q t) small.1;
          first_fits = first_fits q;
          second_fits = second_fits q;
          numbered = l.composing.numbered;
          noted = λ o. rw (place_here q t) (noted-inside l.composing (inside h) (operand-here q t o));
          shared = record { table = l.composing.building.table; shares = l.composing.building.shares };
        }

    module _ {out' : List ℕ} {r : ℕ} (d : Steps k f s a b numbers notes out out' r) where
      -- the word is put, as it is defined
      puts-here : ¬ Operand k f → Puts out out' (over_at form ws x j numbers) r
      puts-here n =
          let q = l.source in
          rw (← kind-here q t, ← first-here q t, ← second-here q t, ← q.first-is) (d.put n)

      written : r ≤ max_nodes → Dec (Operand k f) → Written (form_of form (root ws)) (part_at form ws x j) l.composing.building.table out' r
      written few (yes o) =
          let q = l.source in
          rw (d.loaded o).1 (part-loaded l.composing (inside h) (operand-here q t o) ((d.loaded o).0 ∙ ap (λ (p : ℕ). get_or notes p 0) (place_here q t)))
      written few (no n) = part-put l.composing (inside h) (puts-here n) (λ o. n (operand_read l.source t o)) few

      pub compose-again : r ≤ max_nodes → ComposingBy form ws x row a b count (j + 1) notes (set numbers j r) out'
      compose-again few =
          let c = compose_few in
          record { source = l.source; counted = l.counted; within = omega arith; composing = composing_more l.composing (written few (operand-test k f)) (omega arith) few }

      pub compose-refused : max_nodes < r → TooMany form ws out
      compose-refused many = go (operand-test k f)
        where
          go : Dec (Operand k f) → TooMany form ws out
          go (yes o) =
              let q = l.source in
              let e = (d.loaded o).0 ∙ ap (λ (p : ℕ). get_or notes p 0) (place_here q t) in
              let b = noted-few l.composing (inside h) (operand-here q t o) in
              absurd (omega arith)
          go (no n) = part-many l.composing (inside h) (puts-here n) (λ o. n (operand_read l.source t o)) many

  -- the last part is the form
  compose_end : count ≤ j → Standing form ws x notes out (get_or numbers (count - 1) 0)
  compose_end h =
      let c = l.counted in
      let e = source-length l.source in
      let w = l.within in
      let p = compose_some in
      let few = compose_few in
      record {
        building = l.composing.building;
        some = l.composing.numbered.some (count - 1) (omega arith);
        found =
            subst (λ (g : Formula). Found l.composing.building.table g (get_or numbers (count - 1) 0 - 1)) (part-last place (count - 1) (omega arith))
            (l.composing.parts (count - 1) (omega arith));
      }

  compose_last_few : get_or numbers (count - 1) 0 ≤ max_nodes
  compose_last_few = let f = compose_few in l.composing.numbered.few (count - 1) (omega arith)

  pub composes_done : {entry : List ℕ} → count ≤ j → Composes form ws x notes entry out (get_or numbers (count - 1) 0)
  composes_done h = let f = compose_last_few in record { done = λ few. compose_end h; refused = λ many. absurd (omega arith) }

pub composes_refused : {form x r : ℕ} {ws notes entry out' : List ℕ} (out : List ℕ) → length out ≡ length entry → max_nodes < r → TooMany form ws out → Composes form ws x notes entry out' r
composes_refused {form} {ws = ws} out e many t =
    record { done = λ few. absurd (omega arith); refused = λ m. subst (λ (n : ℕ). capacity n < distinct_count (form_of form (root ws))) e t }

-- the forms one after the other: one that is not needed, and one that was put together
module _ {form x : ℕ} {ws notes out : List ℕ} where
  pub build-pass : Building form ws x notes out → get_or notes x 0 ≡ 0 → Building form ws (x + 1) notes out
  build-pass g e =
      record { marking = g.marking; table = g.table; shares = g.shares; sound = g.sound; stands = λ y h d. go y h d (ℕ_discrete y x) }
    where
      go : (y : ℕ) → y < x + 1 → get_or notes y 0 ≢ 0 → Dec (y ≡ x) → Found g.table (form_at form ws y) (get_or notes y 0 - 1)
      go y h d (yes q) = absurd (d (ap (λ (z : ℕ). get_or notes z 0) q ∙ e))
      go y h d (no n) = g.stands y (omega arith) d

  pub build_note : {r : ℕ} → x < 2 * length ws → get_or notes x 0 ≢ 0 → Standing form ws x notes out r → Building form ws (x + 1) (set notes x r) out
  build_note {r} i d s =
      let m = s.building.marking in
      let p = s.some in
      record {
        marking = marking_note m x r (λ e. omega arith) i (λ b. d) (m.such x i d);
        table = s.building.table;
        shares = s.building.shares;
        sound = s.building.sound;
        stands = λ y h e. go y h e (ℕ_discrete y x);
      }
    where
      go : (y : ℕ) → y < x + 1 → get_or (set notes x r) y 0 ≢ 0 → Dec (y ≡ x) → Found s.building.table (form_at form ws y) (get_or (set notes x r) y 0 - 1)
      go y h e (yes q) =
          let l = s.building.marking.long in
          let v : get_or (set notes x r) y 0 ≡ r = ap (λ (z : ℕ). get_or (set notes x r) z 0) q ∙ get_or-set_same notes x r 0 (omega arith) in
          rw v (subst (λ (z : ℕ). Found s.building.table (form_at form ws z) (r - 1)) (sym q) s.found)
      go y h e (no n) =
          let v = get_or-set_other notes x y r 0 n in
          rw v (s.building.stands y (omega arith) (subst (λ (z : ℕ). z ≢ 0) v e))

pub build-start : {form : ℕ} {ws notes out : List ℕ} → Marking form ws 0 notes → Shares out [] → Building form ws 0 notes out
build-start {form} {ws} m s = record { marking = m; table = []; shares = s; sound = sound_none (Within form ws); stands = λ x h d. absurd (omega arith) }

pub build-end : {form k : ℕ} {ws notes out : List ℕ} → 2 * length ws ≤ k → Building form ws k notes out → Built (form_of form (root ws)) out (get_or notes (2 * (length ws - 1)) 0)
build-end {form} {k} {ws} {notes} h g =
    let d = g.marking.top in
    let s = g.marking.formed.some in
    let f = g.stands (2 * (length ws - 1)) (omega arith) d in
    record {
      table = g.table;
      shares = g.shares;
      sound = g.sound;
      some = omega arith;
      stands = found-stands g.table (form_of form (root ws)) (get_or notes (2 * (length ws - 1)) 0 - 1)
          (subst (λ (e : Formula). Found g.table e (get_or notes (2 * (length ws - 1)) 0 - 1)) (own-form form ws (length ws - 1)) f);
    }

-- and as the code has it
pub notes_pass : {form x : ℕ} {ws notes out : List ℕ} → Building form ws x notes out → get_or notes x 0 ≡ 0 → NotesForm form ws x notes out out 0
notes_pass g e = record { done = λ few. build-pass g e; refused = λ many. absurd (omega arith) }

pub notes_refused : {form x r : ℕ} {ws notes notes' out out' : List ℕ} → max_nodes < r → Composes form ws x notes out out' r → NotesForm form ws x notes' out out' r
notes_refused many c = record { done = λ few. absurd (omega arith); refused = c.refused }

pub notes_done : {form x r : ℕ} {ws notes out out' : List ℕ} → x < 2 * length ws → get_or notes x 0 ≢ 0 → Composes form ws x notes out out' r → NotesForm form ws x (set notes x r) out out' r
notes_done i d c = record { done = λ few. build_note i d (c.done few); refused = c.refused }

pub fill_refused : {form x r : ℕ} {ws notes entry out' : List ℕ} (out : List ℕ) → length out ≡ length entry → max_nodes < r → NotesForm form ws x notes out out' r
    → Builds (form_of form (root ws)) entry out' r
fill_refused {form} {ws = ws} out e many n =
    record { done = λ few. absurd (omega arith); refused = λ m. subst (λ (k : ℕ). capacity k < distinct_count (form_of form (root ws))) e (n.refused many) }

pub fill_end : {form k r : ℕ} {ws notes entry out : List ℕ} → 2 * length ws ≤ k → Building form ws k notes out → r ≡ get_or notes (2 * (length ws - 1)) 0
    → Builds (form_of form (root ws)) entry out r
fill_end {form} {ws = ws} {out = out} h g e =
    let b = build-end h g in
    record {
      done = λ few. subst (Built (form_of form (root ws)) out) (sym e) b;
      refused = λ many. absurd (let f = built_few b in omega arith);
    }

-- no note before the first
pub blank : (n : ℕ) → Blank n (replicate n 0)
blank n = record { long = length-replicate {A = ℕ} n 0; zeros = get_or_zeros n }

pub begun-marking : {form : ℕ} {ws notes out : List ℕ} → Begun ws notes out → Marking form ws (2 * length ws) (set notes (2 * (length ws - 1)) 1)
begun-marking {notes = notes} b = marking-start notes b.formed b.long b.zeros
