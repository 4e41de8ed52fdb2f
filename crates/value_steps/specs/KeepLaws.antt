-- What a definition's body has come to is noted in place of the body: a number; or a set, which is copied behind the kept ones if there is room for it.
use Rattle.std.specs.Prelude.{ℕ, ◌+◌, ◌≤◌, ◌<◌, List, ◌≡◌, refl, length, get_or, set, Ok}
use Rattle.std.proofs.Common.{sym, ap, ◌∙◌, subst, arith}
use Rattle.node.specs.Result.{Result, Done, Refused, ◌>>=◌}
use Rattle.node.proofs.ResultLaws.{not_done}
use Rattle.machine.specs.declared.Move.TheVariants.{Next}
use Rattle.language.specs.Limits.{max_names}
use Rattle.language.specs.Tokens.{Token}
use Rattle.language.specs.Tree.{Expr}
use Rattle.language.specs.Values.{Value, Number, Set, value}
use Rattle.language.specs.Expansion.{Context}
use Rattle.memory_sets.specs.Places.{Copied}
use Rattle.name_values.specs.World.{Meaning, name_value, meaning_at}
use Rattle.name_values.specs.Sorts as Sort
use Rattle.operands.specs.Working.{Source}
use Rattle.machine.specs.Fields.{value_field, other_field, note_mark}
use Rattle.machine.specs.Phases as Phase
use Rattle.machine.specs.Came.{Came, Worth, worth}
use Rattle.machine.specs.Frames.{KeepValue}
use Rattle.machine.specs.Realm.{Realm}
use Rattle.machine.specs.Memory.{first_kept, free_word, slots_word, frame_words, note_at, free_of, Sits, in_kept, on_top}
use Rattle.machine.specs.MemoryLaws.{held_kept}
use Rattle.machine.specs.MeansLaws.{means_kept}
use Rattle.machine.specs.Notes.{Fact}
use Rattle.machine.specs.SetLaws.{held_word, held_words}
use Rattle.machine.specs.Telling.{is_number, is_set}
use Rattle.machine.specs.Table.{Began}
use Rattle.machine.specs.States.{Arrived, Come, Turned, TopOf, Topped, Takes}
use Rattle.machine.specs.ComeLaws.{came-number, came-set}
use Rattle.machine.specs.FrameViews.{by_phase}
use Rattle.machine.specs.Moves.{came}
use Rattle.machine.specs.TakeLaws.{top-phase, top_as}
use Rattle.machine.specs.declared.Machine.{Machine}
use Rattle.machine.specs.Entering.{Waiting}
use Rattle.machine.specs.FactLaws.{fact_of}
use Rattle.value_steps.specs.ReleaseLaws.{below, Releasing, declared, defined, releases, lets_go}
use Rattle.value_steps.specs.Moves.{released}
use Rattle.value_steps.specs.NotingLaws.{Renoted, renoted_noted, renoted_lasting, noting_renoted, past_notes, grown-fits, grown_free, grown-word, grown_renoted}
use Rattle.value_steps.specs.Named.{noting}

-- the value that has come of an expression
worth-done : (r : Result Value) {v : Value} → (r >>= worth) ≡ Done (Worth v) → r ≡ Done v
unfolding ◌>>=◌
worth-done (Done u) e = cc
worth-done (Refused n p) e = absurd (not_done e)

module _ {s : Source} {R : Realm s} {mem out : List ℕ} {m : Machine} {x : Result Came} {o : Began} {q : ℕ} {c : Context} {d : Expr} (h : TopOf R mem out m x o (KeepValue q c d)) where
  waiting : Releasing h q c d
  waiting = record { holds_nothing = refl; same = refl; returns = h.at.holds; defining = h.at.waits }

  module _ {r : ℕ} (er : r ≡ get_or mem (m.frames + other_field) 0) where
    -- the body's value is the name's
    body-value : {v : Value} → h.came ≡ Worth v → (t : Token) → name_value (meaning_at R.W r) t ≡ Done v
    body-value e t =
        ap (λ (y : Meaning). name_value y t) (defined h waiting er) ∙ worth-done (value c.values d) (means_kept x _ h.rest (Done h.came) h.same ∙ ap Done e)

    -- it is noted, and goes on
    keeps : {v : Value} {mem' : List ℕ} {scope sort k a from : ℕ} → h.came ≡ Worth v → scope ≡ get_or mem (m.frames + value_field) 0 → Renoted o.regions mem mem' r sort k a (note_at mem r note_mark)
        → Fact s mem' (meaning_at R.W r) sort k a → Arrived R o mem' (released (came m m.mode m.value from) scope) v
        → Turned R mem mem' out out m x o (Ok (Next (released (came m m.mode m.value from) scope)))
    keeps {mem' = mem'} {scope} {from = from} e es w f ar =
        let b = below h in
        let b1 = b.ascending in
        let b2 = b.frames in
        releases h waiting es (w.agree _ _ _ (omega arith)) (renoted_noted w (defined h waiting er) f h.noted) (renoted_lasting w (h.lasting.lasts r (declared h waiting er)) h.lasting)
        (subst (Come R o mem' (released (came m m.mode m.value from) scope)) (sym e) ar)

-- a set that has come stands in the memory, and lies in the kept ones if it begins below their end
sits_inside : {free top at n length : ℕ} → free ≤ top → top + n ≤ length → Sits free top at n → at + n ≤ length
sits_inside f l (in_kept p q) = omega arith
sits_inside f l (on_top p) = omega arith

sits_kept : {free top at n : ℕ} → free ≤ top → at < free → Sits free top at n → (first_kept ≤ at) × (at + n ≤ free)
sits_kept f l (in_kept p q) = (p, q)
sits_kept f l (on_top p) = absurd (omega arith)

-- the notes and the two words behind them lie in the memory
pub record Keeping (mem : List ℕ) (m : Machine) (r : ℕ) : Type 0 where
  pub declared : r < max_names
  pub inside : first_kept ≤ length mem
  pub frames : m.frames + frame_words ≤ length mem

module _ {s : Source} {mem : List ℕ} {m : Machine} (w : Waiting mem m Phase.keep_value) where
  -- the name that is kept
  pub keep-name : Topped s mem m → {r : ℕ} → r ≡ get_or mem (m.frames + other_field) 0 → Keeping mem m r
  keep-name t er =
      let v = by_phase t.top.frame Phase.keep_value (top-phase t.top ∙ w.phase) in
      let h = top_as t.top v.3 in
      record { declared = declared h (waiting h) er; inside = (below h).inside; frames = h.at.inside }

  -- the set that has come can be copied
  pub keep-inside : Topped s mem m → m.mode ≡ is_set → m.from + m.value ≤ length mem
  keep-inside t e =
      let v = by_phase t.top.frame Phase.keep_value (top-phase t.top ∙ w.phase) in
      let h = top_as t.top v.3 in
      let g = came-set t.realm t.began mem m h.came h.come e in
      let b = below h in
      let b1 = b.within in
      let b2 = b.ascending in
      let fe = g.fine.few in
      let co = g.count in
      let le = h.at.level refl in
      let lo = h.at.low in
      let ro = h.at.room in
      let fr = h.at.inside in
      let i = sits_inside {length = length mem} (omega arith) (omega arith) g.sits in
      omega arith

  module _ {scope : ℕ} (es : scope ≡ get_or mem (m.frames + value_field) 0) where
    -- whatever else it is, it goes on
    pub keep-passes : Takes s mem mem m (Ok (Next (released m scope)))
    keep-passes = record { turns = λ R x o out t. let v = by_phase t.frame Phase.keep_value (top-phase t ∙ w.phase) in let h = top_as t v.3 in lets_go h (waiting h) es }

    module _ {r : ℕ} (er : r ≡ get_or mem (m.frames + other_field) 0) where
      pub keep-number : m.mode ≡ is_number → Takes s mem (noting mem r Sort.number m.value 0) m (Ok (Next (released m scope)))
      keep-number e = record {
        turns = λ R x o out t.
            let v = by_phase t.frame Phase.keep_value (top-phase t ∙ w.phase) in
            let h = top_as t v.3 in
            let g = came-number R o mem m h.came h.come e in
            let b = below h in
            let b1 = b.first in
            let b2 = b.within in
            keeps h er {v = Number m.value} g.same es (noting_renoted mem r Sort.number m.value 0 (declared h (waiting h) er) b.inside (omega arith) b.ascending b2)
            (fact_of Sort.number (omega arith) refl (record { stands = body-value h er g.same; small = g.small }))
            (record { tells = record { mode_is = e; value-is = refl; small = g.small }; stands = tt });
      }

      -- a set that is a kept one
      pub keep-kept : m.mode ≡ is_set → m.from < free_of mem → Takes s mem (noting mem r Sort.set m.value m.from) m (Ok (Next (released m scope)))
      keep-kept e lo = record {
        turns = λ R x o out t.
            let v = by_phase t.frame Phase.keep_value (top-phase t ∙ w.phase) in
            let h = top_as t v.3 in
            let g = came-set R o mem m h.came h.come e in
            let b = below h in
            let b1 = b.first in
            let b2 = b.within in
            let b3 = b.ascending in
            let le = h.at.level refl in
            let fl = h.at.low in
            let co = g.count in
            let u = noting_renoted mem r Sort.set m.value m.from (declared h (waiting h) er) b.inside {z = o.regions} (omega arith) b.ascending b2 in
            let ag = u.agree 0 0 o.regions.slots (omega arith) in
            let mo = ag.more in
            let p = sits_kept (omega arith) lo g.sits in
            let p1 = p.0 in
            let p2 = p.1 in
            let held = held_kept mem (noting mem r Sort.set m.value m.from) m.from g.set (λ i j k. ag.kept i (omega arith) (omega arith)) g.held in
            keeps h er {v = Set g.set} g.same es u
            (fact_of Sort.set (omega arith) refl (record { set = g.set; stands = body-value h er g.same; fine = g.fine; size = co; above = p1; below = omega arith; held = held }))
            (record { tells = record { mode_is = e; count = co; fine = g.fine }; stands = (held, in_kept p1 (omega arith)) });
      }

      -- one for which there is room behind the kept ones
      pub keep-copied : {mem₁ : List ℕ} → m.mode ≡ is_set → free_of mem + m.value ≤ get_or mem slots_word 0 → Copied mem m.from mem mem₁ (free_of mem) m.value
          → Takes s mem (noting (set mem₁ free_word (free_of mem + m.value)) r Sort.set m.value (free_of mem)) m (Ok (Next (released (came m m.mode m.value (free_of mem)) scope)))
      keep-copied {mem₁} e room cp = record {
        turns = λ R x o out t.
            let v = by_phase t.frame Phase.keep_value (top-phase t ∙ w.phase) in
            let h = top_as t v.3 in
            let g = came-set R o mem m h.came h.come e in
            let b = below h in
            let b1 = b.first in
            let b2 = b.ascending in
            let sl = h.noted.slots_word_lem in
            let co = g.count in
            let fits : free_of mem + m.value ≤ o.regions.slots = omega arith in
            let l = declared h (waiting h) er in
            let mem₂ : List ℕ = set mem₁ free_word (free_of mem + m.value) in
            let mem₃ : List ℕ = noting mem₂ r Sort.set m.value (free_of mem) in
            let f = grown_free cp {z = o.regions} b1 fits b2 b.inside in
            let n = past_notes mem₂ r Sort.set m.value (free_of mem) l (grown-fits cp {z = o.regions} b1 fits b2 b.inside) in
            let u = grown_renoted cp {z = o.regions} b1 fits b2 b.inside r Sort.set m.value (free_of mem) l in
            let held = held_words mem₃ (free_of mem) g.set (λ i j. n (free_of mem + i) (omega arith) ∙ grown-word cp {z = o.regions} b1 fits b2 b.inside i (omega arith) ∙ held_word mem m.from g.set g.held i j) in
            keeps h er {v = Set g.set} g.same es u
            (fact_of Sort.set (omega arith) refl (record { set = g.set; stands = body-value h er g.same; fine = g.fine; size = co; above = b1; below = (let y = n free_word (omega arith) in omega arith); held = held }))
            (record { tells = record { mode_is = e; count = co; fine = g.fine }; stands = (held, in_kept b1 (let y = n free_word (omega arith) in omega arith)) });
      }
