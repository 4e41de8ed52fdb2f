-- The frame of a definition takes what its body has come to: it is popped, the names of the definition's use are visible again, and what has come goes on.
use Rattle.std.specs.Prelude.{ℕ, ◌+◌, ◌≤◌, ◌<◌, true, List, ◌++◌, ◌≡◌, refl, length, get_or, Ok}
use Rattle.std.proofs.Common.{sym, ap, ◌∙◌, subst, arith, add-zero}
use Rattle.node.specs.Result.{Result, Done}
use Rattle.machine.specs.declared.Move.TheVariants.{Next}
use Rattle.machine.specs.Stepped.{Stepped}
use Rattle.language.specs.Limits.{max_names}
use Rattle.language.specs.Tree.{Expr}
use Rattle.language.specs.Values.{Value, Number, Set, Logic, Bus, Unsized, Choice}
use Rattle.language.specs.Expansion.{Context}
use Rattle.name_values.specs.World.{Defines, meaning_at}
use Rattle.operands.specs.Working.{Source}
use Rattle.machine.specs.Fields.{value_field, other_field}
use Rattle.machine.specs.Came.{Came, Worth, Nodes}
use Rattle.machine.specs.Frames.{Frame, apply}
use Rattle.machine.specs.Realm.{Realm}
use Rattle.machine.specs.Memory.{first_kept, frame_words, free_of, Agree}
use Rattle.machine.specs.MemoryLaws.{agree_same}
use Rattle.machine.specs.Holding.{Holding, Laying, holding, phase, empty, slots_of, forms_of}
use Rattle.machine.specs.Notes.{Noted, Lasting}
use Rattle.machine.specs.Table.{Began}
use Rattle.machine.specs.TableLaws.{laid_as}
use Rattle.machine.specs.Stack.{Returns, Defining}
use Rattle.machine.specs.States.{Standing, Come, written, Turned, TopOf, Takes}
use Rattle.machine.specs.Moves.{came}
use Rattle.machine.specs.TakeLaws.{words, value-word, other_word, room-under, pops}
use Rattle.machine.specs.declared.Machine.{Machine}
use Rattle.value_steps.specs.Moves.{released}

module _ {s : Source} (R : Realm s) (o : Began) (mem : List ℕ) (m : Machine) (scope : ℕ) where
  same_standing : (v : Value) → Standing R o mem m v → Standing R o mem (released m scope) v
  same_standing (Number n) h = tt
  same_standing (Set l) h = h
  same_standing Logic h = tt
  same_standing (Bus p x n) h = tt
  same_standing (Unsized p) h = tt
  same_standing (Choice ws) h = tt

  same_come : (v : Came) → Come R o mem m v → Come R o mem (released m scope) v
  same_come (Worth v) c = record { tells = c.tells; stands = same_standing v c.stands }
  same_come (Nodes f) c = c

module _ {s : Source} {R : Realm s} {mem out : List ℕ} {m : Machine} {x : Result Came} {o : Began} {F : Frame} (h : TopOf R mem out m x o F) where
  -- the notes and the kept sets lie below the frame
  pub record Below : Type 0 where
    pub first : first_kept ≤ free_of mem
    pub within : free_of mem ≤ o.regions.slots
    pub ascending : o.regions.slots ≤ o.regions.floor
    pub frames : o.regions.floor ≤ m.frames
    pub inside : first_kept ≤ length mem

  pub below : Below
  below =
      let u = room-under h in
      let u1 = u.values in
      let u2 = u.words in
      let u3 = u.inside in
      let ro = h.at.room in
      let n1 = h.noted.first in
      let n2 = h.noted.within in
      let n3 = h.noted.ascending in
      record { first = n1; within = n2; ascending = n3; frames = omega arith; inside = omega arith }

  -- it waits for the body d of the definition q
  pub record Releasing (q : ℕ) (c : Context) (d : Expr) : Type 0 where
    pub holds_nothing : holding F ≡ empty (phase F) true
    pub same : apply F h.came ≡ Done h.came
    pub returns : Returns (words h) h.footing.scope q
    pub defining : Defining R h.footing q c d

  module _ {q : ℕ} {c : Context} {d : Expr} (p : Releasing q c d) where
    -- the definition by its number
    module _ {r : ℕ} (er : r ≡ get_or mem (m.frames + other_field) 0) where
      named : r ≡ q
      named = er ∙ other_word h ∙ p.returns.name-is

      pub declared : r < max_names
      declared = let e = named in let l = p.defining.declared in omega arith

      pub defined : meaning_at R.W r ≡ Defines p.defining.entry c d
      defined = ap (meaning_at R.W) named ∙ p.defining.means

    -- what has come goes on, a set perhaps from another place; notes may have been written
    pub releases : {mem' : List ℕ} {scope from : ℕ} → scope ≡ get_or mem (m.frames + value_field) 0 → Agree o.regions mem mem' h.footing.depth (words h).base (m.frames + frame_words)
        → Noted R o.regions o.index mem' → Lasting R.W mem' out m.nodes → Come R o mem' (released (came m m.mode m.value from) scope) h.came
        → Turned R mem mem' out out m x o (Ok (Next (released (came m m.mode m.value from) scope)))
    releases es a n l c =
        let z = p.holds_nothing in
        pops h {v = h.came} (record {
          same = p.same;
          come = c;
          scope_is = es ∙ value-word h ∙ p.returns.scope_is;
          depth_is = h.at.deep ∙ ap (λ (y : Holding). h.footing.depth + slots_of y.binds) z ∙ add-zero h.footing.depth;
          top-is = h.at.level (ap (λ (y : Holding). y.flat) z);
          frames-is = refl;
          agree = a;
          laid = laid_as (ap (λ (y : List Laying). written m.nodes h.came ++ (y ++ forms_of h.rest)) (ap (λ (y : Holding). y.forms) z)) h.laid;
          few = h.few;
          noted = n;
          lasting = l;
        })

    -- nothing is noted
    pub lets_go : {scope : ℕ} → scope ≡ get_or mem (m.frames + value_field) 0 → Turned R mem mem out out m x o (Ok (Next (released m scope)))
    lets_go {scope} es = releases {from = m.from} es agree_same h.noted h.lasting (same_come R o mem m scope h.came h.come)

-- a memory that a function has written
pub takes_in : {s : Source} {mem mem' new : List ℕ} {m : Machine} {r : Stepped} → mem' ≡ new → Takes s mem new m r → Takes s mem mem' m r
takes_in {s} {mem} {m = m} {r} e h = subst (λ (l : List ℕ). Takes s mem l m r) (sym e) h
