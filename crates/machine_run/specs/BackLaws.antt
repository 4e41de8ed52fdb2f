-- An entry worked out in a memory of its own: what is brought back makes a step of it.
use Rattle.std.specs.Prelude.{ℕ, suc, ◌+◌, ◌≤◌, ◌<◌, List, [], ◌∷◌, ◌≡◌, length, get_or}
use Rattle.std.proofs.Common.{sym, ap, ◌∙◌, subst, arith, add-zero}
use Rattle.std.proofs.Math.Decide.{ℕ_discrete}
use Rattle.node.specs.Limits.{max_nodes}
use Rattle.node.specs.Result.{Result}
use Rattle.language.specs.Limits.{max_names}
use Rattle.language.specs.Values.{Value, Number, Set, Logic, Bus, Unsized, Choice}
use Rattle.name_values.specs.World.{Meaning, Stands, meaning_at}
use Rattle.name_values.specs.Facts.{IsBody}
use Rattle.name_values.specs.Sorts as Sort
use Rattle.operands.specs.Working.{Source}
use Rattle.machine.specs.Fields.{note_number, note_address, note_mark}
use Rattle.machine.specs.Came.{Came, Worth, Nodes, works}
use Rattle.machine.specs.MeansLaws.{means_as}
use Rattle.machine.specs.Realm.{Realm}
use Rattle.machine.specs.Memory.{free_word, slots_word, note_at, free_of, Held, Keeps, Agree, on_top}
use Rattle.machine.specs.Telling.{Tells}
use Rattle.machine.specs.Notes.{Fact, Noted, Lasts, Lasting}
use Rattle.machine.specs.Table.{Began}
use Rattle.machine.specs.TableLaws.{lasting_stays}
use Rattle.machine.specs.Cost.{price_some, effort_none, costs}
use Rattle.machine.specs.StackLaws.{Room, stack_kept, stack_room}
use Rattle.machine.specs.States.{Has, Arrived, Come, Went}
use Rattle.machine.specs.StateLaws.{Entered, Final, come_mode}
use Rattle.machine.specs.EnterLaws.{cost-here}
use Rattle.machine.specs.declared.Machine.{Machine}
use Rattle.machine.specs.FactLaws.{fact_keeps}
use Rattle.machine_run.specs.Bringing.{returned, Brought}
use Rattle.machine_run.specs.StartLaws.{began_at, laid-onto, stays_onto}

-- the same note, where kept sets stay
fact_again : {s : Source} {mem mem' : List ℕ} {m : Meaning} {sort n a sort' n' a' : ℕ} → Keeps mem mem' → sort' ≡ sort → n' ≡ n → a' ≡ a → Fact s mem m sort n a → Fact s mem' m sort' n' a'
fact_again e p q r x = rw (p, q, r) (fact_keeps e x)

no_body : {m : Meaning} {n : ℕ} {d : _} → m ≡ Stands d → IsBody m n → ⊥
no_body e b = let z : ◌≡◌ {A = ℕ} 0 1 = (let y = b.defines in cc) in absurd (omega arith)

-- elements that were brought
held_moved : (source mem : List ℕ) (a b n : ℕ) → ((i : ℕ) → i < n → get_or mem (b + i) 0 ≡ get_or source (a + i) 0) → (l : List ℕ) (j : ℕ) → j + length l ≤ n → Held source (a + j) l → Held mem (b + j) l
unfolding Held
held_moved source mem a b n f [] j l h = tt
held_moved source mem a b n f (x ∷ xs) j l h = (
  f j (omega arith) ∙ h.0,
  subst (λ (i : ℕ). Held mem i xs) (omega arith) (held_moved source mem a b n f xs (suc j) (omega arith) (subst (λ (i : ℕ). Held source i xs) (omega arith) h.1)),
)

-- the entry of m is known in the memory `mem` and begins in `free`, where the words below the free slots are the same; it ends in `free'` with n, and mem' is what is brought back
module _ {s : Source} {R : Realm s} {mem out : List ℕ} {m : Machine} {x : Result Came} {o : Began} (y : Entered R mem out m x o) {free free' mem' out' : List ℕ} {n r : Machine} {floor : ℕ}
    {q : m.nodes ≤ max_nodes → length out ≡ max_nodes} (same : (i : ℕ) → i < m.depth → get_or free i 0 ≡ get_or mem i 0) (k : Keeps free free')
    (f : Final R free' out' n (works y.aim y.context y.tree) (began_at (record { slots = o.regions.slots; floor = floor }) out m.nodes q)) (few : n.nodes ≤ suc max_nodes)
    (b : Brought free' mem mem' m n r) where
  room : Room o mem m.depth m.top m.frames y.limit
  room = stack_room y.stack

  free_same : free_of free ≡ free_of mem
  free_same = let w = y.noted.first in let u = y.noted.within in let d = room.first in same free_word (omega arith)

  free_now : free_of mem' ≡ free_of free'
  free_now = let w = y.noted.first in let u = y.noted.within in let e = y.noted.slots_word_lem in b.kept free_word (omega arith) (omega arith)

  -- the kept sets of both memories are there
  keeps : Keeps mem mem'
  keeps =
      let u = y.noted.within in
      let e = y.noted.slots_word_lem in
      let d = room.first in
      let a = free_same in
      let c = free_now in
      let g = k.more in
      record { more = omega arith; kept = λ i l t. b.kept i (omega arith) (omega arith) ∙ k.kept i l (omega arith) ∙ same i (omega arith) }

  keeps-inner : Keeps free' mem'
  keeps-inner =
      let u = f.noted.within in
      let e = y.noted.slots_word_lem in
      let c = free_now in
      record { more = omega arith; kept = λ i l t. b.kept i (omega arith) (omega arith) }

  agree : Agree o.regions mem mem' m.depth m.top m.frames
  agree =
      let e = y.noted.slots_word_lem in
      let a = y.noted.ascending in
      let w = room.words in
      let v = room.values in
      let t = room.slots in
      record {
        len = b.len;
        more = keeps.more;
        kept = keeps.kept;
        slots = λ i l u. b.between i (omega arith) (omega arith);
        values = λ i l u. b.between i (omega arith) u;
        frames = b.above m.frames (omega arith);
      }

  facts : (r : ℕ) → r < max_names → Fact s mem' (meaning_at R.W r) (note_at mem' r 0) (note_at mem' r note_number) (note_at mem' r note_address)
  facts r l = go (ℕ_discrete (note_at mem r 0) Sort.body)
    where
      go : Dec (note_at mem r 0 ≡ Sort.body) → Fact s mem' (meaning_at R.W r) (note_at mem' r 0) (note_at mem' r note_number) (note_at mem' r note_address)
      go (yes z) = let c = b.body r l z in fact_again keeps-inner (c 0 (omega arith)) (c 1 (omega arith)) (c 2 (omega arith)) (f.noted.facts r l)
      go (no z) = let c = b.other r l z in fact_again keeps (c 0 (omega arith)) (c 1 (omega arith)) (c 2 (omega arith)) (y.noted.facts r l)

  -- of names that are no definitions
  other_note : {d : _} (r : ℕ) → r < max_names → meaning_at R.W r ≡ Stands d → note_at mem' r note_address ≡ note_at mem r note_address
  other_note r l e = b.other r l (λ z. no_body e ((y.noted.facts r l).body z)) 2 (omega arith)

  noted : Noted R o.regions o.index mem'
  noted =
      let n1 = f.noted.first in
      let n2 = f.noted.within in
      let n3 = y.noted.first in
      let n4 = y.noted.within in
      let e = y.noted.slots_word_lem in
      let c = free_now in
      record {
        facts = facts;
        signals = λ i.
            let g = y.noted.signals i in
            record {
              single = λ r l e. let c = g.single r l e in let w = other_note r l e in (w ∙ c.0, (let u = c.1 in omega arith));
              bus = λ r j l e. let c = g.bus r j l e in let w = other_note r l e in (w ∙ c.0, (let u = c.1 in omega arith));
            };
        first = omega arith;
        within = omega arith;
        slots_word_lem = b.kept slots_word (omega arith) (omega arith) ∙ f.noted.slots_word_lem;
        ascending = y.noted.ascending;
      }

  lasting : Lasting R.W mem' out' n.nodes
  lasting = record { lasts = λ r l d. go r l d (ℕ_discrete (note_at mem r 0) Sort.body) }
    where
      stayed : Lasting R.W mem out' n.nodes
      stayed = lasting_stays (stays_onto f.came f.laid) y.lasting

      go : (r : ℕ) → r < max_names → (note_at mem' r note_mark ≡ 0 → ⊥) → Dec (note_at mem r 0 ≡ Sort.body) → Lasts R.W out' n.nodes r (note_at mem' r note_mark)
      go r l d (yes z) =
          let e = b.body r l z 3 (omega arith) in
          subst (Lasts R.W out' n.nodes r) (sym e) (f.lasting.lasts r l (λ t. d (e ∙ t)))
      go r l d (no z) =
          let e = b.other r l z 3 (omega arith) in
          subst (Lasts R.W out' n.nodes r) (sym e) (stayed.lasts r l (λ t. d (e ∙ t)))

  -- what has come
  abbrev inner : Began
  inner = began_at (record { slots = o.regions.slots; floor = floor }) out m.nodes q

  value-back : (v : Value) → Arrived R inner free' n v → Arrived R o mem' (returned m n b.from) v
  value-back (Number i) a = record { tells = a.tells; stands = tt }
  value-back (Set l) a =
      let g = a.tells.mode_is in
      let t = b.set-from g in
      let c = a.tells.count in
      let h = held_moved free' mem' n.from m.top n.value (b.set g) l 0 (omega arith) (subst (λ (i : ℕ). Held free' i l) (sym (add-zero n.from)) a.stands.0) in
      record { tells = a.tells; stands = (subst (λ (i : ℕ). Held mem' i l) (add-zero m.top ∙ sym t) h, on_top t) }
  value-back Logic a = record { tells = a.tells; stands = tt }
  value-back (Bus i j w) a =
      let g = a.tells.mode_is in
      let t = b.same_from (λ z. omega arith) in
      record { tells = subst (λ (u : ℕ). Tells R.W n.mode n.value u (Bus i j w)) (sym t) a.tells; stands = tt }
  value-back (Unsized i) a = record { tells = a.tells; stands = tt }
  value-back (Choice ws) a =
      let g = a.tells.mode_is in
      let t = b.same_from (λ z. omega arith) in
      record { tells = subst (λ (u : ℕ). Tells R.W n.mode n.value u (Choice ws)) (sym t) a.tells; stands = tt }

  come_back : (v : Came) → Come R inner free' n v → Come R o mem' (returned m n b.from) v
  come_back (Worth v) a = value-back v a
  come_back (Nodes g) a = a

  back : Went R mem mem' out' m (returned m n b.from) x o
  back =
      let c = come_back f.came f.come in
      let i = come_mode R o mem' (returned m n b.from) f.came c in
      let e = effort_none n.mode n.value i in
      let z = ap costs agree.frames in
      let h = cost-here y in
      let p = price_some (suc m.value) in
      record {
        state = record {
          frames = y.frames;
          now = Has f.came;
          limit = y.limit;
          stack = stack_kept y.stack agree;
          here = c;
          laid = laid-onto f.came y.laid f.laid;
          few = few;
          noted = noted;
          lasting = lasting;
          same = means_as x y.frames f.same y.same;
        };
        less = omega arith;
        keeps = keeps;
      }

  pub comes_back : Went R mem mem' out' m r x o
  comes_back = subst (λ (i : Machine). Went R mem mem' out' m i x o) (sym b.next) back
