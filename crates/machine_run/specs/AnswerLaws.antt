-- The runs of `number_of` and `formula_of`: how they begin, and what their answers say.
use Rattle.std.specs.Prelude.{ℕ, suc, ◌≤◌, ◌<◌, List, [], ◌≡◌, length, get_or, set, Err, Ok}
use Rattle.std.proofs.Math.Path.{refl, sym, ap}
use Rattle.std.proofs.Common.{◌∙◌, subst, length-set, get_or-set_same}
use native.Mathlib.Omega.{arith}
use Rattle.node.specs.Limits.{max_nodes}
use Rattle.node.specs.Ltl.{Formula}
use Rattle.node.specs.Result.{Result, Done, Refused, ◌>>=◌}
use Rattle.node.specs.Returned.{Returned, refusal}
use Rattle.language.specs.Tree.{Expr}
use Rattle.language.specs.Values.{Value, Number, Set, Logic, Bus, Unsized, Choice, number, value}
use Rattle.language.specs.Expansion.{Context, expansion}
use Rattle.operands.specs.Working.{Source, TellsNumber}
use Rattle.machine.specs.Came.{Aim, Evaluate, Expand, Came, Worth, Nodes, worth, nodes, works}
use Rattle.machine.specs.Memory.{slots_word}
use Rattle.machine.specs.MemoryLaws.{slotted_none}
use Rattle.machine.specs.Realm.{Realm}
use Rattle.machine.specs.Telling.{is_number}
use Rattle.machine.specs.Table.{Began, Laid}
use Rattle.machine.specs.States.{mode_of, Come, written, State}
use Rattle.machine.specs.StateLaws.{Final, ended, mode_few}
use Rattle.machine.specs.declared.Machine.{Machine}
use Rattle.machine_run.specs.Running.{regions_of, Room, Given, Runnable, NumberTold, FormulaTold, initial, NumberIs}
use Rattle.machine_run.specs.Evaluating.{Stands, Bare, Evaluated}
use Rattle.machine_run.specs.StartLaws.{began_at, Starting, starts, same-table, wrote-behind, noted_at}
use Rattle.writing.specs.StayLaws.{wrote_stays}

-- what has come of a value, of a formula
worth-done : (r : Result Value) (v : Came) → (r >>= worth) ≡ Done v → (u : Value) × ((r ≡ Done u) × (v ≡ Worth u))
unfolding ◌>>=◌
worth-done (Done u) v e = (u, (refl, cc))
worth-done (Refused n p) v e = absurd (let z : ◌≡◌ {A = ℕ} 0 1 = cc in omega arith)

worth-refused : (r : Result Value) {n p : ℕ} → (r >>= worth) ≡ Refused n p → (r >>= number) ≡ Refused n p
unfolding ◌>>=◌
worth-refused (Done u) e = absurd (let z : ◌≡◌ {A = ℕ} 0 1 = cc in omega arith)
worth-refused (Refused n p) e = cc

nodes-done : (r : Result Formula) (v : Came) → (r >>= nodes) ≡ Done v → (f : Formula) × ((r ≡ Done f) × (v ≡ Nodes f))
unfolding ◌>>=◌
nodes-done (Done f) v e = (f, (refl, cc))
nodes-done (Refused n p) v e = absurd (let z : ◌≡◌ {A = ℕ} 0 1 = cc in omega arith)

nodes-refused : (r : Result Formula) {n p : ℕ} → (r >>= nodes) ≡ Refused n p → r ≡ Refused n p
unfolding ◌>>=◌
nodes-refused (Done f) e = absurd (let z : ◌≡◌ {A = ℕ} 0 1 = cc in omega arith)
nodes-refused (Refused n p) e = cc

module _ {s : Source} {mem table : List ℕ} {entries k at : ℕ} (room : Room s mem table entries k at) (a : Aim) where
  starting : {R : Realm s} {c : Context} {e : Expr} → Given s R mem table entries k at c e → Starting R (regions_of mem entries) mem table (initial mem entries k at (mode_of a)) a c e
  starting g =
      let b = room.below in
      let f = room.few in
      let r = room.room in
      record {
        mode = refl;
        env = [];
        first = omega arith;
        deep = omega arith;
        slotted = slotted_none mem (get_or mem slots_word 0);
        operand = g.operand;
        top = refl;
        bare = refl;
        slots = omega arith;
        few = omega arith;
        room = omega arith;
        index = room.index;
        noted = g.noted;
        lasting = g.lasting;
      }

  begun : {R : Realm s} {c : Context} {e : Expr} → Given s R mem table entries k at c e
      → State R mem table (initial mem entries k at (mode_of a)) (works a c e) (began_at (regions_of mem entries) table at (λ l. room.sized))
  begun g = starts (λ l. room.sized) (starting g)

  -- what a run asks for
  pub run-stands : {R : Realm s} {c : Context} {e : Expr} → Given s R mem table entries k at c e → Stands s mem table (initial mem entries k at (mode_of a))
  run-stands {R} {c} {e} g = record {
    lent = room.lent;
    most = room.most;
    realm = R;
    answer = works a c e;
    began = began_at (regions_of mem entries) table at (λ l. room.sized);
    state = begun g;
    roomy = record { entries = entries; wide = refl; room = room.room };
  }

  -- what it tells
  module _ {mem' table' : List ℕ} {m : Machine} {r : Returned Machine} (em : m ≡ initial mem entries k at (mode_of a)) (v : Evaluated s mem mem' table table' m r) where
    final : {n : Machine} → r ≡ Ok n → {R : Realm s} {c : Context} {e : Expr} → Given s R mem table entries k at c e
        → Final R mem' table' n (works a c e) (began_at (regions_of mem entries) table at (λ l. room.sized))
    final q g = let t = (rw q at ((rw em at v).tells _ _ _ (begun g))).ends in ended t.state t.done.mode t.done.bare

    few_nodes_lem : {n : Machine} → r ≡ Ok n → {R : Realm s} {c : Context} {e : Expr} → Given s R mem table entries k at c e → n.nodes ≤ suc max_nodes
    few_nodes_lem q g = (rw q at ((rw em at v).tells _ _ _ (begun g))).ends.state.few

    refused : {number place : ℕ} → r ≡ Err (refusal number place) → {R : Realm s} {c : Context} {e : Expr} → Given s R mem table entries k at c e → works a c e ≡ Refused number place
    refused q g = (rw q at ((rw em at v).tells _ _ _ (begun g))).ends

module _ {s : Source} (R : Realm s) (o : Began) (mem : List ℕ) {n : Machine} {w : Returned ℕ} (h : NumberIs n w) where
  other_tells : (u : Value) → number u ≡ Refused 9 0 → (n.mode ≡ is_number → ⊥) → TellsNumber w (Done u)
  unfolding ◌>>=◌
  other_tells u e f = rw (h.other f) (record { says = sym e; small = tt })

  number-tells : (u : Value) → Come R o mem n (Worth u) → TellsNumber w (Done u)
  unfolding ◌>>=◌
  number-tells (Number i) c =
      let t = c.tells in
      let e = t.value-is in
      let l = t.small in
      rw (h.number t.mode_is) (record { says = ap Done e; small = omega arith })
  number-tells (Set l) c = let t = c.tells.mode_is in other_tells (Set l) refl (λ z. omega arith)
  number-tells Logic c = let t = c.tells in other_tells Logic refl (λ z. omega arith)
  number-tells (Bus i j k) c = let t = c.tells.mode_is in other_tells (Bus i j k) refl (λ z. omega arith)
  number-tells (Unsized i) c = let t = c.tells.mode_is in other_tells (Unsized i) refl (λ z. omega arith)
  number-tells (Choice ws) c = let t = c.tells.mode_is in other_tells (Choice ws) refl (λ z. omega arith)

-- the memory can be read where slots begin
module _ {s : Source} {mem table : List ℕ} {entries k at : ℕ} (h : Runnable s mem table entries k at) where
  pub slots_inside : slots_word < length mem
  slots_inside =
      let f = h.given.noted.first in
      let w = h.given.noted.within in
      let r = h.room.room in
      omega arith

  pub run-begins : (a : Aim) {m : Machine} → m ≡ initial mem entries k at (mode_of a) → Stands s mem table m × Bare m (length mem)
  run-begins a e = rw e (run-stands h.room a h.given, record { mode = mode_few a; bare = refl })

  -- the number of an expression
  module _ {mem' table' : List ℕ} {m : Machine} {r : Returned Machine} (em : m ≡ initial mem entries k at (mode_of Evaluate)) (v : Evaluated s mem mem' table table' m r) where
    pub number-comes : {n : Machine} {w : Returned ℕ} → r ≡ Ok n → NumberIs n w → NumberTold s mem mem' table table' entries k at w
    number-comes {n} {w} q i = record {
      len = v.len;
      same = λ j z.
          let f = final h.room Evaluate em v q h.given in
          let d = worth-done (value h.context.values h.expr) f.came f.same in
          same-table (subst (λ (x : Came). Laid (began_at (regions_of mem entries) table at (λ l. h.room.sized)) (written n.nodes x) table' n.nodes) d.1.1 f.laid);
      tells = λ R c e g.
          let o = began_at (regions_of mem entries) table at (λ l. h.room.sized) in
          let f = final h.room Evaluate em v q g in
          let d = worth-done (value c.values e) f.came f.same in
          subst (TellsNumber w) (sym d.1.0) (number-tells R o mem' i d.0 (subst (Come R o mem' n) d.1.1 f.come));
    }

    pub number-fails : {number place : ℕ} → r ≡ Err (refusal number place) → NumberTold s mem mem' table table' entries k at (Err (refusal number place))
    number-fails q = record {
      len = v.len;
      same = λ j z. absurd (let y : ◌≡◌ {A = ℕ} 0 1 = cc in omega arith);
      tells = λ R c e g. record { says = sym (worth-refused (value c.values e) (refused h.room Evaluate em v q g)); small = tt };
    }

  -- the formula
  module _ {mem' table' : List ℕ} {m : Machine} {r : Returned Machine} (em : m ≡ initial mem entries k at (mode_of Expand)) (v : Evaluated s mem mem' table table' m r) where
    pub formula-comes : {n : Machine} → r ≡ Ok n → FormulaTold s mem mem' table table' entries k at (Ok n.nodes)
    formula-comes {n} q = record {
      len = v.len;
      slots = (final h.room Expand em v q h.given).noted.slots_word_lem;
      tells = λ R c e g.
          let f = final h.room Expand em v q g in
          let d = nodes-done (expansion c e) f.came f.same in
          let w = wrote-behind (subst (λ (x : Came). Laid (began_at (regions_of mem entries) table at (λ l. h.room.sized)) (written n.nodes x) table' n.nodes) d.1.1 f.laid) in (
            d.0,
            (
              d.1.0,
              record {
                wrote = w;
                few = few_nodes_lem h.room Expand em v q g;
                noted = noted_at (regions_of mem' entries) n.nodes f.noted.slots_word_lem (omega arith) (λ l. let z = (wrote_stays w).further l in omega arith) f.noted;
                lasting = f.lasting;
              },
            ),
          );
    }

    -- where slots begin is written again, whatever became of the memory
    pub formula-fails : {number place i : ℕ} → r ≡ Err (refusal number place) → i ≡ get_or mem slots_word 0 → FormulaTold s mem (set mem' slots_word i) table table' entries k at (Err (refusal number place))
    formula-fails {i = i} q z = record {
      len = length-set mem' slots_word i ∙ v.len;
      slots = get_or-set_same mem' slots_word i 0 (let l = slots_inside in let e = v.len in omega arith) ∙ z;
      tells = λ R c e g. nodes-refused (expansion c e) (refused h.room Expand em v q g);
    }
