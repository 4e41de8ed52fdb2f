-- The elements of a big operator's set: the first one and the others; the operand is worked out at the first. For numbers, sets and formulas.
use Rattle.std.specs.Prelude.{ℕ, suc, ◌+◌, ◌-◌, ◌≤◌, ◌<◌, ◌^◌, false, List, [], ◌∷◌, ◌≡◌, refl, length, get_or, Ok}
use Rattle.std.proofs.Common.{sym, ap, ◌∙◌, subst, arith}
use Rattle.node.specs.Result.{Result, ◌>>=◌}
use Rattle.machine.specs.declared.Move.TheVariants.{Next}
use Rattle.language.specs.Limits.{max_elements, max_number}
use Rattle.language.specs.Tokens.{Token}
use Rattle.language.specs.Tree.{Expr}
use Rattle.language.specs.Expansion.{Context, at}
use Rattle.language.proofs.Laws.Values.SetLaws.{ascending_lower}
use Rattle.operands.specs.Working.{Source}
use Rattle.machine.specs.Came.{Aim, Came, works}
use Rattle.machine.specs.Frames.{Frame, apply, Kept}
use Rattle.machine.specs.Realm.{Realm}
use Rattle.machine.specs.Memory.{free_of, Held, Lies, nowhere}
use Rattle.machine.specs.MemoryLaws.{held_head, held_tail, held_none, lies_tail, agree_same}
use Rattle.machine.specs.Holding.{Holding, holding, empty, forms_of, turning}
use Rattle.machine.specs.SetLaws.{above_from, above_most, sits_lies, sits_low}
use Rattle.machine.specs.Moves.{above}
use Rattle.machine.specs.Telling.{Fine}
use Rattle.machine.specs.Table.{Began, end_of}
use Rattle.machine.specs.Cost.{turns as turns'}
use Rattle.machine.specs.Stack.{EachOf, Holds, Waits}
use Rattle.machine.specs.States.{mode_of, Turned, TopOf}
use Rattle.machine.specs.ComeLaws.{IsSet}
use Rattle.machine.specs.TakeLaws.{words, entry_word_lem, room-under, renewed}
use Rattle.machine.specs.FlatLaws.{flat-top, flat-depth, flat-laid}
use Rattle.machine.specs.declared.Machine.{Machine}
use Rattle.fold_steps.specs.TurningLaws.{turns_to}
use Rattle.fold_steps.specs.Turning.{begun_at, begun, Beginning, Turns}

-- a set's first element and the others
pub record Split (mem : List ℕ) (at : ℕ) (l : List ℕ) : Type 0 where
  pub rest : List ℕ
  pub same : l ≡ get_or mem at 0 ∷ rest
  pub held : Held mem (at + 1) rest
  pub fine : Fine rest
  pub small : get_or mem at 0 ≤ max_number

pub split : (mem : List ℕ) (at : ℕ) (l : List ℕ) → Held mem at l → Fine l → 0 < length l → Split mem at l
split mem at [] h f n = absurd (omega arith)
split mem at (x ∷ l) h f n =
    let e = held_head mem at x l h in
    let fw = f.few in
    let sm = f.ordered.1 in
    record {
      rest = l;
      same = ap (λ (y : ℕ). y ∷ l) (sym e);
      held = subst (λ (j : ℕ). Held mem j l) (omega arith) (held_tail mem at x l h);
      fine = record { few = omega arith; ordered = ascending_lower max_number (omega arith) l f.ordered.2 };
      small = omega arith;
    }

pub no_element : (l : List ℕ) → length l ≡ 0 → l ≡ []
no_element [] e = refl
no_element (v ∷ l) e = absurd (omega arith)

module _ {s : Source} {R : Realm s} {mem out : List ℕ} {m : Machine} {x : Result Came} {o : Began} {F : Frame} (h : TopOf R mem out m x o F) {phase : ℕ} (f : holding F ≡ empty phase false)
    (g : IsSet mem m h.came) where
  pub beginning : length mem < 2 ^ 32 → 0 < m.value → Beginning mem m
  beginning sm n =
      let u = room-under h in
      let u1 = u.values in
      let u2 = u.words in
      let u3 = u.inside in
      let n1 = h.noted.within in
      let n2 = h.noted.ascending in
      let sz = g.count in
      let fw = g.fine.few in
      let ft = flat-top h f in
      let fd = flat-depth h f in
      let sl = h.at.slots in
      let en = entry_word_lem h in
      let e1 = h.at.entry in
      let e2 = h.at.some in
      let ro = h.at.room in
      let ins = h.at.inside in
      let lw = sits_low m (omega arith) g.sits in
      record { inside = ins; small = sm; some = n; few = omega arith; from = omega arith; slot = omega arith; top = omega arith; entry = omega arith }

  module _ (p : Split mem m.from g.set) where
    -- G waits for the operand at the first element
    pub record Begins (G : Frame) (new : ℕ) (a : Aim) (c : Context) (i : Token) (e : Expr) (mem' : List ℕ) (n : Machine) : Type 0 where
      pub turns : Turns mem mem' m (begun mem m new) m.depth (get_or mem m.from 0) (mode_of a) (above m) n
      pub is-turning : holding G ≡ turning new p.rest [] []
      pub fewer : (count : ℕ) → count < max_elements → turns' new count < turns' phase (words h).count
      pub holds : Holds R.W (end_of o (forms_of h.rest)) (renewed h (begun_at m (words h).entry new)) G
      pub waits : Waits R (renewed h (begun_at m (words h).entry new)) G
      pub each : EachOf R h.footing c i e
      pub kept : Kept G (works a (at c i (get_or mem m.from 0)) e)
      pub same : apply F h.came ≡ (works a (at c i (get_or mem m.from 0)) e >>= apply G)

    pub begins : {G : Frame} {new : ℕ} {a : Aim} {c : Context} {i : Token} {e : Expr} {mem' : List ℕ} {n : Machine} → Begins G new a c i e mem' n → Turned R mem mem' out out m x o (Ok (Next n))
    begins {G} {new} {a} {c} {i} {e} {mem'} {n} b =
        let t : Turns mem mem' m (begun_at m (words h).entry new) m.depth (get_or mem m.from 0) (mode_of a) (above m) n
        = subst (λ (j : ℕ). Turns mem mem' m (begun_at m j new) m.depth (get_or mem m.from 0) (mode_of a) (above m) n) (entry_word_lem h) b.turns in
        let ft = flat-top h f in
        let sz : m.value ≡ suc (length p.rest) = g.count ∙ ap length p.same in
        let fw = g.fine.few in
        let gc = g.count in
        let eg = h.at.enough in
        let af = above_from m in
        let am = above_most m in
        subst (λ (y : Machine). Turned R mem mem' out out m x o (Ok (Next y))) (sym t.next)
        (turns_to h {G = G} {rest = p.rest} {fold = []} {forms = []} {new = begun_at m (words h).entry new} {a = a} {c = c} {i = i} {e = e} {mem₀ = mem} {out' = out} (record {
          outside = ap (λ (y : Holding). y.inside) f;
          is-turning = b.is-turning;
          agree = agree_same;
          slot_is = flat-depth h f;
          framed = t.framed;
          entry-is = refl;
          base-is = ft;
          lower = omega arith;
          high = omega arith;
          counted = omega arith;
          held = p.held;
          lies = subst (λ (j : ℕ). Lies (free_of mem) (words h).base (above m) j (length p.rest)) (omega arith)
              (lies_tail (subst (λ (l : List ℕ). Lies (free_of mem) (words h).base (above m) m.from (length l)) p.same (sits_lies m g.count ft g.sits)));
          held_fold = held_none mem 0;
          lies_fold = nowhere refl;
          holds = b.holds;
          waits = b.waits;
          each = b.each;
          small = p.small;
          laid = flat-laid h f g.same;
          few = h.few;
          noted = h.noted;
          lasting = h.lasting;
          fewer = subst (λ (j : ℕ). turns' new (m.value - 1) < turns' j (words h).count) (sym (h.at.phased ∙ ap (λ (y : Holding). y.phase) f)) (b.fewer (m.value - 1) (omega arith));
          kept = b.kept;
          same = b.same;
        }))
