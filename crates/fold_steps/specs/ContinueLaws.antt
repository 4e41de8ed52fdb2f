-- A further element of a big operator's set, and the end, where none is left. For numbers, sets and formulas.
use Rattle.std.specs.Prelude.{ℕ, suc, ◌+◌, ◌-◌, ◌≤◌, ◌<◌, ◌^◌, List, [], ◌++◌, ◌≡◌, refl, length, get_or, set, drop, Ok}
use Rattle.std.proofs.Common.{sym, ap, ◌∙◌, subst, arith}
use Rattle.node.specs.Limits.{max_nodes}
use Rattle.node.specs.Result.{Result, Done, ◌>>=◌}
use Rattle.machine.specs.declared.Move.TheVariants.{Next}
use Rattle.language.specs.Tokens.{Token}
use Rattle.language.specs.Tree.{Expr}
use Rattle.language.specs.Values.{Value}
use Rattle.language.specs.Expansion.{Context, at}
use Rattle.operands.specs.Working.{Source}
use Rattle.machine.specs.Fields.{entry_field, base_field, at_field, count_field}
use Rattle.machine.specs.Came.{Aim, Came, Worth, works}
use Rattle.machine.specs.Frames.{Frame, apply, Kept}
use Rattle.machine.specs.Realm.{Realm}
use Rattle.machine.specs.Memory.{frame_words, free_of, Held, Lies, nowhere, kept_set, value as placed, Agree, Framed}
use Rattle.machine.specs.MemoryLaws.{lies_tail, word_of}
use Rattle.machine.specs.Holding.{Holding, Laying, holding, slots_of, forms_of, turning}
use Rattle.machine.specs.Notes.{Noted, Lasting}
use Rattle.machine.specs.Telling.{Tells}
use Rattle.machine.specs.Table.{Began, Laid, end_of}
use Rattle.machine.specs.TableLaws.{laid_as}
use Rattle.machine.specs.Cost.{turns as turns'}
use Rattle.machine.specs.Stack.{scope_above, EachOf, Holds, Waits}
use Rattle.machine.specs.States.{mode_of, Standing, written, Turned, TopOf}
use Rattle.machine.specs.TakeLaws.{words, entry_word_lem, at-word, count_word, room-under, renewed, pops}
use Rattle.machine.specs.declared.Words.{Words}
use Rattle.machine.specs.declared.Machine.{Machine}
use Rattle.fold_steps.specs.TurningLaws.{turns_to}
use Rattle.fold_steps.specs.ElementLaws.{Split}
use Rattle.fold_steps.specs.Turning.{words_at, next_at, Continuing, unbound, turned}

-- an element that lies somewhere
lies_inside : {free base top at n : ℕ} → 0 < n → free ≤ base → Lies free base top at n → base ≤ top → at < top + 1
lies_inside p q (nowhere e) r = absurd (omega arith)
lies_inside p q (kept_set a b) r = omega arith
lies_inside p q (placed a b) r = omega arith

-- one operand fewer is left, over words
one_fewer : (new old n : ℕ) {p c : ℕ} → p ≡ old → c ≡ suc n → turns' new n < turns' old (suc n) → turns' new (c - 1) < turns' p c
one_fewer new old n {p} {c} e d h = let q : c - 1 ≡ n = omega arith in rw (q, d, e) h

-- a frame that binds a name
module _ {s : Source} {R : Realm s} {mem out : List ℕ} {m : Machine} {x : Result Came} {o : Began} {F : Frame} (h : TopOf R mem out m x o F) {phase : ℕ} {l fold : List ℕ} {forms : List Laying}
    (f : holding F ≡ turning phase l fold forms) where
  pub turning_scope : m.scope ≡ h.footing.scope
  turning_scope = h.at.scoped ∙ ap (λ (y : Holding). scope_above y.inside h.footing) f

  pub turning-depth : m.depth ≡ h.footing.depth + 1
  turning-depth = h.at.deep ∙ ap (λ (y : Holding). h.footing.depth + slots_of y.binds) f

  pub turning_held : Held mem (words h).at l
  turning_held = subst (Held mem (words h).at) (ap (λ (y : Holding). y.elements) f) h.at.held

  pub turning_lies : Lies (free_of mem) (words h).base m.top (words h).at (length l)
  turning_lies = subst (λ (y : List ℕ). Lies (free_of mem) (words h).base m.top (words h).at (length y)) (ap (λ (y : Holding). y.elements) f) h.at.lies

  pub turning-count : (words h).count ≡ length l
  turning-count = h.at.counted ∙ ap (λ (y : Holding). length y.elements) f

  pub turning-phase : (words h).phase ≡ phase
  turning-phase = h.at.phased ∙ ap (λ (y : Holding). y.phase) f

  -- the table under it and under the value that has come
  pub turning-laid : {v : Value} → h.came ≡ Worth v → Laid o (forms ++ forms_of h.rest) out m.nodes
  turning-laid e = laid_as (ap (λ (y : Came). written m.nodes y ++ ((holding F).forms ++ forms_of h.rest)) e ∙ ap (λ (y : Holding). y.forms ++ forms_of h.rest) f) h.laid

  pub continuing : length mem < 2 ^ 32 → 0 < length l → {other : ℕ} → other < 2 ^ 32 → Continuing mem m other
  continuing sm n ot =
      let u = room-under h in
      let u1 = u.values in
      let u2 = u.words in
      let u3 = u.inside in
      let n1 = h.noted.within in
      let n2 = h.noted.ascending in
      let td = turning-depth in
      let tc = turning-count in
      let sl = h.at.slots in
      let cw = count_word h in
      let aw = at-word h in
      let en = entry_word_lem h in
      let e1 = h.at.entry in
      let e2 = h.at.some in
      let lo = h.at.lower in
      let hi = h.at.high in
      let ro = h.at.room in
      let ins = h.at.inside in
      let li = lies_inside n (omega arith) turning_lies lo in
      record { inside = ins; small = sm; some = omega arith; from = omega arith; bound = omega arith; slot = omega arith; entry = omega arith; numbered = ot }

  -- G waits for the operand at the next element; before, other words may have been written (mem₀), formulas too (out')
  pub record Continues (G : Frame) (new value other : ℕ) (fold' : List ℕ) (forms' : List Laying) (a : Aim) (c : Context) (i : Token) (e : Expr) (mem₀ mem' out' : List ℕ) (top nodes : ℕ) (n : Machine)
      : Type 0 where
    pub words-kept : drop m.frames mem₀ ≡ drop m.frames mem
    pub agree : Agree o.regions mem mem₀ h.footing.depth (words h).base (m.frames + frame_words)
    pub some : Split mem₀ (words h).at l
    pub framed : Framed (set mem₀ (m.depth - 1) (get_or mem₀ (get_or mem₀ (m.frames + at_field) 0) 0)) mem' m.frames (next_at (words_at mem₀ m.frames) new value other)
    pub next : n ≡ turned m (mode_of a) (get_or mem₀ (m.frames + entry_field) 0 - 1) (m.depth - 1) top nodes
    pub is-turning : holding G ≡ turning new some.rest fold' forms'
    pub lower : (words h).base ≤ top
    pub high : top ≤ (words h).base + h.footing.reserved
    pub lies : Lies (free_of mem₀) (words h).base top (words h).at (length l)
    pub held_fold : Held mem₀ other fold'
    pub lies_fold : Lies (free_of mem₀) (words h).base top other (length fold')
    pub holds : Holds R.W (end_of o (forms_of h.rest)) (renewed h (next_at (words h) new value other)) G
    pub waits : Waits R (renewed h (next_at (words h) new value other)) G
    pub each : EachOf R h.footing c i e
    pub laid : Laid o (forms' ++ forms_of h.rest) out' nodes
    pub few : nodes ≤ suc max_nodes
    pub noted : Noted R o.regions o.index mem₀
    pub lasting : Lasting R.W mem₀ out' nodes
    pub fewer : (count : ℕ) → turns' new count < turns' phase (suc count)
    pub kept : Kept G (works a (at c i (get_or mem₀ (words h).at 0)) e)
    pub same : apply F h.came ≡ (works a (at c i (get_or mem₀ (words h).at 0)) e >>= apply G)

  pub continues : {G : Frame} {new value other : ℕ} {fold' : List ℕ} {forms' : List Laying} {a : Aim} {c : Context} {i : Token} {e : Expr} {mem₀ mem' out' : List ℕ} {top nodes : ℕ} {n : Machine}
      → Continues G new value other fold' forms' a c i e mem₀ mem' out' top nodes n → Turned R mem mem' out out' m x o (Ok (Next n))
  continues {G} {new} {value} {other} {fold'} {forms'} {a} {c} {i} {e} {mem₀} {mem'} {out'} {top} {nodes} {n} b =
      let p = b.some in
      let kept = b.words-kept ∙ h.at.words in
      let e1 : get_or mem₀ (m.frames + entry_field) 0 ≡ (words h).entry = word_of mem₀ m.frames 1 kept in
      let e2 : get_or mem₀ (m.frames + base_field) 0 ≡ (words h).base = word_of mem₀ m.frames 2 kept in
      let e3 : get_or mem₀ (m.frames + at_field) 0 ≡ (words h).at = word_of mem₀ m.frames 3 kept in
      let e4 : get_or mem₀ (m.frames + count_field) 0 ≡ (words h).count = word_of mem₀ m.frames 4 kept in
      let same-words : next_at (words_at mem₀ m.frames) new value other ≡ next_at (words h) new value other = rw (e1, e2, e3, e4) in
      let same-element : get_or mem₀ (get_or mem₀ (m.frames + at_field) 0) 0 ≡ get_or mem₀ (words h).at 0 = ap (λ (j : ℕ). get_or mem₀ j 0) e3 in
      let v = get_or mem₀ (words h).at 0 in
      let td = turning-depth in
      let sz : (words h).count ≡ suc (length p.rest) = turning-count ∙ ap length p.same in
      subst (λ (y : Machine). Turned R mem mem' out out' m x o (Ok (Next y))) (sym (b.next ∙ ap (λ (j : ℕ). turned m (mode_of a) (j - 1) (m.depth - 1) top nodes) e1))
      (turns_to h {G = G} {rest = p.rest} {fold = fold'} {forms = forms'} {new = next_at (words h) new value other} {a = a} {c = c} {i = i} {e = e} {v = v} {mem₀ = mem₀} {out' = out'} (record {
        outside = ap (λ (y : Holding). y.inside) f;
        is-turning = b.is-turning;
        agree = b.agree;
        slot_is = omega arith;
        framed = subst (λ (w : Words). Framed (set mem₀ (m.depth - 1) v) mem' m.frames w) same-words
            (subst (λ (j : ℕ). Framed (set mem₀ (m.depth - 1) j) mem' m.frames (next_at (words_at mem₀ m.frames) new value other)) same-element b.framed);
        entry-is = refl;
        base-is = refl;
        lower = b.lower;
        high = b.high;
        counted = omega arith;
        held = p.held;
        lies = subst (λ (j : ℕ). Lies (free_of mem₀) (words h).base top j (length p.rest)) (omega arith)
            (lies_tail (subst (λ (y : List ℕ). Lies (free_of mem₀) (words h).base top (words h).at (length y)) p.same b.lies));
        held_fold = b.held_fold;
        lies_fold = b.lies_fold;
        holds = b.holds;
        waits = b.waits;
        each = b.each;
        small = p.small;
        laid = b.laid;
        few = b.few;
        noted = b.noted;
        lasting = b.lasting;
        fewer = one_fewer new phase (length p.rest) turning-phase sz (b.fewer (length p.rest));
        kept = b.kept;
        same = b.same;
      }))

module _ {s : Source} {R : Realm s} {mem out : List ℕ} {m : Machine} {x : Result Came} {o : Began} {F : Frame} (h : TopOf R mem out m x o F) {phase : ℕ} {l fold : List ℕ}
    (f : holding F ≡ turning phase l fold []) where
  pub record Ends (v : Value) (mode value from base : ℕ) (mem' : List ℕ) : Type 0 where
    pub value-came : Value
    pub came-is : h.came ≡ Worth value-came
    pub same : apply F h.came ≡ Done (Worth v)
    pub base-is : base ≡ (words h).base
    pub tells : Tells R.W mode value from v
    pub stands : Standing R o mem' (unbound m mode value from base) v
    pub agree : Agree o.regions mem mem' h.footing.depth (words h).base (m.frames + frame_words)
    pub noted : Noted R o.regions o.index mem'
    pub lasting : Lasting R.W mem' out m.nodes

  pub ends : {v : Value} {mode value from base : ℕ} {mem' : List ℕ} → Ends v mode value from base mem' → Turned R mem mem' out out m x o (Ok (Next (unbound m mode value from base)))
  ends {v} b =
      let td = turning-depth h f in
      pops h {v = Worth v} (record {
        same = b.same;
        come = record { tells = b.tells; stands = b.stands };
        scope_is = turning_scope h f;
        depth_is = omega arith;
        top-is = b.base-is;
        frames-is = refl;
        agree = b.agree;
        laid = turning-laid h f b.came-is;
        few = h.few;
        noted = b.noted;
        lasting = b.lasting;
      })
