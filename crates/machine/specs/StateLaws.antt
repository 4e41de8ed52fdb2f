-- What a state tells by its mode: an entry is worked out; something has come and a frame takes it; or it is the answer.
use Rattle.std.specs.Prelude.{ℕ, suc, ◌≤◌, ◌<◌, ◌≡◌, refl, length}
use mathlib.Core.List.{List, ◌++◌, append-nil}
use Rattle.std.proofs.Common.{arith}
use Rattle.node.specs.Limits.{max_nodes}
use Rattle.node.specs.Result.{Result, Done}
use Rattle.language.specs.Tree.{Expr}
use Rattle.language.specs.Values.{Value, Number, Set, Logic, Bus, Unsized, Choice}
use Rattle.language.specs.Expansion.{Context}
use Rattle.operands.specs.Working.{Source}
use Rattle.machine.specs.Came.{Aim, Evaluate, Expand, Came, Worth, Nodes, works}
use Rattle.machine.specs.Frames.{Frame, Means}
use Rattle.machine.specs.MeansLaws.{means_none}
use Rattle.machine.specs.Realm.{Realm}
use Rattle.machine.specs.Holding.{forms_of}
use Rattle.machine.specs.Notes.{Noted, Lasting}
use Rattle.machine.specs.Table.{Began, Laid}
use Rattle.machine.specs.TableLaws.{laid_as}
use Rattle.machine.specs.Stack.{Stack, bottom, above}
use Rattle.machine.specs.States.{Now, Works, Has, current, mode_of, AtEntry, Come, Here, written, written_now, State, Top}
use Rattle.machine.specs.declared.Machine.{Machine}

pub record Entered {s : Source} (R : Realm s) (mem out : List ℕ) (m : Machine) (x : Result Came) (o : Began) : Type 0 where
  pub aim : Aim
  pub context : Context
  pub tree : Expr
  pub frames : List Frame
  pub limit : ℕ
  pub stack : Stack R o mem frames m.scope m.depth m.top m.frames limit
  pub at : AtEntry R o mem m limit aim context tree
  pub laid : Laid o (forms_of frames) out m.nodes
  pub few : m.nodes ≤ suc max_nodes
  pub noted : Noted R o.regions o.index mem
  pub lasting : Lasting R.W mem out m.nodes
  pub same : Means x frames (works aim context tree)

-- the answer
pub record Final {s : Source} (R : Realm s) (mem out : List ℕ) (m : Machine) (x : Result Came) (o : Began) : Type 0 where
  pub came : Came
  pub come : Come R o mem m came
  pub top : m.top ≡ o.regions.floor
  pub laid : Laid o (written m.nodes came) out m.nodes
  pub noted : Noted R o.regions o.index mem
  pub lasting : Lasting R.W mem out m.nodes
  pub same : x ≡ Done came

module _ {s : Source} (R : Realm s) (o : Began) (mem : List ℕ) (m : Machine) where
  value_mode : (v : Value) → Come R o mem m (Worth v) → 1 < m.mode
  value_mode (Number n) c = let e = c.tells.mode_is in omega arith
  value_mode (Set l) c = let e = c.tells.mode_is in omega arith
  value_mode Logic c = let e = c.tells in omega arith
  value_mode (Bus p y n) c = let e = c.tells.mode_is in omega arith
  value_mode (Unsized p) c = let e = c.tells.mode_is in omega arith
  value_mode (Choice ws) c = let e = c.tells.mode_is in omega arith

  pub come_mode : (v : Came) → Come R o mem m v → 1 < m.mode
  come_mode (Worth v) c = value_mode v c
  come_mode (Nodes f) c = omega arith

pub mode_few : (a : Aim) → mode_of a ≤ 1
mode_few Evaluate = omega arith
mode_few Expand = omega arith

pub aim_evaluate : (a : Aim) → mode_of a ≡ 0 → a ≡ Evaluate
aim_evaluate Evaluate e = refl
aim_evaluate Expand e = absurd (omega arith)

pub aim_expand : (a : Aim) → mode_of a ≡ 1 → a ≡ Expand
aim_expand Evaluate e = absurd (omega arith)
aim_expand Expand e = refl

module _ {s : Source} {R : Realm s} {mem out : List ℕ} {m : Machine} {x : Result Came} {o : Began} (h : State R mem out m x o) where
  pub entered : m.mode ≤ mode_of Expand → Entered R mem out m x o
  entered e = go h.now h.here h.laid h.same
    where
      go : (n : Now) → Here R o mem m h.limit n → Laid o (written_now m.nodes n ++ forms_of h.frames) out m.nodes → Means x h.frames (current n) → Entered R mem out m x o
      go (Works a c t) z l y = record {
        aim = a;
        context = c;
        tree = t;
        frames = h.frames;
        limit = h.limit;
        stack = h.stack;
        at = z;
        laid = l;
        few = h.few;
        noted = h.noted;
        lasting = h.lasting;
        same = y;
      }
      go (Has v) z l y = let p = come_mode R o mem m v z in absurd (omega arith)

  -- something has come
  module _ (e : 1 < m.mode) where
    record Arrival : Type 0 where
      came : Came
      come : Come R o mem m came
      laid : Laid o (written m.nodes came ++ forms_of h.frames) out m.nodes
      same : Means x h.frames (Done came)

    arrival : Arrival
    arrival = go h.now h.here h.laid h.same
      where
        go : (n : Now) → Here R o mem m h.limit n → Laid o (written_now m.nodes n ++ forms_of h.frames) out m.nodes → Means x h.frames (current n) → Arrival
        go (Works a c t) z l y = let p = z.mode in let q = mode_few a in absurd (omega arith)
        go (Has v) z l y = record { came = v; come = z; laid = l; same = y }

    pub top_of : (m.frames ≡ length mem → ⊥) → Top R mem out m x o
    unfolding forms_of
    top_of f = let a = arrival in go a.came a.come h.stack a.laid a.same
      where
        go : (v : Came) → Come R o mem m v → {Fs : List Frame} {k : ℕ} → Stack R o mem Fs m.scope m.depth m.top m.frames k → Laid o (written m.nodes v ++ forms_of Fs) out m.nodes
            → Means x Fs (Done v) → Top R mem out m x o
        go v c (bottom b) l y = absurd (f b.end)
        go v c (above {F = F} {Fs = Fs} {k = k} g b r) l y = record {
          frame = F;
          top = record { footing = g; rest = Fs; came = v; entry = k; at = b; stack = r; come = c; laid = l; few = h.few; noted = h.noted; lasting = h.lasting; same = y };
        }

    pub ended : m.frames ≡ length mem → Final R mem out m x o
    unfolding forms_of
    ended f = let a = arrival in go a.came a.come h.stack a.laid a.same
      where
        go : (v : Came) → Come R o mem m v → {Fs : List Frame} {k : ℕ} → Stack R o mem Fs m.scope m.depth m.top m.frames k → Laid o (written m.nodes v ++ forms_of Fs) out m.nodes
            → Means x Fs (Done v) → Final R mem out m x o
        go v c (bottom b) l y =
            record { came = v; come = c; top = b.start; laid = laid_as (append-nil (written m.nodes v)) l; noted = h.noted; lasting = h.lasting; same = means_none x (Done v) y }
        go v c (above g b r) l y = let i = b.inside in absurd (omega arith)
