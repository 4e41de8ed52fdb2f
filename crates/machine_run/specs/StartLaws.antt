-- A run begins: an entry on an empty stack. The table before and after it.
use Rattle.std.specs.Prelude.{ℕ, suc, ◌+◌, ◌≤◌, ◌<◌, List, [], ◌∷◌, ◌++◌, ◌≡◌, refl, length}
use Rattle.std.proofs.Common.{sym, ◌∙◌, subst, arith}
use Rattle.node.specs.Limits.{max_nodes}
use Rattle.node.specs.Ltl.{Formula}
use Rattle.writing.specs.Writing.{Wrote}
use Rattle.writing.specs.StayLaws.{Stays, stays_none, wrote_stays}
use Rattle.language.specs.Limits.{max_tokens}
use Rattle.language.specs.Tree.{Expr}
use Rattle.language.specs.Expansion.{Context}
use Rattle.operands.specs.Working.{Source}
use Rattle.machine.specs.Came.{Aim, Came, Worth, Nodes, works}
use Rattle.machine.specs.Frames.{Means}
use Rattle.machine.specs.Realm.{Operand, Realm}
use Rattle.machine.specs.Memory.{Regions, spare, Slotted}
use Rattle.machine.specs.Holding.{Laying, forms_of}
use Rattle.machine.specs.Notes.{Noted, Lasting}
use Rattle.machine.specs.Table.{Began, Lays, Laid}
use Rattle.machine.specs.TableLaws.{laid_none, laid_more, laid-last}
use Rattle.machine.specs.Stack.{bottom}
use Rattle.machine.specs.States.{Works, mode_of, written, State}
use Rattle.machine.specs.declared.Machine.{Machine}

abbrev pub began_at : Regions → (out : List ℕ) → (n : ℕ) → (n ≤ max_nodes → length out ≡ max_nodes) → Began
began_at z out n e = record { regions = z; table = out; index = n; sized = e }

-- the entry of m, with nothing under it
pub record Starting {s : Source} (R : Realm s) (z : Regions) (mem out : List ℕ) (m : Machine) (a : Aim) (c : Context) (e : Expr) : Type 0 where
  pub mode : m.mode ≡ mode_of a
  pub env : List ℕ
  pub first : z.slots ≤ m.scope
  pub deep : m.depth ≡ m.scope + length env
  pub slotted : Slotted mem m.scope env
  pub operand : Operand s R.W R.ports env c m.value e
  pub top : m.top ≡ z.floor
  pub bare : m.frames ≡ length mem
  pub slots : m.depth + suc m.value ≤ z.floor
  pub few : m.value < max_tokens
  pub room : z.floor + spare ≤ length mem
  pub index : m.nodes ≤ suc max_nodes
  pub noted : Noted R z m.nodes mem
  pub lasting : Lasting R.W mem out m.nodes

pub starts : {s : Source} {R : Realm s} {z : Regions} {mem out : List ℕ} {m : Machine} {a : Aim} {c : Context} {e : Expr} (q : m.nodes ≤ max_nodes → length out ≡ max_nodes) → Starting R z mem out m a c e
    → State R mem out m (works a c e) (began_at z out m.nodes q)
unfolding Means forms_of
starts {z = z} {out = out} {m} {a} {c} {e} q h =
    let f = h.first in
    let d = h.deep in
    let t = h.top in
    let b = h.bare in
    let r = h.room in
    let w = h.few in
    record {
      frames = [];
      now = Works a c e;
      limit = suc m.value;
      stack = bottom {scope = m.scope} {depth = m.depth} {top = m.top} {at = m.frames} {k = suc m.value} (record { end = h.bare; start = h.top; first = omega arith; slots = h.slots; few = omega arith; room = omega arith });
      here = record { mode = h.mode; below = omega arith; env = h.env; first = h.first; deep = h.deep; slotted = h.slotted; operand = h.operand };
      laid = laid_none (began_at z out m.nodes q);
      few = h.index;
      noted = h.noted;
      lasting = h.lasting;
      same = refl;
    }

laid-nothing : {o : Began} {out : List ℕ} {n : ℕ} → Laid o [] out n → (out ≡ o.table) × (n ≡ o.index)
unfolding Lays
laid-nothing h = h.lays

-- a run that began with the table `out` and the index n
module _ {z : Regions} {out : List ℕ} {n : ℕ} {q : n ≤ max_nodes → length out ≡ max_nodes} where
  pub same-table : {out' : List ℕ} {k : ℕ} → Laid (began_at z out n q) [] out' k → out' ≡ out
  same-table h = (laid-nothing h).0

  -- the formula was written behind
  pub wrote-behind : {f : Formula} {out' : List ℕ} {k : ℕ} → Laid (began_at z out n q) (record { formula = f; end = k } ∷ []) out' k → Wrote f out out' n k
  wrote-behind {f} {out'} {k} h =
      let b = laid-last h in
      let e = laid-nothing b.others in
      subst (λ (l : List ℕ). Wrote f l out' n k) e.0 (subst (λ (i : ℕ). Wrote f b.before out' i k) e.1 b.wrote)

  -- seen from a run that had begun before
  pub laid-onto : {o : Began} {ls : List Laying} {out' : List ℕ} {k : ℕ} (v : Came) → Laid o ls out n → Laid (began_at z out n q) (written k v) out' k → Laid o (written k v ++ ls) out' k
  laid-onto {o} {ls} {out'} {k} (Worth v) h g =
      let e = laid-nothing g in
      subst (λ (l : List ℕ). Laid o ls l k) (sym e.0) (subst (λ (i : ℕ). Laid o ls out i) (sym e.1) h)
  laid-onto (Nodes f) h g = laid_more f h (wrote-behind g)

  pub stays_onto : {out' : List ℕ} {k : ℕ} (v : Came) → Laid (began_at z out n q) (written k v) out' k → Stays out out' n k
  stays_onto {out'} {k} (Worth v) g =
      let e = laid-nothing g in
      subst (λ (l : List ℕ). Stays out l n k) (sym e.0) (subst (λ (i : ℕ). Stays out out n i) (sym e.1) (stays_none out n))
  stays_onto (Nodes f) g = wrote_stays (wrote-behind g)

-- what is noted, where values begin elsewhere and the index is another
pub noted_at : {s : Source} {R : Realm s} {z : Regions} {i : ℕ} {mem : List ℕ} (y : Regions) (j : ℕ) → y.slots ≡ z.slots → y.slots ≤ y.floor → (j ≤ max_nodes → i ≤ max_nodes) → Noted R z i mem
    → Noted R y j mem
noted_at y j e l f n =
    let w = n.within in
    record { facts = n.facts; signals = λ k. n.signals (f k); first = n.first; within = omega arith; slots_word_lem = n.slots_word_lem ∙ sym e; ascending = l }
