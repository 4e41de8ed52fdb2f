-- The expression at an entry by its kind, and where its operands stand.
use Rattle.std.specs.Prelude.{ℕ, ◌+◌, ◌-◌, ◌≤◌, ◌<◌, false, List, ◌++◌, ◌≡◌, length, get_or}
use Rattle.std.proofs.Math.Option.{some}
use Rattle.std.proofs.Common.{sym, ap, ◌∙◌, subst, arith, length-append}
use Rattle.language.specs.Limits.{max_tokens, work_bytes}
use Rattle.language.specs.Tokens.{Token, tokens}
use Rattle.language.specs.Tree.{Expr}
use Rattle.language.specs.DeclaredNames.{Port}
use Rattle.language.specs.Expansion.{Context}
use Rattle.entries.specs.Flat.{under, flat}
use Rattle.entries.specs.Stored.{EndsAt}
use Rattle.name_values.specs.World.{World}
use Rattle.name_values.specs.Known.{Known}
use Rattle.operands.specs.Entries.{kind_at, size_at}
use Rattle.operands.specs.Classes.{Class, class_of, View, view}
use Rattle.operands.specs.ClassLaws.{has_entry, expr-kind, size_is}
use Rattle.operands.specs.Operands.{below}
use Rattle.operands.specs.Working.{Source}
use Rattle.machine.specs.Fields.{entry_field}
use Rattle.machine.specs.Realm.{Operand}
use Rattle.machine.specs.Came.{Expand}
use Rattle.machine.specs.States.{mode_of, Ready, Topped, ToppedToWrite}
use Rattle.machine.specs.StateLaws.{entered}
use Rattle.machine.specs.EnterLaws.{entry_few}
use Rattle.machine.specs.TakeLaws.{entry_word_lem, room-under}
use Rattle.machine.specs.declared.Machine.{Machine}

-- the entry's words can be read
pub ready-entry : {s : Source} {mem : List ℕ} {m : Machine} → Ready s mem m → m.mode ≤ mode_of Expand → (m.value < max_tokens) × (work_bytes ≤ length s.work)
ready-entry h l = (entry_few (entered h.state l), h.lent.work)

-- so can that of the last frame
pub record FrameEntry (s : Source) (mem : List ℕ) (m : Machine) : Type 0 where
  pub some : 0 < get_or mem (m.frames + entry_field) 0
  pub few : get_or mem (m.frames + entry_field) 0 < max_tokens
  pub work : work_bytes ≤ length s.work

pub topped-entry : {s : Source} {mem : List ℕ} {m : Machine} → Topped s mem m → FrameEntry s mem m
topped-entry t =
    let h = t.top.top in
    let e = entry_word_lem h in
    let a = h.at.entry in
    let b = h.at.some in
    let c = h.at.below in
    let d = (room-under h).few in
    record { some = omega arith; few = omega arith; work = t.lent.work }

pub topped_to_write-entry : {s : Source} {mem out : List ℕ} {m : Machine} → ToppedToWrite s mem out m → FrameEntry s mem m
topped_to_write-entry t = topped-entry (record { lent = t.lent; realm = t.realm; answer = t.answer; began = t.began; table = _; top = t.top })

module _ {s : Source} {W : World} {ps : List Port} {env : List ℕ} {c : Context} {k : ℕ} {e : Expr} (p : Operand s W ps env c k e) where
  pub operand-view : {z : Class} → class_of (kind_at s.work k) ≡ z → View z e
  operand-view h = subst (λ (y : Class). View y e) (sym (ap class_of (expr-kind e p.known.proper p.known.at)) ∙ h) (view e p.known.proper)

  pub operand_as : {d : Expr} → e ≡ d → Operand s W ps env c k d
  operand_as q = subst (Operand s W ps env c k) q p

  -- another expression in the same context
  pub alongside : {j : ℕ} {d : Expr} → Known (tokens s.text) s.work s.refs W env c false j d → Operand s W ps env c j d
  alongside h = record { known = h; small = p.small; ports = p.ports; plain = p.plain }

  -- an operand, at the entry before
  pub record One (a : Expr) : Type 0 where
    pub operand : Operand s W ps env c (k - 1) a
    pub inside : 1 ≤ k

  pub one-operand : (n : ℕ) (t : Token) (a : Expr) → EndsAt s.work (tokens s.text) k (under n (some t) (flat a)) → Known (tokens s.text) s.work s.refs W env c false (k - 1) a → One a
  one-operand n t a h d = let l = below n (some t) (flat a) h in let m = has_entry a d.proper in record { operand = alongside d; inside = omega arith }

  -- two, the last at the entry before
  pub record Two (a b : Expr) : Type 0 where
    pub left : Operand s W ps env c (k - 1 - size_at s.work (k - 1)) a
    pub right : Operand s W ps env c (k - 1) b
    pub inside : 1 + size_at s.work (k - 1) ≤ k

  pub two_operands : (n : ℕ) (t : Token) (a b : Expr) → EndsAt s.work (tokens s.text) k (under n (some t) (flat a ++ flat b))
      → Known (tokens s.text) s.work s.refs W env c false (k - 1 - length (flat b)) a × Known (tokens s.text) s.work s.refs W env c false (k - 1) b → Two a b
  two_operands n t a b h d =
      let l = below n (some t) (flat a ++ flat b) h in
      let m = has_entry a d.0.proper in
      let z = size_is b (has_entry b d.1.proper) d.1.at in
      let y = length-append (flat a) (flat b) in
      record {
        left = subst (λ (i : ℕ). Operand s W ps env c i a) (ap (λ (i : ℕ). k - 1 - i) (sym z)) (alongside d.0);
        right = alongside d.1;
        inside = omega arith;
      }

  -- three, the last at the entry before, the others one after another before it
  pub record Three (x y z : Expr) : Type 0 where
    pub first : Operand s W ps env c (k - 1 - size_at s.work (k - 1) - size_at s.work (k - 1 - size_at s.work (k - 1))) x
    pub middle : Operand s W ps env c (k - 1 - size_at s.work (k - 1)) y
    pub last : Operand s W ps env c (k - 1) z
    pub inside : 1 + size_at s.work (k - 1) + size_at s.work (k - 1 - size_at s.work (k - 1)) ≤ k

  pub three-operands : (n : ℕ) (t : Token) (x y z : Expr) → EndsAt s.work (tokens s.text) k (under n (some t) (flat x ++ (flat y ++ flat z)))
      → Known (tokens s.text) s.work s.refs W env c false (k - 1 - length (flat z) - length (flat y)) x × Known (tokens s.text) s.work s.refs W env c false (k - 1 - length (flat z)) y ×
      Known (tokens s.text) s.work s.refs W env c false (k - 1) z → Three x y z
  three-operands n t x y z h d =
      let l = below n (some t) (flat x ++ (flat y ++ flat z)) h in
      let m = has_entry x d.0.proper in
      let a : size_at s.work (k - 1) ≡ length (flat z) = size_is z (has_entry z d.2.proper) d.2.at in
      let b : size_at s.work (k - 1 - size_at s.work (k - 1)) ≡ length (flat y) =
      ap (λ (i : ℕ). size_at s.work (k - 1 - i)) a ∙ size_is y (has_entry y d.1.proper) d.1.at in
      let f = length-append (flat x) (flat y ++ flat z) in
      let g = length-append (flat y) (flat z) in
      let q : k - 1 - length (flat z) - length (flat y) ≡ k - 1 - size_at s.work (k - 1) - size_at s.work (k - 1 - size_at s.work (k - 1)) = omega arith in
      record {
        first = subst (λ (i : ℕ). Operand s W ps env c i x) q (alongside d.0);
        middle = subst (λ (i : ℕ). Operand s W ps env c i y) (ap (λ (i : ℕ). k - 1 - i) (sym a)) (alongside d.1);
        last = alongside d.2;
        inside = omega arith;
      }
