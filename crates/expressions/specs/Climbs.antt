-- A complete operand: an operator goes on with it, or the expression is complete. And where the reading of an expression begins.
use Prim.Native.Nat.{ℕ, zero, suc, ◌+◌, ◌≤◌, ◌<◌}
use native.Mathlib.Omega.{arith}
use mathlib.Core.List.{List, [], ◌∷◌, ◌++◌, append-nil}
use Rattle.std.specs.Prelude.{true, false, ◌≡◌, refl, leb}
use Rattle.std.proofs.Math.Option.{none, some}
use Rattle.std.proofs.Common.{sym, ◌∙◌, lit<, le-leb}
use Rattle.std.proofs.Math.Path.{ap, subst}
use Rattle.std.proofs.Math.ListN.{drop}
use Rattle.std.proofs.lemmas.Bool.{lt-leb}
use Rattle.node.specs.Result.{◌>>=◌}
use Rattle.language.specs.Operators.{loosest}
use Rattle.language.specs.Tree.{Expr, Joined, Empty}
use Rattle.language.specs.Grammar.{Tokens, Read, allowed, right_level}
use Rattle.language.specs.Sections.{expression}
use Rattle.language.proofs.Laws.Basics.Tests.{pick, leave}
use Rattle.lexer.specs.Numbers.{number}
use Rattle.entries.specs.Flat.{flat}
use Rattle.entries.specs.declared.Cursor.{Cursor}
use Rattle.entries.specs.Cursors.{Ready, number_at, next_of}
use Rattle.entries.specs.CursorLaws.{ready-number, before-end, drop-next}
use Rattle.operators.specs.Fields.{level_field, right_field}
use Rattle.expressions.specs.declared.stack.Machine.{Machine}
use Rattle.expressions.specs.declared.stack.Turn.TheVariants.{Next}
use Rattle.operators.specs.Readers.{reads, climbs, infix_row, operator_at}
use Rattle.expressions.specs.ReaderLaws.{climbs-stop, climbs_on}
use Rattle.operators.specs.Tables.{infix_at}
use Rattle.operators.specs.RowLaws.{InfixFound, infix_none, infix_some}
use Rattle.expressions.specs.Classes.{Right, class_number}
use Rattle.expressions.specs.Frames.{Frame, plug}
use Rattle.expressions.specs.Stack.{put_slot, Stacked}
use Rattle.expressions.specs.StackLaws.{stacked_less, stacked_next, stacked_push}
use Rattle.expressions.specs.Machines.{pushed_of}
use Rattle.expressions.specs.States.{slot, slots_of, base, credits, State, Turned}
use Rattle.expressions.specs.StateLaws.{facts, here, keeps_here, kept_slot}
use Rattle.expressions.specs.Complete.{Complete}

module _ {ts : Tokens} {s : Cursor} {x : Read Expr} {w : List ℕ} {m : Machine} (h : State true ts s x w m) (q : ℕ) (row : q ≡ infix_at (number_at w m.c)) where
  number-row : q ≡ infix_at (number (here h))
  number-row = row ∙ ap infix_at (ready-number h.stacked.ready)

  no_operator : allowed m.level (infix_row (here h)) ≡ none → Complete ts s x w m
  no_operator e =
      record {
        frames = h.frames;
        tree = h.tree;
        rooted = h.good;
        firm = h.firm;
        stacked = h.stacked;
        same = h.same ∙ ap (plug h.frames) (climbs-stop m.level h.tree (drop m.c.at ts) e);
      }

  pub ends_none : q ≡ 0 → Complete ts s x w m
  ends_none e = no_operator (ap (allowed m.level) (infix_none (here h) (sym number-row ∙ e)))

  found : (q ≡ 0 → ⊥) → InfixFound (here h) q
  found f = subst (InfixFound (here h)) (sym number-row) (infix_some (here h) (λ z. f (number-row ∙ z)))

  pub ends_loose : (q ≡ 0 → ⊥) → m.level < level_field q → Complete ts s x w m
  ends_loose f l =
      let r = found f in
      no_operator (ap (allowed m.level) r.here ∙ leave (leb r.row.level m.level) (some r.row) none (lt-leb r.row.level m.level (omega (arith, r.level))))

  -- no operator has the number 0
  pub operator-inside : (q ≡ 0 → ⊥) → m.c.at < m.c.count
  unfolding infix_at
  operator-inside f = before-end w m.c (go (number_at w m.c) refl)
    where
      go : (k : ℕ) → number_at w m.c ≡ k → 0 < k
      go zero e = absurd (f (row ∙ ap infix_at e))
      go (suc k) e = omega arith

  pub turn_right : (q ≡ 0 → ⊥) → level_field q ≤ m.level → Turned ts s x w (put_slot w m.depth (class_number Right) m.level m.c.at) m (Next (pushed_of m (next_of m.c) (right_field q)))
  unfolding plug
  turn_right f l =
      let r = found f in
      let t = here h in
      let i = operator-inside f in
      let fs = facts h in
      let us = drop m.c.at ts in
      let F : Frame = record { class = Right; level = m.level; token = t; first = h.tree; second = Empty; name = t; low = t; high = t } in
      let v = put_slot w m.depth (class_number Right) m.level m.c.at in
      let fits : allowed m.level (infix_row t) ≡ some r.row =
      ap (allowed m.level) r.here ∙ pick (leb r.row.level m.level) (some r.row) none (le-leb r.row.level m.level (omega (arith, r.level))) in
      let pushed = stacked_push (stacked_next h.stacked i) (slot (class_number Right) m.level t []) m.c.at (keeps_here h i, tt) (omega (arith, fs.few, i, fs.fits.few)) (lit< tt) h.level_fits in
      subst (λ k. Turned ts s x w v m (Next (pushed_of m (next_of m.c) k))) (sym r.right)
      (record {
        kept = kept_slot h (class_number Right) m.level m.c.at;
        after =
            record {
              state =
                  record {
                    frames = F ∷ h.frames;
                    tree = Empty;
                    mode = refl;
                    good = r.right_some;
                    level_fits = r.right-fits;
                    firm = (((h.good, tt), (λ z. f (number-row ∙ z), tt)), h.firm);
                    stacked = subst (λ es. Stacked ts s v (next_of m.c) (m.depth + 1) (slot (class_number Right) m.level t [] ∷ slots_of h.frames) es (0 + credits h.frames))
                        (sym (append-nil (base h.frames ++ flat h.tree))) (stacked_less pushed (0 + credits h.frames) (omega arith));
                    same =
                        h.same
                        ∙ ap (plug h.frames)
                        (climbs_on m.level h.tree us r.row fits r.here ∙ ap
                        (λ vs. reads (right_level r.row) vs >>= λ (b, zs). climbs m.level (Joined t (operator_at t) h.tree b) zs) (sym (drop-next m.c.at ts)));
                  };
              lighter = omega (arith, i);
            };
      })

-- where an expression begins
pub begins : {ts : Tokens} {w : List ℕ} {c : Cursor} → Ready ts w c → State false ts c (expression (drop c.at ts)) w (record { c = c; depth = 0; level = loosest; complete = false })
unfolding reads plug
begins {ts} {w} {c} r =
    record {
      frames = [];
      tree = Empty;
      mode = refl;
      good = lit< tt;
      level_fits = lit< tt;
      firm = tt;
      stacked = record { ready = r; begun = r.less; count = refl; end = refl; further = omega arith; room = omega arith; slots_at = refl; entries = tt; out = omega arith };
      same = refl;
    }
