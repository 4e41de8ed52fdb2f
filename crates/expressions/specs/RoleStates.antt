-- The states after an operand has begun with an operator, and where a big operator's name begins.
use Prim.Native.Nat.{ℕ, zero, suc, ◌≤◌, ◌<◌}
use native.Mathlib.Omega.{arith}
use Rattle.std.specs.Prelude.{List, Bool, true, false, ◌≡◌, leb, drop}
use Rattle.std.proofs.lemmas.Bool.{false≢true, lt-leb}
use Rattle.std.proofs.Math.Path.{refl, ap}
use Rattle.std.proofs.Common.{sym, ◌∙◌, subst, lit<, eq-eqb, ne_eqb, le-leb}
use Rattle.language.specs.Operators.{FinallyIn, GloballyIn, Role, Plain, Counted, Windowed, Folding, loosest}
use Rattle.language.specs.Tree.{Expr}
use Rattle.language.specs.Grammar.{Tokens, Read, rest, next}
use Rattle.lexer.specs.Numbers.{number, fixed}
use Rattle.entries.specs.declared.Cursor.{Cursor}
use Rattle.entries.specs.Kinds as Kind
use Rattle.entries.specs.Cursors.{number_at, refused_at, next_of}
use Rattle.entries.specs.CursorLaws.{ready-number}
use Rattle.operators.specs.Fields.{level_field, role_field, plain_role, counted_role, folding_role}
use Rattle.expressions.specs.declared.stack.Machine.{Machine}
use Rattle.expressions.specs.declared.stack.Turn.TheVariants.{Next, Ended}
use Rattle.operators.specs.Readers.{level_at, role_at, sole_of}
use Rattle.operators.specs.Tables.{role_number, sole_kind, window_kind, prefix_at}
use Rattle.operators.specs.RowLaws.{PrefixFound, prefix_some}
use Rattle.expressions.specs.Classes.{Sole, Count, Low, class_number}
use Rattle.expressions.specs.StartLaws.{reads_loose}
use Rattle.expressions.specs.RoleLaws.{takes_one, starts_sole, starts-count, starts-window}
use Rattle.expressions.specs.Stack.{put_slot}
use Rattle.expressions.specs.Machines.{pushed_of}
use Rattle.expressions.specs.States.{State, Turned}
use Rattle.expressions.specs.StateLaws.{here, refuses}
use Rattle.expressions.specs.StartStates.{next-sign, inside, enter_next, enter_second}

-- roles by their numbers
takes-plain : (o : Role) (b : Bool) → role_number o ≡ plain_role → takes_one o b ≡ true
takes-plain (Plain p) b e = refl
takes-plain Counted b e = absurd (omega arith)
takes-plain (Windowed o) b e = absurd (omega arith)
takes-plain (Folding o) b e = absurd (omega arith)

takes_suits : (o : Role) (b : Bool) → takes_one o b ≡ true → sole_kind o ≡ Kind.before (sole_of o)
takes_suits (Plain p) b e = refl
takes_suits Counted b e = refl
takes_suits (Windowed FinallyIn) b e = refl
takes_suits (Windowed GloballyIn) b e = refl
takes_suits (Folding o) b e = absurd (false≢true e)

takes_bare : (o : Role) → (role_number o ≡ folding_role → ⊥) → takes_one o false ≡ true
takes_bare (Plain p) f = refl
takes_bare Counted f = refl
takes_bare (Windowed o) f = refl
takes_bare (Folding o) f = absurd (f refl)

module _ {ts : Tokens} {s : Cursor} {x : Read Expr} {w : List ℕ} {m : Machine} (h : State false ts s x w m) (p : ℕ) (row : p ≡ prefix_at (number_at w m.c)) (some_row : p ≡ 0 → ⊥) where
  pub found : PrefixFound (here h) p
  found =
      let e : p ≡ prefix_at (number (here h)) = row ∙ ap prefix_at (ready-number h.stacked.ready) in
      subst (PrefixFound (here h)) (sym e) (prefix_some (here h) (λ z. some_row (e ∙ z)))

  marked : prefix_at (number (here h)) ≡ 0 → ⊥
  marked z = some_row (row ∙ ap prefix_at (ready-number h.stacked.ready) ∙ z)

  -- no operator has the number 0, which is that of the text's end
  pub not_end : 0 < number_at w m.c
  unfolding prefix_at
  not_end = go (number_at w m.c) refl
    where
      go : (k : ℕ) → number_at w m.c ≡ k → 0 < k
      go zero e = absurd (some_row (row ∙ ap prefix_at e))
      go (suc k) e = omega arith

  -- an operator that is too loose
  pub turn_loose : m.level < level_field p → Turned ts s x w w m (Ended (refused_at w m.c))
  turn_loose l =
      let f = found in
      refuses h (reads_loose m.level (drop m.c.at ts) f.row f.here (lt-leb f.row.level m.level (omega (arith, f.level, f.same_level))))

  module _ (fits : level_field p ≤ m.level) where
    pub tight : leb found.row.level m.level ≡ true
    tight = let f = found in le-leb f.row.level m.level (omega (arith, f.level, f.same_level))

    level-is : level_field p ≡ level_at (here h)
    level-is = found.level

    turn_one : takes_one (role_at (here h)) (next "[" (rest (drop m.c.at ts))) ≡ true → Turned ts s x w (put_slot w m.depth (class_number Sole) m.level m.c.at) m (Next (pushed_of m (next_of m.c) (level_field p)))
    turn_one one =
        let f = found in
        subst (λ l. Turned ts s x w (put_slot w m.depth (class_number Sole) m.level m.c.at) m (Next (pushed_of m (next_of m.c) l))) (sym level-is)
        (enter_next h Sole (level_at (here h)) (record { slots = λ l t. refl; trees = λ l t. refl; credit = refl; class = lit< tt }) (marked, takes_suits (role_at (here h)) _ one) not_end
        f.level_some f.level_fits
        (starts_sole m.level (drop m.c.at ts) f.row f.here tight one))

    pub turn-plain : role_field p ≡ plain_role → Turned ts s x w (put_slot w m.depth (class_number Sole) m.level m.c.at) m (Next (pushed_of m (next_of m.c) (level_field p)))
    turn-plain e = turn_one (takes-plain (role_at (here h)) _ (sym found.role ∙ e))

    -- no bracket follows
    pub turn-bare : (role_field p ≡ folding_role → ⊥) → (number_at w (next_of m.c) ≡ fixed "[" → ⊥) → Turned ts s x w (put_slot w m.depth (class_number Sole) m.level m.c.at) m (Next (pushed_of m (next_of m.c) (level_field p)))
    turn-bare f g =
        turn_one (ap (takes_one (role_at (here h))) (next-sign h (inside h not_end) "[" refl ∙ ne_eqb (number_at w (next_of m.c)) _ g) ∙ takes_bare (role_at (here h)) (λ e. f (found.role ∙ e)))

    -- a bracket follows
    module _ (bracket : number_at w (next_of m.c) ≡ fixed "[") where
      bracket-here : next "[" (rest (drop m.c.at ts)) ≡ true
      bracket-here = next-sign h (inside h not_end) "[" refl ∙ eq-eqb (number_at w (next_of m.c)) _ bracket

      pub turn-count : role_field p ≡ counted_role → Turned ts s x w (put_slot w m.depth (class_number Count) m.level m.c.at) m (Next (pushed_of m (next_of (next_of m.c)) loosest))
      turn-count e =
          let f = found in
          enter_second h Count loosest (record { slots = λ l t. refl; trees = λ l t. refl; credit = refl; class = lit< tt }) (marked, tt) not_end (omega arith) (lit< tt) (lit< tt)
          (starts-count m.level (drop m.c.at ts) f.row f.here tight (counted (role_at (here h)) (sym f.role ∙ e)) bracket-here)
        where
          counted : (o : Role) → role_number o ≡ counted_role → o ≡ Counted
          counted (Plain q) z = absurd (omega arith)
          counted Counted z = refl
          counted (Windowed q) z = absurd (omega arith)
          counted (Folding q) z = absurd (omega arith)

      pub turn_low : (role_field p ≡ folding_role → ⊥) → (role_field p ≡ plain_role → ⊥) → (role_field p ≡ counted_role → ⊥)
          → Turned ts s x w (put_slot w m.depth (class_number Low) m.level m.c.at) m (Next (pushed_of m (next_of (next_of m.c)) loosest))
      turn_low a b d = go (role_at (here h)) refl
        where
          go : (o : Role) → role_at (here h) ≡ o → Turned ts s x w (put_slot w m.depth (class_number Low) m.level m.c.at) m (Next (pushed_of m (next_of (next_of m.c)) loosest))
          go (Plain q) e = absurd (b (found.role ∙ ap role_number e))
          go Counted e = absurd (d (found.role ∙ ap role_number e))
          go (Folding q) e = absurd (a (found.role ∙ ap role_number e))
          go (Windowed q) e =
              let f = found in
              enter_second h Low loosest (record { slots = λ l t. refl; trees = λ l t. refl; credit = refl; class = lit< tt }) (marked, ap window_kind e)
              not_end (omega arith) (lit< tt) (lit< tt)
              (starts-window m.level (drop m.c.at ts) f.row f.here tight q e bracket-here)
