-- The states where a name of a big operator begins: with its set, or with its bounds.
use Rattle.std.specs.Prelude.{ℕ, zero, suc, ◌+◌, ◌-◌, ◌≤◌, ◌<◌, ◌^◌, List, [], ◌∷◌, Bool, true, false, ◌&&◌, ◌||◌, ◌≡◌, eqb, drop, Ok, Err}
use Rattle.std.proofs.Common.{arith, sym, ◌∙◌, subst}
use Rattle.std.proofs.lemmas.Bool.{false≢true}
use Rattle.std.proofs.Math.Path.{refl, ap}
use Rattle.std.proofs.Math.Dec.{lit<}
use borrow.Author.Tests.{eqb-true, eqb-false, eq-eqb, ne_eqb}
use Rattle.node.specs.Returned.{refusal}
use Rattle.node.specs.Result.{Done, ◌>>=◌}
use Rattle.node.proofs.ResultLaws.{bind_at}
use Rattle.words.specs.WordLaws.{length-put}
use Rattle.language.specs.Tokens.{Name, Token}
use Rattle.language.specs.Operators.{Big, Role, Plain, Counted, Windowed, Folding as Folds, loosest, bound_level}
use Rattle.language.specs.Tree.{Expr, Empty}
use Rattle.language.specs.Grammar.{Tokens, Read, front, rest, stop, next, named, expect}
use Rattle.language.proofs.Laws.Basics.Tests.{pick, leave, and_left, and_right}
use Rattle.language.specs.Limits.{work_bytes}
use Rattle.lexer.specs.Numbers.{fixed, class_number as tokenNumber}
use Rattle.entries.specs.declared.Cursor.{Cursor}
use Rattle.entries.specs.Parse.{Parse}
use Rattle.entries.specs.Cursors.{Fits, Ready, number_at, next_of, refused_at, expected}
use Rattle.entries.specs.CursorLaws.{ready-number, ready-next, before-end, drop-next}
use Rattle.entries.specs.TokenReads.{next-class, next-named}
use Rattle.entries.specs.Kinds as Kind
use Rattle.entries.specs.Reads.{Kept}
use Rattle.entries.specs.ReadsLaws.{kept_put, kept_then}
use Rattle.operators.specs.Fields.{level_field, role_field, folding_role}
use Rattle.expressions.specs.declared.stack.Machine.{Machine}
use Rattle.expressions.specs.declared.stack.Turn.TheVariants.{Next, Ended}
use Rattle.operators.specs.Readers.{reads, role_at, big_of, folds}
use Rattle.expressions.specs.Classes.{Over, Bound, Member, class_number}
use Rattle.expressions.specs.Frames.{Frame, resume, plug}
use Rattle.expressions.specs.RoleLaws.{is_member, starts_fold, folds-member, folds_bounds}
use Rattle.expressions.specs.Stack.{slot_word, put_slot, last_word, class_bits}
use Rattle.expressions.specs.StackLaws.{stacked_apart, stacked_few, stacked_less, stacked_next, stacked_push}
use Rattle.expressions.specs.Machines.{Pushes, pushed_of}
use Rattle.expressions.specs.States.{slot, credits, State, Turned}
use Rattle.expressions.specs.StateLaws.{here, keeps_here, refuses-at, pushed}
use Rattle.expressions.specs.StartStates.{drop-two, inside, next-sign}
use Rattle.operators.specs.Tables.{role_number, sole_kind, prefix_at}
use Rattle.expressions.specs.RoleStates.{found, not_end, tight}
use Rattle.expressions.specs.Binders.{among_at, member_at, Folding, Named}

-- the grammar's test by numbers
member-here : {ts : Tokens} {w : List ℕ} {c : Cursor} (max : ℕ) (t : Token) → Ready ts w c → (b : Bool) → eqb (number_at w c) (tokenNumber Name) ≡ b → is_member max t (drop c.at ts) ≡ member_at w c
member-here {ts} {w} {c} max t r true e =
    let one = eqb-true (number_at w c) (tokenNumber Name) e in
    let inside = before-end w c (omega arith) in
    ap (λ b. b && named ("IN" ∷ "ELEM" ∷ "<-" ∷ []) (front (rest (drop c.at ts)))) (next-class r Name refl)
    ∙ ap (λ us. eqb (number_at w c) (tokenNumber Name) && named ("IN" ∷ "ELEM" ∷ "<-" ∷ []) (front us)) (sym (drop-next c.at ts))
    ∙ ap (λ b. eqb (number_at w c) (tokenNumber Name) && b) (next-named (ready-next r inside) ("IN" ∷ "ELEM" ∷ "<-" ∷ []) refl ∙ no_more (eqb (number_at w (next_of c)) (fixed "IN")) (eqb (number_at w (next_of c)) (fixed "ELEM"))
    (eqb (number_at w (next_of c)) (fixed "<-")))
  where
    no_more : (p q o : Bool) → (p || (q || (o || false))) ≡ (p || (q || o))
    no_more true q o = refl
    no_more false true o = refl
    no_more false false true = refl
    no_more false false false = refl
member-here {ts} {w} {c} max t r false e =
    ap (λ b. b && named ("IN" ∷ "ELEM" ∷ "<-" ∷ []) (front (rest (drop c.at ts)))) (next-class r Name refl ∙ e) ∙ ap (λ b. b && among_at (number_at w (next_of c))) (sym e)

module _ {ts : Tokens} {s : Cursor} {x : Read Expr} {w : List ℕ} {m : Machine} {c : Cursor} {j : ℕ} (h : Folding ts s x w m c j) where
  abbrev us : Tokens
  us = drop c.at ts

  pub naming-fits : Fits w c
  naming-fits = h.stacked.ready.fits

  pub naming_push : (k : ℕ) → k < 2 ^ class_bits → Pushes w m k j
  naming_push k l =
      let apart = stacked_apart h.stacked in
      let few = stacked_few h.stacked in
      record { room = naming-fits.room; deep = omega arith; class-fits = l; level_fits = h.level_fits; token-fits = h.token-fits }

  -- a second slot behind it, for the next token
  pub naming-second : (k l i : ℕ) → c.at < c.count → Pushes (put_slot w m.depth k l i) (record { c = c; depth = m.depth + 1; level = 0; complete = false }) (class_number Member) c.at
  naming-second k l i b =
      let apart = stacked_apart h.stacked in
      let few = stacked_few h.stacked in
      record {
        room = subst (λ n. work_bytes ≤ n) (sym (length-put w (last_word - m.depth) (slot_word k l i))) naming-fits.room;
        deep = omega arith;
        class-fits = lit< tt;
        level_fits = lit< tt;
        token-fits = omega (arith, naming-fits.few);
      }

  slot_kept : (n k l i : ℕ) → n ≤ suc m.depth → Kept w (put_slot w n k l i) s.out
  slot_kept n k l i b =
      let apart = stacked_apart h.stacked in
      let few = stacked_few h.stacked in
      let out = h.stacked.out in
      kept_put w s.out (last_word - n) (slot_word k l i) (omega arith) (omega arith)

  -- its bounds follow
  pub named_bounds : member_at w c ≡ false → Named ts s x w (put_slot w m.depth (class_number Bound) m.level j) m c (pushed_of m c bound_level)
  named_bounds other =
      let test = member-here m.level h.operator h.stacked.ready (eqb (number_at w c) (tokenNumber Name)) refl ∙ other in
      record {
        kept = slot_kept m.depth (class_number Bound) m.level j (omega arith);
        state =
            pushed h.frames Bound m.level j h.operator c m.depth bound_level (record { slots = λ l t. refl; trees = λ l t. refl; credit = refl; class = lit< tt }) h.marked h.firm h.keeps
            h.token-fits h.level_fits (lit< tt) (lit< tt) h.stacked
            (h.same ∙ ap (plug h.frames) (folds_bounds m.level h.operator us test));
        light = omega arith;
      }

  -- its set follows
  module _ (yes-member : member_at w c ≡ true) where
    is_name : number_at w c ≡ tokenNumber Name
    is_name = eqb-true (number_at w c) (tokenNumber Name) (and_left (eqb (number_at w c) (tokenNumber Name)) (among_at (number_at w (next_of c))) yes-member)

    pub member-inside : c.at < c.count
    member-inside = let e = is_name in before-end w c (omega arith)

    pub member-second : c.at + 1 < c.count
    member-second = before-end w (next_of c) (among-some (number_at w (next_of c)) (and_right (eqb (number_at w c) (tokenNumber Name)) (among_at (number_at w (next_of c))) yes-member))
      where
        among-some : (k : ℕ) → among_at k ≡ true → 0 < k
        among-some k e = go k refl
          where
            go : (i : ℕ) → k ≡ i → 0 < k
            go zero z = absurd (false≢true (ap among_at (sym z) ∙ e))
            go (suc i) z = omega arith

    abbrev setFrame : Frame
    setFrame = record { class = Member; level = m.level; token = h.operator; first = Empty; second = Empty; name = front us; low = h.operator; high = h.operator }

    pub named-member : Named ts s x w (put_slot (put_slot w m.depth (class_number Over) m.level j) (m.depth + 1) (class_number Member) 0 c.at) m c
        (record { c = next_of (next_of c); depth = m.depth + 1 + 1; level = loosest; complete = false })
    unfolding plug
    named-member =
        let i = member-inside in
        let k = member-second in
        let total = h.stacked.ready.tells.total in
        let few = h.stacked.ready.fits.few in
        let after = stacked_next (stacked_next h.stacked i) k in
        let over = stacked_push after (slot (class_number Over) m.level h.operator []) j (h.keeps, tt) h.token-fits (lit< tt) h.level_fits in
        let both = stacked_push over (slot (class_number Member) 0 (front us) []) c.at ((refl, omega arith), tt) (omega arith) (lit< tt) (lit< tt) in
        let test = member-here m.level h.operator h.stacked.ready (eqb (number_at w c) (tokenNumber Name)) refl ∙ yes-member in
        let v = put_slot w m.depth (class_number Over) m.level j in
        let apart = stacked_apart h.stacked in
        let out = h.stacked.out in
        record {
          kept =
              kept_then (omega arith) (slot_kept m.depth (class_number Over) m.level j (omega arith))
              (kept_put v s.out (last_word - (m.depth + 1)) (slot_word (class_number Member) 0 c.at) (omega (arith, stacked_few h.stacked)) (omega arith));
          state =
              record {
                frames = setFrame ∷ h.frames;
                tree = Empty;
                mode = refl;
                good = lit< tt;
                level_fits = lit< tt;
                firm = ((tt, h.marked), h.firm);
                stacked = stacked_less both (0 + credits h.frames) (omega arith);
                same =
                    h.same
                    ∙ ap (plug h.frames)
                    (folds-member m.level h.operator us test ∙ ap (λ vs. reads loosest vs >>= λ (y, zs). resume setFrame y zs) (sym (drop-two c.at ts)));
              };
          light = omega arith;
        }

-- what was expected stands there, or not
pub expected-parsed : (w : List ℕ) (c d : Cursor) (k : ℕ) → expected w c k ≡ Ok d → (number_at w c ≡ k) × (d ≡ next_of c)
expected-parsed w c d k e = go (eqb (number_at w c) k) refl e
  where
    go : (b : Bool) → eqb (number_at w c) k ≡ b → ◌≡◌ {A = Parse} (elim b [ true ↦ Ok (next_of c) | false ↦ refused_at w c ]) (Ok d) → (number_at w c ≡ k) × (d ≡ next_of c)
    go true z f = let same : next_of c ≡ d = cc in (eqb-true (number_at w c) k z, sym same)
    go false z f = let n : ◌≡◌ {A = ℕ} 0 1 = cc in absurd (omega arith)

pub expected-refused : (w : List ℕ) (c : Cursor) (k n p : ℕ) → expected w c k ≡ Err (refusal n p) → (number_at w c ≡ k → ⊥) × (◌≡◌ {A = Parse} (Err (refusal n p)) (refused_at w c))
expected-refused w c k n p e = go (eqb (number_at w c) k) refl e
  where
    go : (b : Bool) → eqb (number_at w c) k ≡ b → ◌≡◌ {A = Parse} (elim b [ true ↦ Ok (next_of c) | false ↦ refused_at w c ]) (Err (refusal n p)) → (number_at w c ≡ k → ⊥) × (◌≡◌ {A = Parse} (Err (refusal n p)) (refused_at w c))
    go true z f = let o : ◌≡◌ {A = ℕ} 0 1 = cc in absurd (omega arith)
    go false z f = (eqb-false (number_at w c) k z, sym f)

-- a big operator
module _ {ts : Tokens} {s : Cursor} {x : Read Expr} {w : List ℕ} {m : Machine} (h : State false ts s x w m)
    (folding : role_field (prefix_at (number_at w m.c)) ≡ folding_role) (fits : level_field (prefix_at (number_at w m.c)) ≤ m.level) where
  abbrev row : ℕ
  row = prefix_at (number_at w m.c)

  some_row : row ≡ 0 → ⊥
  some_row e = omega arith

  pub fold_inside : m.c.at < m.c.count
  fold_inside = inside h (not_end h row refl some_row)

  pub fold_fits : Fits w (next_of m.c)
  fold_fits = let f = h.stacked.ready.fits in record { room = f.room; few = f.few; short = f.short; inside = omega (arith, fold_inside) }

  folded : (o : Role) → role_number o ≡ folding_role → (b : Big) × (o ≡ Folds b)
  folded (Plain q) z = absurd (omega arith)
  folded Counted z = absurd (omega arith)
  folded (Windowed q) z = absurd (omega arith)
  folded (Folds q) z = (q, refl)

  kind_role : (b : Big) × (role_at (here h) ≡ Folds b)
  kind_role = folded (role_at (here h)) (sym (found h row refl some_row).role ∙ folding)

  reads_fold : reads m.level (drop m.c.at ts) ≡ (expect "[" (rest (drop m.c.at ts)) >>= λ (c, vs). folds m.level (here h) vs)
  reads_fold =
      let f = found h row refl some_row in
      let o = kind_role in
      starts_fold m.level (drop m.c.at ts) f.row f.here (tight h row refl some_row fits) o.0 o.1 (ne_eqb m.level 0 (λ e. let l = h.good in omega arith))

  pub turn_unopened : (number_at w (next_of m.c) ≡ fixed "[" → ⊥) → Turned ts s x w w m (Ended (refused_at w (next_of m.c)))
  unfolding ◌>>=◌
  turn_unopened f =
      refuses-at h (next_of m.c) (ready-next h.stacked.ready fold_inside)
      (reads_fold ∙ ap (λ (r : Read Token). r >>= λ (c, vs). folds m.level (here h) vs)
      (leave (next "[" (rest (drop m.c.at ts))) (Done (front (rest (drop m.c.at ts)), rest (rest (drop m.c.at ts)))) (stop (rest (drop m.c.at ts)))
      (next-sign h fold_inside "[" refl ∙ ne_eqb (number_at w (next_of m.c)) _ f))
      ∙ ap stop (sym (drop-next m.c.at ts)))

  module _ (bracket : number_at w (next_of m.c) ≡ fixed "[") where
    second : m.c.at + 1 < m.c.count
    second = before-end w (next_of m.c) (omega arith)

    pub fold-names : Folding ts s x w m (next_of (next_of m.c)) m.c.at
    fold-names =
        record {
          frames = h.frames;
          operator = here h;
          firm = h.firm;
          marked = (λ z. some_row (ap prefix_at (ready-number h.stacked.ready) ∙ z), ap sole_kind kind_role.1 ∙ ap (λ o. Kind.big (big_of o)) (sym kind_role.1));
          keeps = keeps_here h fold_inside;
          token-fits = omega (arith, fold_inside, h.stacked.ready.fits.few);
          level_fits = h.level_fits;
          stacked = stacked_less (stacked_next (stacked_next h.stacked fold_inside) second) (suc (credits h.frames)) (omega arith);
          same =
              h.same
              ∙ ap (plug h.frames)
              (reads_fold ∙ ap (λ (r : Read Token). r >>= λ (c, vs). folds m.level (here h) vs)
              (pick (next "[" (rest (drop m.c.at ts))) (Done (front (rest (drop m.c.at ts)), rest (rest (drop m.c.at ts)))) (stop (rest (drop m.c.at ts)))
              (next-sign h fold_inside "[" refl ∙ eq-eqb (number_at w (next_of m.c)) _ bracket))
              ∙ bind_at (front (rest (drop m.c.at ts)), rest (rest (drop m.c.at ts))) _ ∙ ap (folds m.level (here h)) (sym (drop-two m.c.at ts)));
        }

    pub turn-fold : {v : List ℕ} {n : Machine} → Named ts s x w v m (next_of (next_of m.c)) n → Turned ts s x w v m (Next n)
    turn-fold {v} {n} g =
        record {
          kept = g.kept;
          after = record { state = subst (λ b. State b ts s x v n) (sym g.state.mode) g.state; lighter = omega (arith, g.light, second) };
        }
