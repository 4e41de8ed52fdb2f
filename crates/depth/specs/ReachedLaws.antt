-- One entry more: what is found, and what is on the stack.
use Rattle.std.specs.Prelude.{ℕ, ◌+◌, ◌-◌, ◌≤◌, ◌<◌, List, [], ◌∷◌, ◌++◌, ◌≡◌, refl, ltb, drop, set}
use Rattle.std.proofs.Math.Option.{none}
use Rattle.std.proofs.Math.Path.{sym, ap, ap₂}
use Rattle.std.proofs.Common.{◌∙◌, subst, length-take-le, arith, lt-ltb, le-ltb}
use Rattle.std.proofs.Math.ListN.{length, take, length-append}
use Rattle.std.proofs.Math.Seq.{slice}
use Rattle.language.specs.Limits.{work_bytes, max_tokens}
use Rattle.language.specs.Places.{first}
use Rattle.language.proofs.Laws.Basics.Tests.{pick, leave}
use Rattle.lexer.specs.Stored.{offset_in}
use Rattle.traversal.specs.declared.Cell.{Cell}
use Rattle.traversal.specs.Arity.{operands, first_line}
use Rattle.traversal.specs.Cells.{cell_at}
use Rattle.traversal.specs.Places.{Place, placed, place_in}
use Rattle.traversal.specs.PlaceLaws.{place-placed}
use Rattle.traversal.specs.StackLaws.{stack_part, stack-below, stack_push}
use Rattle.traversal.specs.PassedLaws.{passed_none, passed-more}
use Rattle.traversal.specs.declared.Progress.{Progress}
use Rattle.traversal.specs.Starts.{first_of, start_of}
use Rattle.depth.specs.Depth.{Operand, State, highest, level_of, levels_of, starts_of, node, fault_of, fault, stepped, step, state}
use Rattle.depth.specs.Progress.{Agrees, after, Reached}

-- an entry with the cell c, in state s
module _ (s : State) (p : Progress) (ls ss : List ℕ) (c : Cell) (below : ℕ) (a : Agrees s p ls ss) (m : below ≡ p.top - operands p.before c) where
  abbrev xs : List Operand
  xs = drop below s.stack

  moved : step c s ≡ stepped c s below
  unfolding step
  moved = let k : length s.stack - operands s.before c ≡ below = ap₂ (λ n b. n - operands b c) (sym a.count) (sym a.before) ∙ sym m in ap (stepped c s) k

  low : below ≤ p.top
  low = omega arith

  kept : length (take below s.stack) ≡ below
  kept = length-take-le below s.stack (omega (arith, low, a.count))

  pub part-levels : slice below p.top ls ≡ levels_of xs
  part-levels = stack_part (λ (x : Operand). x.level) s.stack ls p.top below a.levels

  pub part-starts : slice below p.top ss ≡ starts_of xs
  part-starts = stack_part (λ (x : Operand). x.start) s.stack ss p.top below a.starts

  abbrev level_here : ℕ
  level_here = first_of (slice below p.top ls)

  abbrev start_here : ℕ
  start_here = first_of (slice below p.top ss)

  -- what was found, with the entry's own fault
  found-more : (f g : Place) → g ≡ placed (fault_of c.kind level_here start_here) → f ≡ placed (first (place_in p.found) (place_in g)) → f ≡ placed (first s.found (fault c xs))
  found-more f g h e =
      e ∙ ap₂ (λ u v. placed (first u v)) (ap place_in a.found ∙ place-placed s.found)
      (ap place_in h ∙ place-placed _ ∙ ap₂ (λ u v. fault_of c.kind (first_of u) (first_of v)) part-levels part-starts)

  pub part-agrees : (f g : Place) (l t : ℕ) → c.kind < first_line → below < length ls → below < length ss
      → l ≡ level_of c.kind (highest (slice below p.top ls)) start_here → t ≡ start_of c.kind (offset_in c.token) start_here
      → g ≡ placed (fault_of c.kind level_here start_here) → f ≡ placed (first (place_in p.found) (place_in g))
      → Agrees (step c s) (record { before = c.kind; top = below + 1; found = f }) (set ls below l) (set ss below t)
  unfolding node
  part-agrees f g l t inner room room' hl ht hg hf =
      let stack : (step c s).stack ≡ take below s.stack ++ (node c xs ∷ []) = ap (λ (r : State). r.stack) moved ∙ pick (ltb c.kind first_line) _ _ (lt-ltb _ _ inner) in
      record {
        before = sym (ap (λ (r : State). r.before) moved);
        count = omega (arith, kept, ap length stack, length-append (take below s.stack) (node c xs ∷ []));
        levels = stack_push (λ (x : Operand). x.level) s.stack ls p.top below a.levels low (node c xs) l room
            (hl ∙ ap₂ (λ u v. level_of c.kind (highest u) (first_of v)) part-levels part-starts) ∙ sym (ap levels_of stack);
        starts = stack_push (λ (x : Operand). x.start) s.stack ss p.top below a.starts low (node c xs) t room'
            (ht ∙ ap (λ v. start_of c.kind (offset_in c.token) (first_of v)) part-starts) ∙ sym (ap starts_of stack);
        found = found-more f g hg hf ∙ sym (ap (λ (r : State). placed r.found) moved);
      }

  pub line-agrees : (f g : Place) → first_line ≤ c.kind
      → g ≡ placed (fault_of c.kind level_here start_here) → f ≡ placed (first (place_in p.found) (place_in g))
      → Agrees (step c s) (record { before = c.kind; top = below; found = f }) ls ss
  line-agrees f g out hg hf =
      let stack : (step c s).stack ≡ take below s.stack = ap (λ (r : State). r.stack) moved ∙ leave (ltb c.kind first_line) _ _ (le-ltb _ _ out) in
      record {
        before = sym (ap (λ (r : State). r.before) moved);
        count = omega (arith, kept, ap length stack);
        levels = stack-below (λ (x : Operand). x.level) s.stack ls p.top below a.levels low ∙ sym (ap levels_of stack);
        starts = stack-below (λ (x : Operand). x.start) s.stack ss p.top below a.starts low ∙ sym (ap starts_of stack);
        found = found-more f g hg hf ∙ sym (ap (λ (r : State). placed r.found) moved);
      }

-- none passed, and one more
pub reached_none : (w ls ss : List ℕ) (p : Progress) → work_bytes ≤ length w → length ls ≡ max_tokens → length ss ≡ max_tokens → p ≡ record { before = 0; top = 0; found = placed none }
    → Reached w 0 p ls ss
reached_none w ls ss p room l r e =
    let s : after w 0 ≡ state 0 [] none = passed_none step (cell_at w) (state 0 [] none) in
    record {
      room = room;
      few = omega (arith, ap (λ (q : Progress). q.top) e);
      levels = l;
      starts = r;
      agrees = subst (λ (t : State). Agrees t p ls ss) (sym s) (subst (λ q. Agrees (state 0 [] none) q ls ss) (sym e)
          (record { before = refl; count = refl; levels = refl; starts = refl; found = refl }));
    }

pub reached-more : (w : List ℕ) (i : ℕ) (p q : Progress) (ls ss ms us : List ℕ) → Reached w i p ls ss → length ms ≡ length ls → length us ≡ length ss → q.top ≤ i + 1
    → Agrees (step (cell_at w i) (after w i)) q ms us → Reached w (i + 1) q ms us
reached-more w i p q ls ss ms us r l t few a =
    record { room = r.room; few = few; levels = l ∙ r.levels; starts = t ∙ r.starts; agrees = subst (λ (s : State). Agrees s q ms us) (sym (passed-more step (cell_at w) (state 0 [] none) i)) a }
