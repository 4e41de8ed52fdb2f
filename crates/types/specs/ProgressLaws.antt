-- One entry more: from what the parts of the pass answer to the state that it has reached.
use Rattle.std.specs.Prelude.{ℕ, ◌+◌, ◌-◌, ◌≤◌, ◌<◌, ◌≡◌, refl, eqb, ltb, drop, set}
use mathlib.Core.List.{List, [], ◌∷◌, ◌++◌}
use Rattle.std.proofs.Math.Path.{sym, ap, ap₂}
use Rattle.std.proofs.Common.{◌∙◌, subst, length-take-le, arith, lt-ltb, le-ltb, eq-eqb, ne_eqb}
use Rattle.std.proofs.Math.ListN.{length, take, length-append, length-set}
use Rattle.std.proofs.Math.Seq.{slice, set_out}
use Rattle.language.specs.Limits.{max_tokens, max_names}
use Rattle.language.specs.Places.{first}
use Rattle.language.proofs.Laws.Basics.Tests.{split, pick, leave}
use Rattle.entries.specs.Kinds as Kind
use Rattle.traversal.specs.declared.Cell.{Cell}
use Rattle.traversal.specs.Arity.{operands, first_line}
use Rattle.traversal.specs.Places.{Place, placed, place_in}
use Rattle.traversal.specs.PlaceLaws.{place-placed}
use Rattle.traversal.specs.StackLaws.{stack_part, stack-below, stack_push}
use Rattle.traversal.specs.Starts.{start_of, first_of}
use Rattle.traversal.specs.declared.Progress.{Progress}
use Rattle.types.specs.Kinds.{gives_of, indexed, place_of, reference_of, type_at}
use Rattle.types.specs.Pass.{Operand, State, types_of, starts_of, node, wrong_at, fault, table_of, stepped, step}
use Rattle.types.specs.Progress.{Agrees, Sized, Passes}

-- a reference past the table's end stores nothing
module _ (table : List ℕ) (k token v : ℕ) where
  pub table-set : k ≡ Kind.definition → set table (reference_of token) v ≡ table_of table k token v
  unfolding table_of
  table-set e = sym (pick (eqb k Kind.definition) _ _ (eq-eqb _ _ e))

  pub table_out : length table ≡ max_names → max_names ≤ reference_of token → k ≡ Kind.definition → table ≡ table_of table k token v
  table_out l h e = sym (set_out table (reference_of token) v (omega arith)) ∙ table-set e

  pub table_same : (k ≡ Kind.definition → ⊥) → table ≡ table_of table k token v
  unfolding table_of
  table_same h = sym (leave (eqb k Kind.definition) _ _ (ne_eqb _ _ h))

  pub table-length : length (table_of table k token v) ≡ length table
  unfolding table_of
  table-length = split (λ (l : List ℕ). length l ≡ length table) (eqb k Kind.definition) (λ _. length-set table (reference_of token) v) (λ _. refl)

-- an entry with the cell c, in state s
module _ (s : State) (p : Progress) (ks ss table : List ℕ) (c : Cell) (below : ℕ) (a : Agrees s p ks ss table) (m : below ≡ p.top - operands p.before c) where
  abbrev xs : List Operand
  xs = drop below s.stack

  moved : step c s ≡ stepped c s below
  unfolding step
  moved = let k : length s.stack - operands s.before c ≡ below = ap₂ (λ n b. n - operands b c) (sym a.count) (sym a.before) ∙ sym m in ap (stepped c s) k

  low : below ≤ p.top
  low = omega arith

  kept : length (take below s.stack) ≡ below
  kept = length-take-le below s.stack (omega (arith, low, a.count))

  part-types : slice below p.top ks ≡ types_of xs
  part-types = stack_part (λ (x : Operand). x.type) s.stack ks p.top below a.types

  part-starts : slice below p.top ss ≡ starts_of xs
  part-starts = stack_part (λ (x : Operand). x.start) s.stack ss p.top below a.starts

  module _ (f u v r : Place) (t' : List ℕ) (hu : u ≡ placed (indexed c.kind (type_at table (reference_of c.token)) (place_of c.token)))
      (hv : v ≡ placed (wrong_at c.kind (slice below p.top ks) (slice below p.top ss)))
      (hr : r ≡ placed (first (place_in u) (place_in v))) (hf : f ≡ placed (first (place_in p.found) (place_in r))) (ht : t' ≡ table_of table c.kind c.token (first_of (slice below p.top ks)))
    where
      fault-here : place_in r ≡ fault s.table c xs
      fault-here =
          ap place_in hr ∙ place-placed _
          ∙ ap₂ first (ap place_in hu ∙ place-placed _ ∙ ap (λ t. indexed c.kind (type_at t (reference_of c.token)) (place_of c.token)) a.table)
          (ap place_in hv ∙ place-placed _ ∙ ap₂ (wrong_at c.kind) part-types part-starts)

      found_here : f ≡ placed (step c s).found
      found_here = hf ∙ ap₂ (λ x y. placed (first x y)) (ap place_in a.found ∙ place-placed s.found) fault-here ∙ sym (ap (λ (z : State). placed z.found) moved)

      table_here : t' ≡ (step c s).table
      table_here = ht ∙ ap₂ (λ t x. table_of t c.kind c.token (first_of x)) a.table part-types ∙ sym (ap (λ (z : State). z.table) moved)

      pub line-agrees : first_line ≤ c.kind → Agrees (step c s) (record { before = c.kind; top = below; found = f }) ks ss t'
      line-agrees out =
          let stack : (step c s).stack ≡ take below s.stack = ap (λ (z : State). z.stack) moved ∙ leave (ltb c.kind first_line) _ _ (le-ltb _ _ out) in
          record {
            before = sym (ap (λ (z : State). z.before) moved);
            count = omega (arith, kept, ap length stack);
            types = stack-below (λ (x : Operand). x.type) s.stack ks p.top below a.types low ∙ sym (ap types_of stack);
            starts = stack-below (λ (x : Operand). x.start) s.stack ss p.top below a.starts low ∙ sym (ap starts_of stack);
            found = found_here;
            table = table_here;
          }

      pub part-agrees : (k t : ℕ) → c.kind < first_line → below < length ks → below < length ss
          → k ≡ gives_of c.kind (type_at table (reference_of c.token)) (first_of (slice below p.top ks)) → t ≡ start_of c.kind (place_of c.token) (first_of (slice below p.top ss))
          → Agrees (step c s) (record { before = c.kind; top = below + 1; found = f }) (set ks below k) (set ss below t) t'
      unfolding node
      part-agrees k t inner room room' hk hs =
          let stack : (step c s).stack ≡ take below s.stack ++ (node s.table c xs ∷ []) = ap (λ (z : State). z.stack) moved ∙ pick (ltb c.kind first_line) _ _ (lt-ltb _ _ inner) in
          record {
            before = sym (ap (λ (z : State). z.before) moved);
            count = omega (arith, kept, ap length stack, length-append (take below s.stack) (node s.table c xs ∷ []));
            types = stack_push (λ (x : Operand). x.type) s.stack ks p.top below a.types low (node s.table c xs) k room
                (hk ∙ ap₂ (λ t l. gives_of c.kind (type_at t (reference_of c.token)) (first_of l)) a.table part-types) ∙ sym (ap types_of stack);
            starts = stack_push (λ (x : Operand). x.start) s.stack ss p.top below a.starts low (node s.table c xs) t room'
                (hs ∙ ap (λ l. start_of c.kind (place_of c.token) (first_of l)) part-starts) ∙ sym (ap starts_of stack);
            found = found_here;
            table = table_here;
          }

-- what the pass's parts answer at entry i, and what it has passed then
module _ {w : List ℕ} {i : ℕ} {p : Progress} {ks ss ts ts' : List ℕ} (z : Sized w i p ks ss ts) (small : i < max_tokens) {c d : Cell} (hc : c ≡ d) {n below name place operand start : ℕ}
    {f u v r : Place}
    (hn : n ≡ operands p.before c) (hb : below ≡ p.top - n) (hm : name ≡ type_at ts (reference_of c.token)) (hp : place ≡ place_of c.token)
    (ho : operand ≡ first_of (slice below p.top ks)) (hs : start ≡ first_of (slice below p.top ss)) (hu : u ≡ placed (indexed c.kind name place))
    (hv : v ≡ placed (wrong_at c.kind (slice below p.top ks) (slice below p.top ss)))
    (hr : r ≡ placed (first (place_in u) (place_in v))) (hf : f ≡ placed (first (place_in p.found) (place_in r))) (ht : ts' ≡ table_of ts c.kind c.token operand) where
  near : below ≤ i
  near = omega (arith, hb, z.few)

  behind : below ≡ p.top - operands p.before c
  behind = hb ∙ ap (λ k. p.top - k) hn

  index-here : u ≡ placed (indexed c.kind (type_at ts (reference_of c.token)) (place_of c.token))
  index-here = hu ∙ ap₂ (λ x y. placed (indexed c.kind x y)) hm hp

  table-size : length ts' ≡ max_names
  table-size = ap length ht ∙ table-length ts c.kind c.token operand ∙ z.table

  pub passes_line : first_line ≤ c.kind → Passes w i d p (record { before = c.kind; top = below; found = f }) ks ss ts ks ss ts'
  passes_line out =
      record {
        sized = record { room = z.room; few = omega (arith, near); types = z.types; starts = z.starts; table = table-size };
        steps = λ s a. subst (λ b. Agrees (step b s) (record { before = c.kind; top = below; found = f }) ks ss ts') hc
            (line-agrees s p ks ss ts c below a behind f u v r ts' index-here hv hr hf (ht ∙ ap (table_of ts c.kind c.token) ho) out);
      }

  pub passes-part : {k t : ℕ} → c.kind < first_line → k ≡ gives_of c.kind name operand → t ≡ start_of c.kind place start →
      Passes w i d p (record { before = c.kind; top = below + 1; found = f }) ks ss ts (set ks below k) (set ss below t) ts'
  passes-part {k} {t} inner hk hst =
      record {
        sized = record { room = z.room; few = omega (arith, near); types = length-set ks below k ∙ z.types; starts = length-set ss below t ∙ z.starts; table = table-size };
        steps = λ s a. subst (λ b. Agrees (step b s) (record { before = c.kind; top = below + 1; found = f }) (set ks below k) (set ss below t) ts') hc
            (part-agrees s p ks ss ts c below a behind f u v r ts' index-here hv hr hf (ht ∙ ap (table_of ts c.kind c.token) ho) k t inner (omega (arith, near, z.types))
            (omega (arith, near, z.starts))
            (hk ∙ ap₂ (gives_of c.kind) hm ho) (hst ∙ ap₂ (start_of c.kind) hp hs));
      }
