-- The walk entry by entry: a heading, a line, any other entry.
use Rattle.std.specs.Prelude.{ℕ, suc, ◌+◌, ◌-◌, ◌≤◌, ◌<◌, ◌≡◌, length, Ok, Err}
use mathlib.Core.List.{List, [], ◌∷◌, ◌++◌, append_assoc, append-nil}
use Rattle.std.proofs.Math.Path.{refl, ap}
use Rattle.std.proofs.Common.{sym, ◌∙◌, subst, arith, add-one}
use Rattle.std.proofs.lemmas.List.{length-map}
use Rattle.node.specs.Limits.{max_nodes}
use Rattle.node.specs.Ltl.{Formula}
use Rattle.node.specs.Result.{Result, Done, Refused, ◌>>=◌}
use Rattle.node.proofs.ResultLaws.{not_done, bind_value}
use Rattle.node.specs.Returned.{Returned}
use Rattle.node.specs.declared.Refusal.{Refusal}
use Rattle.language.specs.Tokens.{Token, tokens}
use Rattle.language.specs.Tree.{Expr, Part, Spec}
use Rattle.language.specs.DeclaredNames.{Declarations}
use Rattle.language.specs.Expansion.{expansion}
use Rattle.entries.specs.Kinds as Kind
use Rattle.entries.specs.Flat.{Entry}
use Rattle.entries.specs.Stored.{EntryAt, EntriesFrom}
use Rattle.traversal.specs.Cells.{Sees, cell_at, OfToken}
use Rattle.traversal.specs.CellLaws.{entry_seen}
use Rattle.traversal.specs.declared.Cell.{Cell}
use Rattle.name_values.proofs.WorkedLaws.{tree_worked}
use Rattle.operands.specs.Working.{Source}
use Rattle.assembly.specs.declared.implied.Ends.{Ends}
use Rattle.lines.specs.Items.{Item, Passed, Heads, Line, items, entry_of, Headed, worked}
use Rattle.lines.specs.ItemLaws.{items-entries, items_headed}
use Rattle.lines.specs.PassedLaws.{items_other}
use Rattle.lines.specs.KnownLinesLaws.{lines-known}
use Rattle.assembly.specs.Gathered.{GatheredFrom}
use Rattle.assembly.specs.GatheredLaws.{gathered_none}
use Rattle.lines.specs.Gathering.{line_context, Tree, Buffers, Sizes, Lengths, AtLine, SomeLine, Formulas, ends_at, WritesLine, SomeTree, WritesLines, Ahead, Progress, Walking}
use Rattle.lines.specs.declared.Place.{Place}

-- a line's formula behind those before it, or a refusal in place of all
module _ (p : Part) (ls : List (Part × Formula)) where
  line-behind : (r : Result Formula) (w : Result (List (Part × Formula))) {all : List (Part × Formula)} → (r >>= λ f. Done (ls ++ ((p, f) ∷ []))) ≡ Done all
      → ((r >>= λ f. w >>= λ fs. Done ((p, f) ∷ fs)) >>= λ gs. Done (ls ++ gs)) ≡ (w >>= λ gs. Done (all ++ gs))
  unfolding ◌>>=◌
  line-behind (Refused n q) w e = absurd (not_done e)
  line-behind (Done f) (Refused n q) e = refl
  line-behind (Done f) (Done gs) {all} e = let z : ls ++ ((p, f) ∷ []) ≡ all = cc in ap Done (sym (append_assoc ls ((p, f) ∷ []) gs) ∙ ap (λ (l : List (Part × Formula)). l ++ gs) z)

  line-refuses : (r : Result Formula) (w : Result (List (Part × Formula))) {n q : ℕ} → (r >>= λ f. Done (ls ++ ((p, f) ∷ []))) ≡ Refused n q
      → ((r >>= λ f. w >>= λ fs. Done ((p, f) ∷ fs)) >>= λ gs. Done (ls ++ gs)) ≡ Refused n q
  unfolding ◌>>=◌
  line-refuses (Refused n q) w e = cc
  line-refuses (Done f) w e = absurd (not_done (sym e))

all-behind : {A : Type 0} (ls : List A) → (Done [] >>= λ (gs : List A). Done (ls ++ gs)) ≡ Done ls
unfolding ◌>>=◌
all-behind ls = ap Done (append-nil ls)

entry_sees : {w : List ℕ} {ts : List Token} {i : ℕ} {e : Entry} {c : Cell} → c ≡ cell_at w i → EntryAt w ts i e → Sees (OfToken (λ n t. Unit {0}) tt) c e
entry_sees {w} {ts} {i} {e} h a = subst (λ c. Sees (OfToken (λ n t. Unit {0}) tt) c e) (sym h) (entry_seen (λ n t. Unit {0}) w ts (λ j l. tt) i e a)

abbrev place : ℕ → ℕ → ℕ → Place
place entries heading k = record { entries = entries; heading = heading; k = k }

module _ {s : Source} {entries : ℕ} {x : Spec} {d : Declarations} {tree : Tree s entries x d} {b : Buffers} {e : Ends} {part i start : ℕ} {c : Cell} (here : c ≡ cell_at s.work i)
    (inside : i < entries) (g : Progress tree b e part i start) where
  progress_heading : {number : ℕ} → c.kind ≡ Kind.heading → number ≡ c.size → Progress tree b e number (suc i) start
  progress_heading {number} k l = go g.rest g.ahead
    where
      go : (rest : List Item) → Ahead s entries part i x d g.ls rest → Progress tree b e number (suc i) start
      go [] a = absurd (omega (arith, a.total))
      go (Passed y ∷ is) a = absurd (omega (arith, (entry_sees here a.there.0).kind, a.other.0))
      go (Line p f ∷ is) a = absurd (omega (arith, (entry_sees here a.there.0).kind))
      go (Heads n ∷ is) a = record {
        ls = g.ls;
        reached = g.reached;
        rest = is;
        ahead = record {
          split = a.split;
          there = a.there.1;
          total = omega (arith, a.total);
          other = a.other.1;
          known = a.known;
          headed = subst (λ m. Headed m is) (sym (l ∙ (entry_sees here a.there.0).size)) a.headed;
        };
        begun = λ l. omega arith;
      }

  progress_passed : (c.kind ≡ Kind.heading → ⊥) → (c.kind ≡ Kind.line → ⊥) → Progress tree b e part (suc i) start
  progress_passed k l = go g.rest g.ahead
    where
      go : (rest : List Item) → Ahead s entries part i x d g.ls rest → Progress tree b e part (suc i) start
      go [] a = absurd (omega (arith, a.total))
      go (Heads n ∷ is) a = absurd (k (entry_sees here a.there.0).kind)
      go (Line p f ∷ is) a = absurd (l (entry_sees here a.there.0).kind)
      go (Passed y ∷ is) a = record {
        ls = g.ls;
        reached = g.reached;
        rest = is;
        ahead = record { split = a.split; there = a.there.1; total = omega (arith, a.total); other = a.other.1; known = a.known; headed = a.headed };
        begun = λ l. omega arith;
      }

  -- a line
  record NextLine : Type 0 where
    p : Part
    f : Expr
    is : List Item
    ahead : Ahead s entries part i x d g.ls (Line p f ∷ is)

  next-line : c.kind ≡ Kind.line → NextLine
  next-line k = go g.rest g.ahead
    where
      go : (rest : List Item) → Ahead s entries part i x d g.ls rest → NextLine
      go [] a = absurd (omega (arith, a.total))
      go (Passed y ∷ is) a = absurd (omega (arith, (entry_sees here a.there.0).kind, a.other.0))
      go (Heads n ∷ is) a = absurd (omega (arith, (entry_sees here a.there.0).kind))
      go (Line p f ∷ is) a = record { p = p; f = f; is = is; ahead = a }

  abbrev at-line : (n : NextLine) → AtLine s b (place entries part (i - 1)) e start x d g.ls n.p n.f
  at-line n = record { tree = tree; reached = g.reached; known = n.ahead.known.0; inside = omega arith; heads = n.ahead.headed.0 }

  line-begun : NextLine → 0 < i
  line-begun n = let h = n.ahead.headed.0 in g.begun (omega arith)

  module _ (n : NextLine) {b' : Buffers} where
    progress-line : {next : Ends} → WritesLine s b b' (place entries part (i - 1)) e (Ok next) → Progress tree b' next part (suc i) start
    progress-line w =
        let r = (w.says (at-line n)).says in
        let a = n.ahead in
        record {
          ls = r.all;
          reached = r.told;
          rest = n.is;
          ahead = record {
            split = a.split ∙ line-behind n.p g.ls (expansion (line_context x d) n.f) (worked (line_context x d) n.is) r.are;
            there = a.there.1;
            total = omega (arith, a.total);
            other = a.other.1;
            known = a.known.1;
            headed = a.headed.1;
          };
          begun = λ l. omega arith;
        }

    progress-refused : {f : Refusal} → WritesLine s b b' (place entries part (i - 1)) e (Err f) → worked (line_context x d) (items x) ≡ Refused f.number f.place
    progress-refused w = n.ahead.split ∙ line-refuses n.p g.ls (expansion (line_context x d) n.f) (worked (line_context x d) n.is) (w.says (at-line n)).says

-- the buffers' sizes stay
pub lengths_same : (b : Buffers) → Lengths b b
lengths_same b = record { memory = refl; slots = refl; words = refl }

pub lengths_then : {b₀ b b' : Buffers} → Lengths b₀ b → Lengths b b' → Lengths b₀ b'
lengths_then l m = record { memory = m.memory ∙ l.memory; slots = m.slots ∙ l.slots; words = m.words ∙ l.words }

pub sizes_stay : {s : Source} {b₀ b : Buffers} {entries : ℕ} → Sizes s b₀.memory b₀.words entries → Lengths b₀ b → Sizes s b.memory b.words entries
sizes_stay z l = record {
  work = z.work;
  refs = z.refs;
  room = omega (arith, z.room, l.memory, l.slots);
  most = omega (arith, z.most, l.memory);
  lines = omega (arith, z.lines, l.words);
}

-- for whatever tree the entries are
module _ {s : Source} {b₀ : Buffers} {entries start : ℕ} where
  pub walking_starts : length b₀.table ≡ max_nodes → Walking s b₀ b₀ (ends_at start 0) entries start 0 0
  walking_starts sized = record {
    progress = λ {x} {d} h.
        let t = h.tree in
        record {
          ls = [];
          reached = record { few = h.few; noted = h.noted; lasting = h.lasting; gathered = gathered_none start b₀.words (λ l. (h.starts l, sized)) };
          rest = items x;
          ahead = record {
            split = sym (bind_value (worked (line_context x d) (items x)));
            there = subst (EntriesFrom s.work (tokens s.text) 0) (sym (items-entries x)) t.stored.stored;
            total = omega (arith, length-map (items x) entry_of, ap length (items-entries x), t.stored.total);
            other = items_other x;
            known = lines-known x s.text s.work s.refs (tree_worked t.stored t.resolved);
            headed = items_headed x 0;
          };
          begun = λ l. l;
        };
  }

  module _ {b : Buffers} {e : Ends} {part i : ℕ} (w : Walking s b₀ b e entries start part i) where
    pub walking-all : entries ≤ i → WritesLines s b₀ b entries start (Ok e)
    walking-all l = record { says = λ {x} {d} h. record { says = let g = w.progress h in end x d g.ls g.reached.gathered g.rest g.ahead } }
      where
        end : (x : Spec) (d : Declarations) (ls : List (Part × Formula)) → GatheredFrom start ls b.words e.count b.table e.at → (rest : List Item) → Ahead s entries part i x d ls rest
            → Formulas (λ all. GatheredFrom start all b.words e.count b.table e.at) (worked (line_context x d) (items x))
        end x d ls g [] a = record { all = ls; are = a.split ∙ all-behind ls; told = g }
        end x d ls g (y ∷ is) a = absurd (omega (arith, a.total))

    module _ {c : Cell} (here : c ≡ cell_at s.work i) (inside : i < entries) where
      pub walking-heading : {number : ℕ} → c.kind ≡ Kind.heading → number ≡ c.size → Walking s b₀ b e entries start number (i + 1)
      walking-heading k l = rw add-one (record { progress = λ h. progress_heading here inside (w.progress h) k l })

      pub walking-passed : (c.kind ≡ Kind.heading → ⊥) → (c.kind ≡ Kind.line → ⊥) → Walking s b₀ b e entries start part (i + 1)
      walking-passed k l = rw add-one (record { progress = λ h. progress_passed here inside (w.progress h) k l })

      -- a line
      module _ (k : c.kind ≡ Kind.line) where
        pub some-line : SomeTree s b₀ entries start → SomeLine s b (place entries part (i - 1)) e
        some-line t =
            let g = w.progress t.begins in
            let n = next-line here inside g k in
            record { start = start; x = t.x; d = t.d; ls = g.ls; p = n.p; e = n.f; at = at-line here inside g n }

        pub some-begun : SomeTree s b₀ entries start → 0 < i
        some-begun t = let g = w.progress t.begins in line-begun here inside g (next-line here inside g k)

        module _ {b' : Buffers} {r : Returned Ends} (f : WritesLine s b b' (place entries part (i - 1)) e r) where
          answer-is : {a : Returned Ends} → r ≡ a → WritesLine s b b' (place entries part (i - 1)) e a
          answer-is q = subst (WritesLine s b b' (place entries part (i - 1)) e) q f

          pub walking_line : {next : Ends} → r ≡ Ok next → Walking s b₀ b' next entries start part (i + 1)
          walking_line q = rw add-one (record { progress = λ h. let g = w.progress h in progress-line here inside g (next-line here inside g k) (answer-is q) })

          pub walking-refused : {g : Returned Ends} {f : Refusal} → r ≡ Err f → g ≡ Err f → WritesLines s b₀ b' entries start g
          walking-refused z y =
              subst (WritesLines s b₀ b' entries start) (sym y)
              (record { says = λ h. record { says = let g = w.progress h in progress-refused here inside g (next-line here inside g k) (answer-is z) } })
