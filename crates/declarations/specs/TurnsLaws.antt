-- Signals and buses at their turns, one after the other.
use Rattle.std.specs.Prelude.{ℕ, suc, ◌+◌, ◌≤◌, ◌<◌, Bool, ◌≡◌, refl, get_or, set, Ok, Err}
use mathlib.Core.List.{List, [], ◌∷◌, ◌++◌, append_assoc, append-nil}
use Rattle.std.proofs.Common.{sym, ap, ◌∙◌, add-one, arith, length-append, get_or-set_same, get_or-set_other}
use Rattle.std.proofs.Math.Path.{subst}
use Rattle.std.proofs.Math.ListN.{length}
use Rattle.node.specs.Result.{Result, Done, Refused, ◌>>=◌}
use Rattle.node.specs.Returned.{Returned}
use Rattle.node.specs.declared.Refusal.{Refusal}
use Rattle.language.specs.Limits.{max_names, max_tokens, max_width}
use Rattle.language.specs.Tokens.{tokens}
use Rattle.language.specs.Tree.{Definition, Declaration, Spec}
use Rattle.language.specs.DeclaredNames.{Table, Port, port_of, as_declared, Turns, turns}
use Rattle.language.specs.Lists.{All}
use Rattle.language.specs.Listed.{declared_name}
use Rattle.language.specs.RegularWords.{RegularDefinition}
use Rattle.names.specs.References.{number_in}
use Rattle.names.specs.Resolved.{declared_names}
use Rattle.name_values.specs.Worked.{world_in}
use Rattle.notes.specs.Notes.{Notes}
use Rattle.notes.specs.NotesLaws.{names_distinct, notes-turn}
use Rattle.memory_notes.specs.ShortTables.{ShortTable}
use Rattle.memory_notes.specs.ShortTableLaws.{short_declared}
use Rattle.declarations.specs.Trees.{Tree}
use Rattle.declarations.specs.TreeLaws.{tree-inside, number_small}
use Rattle.declarations.specs.Expressions.{Room}
use Rattle.declarations.specs.Widths.{port_for, Sizing, Sizable, Sizes, sort_of}
use Rattle.declarations.specs.WidthsLaws.{sized_note}
use Rattle.declarations.specs.Turns.{Placed, PlacedFrom, WidthsFrom, Declared, Before, TurnsTold}

pub before-set : (n i v : ℕ) (old new : List ℕ) → n ≤ i → Before n old new → Before n old (set new i v)
before-set n i v old new l h k m = get_or-set_other new i k v 0 (λ e. omega arith) ∙ h k m

-- what turns that are done hand on
abbrev handed : List Port → Turns → Turns
handed done s = record { table = s.table; ports = done ++ s.ports }

abbrev onward : List Definition → Bool → List Port → List Declaration → Table → Result Turns
onward defs output done ds d = turns defs output ds d >>= λ s. Done (handed done s)

onward_none : (v : Result Turns) → v ≡ (v >>= λ s. Done (handed [] s))
unfolding ◌>>=◌
onward_none (Done s) = refl
onward_none (Refused n p) = refl

onward-refused : (defs : List Definition) (output : Bool) (done : List Port) (m : Declaration) (ds : List Declaration) (d : Table) (n p : ℕ) → port_of defs output d m ≡ Result.Refused n p
    → onward defs output done (m ∷ ds) d ≡ Result.Refused n p
unfolding ◌>>=◌
onward-refused defs output done m ds d n p e =
    ap (λ v. v >>= (λ p. turns defs output ds ((p.name.text, as_declared p.width) ∷ d) >>= λ s. Done (record { table = s.table; ports = p ∷ s.ports })) >>= λ s. Done (handed done s)) e

onward-more : (defs : List Definition) (output : Bool) (done : List Port) (m : Declaration) (ds : List Declaration) (d : Table) (q : Port) → port_of defs output d m ≡ Done q
    → onward defs output done (m ∷ ds) d ≡ onward defs output (done ++ q ∷ []) ds ((q.name.text, as_declared q.width) ∷ d)
unfolding ◌>>=◌
onward-more defs output done m ds d q e =
    ap (λ v. v >>= (λ p. turns defs output ds ((p.name.text, as_declared p.width) ∷ d) >>= λ s. Done (record { table = s.table; ports = p ∷ s.ports })) >>= λ s. Done (handed done s)) e
    ∙ go (turns defs output ds ((q.name.text, as_declared q.width) ∷ d))
  where
    go : (v : Result Turns) → (v >>= (λ s. Done (record { table = s.table; ports = q ∷ s.ports })) >>= λ s. Done (handed done s)) ≡ (v >>= λ s. Done (handed (done ++ q ∷ []) s))
    go (Done s) = ap (λ (l : List Port). Done (record { table = s.table; ports = l })) (sym (append_assoc done (q ∷ []) s.ports))
    go (Refused n p) = refl

-- one more width
widths_kept : (widths : List ℕ) (i v j : ℕ) (ps : List Port) → j + length ps ≤ i → WidthsFrom widths j ps → WidthsFrom (set widths i v) j ps
widths_kept widths i v j [] l h = tt
widths_kept widths i v j (p ∷ ps) l h = ((get_or-set_other widths i j v 0 (λ e. omega arith) ∙ h.0.0, h.0.1), widths_kept widths i v (suc j) ps (omega arith) h.1)

widths_more : (widths : List ℕ) (j : ℕ) (ps : List Port) (q : Port) → WidthsFrom widths j ps → (get_or widths (j + length ps) 0 ≡ q.width) × (q.width ≤ max_width) → WidthsFrom widths j (ps ++ q ∷ [])
widths_more widths j [] q h g = (subst (λ i. (get_or widths i 0 ≡ q.width) × (q.width ≤ max_width)) (omega arith) g, tt)
widths_more widths j (p ∷ ps) q h g = (h.0, widths_more widths (suc j) ps q h.1 (subst (λ i. (get_or widths i 0 ≡ q.width) × (q.width ≤ max_width)) (omega arith) g))

module _ (text w refs found : List ℕ) (entries names : ℕ) (places enumerations : List ℕ) (from to : ℕ) (x : Spec) (output : Bool) (ds : List Declaration) (d : Table) where
  -- the declarations from position j on wait for their turn
  pub record Turning (j : ℕ) (sorts numbers widths : List ℕ) : Type 0 where
    pub tree : Tree text w refs found entries names x
    pub regular : All RegularDefinition x.definitions
    pub done : List Port
    pub left : List Declaration
    pub table : Table
    pub same : turns x.definitions output ds d ≡ onward x.definitions output done left table
    pub placed : PlacedFrom x text w refs places enumerations j left
    pub total : j + length left ≡ to
    pub reached : from + length done ≡ j
    pub short : ShortTable table
    pub notes : Notes (tokens text) w (world_in x [] table) sorts numbers
    pub sized : WidthsFrom widths from done

  pub turning-starts : (sorts numbers widths : List ℕ) → Declared text w refs found entries names places enumerations from to sorts numbers x ds d → Turning from sorts numbers widths
  turning-starts sorts numbers widths h =
      record {
        tree = h.tree;
        regular = h.regular;
        done = [];
        left = ds;
        table = d;
        same = onward_none (turns x.definitions output ds d);
        placed = h.placed;
        total = h.total;
        reached = omega arith;
        short = h.short;
        notes = h.notes;
        sized = tt;
      }

  module _ (j : ℕ) (sorts numbers widths : List ℕ) (inside : j < to) (g : Turning j sorts numbers widths) where
    pub record Next : Type 0 where
      pub own : Declaration
      pub later : List Declaration
      pub is : g.left ≡ own ∷ later
      pub placed : Placed x text w refs own (get_or places j 0) (get_or enumerations j 0)
      pub after : PlacedFrom x text w refs places enumerations (suc j) later

    pub next : Next
    next = go g.left refl g.placed g.total
      where
        go : (l : List Declaration) → g.left ≡ l → PlacedFrom x text w refs places enumerations j l → j + length l ≡ to → Next
        go [] e h t = absurd (omega arith)
        go (m ∷ ms) e h t = record { own = m; later = ms; is = e; placed = h.0; after = h.1 }

    pub next-inside : get_or places j 0 < max_tokens
    next-inside = tree-inside g.tree (get_or places j 0) next.placed.there.own.inside

    next_number_lem : get_or refs (get_or places j 0) 0 ≡ number_in (declared_names x) (declared_name next.own)
    next_number_lem = next.placed.there.own.number

    pub next_small : get_or refs (get_or places j 0) 0 < max_names
    next_small = subst (λ i. i < max_names) (sym next_number_lem) (number_small g.tree (declared_name next.own) next.placed.turnable.shown)

    next-sizing : Sizing text w refs found entries names sorts numbers (get_or places j 0) (get_or enumerations j 0) x g.table next.own
    next-sizing = record { tree = g.tree; regular = g.regular; there = next.placed.there; enumerated = next.placed.enumerated; short = g.short; notes = g.notes }

    sizing-at : (k e : ℕ) → k ≡ get_or places j 0 → e ≡ get_or enumerations j 0 → Sizing text w refs found entries names sorts numbers k e x g.table next.own
    sizing-at k e hk he =
        subst (λ (i : ℕ). Sizing text w refs found entries names sorts numbers i e x g.table next.own) (sym hk)
        (subst (λ (i : ℕ). Sizing text w refs found entries names sorts numbers (get_or places j 0) i x g.table next.own) (sym he) next-sizing)

    pub next-sizable : {mem table : List ℕ} (k e : ℕ) → k ≡ get_or places j 0 → e ≡ get_or enumerations j 0 → Room refs sorts numbers mem table entries
        → Sizable text w refs sorts numbers mem table entries k e
    next-sizable k e hk he r = record { found = found; names = names; x = x; d = g.table; m = next.own; sizing = sizing-at k e hk he; room = r }

    unrolled : turns x.definitions output ds d ≡ onward x.definitions output g.done (next.own ∷ next.later) g.table
    unrolled = g.same ∙ ap (λ l. onward x.definitions output g.done l g.table) next.is

    -- its width, as it is worked out at entry k with the enumeration e
    module _ (k e : ℕ) (hk : k ≡ get_or places j 0) (he : e ≡ get_or enumerations j 0) (v : Returned ℕ)
        (f : (found : List ℕ) (entries names : ℕ) (x : Spec) (d : Table) (m : Declaration) → Sizing text w refs found entries names sorts numbers k e x d m → Sizes x.definitions d m v) where
      told : Sizes x.definitions g.table next.own v
      told = f found entries names x g.table next.own (sizing-at k e hk he)

      pub turning-stopped : (u : Refusal) → v ≡ Err u → TurnsTold text w x output ds d from (Err u)
      turning-stopped u q =
          let h : Sizes x.definitions g.table next.own (Err u) = subst (Sizes x.definitions g.table next.own) q told in
          record { told = unrolled ∙ onward-refused x.definitions output g.done next.own next.later g.table u.number u.place (h.told output) }

      pub turning-more : (n r sort : ℕ) → v ≡ Ok n → r ≡ get_or refs k 0 → sort ≡ sort_of n → max_names ≤ length sorts → max_names ≤ length numbers → j < length widths
          → Turning (j + 1) (set sorts r sort) (set numbers r n) (set widths j n)
      turning-more n r sort q hr hs a b c =
          let h : Sizes x.definitions g.table next.own (Ok n) = subst (Sizes x.definitions g.table next.own) q told in
          let p : Port = port_for x.definitions output next.own n in
          let t = declared_name next.own in
          let z = g.reached in
          let small = number_small g.tree t next.placed.turnable.shown in
          let at : number_in (declared_names x) t ≡ r = sym (hr ∙ ap (λ i. get_or refs i 0) hk ∙ next_number_lem) in
          subst (λ i. Turning i (set sorts r sort) (set numbers r n) (set widths j n)) (sym (add-one j))
          (record {
            tree = g.tree;
            regular = g.regular;
            done = g.done ++ p ∷ [];
            left = next.later;
            table = (t.text, as_declared n) ∷ g.table;
            same = unrolled ∙ onward-more x.definitions output g.done next.own next.later g.table p (h.told.0 output);
            placed = next.after;
            total = (let i = g.total in let l = ap length next.is in omega arith);
            reached = (let l = length-append g.done (p ∷ []) in omega arith);
            short = (short_declared n, g.short);
            notes = subst (λ i. Notes (tokens text) w (world_in x [] ((t.text, as_declared n) ∷ g.table)) (set sorts i sort) (set numbers i n)) at
                (subst (λ s. Notes (tokens text) w (world_in x [] ((t.text, as_declared n) ∷ g.table)) (set sorts (number_in (declared_names x) t) s) (set numbers (number_in (declared_names x) t) n))
                (sym hs)
                (notes-turn x (tokens text) w t (names_distinct x g.tree.resolved.distinct) next.placed.turnable.shown next.placed.turnable.undefined [] g.table (as_declared n) sorts
                numbers (sort_of n) n (omega arith) (omega arith) (sized_note (tokens text) w n h.told.1) g.notes));
            sized = widths_more (set widths j n) from g.done p (widths_kept widths j n from g.done (omega arith) g.sized)
                (subst (λ i. get_or (set widths j n) i 0 ≡ n) (sym z) (get_or-set_same widths j n 0 c), h.told.1);
          })

  pub turning-all : (j : ℕ) (sorts numbers widths : List ℕ) → to ≤ j → Turning j sorts numbers widths
      → TurnsTold text w x output ds d from (Ok (record { names = record { sorts = sorts; numbers = numbers }; widths = widths }))
  unfolding ◌>>=◌
  turning-all j sorts numbers widths l g = record {
    told = (
      record { table = g.table; ports = g.done ++ [] },
      end g.left g.total g.same,
      g.notes,
      subst (WidthsFrom widths from)
          (sym (append-nil g.done)) g.sized,
    );
  }
    where
      end : (left : List Declaration) → j + length left ≡ to → turns x.definitions output ds d ≡ onward x.definitions output g.done left g.table
          → turns x.definitions output ds d ≡ Done (record { table = g.table; ports = g.done ++ [] })
      end [] t e = e
      end (m ∷ ms) t e = absurd (omega arith)
