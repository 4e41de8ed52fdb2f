-- Parameters worked out one after the other.
use Rattle.std.specs.Prelude.{ℕ, suc, ◌+◌, ◌-◌, ◌≤◌, ◌<◌, List, [], ◌∷◌, ◌≡◌, refl, length, get_or, set, Ok, Err}
use Rattle.std.proofs.Common.{sym, ap, ◌∙◌, subst, add-one, arith}
use Rattle.node.specs.Result.{Done, ◌>>=◌}
use Rattle.node.proofs.ResultLaws.{bind_to, bind_refused}
use Rattle.node.specs.Returned.{Returned}
use Rattle.node.specs.declared.Refusal.{Refusal}
use Rattle.language.specs.Limits.{max_names, max_tokens}
use Rattle.language.specs.Tokens.{tokens}
use Rattle.language.specs.Tree.{Parameter, Spec}
use Rattle.language.specs.Values.{number, value}
use Rattle.language.specs.DeclaredNames.{Constant, Table, declared, constants}
use Rattle.language.specs.Expansion.{context_of}
use Rattle.names.specs.References.{number_in}
use Rattle.names.specs.Resolved.{declared_names}
use Rattle.sets.specs.Answers.{says}
use Rattle.name_values.specs.Sorts as Sort
use Rattle.name_values.specs.Worked.{world_in}
use Rattle.operands.specs.Working.{TellsNumber}
use Rattle.notes.specs.Notes.{Notes}
use Rattle.notes.specs.NotesLaws.{names_distinct, notes-turn}
use Rattle.notes.specs.Owned.{ParameterAt}
use Rattle.memory_notes.specs.ShortTables.{ShortTable}
use Rattle.declarations.specs.Along.{Along}
use Rattle.declarations.specs.Turnable.{Turnable}
use Rattle.declarations.specs.Trees.{Tree}
use Rattle.declarations.specs.TreeLaws.{tree-realm, tree-expression, tree-inside, tree-before, number_small}
use Rattle.declarations.specs.Expressions.{Room, Expression, Workable, Numbered}
use Rattle.declarations.specs.Constants.{Parameters, ConstantsTold}

module _ (text w refs found : List ℕ) (entries names : ℕ) (order : List ℕ) (count : ℕ) (x : Spec) (d : Table) where
  -- the parameters from position j on are still to be worked out, after the table that those before have made
  pub record Turning (j : ℕ) (sorts numbers : List ℕ) : Type 0 where
    pub tree : Tree text w refs found entries names x
    pub left : List Parameter
    pub table : Table
    pub same : constants x.parameters d ≡ constants left table
    pub places : Along (λ p k. ParameterAt x text w refs p k × Turnable x p.name) order j left
    pub total : j + length left ≡ count
    pub short : ShortTable table
    pub notes : Notes (tokens text) w (world_in x [] table) sorts numbers

  pub turning-starts : (sorts numbers : List ℕ) → Parameters text w refs found entries names order count sorts numbers x d → Turning 0 sorts numbers
  turning-starts sorts numbers h = record { tree = h.tree; left = x.parameters; table = d; same = refl; places = h.places; total = (let t = h.total in omega arith); short = h.short; notes = h.notes }

  module _ (j : ℕ) (sorts numbers : List ℕ) (inside : j < count) (g : Turning j sorts numbers) where
    -- the next parameter
    pub record Next : Type 0 where
      pub own : Parameter
      pub later : List Parameter
      pub is : g.left ≡ own ∷ later
      pub there : ParameterAt x text w refs own (get_or order j 0)
      pub turnable : Turnable x own.name
      pub after : Along (λ p k. ParameterAt x text w refs p k × Turnable x p.name) order (suc j) later

    pub next : Next
    next = go g.left refl g.places g.total
      where
        go : (l : List Parameter) → g.left ≡ l → Along (λ p k. ParameterAt x text w refs p k × Turnable x p.name) order j l → j + length l ≡ count → Next
        go [] e h t = absurd (omega arith)
        go (p ∷ ps) e h t = record { own = p; later = ps; is = e; there = h.0.0; turnable = h.0.1; after = h.1 }

    pub next-inside : get_or order j 0 < max_tokens
    next-inside = tree-inside g.tree (get_or order j 0) next.there.own.inside

    pub next_number_lem : get_or refs (get_or order j 0) 0 ≡ number_in (declared_names x) next.own.name
    next_number_lem = next.there.own.number

    pub next_small : get_or refs (get_or order j 0) 0 < max_names
    next_small = subst (λ i. i < max_names) (sym next_number_lem) (number_small g.tree next.own.name next.turnable.shown)

    pub next-expression : Expression text w refs sorts numbers (get_or order j 0 - 1) (tree-realm g.tree g.table g.short) (context_of [] g.table) next.own.value
    next-expression = tree-expression g.tree [] (get_or order j 0 - 1) next.own.value next.there.worked g.table g.short sorts numbers g.notes

    pub next-workable : {mem table : List ℕ} (k : ℕ) → k ≡ get_or order j 0 - 1 → Room refs sorts numbers mem table entries → Workable text w refs sorts numbers mem table entries k
    next-workable {mem} {table} k q r =
        subst (λ (i : ℕ). Workable text w refs sorts numbers mem table entries i) (sym q) (record {
          R = tree-realm g.tree g.table g.short;
          c = context_of [] g.table;
          e = next.own.value;
          expression = next-expression;
          room = r;
          few = g.tree.stored.few;
          inside = tree-before g.tree (get_or order j 0) next.there.own.inside;
        })

    -- its value
    unrolled : constants x.parameters d ≡ (value (declared g.table) next.own.value >>= number >>= λ n. constants next.later ((next.own.name.text, Constant n) ∷ g.table))
    unrolled = g.same ∙ ap (λ l. constants l g.table) next.is

    abbrev Tells : Returned ℕ → Type 0
    Tells r = TellsNumber r (value (declared g.table) next.own.value)

    -- as it is worked out, at entry k
    pub next-told : {table table' : List ℕ} (k : ℕ) (r : Returned ℕ) → k ≡ get_or order j 0 - 1 → Numbered text w refs sorts numbers table table' k r → Tells r
    next-told k r q f =
        let R = tree-realm g.tree g.table g.short in
        let c = context_of [] g.table in
        f.tells R c next.own.value (subst (λ (i : ℕ). Expression text w refs sorts numbers i R c next.own.value) (sym q) next-expression)

    turning-refused : (f : Refusal) → TellsNumber (Err f) (value (declared g.table) next.own.value) → ConstantsTold text w x d (Err f)
    turning-refused f h = record { told = unrolled ∙ bind_refused (value (declared g.table) next.own.value >>= number) f.number f.place _ (sym h.says) }

    pub turning-stopped : (r : Returned ℕ) (f : Refusal) → r ≡ Err f → Tells r → ConstantsTold text w x d (Err f)
    turning-stopped r f e h = turning-refused f (subst Tells e h)

    pub turning-more : (v : Returned ℕ) (r n : ℕ) → v ≡ Ok n → r ≡ get_or refs (get_or order j 0) 0 → max_names ≤ length sorts → max_names ≤ length numbers → Tells v
        → Turning (j + 1) (set sorts r Sort.number) (set numbers r n)
    turning-more v r n u e a b t =
        let h : Tells (Ok n) = subst Tells u t in
        let q = e ∙ next_number_lem in
        let s = next_small in
        let k = number_small g.tree next.own.name next.turnable.shown in
        subst (λ i. Turning i (set sorts r Sort.number) (set numbers r n)) (sym (add-one j))
        (record {
          tree = g.tree;
          left = next.later;
          table = (next.own.name.text, Constant n) ∷ g.table;
          same = unrolled ∙ bind_to (value (declared g.table) next.own.value >>= number) n _ (sym h.says);
          places = next.after;
          total = (let i = g.total in let l = ap length next.is in omega arith);
          short = (tt, g.short);
          notes = subst (λ i. Notes (tokens text) w (world_in x [] ((next.own.name.text, Constant n) ∷ g.table)) (set sorts i Sort.number) (set numbers i n)) (sym q)
              (notes-turn x (tokens text) w next.own.name (names_distinct x g.tree.resolved.distinct) next.turnable.shown next.turnable.undefined [] g.table (Constant n) sorts
              numbers Sort.number n (omega arith) (omega arith) (refl, (refl, h.small)) g.notes);
        })

  pub turning-all : (j : ℕ) (sorts numbers : List ℕ) → count ≤ j → Turning j sorts numbers → ConstantsTold text w x d (Ok (record { sorts = sorts; numbers = numbers }))
  turning-all j sorts numbers l g = record { told = (g.table, end g.left g.total g.same, g.notes) }
    where
      end : (left : List Parameter) → j + length left ≡ count → constants x.parameters d ≡ constants left g.table → constants x.parameters d ≡ Done g.table
      end [] t e = e
      end (p ∷ ps) t e = absurd (omega arith)
