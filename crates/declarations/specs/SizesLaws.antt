-- The widths of inputs, then of outputs.
use Rattle.std.specs.Prelude.{ℕ, suc, ◌+◌, ◌≤◌, Bool, List, [], ◌∷◌, ◌≡◌, refl, Ok, Err}
use Rattle.std.proofs.Math.Bool.{true, false}
use Rattle.std.proofs.Common.{sym, ap, ◌∙◌, subst, arith}
use Rattle.std.proofs.Math.ListN.{length}
use Rattle.node.specs.Result.{Done, ◌>>=◌}
use Rattle.node.proofs.ResultLaws.{bind_to, bind_refused}
use Rattle.node.specs.Returned.{Returned}
use Rattle.node.specs.declared.Refusal.{Refusal}
use Rattle.declarations.specs.declared.turns.Sized.{Sized}
use Rattle.language.specs.Limits.{max_names}
use Rattle.language.specs.Tree.{Definition, Declaration, Spec}
use Rattle.language.specs.DeclaredNames.{Table, Port, as_declared, Turns, turns, inputs, outputs}
use Rattle.language.proofs.Laws.Basics.Results.{done, bind, bind_any, value_of, Within}
use Rattle.memory_notes.specs.ShortTableLaws.{short_turns}
use Rattle.declarations.specs.Expressions.{Room}
use Rattle.declarations.specs.Turns.{WidthsFrom, Declared, TurnsGiven, TurnsTold, Before, StayBefore}
use Rattle.declarations.specs.Sizes.{Sizings, SizesGiven, sized_all, SizesTold}

widths_kept : (old new : List ℕ) (n j : ℕ) (ps : List Port) → j + length ps ≤ n → Before n old new → WidthsFrom old j ps → WidthsFrom new j ps
widths_kept old new n j [] l b h = tt
widths_kept old new n j (p ∷ ps) l b h = ((b j (omega arith) ∙ h.0.0, h.0.1), widths_kept old new n (suc j) ps (omega arith) b h.1)

turns-length : (defs : List Definition) (output : Bool) (ds : List Declaration) (d : Table) (s : Turns) → turns defs output ds d ≡ Done s → length ds ≡ length s.ports
turns-length defs output ds d s e = value_of e (within ds d)
  where
    within : (ds : List Declaration) (d : Table) → Within (λ s. length ds ≡ length s.ports) (turns defs output ds d)
    within [] d = done refl
    within (m ∷ ds) d = bind_any _ _ (λ p. bind _ _ (within ds ((p.name.text, as_declared p.width) ∷ d)) (λ s h. done (ap suc h)))

module _ {text w refs found : List ℕ} {entries names : ℕ} {places enumerations : List ℕ} {ins count : ℕ} {sorts numbers : List ℕ} {x : Spec} {d : Table}
    (h : Sizings text w refs found entries names places enumerations ins count sorts numbers x d) where
  ins_declared : Declared text w refs found entries names places enumerations 0 ins sorts numbers x (inputs x.main) d
  ins_declared = record { tree = h.tree; regular = h.regular; placed = h.ins_placed; total = (let t = h.ins_total in omega arith); short = h.short; notes = h.notes }

  -- the inputs' turns
  module _ {v : Returned Sized} (f : (ds : List Declaration) (d : Table) → Declared text w refs found entries names places enumerations 0 ins sorts numbers x ds d
      → TurnsTold text w x false ds d 0 v) where
    told : TurnsTold text w x false (inputs x.main) d 0 v
    told = f (inputs x.main) d ins_declared

    pub sizes-stopped : {r : Returned Sized} {u : Refusal} → v ≡ Err u → r ≡ Err u → SizesTold text w x d ins r
    sizes-stopped {r} {u} q z =
        let g : TurnsTold text w x false (inputs x.main) d 0 (Err u) = subst (TurnsTold text w x false (inputs x.main) d 0) q told in
        subst (SizesTold text w x d ins) (sym z)
        (record {
          told = bind_refused (turns x.definitions false (inputs x.main) d) u.number u.place
              (λ i. turns x.definitions true (outputs x.main) i.table >>= λ o. Done (record { table = o.table; inputs = i.ports; outputs = o.ports })) g.told;
        })

    -- behind them
    module _ {a : Sized} (q : v ≡ Ok a) where
      pub first : TurnsTold text w x false (inputs x.main) d 0 (Ok a)
      first = subst (TurnsTold text w x false (inputs x.main) d 0) q told

      unfoldable pub after_inputs : Turns
      after_inputs = first.told.0

      pub outs-declared : Declared text w refs found entries names places enumerations ins count a.names.sorts a.names.numbers x (outputs x.main) after_inputs.table
      unfolding after_inputs
      outs-declared = record {
        tree = h.tree;
        regular = h.regular;
        placed = h.outs_placed;
        total = h.outs_total;
        short = value_of first.told.1 (short_turns x.definitions false (inputs x.main) d h.short);
        notes = first.told.2;
      }

      unrolled : sized_all x d ≡ (turns x.definitions true (outputs x.main) after_inputs.table >>= λ o. Done (record { table = o.table; inputs = after_inputs.ports; outputs = o.ports }))
      unfolding after_inputs
      unrolled = bind_to (turns x.definitions false (inputs x.main) d) first.told.0
          (λ i. turns x.definitions true (outputs x.main) i.table >>= λ o. Done (record { table = o.table; inputs = i.ports; outputs = o.ports })) first.told.1

      sized-outputs : (r : Returned Sized) → StayBefore ins a.widths r → TurnsTold text w x true (outputs x.main) after_inputs.table ins r → SizesTold text w x d ins r
      unfolding after_inputs
      sized-outputs (Ok c) b g =
          let o = g.told.0 in
          let k = portsLength in
          record {
            told = (
              record { table = o.table; inputs = after_inputs.ports; outputs = o.ports },
              unrolled ∙ bind_to (turns x.definitions true (outputs x.main) after_inputs.table) o (λ o. Done (record { table = o.table; inputs = after_inputs.ports; outputs = o.ports }))
                  g.told.1,
              g.told.2,
              widths_kept a.widths c.widths ins 0 after_inputs.ports (let t = h.ins_total in omega arith) (b c refl) first.told.3,
              g.told.3,
            );
          }
        where
          portsLength : length (inputs x.main) ≡ length first.told.0.ports
          portsLength = turns-length x.definitions false (inputs x.main) d first.told.0 first.told.1
      sized-outputs (Err u) b g =
          record {
            told = unrolled ∙ bind_refused (turns x.definitions true (outputs x.main) after_inputs.table) u.number u.place
                (λ o. Done (record { table = o.table; inputs = after_inputs.ports; outputs = o.ports })) g.told;
          }

      pub sizes-told : {r : Returned Sized} → StayBefore ins a.widths r
          → ((ds : List Declaration) (d : Table) → Declared text w refs found entries names places enumerations ins count a.names.sorts a.names.numbers x ds d
          → TurnsTold text w x true ds d ins r) → SizesTold text w x d ins r
      sizes-told {r} b g = sized-outputs r b (g (outputs x.main) after_inputs.table outs-declared)

-- what the turns of each heading ask for
module _ {text w refs places enumerations : List ℕ} {ins count : ℕ} {sorts numbers mem table : List ℕ} {entries : ℕ}
    (g : SizesGiven text w refs places enumerations ins count sorts numbers mem table entries) where
  pub ins_given : (widths : List ℕ) → length widths ≡ max_names → TurnsGiven text w refs places enumerations 0 ins sorts numbers widths mem table entries
  ins_given widths c =
      let t = g.sizings.outs_total in
      let few = g.few in
      record {
        found = g.found;
        names = g.names;
        x = g.x;
        ds = inputs g.x.main;
        d = g.d;
        declared = ins_declared g.sizings;
        room = g.room;
        few = omega arith;
        widths_full = c;
      }

  pub outs_given : {sorts' numbers' widths' mem' table' : List ℕ} {t : Table}
      → Declared text w refs g.found entries g.names places enumerations ins count sorts' numbers' g.x (outputs g.x.main) t → Room refs sorts' numbers' mem' table' entries
      → length widths' ≡ max_names → TurnsGiven text w refs places enumerations ins count sorts' numbers' widths' mem' table' entries
  outs_given {t = t} h room c =
      record { found = g.found; names = g.names; x = g.x; ds = outputs g.x.main; d = t; declared = h; room = room; few = g.few; widths_full = c }
