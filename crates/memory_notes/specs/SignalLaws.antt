-- The numbers of names' first signals, by the names' numbers, as the notes have them.
use Rattle.std.specs.Prelude.{ℕ, ◌+◌, ◌≤◌, List, [], ◌∷◌, map, ◌≡◌, eqb, length, get_or}
use Rattle.std.proofs.Math.Option.{none}
use Rattle.std.proofs.Common.{sym, ap, ◌∙◌, subst, arith, eqb-true}
use Rattle.std.proofs.lemmas.List.{length-map}
use Rattle.node.specs.Result.{Result, Done, Refused}
use Rattle.language.specs.Limits.{max_signals}
use Rattle.language.specs.Tokens.{Token}
use Rattle.language.specs.Tree.{Spec}
use Rattle.language.specs.Names.{Names, declared_again}
use Rattle.language.specs.DeclaredNames.{Declared, Constant, Single, BusOf, Identifies, WaitingBus, find, Port, Declarations, declarations}
use Rattle.language.specs.Numbering.{in_order, signals_of, first_of, signal_list, too_many_signals}
use Rattle.language.specs.Expansion.{context_of}
use Rattle.language.proofs.Laws.Basics.Lists.{All, all_both, all_left, all_right, all_any, all_more}
use Rattle.language.proofs.Laws.Basics.Tests.{split, same_refl}
use Rattle.language.proofs.Laws.Basics.Results.{Within}
use Rattle.language.proofs.Laws.Values.DistinctNames.{Distinct}
use Rattle.language.proofs.Laws.Values.NameLaws.{find-named}
use Rattle.language.proofs.Laws.Values.PortLaws.{NamesPort, EntryPorted, ports_distinct, table-ported}
use Rattle.language.proofs.Laws.Values.SignalLaws.{PortListed, ports_listed, signals_few}
use Rattle.names.specs.References.{number_in}
use Rattle.names.proofs.NumberingLaws.{number_same, number_other}
use Rattle.names.specs.Resolved.{declared_names}
use Rattle.name_values.specs.World.{Meaning, Stands, Defines, NoValue, World, numbered, name_at, meaning_at}
use Rattle.name_values.specs.Worlds.{in_table, meaning}
use Rattle.name_values.specs.Worked.{definitions_start, world_in}
use Rattle.names.proofs.WalkBinders.{number-text}
use Rattle.memory_notes.specs.Laid.{FirstSignals}
use Rattle.memory_notes.specs.RealmLaws.{behind-keeps}

-- what holds of every name and its number, the names being distinct
numbered-named : {A : Type 0} (P : ℕ → A → Type 0) (other : A) (f : Token → A) → ((r : ℕ) → P r other) → (ns : Names) → Distinct ns → All (λ n. P (number_in ns n) (f n)) ns → (r : ℕ)
    → P r (numbered other (map f ns) r)
unfolding numbered
numbered-named P other f o [] d h r = o r
numbered-named P other f o (n ∷ ns) d h r =
    split (P r) (eqb r (length (map f ns)))
    (λ e. subst (λ k. P k (f n)) (number_same n ns n (same_refl n.text) ∙ sym (length-map ns f) ∙ sym (eqb-true r (length (map f ns)) e)) h.0)
    (λ _. numbered-named P other f o ns d.1 (all_both (λ m a p. subst (λ k. P k (f m)) (number_other n ns m a) p) ns d.0 h.1) r)

module _ (ps : List Port) (firsts : List ℕ) where
  -- the name x, whose number is r, has n signals from its first on
  pub record First (r : ℕ) (x : List ℕ) (n : ℕ) : Type 0 where
    pub is : get_or firsts r 0 ≡ first_of ps x
    pub inside : get_or firsts r 0 + n ≤ max_signals

  abbrev Told : ℕ → List ℕ → Meaning → Type 0
  Told r x (Stands (Constant n)) = Unit {0}
  Told r x (Stands Single) = First r x 1
  Told r x (Stands (BusOf n)) = First r x n
  Told r x (Stands (Identifies ws)) = Unit {0}
  Told r x (Stands WaitingBus) = Unit {0}
  Told r x (Defines k c e) = Unit {0}
  Told r x NoValue = Unit {0}

  module _ (ns : Names) (few : length (signal_list ps) ≤ max_signals) where
    -- a port's own
    pub record Own (p : Port) : Type 0 where
      pub is : get_or firsts (number_in ns p.name) 0 ≡ first_of ps p.name.text
      pub listed : PortListed ps p

    first-own : (n : Token) (k m : ℕ) → NamesPort Own n.text k → ((p : Port) → p.width ≡ k → m ≤ signals_of p) → First (number_in ns n) n.text m
    first-own n k m h wide =
        let p = h.port in
        let o = h.holds in
        let e : get_or firsts (number_in ns n) 0 ≡ first_of ps n.text = ap (λ (j : ℕ). get_or firsts j 0) (number-text ns n p.name (sym h.named)) ∙ o.is ∙ ap (first_of ps) h.named in
        record { is = e; inside = omega (arith, ap (first_of ps) h.named, o.listed.inside, wide p h.wide) }

    told-found : (n : Token) (r : Result Declared) → Within (λ y. EntryPorted Own (n.text, y)) r → Told (number_in ns n) n.text (in_table r)
    told-found n (Refused a b) h = tt
    told-found n (Done (Constant v)) h = tt
    told-found n (Done Single) h = first-own n 0 1 h.says (λ p e. omega arith)
    told-found n (Done (BusOf v)) h = first-own n v v h.says (λ p e. omega arith)
    told-found n (Done (Identifies ws)) h = tt
    told-found n (Done WaitingBus) h = tt

module _ (x : Spec) (d : Declarations) (declared : declarations x ≡ Done d) (once : declared_again x ≡ none) (distinct : Distinct (declared_names x)) (few : too_many_signals 0 (in_order d) ≡ none)
    (firsts : List ℕ) (told : All (λ p. get_or firsts (number_in (declared_names x) p.name) 0 ≡ first_of (in_order d) p.name.text) (in_order d)) where
  abbrev W : World
  W = world_in x (in_order d) d.table

  told-all : (r : ℕ) → Told (in_order d) firsts r (name_at W r) (meaning_at W r)
  told-all r =
      let ps = in_order d in
      let t = d.table in
      let ns = declared_names x in
      let f = signals_few 0 ps (omega arith) few in
      let small : length (signal_list ps) ≤ max_signals = omega arith in
      let O : Port → Type 0 = Own ps firsts ns small in
      let own : All O ps = all_both (λ p e l. record { is = e; listed = l }) ps told (ports_listed ps (ports_distinct x d once declared)) in
      let entries = table-ported O x d declared (all_left O d.inputs d.outputs own) (all_right O d.inputs d.outputs own) in
      numbered-named {A = List ℕ × Meaning} (λ r e. Told ps firsts r e.0 e.1) ([], NoValue) (λ n. (n.text, meaning ps t (definitions_start x) x.definitions n)) (λ r. tt) ns distinct
      (all_more (λ n _. behind-keeps (Told ps firsts (number_in ns n) n.text) (λ c. Unit {0}) (λ c y e u. tt) (λ k c e u. tt) n x.definitions (context_of ps t) tt (definitions_start x) _
      (told-found ps firsts ns small n (find t n.text) (find-named (EntryPorted O) t entries n.text))) ns (all_any ns)) r

  pub first-signals : FirstSignals (in_order d) (world_in x (in_order d) d.table) firsts
  first-signals = record {
    single = λ r l e. let t = subst (Told (in_order d) firsts r (name_at W r)) e (told-all r) in (t.is, omega (arith, t.inside));
    bus = λ r n l e. let t = subst (Told (in_order d) firsts r (name_at W r)) e (told-all r) in (t.is, t.inside);
  }
