-- The definitions of a text's world are known at their own entries, and their contexts have the signals' order.
use Rattle.std.specs.Prelude.{ℕ, ◌+◌, ◌-◌, true, false, List, [], ◌∷◌, ◌++◌, map, ◌≡◌, refl, eqb, length}
use Rattle.std.proofs.Common.{subst}
use Rattle.node.specs.Result.{Result, Done, Refused}
use Rattle.language.specs.Bytes.{same}
use Rattle.language.specs.Tokens.{Token, tokens}
use Rattle.language.specs.Tree.{Expr, Definition, Defined, Enumerated, Spec}
use Rattle.language.specs.DeclaredNames.{Declared, Table, find, Port}
use Rattle.language.specs.Expansion.{Context, context_of, define, define_all}
use Rattle.language.proofs.Laws.Basics.Lists.{All}
use Rattle.language.proofs.Laws.Basics.Tests.{split}
use Rattle.entries.specs.Flat.{flat, flat_definition}
use Rattle.names.specs.Resolved.{declared_names}
use Rattle.name_values.specs.World.{Meaning, Stands, Defines, NoValue, numbered, meaning_at}
use Rattle.name_values.specs.Known.{Known}
use Rattle.name_values.proofs.Bodies.{Bodies, Ported}
use Rattle.name_values.specs.Worlds.{in_table, behind, meaning}
use Rattle.name_values.proofs.WorldsLaws.{defined_then}
use Rattle.name_values.specs.Worked.{definitions_start, world_in, Definitionwise, TreeWorked}

-- P of a definition's entry, context and body
abbrev pub OfDefinition : (ℕ → Context → Expr → Type 0) → Meaning → Type 0
OfDefinition P (Stands v) = Unit {0}
OfDefinition P (Defines k c e) = P k c e
OfDefinition P NoValue = Unit {0}

-- what holds of all of a list holds of number r
pub numbered-all : {A : Type 0} (P : A → Type 0) (other : A) (l : List A) (r : ℕ) → P other → All P l → P (numbered other l r)
unfolding numbered
numbered-all P other [] r h a = h
numbered-all P other (b ∷ l) r h a = split P (eqb r (length l)) (λ _. a.0) (λ _. numbered-all P other l r h a.1)

pub all_mapped : {A B : Type 0} (P : B → Type 0) (f : A → B) (l : List A) → ((a : A) → P (f a)) → All P (map f l)
all_mapped P f [] h = tt
all_mapped P f (a ∷ l) h = (h a, all_mapped P f l h)

-- what holds of the meaning of every declared name
pub world-all : (P : Meaning → Type 0) → P NoValue → (x : Spec) (ps : List Port) (d : Table) → ((n : Token) → P (meaning ps d (definitions_start x) x.definitions n)) → (r : ℕ)
    → P (meaning_at (world_in x ps d) r)
world-all P none x ps d h r =
    numbered-all (λ m. P m.1) ([], NoValue) (world_in x ps d) r none (all_mapped (λ m. P m.1) (λ n. (n.text, meaning ps d (definitions_start x) x.definitions n)) (declared_names x) h)

module _ (P : ℕ → Context → Expr → Type 0) where
  table_of : (r : Result Declared) → OfDefinition P (in_table r)
  table_of (Done v) = tt
  table_of (Refused n p) = tt

  pub world_of_lem : (x : Spec) (ps : List Port) (d : Table) → ((n : Token) (m : Meaning) → OfDefinition P m → OfDefinition P (behind (context_of ps d) (definitions_start x) x.definitions n m))
      → (r k : ℕ) (c : Context) (e : Expr) → meaning_at (world_in x ps d) r ≡ Defines k c e → P k c e
  world_of_lem x ps d h r k c e q = subst (OfDefinition P) q (world-all (OfDefinition P) tt x ps d (λ n. h n _ (table_of (find d n.text))) r)

module _ (x : Spec) (text w refs : List ℕ) (ps : List Port) (d : Table) where
  abbrev KnownThere : ℕ → Context → Expr → Type 0
  KnownThere k c e = Known (tokens text) w refs (world_in x ps d) [] c false k e

  behind-known : (n : Token) (before ds : List Definition) (start : ℕ) (m : Meaning) → Definitionwise x text w refs before start ds → OfDefinition KnownThere m
      → OfDefinition KnownThere (behind (define_all (context_of ps d) before) start ds n m)
  behind-known n before [] start m g h = h
  behind-known n before (Defined y e ∷ ds) start m g h =
      let c = define_all (context_of ps d) before in
      let m' : Meaning = elim (same y.text n.text) [ true ↦ Defines (start + length (flat e) - 1) c e | false ↦ m ] in
      let own : OfDefinition KnownThere m' = split (OfDefinition KnownThere) (same y.text n.text) (λ _. g.0.known ps d) (λ _. h) in
      subst (λ a. OfDefinition KnownThere (behind a (start + length (flat_definition (Defined y e))) ds n m')) (defined_then (context_of ps d) before (Defined y e ∷ []))
      (behind-known n (before ++ Defined y e ∷ []) ds (start + length (flat_definition (Defined y e))) m' g.1 own)
  behind-known n before (Enumerated y is ∷ ds) start m g h =
      subst (λ a. OfDefinition KnownThere (behind a (start + length (flat_definition (Enumerated y is))) ds n m)) (defined_then (context_of ps d) before (Enumerated y is ∷ []))
      (behind-known n (before ++ Enumerated y is ∷ []) ds (start + length (flat_definition (Enumerated y is))) m g h)

  pub bodies : TreeWorked x text w refs → Bodies (tokens text) w refs (world_in x ps d)
  bodies t = record { known = world_of_lem KnownThere x ps d (λ n m h. behind-known n [] x.definitions (definitions_start x) m t.definitions h) }

-- definitions leave the ports
module _ (ps : List Port) where
  abbrev HasPorts : ℕ → Context → Expr → Type 0
  HasPorts k c e = c.ports ≡ ps

  behind_ports : (n : Token) (ds : List Definition) (c : Context) → c.ports ≡ ps → (start : ℕ) (m : Meaning) → OfDefinition HasPorts m → OfDefinition HasPorts (behind c start ds n m)
  behind_ports n [] c q start m h = h
  behind_ports n (Defined y e ∷ ds) c q start m h =
      behind_ports n ds (define c y e) q _ _ (split (OfDefinition HasPorts) (same y.text n.text) (λ _. q) (λ _. h))
  behind_ports n (Enumerated y is ∷ ds) c q start m h = behind_ports n ds c q _ m h

  pub ported : (x : Spec) (d : Table) → Ported ps (world_in x ps d)
  ported x d = record { ports = world_of_lem HasPorts x ps d (λ n m h. behind_ports n x.definitions (context_of ps d) refl (definitions_start x) m h) }
