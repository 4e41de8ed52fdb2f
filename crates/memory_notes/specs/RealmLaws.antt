-- The world of a checked text's names, for any ports and any table whose words are short, is one that the machine works in; and so are its expressions.
use Rattle.std.specs.Prelude.{ℕ, List, [], ◌∷◌, ◌≡◌}
use Rattle.std.proofs.Common.{subst}
use Rattle.node.specs.Result.{Result, Done, Refused}
use Rattle.language.specs.Bytes.{same}
use Rattle.language.specs.Tokens.{Token}
use Rattle.language.specs.Tree.{Expr, Definition, Defined, Enumerated, Spec}
use Rattle.language.specs.DeclaredNames.{Declared, Identifies, Table, find, Port}
use Rattle.language.specs.Expansion.{Context, context_of, define, define_all}
use Rattle.language.proofs.Laws.Basics.Lists.{All}
use Rattle.language.proofs.Laws.Basics.Tests.{split}
use Rattle.language.proofs.Laws.Basics.Results.{Within}
use Rattle.language.proofs.Laws.Values.NameLaws.{find-within, defined_ports}
use Rattle.names.specs.Resolved.{Stored, Resolved}
use Rattle.name_values.specs.World.{Meaning, Stands, Defines, NoValue, meaning_at}
use Rattle.name_values.specs.Worlds.{in_table, behind}
use Rattle.name_values.specs.Worked.{Worked, definitions_start, world_in}
use Rattle.name_values.proofs.WorkedLaws.{tree_worked}
use Rattle.name_values.proofs.BodiesLaws.{world-all, bodies, ported}
use Rattle.choices.specs.StoredWords.{Short}
use Rattle.operands.specs.Working.{source}
use Rattle.machine.specs.Realm.{Plain, Operand}
use Rattle.memory_notes.specs.PlainLaws.{plain-context, plain-define, plain-all}
use Rattle.memory_notes.specs.ShortTables.{ShortTable, ShortWords}

-- of a declared name's meaning: short words, and for a definition a plain context
abbrev Sound : Meaning → Type 0
Sound (Stands v) = ShortWords v
Sound (Defines k c e) = Plain c
Sound NoValue = Unit {0}

sound-found : (r : Result Declared) → Within ShortWords r → Sound (in_table r)
sound-found (Done v) h = h.says
sound-found (Refused n p) h = tt

-- what holds of a name before the definitions, and of a definition, holds after them; C is kept from context to context
pub behind-keeps : (Q : Meaning → Type 0) (C : Context → Type 0) → ((c : Context) (y : Token) (e : Expr) → C c → C (define c y e)) → ((k : ℕ) (c : Context) (e : Expr) → C c → Q (Defines k c e))
    → (n : Token) (ds : List Definition) (c : Context) → C c → (start : ℕ) (m : Meaning) → Q m → Q (behind c start ds n m)
behind-keeps Q C f g n [] c p start m h = h
behind-keeps Q C f g n (Defined y e ∷ ds) c p start m h = behind-keeps Q C f g n ds (define c y e) (f c y e p) _ _ (split Q (same y.text n.text) (λ _. g _ c e p) (λ _. h))
behind-keeps Q C f g n (Enumerated y is ∷ ds) c p start m h = behind-keeps Q C f g n ds c p _ m h

module _ (x : Spec) (ps : List Port) (d : Table) where
  sound-world : ShortTable d → (r : ℕ) → Sound (meaning_at (world_in x ps d) r)
  sound-world short r =
      world-all Sound tt x ps d (λ n. behind-keeps Sound Plain (λ c y e p. plain-define c p y e) (λ k c e p. p) n x.definitions (context_of ps d) (plain-context ps d) (definitions_start x) _
      (sound-found (find d n.text) (find-within ShortWords d short n.text))) r

  pub world_short : ShortTable d → (r : ℕ) (ws : List Token) → meaning_at (world_in x ps d) r ≡ Stands (Identifies ws) → All Short ws
  world_short short r ws q = subst Sound q (sound-world short r)

  module _ {text w refs found : List ℕ} {count entries names : ℕ} (stored : Stored text w count entries x) (resolved : Resolved x refs found names) (short : ShortTable d) where
    pub world-bodies : (r n : ℕ) (c : Context) (e : Expr) → meaning_at (world_in x ps d) r ≡ Defines n c e → Operand (source text w refs) (world_in x ps d) ps [] c n e
    world-bodies r n c e q = record {
      known = (bodies x text w refs ps d (tree_worked stored resolved)).known r n c e q;
      small = tt;
      ports = (ported ps x d).ports r n c e q;
      plain = subst Sound q (sound-world short r);
    }

  -- an expression that is worked after some of the definitions
  pub operand : {text w refs : List ℕ} {before : List Definition} {k : ℕ} {e : Expr} → Worked x text w refs before k e
      → Operand (source text w refs) (world_in x ps d) ps [] (define_all (context_of ps d) before) k e
  operand {before = before} h = record {
    known = h.known ps d;
    small = tt;
    ports = defined_ports before (context_of ps d);
    plain = plain-all (context_of ps d) (plain-context ps d) before;
  }
