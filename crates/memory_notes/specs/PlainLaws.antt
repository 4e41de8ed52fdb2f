-- A name that stands for a number or a set stands for no formula: in the contexts of every text.
use Rattle.std.specs.Prelude.{Bool, true, false, List, [], ◌∷◌}
use Rattle.node.specs.Ltl.{Formula}
use Rattle.node.specs.Result.{Result, Done, Refused, ◌>>=◌}
use Rattle.language.specs.Bytes.{same}
use Rattle.language.specs.Tokens.{Token}
use Rattle.language.specs.Tree.{Expr, Definition, Defined, Enumerated}
use Rattle.language.specs.Values.{value}
use Rattle.language.specs.DeclaredNames.{Declared, Table, find, value_at, Port}
use Rattle.language.specs.Expansion.{Context, expansion, signal_of, context_of, define, define_all}
use Rattle.machine.specs.Realm.{Plain}
use Rattle.machine.specs.PlainLaws.{NoFormula, refuses, no_formula, declared-plain}

abbrev pub Everywhere : Context → Type 0
Everywhere c = (t : Token) → NoFormula (c.values t) (c.formulas t)

plain_of : (c : Context) → Everywhere c → Plain c
plain_of c h = record { number = λ t n e. (h t).0 n e; set = λ t s e. (h t).1 s e }

pub plain-define : (c : Context) → Plain c → (x : Token) (e : Expr) → Plain (define c x e)
plain-define c h x e = plain_of (define c x e) (λ t. go t (same x.text t.text))
  where
    go : (t : Token) (b : Bool) → NoFormula {A = Formula} (elim b [ true ↦ value c.values e | false ↦ c.values t ]) (elim b [ true ↦ expansion c e | false ↦ c.formulas t ])
    go t true = no_formula c h e
    go t false = (h.number t, h.set t)

found_plain : (ps : List Port) (t : Token) (r : Result Declared) → NoFormula (r >>= λ v. Done (value_at t v)) (r >>= signal_of ps t)
unfolding ◌>>=◌
found_plain ps t (Refused n p) = refuses
found_plain ps t (Done v) = declared-plain ps t v

pub plain-context : (ps : List Port) (d : Table) → Plain (context_of ps d)
plain-context ps d = plain_of (context_of ps d) (λ t. found_plain ps t (find d t.text))

pub plain-all : (c : Context) → Plain c → (ds : List Definition) → Plain (define_all c ds)
plain-all c h [] = h
plain-all c h (Defined x e ∷ ds) = plain-all (define c x e) (plain-define c h x e) ds
plain-all c h (Enumerated x is ∷ ds) = plain-all c h ds
