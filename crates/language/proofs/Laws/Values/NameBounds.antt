-- Declared and defined names stand for values within their bounds: parameters, buses, definitions, and the names of a whole text.
use Rattle.std.specs.Prelude.{ℕ, zero, suc, ◌≤◌, ◌≡◌, Bool, true, false, List, [], ◌∷◌}
use Rattle.std.proofs.Common.{subst, sym, arith}
use Rattle.node.specs.Result.{Done}
use Rattle.language.specs.Limits.{max_width}
use Rattle.language.specs.Tokens.{Token}
use Rattle.language.specs.Tree.{Definition, Parameter, Declaration, OneSignal, OfWidth, OfType, Spec}
use Rattle.language.specs.Values.{Scope, value}
use Rattle.language.specs.DeclaredNames.{
  Declared,
  Constant,
  Single,
  BusOf,
  Identifies,
  WaitingBus,
  Table,
  value_at,
  declared,
  defining,
  words_of_type,
  word_width,
  Port,
  sized,
  port_of,
  as_declared,
  turns,
  constants,
  inputs,
  outputs,
  Declarations,
  declarations,
}
use Rattle.language.specs.Expansion.{at_signals, define_all}
use Rattle.language.specs.Braces.{ProperParameter, ProperDefinition, ProperSpec}
use Rattle.language.proofs.Laws.Basics.Lists.{All}
use Rattle.language.proofs.Laws.Basics.Results.{done, bind, value_of, Within, bind_any}
use Rattle.language.proofs.Laws.Values.NameLaws.{defined_values, defining-keeps, Visible, naming-within, Entries, declared-within, first-entries, sized_as}
use Rattle.language.proofs.Laws.Values.ValueLaws.{SaneNumber, Sane, as_number, value_sane}

abbrev pub DeclaredSane : Declared → Type 0
DeclaredSane (Constant n) = SaneNumber n
DeclaredSane Single = Unit {0}
DeclaredSane (BusOf n) = n ≤ max_width
DeclaredSane (Identifies v) = Unit {0}
DeclaredSane WaitingBus = Unit {0}

value_at_sane : (t : Token) (y : Declared) → DeclaredSane y → Sane (value_at t y)
value_at_sane t (Constant n) h = h
value_at_sane t Single h = tt
value_at_sane t (BusOf n) h = h
value_at_sane t (Identifies v) h = tt
value_at_sane t WaitingBus h = tt

pub declared_sane : (d : Table) → Entries DeclaredSane d → Visible Sane (declared d)
declared_sane d h = declared-within DeclaredSane Sane value_at_sane d h

-- definitions
pub defining_sane : (ds : List Definition) → All ProperDefinition ds → (sc : Scope) → Visible Sane sc → Visible Sane (defining sc ds)
defining_sane = defining-keeps (Visible Sane) ProperDefinition (λ sc x e p g. naming-within Sane x (value sc e) sc (value_sane e false p sc g) g)

-- parameters
pub constants_sane : (xs : List Parameter) → All ProperParameter xs → (d : Table) → Entries DeclaredSane d → Within (Entries DeclaredSane) (constants xs d)
constants_sane [] p d h = done h
constants_sane (x ∷ xs) p d h =
    bind _ _ (as_number _ (value_sane x.value false p.0 (declared d) (declared_sane d h)))
    (λ n k. constants_sane xs p.1 ((x.name.text, Constant n) ∷ d) (k, h))

-- signals and buses
sized_sane : (x : Token) (n : ℕ) → Within (λ m. m ≤ max_width) (sized x n)
sized_sane x n = sized_as x n tt (λ _ h. h)

abbrev PortSane : Port → Type 0
PortSane p = p.width ≤ max_width

port_of_sane : (defs : List Definition) (output : Bool) (d : Table) (x : Declaration) → Within PortSane (port_of defs output d x)
port_of_sane defs output d (OneSignal x) = done (omega arith)
port_of_sane defs output d (OfWidth x e) = bind _ _ (bind_any _ (sized x) (sized_sane x)) (λ n h. done h)
port_of_sane defs output d (OfType u x) = bind _ _ (sized_sane x (word_width (words_of_type defs u))) (λ n h. done h)

as_declared_sane : (n : ℕ) → n ≤ max_width → DeclaredSane (as_declared n)
as_declared_sane zero h = tt
as_declared_sane (suc n) h = h

turns_sane : (defs : List Definition) (output : Bool) (ds : List Declaration) (d : Table) → Entries DeclaredSane d →
    Within (λ s. Entries DeclaredSane s.table) (turns defs output ds d)
turns_sane defs output [] d h = done h
turns_sane defs output (x ∷ ds) d h =
    bind _ _ (port_of_sane defs output d x) (λ p k.
    bind _ _ (turns_sane defs output ds ((p.name.text, as_declared p.width) ∷ d) (as_declared_sane p.width k, h)) (λ s l. done l))

-- a text's declarations, and all its names
declarations-within : (x : Spec) → ProperSpec x → Within (λ d. Entries DeclaredSane d.table) (declarations x)
declarations-within x p =
    let defs : List Definition = x.definitions in
    let ins : List Declaration = inputs x.main in
    let outs : List Declaration = outputs x.main in
    bind _ _ (constants_sane x.parameters p.parameters _ (first-entries DeclaredSane tt tt (λ v. tt) ins outs defs)) (λ d h.
    bind _ _ (turns_sane defs false ins d h) (λ i k. bind _ _ (turns_sane defs true outs i.table k) (λ o l. done l)))

pub names_sane : (x : Spec) (d : Declarations) → ProperSpec x → declarations x ≡ Done d → Visible Sane (defining (declared d.table) x.definitions)
names_sane x d p e =
    defining_sane x.definitions p.definitions (declared d.table) (declared_sane d.table (value_of e (declarations-within x p)))

-- the same names as the expansion of the text's lines sees them
pub context_sane : (x : Spec) (d : Declarations) → ProperSpec x → declarations x ≡ Done d → Visible Sane (define_all (at_signals d) x.definitions).values
context_sane x d p e = subst (Visible Sane) (sym (defined_values x.definitions (at_signals d))) (names_sane x d p e)
