-- What holds of all declared names holds of every name that is found, and of what it stands for.
use Rattle.std.specs.Prelude.{ℕ, ◌≤◌, ◌≡◌, refl, ◌&&◌, List, [], ◌∷◌, leb}
use Rattle.std.proofs.Common.{subst, leb-true}
use Rattle.node.specs.Result.{Result}
use Rattle.language.specs.Limits.{max_width}
use Rattle.language.specs.Bytes.{same}
use Rattle.language.specs.Tokens.{Token}
use Rattle.language.specs.Tree.{Identifier, Definition, Defined, Enumerated, Declaration, OneSignal, OfWidth, OfType, Subsection, Inputs, Outputs, Lines, Expr}
use Rattle.language.specs.Values.{Value, Scope, naming, value}
use Rattle.language.specs.DeclaredNames.{Declared, Single, Identifies, WaitingBus, Table, find, value_at, declared, defining, identified, identifiers, sized, waiting, inputs, outputs}
use Rattle.language.specs.Expansion.{Context, define, define_all}
use Rattle.language.proofs.Laws.Basics.Lists.{All, all_append}
use Rattle.language.proofs.Laws.Basics.Tests.{split, and_left, and_right, same_equal}
use Rattle.language.proofs.Laws.Basics.Results.{Refusals, Answers, done, refused, guarded, bind, Within}

-- the values of the names are the same in widths, where no formula is expanded, and in lines
pub defined_values : (ds : List Definition) (c : Context) → (define_all c ds).values ≡ defining c.values ds
defined_values [] c = refl
defined_values (Defined x e ∷ ds) c = defined_values ds (define c x e)
defined_values (Enumerated x is ∷ ds) c = defined_values ds c

-- definitions leave the ports
pub defined_ports : (ds : List Definition) (c : Context) → (define_all c ds).ports ≡ c.ports
defined_ports [] c = refl
defined_ports (Defined x e ∷ ds) c = defined_ports ds (define c x e)
defined_ports (Enumerated x is ∷ ds) c = defined_ports ds c

-- what each definition keeps, all of them keep
pub defining-keeps : (I : Scope → Type 0) (D : Definition → Type 0) → ((sc : Scope) (x : Token) (e : Expr) → D (Defined x e) → I sc → I (naming x (value sc e) sc)) → (ds : List Definition) → All D ds
    → (sc : Scope) → I sc → I (defining sc ds)
defining-keeps I D f [] h sc g = g
defining-keeps I D f (Defined x e ∷ ds) h sc g = defining-keeps I D f ds h.1 (naming x (value sc e) sc) (f sc x e h.0 g)
defining-keeps I D f (Enumerated x is ∷ ds) h sc g = defining-keeps I D f ds h.1 sc g

pub define_all-keeps : (I : Context → Type 0) (D : Definition → Type 0) → ((c : Context) (x : Token) (e : Expr) → D (Defined x e) → I c → I (define c x e)) → (ds : List Definition) → All D ds
    → (c : Context) → I c → I (define_all c ds)
define_all-keeps I D f [] h c g = g
define_all-keeps I D f (Defined x e ∷ ds) h c g = define_all-keeps I D f ds h.1 (define c x e) (f c x e h.0 g)
define_all-keeps I D f (Enumerated x is ∷ ds) h c g = define_all-keeps I D f ds h.1 c g

-- what holds of what every visible name stands for
abbrev pub Visible : {A : Type 0} → (A → Type 0) → (Token → Result A) → Type 0
Visible Q sc = (t : Token) → Within Q (sc t)

pub naming-within : {A : Type 0} (Q : A → Type 0) (x : Token) (r : Result A) (sc : Token → Result A) → Within Q r → Visible Q sc → Visible Q (naming x r sc)
naming-within Q x r sc h g t = split (Within Q) (same x.text t.text) (λ _. h) (λ _. g t)

-- what holds of all names of a table
abbrev pub Entries : (Declared → Type 0) → Table → Type 0
Entries Q d = All (λ e. Q e.1) d

pub find-within : (Q : Declared → Type 0) (d : Table) → Entries Q d → (x : List ℕ) → Within Q (find d x)
find-within Q [] h x = refused tt
find-within Q (e ∷ d) h x = split (Within Q) (same e.0 x) (λ _. done h.0) (λ _. find-within Q d h.1 x)

-- the same with the name, which is the one sought
pub find-named : (Q : List ℕ × Declared → Type 0) (d : Table) → All Q d → (x : List ℕ) → Within (λ y. Q (x, y)) (find d x)
find-named Q [] h x = refused tt
find-named Q (e ∷ d) h x =
    split (Within (λ y. Q (x, y))) (same e.0 x) (λ s. done (subst (λ (z : List ℕ). Q (z, e.1)) (same_equal e.0 x s) h.0)) (λ _. find-named Q d h.1 x)

pub declared-within : (Q : Declared → Type 0) (S : Value → Type 0) → ((t : Token) (y : Declared) → Q y → S (value_at t y)) → (d : Table) → Entries Q d → Visible S (declared d)
declared-within Q S f d h t = bind _ _ (find-within Q d h t.text) (λ y k. done (f t y k))

-- the table before the signals' turn
module _ (Q : Declared → Type 0) (one : Q Single) (bus : Q WaitingBus) (identifies : (v : List Token) → Q (Identifies v)) where
  waiting-entries : (ds : List Declaration) (d : Table) → Entries Q d → Entries Q (waiting ds d)
  waiting-entries [] d h = h
  waiting-entries (OneSignal x ∷ ds) d h = (one, waiting-entries ds d h)
  waiting-entries (OfWidth x e ∷ ds) d h = (bus, waiting-entries ds d h)
  waiting-entries (OfType u x ∷ ds) d h = (bus, waiting-entries ds d h)

  identified-entries : (is : List Identifier) → Entries Q (identified is)
  identified-entries [] = tt
  identified-entries (i ∷ is) = (identifies _, identified-entries is)

  identifier-entries : (ds : List Definition) → Entries Q (identifiers ds)
  identifier-entries [] = tt
  identifier-entries (Defined x e ∷ ds) = identifier-entries ds
  identifier-entries (Enumerated x is ∷ ds) = all_append _ (identified is) (identifiers ds) (identified-entries is) (identifier-entries ds)

  -- the enumerations' identifiers, and the inputs and outputs before their turn
  pub first-entries : (ins outs : List Declaration) (defs : List Definition) → Entries Q (waiting ins (waiting outs (identifiers defs)))
  first-entries ins outs defs = waiting-entries ins _ (waiting-entries outs _ (identifier-entries defs))

-- what holds of the declarations of all subsections
module _ (S : Subsection → Type 0) (Q : Declaration → Type 0) where
  pub inputs-all : ((ds : List Declaration) → S (Inputs ds) → All Q ds) → (ss : List Subsection) → All S ss → All Q (inputs ss)
  inputs-all f [] h = tt
  inputs-all f (Inputs ds ∷ ss) h = all_append Q ds (inputs ss) (f ds h.0) (inputs-all f ss h.1)
  inputs-all f (Outputs ds ∷ ss) h = inputs-all f ss h.1
  inputs-all f (Lines p es ∷ ss) h = inputs-all f ss h.1

  pub outputs-all : ((ds : List Declaration) → S (Outputs ds) → All Q ds) → (ss : List Subsection) → All S ss → All Q (outputs ss)
  outputs-all f [] h = tt
  outputs-all f (Inputs ds ∷ ss) h = outputs-all f ss h.1
  outputs-all f (Outputs ds ∷ ss) h = all_append Q ds (outputs ss) (f ds h.0) (outputs-all f ss h.1)
  outputs-all f (Lines p es ∷ ss) h = outputs-all f ss h.1

-- a width that 13 does not refuse
pub sized_as : {R : Refusals} {Q : ℕ → Type 0} (x : Token) (n : ℕ) → R 13 x.at → (1 ≤ n → n ≤ max_width → Q n) → Answers R Q (sized x n)
sized_as x n r f =
    guarded (leb 1 n && leb n max_width) 13 x.at (λ _. r)
    (λ e. done (f (leb-true 1 n (and_left (leb 1 n) (leb n max_width) e)) (leb-true n max_width (and_right (leb 1 n) (leb n max_width) e))))
