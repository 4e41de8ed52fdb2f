-- The entries that declare parameters, signals and buses: each is there with its name's number, and the expression before it is worked.
use Rattle.std.specs.Prelude.{ℕ, ◌-◌, ◌<◌, List, [], ◌≡◌, length, get_or}
use Rattle.std.proofs.Math.Option.{some}
use Rattle.language.specs.Tokens.{Token, tokens}
use Rattle.language.specs.Tree.{Named, Parameter, Declaration, OneSignal, OfWidth, OfType, Spec}
use Rattle.language.specs.Listed.{declared_name}
use Rattle.entries.specs.Kinds as Kind
use Rattle.entries.specs.Flat.{flat_parameter, flat_declaration, outline}
use Rattle.entries.specs.Stored.{EntryAt}
use Rattle.names.specs.References.{number_in}
use Rattle.names.specs.Resolved.{declared_names}
use Rattle.name_values.specs.Worked.{Worked}

-- entry k declares the name t
pub record OwnAt (x : Spec) (text w refs : List ℕ) (k kind : ℕ) (t : Token) (size : ℕ) : Type 0 where
  pub entry : EntryAt w (tokens text) k (record { kind = kind; token = some t; size = size })
  pub number : get_or refs k 0 ≡ number_in (declared_names x) t
  pub inside : k < length (outline x)

pub record ParameterAt (x : Spec) (text w refs : List ℕ) (p : Parameter) (k : ℕ) : Type 0 where
  pub own : OwnAt x text w refs k Kind.parameter p.name (length (flat_parameter p))
  pub worked : Worked x text w refs [] (k - 1) p.value

-- the kind of a declaration's own entry, and what stands before it
abbrev pub kind_of : Declaration → ℕ
kind_of (OneSignal n) = Kind.signal
kind_of (OfWidth n e) = Kind.bus
kind_of (OfType u n) = Kind.typed

abbrev pub WidthAt : Spec → List ℕ → List ℕ → List ℕ → Declaration → ℕ → Type 0
WidthAt x text w refs (OneSignal n) k = Unit {0}
WidthAt x text w refs (OfWidth n e) k = Worked x text w refs x.definitions (k - 1) e
WidthAt x text w refs (OfType u n) k = Worked x text w refs x.definitions (k - 1) (Named u)

pub record DeclarationAt (x : Spec) (text w refs : List ℕ) (m : Declaration) (k : ℕ) : Type 0 where
  pub own : OwnAt x text w refs k (kind_of m) (declared_name m) (length (flat_declaration m))
  pub width : WidthAt x text w refs m k
