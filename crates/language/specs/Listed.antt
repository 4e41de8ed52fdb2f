-- What a text's signal list says, read from its entries: 'Signals number from 0, inputs first, a bus taking consecutive numbers' (document 01, 'Expansion').
use Rattle.std.specs.Prelude.{ℕ, ◌+◌, max, ◌^◌, ◌≤◌, ◌<◌, ◌≡◌, Bool, true, false, List, [], ◌∷◌, length, get_or}
use Rattle.language.specs.Bytes.{if◌then◌otherwise◌}
use Rattle.language.specs.Tokens.{Token}
use Rattle.language.specs.Tree.{Declaration, OneSignal, OfWidth, OfType, Spec}
use Rattle.language.specs.DeclaredNames.{inputs, outputs}
use Rattle.language.specs.Numbered.{width_of, index_of, offset_of, flag_of, atom_of}

-- the name that a declaration declares
abbrev pub declared_name : Declaration → Token
declared_name (OneSignal x) = x
declared_name (OfWidth x e) = x
declared_name (OfType u x) = x

-- '1 output flag'
abbrev pub flag : Bool → ℕ
flag output = if output then 1 otherwise 0

-- the fields of an entry, and that it has 32 bits
pub record EntryReads (e : ℕ) (output : Bool) (at i n : ℕ) : Type 0 where
  pub flagged : flag_of e ≡ flag output
  pub offset : offset_of e ≡ at
  pub index : index_of e ≡ i
  pub width : width_of e ≡ n
  pub small : e < 2 ^ 32

-- 'index and width 0 for a single signal'; a bus has a width from 1 on
abbrev pub HasWidth : Declaration → ℕ → Type 0
HasWidth (OneSignal x) n = n ≡ 0
HasWidth (OfWidth x e) n = 1 ≤ n
HasWidth (OfType u x) n = 1 ≤ n

-- 'a bus taking consecutive numbers': the signals of a declared name are numbered one after another from `first` on
pub record NumberedAt (list : List ℕ) (output : Bool) (m : Declaration) (first width : ℕ) : Type 0 where
  pub shaped : HasWidth m width
  pub each : (i : ℕ) → i < max 1 width → EntryReads (get_or list (first + i) 0) output (declared_name m).at i width

-- those of some declarations follow each other from number k on, as far as `end`
abbrev pub NumberedFrom : List ℕ → Bool → ℕ → List Declaration → ℕ → Type 0
NumberedFrom list output k [] end = k ≡ end
NumberedFrom list output k (m ∷ ms) end = (width : ℕ) × NumberedAt list output m k width × NumberedFrom list output (k + max 1 width) ms end

-- 'Signals number from 0, inputs first': from 0 on the inputs, from `between` on the outputs, and nothing else
pub record ListedAs (x : Spec) (list : List ℕ) : Type 0 where
  pub between : ℕ
  pub ins : NumberedFrom list false 0 (inputs x.main) between
  pub outs : NumberedFrom list true between (outputs x.main) (length list)

-- no two entries name the same signal
abbrev pub Once : List ℕ → List ℕ → Type 0
Once text list = (k j : ℕ) → k < length list → j < length list → atom_of text (get_or list k 0) ≡ atom_of text (get_or list j 0) → k ≡ j
