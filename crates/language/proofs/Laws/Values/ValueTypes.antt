-- The types of values, and a value as a number, a set, a bus, an identifier's words: what holds of it if it is of that type, and of the refusal if not.
use Rattle.std.specs.Prelude.{ℕ, ◌≡◌, refl, true, false, List, eqb}
use Rattle.std.proofs.Common.{sym, ◌∙◌, ap, subst, eqb-true, eq-eqb}
use Rattle.std.proofs.lemmas.Bool.{false≢true}
use Rattle.language.specs.Bytes.{if◌then◌otherwise◌}
use Rattle.language.specs.Tokens.{Token}
use Rattle.language.specs.Types.{ExprType, ANumber, ASet, AFormula, ABus, AValue, AType, Unknown, type_code, is_type}
use Rattle.language.specs.Values.{Value, Number, Set, Logic, Bus, Unsized, Choice, number, set, Sized, bus, choice}
use Rattle.language.proofs.Laws.Basics.Results.{Refusals, Answers, done, refused}

-- types are told apart by their codes
type_from : ℕ → ExprType
type_from n =
    if eqb n 0 then ANumber otherwise (if eqb n 1 then ASet otherwise (if eqb n 2 then AFormula otherwise (if eqb n 3 then ABus otherwise
    (if eqb n 4 then AValue otherwise (if eqb n 5 then AType otherwise Unknown)))))

type_from-code : (k : ExprType) → type_from (type_code k) ≡ k
unfolding type_from
type_from-code ANumber = refl
type_from-code ASet = refl
type_from-code AFormula = refl
type_from-code ABus = refl
type_from-code AValue = refl
type_from-code AType = refl
type_from-code Unknown = refl

pub is_type_equal : (k l : ExprType) → is_type k l ≡ true → k ≡ l
is_type_equal k l e =
    sym (type_from-code k) ∙ ap type_from (eqb-true (type_code k) (type_code l) e) ∙ type_from-code l

-- the type of a value
abbrev pub value_type : Value → ExprType
value_type (Number n) = ANumber
value_type (Set s) = ASet
value_type Logic = AFormula
value_type (Bus p x n) = ABus
value_type (Unsized p) = ABus
value_type (Choice v) = AValue

abbrev pub IsOf : ExprType → Value → Type 0
IsOf k v = value_type v ≡ k

-- values of two types are not equal
pub apart : {A : Type 0} (k l : ExprType) → is_type k l ≡ false → k ≡ l → A
apart k l d e = absurd (false≢true (sym d ∙ subst (λ (m : ExprType). is_type k m ≡ true) e (eq-eqb (type_code k) (type_code k) refl)))

-- a value as what an operator takes
pub number_as : {R : Refusals} {Q : ℕ → Type 0} (P : Value → Type 0) → ((n : ℕ) → P (Number n) → Q n) → ((v : Value) → ¬ IsOf ANumber v → P v → R 9 0) → (v : Value) → P v → Answers R Q (number v)
number_as P f m (Number n) h = done (f n h)
number_as P f m (Set s) h = refused (m (Set s) (apart ASet ANumber refl) h)
number_as P f m Logic h = refused (m Logic (apart AFormula ANumber refl) h)
number_as P f m (Bus p x n) h = refused (m (Bus p x n) (apart ABus ANumber refl) h)
number_as P f m (Unsized p) h = refused (m (Unsized p) (apart ABus ANumber refl) h)
number_as P f m (Choice w) h = refused (m (Choice w) (apart AValue ANumber refl) h)

pub set_as : {R : Refusals} {Q : List ℕ → Type 0} (P : Value → Type 0) → ((s : List ℕ) → P (Set s) → Q s) → ((v : Value) → ¬ IsOf ASet v → P v → R 9 0) → (v : Value) → P v → Answers R Q (set v)
set_as P f m (Number n) h = refused (m (Number n) (apart ANumber ASet refl) h)
set_as P f m (Set s) h = done (f s h)
set_as P f m Logic h = refused (m Logic (apart AFormula ASet refl) h)
set_as P f m (Bus p x n) h = refused (m (Bus p x n) (apart ABus ASet refl) h)
set_as P f m (Unsized p) h = refused (m (Unsized p) (apart ABus ASet refl) h)
set_as P f m (Choice w) h = refused (m (Choice w) (apart AValue ASet refl) h)

-- a bus before its turn is refused by 13
pub bus_as : {R : Refusals} {Q : Sized → Type 0} (P : Value → Type 0) → ((p : ℕ) (x : List ℕ) (n : ℕ) → P (Bus p x n) → Q (record { place = p; name = x; width = n }))
    → ((p : ℕ) → P (Unsized p) → R 13 p) → ((v : Value) → ¬ IsOf ABus v → P v → R 9 0) → (v : Value) → P v → Answers R Q (bus v)
bus_as P f g m (Number n) h = refused (m (Number n) (apart ANumber ABus refl) h)
bus_as P f g m (Set s) h = refused (m (Set s) (apart ASet ABus refl) h)
bus_as P f g m Logic h = refused (m Logic (apart AFormula ABus refl) h)
bus_as P f g m (Bus p x n) h = done (f p x n h)
bus_as P f g m (Unsized p) h = refused (g p h)
bus_as P f g m (Choice w) h = refused (m (Choice w) (apart AValue ABus refl) h)

pub choice_as : {R : Refusals} {Q : List Token → Type 0} (P : Value → Type 0) → ((w : List Token) → P (Choice w) → Q w) → ((v : Value) → ¬ IsOf AValue v → P v → R 9 0) → (v : Value) → P v
    → Answers R Q (choice v)
choice_as P f m (Number n) h = refused (m (Number n) (apart ANumber AValue refl) h)
choice_as P f m (Set s) h = refused (m (Set s) (apart ASet AValue refl) h)
choice_as P f m Logic h = refused (m Logic (apart AFormula AValue refl) h)
choice_as P f m (Bus p x n) h = refused (m (Bus p x n) (apart ABus AValue refl) h)
choice_as P f m (Unsized p) h = refused (m (Unsized p) (apart ABus AValue refl) h)
choice_as P f m (Choice w) h = done (f w h)
