-- What declared names stand for, by laws of their own: parameters for their numbers, in order; signals and buses, each at its turn (identifiers: `IdentifierWords`).
-- The meaning and the expansion share it, so that the claim does not test it.
use Rattle.std.specs.Prelude.{ℕ, ◌≤◌, ◌≡◌, refl, Bool, true, false, ◌&&◌, leb}
use Rattle.std.proofs.Common.{sym, ap, ap₂, subst, ◌∙◌, arith, leb-true, le-leb}
use Rattle.std.proofs.lemmas.Bool.{false≢true}
use mathlib.Core.List.{List, [], ◌∷◌, ◌++◌}
use Rattle.node.specs.Result.{Result, Done, Refused, ◌>>=◌}
use Rattle.node.proofs.ResultLaws.{bind_done, bind_again, bind_same, bind_to}
use Rattle.language.specs.Limits.{max_width}
use Rattle.language.specs.Bytes.{same}
use Rattle.language.specs.Tokens.{Token}
use Rattle.language.specs.Tree.{Expr, Named, Identifier, Definition, Defined, Enumerated, Parameter, Declaration, OneSignal, OfWidth, OfType, Spec}
use Rattle.language.specs.Words.{words_in}
use Rattle.language.specs.Values.{Number, Logic, Bus, Unsized, Choice, number, value}
use Rattle.language.specs.DeclaredNames.{
  Constant,
  Single,
  BusOf,
  Identifies,
  WaitingBus,
  Table,
  find,
  declared,
  defining,
  identifiers,
  words_of_type,
  word_width,
  Port,
  sized,
  port_of,
  as_declared,
  Turns,
  turns,
  waiting,
  constants,
  inputs,
  outputs,
  Declarations,
  declarations,
}
use Rattle.language.proofs.Laws.Basics.Lists.{All}
use Rattle.language.proofs.Laws.Basics.Tests.{pick, split, and_left, and_right, same_equal, same_refl}
use Rattle.language.proofs.Laws.Basics.Exactly.{Exactly, exactly, exactly_if, exactly_as}

-- a name that stands somewhere, by what it is declared to be
module _ (d : Table) (t : Token) where
  pub parameter-value : (n : ℕ) → find d t.text ≡ Done (Constant n) → value (declared d) (Named t) ≡ Done (Number n)
  unfolding ◌>>=◌
  parameter-value n e = rw e

  pub signal-value : find d t.text ≡ Done Single → value (declared d) (Named t) ≡ Done Logic
  unfolding ◌>>=◌
  signal-value e = rw e

  pub bus-value : (n : ℕ) → find d t.text ≡ Done (BusOf n) → value (declared d) (Named t) ≡ Done (Bus t.at t.text n)
  unfolding ◌>>=◌
  bus-value n e = rw e

  pub identifier-value : (v : List Token) → find d t.text ≡ Done (Identifies v) → value (declared d) (Named t) ≡ Done (Choice v)
  unfolding ◌>>=◌
  identifier-value v e = rw e

  pub waiting-value : find d t.text ≡ Done WaitingBus → value (declared d) (Named t) ≡ Done (Unsized t.at)
  unfolding ◌>>=◌
  waiting-value e = rw e

-- an enumeration by its name, with all its words
abbrev pub OtherType : Token → Definition → Type 0
OtherType v (Defined x e) = Unit {0}
OtherType v (Enumerated u is) = ¬ (u.text ≡ v.text)

pub type_words : (ds es : List Definition) (u v : Token) (is : List Identifier) → All (OtherType v) ds → u.text ≡ v.text → words_of_type (ds ++ (Enumerated u is ∷ es)) v ≡ words_in is
type_words [] es u v is h e = pick (same u.text v.text) (words_in is) (words_of_type es v) (subst (λ x. same u.text x ≡ true) e (same_refl u.text))
type_words (Defined x b ∷ ds) es u v is h e = type_words ds es u v is h.1 e
type_words (Enumerated x js ∷ ds) es u v is h e =
    split (λ r. r ≡ words_in is) (same x.text v.text) (λ s. absurd (h.0 (same_equal x.text v.text s))) (λ _. type_words ds es u v is h.1 e)

-- parameters, in order: each is worked out with those before it, and stands for its number
pub constants-more : (ps : List Parameter) (p : Parameter) (d : Table) →
    constants (ps ++ (p ∷ [])) d ≡ (constants ps d >>= λ t. value (declared t) p.value >>= number >>= λ n. Done ((p.name.text, Constant n) ∷ t))
constants-more [] p d = sym (bind_to (Done d) d (λ t. value (declared t) p.value >>= number >>= λ n. Done ((p.name.text, Constant n) ∷ t)) refl)
constants-more (q ∷ ps) p d =
    bind_same (value (declared d) q.value >>= number) _ _ (λ n. constants-more ps p ((q.name.text, Constant n) ∷ d)) ∙
    sym (bind_again (value (declared d) q.value >>= number) _ _)

-- signals and buses, in order: each is sized with those before it, and stands for its width
abbrev entered : Port → Table → Table
entered p d = (p.name.text, as_declared p.width) ∷ d

abbrev then_port : Turns → Port → Turns
then_port s p = record { table = entered p s.table; ports = s.ports ++ (p ∷ []) }

abbrev behind : Port → Turns → Turns
behind p s = record { table = s.table; ports = p ∷ s.ports }

regrouped : (r : Result Turns) (f : Table → Result Port) (p : Port) →
    (r >>= (λ s. f s.table >>= λ q. Done (then_port s q)) >>= λ s. Done (behind p s)) ≡ (r >>= (λ s. Done (behind p s)) >>= λ s. f s.table >>= λ q. Done (then_port s q))
unfolding ◌>>=◌
regrouped (Done s) f p = go (f s.table)
  where
    go : (r : Result Port) → (r >>= (λ q. Done (then_port s q)) >>= λ u. Done (behind p u)) ≡ (r >>= λ q. Done (then_port (behind p s) q))
    go (Done q) = refl
    go (Refused n place) = refl
regrouped (Refused n place) f p = refl

pub turns_more : (defs : List Definition) (output : Bool) (ms : List Declaration) (m : Declaration) (d : Table) →
    turns defs output (ms ++ (m ∷ [])) d ≡ (turns defs output ms d >>= λ s. port_of defs output s.table m >>= λ p. Done (then_port s p))
turns_more defs output [] m d =
    let first : Turns = record { table = d; ports = [] } in
    let alone : Port → Turns = λ p. record { table = entered p d; ports = [] } in
    bind_same (port_of defs output d m) _ _ (λ p. bind_to (Done (alone p)) (alone p) (λ s. Done (behind p s)) refl) ∙
    sym (bind_to (Done first) first (λ s. port_of defs output s.table m >>= λ p. Done (then_port s p)) refl)
turns_more defs output (l ∷ ms) m d =
    bind_same (port_of defs output d l) _ _ (λ p. ap (λ r. r >>= λ s. Done (behind p s)) (turns_more defs output ms m (entered p d)) ∙ regrouped (turns defs output ms (entered p d))
    (λ e. port_of defs output e m) p) ∙
    sym (bind_again (port_of defs output d l) _ _)

-- 'width 0 or over 255' is 13 at the declared name
pub sized_exact : (x : Token) (n : ℕ) → Exactly 13 x.at (λ c. (c ≡ n) × (1 ≤ c) × (c ≤ max_width)) (sized x n)
sized_exact x n =
    exactly_if 13 x.at (leb 1 n && leb n max_width)
    (λ e. exactly 13 x.at (refl, leb-true 1 n (and_left (leb 1 n) (leb n max_width) e), leb-true n max_width (and_right (leb 1 n) (leb n max_width) e)))
    (λ e c h.
    let low = h.1 in
    let high = h.2 in
    let fits = ap₂ ◌&&◌ (le-leb 1 n (omega (arith, h.0))) (le-leb n max_width (omega (arith, h.0))) in
    false≢true (sym e ∙ fits))

-- a declared signal or bus: its name, and its width, that of an expression or of its enumeration's words
module _ (defs : List Definition) (output : Bool) (d : Table) (x : Token) where
  pub single_port : port_of defs output d (OneSignal x) ≡ Done (record { name = x; output = output; width = 0; words = [] })
  single_port = refl

  pub width_port : (e : Expr) (n : ℕ) → value (defining (declared d) defs) e ≡ Done (Number n) →
      Exactly 13 x.at (λ p. (c : ℕ) × (p ≡ record { name = x; output = output; width = c; words = [] }) × ((c ≡ n) × (1 ≤ c) × (c ≤ max_width))) (port_of defs output d (OfWidth x e))
  unfolding ◌>>=◌
  width_port e n h = rw h (exactly_as 13 x.at (λ c. record { name = x; output = output; width = c; words = [] }) (sized x n) (sized_exact x n))

  pub type_port : (u : Token) →
      Exactly 13 x.at
      (λ p. (c : ℕ) × (p ≡ record { name = x; output = output; width = c; words = words_of_type defs u }) × ((c ≡ word_width (words_of_type defs u)) × (1 ≤ c) × (c ≤ max_width)))
      (port_of defs output d (OfType u x))
  type_port u = exactly_as 13 x.at (λ c. record { name = x; output = output; width = c; words = words_of_type defs u }) _ (sized_exact x (word_width (words_of_type defs u)))

-- 'parameters, widths of inputs then outputs', with the names of all signals and identifiers before them
pub record InTurn (x : Spec) (d : Declarations) : Type 0 where
  pub parameters : Table
  pub after_inputs : Turns
  pub after_outputs : Turns
  pub worked : constants x.parameters (waiting (inputs x.main) (waiting (outputs x.main) (identifiers x.definitions))) ≡ Done parameters
  pub inputs_sized : turns x.definitions false (inputs x.main) parameters ≡ Done after_inputs
  pub outputs_sized : turns x.definitions true (outputs x.main) after_inputs.table ≡ Done after_outputs
  pub names : d.table ≡ after_outputs.table
  pub input_ports : d.inputs ≡ after_inputs.ports
  pub output_ports : d.outputs ≡ after_outputs.ports

done-one : {A : Type 0} {a b : A} → ◌≡◌ {A = Result A} (Done a) (Done b) → a ≡ b
done-one e = cc

pub in_turn_lem : (x : Spec) (d : Declarations) → declarations x ≡ Done d → InTurn x d
in_turn_lem x d e =
    let a = bind_done (constants x.parameters _) _ e in
    let b = bind_done (turns x.definitions false (inputs x.main) a.0) _ a.2 in
    let c = bind_done (turns x.definitions true (outputs x.main) b.0.table) _ b.2 in
    let whole = sym (done-one c.2) in
    record {
      parameters = a.0;
      after_inputs = b.0;
      after_outputs = c.0;
      worked = a.1;
      inputs_sized = b.1;
      outputs_sized = c.1;
      names = ap (λ (w : Declarations). w.table) whole;
      input_ports = ap (λ (w : Declarations). w.inputs) whole;
      output_ports = ap (λ (w : Declarations). w.outputs) whole;
    }
