-- A value by the numbers that tell it; and what has come, as a value.
use Rattle.std.specs.Prelude.{ℕ, ◌<◌, ◌≤◌, List, ◌≡◌, refl}
use Rattle.std.proofs.Common.{sym, ap, ap₂, ◌∙◌, arith}
use Rattle.language.specs.Limits.{max_names, max_width}
use Rattle.language.specs.Tokens.{Token}
use Rattle.language.specs.Operators.{Comparison}
use Rattle.language.specs.DeclaredNames.{Port, BusOf, Identifies}
use Rattle.language.specs.Values.{Value, Number, Set, Logic, Bus, Unsized, Choice, misfit, number, bus, choice}
use Rattle.language.specs.Expansion.{compared}
use Rattle.name_values.specs.World.{World, Stands, name_at, meaning_at}
use Rattle.operands.specs.Working.{Source}
use Rattle.machine.specs.Came.{Came, Worth, Nodes, as_value}
use Rattle.machine.specs.Realm.{Realm}
use Rattle.machine.specs.Telling.{is_number, is_bus, is_unsized, is_choice, is_nodes, Tells}
use Rattle.machine.specs.Table.{Began}
use Rattle.machine.specs.States.{Come}
use Rattle.machine.specs.declared.Machine.{Machine}

-- a bus by its name's number, an identifier by its
pub record IsBus (W : World) (place r : ℕ) (v : Value) : Type 0 where
  pub width : ℕ
  pub same : v ≡ Bus place (name_at W r) width
  pub declared : r < max_names
  pub means : meaning_at W r ≡ Stands (BusOf width)
  pub small : width ≤ max_width

pub record IsChoice (W : World) (r : ℕ) (v : Value) : Type 0 where
  pub words : List Token
  pub same : v ≡ Choice words
  pub declared : r < max_names
  pub means : meaning_at W r ≡ Stands (Identifies words)

module _ (W : World) (mode value other : ℕ) where
  pub tells-number : (v : Value) → Tells W mode value other v → mode ≡ is_number → v ≡ Number value
  tells-number (Number n) t e = ap Number (sym t.value-is)
  tells-number (Set l) t e = let z = t.mode_is in absurd (omega arith)
  tells-number Logic t e = absurd (omega arith)
  tells-number (Bus p x n) t e = let z = t.mode_is in absurd (omega arith)
  tells-number (Unsized p) t e = let z = t.mode_is in absurd (omega arith)
  tells-number (Choice ws) t e = let z = t.mode_is in absurd (omega arith)

  pub tells-no_number : (v : Value) → Tells W mode value other v → (mode ≡ is_number → ⊥) → number v ≡ misfit
  tells-no_number (Number n) t e = absurd (e t.mode_is)
  tells-no_number (Set l) t e = refl
  tells-no_number Logic t e = refl
  tells-no_number (Bus p x n) t e = refl
  tells-no_number (Unsized p) t e = refl
  tells-no_number (Choice ws) t e = refl

  pub tells-bus : (v : Value) → Tells W mode value other v → mode ≡ is_bus → IsBus W value other v
  tells-bus (Number n) t e = let z = t.mode_is in absurd (omega arith)
  tells-bus (Set l) t e = let z = t.mode_is in absurd (omega arith)
  tells-bus Logic t e = absurd (omega arith)
  tells-bus (Bus p x n) t e =
      record { width = n; same = ap₂ (λ (i : ℕ) (y : List ℕ). Bus i y n) (sym t.place_is) (sym t.named); declared = t.declared; means = t.means; small = t.small }
  tells-bus (Unsized p) t e = let z = t.mode_is in absurd (omega arith)
  tells-bus (Choice ws) t e = let z = t.mode_is in absurd (omega arith)

  pub tells_unsized : (v : Value) → Tells W mode value other v → mode ≡ is_unsized → v ≡ Unsized value
  tells_unsized (Number n) t e = let z = t.mode_is in absurd (omega arith)
  tells_unsized (Set l) t e = let z = t.mode_is in absurd (omega arith)
  tells_unsized Logic t e = absurd (omega arith)
  tells_unsized (Bus p x n) t e = let z = t.mode_is in absurd (omega arith)
  tells_unsized (Unsized p) t e = ap Unsized (sym t.place_is)
  tells_unsized (Choice ws) t e = let z = t.mode_is in absurd (omega arith)

  pub tells_no_bus : (v : Value) → Tells W mode value other v → (mode ≡ is_bus → ⊥) → (mode ≡ is_unsized → ⊥) → bus v ≡ misfit
  tells_no_bus (Number n) t e d = refl
  tells_no_bus (Set l) t e d = refl
  tells_no_bus Logic t e d = refl
  tells_no_bus (Bus p x n) t e d = absurd (e t.mode_is)
  tells_no_bus (Unsized p) t e d = absurd (d t.mode_is)
  tells_no_bus (Choice ws) t e d = refl

  pub tells-choice : (v : Value) → Tells W mode value other v → mode ≡ is_choice → IsChoice W other v
  tells-choice (Number n) t e = let z = t.mode_is in absurd (omega arith)
  tells-choice (Set l) t e = let z = t.mode_is in absurd (omega arith)
  tells-choice Logic t e = absurd (omega arith)
  tells-choice (Bus p x n) t e = let z = t.mode_is in absurd (omega arith)
  tells-choice (Unsized p) t e = let z = t.mode_is in absurd (omega arith)
  tells-choice (Choice ws) t e = record { words = ws; same = refl; declared = t.declared; means = t.means }

  pub tells_no_choice : (v : Value) → Tells W mode value other v → (mode ≡ is_choice → ⊥) → choice v ≡ misfit
  tells_no_choice (Number n) t e = refl
  tells_no_choice (Set l) t e = refl
  tells_no_choice Logic t e = refl
  tells_no_choice (Bus p x n) t e = refl
  tells_no_choice (Unsized p) t e = refl
  tells_no_choice (Choice ws) t e = absurd (e t.mode_is)

  -- a set or a formula on the left
  pub tells_uncompared : (v : Value) → Tells W mode value other v → (mode ≡ is_number → ⊥) → (mode ≡ is_bus → ⊥) → (mode ≡ is_choice → ⊥) → (mode ≡ is_unsized → ⊥)
      → (ps : List Port) (o : Comparison) (y : Value) → compared ps o v y ≡ misfit
  tells_uncompared (Number n) t a b c d ps o y = absurd (a t.mode_is)
  tells_uncompared (Set l) t a b c d ps o y = refl
  tells_uncompared Logic t a b c d ps o y = refl
  tells_uncompared (Bus p x n) t a b c d ps o y = absurd (b t.mode_is)
  tells_uncompared (Unsized p) t a b c d ps o y = absurd (d t.mode_is)
  tells_uncompared (Choice ws) t a b c d ps o y = absurd (c t.mode_is)

  -- the last number tells a name, or nothing
  pub tells-again : (v : Value) → Tells W mode value other v → (r : ℕ) → (mode ≡ is_bus → r ≡ other) → (mode ≡ is_choice → r ≡ other) → Tells W mode value r v
  tells-again (Number n) t r a b = t
  tells-again (Set l) t r a b = t
  tells-again Logic t r a b = t
  tells-again (Bus p x n) t r a b =
      let e : r ≡ other = a t.mode_is in
      let l = t.declared in
      record { mode_is = t.mode_is; place_is = t.place_is; declared = omega arith; named = ap (name_at W) e ∙ t.named; means = ap (meaning_at W) e ∙ t.means; small = t.small }
  tells-again (Unsized p) t r a b = t
  tells-again (Choice ws) t r a b =
      let e : r ≡ other = b t.mode_is in
      let l = t.declared in
      record { mode_is = t.mode_is; declared = omega arith; means = ap (meaning_at W) e ∙ t.means }

  tells_mode : (v : Value) → Tells W mode value other v → mode < is_nodes
  tells_mode (Number n) t = let z = t.mode_is in omega arith
  tells_mode (Set l) t = let z = t.mode_is in omega arith
  tells_mode Logic t = omega arith
  tells_mode (Bus p x n) t = let z = t.mode_is in omega arith
  tells_mode (Unsized p) t = let z = t.mode_is in omega arith
  tells_mode (Choice ws) t = let z = t.mode_is in omega arith

-- what has come
pub record IsValue {s : Source} (R : Realm s) (m : Machine) (v : Came) : Type 0 where
  pub value : Value
  pub same : v ≡ Worth value
  pub tells : Tells R.W m.mode m.value m.from value

module _ {s : Source} (R : Realm s) (o : Began) (mem : List ℕ) (m : Machine) where
  pub came-value : (v : Came) → Come R o mem m v → (m.mode ≡ is_nodes → ⊥) → IsValue R m v
  came-value (Worth v) c e = record { value = v; same = refl; tells = c.tells }
  came-value (Nodes f) c e = absurd (e c)

  pub not-value : (v : Came) → Come R o mem m v → m.mode ≡ is_nodes → as_value v ≡ misfit
  not-value (Worth v) c e = let l = tells_mode R.W m.mode m.value m.from v c.tells in absurd (omega arith)
  not-value (Nodes f) c e = refl
