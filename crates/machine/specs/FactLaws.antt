-- Notes of declared names: by their sort, by what a name means, and where kept sets stay.
use Rattle.std.specs.Prelude.{ℕ, zero, suc, ◌≤◌, List, [], ◌≡◌, refl}
use Rattle.std.proofs.Common.{sym, ap, ◌∙◌, subst, arith}
use Rattle.node.specs.Result.{Result, Done, Refused}
use Rattle.language.specs.Tokens.{End, Token, tokens}
use Rattle.language.specs.DeclaredNames.{Declared, Constant, Single, BusOf, Identifies, WaitingBus, value_at}
use Rattle.language.specs.Values.{Value, Number, Set, Logic, Bus, Unsized, Choice}
use Rattle.name_values.specs.World.{Meaning, Stands, Defines, NoValue}
use Rattle.name_values.specs.Facts.{IsNumber, IsBody, IsBus, IsIdentifier}
use Rattle.name_values.specs.Sorts as Sort
use Rattle.operands.specs.Working.{Source}
use Rattle.machine.specs.Memory.{Keeps}
use Rattle.machine.specs.MemoryLaws.{held_kept}
use Rattle.machine.specs.Notes.{IsKeptSet, Fact}

-- what is said by a note of a sort
abbrev pub Says : Source → List ℕ → Meaning → (sort n a : ℕ) → Type 0
Says s mem m zero n a = IsNumber m n
Says s mem m (suc zero) n a = IsBody m n
Says s mem m (suc (suc zero)) n a = IsBus m n
Says s mem m (suc (suc (suc zero))) n a = m ≡ Stands Single
Says s mem m (suc (suc (suc (suc zero)))) n a = IsKeptSet mem m n a
Says s mem m (suc (suc (suc (suc (suc zero))))) n a = IsIdentifier (tokens s.text) s.work m n
Says s mem m (suc (suc (suc (suc (suc (suc k)))))) n a = m ≡ NoValue

pub fact_of : {s : Source} {mem : List ℕ} {m : Meaning} {sort n a : ℕ} (k : ℕ) → k ≤ Sort.nothing → sort ≡ k → Says s mem m k n a → Fact s mem m sort n a
fact_of {s} {mem} {m} {sort} {n} {a} k l q h =
    let said : (i : ℕ) → sort ≡ i → Says s mem m i n a = λ i e. subst (λ (j : ℕ). Says s mem m j n a) (sym q ∙ e) h in
    record {
      sorted = omega arith;
      number = said Sort.number;
      body = said Sort.body;
      bus = said Sort.bus;
      signal = said Sort.signal;
      set = said Sort.set;
      identifier = said Sort.identifier;
      nothing = said Sort.nothing;
    }

-- notes stay where kept sets do
module _ {mem mem' : List ℕ} (g : Keeps mem mem') where
  set_keeps : {m : Meaning} {n a : ℕ} → IsKeptSet mem m n a → IsKeptSet mem' m n a
  set_keeps {a = a} k =
      let e = g.more in
      let b = k.below in
      let l = k.above in
      let z = k.size in
      record {
        set = k.set;
        stands = k.stands;
        fine = k.fine;
        size = k.size;
        above = k.above;
        below = omega arith;
        held = held_kept mem mem' a k.set (λ i p q. g.kept i (omega arith) (omega arith)) k.held;
      }

  pub fact_keeps : {s : Source} {m : Meaning} {sort n a : ℕ} → Fact s mem m sort n a → Fact s mem' m sort n a
  fact_keeps x = record {
    sorted = x.sorted;
    number = x.number;
    body = x.body;
    bus = x.bus;
    signal = x.signal;
    set = λ e. set_keeps (x.set e);
    identifier = x.identifier;
    nothing = x.nothing;
  }

-- the sort of what stands for a value, of a value, of a meaning
abbrev sort_of : Declared → ℕ
sort_of (Constant n) = Sort.number
sort_of Single = Sort.signal
sort_of (BusOf n) = Sort.bus
sort_of (Identifies ws) = Sort.identifier
sort_of WaitingBus = Sort.bus

abbrev value_sort : Result Value → ℕ
value_sort (Done (Number n)) = Sort.number
value_sort (Done (Set l)) = Sort.set
value_sort (Done Logic) = Sort.signal
value_sort (Done (Bus p x n)) = Sort.bus
value_sort (Done (Unsized p)) = Sort.bus
value_sort (Done (Choice ws)) = Sort.identifier
value_sort (Refused n p) = Sort.nothing

abbrev meaning_sort : Meaning → ℕ
meaning_sort (Stands d) = sort_of d
meaning_sort (Defines n c e) = Sort.body
meaning_sort NoValue = Sort.nothing

value_sort_lem : (t : Token) (d : Declared) → value_sort (Done (value_at t d)) ≡ sort_of d
value_sort_lem t (Constant n) = refl
value_sort_lem t Single = refl
value_sort_lem t (BusOf n) = refl
value_sort_lem t (Identifies ws) = refl
value_sort_lem t WaitingBus = refl

abbrev anywhere : Token
anywhere = record { class = End; at = 0; text = [] }

-- a name is noted by its sort
noted_sort : {s : Source} {mem : List ℕ} {n a : ℕ} (d : Declared) (sort : ℕ) → Fact s mem (Stands d) sort n a → sort_of d ≡ sort
noted_sort d zero f = sym (value_sort_lem anywhere d) ∙ ap value_sort ((f.number refl).stands anywhere)
noted_sort d (suc zero) f = ap meaning_sort (f.body refl).defines
noted_sort {n = n} d (suc (suc zero)) f = go n refl
  where
    go : (k : ℕ) → n ≡ k → sort_of d ≡ Sort.bus
    go zero e = ap meaning_sort ((f.bus refl).waiting e)
    go (suc k) e = ap meaning_sort ((f.bus refl).sized (omega arith))
noted_sort d (suc (suc (suc zero))) f = ap meaning_sort (f.signal refl)
noted_sort d (suc (suc (suc (suc zero)))) f = sym (value_sort_lem anywhere d) ∙ ap value_sort ((f.set refl).stands anywhere)
noted_sort d (suc (suc (suc (suc (suc zero))))) f = ap meaning_sort (f.identifier refl).identifies
noted_sort d (suc (suc (suc (suc (suc (suc zero)))))) f = ap meaning_sort (f.nothing refl)
noted_sort d (suc (suc (suc (suc (suc (suc (suc k))))))) f = let l = f.sorted in absurd (omega arith)

pub same-stands : {d e : Declared} → Stands d ≡ Stands e → d ≡ e
same-stands e = cc

same_width : {n v : ℕ} → BusOf v ≡ BusOf n → n ≡ v
same_width e = cc

pub same-words : {ws us : List Token} → Identifies ws ≡ Identifies us → us ≡ ws
same-words e = cc

no_width : {v : ℕ} → BusOf v ≡ WaitingBus → ◌≡◌ {A = ℕ} 0 1
no_width e = cc

module _ {s : Source} {mem : List ℕ} {m : Meaning} {sort n a : ℕ} (f : Fact s mem m sort n a) where
  as-stands : {d : Declared} → m ≡ Stands d → Fact s mem (Stands d) sort n a
  as-stands e = subst (λ (y : Meaning). Fact s mem y sort n a) e f

  -- of a bus its width, of an identifier its entry
  pub noted_width : {v : ℕ} → m ≡ Stands (BusOf v) → n ≡ v
  noted_width {v} e = go n refl
    where
      go : (k : ℕ) → n ≡ k → n ≡ v
      go zero z = let y = no_width (same-stands (sym e ∙ (f.bus (sym (noted_sort (BusOf v) sort (as-stands e)))).waiting z)) in absurd (omega arith)
      go (suc k) z = same_width (same-stands (sym e ∙ (f.bus (sym (noted_sort (BusOf v) sort (as-stands e)))).sized (omega arith)))

  pub noted_identifier : {ws : List Token} → m ≡ Stands (Identifies ws) → IsIdentifier (tokens s.text) s.work m n
  noted_identifier {ws} e = f.identifier (sym (noted_sort (Identifies ws) sort (as-stands e)))
