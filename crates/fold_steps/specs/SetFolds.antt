-- A big operator of sets: its fold, and the operator between two sets that it folds with.
use Rattle.std.specs.Prelude.{ℕ, ◌≤◌, List, [], ◌∷◌, ◌≡◌, refl, length}
use Rattle.std.proofs.Common.{sym, ◌∙◌}
use Rattle.node.specs.Result.{Result, ◌>>=◌}
use Rattle.node.proofs.ResultLaws.{bind_again, bind_at, bind_same}
use Rattle.language.specs.Limits.{max_elements}
use Rattle.language.specs.Tokens.{Token}
use Rattle.language.specs.Operators.{Combination, Cup, Cap, Big, BigSum, BigProduct, BigCap, BigCup, BigAnd, BigOr}
use Rattle.language.specs.Tree.{Expr}
use Rattle.language.specs.Sets.{combine}
use Rattle.language.specs.Values.{Set, set, limited, onward, value}
use Rattle.language.specs.Expansion.{Context, at}
use Rattle.sets.specs.Operators.{combination}
use Rattle.operators.specs.Codes.{big_code}
use Rattle.memory_sets.specs.PlacedLaws.{cap_limited}
use Rattle.machine.specs.Came.{Evaluate, worth, works}
use Rattle.machine.specs.Frames.{NextSet, merging, set_at, onward_sets, apply}
use Rattle.machine.specs.Stack.{OfSets}
use Rattle.machine.specs.BindLaws.{take-set}

-- the fold over no element, and over one more
pub fold_end : (p : ℕ) (o : Big) (c : Context) (i : Token) (e : Expr) (a : List ℕ) → onward_sets p o c i e [] a ≡ worth (Set a)
fold_end p o c i e a = bind_at a (λ l. worth (Set l))

pub fold_more : (p : ℕ) (o : Big) (c : Context) (i : Token) (e : Expr) (v : ℕ) (rest a : List ℕ) → onward_sets p o c i e (v ∷ rest) a ≡ (works Evaluate (at c i v) e >>= apply (NextSet p o c i e a rest))
fold_more p o c i e v rest a =
    let step : List ℕ → List ℕ → Result (List ℕ) = merging p o in
    let f : ℕ → Result (List ℕ) = set_at c i e in
    let r = value (at c i v).values e in
    bind_again (r >>= set) (λ b. step a b >>= λ d. onward step f d rest) (λ l. worth (Set l))
    ∙ bind_same (r >>= set) _ _ (λ b. bind_again (step a b) (λ d. onward step f d rest) (λ l. worth (Set l)))
    ∙ sym (take-set r (λ b. step a b >>= onward_sets p o c i e rest))

-- the operator between two sets that a big one folds with
abbrev pub setwise : Big → Combination
setwise BigSum = Cap
setwise BigProduct = Cap
setwise BigCap = Cap
setwise BigCup = Cup
setwise BigAnd = Cap
setwise BigOr = Cap

pub setwise-code : (o : Big) → OfSets o → combination (big_code o) ≡ setwise o
setwise-code BigSum h = absurd h
setwise-code BigProduct h = absurd h
setwise-code BigCap h = refl
setwise-code BigCup h = refl
setwise-code BigAnd h = absurd h
setwise-code BigOr h = absurd h

-- an intersection is within the limit
pub merge_same : (p : ℕ) (o : Big) → OfSets o → (a b : List ℕ) → length a ≤ max_elements → limited p (combine (setwise o) a b) ≡ merging p o a b
merge_same p BigSum h a b l = absurd h
merge_same p BigProduct h a b l = absurd h
merge_same p BigCap h a b l = cap_limited p a b l
merge_same p BigCup h a b l = refl
merge_same p BigAnd h a b l = absurd h
merge_same p BigOr h a b l = absurd h
