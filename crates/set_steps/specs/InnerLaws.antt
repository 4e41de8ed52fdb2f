-- What stands in braces: an element, where its expression is, and what follows it.
use Rattle.std.specs.Prelude.{ℕ, ◌-◌, ◌≤◌, ◌<◌, Bool, true, false, List, [], ◌++◌, ◌≡◌, refl, eqb, length}
use Rattle.std.proofs.lemmas.Bool.{false≢true}
use Rattle.std.proofs.Math.Option.{none}
use Rattle.std.proofs.Common.{sym, ap, ◌∙◌, subst, arith, length-append, eq-eqb, ne_eqb}
use Rattle.node.specs.Result.{Result, Done, Refused, ◌>>=◌}
use Rattle.language.specs.Tokens.{Token}
use Rattle.language.specs.Tree.{Expr, Named, Numeral, Truth, Index, Paren, Prefixed, Joined, Nexts, InWindow, Each, Between, Listed, Empty, Element, Range}
use Rattle.language.specs.Expansion.{Context}
use Rattle.language.specs.DeclaredNames.{Port}
use Rattle.language.specs.Sets.{insert}
use Rattle.language.specs.Values.{Value, Set, set, number}
use Rattle.language.proofs.Laws.Basics.Tests.{pick, leave}
use Rattle.language.specs.Braces.{Proper}
use Rattle.entries.specs.Kinds as Kind
use Rattle.entries.specs.Flat.{flat}
use Rattle.name_values.specs.World.{World}
use Rattle.name_values.proofs.KnownLaws.{own-more, known-element}
use Rattle.operands.specs.Entries.{kind_at, size_at}
use Rattle.operands.specs.Classes.{class_of}
use Rattle.operands.specs.ClassLaws.{has_entry, kind_of_lem, size_is}
use Rattle.operands.specs.Operands.{below}
use Rattle.operands.specs.Working.{Source}
use Rattle.machine.specs.Came.{Came, worth, as_number}
use Rattle.machine.specs.Realm.{OperandIn, Operand}
use Rattle.machine.specs.BindLaws.{take-number}
use Rattle.machine.specs.OperandLaws.{operand-view}
use Rattle.set_steps.specs.Braces.{element_at}

pub element_followed : (work : List ℕ) (j : ℕ) → kind_at work (j - 1) ≡ Kind.element → element_at work j ≡ j - 1 - size_at work (j - 1)
element_followed work j e = pick (eqb (kind_at work (j - 1)) Kind.element) _ _ (eq-eqb (kind_at work (j - 1)) Kind.element e)

pub element-last : (work : List ℕ) (j : ℕ) → (kind_at work (j - 1) ≡ Kind.element → ⊥) → element_at work j ≡ j - 1
element-last work j e = leave (eqb (kind_at work (j - 1)) Kind.element) _ _ (ne_eqb (kind_at work (j - 1)) Kind.element e)

-- as the code works it out
pub expression_followed : (work : List ℕ) (j : ℕ) {k i : ℕ} → k ≡ kind_at work (j - 1) → k ≡ Kind.element → i ≡ size_at work (j - 1) → j - 1 - i ≡ element_at work j
expression_followed work j ek q ei = ap (λ (y : ℕ). j - 1 - y) ei ∙ sym (element_followed work j (sym ek ∙ q))

pub expression-last : (work : List ℕ) (j : ℕ) {k : ℕ} → k ≡ kind_at work (j - 1) → (k ≡ Kind.element → ⊥) → j - 1 ≡ element_at work j
expression-last work j ek q = sym (element-last work j (λ h. q (ek ∙ h)))

element_by : (b : Bool) (j i : ℕ) → elim b [ true ↦ j - 1 - i | false ↦ j - 1 ] ≤ j
element_by true j i = omega arith
element_by false j i = omega arith

pub element-small : (work : List ℕ) (j : ℕ) → element_at work j ≤ j
element-small work j = element_by (eqb (kind_at work (j - 1)) Kind.element) j (size_at work (j - 1))

-- what stands in braces behind an element
pub data Further : Expr → Type 0 where
  nothing : Further Empty
  another : (a b : Expr) → Further (Element a b)

pub further : (e : Expr) → Proper true e → Further e
further (Named t) p = absurd (false≢true (sym p.0))
further (Numeral t) p = absurd (false≢true (sym p.0))
further (Truth t b) p = absurd (false≢true (sym p.0))
further (Index t e) p = absurd (false≢true (sym p.0))
further (Paren t e) p = absurd (false≢true (sym p.0))
further (Prefixed t o e) p = absurd (false≢true (sym p.0.0))
further (Joined t o a b) p = absurd (false≢true (sym p.0.0))
further (Nexts t n e) p = absurd (false≢true (sym p.0))
further (InWindow t o n m e) p = absurd (false≢true (sym p.0.0))
further (Each t o x i s e) p = absurd (false≢true (sym p.0.0))
further (Between t l h a b) p = absurd (false≢true (sym p.0.0))
further (Listed t es) p = absurd (false≢true (sym p.0))
further Empty p = nothing
further (Element a b) p = another a b
further (Range t x y z) p = absurd (false≢true (sym p.0))

-- an element at entry j: its expression, and what follows
pub record Inner (s : Source) (W : World) (ps : List Port) (env : List ℕ) (c : Context) (j : ℕ) (e es : Expr) : Type 0 where
  pub element : Operand s W ps env c (element_at s.work j) e
  pub rest : OperandIn s W ps true env c (j - 1) es
  pub last : es ≡ Empty → kind_at s.work (j - 1) ≡ Kind.element → ⊥
  pub inside : kind_at s.work (j - 1) ≡ Kind.element → size_at s.work (j - 1) < j
  pub under : element_at s.work j < j

no_element : (e : Expr) → Proper false e → (a b : Expr) → e ≡ Element a b → ⊥
no_element e p a b q = false≢true (subst (Proper false) q p).0

pub element-entry : (a b : Expr) → 0 < length (flat (Element a b))
element-entry a b = let z = own-more Kind.element none (flat a ++ flat b) in omega arith

empty-element : (a b : Expr) → Element a b ≡ Empty → ⊥
empty-element a b q = let z = element-entry a b in let y = ap (λ (e : Expr). length (flat e)) q in omega arith

module _ {s : Source} {W : World} {ps : List Port} {env : List ℕ} {c : Context} {j : ℕ} where
  inner_by : (e : Expr) {es : Expr} → Further es → OperandIn s W ps true env c j (Element e es) → Inner s W ps env c j e es
  inner_by e nothing p =
      let d = known-element e Empty p.known in
      let l = below Kind.element none (flat e ++ []) p.known.at in
      let y = has_entry e d.0.proper in
      let z = length-append (flat e) [] in
      let back : j - 1 - length (flat Empty) ≡ j - 1 = omega arith in
      let w : Operand s W ps env c (j - 1) e = subst (λ (i : ℕ). Operand s W ps env c i e) back (record { known = d.0; small = p.small; ports = p.ports; plain = p.plain }) in
      let n : kind_at s.work (j - 1) ≡ Kind.element → ⊥ = λ h. let v = operand-view w (ap class_of h) in no_element e d.0.proper v.0 v.1 v.2 in
      let q = element-last s.work j n in
      record {
        element = subst (λ (i : ℕ). Operand s W ps env c i e) (sym q) w;
        rest = record { known = d.1; small = p.small; ports = p.ports; plain = p.plain };
        last = λ r. n;
        inside = λ h. absurd (n h);
        under = omega arith;
      }
  inner_by e (another a b) p =
      let d = known-element e (Element a b) p.known in
      let l = below Kind.element none (flat e ++ flat (Element a b)) p.known.at in
      let y = has_entry e d.0.proper in
      let z = length-append (flat e) (flat (Element a b)) in
      let n : kind_at s.work (j - 1) ≡ Kind.element = kind_of_lem Kind.element none (flat a ++ flat b) d.1.at in
      let u = size_is (Element a b) (element-entry a b) d.1.at in
      let q = element_followed s.work j n in
      record {
        element = subst (λ (i : ℕ). Operand s W ps env c i e) (ap (λ (i : ℕ). j - 1 - i) (sym u) ∙ sym q) (record { known = d.0; small = p.small; ports = p.ports; plain = p.plain });
        rest = record { known = d.1; small = p.small; ports = p.ports; plain = p.plain };
        last = λ r. absurd (empty-element a b r);
        inside = λ h. omega arith;
        under = omega arith;
      }

  pub inner : (e es : Expr) → OperandIn s W ps true env c j (Element e es) → Inner s W ps env c j e es
  inner e es p = inner_by e (further es (known-element e es p.known).1.proper) p

pub no_more : {e : Expr} → Further e → length (flat e) < 1 → e ≡ Empty
no_more nothing l = refl
no_more (another a b) l = let z = element-entry a b in absurd (omega arith)

-- braces that are not empty
pub record Filled (es : Expr) : Type 0 where
  pub head : Expr
  pub others : Expr
  pub same : es ≡ Element head others

pub some_behind : {es : Expr} → Further es → (es ≡ Empty → ⊥) → Filled es
some_behind nothing h = absurd (h refl)
some_behind (another a b) h = record { head = a; others = b; same = refl }

pub none_behind : {es : Expr} → Further es → ((a b : Expr) → es ≡ Element a b → ⊥) → es ≡ Empty
none_behind nothing h = refl
none_behind (another a b) h = absurd (h a b refl)

pub filled : (t : Token) (n : ℕ) {es : Expr} → Further es → n ≡ length (flat (Listed t es)) → (n ≡ 1 → ⊥) → Filled es
filled t n nothing e h = absurd (h e)
filled t n (another a b) e h = record { head = a; others = b; same = refl }

-- the elements' clause as its frame has it
brace_by : (f : List ℕ → Result Came) (g : ℕ → List ℕ → Result Came) → ((n : ℕ) (l : List ℕ) → f (insert n l) ≡ g n l) → (a : Result ℕ) (b : Result (List ℕ))
    → (((a >>= λ n. b >>= λ l. Done (Set (insert n l))) >>= set) >>= f) ≡ (a >>= λ n. b >>= g n)
unfolding ◌>>=◌
brace_by f g h (Done n) (Done l) = h n l
brace_by f g h (Done n) (Refused i p) = refl
brace_by f g h (Refused i p) b = refl

pub brace_same : (a : Result Value) (b : Result (List ℕ)) (f : List ℕ → Result Came) (g : ℕ → List ℕ → Result Came) → ((n : ℕ) (l : List ℕ) → f (insert n l) ≡ g n l)
    → (((a >>= number >>= λ n. b >>= λ l. Done (Set (insert n l))) >>= set) >>= f) ≡ ((a >>= worth) >>= λ v. as_number v >>= λ n. b >>= g n)
brace_same a b f g h = brace_by f g h (a >>= number) b ∙ sym (take-number a (λ n. b >>= g n))
