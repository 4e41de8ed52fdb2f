-- The numbers of the refusals: the reader's are at most 18, the converter's at most 21, and none is 14: 'Errors: 14 no longer occurs' (document 02, F-2).
use Rattle.std.specs.Prelude.{ℕ, ◌≤◌, ◌≡◌, refl, List, Bool, leb, length}
use Rattle.std.proofs.Common.{arith}
use Rattle.node.specs.Result.{Result, Done, Refused, ◌>>=◌, guard}
use Rattle.language.specs.Limits.{max_bytes}
use Rattle.language.specs.Tokens.{tokens}
use Rattle.language.specs.Tree.{Spec}
use Rattle.language.specs.Sections.{spec_of}
use Rattle.language.specs.Parsing.{well_formed, parsed}
use Rattle.language.specs.Reading.{NumberedFormula, spec_expansion, text_expansion, delivered, reading}
use Rattle.language.proofs.Laws.Basics.Lists.{Any, all_any}
use Rattle.language.proofs.Laws.Basics.Results.{Answers, done, refused, guarded, placed, bind, weaken, refusal_of}
use Rattle.language.proofs.Laws.Grammar.SpecReads.{spec_of_decides}
use Rattle.language.proofs.Laws.Types.LaterRefusals.{parsed-refused}
use Rattle.claim.specs.Converting.{in_form, formed, converting}

-- a refusal's number is at most m
abbrev pub UpTo : {A : Type 0} → ℕ → Result A → Type 0
UpTo m r = Answers (λ number place. number ≤ m) Any r

-- it is one of those, and not 14
abbrev Used : ℕ → ℕ → ℕ → Type 0
Used m number place = (number ≤ m) × (number ≡ 14 → ⊥)

abbrev Uses : {A : Type 0} → ℕ → Result A → Type 0
Uses m r = Answers (Used m) Any r

uses : {A : Type 0} (m : ℕ) (r : Result A) → ((number place : ℕ) → r ≡ Refused number place → Used m number place) → Uses m r
uses m (Done a) h = done tt
uses m (Refused n p) h = refused (h n p refl)

-- a test that refuses by a number
tested : {A : Type 0} {m : ℕ} (b : Bool) (number place : ℕ) {r : Result A} → Used m number place → Uses m r → Uses m (guard b number place r)
tested b number place l h = guarded b number place (λ _. l) (λ _. h)

parsed-numbers : (text : List ℕ) → Uses 10 (parsed text)
unfolding parsed
parsed-numbers text =
    let ts = tokens text in
    let grammar : Uses 10 (spec_of ts) = weaken (spec_of ts) (λ n p d. let four = d.0 in omega arith) (λ x _. tt) (spec_of_decides Any ts (all_any ts)) in
    tested (leb (length text) max_bytes) 1 _ (omega arith) (placed 2 _ (λ p _. omega arith) (placed 3 _ (λ p _. omega arith)
    (bind (spec_of ts) well_formed grammar λ x _.
    placed 5 _ (λ p _. omega arith) (placed 6 _ (λ p _. omega arith) (placed 7 _ (λ p _. omega arith) (placed 8 _ (λ p _. omega arith)
    (placed 9 _ (λ p _. omega arith) (placed 10 _ (λ p _. omega arith) (done tt)))))))))

expansion-numbers : (text : List ℕ) → Uses 16 (text_expansion text)
unfolding text_expansion ◌>>=◌
expansion-numbers text = go (parsed text) refl (parsed-numbers text)
  where
    go : (r : Result Spec) → parsed text ≡ r → Uses 10 r → Uses 16 (r >>= spec_expansion)
    go (Done x) e h = uses 16 (spec_expansion x) (λ n p q. let late = parsed-refused text x e n p q in (late.1, late.2))
    go (Refused n p) e h = let first = h.says in refused (omega (arith, first.0), first.1)

module _ (m : ℕ) (large : 18 ≤ m) where
  delivered-numbers : (nodes signals : ℕ) (c : NumberedFormula) → Uses m (delivered nodes signals c)
  delivered-numbers nodes signals c = tested _ 18 0 (omega arith) (done tt)

  expansion_up : (text : List ℕ) → Uses m (text_expansion text)
  expansion_up text = weaken (text_expansion text) (λ n p l. (omega (arith, l.0), l.1)) (λ c _. tt) (expansion-numbers text)

module _ (text : List ℕ) (work nodes signals : ℕ) where
  reading-uses : Uses 18 (reading text work nodes signals)
  unfolding reading
  reading-uses =
      tested _ 17 0 (omega arith) (bind (text_expansion text) _ (expansion_up 18 (omega arith) text) (λ c _. delivered-numbers 18 (omega arith) nodes signals c))

  pub reading-numbers : UpTo 18 (reading text work nodes signals)
  reading-numbers = weaken (reading text work nodes signals) (λ n p l. l.0) (λ c _. tt) reading-uses

  -- no reading is refused by 14
  pub reading-never : (place : ℕ) → reading text work nodes signals ≡ Refused 14 place → ⊥
  reading-never place e = (refusal_of e reading-uses).1 refl

module _ (text : List ℕ) (number work nodes signals : ℕ) where
  converting-uses : Uses 21 (converting text number work nodes signals)
  unfolding converting formed
  converting-uses =
      tested _ 17 0 (omega arith) (bind (text_expansion text) _ (expansion_up 21 (omega arith) text) (λ c _.
      tested _ 21 0 (omega arith) (tested _ 16 0 (omega arith) (delivered-numbers 21 (omega arith) nodes signals (in_form number c)))))

  pub converting-numbers : UpTo 21 (converting text number work nodes signals)
  converting-numbers = weaken (converting text number work nodes signals) (λ n p l. l.0) (λ c _. tt) converting-uses

  -- no conversion is refused by 14
  pub converting-never : (place : ℕ) → converting text number work nodes signals ≡ Refused 14 place → ⊥
  converting-never place e = (refusal_of e converting-uses).1 refl
