-- 15 behind all lines, then what is handed over, is the definition's answer.
use Rattle.std.specs.Prelude.{ℕ, ◌≤◌, Bool, List, ◌≡◌, refl, eqb, length, take, Ok, Err}
use Rattle.std.proofs.Common.{ap, ◌∙◌, subst, length-take-le, arith}
use Rattle.node.specs.Ltl.{Formula}
use Rattle.node.specs.Result.{Result, Done, Refused, ◌>>=◌}
use Rattle.node.proofs.ResultLaws.{not_done}
use Rattle.node.specs.Answer.{Answer}
use Rattle.node.specs.Returned.{refusal}
use Rattle.language.specs.Tree.{Part, Model, Mealy, Moore, Spec}
use Rattle.language.specs.DeclaredNames.{Declarations}
use Rattle.language.specs.Numbering.{in_order, signal_list}
use Rattle.language.specs.Lines.{lines}
use Rattle.language.specs.Expansion.{Sections, gather, at_signals, define_all, expand_section, section, whole, expand}
use Rattle.language.specs.Shifting.{adapted}
use Rattle.language.specs.Reading.{NumberedFormula, delivered}
use Rattle.language.proofs.Laws.Values.SignalLaws.{signals_few}
use Rattle.parser.specs.declared.Facts.{Facts}
use Rattle.language.specs.Models.{model_code}
use Rattle.ports.specs.declared.TooMany.{TooMany}
use Rattle.ports.specs.Signals.{Signals}
use Rattle.assembly.specs.Gathered.{in_turn, Gathered, GatheredFrom, lines_in_turn}
use Rattle.ending.specs.Endings.{fitted}
use Rattle.ending.proofs.EndingsLaws.{too_many_lem, few_signals_lem}
use Rattle.ending.specs.Listing.{start_of, Listing}
use Rattle.ending.specs.Hands.{Hands}
use Rattle.ending.proofs.HandsLaws.{hands_as, hands_refused}
use Rattle.ending.specs.Handing.{Assemblable, as_expanded, as_shifted, HandsOver}
use Rattle.ending.specs.Finishing.{Complete, SomeComplete, Finishes}

-- models by their codes
pub alike : (a b : Model) (list : List ℕ) (f : Formula) → model_code a ≡ model_code b → as_expanded list f ≡ adapted a b list f
alike Mealy Mealy list f e = refl
alike Mealy Moore list f e = absurd (omega arith)
alike Moore Mealy list f e = absurd (omega arith)
alike Moore Moore list f e = refl

-- .. the outputs are late where the target is Moore
pub unlike : (a b : Model) (list : List ℕ) (f : Formula) → (model_code a ≡ model_code b → ⊥) → as_shifted (eqb (model_code b) (model_code Moore)) list f ≡ adapted a b list f
unlike Mealy Mealy list f e = absurd (e refl)
unlike Mealy Moore list f e = refl
unlike Moore Mealy list f e = refl
unlike Moore Moore list f e = absurd (e refl)

-- lines that are all worked out make a formula of their sections
pub record Sectioned (x : Spec) (d : Declarations) (all : List (Part × Formula)) : Type 0 where
  pub sections : Sections
  pub same : all ≡ in_turn sections
  pub is : expand x d (lines x d) ≡ Done (whole x.strict (section sections))

sectioned : (x : Spec) (d : Declarations) {all : List (Part × Formula)} → lines_in_turn x d (lines x d) ≡ Done all → Sectioned x d all
unfolding ◌>>=◌
sectioned x d {all} e = go (gather (expand_section (define_all (at_signals d) x.definitions)) (lines x d)) refl e
  where
    go : (s : Result Sections) → gather (expand_section (define_all (at_signals d) x.definitions)) (lines x d) ≡ s → (s >>= λ ss. Done (in_turn ss)) ≡ Done all → Sectioned x d all
    go (Done ss) q e = record { sections = ss; same = (let z : all ≡ in_turn ss = cc in z); is = ap (λ (r : Result Sections). r >>= λ ss. Done (whole x.strict (section ss))) q }
    go (Refused n p) q e = absurd (not_done e)

module _ {f : Facts} {s : Signals} {words table list : List ℕ} {count at : ℕ} {x : Spec} {d : Declarations} (g : Complete f s words count table at list x d) (nodes signals : List ℕ) where
  abbrev end : NumberedFormula → Result NumberedFormula
  end = delivered (length nodes) (length signals)

  made : Sectioned x d g.all
  made = sectioned x d g.turned

  pub finish_many : {e : TooMany} → s ≡ Err e → Finishes x d nodes signals nodes signals (Err (refusal 15 e.place))
  finish_many q = hands_refused nodes signals (too_many_lem end x d made.is (subst (λ i. Listing i d list) q g.listing))

  -- what is made of the formula is its conversion from the stated model to the targeted one
  finish_as : (make : List ℕ → Formula → Formula) → ((l : List ℕ) (h : Formula) → make l h ≡ adapted x.semantics x.target l h)
      → {n : ℕ} {nodes' signals' : List ℕ} {r : Answer} → s ≡ Ok n → HandsOver make f.strict words count table at (take n list) nodes signals nodes' signals' r
      → Finishes x d nodes signals nodes' signals' r
  finish_as make e {n} {nodes'} {signals'} {r} q o =
      let l : Listing (Ok n) d list = subst (λ i. Listing i d list) q g.listing in
      let t : Gathered (in_turn made.sections) words count table at =
      subst (λ a. Gathered a words count table at) made.same (subst (λ i. GatheredFrom (start_of i) g.all words count table at) q g.gathered) in
      let strict : f.strict ≡ x.strict = ap (λ (i : Facts). i.strict) g.facts in
      let formula : Bool → Formula = λ b. whole b (section made.sections) in
      let ends : List ℕ → Formula → Result NumberedFormula = λ a h. fitted h a >>= end in
      hands_as (few_signals_lem end x d made.is l.0)
      (subst (λ h. Hands (ends (signal_list (in_order d)) h) nodes signals nodes' signals' r) (e (signal_list (in_order d)) (formula x.strict))
      (subst (λ b. Hands (ends (signal_list (in_order d)) (make (signal_list (in_order d)) (formula b))) nodes signals nodes' signals' r) strict
      (subst (λ a. Hands (ends a (make a (formula f.strict))) nodes signals nodes' signals' r) l.1.1.0 (o.hands made.sections t))))

  module _ {n : ℕ} {nodes' signals' : List ℕ} {r : Answer} (q : s ≡ Ok n) where
    pub finish-few : f.semantics ≡ f.target → HandsOver as_expanded f.strict words count table at (take n list) nodes signals nodes' signals' r → Finishes x d nodes signals nodes' signals' r
    finish-few h o = finish_as as_expanded (λ l k. alike x.semantics x.target l k (subst (λ (i : Facts). i.semantics ≡ i.target) g.facts h)) q o

    pub finish-shifted : {outputs : Bool} → (f.semantics ≡ f.target → ⊥) → outputs ≡ eqb f.target 1
        → HandsOver (as_shifted outputs) f.strict words count table at (take n list) nodes signals nodes' signals' r → Finishes x d nodes signals nodes' signals' r
    finish-shifted {outputs} h e o =
        let target : outputs ≡ eqb (model_code x.target) (model_code Moore) = e ∙ ap (λ (i : Facts). eqb i.target (model_code Moore)) g.facts in
        finish_as (as_shifted outputs) (λ l k. ap (λ (b : Bool). as_shifted b l k) target ∙ unlike x.semantics x.target l k (subst (λ (i : Facts). i.semantics ≡ i.target → ⊥) g.facts h)) q o

-- what the handing over asks for
pub finish_gathering : {f : Facts} {s : Signals} {words table list : List ℕ} {count at n : ℕ} → SomeComplete f s words count table at list → s ≡ Ok n → Assemblable words count table at (take n list)
finish_gathering {f} {s} {words} {table} {list} {count} {at} {n} h q =
    let g = h.gathers in
    let l : Listing (Ok n) h.d list = subst (λ i. Listing i h.d list) q g.listing in
    let few = signals_few 0 (in_order h.d) (omega arith) l.0 in
    record {
      gathered = record { some = g.all; gathered = subst (λ i. GatheredFrom (start_of i) g.all words count table at) q g.gathered };
      few = omega (arith, l.1.0, length-take-le n list l.1.1.1);
    }

-- .. and that the list has so many signals
pub finish-listed : {f : Facts} {s : Signals} {words table list : List ℕ} {count at n : ℕ} → SomeComplete f s words count table at list → s ≡ Ok n → n ≤ length list
finish-listed {list = list} {n = n} h q =
    let l : Listing (Ok n) h.d list = subst (λ i. Listing i h.d list) q h.gathers.listing in
    l.1.1.1
