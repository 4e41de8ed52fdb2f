-- The numbers of first signals are those of the definition.
use Rattle.std.specs.Prelude.{ℕ, ◌+◌, ◌<◌, List, [], ◌∷◌, ◌≡◌, refl, length, get_or, set}
use Rattle.std.proofs.Common.{◌∙◌, arith, length-set, get_or-set_same, get_or-set_other}
use Rattle.language.specs.Bytes.{same}
use Rattle.language.specs.Tokens.{Token}
use Rattle.language.specs.DeclaredNames.{Port}
use Rattle.language.specs.Numbering.{signals_of, first_of}
use Rattle.language.proofs.Laws.Basics.Lists.{All, all_more}
use Rattle.language.proofs.Laws.Basics.Tests.{pick, leave, same_refl}
use Rattle.language.proofs.Laws.Values.DistinctNames.{Apart, Distinct}
use Rattle.language.proofs.Laws.Values.PortLaws.{port_names}
use Rattle.ports.specs.Firsts.{numbered_from, Separate}

pub numbered-length : (R : Token → ℕ) (n : ℕ) (ps : List Port) (firsts : List ℕ) → length (numbered_from R n ps firsts) ≡ length firsts
numbered-length R n [] firsts = refl
numbered-length R n (p ∷ ps) firsts = numbered-length R (n + signals_of p) ps (set firsts (R p.name) n) ∙ length-set firsts (R p.name) n

-- a number that none of these names has
numbered_other : (R : Token → ℕ) (n : ℕ) (ps : List Port) (firsts : List ℕ) (r : ℕ) → All (λ q. r ≡ R q.name → ⊥) ps → get_or (numbered_from R n ps firsts) r 0 ≡ get_or firsts r 0
numbered_other R n [] firsts r h = refl
numbered_other R n (p ∷ ps) firsts r h = numbered_other R (n + signals_of p) ps (set firsts (R p.name) n) r h.1 ∙ get_or-set_other firsts (R p.name) r n 0 h.0

-- the number of the first signal of each name
pub firsts-told : (R : Token → ℕ) (n : ℕ) (ps : List Port) (firsts : List ℕ) → All (λ p. R p.name < length firsts) ps → Separate R ps → Distinct (port_names ps)
    → All (λ p. get_or (numbered_from R n ps firsts) (R p.name) 0 ≡ n + first_of ps p.name.text) ps
firsts-told R n [] firsts l s d = tt
firsts-told R n (p ∷ ps) firsts l s d = (
  numbered_other R (n + signals_of p) ps after (R p.name) s.0
      ∙ get_or-set_same firsts (R p.name) n 0 l.0
      ∙ (let z : first_of (p ∷ ps) p.name.text ≡ 0 = pick (same p.name.text p.name.text) _ _ (same_refl p.name.text) in omega arith),
  later ps d.0 (firsts-told R (n + signals_of p) ps after (all_more (λ q h. omega (arith, length-set firsts (R p.name) n)) ps l.1) s.1 d.1),
)
  where
    after : List ℕ
    after = set firsts (R p.name) n

    later : (qs : List Port) → All (Apart p.name) (port_names qs) → All (λ q. get_or (numbered_from R (n + signals_of p) ps after) (R q.name) 0 ≡ n + signals_of p + first_of ps q.name.text) qs
        → All (λ q. get_or (numbered_from R n (p ∷ ps) firsts) (R q.name) 0 ≡ n + first_of (p ∷ ps) q.name.text) qs
    later [] a h = tt
    later (q ∷ qs) a h = (
      h.0 ∙ (let z : first_of (p ∷ ps) q.name.text ≡ signals_of p + first_of ps q.name.text = leave (same p.name.text q.name.text) _ _ a.0 in omega arith),
      later qs a.1 h.1,
    )
