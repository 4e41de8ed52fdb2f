-- The lines of an accepted text fit the table in which they are gathered, so each has its word there, and is counted.
use Rattle.std.specs.Prelude.{ℕ, ◌+◌, ◌≤◌, ◌<◌, List, ◌≡◌, length, Ok, Err}
use Rattle.std.proofs.Common.{sym, ap, ◌∙◌, subst, arith}
use Rattle.std.proofs.Math.Decide.{dec_lt}
use Rattle.node.specs.Limits.{max_nodes}
use Rattle.node.specs.Ltl.{Formula}
use Rattle.node.specs.Written.{count}
use Rattle.node.specs.Result.{Result, Done, Refused, ◌>>=◌}
use Rattle.node.proofs.ResultLaws.{not_done, bind_to, bind_refused}
use Rattle.node.specs.Answer.{Answer, says}
use Rattle.node.specs.declared.Refusal.{Refusal}
use Rattle.language.specs.Tree.{Model, Mealy, Moore, Spec}
use Rattle.language.specs.DeclaredNames.{Declarations}
use Rattle.language.specs.Numbering.{in_order, signal_list}
use Rattle.language.specs.Lines.{lines}
use Rattle.language.specs.Expansion.{Sections, gather, at_signals, define_all, expand_section, section, whole, expand}
use Rattle.language.specs.Shifting.{adapted}
use Rattle.language.specs.Reading.{NumberedFormula, delivered}
use Rattle.language.proofs.Laws.Meaning.ShiftLaws.{shifted-count}
use Rattle.parser.specs.declared.Facts.{Facts}
use Rattle.ports.specs.Signals.{Signals}
use Rattle.assembly.specs.Gathered.{in_turn, extent, Lined}
use Rattle.assembly.specs.WholeLaws.{whole-count}
use Rattle.ending.specs.Endings.{ended}
use Rattle.ending.proofs.EndingsLaws.{too_many_lem, few_signals_lem, too_large}
use Rattle.ending.specs.Listing.{start_of, Listing}
use Rattle.ending.specs.Finishing as Ending
use Rattle.ending.specs.Finishing.{Complete}
use Rattle.line_counts.specs.declared.LineCounts.{LineCounts}
use Rattle.line_counts.specs.Counting.{Counts}
use Rattle.line_counts.specs.Promise.{counts_of}
use Rattle.reader.specs.declared.expansion.Counted.{Counted}
use Rattle.reader.specs.Counting.{Finishes}

-- a refusal is not accepted
pub not_accepted_lem : {a : Answer} {u : Refusal} {n s : ℕ} → a ≡ Err u → a ≡ Ok (n, s) → ⊥
not_accepted_lem r e = not_done (sym (ap says r) ∙ ap says e)

pub finishes_refused : {x : Spec} {d : Declarations} {nodes signals nodes' signals' : List ℕ} {u : Refusal} {r : Counted} → r.answer ≡ Err u
    → Ending.Finishes x d nodes signals nodes' signals' (Err u) → Finishes x d nodes signals nodes' signals' r
finishes_refused {x} {d} {nodes} {signals} {nodes'} {signals'} a h =
    record { finishes = subst (Ending.Finishes x d nodes signals nodes' signals') (sym a) h; lines = λ n s e. absurd (not_accepted_lem a e) }

-- a formula is converted to one that has no fewer nodes
adapted-count : (a b : Model) (list : List ℕ) (f : Formula) → count f ≤ count (adapted a b list f)
adapted-count Mealy Mealy list f = omega arith
adapted-count Mealy Moore list f = shifted-count _ f
adapted-count Moore Mealy list f = shifted-count _ f
adapted-count Moore Moore list f = omega arith

module _ {f : Facts} {s : Signals} {words table list : List ℕ} {count at : ℕ} {x : Spec} {d : Declarations} (g : Complete f s words count table at list x d)
    {nodes signals nodes' signals' : List ℕ} {a : Answer} (h : Ending.Finishes x d nodes signals nodes' signals' a) where
  abbrev end : NumberedFormula → Result NumberedFormula
  end = delivered (length nodes) (length signals)

  abbrev result : Result NumberedFormula
  result = (expand x d (lines x d) >>= ended x d) >>= end

  module _ {n m : ℕ} (e : a ≡ Ok (n, m)) (ss : Sections) (made : gather (expand_section (define_all (at_signals d) x.definitions)) (lines x d) ≡ Done ss) where
    accepted : {number place : ℕ} → result ≡ Refused number place → ⊥
    accepted r = not_done (sym (bind_refused result _ _ _ r) ∙ sym h.answer ∙ ap says e)

    formula : expand x d (lines x d) ≡ Done (whole x.strict (section ss))
    formula = bind_to _ ss (λ ss. Done (whole x.strict (section ss))) made

    same : g.all ≡ in_turn ss
    same =
        let q : ◌≡◌ (Done g.all) (Done (in_turn ss)) = sym g.turned ∙ bind_to _ ss (λ ss. Done (in_turn ss)) made in
        let z : g.all ≡ in_turn ss = cc in
        z

    -- too many signals are refused by 15, too many nodes by 16
    not-many : (i : Signals) → Listing i d list → max_nodes < start_of i + extent (in_turn ss) → ⊥
    not-many (Ok k) t l =
        let list' = signal_list (in_order d) in
        let w = whole x.strict (section ss) in
        accepted (few_signals_lem end x d formula t.0
        ∙ too_large end (adapted x.semantics x.target list' w) list' (omega (arith, whole-count x.strict ss, adapted-count x.semantics x.target list' w)))
    not-many (Err p) t l = accepted (too_many_lem end x d formula t)

    fits : at ≤ max_nodes
    fits = go (dec_lt max_nodes at)
      where
        go : Dec (max_nodes < at) → at ≤ max_nodes
        go (yes l) = absurd (not-many s g.listing (subst (λ ls. max_nodes < start_of s + extent ls) same (g.gathered.many l)))
        go (no l) = omega arith

    counts-there : {k : LineCounts} → Counts words count k → k ≡ counts_of ss
    counts-there c = c.are ss table (subst (λ ls. Lined ls words count table) same (g.gathered.lined fits))

  pub finishes_counted : {k : LineCounts} → Counts words count k → Finishes x d nodes signals nodes' signals' (record { answer = a; lines = k })
  finishes_counted c = record { finishes = h; lines = λ n m e ss made. counts-there e ss made c }
