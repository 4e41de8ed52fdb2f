-- MAIN's subsections go about their tokens as ReaderLaws says: INPUTS and OUTPUTS are supplied where they have not stood, then `}`. As many readings are left as
-- headings that have not stood, and one.
use Rattle.std.specs.Prelude.{ℕ, zero, suc, ◌+◌, ◌≤◌, List, [], ◌∷◌, ◌++◌, Bool, true, false, ◌&&◌, ◌||◌, ◌≡◌, refl, eqb}
use Rattle.std.proofs.Math.Option.{Option, none, some}
use Rattle.std.proofs.Common.{sym, ap, ◌∙◌, subst, arith, eq-eqb}
use Rattle.node.specs.Result.{Done, Refused, ◌>>=◌}
use Rattle.node.proofs.ResultLaws.{bind_to}
use Rattle.language.specs.Bytes.{is_one_of}
use Rattle.language.specs.Tokens.{Fixed, Token, is_of, is}
use Rattle.language.specs.Tree.{Subsection, Inputs, Outputs, Lines}
use Rattle.language.specs.Grammar.{Tokens, Read, front, rest, stop, expect, named}
use Rattle.language.specs.Sections.{expression, block_of, declaration_of, Heading, InputsHere, OutputsHere, LinesHere, HeadingRow, headings, seen, heading_of, subsection_of, subsections_of}
use Rattle.language.proofs.Laws.Basics.Lists.{All, Any}
use Rattle.language.proofs.Laws.Basics.Tests.{pick, leave, some_none, and_false}
use Rattle.language.proofs.Laws.Grammar.TreeTokens.{InSubsection}
use Rattle.language.proofs.Laws.Grammar.Lookahead.{alike-front, begins_any, Near, alike, opened}
use Rattle.language.proofs.Laws.Grammar.ReaderLaws.{Reads, prefixed, transfer, rephrase, some_taken, narrow, done}
use Rattle.language.proofs.Laws.Grammar.ReadersInRow.{bind}
use Rattle.language.proofs.Laws.Grammar.TokenReads.{sign, Is, follows_at, brace, expect-reads}
use Rattle.language.proofs.Laws.Grammar.ExprReads.{row-inner}
use Rattle.language.proofs.Laws.Grammar.ListReads.{blockOf-reads}
use Rattle.language.proofs.Laws.Grammar.SectionReads.{expression_none, declaration_none, expression-reads, declaration_of-reads}

-- the subsections from the one with a heading on, or the end of MAIN
abbrev pub subsections_by : ℕ → List ℕ → Tokens → Option HeadingRow → Read (List Subsection)
subsections_by f before ts o =
    elim o [
      | some r ↦ subsection_of r.heading (rest ts) >>= λ (s, ts). subsections_of f (r.number ∷ before) ts >>= λ (ss, ts). Done (s ∷ ss, ts)
      | none ↦ elim (seen before 0 && seen before 1) [ true ↦ expect "}" ts >>= λ (c, ts). Done ([], ts) | false ↦ stop ts ]
    ]

pub subsections_step : (f : ℕ) (before : List ℕ) (o : Option HeadingRow) (ts : Tokens) → heading_of headings before (front ts) ≡ o → subsections_of (suc f) before ts ≡ subsections_by f before ts o
subsections_step f before o ts e = ap (subsections_by f before ts) e

heading_none : (rs : List HeadingRow) (before : List ℕ) (t : Token) → is_of Fixed t ≡ false → heading_of rs before t ≡ none
heading_none [] before t e = refl
heading_none (r ∷ rs) before t e = leave (named r.names t) _ (heading_of rs before t) (and_false (is_of Fixed t) (is_one_of r.names t.text) e) ∙ heading_none rs before t e

-- how many of the headings have not stood
abbrev absent : List ℕ → ℕ → ℕ
absent before n = elim (seen before n) [ true ↦ 0 | false ↦ 1 ]

abbrev missing : List HeadingRow → List ℕ → ℕ
missing [] before = 0
missing (r ∷ rs) before = absent before r.number + missing rs before

absent_less : (n m : ℕ) (before : List ℕ) → absent (n ∷ before) m ≤ absent before m
absent_less n m before = go (eqb n m) (seen before m)
  where
    go : (c d : Bool) → (elim (c || d) as (λ _. ℕ) [ true ↦ 0 | false ↦ 1 ]) ≤ (elim d as (λ _. ℕ) [ true ↦ 0 | false ↦ 1 ])
    go true true = omega arith
    go true false = omega arith
    go false true = omega arith
    go false false = omega arith

absent_now : (n : ℕ) (before : List ℕ) → absent (n ∷ before) n ≡ 0
absent_now n before = pick (eqb n n || seen before n) 0 1 (ap (λ c. c || seen before n) (eq-eqb n n refl))

missing_less : (n : ℕ) (rs : List HeadingRow) (before : List ℕ) → missing rs (n ∷ before) ≤ missing rs before
missing_less n [] before = omega arith
missing_less n (r ∷ rs) before = omega (arith, absent_less n r.number before, missing_less n rs before)

number_of : Option HeadingRow → ℕ
number_of none = 0
number_of (some r) = r.number

heading-found : (rs : List HeadingRow) (before : List ℕ) (t : Token) (r : HeadingRow) → heading_of rs before t ≡ some r → suc (missing rs (r.number ∷ before)) ≤ missing rs before
unfolding number_of
heading-found [] before t r e = absurd (some_none (sym e))
heading-found (q ∷ rs) before t r e = go (named q.names t) refl (seen before q.number) refl (heading-found rs before t r)
  where
    go : (c : Bool) → named q.names t ≡ c → (d : Bool) → seen before q.number ≡ d → (heading_of rs before t ≡ some r → suc (missing rs (r.number ∷ before)) ≤ missing rs before)
        → suc (missing (q ∷ rs) (r.number ∷ before)) ≤ missing (q ∷ rs) before
    go true z true w later = absurd (some_none (sym e ∙ pick (named q.names t) _ _ z ∙ pick (seen before q.number) none (some q) w))
    go true z false w later =
        let same : some q ≡ some r = sym (pick (named q.names t) _ _ z ∙ leave (seen before q.number) none (some q) w) ∙ e in
        let now : absent before q.number ≡ 1 = leave (seen before q.number) 0 1 w in
        subst (λ n. suc (missing (q ∷ rs) (n ∷ before)) ≤ missing (q ∷ rs) before) (ap number_of same) (omega (arith, now, absent_now q.number before, missing_less q.number rs before))
    go false z d w later = let l = later (sym (leave (named q.names t) _ _ z) ∙ e) in omega (arith, l, absent_less r.number q.number before)

-- tokens with which MAIN ends, whatever stands behind them
record Finish (f : ℕ) (before : List ℕ) : Type 0 where
  ending : Tokens
  value : List Subsection
  accepted : (us : Tokens) → subsections_of f before (ending ++ us) ≡ Done (value, us)

finish-all : (f : ℕ) (before : List ℕ) → seen before 0 ≡ true → seen before 1 ≡ true → Finish (suc f) before
finish-all f before e₀ e₁ =
    record {
      ending = sign "}" ∷ [];
      value = [];
      accepted = λ us. pick (seen before 0 && seen before 1) _ _ (ap (λ c. c && seen before 1) e₀ ∙ e₁) ∙ bind_to (expect "}" (sign "}" ∷ us)) (sign "}", us) _ refl;
    }

finish-step : (f : ℕ) (before : List ℕ) (t : Token) (r : HeadingRow) (s : Subsection) → heading_of headings before t ≡ some r
    → ((us : Tokens) → subsection_of r.heading (sign "{" ∷ sign "}" ∷ us) ≡ Done (s, us)) → Finish f (r.number ∷ before) → Finish (suc f) before
finish-step f before t r s e z h =
    record {
      ending = t ∷ sign "{" ∷ sign "}" ∷ h.ending;
      value = s ∷ h.value;
      accepted = λ us.
          subsections_step f before (some r) (t ∷ sign "{" ∷ sign "}" ∷ (h.ending ++ us)) e ∙ bind_to (subsection_of r.heading (sign "{" ∷ sign "}" ∷ (h.ending ++ us))) (s, h.ending ++ us) _
          (z (h.ending ++ us))
          ∙ bind_to (subsections_of f (r.number ∷ before) (h.ending ++ us)) (h.value, us) _ (h.accepted us);
    }

block_empty : (us : Tokens) → block_of declaration_of (sign "{" ∷ sign "}" ∷ us) ≡ Done ([], us)
block_empty us = bind_to (expect "{" (sign "{" ∷ sign "}" ∷ us)) (sign "{", sign "}" ∷ us) _ refl

finish-outputs : (f : ℕ) (before : List ℕ) → suc (absent before 1) ≤ f → seen before 0 ≡ true → Finish f before
finish-outputs f before h e₀ = go f (seen before 1) refl h
  where
    go : (f : ℕ) (c : Bool) → seen before 1 ≡ c → suc (absent before 1) ≤ f → Finish f before
    go zero c e h = absurd (omega arith)
    go (suc f) true e h = finish-all f before e₀ e
    go (suc zero) false e h = absurd (let one : absent before 1 ≡ 1 = leave (seen before 1) 0 1 e in omega arith)
    go (suc (suc f)) false e h =
        finish-step (suc f) before (sign "OUTPUTS") (record { names = "OUTPUTS" ∷ []; number = 1; heading = OutputsHere }) (Outputs []) (leave (seen before 1) none _ e)
        (λ us. bind_to (block_of declaration_of (sign "{" ∷ sign "}" ∷ us)) ([], us) _ (block_empty us)) (finish-all f (1 ∷ before) e₀ refl)

finish : (f : ℕ) (before : List ℕ) → suc (missing headings before) ≤ f → Finish f before
finish f before h = go f (seen before 0) refl h
  where
    go : (f : ℕ) (c : Bool) → seen before 0 ≡ c → suc (missing headings before) ≤ f → Finish f before
    go zero c e h = absurd (omega arith)
    go (suc f) true e h = finish-outputs (suc f) before (omega arith) e
    go (suc f) false e h =
        let one : absent before 0 ≡ 1 = leave (seen before 0) 0 1 e in
        finish-step f before (sign "INPUTS") (record { names = "INPUTS" ∷ []; number = 0; heading = InputsHere }) (Inputs []) (leave (seen before 0) none _ e)
        (λ us. bind_to (block_of declaration_of (sign "{" ∷ sign "}" ∷ us)) ([], us) _ (block_empty us)) (finish-outputs f (0 ∷ before) (omega arith) refl)

subsection_of-reads : {W : Token → Type 0} (P : Token → Type 0) (h : Heading) (b : ℕ) (ts : Tokens)
    → Reads Subsection P (InSubsection P) (Is (sign "{")) W b 1 ts (subsection_of h ts) (λ k us. subsection_of h us)
subsection_of-reads P InputsHere b ts = bind (block_of declaration_of ts) _ _ (blockOf-reads declaration_of declaration_none (λ t e. ap (is "}") e) (declaration_of-reads P) b ts) λ ds rs l. done
    (Inputs ds) (λ v. v)
subsection_of-reads P OutputsHere b ts = bind (block_of declaration_of ts) _ _ (blockOf-reads declaration_of declaration_none (λ t e. ap (is "}") e) (declaration_of-reads P) b ts) λ ds rs l. done
    (Outputs ds) (λ v. v)
subsection_of-reads P (LinesHere p) b ts =
    bind (block_of expression ts) _ _ (blockOf-reads expression expression_none (λ t e. ap (is "}") e) (λ c us. narrow _ (follows_at brace) (expression-reads P c us)) b ts) λ es rs l. done
    (Lines p es) (λ v. v)

near_none : (before : List ℕ) (ts us : Tokens) → heading_of headings before (front ts) ≡ none → Near (Is (sign "}")) ts us → heading_of headings before (front us) ≡ none
near_none before ts us e (alike h) = ap (heading_of headings before) (alike-front ts us h) ∙ e
near_none before ts [] e (opened v) = absurd v
near_none before ts (u ∷ us) e (opened v) = ap (heading_of headings before) v

pub subsections_of-reads : {W : Token → Type 0} (P : Token → Type 0) (f : ℕ) (before : List ℕ) → suc (missing headings before) ≤ f → (b : ℕ) (ts : Tokens)
    → Reads (List Subsection) P (All (InSubsection P)) Any W b 0 ts (subsections_of f before ts) (λ k us. subsections_of f before us)
subsections_of-reads P zero before h b ts = absurd (omega arith)
subsections_of-reads {W} P (suc f) before h b ts = go ts (heading_of headings before (front ts)) refl (subsections_of-reads P f)
  where
    R : ℕ → Tokens → Read (List Subsection)
    R k us = subsections_of (suc f) before us

    closing : (ts : Tokens) → heading_of headings before (front ts) ≡ none → (c : Bool) → (seen before 0 && seen before 1) ≡ c
        → Reads (List Subsection) P (All (InSubsection P)) Any W b 0 ts (subsections_of (suc f) before ts) R
    closing ts e true z =
        let isEnd : (us : Tokens) → heading_of headings before (front us) ≡ none → subsections_of (suc f) before us ≡ (expect "}" us >>= λ (c, vs). Done ([], vs)) =
        λ us w. subsections_step f before none us w ∙ pick (seen before 0 && seen before 1) _ _ z in
        subst (λ r. Reads (List Subsection) P (All (InSubsection P)) Any W b 0 ts r R) (sym (isEnd ts e))
        (transfer _ (λ t v. tt) (some_taken (bind (expect "}" ts) _ _ (expect-reads b ts "}") λ c rs l. done [] (λ _. tt))) (λ k us w l. isEnd us (near_none before ts us e w)))
    closing ts e false z =
        let isStop : (us : Tokens) → heading_of headings before (front us) ≡ none → subsections_of (suc f) before us ≡ Refused 4 (front us).at =
        λ us w. subsections_step f before none us w ∙ leave (seen before 0 && seen before 1) _ _ z in
        let c = finish (suc f) before h in
        subst (λ r. Reads (List Subsection) P (All (InSubsection P)) Any W b 0 ts r R) (sym (isStop ts e))
        (record {
          says = (
            refl,
            record {
              taken = [];
              left = ts;
              whole = refl;
              inner = tt;
              place = refl;
              again = λ k us w l. isStop us (ap (heading_of headings before) (alike-front ts us w) ∙ e) ∙ ap (λ (t : Token). Refused 4 t.at) (alike-front ts us w);
              completes = record { ending = c.ending; value = c.value; enough = omega arith; accepted = λ k us w l. c.accepted us; opens = λ us w. opened (begins_any W c.ending us w) };
            },
          );
        })

    go : (ts : Tokens) (o : Option HeadingRow) → heading_of headings before (front ts) ≡ o →
        ((bs : List ℕ) → suc (missing headings bs) ≤ f → (b : ℕ) (us : Tokens) → Reads (List Subsection) P (All (InSubsection P)) Any W b 0 us (subsections_of f bs us) (λ k vs. subsections_of f bs vs))
        →
        Reads (List Subsection) P (All (InSubsection P)) Any W b 0 ts (subsections_of (suc f) before ts) R
    go ts none e later = closing ts e (seen before 0 && seen before 1) refl
    go [] (some r) e later = absurd (some_none (sym e))
    go (t ∷ ts) (some r) e later =
        prefixed {b' = b} {d' = 0} R t _ (row-inner t (heading_of headings before t) r (heading_none headings before t) e) (omega arith) (omega arith)
        (rephrase _ (subsections_step f before (some r) (t ∷ ts) e) (λ k us. subsections_step f before (some r) (t ∷ us) e)
        (some_taken (bind (subsection_of r.heading ts) _ _ (subsection_of-reads P r.heading b ts) λ s rs l.
        bind (subsections_of f (r.number ∷ before) rs) _ _ (later (r.number ∷ before) (omega (arith, heading-found headings before t r e)) b rs) λ ss rs₂ l₂.
        done (s ∷ ss) (λ v' v _. (v, v')))))
