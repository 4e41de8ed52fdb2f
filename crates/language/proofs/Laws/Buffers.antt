-- What the reader leaves in the lent buffers (document 01, 'Refusals with their places'): the work buffer after every answer, the result buffers after an
-- accepted text and after a refusal, and the counts that it tells.
use Rattle.std.specs.Prelude.{ℕ, ◌≤◌, ◌<◌, ◌≡◌, refl, ◌&&◌, List, ◌++◌, leb, length, take, drop, get_or}
use Rattle.std.proofs.Common.{sym, ◌∙◌, length-append, length-drop, take_at, drop_at, arith, leb-true, leb-false, le-leb}
use Rattle.std.proofs.Math.Path.{ap, subst}
use Rattle.std.proofs.lemmas.Bool.{lt-leb}
use Rattle.basics.specs.Clearing.{cleared}
use Rattle.basics.specs.ClearingLaws.{length-cleared, get_or-cleared-below, get_or-cleared-above}
use Rattle.node.specs.Result.{Done, Refused, guard}
use Rattle.node.proofs.ResultLaws.{bind_done, guard-done, guard-pass, guard-stop}
use Rattle.node.specs.Written.{nodes_of, count}
use Rattle.node.proofs.WrittenLaws.{length_of}
use Rattle.language.specs.Limits.{work_bytes}
use Rattle.language.specs.Reading.{NumberedFormula, counts, text_expansion, delivered, reading, nodes_after, signals_after, work_after}
use Rattle.language.proofs.Laws.Basics.Tests.{split, and_left, and_right}

-- the work buffer
module _ (work : List ℕ) where
  -- what holds of the buffer with its first bytes cleared, and of one that is too short as it was, holds of the buffer afterwards
  after_is : (P : List ℕ → Type 0) → (work_bytes ≤ length work → P (cleared work_bytes work)) → (length work < work_bytes → P work) → P (work_after work)
  unfolding work_after
  after_is P long short = split P (leb work_bytes (length work)) (λ e. long (leb-true work_bytes (length work) e)) (λ e. short (leb-false work_bytes (length work) e))

  pub work_long : work_bytes ≤ length work → work_after work ≡ cleared work_bytes work
  work_long l = after_is (λ w. w ≡ cleared work_bytes work) (λ _. refl) (λ s. absurd (omega arith))

  pub work_length : length (work_after work) ≡ length work
  work_length = after_is (λ w. length w ≡ length work) (λ l. length-cleared work_bytes work) (λ l. refl)

  -- 'its first 65,536 bytes are zero after every answer'
  pub work_front_lem : work_bytes ≤ length work → (i d : ℕ) → i < work_bytes → get_or (work_after work) i d ≡ 0
  work_front_lem l i d m = after_is (λ w. get_or w i d ≡ 0) (λ _. get_or-cleared-below work_bytes work i d l m) (λ s. absurd (omega arith))

  -- 'bytes beyond are never touched'
  pub work_beyond : (i d : ℕ) → work_bytes ≤ i → get_or (work_after work) i d ≡ get_or work i d
  work_beyond i d m = after_is (λ w. get_or w i d ≡ get_or work i d) (λ _. get_or-cleared-above work_bytes work i d m) (λ _. refl)

  -- 'untouched by 17', which refuses every shorter buffer and no other
  pub work_short : length work < work_bytes → work_after work ≡ work
  work_short s = after_is (λ w. w ≡ work) (λ l. absurd (omega arith)) (λ _. refl)

-- 17: the buffer is shorter than 65,536 bytes
module _ (text : List ℕ) (work nodes signals : ℕ) where
  pub short_refused : work < work_bytes → reading text work nodes signals ≡ Refused 17 0
  unfolding reading
  short_refused l = guard-stop 17 0 _ (lt-leb work_bytes work l)

  pub long_reads : work_bytes ≤ work → reading text work nodes signals ≡ reading text work_bytes nodes signals
  unfolding reading guard
  long_reads l = guard-pass 17 0 _ (le-leb work_bytes work l)

-- a result laid at the front of a buffer: 'entries past an accepted result are unchanged'
pub record Laid (result before after : List ℕ) : Type 0 where
  pub front : take (length result) after ≡ result
  pub tail : drop (length result) after ≡ drop (length result) before
  pub same_length : length after ≡ length before

laid : (n : ℕ) (result before : List ℕ) → length result ≡ n → n ≤ length before → Laid result before (result ++ drop n before)
laid n result before e l =
    record {
      front = take_at result (drop n before) (length result) refl;
      tail = drop_at result (drop n before) (length result) refl ∙ ap (λ k. drop k before) (sym e);
      same_length = let parts = length-append result (drop n before) in let rest = length-drop n before in omega arith;
    }

-- what an accepted text leaves: its nodes and its signal list in front, and their numbers told
pub record Delivers (c : NumberedFormula) (nodes signals : List ℕ) : Type 0 where
  pub nodes_laid : Laid (nodes_of c.formula) nodes (nodes_after (Done c) nodes)
  pub signals_laid : Laid c.signals signals (signals_after (Done c) signals)
  pub nodes_told : (counts c).nodes ≡ length (nodes_of c.formula)
  pub signals_told : (counts c).signals ≡ length c.signals

-- what is delivered fits the buffers
module _ (nodes signals : List ℕ) (c : NumberedFormula) {d : NumberedFormula} (e : delivered (length nodes) (length signals) c ≡ Done d) where
  pub delivered-same : c ≡ d
  delivered-same = let g = (guard-done _ 18 0 _ e).1 in cc

  pub delivered-fits : (count c.formula ≤ length nodes) × (length c.signals ≤ length signals)
  delivered-fits =
      let nodesFit = leb (count c.formula) (length nodes) in
      let signalsFit = leb (length c.signals) (length signals) in
      let test = (guard-done (nodesFit && signalsFit) 18 0 _ e).0 in
      (leb-true _ _ (and_left nodesFit signalsFit test), leb-true _ _ (and_right nodesFit signalsFit test))

  -- and is laid at their front
  pub delivered-laid : Delivers d nodes signals
  delivered-laid =
      let told : length (nodes_of c.formula) ≡ count c.formula = length_of c.formula in
      subst (λ (x : NumberedFormula). Delivers x nodes signals) delivered-same
      (record {
        nodes_laid = laid (count c.formula) (nodes_of c.formula) nodes told delivered-fits.0;
        signals_laid = laid (length c.signals) c.signals signals refl delivered-fits.1;
        nodes_told = sym told;
        signals_told = refl;
      })

module _ (text : List ℕ) (work : ℕ) (nodes signals : List ℕ) where
  -- an accepted text is one that is delivered
  pub accepted_expansion : (c : NumberedFormula) → reading text work (length nodes) (length signals) ≡ Done c → (text_expansion text ≡ Done c) × (delivered (length nodes) (length signals) c ≡ Done c)
  unfolding reading
  accepted_expansion c e =
      let a = guard-done _ 17 0 _ e in
      let b = bind_done (text_expansion text) _ a.1 in
      let x = delivered-same nodes signals b.0 b.2 in
      (b.1 ∙ ap Done x, subst (λ (y : NumberedFormula). delivered (length nodes) (length signals) y ≡ Done c) x b.2)

  pub accepted_delivers : (c : NumberedFormula) → reading text work (length nodes) (length signals) ≡ Done c → Delivers c nodes signals
  accepted_delivers c e = delivered-laid nodes signals c (accepted_expansion c e).1

  -- 'a refused call changes none'
  pub refused-leaves : (n p : ℕ) → reading text work (length nodes) (length signals) ≡ Refused n p →
      (nodes_after (reading text work (length nodes) (length signals)) nodes ≡ nodes) × (signals_after (reading text work (length nodes) (length signals)) signals ≡ signals)
  refused-leaves n p e = (ap (λ r. nodes_after r nodes) e, ap (λ r. signals_after r signals) e)
