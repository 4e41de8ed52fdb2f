-- A recording longer than any of the format is refused by its header or by its length, so the answer on its beginning is the answer on the whole but for the length.
use Rattle.std.specs.Prelude.{ℕ, zero, suc, ◌+◌, ◌*◌, ◌/◌, ◌≤◌, ◌<◌, ◌≡◌, Bool, true, false, cond, ◌&&◌, List, leb, eqb, ltb, length, take, get_or}
use Rattle.std.proofs.Math.Path.{refl, ap}
use Rattle.std.proofs.Common.{ap₂, ◌∙◌, sym, get_or-take, mul-le-mul, arith, ne_eqb, eq-eqb, le-leb, lt-ltb}
use Rattle.std.proofs.lemmas.Bool.{lt-leb}
use Rattle.node.specs.Result.{Result, Done, Refused, ◌>>=◌}
use Rattle.node.specs.Returned.{Returned}
use Rattle.node.proofs.ResultLaws.{guard-done}
use Rattle.node.specs.Written.{nodes_of}
use Rattle.node.proofs.WrittenLaws.{table_of}
use Rattle.recordings.specs.Limits.{max_positions, max_signals, position_bits, start_bits, signal_bits, header_bits, header_bytes, longest, told}
use Rattle.bits.specs.Bits.{Values, digit, number}
use Rattle.bits.specs.BitLaws.{same_byte}
use Rattle.recordings.specs.Recording.{field_at, lasso_of, header_fits, readable, counted}
use Rattle.recordings.specs.RecordingLaws.{heads, filled_long, readable_header, readable_letters}
use Rattle.evaluator.specs.Evaluation.{rows_size, verdict_of, finds}
use Rattle.evaluator.proofs.EvaluationLaws.{bad_recording}
use Rattle.recordings.specs.declared.Lasso.{Lasso}
use Rattle.evaluator.specs.declared.Verdict.{Verdict}
use Rattle.language.specs.Limits.{work_bytes}
use Rattle.language.specs.Reading.{NumberedFormula, text_expansion}
use Rattle.language.proofs.Laws.Basics.Results.{refusal_of}
use Rattle.language.proofs.Laws.Meaning.Acceptance.{text-signals, list-limited}
use Rattle.claim.proofs.ClaimLaws.{text_few}
use Rattle.judging.specs.Judging.{verdict_on, judging}
use Rattle.judging.specs.Promise.{JudgesStart, JudgesText}
use Rattle.claim.proofs.DeliveredLaws.{taken-room}
use Rattle.faults.proofs.Delivered.{accepting, accepting-numbers}
use Rattle.judging.specs.Stages.{judging-accepting}
use Rattle.judging.specs.Longer.{Begins, place_told, moved}

number_same : (f g : Values) (n : ℕ) → ((i : ℕ) → i < n → f i ≡ g i) → number f n ≡ number g n
unfolding number
number_same f g zero h = refl
number_same f g (suc n) h = ap₂ (λ (x : ℕ) (y : Bool). x * 2 + digit y) (number_same f g n (λ i l. h i (omega arith))) (h n (omega arith))

-- the header stands in the first bytes
module _ (start whole : List ℕ) (h : header_bytes ≤ length start) (e : take (length start) whole ≡ start) where
  byte-same : (j : ℕ) → j < length start → get_or whole j 0 ≡ get_or start j 0
  byte-same j l = sym (get_or-take (length start) whole j 0 l) ∙ ap (λ (x : List ℕ). get_or x j 0) e

  field_same : (at count : ℕ) → at + count ≤ header_bits → field_at whole at count ≡ field_at start at count
  field_same at count l = number_same _ _ count (λ i m. same_byte whole start (at + i) (byte-same ((at + i) / 8) (omega arith)))

  lasso_same : lasso_of whole ≡ lasso_of start
  lasso_same =
      let n = field_same 0 position_bits (omega arith) in
      let l = field_same position_bits start_bits (omega arith) in
      let k = field_same (position_bits + start_bits) signal_bits (omega arith) in
      rw (n, l, k) refl

-- a recording that is too long, on an accepted text
module _ (text : List ℕ) (c : NumberedFormula) (e : text_expansion text ≡ Done c) (bs : List ℕ) where
  abbrev signals : ℕ
  signals = length c.signals

  refused_by : {x y : ℕ} → readable signals bs (counted (lasso_of bs)) ≡ Refused x y → verdict_on bs c ≡ Refused x y
  unfolding verdict_of ◌>>=◌
  refused_by h =
      let few = list-limited text c e in
      rw (bad_recording (nodes_of c.formula) signals bs (rows_size (nodes_of c.formula) bs) few (table_of signals c.formula (omega arith) (text-signals text c e) (text_few text c e)) h) refl

  module _ (long : longest < length bs) where
    long-header : header_fits signals (lasso_of bs) ≡ false → verdict_on bs c ≡ Refused 20 0
    long-header f = refused_by (readable_header signals bs (counted (lasso_of bs)) (omega arith) refl f)

    long-letters : header_fits signals (lasso_of bs) ≡ true → verdict_on bs c ≡ Refused 20 (told (length bs))
    long-letters f =
        let w : Lasso = lasso_of bs in
        let h = heads signals w f in
        let few = list-limited text c e in
        let known = h.known in
        let k : w.k ≤ max_signals = omega arith in
        let bits : w.n * w.k ≤ max_positions * max_signals = mul-le-mul h.few k in
        refused_by (readable_letters signals bs (counted w) (omega arith) refl f ∙ filled_long bs w (counted w) (λ q. omega arith))

-- a length that is told is one
told_some : (place : ℕ) → 0 < place → 0 < told place
unfolding told
told_some place h = omega arith

-- refusals that keep their place, and the one that does not
module _ (size n p : ℕ) where
  pub place_other : (n ≡ 20 → ⊥) → p ≡ place_told size n p
  place_other h = ap (λ (b : Bool). cond (b && ltb 0 p) size p) (sym (ne_eqb n 20 h))

  pub place_header : p ≡ 0 → p ≡ place_told size n p
  place_header e = rw e (go (eqb n 20))
    where
      go : (b : Bool) → 0 ≡ cond (b && false) size 0
      go true = refl
      go false = refl

  pub place-length : n ≡ 20 → 0 < p → size ≡ place_told size n p
  place-length e l = ap₂ (λ (a b : Bool). cond (a && b) size p) (sym (eq-eqb n 20 e)) (sym (lt-ltb 0 p l))

-- the same recording's beginning
module _ (text start whole : List ℕ) {size : ℕ} (b : Begins start size whole) (long : longest < length start) where
  longer : longest < length whole
  longer = let r = taken-room (length start) whole (ap length b.front) in omega arith

  on_text : (c : NumberedFormula) → text_expansion text ≡ Done c → verdict_on whole c ≡ moved size (verdict_on start c)
  on_text c e = go (header_fits (length c.signals) (lasso_of start)) refl
    where
      header : header_fits (length c.signals) (lasso_of whole) ≡ header_fits (length c.signals) (lasso_of start)
      header = ap (header_fits (length c.signals)) (lasso_same start whole (omega arith) b.front)

      go : (f : Bool) → header_fits (length c.signals) (lasso_of start) ≡ f → verdict_on whole c ≡ moved size (verdict_on start c)
      go true f =
          long-letters text c e whole longer (header ∙ f) ∙ ap (Refused 20) (sym b.sized ∙ place-length size 20 (told (length start)) refl (told_some (length start) (omega arith)))
          ∙ ap (moved size) (sym (long-letters text c e start long f))
      go false f = long-header text c e whole longer (header ∙ f) ∙ ap (moved size) (sym (long-header text c e start long f))

  pub moved_verdict : (work : ℕ) → judging text whole work ≡ moved size (judging text start work)
  unfolding ◌>>=◌
  moved_verdict work =
      judging-accepting text whole work ∙ go (accepting text work) refl ∙ ap (moved size) (sym (judging-accepting text start work))
    where
      go : (r : Result NumberedFormula) → accepting text work ≡ r → r >>= verdict_on whole ≡ moved size (r >>= verdict_on start)
      go (Done c) e = on_text c (guard-done (leb work_bytes work) 17 0 (text_expansion text) e).1
      go (Refused n p) e = let low = refusal_of e (accepting-numbers text work) in ap (Refused n) (place_other size n p (λ q. omega arith))

-- the promise: of a recording that was judged whole, and of one that is too long
module _ {text start work work' : List ℕ} (size : ℕ) {v : Returned Verdict} (j : JudgesText text start work work' v) where
  abbrev chosen : Bool → Result Bool
  chosen b = cond b (judging text start (length work)) (moved size (judging text start (length work)))

  pub start-whole : length start ≤ longest → JudgesStart text start size work work' v
  start-whole h =
      record {
        tells = j.answer ∙ ap chosen (sym (le-leb (length start) longest h));
        answer = λ whole b. j.answer ∙ ap (λ (x : List ℕ). judging text x (length work)) (sym (b.enough h));
        work_left = j.work_left;
      }

  pub start_longer : {r : Returned Verdict} → longest < length start → finds r ≡ moved size (finds v) → JudgesStart text start size work work' r
  start_longer h e =
      let here = e ∙ ap (moved size) j.answer in
      record {
        tells = here ∙ ap chosen (sym (lt-leb (length start) longest h));
        answer = λ whole b. here ∙ sym (moved_verdict text start whole b h (length work));
        work_left = j.work_left;
      }
