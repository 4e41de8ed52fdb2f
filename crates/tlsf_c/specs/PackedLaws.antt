-- Every refusal has a number that fits the packed word.
use Rattle.std.specs.Prelude.{ℕ, suc, ◌^◌, ◌<◌, Bool, true, false, ◌≡◌, refl, List, [], ◌∷◌, leb, length, Ok, Err}
use Rattle.std.proofs.Common.{sym, subst, arith}
use Rattle.node.specs.Limits.{max_nodes, field_limit}
use Rattle.node.specs.Ltl.{Formula}
use Rattle.node.specs.Returned.{Returned}
use Rattle.node.specs.Result.{Result, Done, Refused, ◌>>=◌, guard}
use Rattle.node.proofs.ResultLaws.{guard-done}
use Rattle.node.specs.Table.{node_fits, scanned, checked}
use Rattle.node.specs.Written.{nodes_of}
use Rattle.rewriter.specs.Rewriting.{target, fitting, rewriting}
use Rattle.recordings.specs.Recording.{filled, readable, lasso_of}
use Rattle.evaluator.specs.Evaluation.{evaluation, verdict_of}
use Rattle.recordings.specs.declared.Lasso.{Lasso}
use Rattle.language.specs.Limits.{work_bytes}
use Rattle.language.specs.Reading.{NumberedFormula, text_expansion, reading}
use Rattle.language.proofs.Laws.Basics.Results.{refusal_of}
use Rattle.claim.specs.Yields.{told}
use Rattle.claim.specs.Converting.{converting}
use Rattle.claim.proofs.RefusalNumbers.{UpTo, reading-numbers, converting-numbers}
use Rattle.lookahead.specs.Reaching.{Distance, Letters, Unbounded, reaching, valued}
use Rattle.basic.specs.Writing.{writing, bytes_told}
use Rattle.writer.specs.Numbers.{writing-number}
use Rattle.faults.specs.Diagnosing.{lined, finding, diagnosing}
use Rattle.faults.proofs.TextLaws.{lines_of_lem}
use Rattle.faults.proofs.Delivered.{accepting, accepting-numbers}
use Rattle.diagnosis.specs.Promise.{tells, valued as line_of}
use Rattle.diagnosis.specs.Stages.{diagnosing-accepting}
use Rattle.diagnosis.specs.declared.Diagnosis.{Diagnosis}
use Rattle.tlsf_c.specs.Packed.{Fits}
use Rattle.tlsf_c.specs.Promise.{counted, paired}

guard-fits : {A : Type 0} (b : Bool) (number place : ℕ) (r : Result A) → number < 2 ^ 31 → Fits r → Fits (guard b number place r)
unfolding guard
guard-fits true number place r h k = k
guard-fits false number place r h k = h

bind_fits : {A B : Type 0} (r : Result A) (f : A → Result B) → Fits r → ((a : A) → Fits (f a)) → Fits (r >>= f)
unfolding ◌>>=◌
bind_fits (Done a) f h k = k a
bind_fits (Refused number place) f h k = h

scanned-fits : {A : Type 0} (limit n : ℕ) (ws : List ℕ) (r : Result A) → Fits r → Fits (scanned limit n ws r)
unfolding scanned
scanned-fits limit n [] r h = h
scanned-fits limit n (w ∷ ws) r h = guard-fits (node_fits limit n w) 19 n (scanned limit (suc n) ws r) (omega arith) (scanned-fits limit (suc n) ws r h)

pub checked-fits : (limit : ℕ) (ws : List ℕ) → Fits (checked limit ws)
unfolding checked
checked-fits limit ws =
    guard-fits _ 19 0 _ (omega arith) (guard-fits _ 19 max_nodes _ (omega arith) (scanned-fits limit 0 ws (Done _) tt))

fitting-fits : (f : Formula) (room : ℕ) → Fits (fitting f room)
unfolding fitting
fitting-fits f room = guard-fits _ 16 0 _ (omega arith) (guard-fits _ 18 0 _ (omega arith) tt)

pub rewriting-fits : (number : ℕ) (nodes : List ℕ) (room : ℕ) → Fits (rewriting number nodes room)
unfolding rewriting
rewriting-fits number nodes room =
    guard-fits _ 21 0 _ (omega arith) (bind_fits (checked field_limit nodes) _ (checked-fits field_limit nodes) (λ c. fitting-fits (target number nodes) room))

filled-fits : {A : Type 0} (bs : List ℕ) (w : Lasso) (r : Result A) → Fits r → Fits (filled bs w r)
unfolding filled
filled-fits bs w r h = guard-fits _ 20 _ _ (omega arith) (guard-fits _ 20 _ r (omega arith) h)

readable-fits : {A : Type 0} (signals : ℕ) (bs : List ℕ) (r : Result A) → Fits r → Fits (readable signals bs r)
unfolding readable
readable-fits signals bs r h = guard-fits _ 20 _ _ (omega arith) (guard-fits _ 20 0 _ (omega arith) (filled-fits bs (lasso_of bs) r h))

pub evaluation-fits : (nodes : List ℕ) (signals : ℕ) (bs : List ℕ) (room : ℕ) → Fits (evaluation nodes signals bs room)
unfolding evaluation
evaluation-fits nodes signals bs room =
    guard-fits _ 15 0 _ (omega arith)
    (bind_fits (checked signals nodes) _ (checked-fits signals nodes) (λ c. readable-fits signals bs _ (guard-fits _ 23 0 _ (omega arith) (guard-fits _ 18 0 (Done c) (omega arith) tt))))

told-fits : (m : ℕ) → m < 2 ^ 31 → (r : Result NumberedFormula) → UpTo m r → Fits (told r)
unfolding ◌>>=◌
told-fits m l (Done c) h = tt
told-fits m l (Refused number place) h = let low = refusal_of refl h in omega arith

pub reading-fits : (text : List ℕ) (work nodes signals : ℕ) → Fits (told (reading text work nodes signals))
reading-fits text work nodes signals = told-fits 18 (omega arith) (reading text work nodes signals) (reading-numbers text work nodes signals)

pub converting-fits : (text : List ℕ) (number work nodes signals : ℕ) → Fits (told (converting text number work nodes signals))
converting-fits text number work nodes signals =
    told-fits 21 (omega arith) (converting text number work nodes signals) (converting-numbers text number work nodes signals)

valued_fits : (r : Result Distance) → Fits r → Fits (valued r)
valued_fits (Done (Letters n)) h = tt
valued_fits (Done Unbounded) h = tt
valued_fits (Refused number place) h = h

pub reaching-fits : (nodes : List ℕ) → Fits (valued (reaching nodes))
unfolding reaching
reaching-fits nodes = valued_fits (reaching nodes) (bind_fits (checked field_limit nodes) _ (checked-fits field_limit nodes) (λ c. tt))

pub writing-fits : (text : List ℕ) (work room : ℕ) → Fits (counted (bytes_told (writing text work room)))
unfolding ◌>>=◌
writing-fits text work room = go (writing text work room) refl
  where
    go : (r : Result (List ℕ)) → writing text work room ≡ r → Fits (counted (bytes_told r))
    go (Done s) e = tt
    go (Refused number place) e = let low = writing-number text work room e in omega arith

verdict_fits : (nodes : List ℕ) (signals : ℕ) (bs : List ℕ) (room : ℕ) → Fits (verdict_of nodes signals bs room)
unfolding verdict_of
verdict_fits nodes signals bs room = bind_fits (evaluation nodes signals bs room) _ (evaluation-fits nodes signals bs room) (λ c. tt)

-- of an accepted text the lines are never refused
finding-fits : (text : List ℕ) (c : NumberedFormula) → text_expansion text ≡ Done c → (bs : List ℕ) (b : Bool) → Fits (finding text bs b)
finding-fits text c e bs true = tt
finding-fits text c e bs false = bind_fits (lined text) _ (subst Fits (sym (lines_of_lem text c e).lining) tt) (λ m. tt)

diagnosing-fits : (text bs : List ℕ) (work room : ℕ) → Fits (diagnosing text bs work room)
unfolding ◌>>=◌
diagnosing-fits text bs work room = subst Fits (sym (diagnosing-accepting text bs work room)) (go (accepting text work) refl)
  where
    go : (r : Result NumberedFormula) → accepting text work ≡ r → Fits (r >>= λ c. verdict_of (nodes_of c.formula) (length c.signals) bs room >>= finding text bs)
    go (Done c) e = bind_fits (verdict_of (nodes_of c.formula) (length c.signals) bs room) (finding text bs) (verdict_fits (nodes_of c.formula) (length c.signals) bs room)
        (finding-fits text c (guard-done (leb work_bytes work) 17 0 (text_expansion text) e).1 bs)
    go (Refused number place) e = let low = refusal_of e (accepting-numbers text work) in omega arith

told_line : (d : Returned Diagnosis) → Fits (tells d) → Fits (paired (line_of d))
told_line (Ok Diagnosis.Holds) h = tt
told_line (Ok (Diagnosis.Preset line)) h = tt
told_line (Ok (Diagnosis.Assert line)) h = tt
told_line (Ok (Diagnosis.Guarantee line)) h = tt
told_line (Err r) h = h

pub line-fits : (text bs : List ℕ) (work room : ℕ) (d : Returned Diagnosis) → tells d ≡ diagnosing text bs work room → Fits (paired (line_of d))
line-fits text bs work room d e = told_line d (subst Fits (sym e) (diagnosing-fits text bs work room))
