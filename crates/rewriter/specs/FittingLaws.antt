-- A formula's nodes in a table of the call's own: too many, too many for the buffer, or handed over.
use Rattle.std.specs.Prelude.{ℕ, ◌+◌, ◌-◌, ◌<◌, ◌≤◌, ◌≡◌, refl, List, ◌++◌, length, take, drop, Option, Some, None, Err}
use Rattle.std.proofs.Common.{ap, ap₂, ◌∙◌, sym, subst, take_at, zero-add, arith}
use Rattle.std.proofs.lemmas.List.Edits.{sets, sets-eq}
use Rattle.std.proofs.Math.Seq.{paste}
use Rattle.std.proofs.Math.Decide.{dec_lt}
use Rattle.node.specs.Limits.{max_nodes, field_limit}
use Rattle.node.specs.Formed.{Formed}
use Rattle.node.specs.Ltl.{Formula}
use Rattle.node.specs.Written.{nodes_of, count}
use Rattle.node.proofs.WrittenLaws.{length_of}
use Rattle.node.specs.Answer.{Answer}
use Rattle.node.specs.Returned.{refusal}
use Rattle.rewriter.specs.RewritingLaws.{fitting_many, fitting_short, fitting-good}
use Rattle.storing.specs.WrittenLaws.{written_from}
use Rattle.form_writers.specs.Writing.{Stored, Wrote, Ready}
use Rattle.rewriter.specs.Fitting.{Fitted, FittedTo, HandsOver}

counted : (f : Formula) {t t' : List ℕ} {n : ℕ} → Stored (nodes_of f) t t' 0 n → n ≡ count f
counted f s = s.next ∙ zero-add _ ∙ length_of f

-- more nodes than the table has entries
pub fitted_none : (f : Formula) (out : List ℕ) {t t' : List ℕ} {entries : ℕ} {w : Option ℕ} → length t ≡ entries → w ≡ None → Wrote w f t t' 0 → FittedTo entries f out out None
fitted_none f out {entries = entries} {w = w} e h p =
    let q = (written_from w f p).short h in
    let l : entries < count f = omega (arith, length_of f) in
    record { many = λ _. (l, refl); fitted = λ a q. absurd (cc) }

-- the nodes stand at the front of a table
written : (f : Formula) (t : List ℕ) → count f ≤ length t → take (count f) (sets t 0 (nodes_of f)) ≡ nodes_of f
written f t h =
    let room : 0 + length (nodes_of f) ≤ length t = omega (arith, length_of f) in
    ap (take (count f)) (sets-eq (nodes_of f) t 0 room) ∙ take_at (nodes_of f) (drop (0 + length (nodes_of f)) t) (count f) (length_of f)

-- and are handed over
pub fitted-over : (f : Formula) (out out' : List ℕ) {t t' : List ℕ} {w : Option ℕ} {n : ℕ} {r : Answer} → length t ≤ max_nodes → Wrote w f t t' 0
    → w ≡ Some n → HandsOver t' n out out' r → Fitted f out out' r
fitted-over f out out' {t} {t'} {w} {n} {r} few p m h = go (dec_lt (length out) n)
  where
    s : Stored (nodes_of f) t t' 0 n
    s = (written_from w f p).stored n m

    told : n ≡ count f
    told = counted f s

    most : count f ≤ max_nodes
    most = let q = s.room in omega (arith, told, few)

    go : Dec (length out < n) → Fitted f out out' r
    go (yes l) =
        let k : length out < count f = omega (arith, told) in
        rw ((h.short l).0, (h.short l).1) (record { answer = sym (fitting_short f (length out) most k); buffer = refl })
    go (no l) =
        let k : count f ≤ length out = omega (arith, told) in
        let c = h.copied (omega arith) in
        let room : count f ≤ length t = let q = s.room in omega (arith, told) in
        rw c.0 (record {
          answer = rw told (sym (fitting-good f (length out) most k));
          buffer = c.1 ∙ ap (λ (x : List ℕ). paste out 0 x n) s.entries ∙ ap (paste out 0 (sets t 0 (nodes_of f))) told
              ∙ ap₂ (λ (x : List ℕ) (y : ℕ). x ++ drop y out) (written f t room) (zero-add (count f));
        })

some_same : {a b : Answer} → ◌≡◌ {A = Option Answer} (Some a) (Some b) → a ≡ b
some_same e = cc

pub fitted_some : (f : Formula) (entries : ℕ) (out out' : List ℕ) {t t' : List ℕ} {w : Option ℕ} {n : ℕ} {r : Answer} → length t ≤ max_nodes → Wrote w f t t' 0
    → w ≡ Some n → HandsOver t' n out out' r → FittedTo entries f out out' (Some r)
fitted_some f entries out out' few p m h =
    record { many = λ q. absurd (cc); fitted = λ a q. subst (Fitted f out out') (some_same q) (fitted-over f out out' few p m h) }

-- 16: more than the largest table has entries
pub fitted_many : (f : Formula) {out out' : List ℕ} {r : Option Answer} → FittedTo max_nodes f out out' r → r ≡ None → Fitted f out out' (Err (refusal 16 0))
fitted_many f {out} t e = let m = t.many e in record { answer = sym (fitting_many f (length out) m.0); buffer = m.1 }

-- the root of a table, and a table to write to
pub root-ready : {nodes table : List ℕ} → Formed field_limit nodes → length table ≤ max_nodes → Ready nodes (length nodes - 1) table 0
root-ready f l = let p = f.some in record { formed = f; inside = omega arith; room = record { start = omega arith; few = l } }
