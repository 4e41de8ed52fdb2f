-- Formulas in the table: one more, the last one, what stays of those before.
use Rattle.std.specs.Prelude.{ℕ, suc, ◌≤◌, min, List, [], ◌∷◌, ◌≡◌, refl, length}
use Rattle.std.proofs.Common.{sym, ap, ◌∙◌, subst, arith}
use Rattle.node.specs.Limits.{max_nodes}
use Rattle.node.specs.Ltl.{Formula}
use Rattle.node.specs.Postorder.{size}
use Rattle.writing.specs.Writing.{Wrote}
use Rattle.writing.specs.WritingLaws.{ends}
use Rattle.writing.specs.PartLaws.{length_stays}
use Rattle.writing.specs.StayLaws.{Stays, part_same}
use Rattle.name_values.specs.World.{World}
use Rattle.machine.specs.Notes.{Lasts, Lasting}
use Rattle.machine.specs.Holding.{Laying}
use Rattle.machine.specs.Table.{Began, Lays, Laid, end_of}

pub laid_none : (o : Began) → Laid o [] o.table o.index
unfolding Lays
laid_none o = record { lays = (refl, refl) }

pub laid_more : {o : Began} {ls : List Laying} {before out : List ℕ} {at n : ℕ} (f : Formula) → Laid o ls before at → Wrote f before out at n → Laid o (record { formula = f; end = n } ∷ ls) out n
unfolding Lays
laid_more f h w = record { lays = record { before = _; at = _; others = h.lays; wrote = w; ends = refl } }

-- the last one, and those before it
pub record Behind (o : Began) (ls : List Laying) (l : Laying) (out : List ℕ) (n : ℕ) : Type 0 where
  pub before : List ℕ
  pub at : ℕ
  pub others : Laid o ls before at
  pub wrote : Wrote l.formula before out at n

pub laid-last : {o : Began} {l : Laying} {ls : List Laying} {out : List ℕ} {n : ℕ} → Laid o (l ∷ ls) out n → Behind o ls l out n
unfolding Lays
laid-last h = let r = h.lays in record { before = r.before; at = r.at; others = record { lays = r.others }; wrote = r.wrote }

pub laid_end : {o : Began} (ls : List Laying) {out : List ℕ} {n : ℕ} → Laid o ls out n → n ≡ end_of o ls
unfolding Lays
laid_end [] h = h.lays.1
laid_end (l ∷ ls) h = sym h.lays.ends

-- as long as the table has room: its length, and that it begins where the run began
lays_sized : (o : Began) (ls : List Laying) (out : List ℕ) (n : ℕ) → Lays o ls out n → n ≤ max_nodes → (length out ≡ max_nodes) × (o.index ≤ n)
unfolding Lays
lays_sized o [] out n h l = (ap length h.0 ∙ o.sized (let e = h.1 in omega arith), (let e = h.1 in omega arith))
lays_sized o (x ∷ xs) out n h l =
    let e = ends h.wrote l in
    let i = lays_sized o xs h.before h.at h.others (omega arith) in
    (length_stays h.wrote.puts l ∙ i.0, (let j = i.1 in omega arith))

pub laid-sized : {o : Began} {ls : List Laying} {out : List ℕ} {n : ℕ} → Laid o ls out n → n ≤ max_nodes → length out ≡ max_nodes
laid-sized {o} {ls} {out} {n} h l = (lays_sized o ls out n h.lays l).0

pub laid_from : {o : Began} {ls : List Laying} {out : List ℕ} {n : ℕ} → Laid o ls out n → n ≤ max_nodes → o.index ≤ n
laid_from {o} {ls} {out} {n} h l = (lays_sized o ls out n h.lays l).1

pub laid_as : {o : Began} {ls ks : List Laying} {out : List ℕ} {n : ℕ} → ls ≡ ks → Laid o ls out n → Laid o ks out n
laid_as {o} {out = out} {n} e h = subst (λ (l : List Laying). Laid o l out n) e h

-- every index past the last stands for all of them
pub wrote-capped : {f : Formula} {out out' : List ℕ} {at n r : ℕ} → r ≡ min n (suc max_nodes) → Wrote f out out' at n → Wrote f out out' at r
wrote-capped {f} {out} {out'} {at} {n} {r} e w = record {
  puts = record { stored = λ l. let q : n ≡ r = omega arith in let p = w.puts.stored (omega arith) in record { next = sym q ∙ p.next; words = p.words }; many = λ l. w.puts.many (omega arith) };
  signals = λ l. w.signals (omega arith);
}

-- what is marked stays
lasts_stays : {W : World} {table table' : List ℕ} {n r q v : ℕ} → Stays table table' n r → Lasts W table n q v → Lasts W table' r q v
lasts_stays {W} {table} {table'} {n} {r} {q} {v} s h =
    record {
      formula = h.formula;
      given = h.given;
      from = h.from;
      noted = λ l. let f = s.further l in h.noted (omega arith);
      before = λ l. let f = s.further l in let g = h.before (omega arith) in omega arith;
      stands = λ l.
          let f = s.further l in
          let g = h.before (omega arith) in
          let t = h.stands (omega arith) in
          record { room = t.room; words = part_same h.from (size h.formula) table table' (λ i j. s.same l i (omega arith)) ∙ t.words; signals = t.signals };
    }

pub lasting_stays : {W : World} {mem table table' : List ℕ} {n r : ℕ} → Stays table table' n r → Lasting W mem table n → Lasting W mem table' r
lasting_stays s h = record { lasts = λ q l d. lasts_stays s (h.lasts q l d) }
