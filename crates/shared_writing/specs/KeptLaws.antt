-- A formula that was written is kept: it goes on standing as the array's table grows, and can be taken again without writing.
use Rattle.std.specs.Prelude.{ℕ, ◌-◌, ◌<◌, ◌≤◌, List, ◌≡◌}
use Rattle.std.proofs.Common.{sym, ◌∙◌, subst, arith}
use Rattle.std.proofs.Math.Decide.{dec_lt}
use Rattle.node.specs.Limits.{max_nodes, field_limit}
use Rattle.node.specs.Ltl.{Formula}
use Rattle.node.specs.Table.{tree_at}
use Rattle.sharing.specs.Sharing.{write}
use Rattle.sharing.proofs.StandsLaws.{Stands, found_inside, stands-found, stands-written, stands_longer}
use Rattle.sharing.proofs.TreeLaws.{Fits, found-tree}
use Rattle.shared_table.specs.Shared.{Shares, Shared}
use Rattle.shared_table.specs.SharedLaws.{shares_few, shares_one}
use Rattle.shared_writing.specs.Writing.{Stays, Wrote, Kept}
use Rattle.shared_writing.specs.StayLaws.{stays_same, stays_past}
use Rattle.shared_writing.specs.WritingLaws.{wrote-past}

pub kept-wrote : {f : Formula} {out out' : List ℕ} {at r : ℕ} → Shared out → r ≤ max_nodes → Wrote f out out' at r → Kept f out' r
kept-wrote {f} {out} {out'} {at} {r} s h w =
    let t = s.table in
    let d = w.held h t s.shares in
    let n = d.number in
    let same : (write t f).number ≡ r - 1 = omega arith in
    let stood : Stands (write t f).table f (r - 1) = subst (λ (k : ℕ). Stands (write t f).table f k) same (stands-written t f) in
    record {
      some = omega arith;
      stands = λ u q. subst (λ (x : List ℕ). Stands x f (r - 1)) (shares_one d.shares q) stood;
      signals = w.signals h;
    }

pub kept_stays : {f : Formula} {out out' : List ℕ} {n r v : ℕ} → Shared out → Stays out out' n r → Kept f out v → Kept f out' v
kept_stays {f} {out} {out'} {n} {r} {v} s p k =
    let t = s.table in
    let x = p.grown t s.shares in
    let g = x.grows in
    record {
      some = k.some;
      stands = λ u q. subst (λ (y : List ℕ). Stands y f (v - 1)) (sym g.grown ∙ shares_one x.shares q) (stands_longer t g.rest f (v - 1) (k.stands t s.shares));
      signals = k.signals;
    }

-- the tree of its node, in a table of the format
pub kept-tree : {f : Formula} {out t : List ℕ} {v : ℕ} → Kept f out v → Shares out t → Fits field_limit t → tree_at t (v - 1) ≡ f
kept-tree {f} {out} {t} {v} k q g =
    let few = shares_few q in
    found-tree field_limit t g (omega arith) f (v - 1) k.signals (stands-found t f (v - 1) (k.stands t q))

-- taken again
pub again : {f : Formula} {out : List ℕ} {at v : ℕ} → at ≤ max_nodes → Kept f out v → Wrote f out out at v
again {f} {out} {at} {v} h k = record {
  stays = stays_same out (λ _. h);
  held = λ _ t q.
      let s = k.stands t q in
      let n = s.1 in
      let i = k.some in
      record { shares = subst (Shares out) (sym s.0) q; number = omega arith };
  many = λ l _ t q.
      let i = found_inside t f (v - 1) (stands-found t f (v - 1) (k.stands t q)) in
      let few = shares_few q in
      absurd (omega arith);
  signals = λ _. k.signals;
}

pub again-past : {f : Formula} {out : List ℕ} {at r : ℕ} → max_nodes < at → max_nodes < r → Wrote f out out at r
again-past {out = out} h l = wrote-past (stays_past out l) h l

-- what was written is written, behind itself
pub wrote-again : {f : Formula} {out out' : List ℕ} {at r : ℕ} → Shared out → Wrote f out out' at r → Wrote f out' out' r r
wrote-again {f} {out} {out'} {at} {r} s w = go (dec_lt max_nodes r)
  where
    go : Dec (max_nodes < r) → Wrote f out' out' r r
    go (yes l) = again-past l l
    go (no l) = again (omega arith) (kept-wrote s (omega arith) w)
