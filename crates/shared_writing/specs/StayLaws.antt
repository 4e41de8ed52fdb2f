-- Arrays whose tables have only grown, one after another; what was put into an array leaves it such a one.
use Rattle.std.specs.Prelude.{ℕ, suc, ◌<◌, ◌≤◌, min, List, ◌≡◌, refl, length}
use Rattle.std.proofs.Common.{sym, ◌∙◌, subst, arith}
use Rattle.std.proofs.Math.Decide.{dec_lt}
use Rattle.node.specs.Limits.{max_nodes}
use Rattle.sharing.specs.Sharing.{having}
use Rattle.sharing.proofs.WriteLaws.{grows_none, grows-more, having-grows}
use Rattle.shared_table.specs.Shared.{Shares, Shared, Puts}
use Rattle.shared_writing.specs.Writing.{Grown, Stays}

-- nothing was written
pub stays_same : (out : List ℕ) {n r : ℕ} → (r ≤ max_nodes → n ≤ max_nodes) → Stays out out n r
stays_same out h = record { long = refl; further = h; grown = λ t s. record { table = t; shares = s; grows = grows_none t } }

pub stays_none : (out : List ℕ) (n : ℕ) → Stays out out n n
stays_none out n = stays_same out (λ h. h)

pub stays_past : (out : List ℕ) {n r : ℕ} → max_nodes < r → Stays out out n r
stays_past out h = stays_same out (λ l. absurd (omega arith))

pub stays_then : {a b c : List ℕ} {l m n : ℕ} → Stays a b l m → Stays b c m n → Stays a c l n
stays_then p q = record {
  long = q.long ∙ p.long;
  further = λ h. p.further (q.further h);
  grown = λ t s.
      let x = p.grown t s in
      let y = q.grown x.table x.shares in
      record { table = y.table; shares = y.shares; grows = grows-more x.grows y.grows };
}

pub stays_shared : {out out' : List ℕ} {n r : ℕ} → Stays out out' n r → Shared out → Shared out'
stays_shared p h = let x = p.grown h.table h.shares in record { table = x.table; shares = x.shares }

-- every index past the last stands for all of them
pub stays_capped : {out out' : List ℕ} {m n r : ℕ} → r ≡ min n (suc max_nodes) → Stays out out' m n → Stays out out' m r
stays_capped e p = record { long = p.long; further = λ h. p.further (omega arith); grown = p.grown }

-- a word was put
pub puts_stays : {out out' : List ℕ} {n w r : ℕ} → n ≤ max_nodes → length out' ≡ length out → Puts out out' w r → Stays out out' n r
puts_stays {out} {out'} {n} {w} {r} h l p = record { long = l; further = λ _. h; grown = λ t s. go t s (dec_lt max_nodes r) }
  where
    go : (t : List ℕ) → Shares out t → Dec (max_nodes < r) → Grown t out'
    go t s (yes m) = record { table = t; shares = subst (λ (x : List ℕ). Shares x t) (sym (p.refused m t s).kept) s; grows = grows_none t }
    go t s (no f) = record { table = having t w; shares = (p.done (omega arith) t s).shares; grows = having-grows t w }
