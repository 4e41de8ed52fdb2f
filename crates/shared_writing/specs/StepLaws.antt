-- What the writing functions ensure, from what was put: constants, signals, operators, and a next many times over.
use Rattle.std.specs.Prelude.{ℕ, suc, ◌-◌, ◌<◌, ◌≤◌, Bool, true, false, List, ◌≡◌, length}
use Rattle.std.proofs.Common.{sym, ◌∙◌, subst}
use Rattle.std.proofs.Math.Path.{ap}
use Rattle.node.specs.Limits.{max_nodes, field_limit}
use Rattle.node.specs.Ltl.{Unary, Formula, True, False, Signal}
use Rattle.node.specs.Fields.{pack}
use Rattle.node.specs.Kinds.{true_kind, false_kind, signal_kind}
use Rattle.node.specs.Postorder.{SignalsBelow}
use Rattle.sharing.specs.Sharing.{place, write}
use Rattle.shared_table.specs.Shared.{Puts}
use Rattle.shared_writing.specs.Writing.{Wrote, Caps, Joins, Nexts, truth, repeats}
use Rattle.shared_writing.specs.StayLaws.{stays_none, stays_past, stays_then, puts_stays}
use Rattle.shared_writing.specs.WritingLaws.{wrote-node, wrote_one, wrote-two, wrote_longer, rising, one_longer, none_one, none_two}

-- a formula of one node, which is the word that was put
module _ {out out' : List ℕ} {at w r : ℕ} (h : at ≤ max_nodes) (l : length out' ≡ length out) (p : Puts out out' w r) where
  leaf : (f : Formula) → SignalsBelow field_limit f → ((t : List ℕ) → write t f ≡ place t w) → Wrote f out out' at r
  leaf f s e = wrote-node h s (stays_none out at) l p (λ t q. record { table = t; shares = q; placed = e t })

  pub wrote_true : {b : Bool} → b ≡ true → w ≡ pack true_kind 0 0 → Wrote (truth b) out out' at r
  unfolding write SignalsBelow
  wrote_true e i = rw e (leaf True tt (λ t. ap (place t) (sym i)))

  pub wrote_false : {b : Bool} → b ≡ false → w ≡ pack false_kind 0 0 → Wrote (truth b) out out' at r
  unfolding write SignalsBelow
  wrote_false e i = rw e (leaf False tt (λ t. ap (place t) (sym i)))

  pub wrote-signal : {k : ℕ} → k < field_limit → w ≡ pack signal_kind k 0 → Wrote (Signal k) out out' at r
  unfolding write SignalsBelow
  wrote-signal {k} s i = leaf (Signal k) s (λ t. ap (place t) (sym i))

pub caps : {op m w r : ℕ} {out out' : List ℕ} → m ≤ max_nodes → length out' ≡ length out → w ≡ pack op (m - 1) 0 → Puts out out' w r → Caps op out out' m r
caps {op} {m} {w} {r} {out} {out'} h l e p = record {
  stays = puts_stays h l p;
  wrote = λ o k v. wrote_one o h v l (subst (λ (x : ℕ). Puts out out' x r) (e ∙ ap (λ (j : ℕ). pack j (m - 1) 0) k) p);
}

pub caps_none : {op m r : ℕ} {out : List ℕ} → (0 < m → max_nodes < m) → max_nodes < r → Caps op out out m r
caps_none {out = out} g h = record { stays = stays_past out h; wrote = λ o k v. none_one o g h (stays_past out h) v }

pub joins : {op m n w r : ℕ} {out out' : List ℕ} → n ≤ max_nodes → length out' ≡ length out → w ≡ pack op (m - 1) (n - 1) → Puts out out' w r → Joins op out out' m n r
joins {op} {m} {n} {w} {r} {out} {out'} h l e p = record {
  stays = puts_stays h l p;
  wrote = λ o k u v. wrote-two o h u v l (subst (λ (x : ℕ). Puts out out' x r) (e ∙ ap (λ (j : ℕ). pack j (m - 1) (n - 1)) k) p);
}

pub joins_none : {op m n r : ℕ} {out : List ℕ} → (0 < m → 0 < n → m ≤ max_nodes → max_nodes < n) → max_nodes < r → Joins op out out m n r
joins_none {out = out} g h = record { stays = stays_past out h; wrote = λ o k u v. none_two o g h (stays_past out h) u v }

pub nexts-start : {next : ℕ} {out : List ℕ} {m : ℕ} → Nexts next 0 out out m m
nexts-start {out = out} {m} = record { stays = stays_none out m; wrote = λ x k w. w }

pub nexts-more : (i : ℕ) {next : ℕ} {out between out' : List ℕ} {m r r' : ℕ} → Nexts next i out between m r → Caps next between out' r r' → Nexts next (suc i) out out' m r'
nexts-more i v u = record { stays = stays_then v.stays u.stays; wrote = λ x k w. u.wrote x k (v.wrote x k w) }

-- more of them need as much room
nexts_longer : (x : Unary) (i n : ℕ) → i ≤ n → (a : Formula) (t : List ℕ) → length (write t (repeats x i a)).table ≤ length (write t (repeats x n a)).table
nexts_longer x i n h a t = rising (λ (j : ℕ). length (write t (repeats x j a)).table) (λ j. one_longer x (repeats x j a) t) i n h

-- one after the other that do not fit
pub nexts_none : (i n : ℕ) {next : ℕ} {out out' : List ℕ} {m r r' : ℕ} → Nexts next i out out' m r → i ≤ n → max_nodes < r → max_nodes < r' → Nexts next n out out' m r'
nexts_none i n {out' = out'} v l h g = record {
  stays = stays_then v.stays (stays_past out' g);
  wrote = λ x k {a} w. wrote_longer (nexts_longer x i n l a) h g (v.wrote x k w);
}
