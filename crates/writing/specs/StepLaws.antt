-- What the writing functions ensure, from what crate storing has put: constants, signals, operators, and a next many times over.
use Rattle.std.specs.Prelude.{ℕ, zero, suc, ◌+◌, ◌-◌, ◌<◌, ◌≤◌, Bool, true, false, ◌≡◌, List, [], ◌∷◌, length, Option}
use Rattle.std.proofs.Common.{subst, arith}
use Rattle.std.specs.Option.{unwrap_or}
use Rattle.node.specs.Limits.{max_nodes, field_limit}
use Rattle.node.specs.Ltl.{Unary, Formula, True, False, Signal}
use Rattle.node.specs.Fields.{pack}
use Rattle.node.specs.Postorder.{size, SignalsBelow}
use Rattle.node.proofs.PostorderLaws.{size_pos}
use Rattle.storing.specs.Storing as Storing
use Rattle.writing.specs.Writing.{Puts, Wrote, Caps, Joins, Nexts, truth, repeats}
use Rattle.writing.specs.WritingLaws.{too_many, put_whole, past, wrote_one, wrote-two, wrote_none, past_one, past_two}

-- a formula that crate storing has written into a table of 8,192
module _ {out out' : List ℕ} {at r : ℕ} {o : Option ℕ} (l : length out ≡ max_nodes) (u : r ≡ unwrap_or o too_many) where
  whole : (f : Formula) → SignalsBelow field_limit f → Storing.Wrote o f out out' at → Wrote f out out' at r
  whole f s p = record { puts = put_whole o l u p; signals = λ h. s }

  pub wrote_true : {b : Bool} → b ≡ true → Storing.Wrote o True out out' at → Wrote (truth b) out out' at r
  unfolding SignalsBelow
  wrote_true e p = rw e (whole True tt p)

  pub wrote_false : {b : Bool} → b ≡ false → Storing.Wrote o False out out' at → Wrote (truth b) out out' at r
  unfolding SignalsBelow
  wrote_false e p = rw e (whole False tt p)

  pub wrote-signal : {k : ℕ} → k < field_limit → Storing.Wrote o (Signal k) out out' at → Wrote (Signal k) out out' at r
  unfolding SignalsBelow
  wrote-signal {k} s p = whole (Signal k) s p

-- behind the last node there is room for none
pub wrote-past : (f : Formula) {out out' : List ℕ} {at r : ℕ} → max_nodes < at → max_nodes < r → Wrote f out out' at r
wrote-past f h l = let some = size_pos f in wrote_none (omega arith) l

pub caps : {op m r : ℕ} {w : Option ℕ} {out out' : List ℕ} → length out ≡ max_nodes → r ≡ unwrap_or w too_many → Storing.Puts w (pack op (m - 1) 0 ∷ []) out out' m → Caps op out out' m r
caps {op} {m} {r} {w} {out} {out'} l u p o k at = record {
  wrote = λ v. wrote_one o v (subst (λ (j : ℕ). Puts (pack j (m - 1) 0 ∷ []) out out' m r) k (put_whole w l u p));
}

pub caps_none : {op m r : ℕ} {out out' : List ℕ} → (0 < m → max_nodes ≤ m) → max_nodes < r → Caps op out out' m r
caps_none g h o k at = record { wrote = λ v. wrote_none (past_one o v g) h }

pub joins : {op m n r : ℕ} {s : Option ℕ} {out out' : List ℕ} → length out ≡ max_nodes → r ≡ unwrap_or s too_many → Storing.Puts s (pack op (m - 1) (n - 1) ∷ []) out out' n → Joins op out out' m n r
joins {op} {m} {n} {r} {s} {out} {out'} l e p = record {
  wrote = λ o k v u. wrote-two o v u (subst (λ (j : ℕ). Puts (pack j (m - 1) (n - 1) ∷ []) out out' n r) k (put_whole s l e p));
}

pub joins_none : {op m n r : ℕ} {out out' : List ℕ} → (0 < m → m ≤ n → max_nodes ≤ n) → max_nodes < r → Joins op out out' m n r
joins_none g h = record { wrote = λ o k v u. wrote_none (past_two o v u g) h }

pub size-repeats : (x : Unary) (n : ℕ) (a : Formula) → size (repeats x n a) ≡ size a + n
unfolding size
size-repeats x zero a = omega arith
size-repeats x (suc n) a = omega (arith, size-repeats x n a)

pub nexts-start : {next : ℕ} {out : List ℕ} {m : ℕ} → Nexts next 0 out out m m
nexts-start x k at = record { wrote = λ w. w }

pub nexts-more : (i : ℕ) {next : ℕ} {out between out' : List ℕ} {m r r' : ℕ} → Nexts next i out between m r → Caps next between out' r r' → Nexts next (suc i) out out' m r'
nexts-more i v u x k at = record { wrote = λ w. (u x k at).wrote ((v x k at).wrote w) }

-- one after the other that do not fit
pub nexts_none : (i n : ℕ) {next : ℕ} {out between out' : List ℕ} {m r r' : ℕ} → Nexts next i out between m r → i ≤ n → max_nodes < r → max_nodes < r' → Nexts next n out out' m r'
nexts_none i n v l h g x k at = record {
  wrote = λ {a} w. let e = size-repeats x i a in let f = size-repeats x n a in wrote_none (omega (arith, past ((v x k at).wrote w) h)) g;
}
