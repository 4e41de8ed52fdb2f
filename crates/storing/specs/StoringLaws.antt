-- Runs of stored words compose: the operands' nodes, then the operator's.
use Rattle.std.specs.Prelude.{ℕ, zero, suc, ◌+◌, ◌-◌, ◌<◌, ◌≤◌, ◌≡◌, length, Option, None}
use Rattle.std.proofs.Common.{ap, ap₂, ◌∙◌, sym, length-append, arith}
use mathlib.Core.List.{List, [], ◌∷◌, ◌++◌, append_assoc}
use Rattle.std.proofs.lemmas.List.Edits.{sets}
use Rattle.std.proofs.Math.Seq.{length-sets}
use Rattle.node.specs.Limits.{kind_limit}
use Rattle.node.specs.Ltl.{Unary, Not, Binary, Formula, Signal, One, Two}
use Rattle.node.specs.Fields.{pack}
use Rattle.node.specs.Kinds.{unary_kind, binary_kind, signal_kind}
use Rattle.node.specs.Postorder.{size, nodes_from}
use Rattle.node.proofs.PostorderLaws.{size_pos, length-nodes}
use Rattle.storing.specs.Storing.{Stored, Puts, Wrote, Room, constant_of}
use Rattle.basics.specs.Lists.{sets-append}

-- a store leaves the length
pub stored_length : {vs out o1 : List ℕ} {at n : ℕ} → Stored vs out o1 at n → length o1 ≡ length out
stored_length {vs} {out} {o1} {at} s = ap length s.entries ∙ length-sets out at vs

pub room_after : {vs out o1 : List ℕ} {at n : ℕ} → Room out at → Stored vs out o1 at n → Room o1 n
room_after r s = let e = stored_length s in let h = s.room in let l = r.few in record { start = omega arith; few = omega arith }

-- one run of words after another
pub after : {us out o1 o2 vs : List ℕ} {at m : ℕ} {r : Option ℕ} → Stored us out o1 at m → Puts r vs o1 o2 m → Puts r (us ++ vs) out o2 at
after {us} {out} {o1} {o2} {vs} {at} {m} {r} s p =
    record {
      stored = λ n h.
          let q = p.stored n h in
          record {
            next = rw length-append (let a = s.next in let b = q.next in omega arith);
            room = let l = stored_length s in let b = q.room in omega arith;
            entries = q.entries ∙ ap₂ (λ (l : List ℕ) (k : ℕ). sets l k vs) s.entries s.next ∙ sym (sets-append out at us vs);
          };
      short = λ h. let q = p.short h in rw length-append (let l = stored_length s in let a = s.next in omega arith);
    }

-- too short is too short whatever comes after
pub full_more : {us out o1 o2 : List ℕ} {at : ℕ} {r r' : Option ℕ} (vs : List ℕ) → r ≡ None → r' ≡ None → Puts r us out o1 at → Puts r' (us ++ vs) out o2 at
full_more vs l l' p = let h = p.short l in record { stored = λ n e. absurd (cc); short = λ e. rw length-append (omega arith) }

next-size : {out o1 : List ℕ} {at m : ℕ} (f : Formula) → Stored (nodes_from at f) out o1 at m → m ≡ at + size f
next-size {at = at} f s = s.next ∙ ap (λ (k : ℕ). at + k) (length-nodes at f)

-- the operand, then the operator's node
module _ (o : Unary) (f : Formula) {r : Option ℕ} {out o1 o2 : List ℕ} {at m w : ℕ} where
  pub unary-wrote : Stored (nodes_from at f) out o1 at m → unary_kind o ≡ w → Puts r (pack w (m - 1) 0 ∷ []) o1 o2 m → Wrote r (One o f) out o2 at
  unfolding nodes_from
  unary-wrote s e p = after s (rw (← next-size f s, e) p)

pub unary_full : (o : Unary) (f : Formula) {out o1 o2 : List ℕ} {at : ℕ} {r r' : Option ℕ} → r ≡ None → r' ≡ None → Wrote r f out o1 at → Wrote r' (One o f) out o2 at
unfolding nodes_from
unary_full o f l l' h = full_more _ l l' h

-- the left operand, the right one, then the operator's node
module _ (o : Binary) (f g : Formula) {r : Option ℕ} {out o1 o2 o3 : List ℕ} {at m n w : ℕ} where
  pub binary-wrote : Stored (nodes_from at f) out o1 at m → Stored (nodes_from m g) o1 o2 m n → binary_kind o ≡ w → Puts r (pack w (m - 1) (n - 1) ∷ []) o2 o3 n
      → Wrote r (Two o f g) out o3 at
  unfolding nodes_from
  binary-wrote s t e p = after s (rw (← next-size f s, ← next-size g t, e) (after t p))

pub binary_full : (o : Binary) (f g : Formula) {out o1 o2 : List ℕ} {at : ℕ} {r r' : Option ℕ} → r ≡ None → r' ≡ None → Wrote r f out o1 at → Wrote r' (Two o f g) out o2 at
unfolding nodes_from
binary_full o f g l l' h = full_more _ l l' h

module _ (o : Binary) (f g : Formula) {out o1 o2 o3 : List ℕ} {at m : ℕ} {r r' : Option ℕ} where
  pub binary_full_right : r ≡ None → r' ≡ None → Stored (nodes_from at f) out o1 at m → Wrote r g o1 o2 m → Wrote r' (Two o f g) out o3 at
  unfolding nodes_from
  binary_full_right l l' s h = after s (rw (← next-size f s) (full_more _ l l' h))

-- the operator's node and a `!` above it
module _ (o : Binary) (f g : Formula) {r : Option ℕ} {out o1 o2 o3 : List ℕ} {at m n w : ℕ} where
  pub not-binary-wrote : Stored (nodes_from at f) out o1 at m → Stored (nodes_from m g) o1 o2 m n → binary_kind o ≡ w
      → Puts r (pack w (m - 1) (n - 1) ∷ pack (unary_kind Not) n 0 ∷ []) o2 o3 n → Wrote r (One Not (Two o f g)) out o3 at
  unfolding nodes_from size
  not-binary-wrote s t e p =
      let k : at + (size f + size g + 1) - 1 ≡ n = omega (arith, next-size f s, next-size g t) in
      rw (append_assoc (nodes_from at f), append_assoc (nodes_from (at + size f) g)) (after s (rw (k, ← next-size f s, ← next-size g t, e) (after t p)))

pub not-binary_full : (o : Binary) (f g : Formula) {out o1 o2 : List ℕ} {at : ℕ} {r r' : Option ℕ} → r ≡ None → r' ≡ None → Wrote r f out o1 at → Wrote r' (One Not (Two o f g)) out o2 at
not-binary_full o f g {o2 = o2} l l' h = unary_full Not (Two o f g) l' l' (binary_full o f g {o2 = o2} l l' h)

module _ (o : Binary) (f g : Formula) {out o1 o2 o3 : List ℕ} {at m : ℕ} {r r' : Option ℕ} where
  pub not-binary_full_right : r ≡ None → r' ≡ None → Stored (nodes_from at f) out o1 at m → Wrote r g o1 o2 m → Wrote r' (One Not (Two o f g)) out o3 at
  not-binary_full_right l l' s h = unary_full Not (Two o f g) l' l' (binary_full_right o f g {o3 = o3} l l' s h)

-- a node and the `!` above it
pub not_after : {w k n : ℕ} {r : Option ℕ} {out o1 o2 : List ℕ} → Stored (w ∷ []) out o1 n k → Puts r (pack (unary_kind Not) (k - 1) 0 ∷ []) o1 o2 k
    → Puts r (w ∷ pack (unary_kind Not) n 0 ∷ []) out o2 n
not_after {k = k} {n = n} s p = let e : k - 1 ≡ n = let h = s.next in omega arith in after s (rw e at p)

-- a formula of one node
pub constant_wrote : (k : ℕ) {r : Option ℕ} {out o1 : List ℕ} {at w : ℕ} → k < signal_kind → w ≡ pack k 0 0 → Puts r (w ∷ []) out o1 at → Wrote r (constant_of k) out o1 at
unfolding nodes_from
constant_wrote zero h e p = rw e at p
constant_wrote (suc zero) h e p = rw e at p
constant_wrote (suc (suc k)) h e p = absurd (omega arith)

pub signal-wrote : (k : ℕ) {r : Option ℕ} {out o1 : List ℕ} {at w : ℕ} → w ≡ pack signal_kind k 0 → Puts r (w ∷ []) out o1 at → Wrote r (Signal k) out o1 at
unfolding nodes_from
signal-wrote k e p = rw e at p

-- the operands of an operator stand before it
pub ends : (op : ℕ) (f g : Formula) {out o1 o2 : List ℕ} {at m n : ℕ} → op < kind_limit → Room out at → Stored (nodes_from at f) out o1 at m → Stored (nodes_from m g) o1 o2 m n
    → (op < kind_limit) × ((1 ≤ m) × ((m ≤ n) × Room o2 n))
ends op f g h r s t =
    let e = next-size f s in
    let p = size_pos f in
    let e' = next-size g t in (h, (omega arith, (omega arith, room_after (room_after r s) t)))

pub end : (op : ℕ) (f : Formula) {out o1 : List ℕ} {at m : ℕ} → op < kind_limit → Room out at → Stored (nodes_from at f) out o1 at m → (op < kind_limit) × ((1 ≤ m) × Room o1 m)
end op f h r s = let e = next-size f s in let p = size_pos f in (h, (omega arith, room_after r s))
