-- Runs of bytes written into a lent slice, one after the other.
use Rattle.std.specs.Prelude.{ℕ, ◌+◌, ◌-◌, ◌<◌, ◌≤◌, ◌≡◌, refl, List, [], ◌∷◌, ◌++◌, length, drop, set, get_or}
use Rattle.std.proofs.Common.{ap, ap₂, ◌∙◌, sym, length-append, length-drop, take-suc, get_or-drop, length-take-le, add-one, arith}
use Rattle.std.proofs.lemmas.List.Edits.{sets}
use Rattle.std.proofs.Math.Seq.{length-sets}
use Rattle.basics.specs.Lists.{sets-append}
use Rattle.signal_names.specs.Promise.{part, Puts}

pub part_length : (l : List ℕ) (start n : ℕ) → n ≤ length l - start → length (part l start n) ≡ n
part_length l start n h = length-take-le n (drop start l) (rw length-drop h)

pub puts_length : {vs out out' : List ℕ} {at r : ℕ} → Puts vs out out' at r → length out' ≡ length out
puts_length {vs} {out} {at = at} p = ap length p.bytes ∙ length-sets out at vs

pub puts_nothing : (out : List ℕ) (at : ℕ) → Puts [] out out at at
puts_nothing out at = record { next = omega arith; bytes = refl }

pub puts_byte : (out : List ℕ) (at b : ℕ) → Puts (b ∷ []) out (set out at b) at (at + 1)
puts_byte out at b = record { next = refl; bytes = refl }

-- one run after another
pub puts_after : {us vs out o1 o2 : List ℕ} {at m r : ℕ} → Puts us out o1 at m → Puts vs o1 o2 m r → Puts (us ++ vs) out o2 at r
puts_after {us} {vs} {out} {o1} {o2} {at} {m} {r} p q =
    record {
      next = rw length-append (let a = p.next in let b = q.next in omega arith);
      bytes = q.bytes ∙ ap₂ (λ (l : List ℕ) (k : ℕ). sets l k vs) p.bytes p.next ∙ sym (sets-append out at us vs);
    }

-- one byte more
pub puts_more : (from out : List ℕ) (start at i : ℕ) → i < length from - start
    → set (sets out at (part from start i)) (at + i) (get_or from (start + i) 0) ≡ sets out at (part from start (i + 1))
puts_more from out start at i h =
    let l : i < length (drop start from) = rw length-drop h in
    let e : length (part from start i) ≡ i = part_length from start i (omega arith) in
    sym (ap (λ (k : ℕ). sets out at (part from start k)) (add-one i) ∙ ap (sets out at) (take-suc (drop start from) i 0 l ∙ ap (λ (v : ℕ). part from start i ++ (v ∷ [])) (get_or-drop start from i 0))
    ∙ sets-append out at (part from start i) (get_or from (start + i) 0 ∷ []) ∙ ap (λ (k : ℕ). set (sets out at (part from start i)) (at + k) (get_or from (start + i) 0)) e)
