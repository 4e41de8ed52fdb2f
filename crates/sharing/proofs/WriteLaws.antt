-- Laws of writing a formula behind a table: the table grows at its end, by a node for each place in the formula at most, without equal nodes; the formula's number lies inside.
use Rattle.std.specs.Prelude.{ℕ, ◌+◌, ◌<◌, ◌≤◌, ◌≡◌, refl, List, [], ◌∷◌, ◌++◌, length}
use Rattle.std.proofs.Common.{ap, ◌∙◌, sym, append_assoc, append-nil, length-append, arith}
use Rattle.node.specs.Ltl.{Unary, Binary, Formula, True, False, Signal, One, Two}
use Rattle.node.specs.Fields.{pack}
use Rattle.node.specs.Kinds.{unary_kind, binary_kind, true_kind, false_kind, signal_kind}
use Rattle.node.specs.Postorder.{size}
use Rattle.sharing.specs.Sharing.{having, place, write}
use Rattle.sharing.proofs.PlaceLaws.{Placing, stood, added, placing, having-inside, having-most, Distinct, having_distinct}

-- a node is placed behind its operands, the left one first
pub write-one : (t : List ℕ) (o : Unary) (a : Formula) → write t (One o a) ≡ place (write t a).table (pack (unary_kind o) (write t a).number 0)
unfolding write
write-one t o a = refl

pub write_two : (t : List ℕ) (o : Binary) (a b : Formula)
    → write t (Two o a b) ≡ place (write (write t a).table b).table (pack (binary_kind o) (write t a).number (write (write t a).table b).number)
unfolding write
write_two t o a b = refl

-- the second table is the first with more behind it
pub record Grows (t u : List ℕ) : Type 0 where
  pub rest : List ℕ
  pub grown : u ≡ t ++ rest

pub grows_none : (t : List ℕ) → Grows t t
grows_none t = record { rest = []; grown = sym (append-nil t) }

pub grows-more : {t u v : List ℕ} → Grows t u → Grows u v → Grows t v
grows-more {t} a b =
    record {
      rest = a.rest ++ b.rest;
      grown = b.grown ∙ ap (λ (x : List ℕ). x ++ b.rest) a.grown ∙ append_assoc t a.rest b.rest;
    }

pub grows-length : {t u : List ℕ} → Grows t u → length t ≤ length u
grows-length {t} g = rw g.grown (simp length-append (omega arith))

pub having-grows : (t : List ℕ) (w : ℕ) → Grows t (having t w)
having-grows t w = go (placing t w)
  where
    go : Placing t w → Grows t (having t w)
    go (stood h e) = record { rest = []; grown = e ∙ sym (append-nil t) }
    go (added p e) = record { rest = w ∷ []; grown = e }

-- the table grows at its end
pub write-grows : (t : List ℕ) (f : Formula) → Grows t (write t f).table
unfolding write
write-grows t True = having-grows t (pack true_kind 0 0)
write-grows t False = having-grows t (pack false_kind 0 0)
write-grows t (Signal k) = having-grows t (pack signal_kind k 0)
write-grows t (One o a) = grows-more (write-grows t a) (having-grows (write t a).table (pack (unary_kind o) (write t a).number 0))
write-grows t (Two o a b) =
    let x = write t a in
    let y = write x.table b in
    grows-more (write-grows t a) (grows-more (write-grows x.table b) (having-grows y.table (pack (binary_kind o) x.number y.number)))

-- the number lies inside
pub write-inside : (t : List ℕ) (f : Formula) → (write t f).number < length (write t f).table
unfolding write
write-inside t True = having-inside t (pack true_kind 0 0)
write-inside t False = having-inside t (pack false_kind 0 0)
write-inside t (Signal k) = having-inside t (pack signal_kind k 0)
write-inside t (One o a) = having-inside (write t a).table (pack (unary_kind o) (write t a).number 0)
write-inside t (Two o a b) =
    let x = write t a in
    let y = write x.table b in
    having-inside y.table (pack (binary_kind o) x.number y.number)

-- a node for each place in the formula at most
pub write-most : (t : List ℕ) (f : Formula) → length (write t f).table ≤ length t + size f
unfolding write size
write-most t True = having-most t (pack true_kind 0 0)
write-most t False = having-most t (pack false_kind 0 0)
write-most t (Signal k) = having-most t (pack signal_kind k 0)
write-most t (One o a) =
    let h = write-most t a in
    let g = having-most (write t a).table (pack (unary_kind o) (write t a).number 0) in
    omega arith
write-most t (Two o a b) =
    let x = write t a in
    let y = write x.table b in
    let h = write-most t a in
    let l = write-most x.table b in
    let g = having-most y.table (pack (binary_kind o) x.number y.number) in
    omega arith

-- no two nodes become equal
pub write_distinct : (t : List ℕ) (f : Formula) → Distinct t → Distinct (write t f).table
unfolding write
write_distinct t True d = having_distinct t (pack true_kind 0 0) d
write_distinct t False d = having_distinct t (pack false_kind 0 0) d
write_distinct t (Signal k) d = having_distinct t (pack signal_kind k 0) d
write_distinct t (One o a) d = having_distinct (write t a).table (pack (unary_kind o) (write t a).number 0) (write_distinct t a d)
write_distinct t (Two o a b) d =
    let x = write t a in
    let y = write x.table b in
    having_distinct y.table (pack (binary_kind o) x.number y.number) (write_distinct x.table b (write_distinct t a d))
