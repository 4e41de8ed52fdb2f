-- A formula that stands in a table: writing it adds nothing. What was written stands, and goes on standing as the table grows.
use Rattle.std.specs.Prelude.{ℕ, ◌<◌, ◌≡◌, List, ◌++◌, length}
use Rattle.std.proofs.Common.{ap, ap₂, ◌∙◌, sym, subst, length-append, arith}
use Rattle.node.specs.Ltl.{Formula, True, False, Signal, One, Two}
use Rattle.node.specs.Fields.{pack}
use Rattle.node.specs.Kinds.{unary_kind, binary_kind, true_kind, false_kind, signal_kind}
use Rattle.sharing.specs.Sharing.{Placed, position, having, place, write}
use Rattle.sharing.proofs.PlaceLaws.{place_stays, having_stood, having-place, having-inside}
use Rattle.sharing.proofs.WriteLaws.{Grows, write-grows, having-grows}

-- writing the formula adds nothing, and gives it this number
abbrev pub Stands : List ℕ → Formula → ℕ → Type 0
Stands t f v = ((write t f).table ≡ t) × ((write t f).number ≡ v)

-- the word is node v, and no node before
pub record At (t : List ℕ) (w v : ℕ) : Type 0 where
  pub inside : v < length t
  pub found : position t w ≡ v

-- the same by the formula's nodes: its operands are found, and its word over their numbers
unfoldable pub Found : List ℕ → Formula → ℕ → Type 0
Found t True v = At t (pack true_kind 0 0) v
Found t False v = At t (pack false_kind 0 0) v
Found t (Signal k) v = At t (pack signal_kind k 0) v
Found t (One o a) v = (i : ℕ) × Found t a i × At t (pack (unary_kind o) i 0) v
Found t (Two o a b) v = (i : ℕ) × (j : ℕ) × Found t a i × Found t b j × At t (pack (binary_kind o) i j) v

at_longer : {t : List ℕ} (u : List ℕ) {w v : ℕ} → At t w v → At (t ++ u) w v
at_longer {t} u {w} h =
    let l = length-append t u in
    let i = h.inside in
    let f = h.found in
    record { inside = omega arith; found = place_stays t u w (omega arith) ∙ f }

at-having : (t : List ℕ) (w : ℕ) → At (having t w) w (position t w)
at-having t w = record { inside = having-inside t w; found = having-place t w }

-- a word that is found adds nothing
at_place : {t : List ℕ} {w v : ℕ} → At t w v → place t w ≡ record { table = t; number = v }
at_place {t} {w} h =
    let i = h.inside in
    let f = h.found in
    ap₂ (λ (x : List ℕ) (n : ℕ). let p : Placed = record { table = x; number = n } in p) (having_stood t w (omega arith)) f

-- what is found lies inside
pub found_inside : (t : List ℕ) (f : Formula) (v : ℕ) → Found t f v → v < length t
unfolding Found
found_inside t True v h = h.inside
found_inside t False v h = h.inside
found_inside t (Signal k) v h = h.inside
found_inside t (One o a) v h = h.2.inside
found_inside t (Two o a b) v h = h.4.inside

-- what is found stays found
pub found_longer : (t u : List ℕ) (f : Formula) (v : ℕ) → Found t f v → Found (t ++ u) f v
unfolding Found
found_longer t u True v h = at_longer u h
found_longer t u False v h = at_longer u h
found_longer t u (Signal k) v h = at_longer u h
found_longer t u (One o a) v h = (h.0, found_longer t u a h.0 h.1, at_longer u h.2)
found_longer t u (Two o a b) v h = (h.0, h.1, found_longer t u a h.0 h.2, found_longer t u b h.1 h.3, at_longer u h.4)

pub found-grows : {t u : List ℕ} (f : Formula) (v : ℕ) → Grows t u → Found t f v → Found u f v
found-grows {t} f v g h = rw g.grown (found_longer t g.rest f v h)

-- what was written is found
pub found-written : (t : List ℕ) (f : Formula) → Found (write t f).table f (write t f).number
unfolding Found write
found-written t True = at-having t (pack true_kind 0 0)
found-written t False = at-having t (pack false_kind 0 0)
found-written t (Signal k) = at-having t (pack signal_kind k 0)
found-written t (One o a) =
    let x = write t a in
    let w : ℕ = pack (unary_kind o) x.number 0 in
    (x.number, found-grows a x.number (having-grows x.table w) (found-written t a), at-having x.table w)
found-written t (Two o a b) =
    let x = write t a in
    let y = write x.table b in
    let w : ℕ = pack (binary_kind o) x.number y.number in
    let g = having-grows y.table w in (
      x.number,
      y.number,
      found-grows a x.number g (found-grows a x.number (write-grows x.table b) (found-written t a)),
      found-grows b y.number g (found-written x.table b),
      at-having y.table w,
    )

-- what is found adds nothing
pub found_adds : (t : List ℕ) (f : Formula) (v : ℕ) → Found t f v → write t f ≡ record { table = t; number = v }
unfolding Found write
found_adds t True v h = at_place h
found_adds t False v h = at_place h
found_adds t (Signal k) v h = at_place h
found_adds t (One o a) v h =
    ap (λ (x : Placed). place x.table (pack (unary_kind o) x.number 0)) (found_adds t a h.0 h.1) ∙ at_place h.2
found_adds t (Two o a b) v h =
    ap (λ (x : Placed). let z = write x.table b in place z.table (pack (binary_kind o) x.number z.number)) (found_adds t a h.0 h.2)
    ∙ ap (λ (z : Placed). place z.table (pack (binary_kind o) h.0 z.number)) (found_adds t b h.1 h.3) ∙ at_place h.4

-- to be found is to stand
pub found-stands : (t : List ℕ) (f : Formula) (v : ℕ) → Found t f v → Stands t f v
found-stands t f v h = (ap (λ (x : Placed). x.table) (found_adds t f v h), ap (λ (x : Placed). x.number) (found_adds t f v h))

pub stands-found : (t : List ℕ) (f : Formula) (v : ℕ) → Stands t f v → Found t f v
stands-found t f v h = subst (λ (n : ℕ). Found t f n) h.1 (subst (λ (x : List ℕ). Found x f (write t f).number) h.0 (found-written t f))

-- a formula has one number
pub found-same : (t : List ℕ) (f : Formula) (u v : ℕ) → Found t f u → Found t f v → u ≡ v
found-same t f u v h k = sym (found-stands t f u h).1 ∙ (found-stands t f v k).1

-- what was written stands, and what stands goes on standing whatever comes behind
pub stands-written : (t : List ℕ) (f : Formula) → Stands (write t f).table f (write t f).number
stands-written t f = found-stands (write t f).table f (write t f).number (found-written t f)

pub stands_longer : (t u : List ℕ) (f : Formula) (v : ℕ) → Stands t f v → Stands (t ++ u) f v
stands_longer t u f v h = found-stands (t ++ u) f v (found_longer t u f v (stands-found t f v h))
