-- Reads one after another: what all of them put into a buffer, the reader has lost; and counted, they tell the number of all.
use Rattle.std.specs.Prelude.{ℕ, ◌+◌, ◌-◌, ◌≡◌, ◌≤◌, ◌<◌, ◌++◌, min, max, List, take, drop, length, None, Some, Option, ⊤, IfSome}
use Rattle.std.proofs.Common.{◌∙◌, ap, sym, append_assoc, length-append, length-take-le, arith}
use Rattle.std.proofs.Math.Seq.{take-add}
use Rattle.std.specs.Io.KnownBytes.{Consumes, IsAtEnd}
use Rattle.basics.specs.Told.{max_told}

consumes_both : (a b c : Option (List ℕ)) (xs ys : List ℕ) → Consumes a b xs → Consumes b c ys → Consumes a c (xs ++ ys)
consumes_both None b c xs ys h k = tt
consumes_both (Some k) None c xs ys h i = absurd h
consumes_both (Some k) (Some l) None xs ys h i = absurd i
consumes_both (Some k) (Some l) (Some m) xs ys h i = h ∙ ap (λ (r : List ℕ). xs ++ r) i ∙ sym (append_assoc xs ys m)

pub consumes_more : (a b c : Option (List ℕ)) (done n : ℕ) (buf buf' : List ℕ) → Consumes a b (take done buf) → take done buf' ≡ take done buf
    → Consumes b c (take n (drop done buf')) → Consumes a c (take (done + n) buf')
consumes_more a b c done n buf buf' h e k = rw (take-add done n buf', e) (consumes_both a b c (take done buf) (take n (drop done buf')) h k)

-- counted so far and left come to the same as counted first and left then, as far as an answer can tell
abbrev pub SameCount : Option (List ℕ) → Option (List ℕ) → (first total : ℕ) → Type 0
SameCount None new first total = ⊤
SameCount (Some xs) None first total = ⊥
SameCount (Some xs) (Some ys) first total = max first (min max_told (total + length ys)) ≡ max first (min max_told (first + length xs))

pub count_more : (a b c : Option (List ℕ)) (first total got : ℕ) (buf : List ℕ) → SameCount a b first total → Consumes b c (take got buf) → got ≤ length buf
    → total < max_told → SameCount a c first (total + min got (max_told - total))
count_more None b c first total got buf h k l m = tt
count_more (Some xs) None c first total got buf h k l m = absurd h
count_more (Some xs) (Some ys) None first total got buf h k l m = absurd k
count_more (Some xs) (Some ys) (Some zs) first total got buf h k l m =
    let e : length ys ≡ got + length zs = ap length k ∙ length-append (take got buf) zs ∙ ap (λ (n : ℕ). n + length zs) (length-take-le got buf l) in
    omega (arith, h, e, m)

pub count_end : (a b c : Option (List ℕ)) (first total got : ℕ) (buf : List ℕ) → SameCount a b first total → Consumes b c (take got buf) → got ≡ 0 → IsAtEnd c
    → first ≤ total → total < max_told → IfSome a (λ xs. total ≡ max first (min max_told (first + length xs)))
count_end None b c first total got buf h k l m n o = tt
count_end (Some xs) None c first total got buf h k l m n o = absurd h
count_end (Some xs) (Some ys) None first total got buf h k l m n o = absurd k
count_end (Some xs) (Some ys) (Some zs) first total got buf h k l m n o =
    let e : length ys ≡ 0 = ap length k ∙ rw (l, m) in
    omega (arith, h, e, n, o)

pub count_full : (a b : Option (List ℕ)) (first total : ℕ) → SameCount a b first total → max_told ≤ total → first ≤ total → total ≤ max first max_told
    → IfSome a (λ xs. total ≡ max first (min max_told (first + length xs)))
count_full None b first total h k l m = tt
count_full (Some xs) None first total h k l m = absurd h
count_full (Some xs) (Some ys) first total h k l m = omega (arith, h, k, l, m)
