-- The formula at the root of a formula's own nodes is the formula, whatever stands after them.
use Rattle.std.specs.Prelude.{ℕ, zero, suc, ◌+◌, ◌-◌, ◌<◌, ◌≤◌, ◌≡◌, refl, List, [], ◌∷◌, ◌++◌, length, get_or}
use Rattle.std.proofs.Common.{ap, ap₂, ◌∙◌, sym, append_assoc, append-nil, length-append, arith}
use Rattle.std.proofs.lemmas.List.{get_or_at}
use Rattle.node.specs.Limits.{field_limit}
use Rattle.node.specs.Ltl.{Formula, True, False, Signal, One, Two}
use Rattle.node.specs.Fields.{pack, kind_of, first_of, second_of}
use Rattle.node.proofs.FieldLaws.{kind-pack, first-pack, second-pack}
use Rattle.node.specs.Kinds.{Shape, Truth, Falsehood, Atom, UnaryOf, BinaryOf, Unused, shape_of, build, unary_kind, binary_kind, true_kind, false_kind, signal_kind}
use Rattle.node.proofs.KindLaws.{unary-shape, binary-shape}
use Rattle.node.specs.Table.{among, formula_of, formulas, tree_at}
use Rattle.node.specs.Formed.{Formed, Below}
use Rattle.node.proofs.TableLaws.{formulas-keep, node-is}
use Rattle.node.specs.Postorder.{size, nodes_from, SignalsBelow}

pub size_pos : (f : Formula) → 0 < size f
unfolding size
size_pos True = omega arith
size_pos False = omega arith
size_pos (Signal k) = omega arith
size_pos (One o a) = omega arith
size_pos (Two o a b) = omega arith

pub length-nodes : (base : ℕ) (f : Formula) → length (nodes_from base f) ≡ size f
unfolding size nodes_from
length-nodes base True = refl
length-nodes base False = refl
length-nodes base (Signal k) = refl
length-nodes base (One o a) = length-append (nodes_from base a) _ ∙ ap (λ (n : ℕ). n + 1) (length-nodes base a)
length-nodes base (Two o a b) =
    let l = length-nodes base a in
    let r = length-nodes (base + size a) b in
    simp length-append (omega arith)

-- the subformulas in postorder: those before the formula itself, and all
before : Formula → List Formula
before True = []
before False = []
before (Signal k) = []
before (One o a) = before a ++ (a ∷ [])
before (Two o a b) = (before a ++ (a ∷ [])) ++ (before b ++ (b ∷ []))

abbrev subs : Formula → List Formula
subs f = before f ++ (f ∷ [])

length_before : (f : Formula) → length (before f) + 1 ≡ size f
unfolding before size
length_before True = refl
length_before False = refl
length_before (Signal k) = refl
length_before (One o a) = let h = length_before a in simp length-append (omega arith)
length_before (Two o a b) = let h = length_before a in let g = length_before b in simp length-append (omega arith)

-- a word put together reads as the shape of its kind
read-pack : (fs : List Formula) (k a b : ℕ) → a < field_limit → b < field_limit → formula_of fs (pack k a b) ≡ build (shape_of k) (among fs) a b
read-pack fs k a b ha hb = simp (kind-pack k ha hb, first-pack k ha hb, second-pack k a hb)

last-sub : (fs : List Formula) (f : Formula) (gs : List Formula) (n : ℕ) → n ≡ length fs + size f - 1 → among ((fs ++ subs f) ++ gs) n ≡ f
last-sub fs f gs n e =
    let h = length_before f in
    let l : length (fs ++ before f) ≡ n = simp length-append (omega arith) in
    ap (λ (x : List Formula). among x n) (ap (λ (x : List Formula). x ++ gs) (sym (append_assoc fs (before f) (f ∷ []))) ∙ append_assoc (fs ++ before f) (f ∷ []) gs)
    ∙ get_or_at (fs ++ before f) f gs True n l

-- a formula's nodes have its subformulas
nodes-formulas : (fs : List Formula) (f : Formula) (ws : List ℕ) (base : ℕ) → base ≡ length fs → SignalsBelow field_limit f → base + size f ≤ field_limit
    → formulas fs (nodes_from base f ++ ws) ≡ formulas (fs ++ subs f) ws
unfolding formulas nodes_from SignalsBelow size before
nodes-formulas fs True ws base e s h = ap (λ (x : Formula). formulas (fs ++ (x ∷ [])) ws) (read-pack fs true_kind 0 0 (omega arith) (omega arith))
nodes-formulas fs False ws base e s h = ap (λ (x : Formula). formulas (fs ++ (x ∷ [])) ws) (read-pack fs false_kind 0 0 (omega arith) (omega arith))
nodes-formulas fs (Signal k) ws base e s h = ap (λ (x : Formula). formulas (fs ++ (x ∷ [])) ws) (read-pack fs signal_kind k 0 s (omega arith))
nodes-formulas fs (One o f) ws base e s h =
    let pos = size_pos f in
    let n : ℕ = base + size f - 1 in
    ap (formulas fs) (append_assoc (nodes_from base f) (pack (unary_kind o) n 0 ∷ []) ws)
    ∙ nodes-formulas fs f (pack (unary_kind o) n 0 ∷ ws) base e s (omega arith)
    ∙ ap (λ (x : Formula). formulas ((fs ++ subs f) ++ (x ∷ [])) ws)
    (read-pack (fs ++ subs f) (unary_kind o) n 0 (omega arith) (omega arith)
    ∙ ap (λ sh. build sh (among (fs ++ subs f)) n 0) (unary-shape o)
    ∙ ap (One o) (ap (λ (x : List Formula). among x n) (sym (append-nil (fs ++ subs f))) ∙ last-sub fs f [] n (ap (λ b. b + size f - 1) e)))
    ∙ ap (λ (x : List Formula). formulas x ws) (append_assoc fs (subs f) (One o f ∷ []))
nodes-formulas fs (Two o f g) ws base e s h =
    let pos = size_pos f in
    let posg = size_pos g in
    let hf = length_before f in
    let m : ℕ = base + size f - 1 in
    let n : ℕ = base + size f + size g - 1 in
    let w : ℕ = pack (binary_kind o) m n in
    let gs : List Formula = fs ++ subs f in
    let lf : base + size f ≡ length gs = simp length-append (omega arith) in
    ap (formulas fs) (append_assoc (nodes_from base f) (nodes_from (base + size f) g ++ (w ∷ [])) ws)
    ∙ nodes-formulas fs f ((nodes_from (base + size f) g ++ (w ∷ [])) ++ ws) base e s.0 (omega arith)
    ∙ ap (formulas gs) (append_assoc (nodes_from (base + size f) g) (w ∷ []) ws)
    ∙ nodes-formulas gs g (w ∷ ws) (base + size f) lf s.1 (omega arith)
    ∙ ap (λ (x : Formula). formulas ((gs ++ subs g) ++ (x ∷ [])) ws)
    (read-pack (gs ++ subs g) (binary_kind o) m n (omega arith) (omega arith)
    ∙ ap (λ sh. build sh (among (gs ++ subs g)) m n) (binary-shape o)
    ∙ ap₂ (Two o) (last-sub fs f (subs g) m (ap (λ b. b + size f - 1) e))
    (ap (λ (x : List Formula). among x n) (sym (append-nil (gs ++ subs g))) ∙ last-sub gs g [] n (ap (λ b. b + size g - 1) lf)))
    ∙ ap (λ (x : List Formula). formulas x ws)
    (append_assoc gs (subs g) (Two o f g ∷ []) ∙ append_assoc fs (subs f) (subs g ++ (Two o f g ∷ []))
    ∙ ap (λ (x : List Formula). fs ++ x) (sym (append_assoc (subs f) (subs g) (Two o f g ∷ []))))

-- the last node of a formula's own nodes is the formula, whatever stands after them
pub root_is : (f : Formula) (rest : List ℕ) → SignalsBelow field_limit f → size f ≤ field_limit → tree_at (nodes_from 0 f ++ rest) (size f - 1) ≡ f
unfolding tree_at
root_is f rest s h =
    let p = size_pos f in
    let b = length_before f in
    let l : size f - 1 < length (subs f) = simp length-append (omega arith) in
    ap (λ (x : List Formula). among x (size f - 1)) (nodes-formulas [] f rest 0 refl s (omega arith))
    ∙ formulas-keep (subs f) rest (size f - 1) l
    ∙ ap (λ (x : List Formula). among x (size f - 1)) (sym (append-nil (subs f)))
    ∙ last-sub [] f [] (size f - 1) (omega arith)

-- a larger limit
pub signals-more : {m n : ℕ} → m ≤ n → (f : Formula) → SignalsBelow m f → SignalsBelow n f
unfolding SignalsBelow
signals-more h True s = tt
signals-more h False s = tt
signals-more h (Signal k) s = omega arith
signals-more h (One o a) s = signals-more h a s
signals-more h (Two o a b) s = (signals-more h a s.0, signals-more h b s.1)

-- a table of the format has no larger signal number
build-signals : (limit : ℕ) (s : Shape) (t : ℕ → Formula) (n a b : ℕ) → Below limit s n a b → ((k : ℕ) → k < n → SignalsBelow limit (t k)) → SignalsBelow limit (build s t a b)
unfolding SignalsBelow
build-signals limit Truth t n a b h e = tt
build-signals limit Falsehood t n a b h e = tt
build-signals limit Atom t n a b h e = h
build-signals limit (UnaryOf o) t n a b h e = e a h
build-signals limit (BinaryOf o) t n a b h e = (e a h.0, e b h.1)
build-signals limit Unused t n a b h e = absurd h

below-signals : (limit : ℕ) (ws : List ℕ) → Formed limit ws → (d i : ℕ) → i < d → i < length ws → SignalsBelow limit (tree_at ws i)
below-signals limit ws f zero i l h = absurd (omega arith)
below-signals limit ws f (suc d) i l h =
    let w : ℕ = get_or ws i 0 in
    let n = node-is i (kind_of w) (first_of w) (second_of w) f h refl refl refl in
    rw n.tree (build-signals limit (shape_of (kind_of w)) (tree_at ws) i (first_of w) (second_of w) n.lower (λ k hk. below-signals limit ws f d k (omega arith) (omega arith)))

pub tree-signals : {limit : ℕ} {ws : List ℕ} → Formed limit ws → (i : ℕ) → i < length ws → SignalsBelow limit (tree_at ws i)
tree-signals {limit} {ws} f i h = below-signals limit ws f (suc i) i (omega arith) h
