-- What stands in the table before an index stays where only nodes behind it are written: operands below an operator, n X and chains. Who keeps a place of the
-- table cites these laws and does not see how nodes are numbered.
use Rattle.std.specs.Prelude.{ℕ, zero, suc, ◌+◌, ◌-◌, ◌≤◌, ◌<◌, List, [], ◌∷◌, ◌++◌, ◌≡◌, refl, length, get_or}
use Rattle.std.proofs.Common.{append-nil, append_assoc, sym, ap, ap₂, ◌∙◌, subst, arith, length-append}
use Rattle.std.proofs.Math.Decide.{dec_lt}
use Rattle.std.proofs.lemmas.List.Edits.{sets}
use Rattle.node.specs.Limits.{max_nodes}
use Rattle.node.specs.Ltl.{Unary, X, Binary, Formula, One, Two}
use Rattle.node.specs.Kinds.{unary_kind, binary_kind}
use Rattle.node.specs.Fields.{pack}
use Rattle.node.specs.Postorder.{size, nodes_from}
use Rattle.node.proofs.PostorderLaws.{length-nodes}
use Rattle.writing.specs.Writing.{Puts, Wrote, nexts, chain}
use Rattle.writing.specs.WritingLaws.{ends, past, after, puts_as}
use Rattle.writing.specs.Parts.{part}
use Rattle.writing.specs.PartLaws.{fitting, below_stays}
use Rattle.basics.specs.Lists.{sets-append, get_or-sets-below}

-- as long as the table has room: it is written behind n only, up to r
pub record Stays (table table' : List ℕ) (n r : ℕ) : Type 0 where
  pub further : r ≤ max_nodes → n ≤ r
  pub same : r ≤ max_nodes → (i : ℕ) → i < n → get_or table' i 0 ≡ get_or table i 0

pub stays_none : (table : List ℕ) (n : ℕ) → Stays table table n n
stays_none table n = record { further = λ h. omega arith; same = λ h i l. refl }

pub stays_then : {a b c : List ℕ} {l m n : ℕ} → Stays a b l m → Stays b c m n → Stays a c l n
stays_then p q = record {
  further = λ h. let x = q.further h in let y = p.further (omega arith) in omega arith;
  same = λ h i j. let x = q.further h in let y = p.further (omega arith) in q.same h i (omega arith) ∙ p.same (omega arith) i j;
}

-- a formula
pub wrote_stays : {f : Formula} {table table' : List ℕ} {at r : ℕ} → Wrote f table table' at r → Stays table table' at r
wrote_stays w = record { further = λ h. let e = ends w h in omega arith; same = λ h i l. below_stays w.puts h i l }

-- words, and the same words with more behind them
pub more_stays : {us table out out' : List ℕ} (vs : List ℕ) {at n r : ℕ} → Puts us table out at n → Puts (us ++ vs) table out' at r → Stays out out' n r
more_stays {us} {table} {out} {out'} vs {at} {n} {r} p q =
    let l = length-append us vs in
    record {
      further = λ h. let e = (q.stored h).next in let d = (fitting p (omega arith)).next in omega arith;
      same = λ h i j.
          let e = (q.stored h).next in
          let d = fitting p (omega arith) in
          let z : at + length us ≡ n = sym d.next in
          ap (λ (l : List ℕ). get_or l i 0) ((q.stored h).words ∙ sets-append table at us vs ∙ ap₂ (λ (t : List ℕ) (k : ℕ). sets t k vs) (sym d.words) z) ∙ get_or-sets-below out n vs i j;
    }

-- the operator is put behind its operands' nodes
pub one_stays : (o : Unary) {f : Formula} {table out out' : List ℕ} {at m r : ℕ} → Wrote f table out at m → Wrote (One o f) table out' at r → Stays out out' m r
unfolding nodes_from
one_stays o v w = more_stays (pack _ _ 0 ∷ []) v.puts w.puts

pub two_stays : (o : Binary) {f g : Formula} {table middle out out' : List ℕ} {at m n r : ℕ} → Wrote f table middle at m → Wrote g middle out m n → Wrote (Two o f g) table out' at r
    → Stays out out' n r
unfolding nodes_from size
two_stays o {f} {g} {table} {middle} {out} {out'} {at} {m} {n} {r} u v w =
    let last : List ℕ = pack (binary_kind o) (at + size f - 1) (at + size f + size g - 1) ∷ [] in
    let a = length-nodes (at + size f) g in
    let b = length-nodes m g in
    more_stays last (after u.puts v.puts)
    (puts_as
    (let j = length-append (nodes_from at f) (nodes_from (at + size f) g ++ last) in
    let k = length-append (nodes_from (at + size f) g) last in
    let x = length-append (nodes_from at f ++ nodes_from m g) last in
    let y = length-append (nodes_from at f) (nodes_from m g) in
    omega arith)
    (λ h.
    let z : m ≡ at + size f = whole h (dec_lt max_nodes m) in
    sym (append_assoc (nodes_from at f) (nodes_from (at + size f) g) last) ∙ ap (λ (j : ℕ). (nodes_from at f ++ nodes_from j g) ++ last) (sym z))
    w.puts)
  where
    whole : r ≤ max_nodes → Dec (max_nodes < m) → m ≡ at + size f
    whole h (yes l) = absurd (let e = ends w h in let p = past u l in omega arith)
    whole h (no l) = ends u (omega arith)

-- a formula's nodes begin with those of another
pub record Begins (f g : Formula) (at : ℕ) : Type 0 where
  pub rest : List ℕ
  pub same : nodes_from at g ≡ nodes_from at f ++ rest

pub begins_stays : {f g : Formula} {table out out' : List ℕ} {at m r : ℕ} → Begins f g at → Wrote f table out at m → Wrote g table out' at r → Stays out out' m r
begins_stays {table = table} {out' = out'} {at = at} {r = r} h v w = more_stays h.rest v.puts (subst (λ (vs : List ℕ). Puts vs table out' at r) h.same w.puts)

pub begins-same : (f : Formula) (at : ℕ) → Begins f f at
begins-same f at = record { rest = []; same = sym (append-nil (nodes_from at f)) }

pub begins-nexts : (n : ℕ) (f : Formula) (at : ℕ) → Begins f (nexts n f) at
unfolding nodes_from
begins-nexts zero f at = begins-same f at
begins-nexts (suc n) f at =
    let h = begins-nexts n f at in
    let last : List ℕ = pack (unary_kind X) (at + size (nexts n f) - 1) 0 ∷ [] in
    record { rest = h.rest ++ last; same = ap (λ (l : List ℕ). l ++ last) h.same ∙ append_assoc (nodes_from at f) h.rest last }

pub begins-chain : (o : Binary) (n : ℕ) (f : Formula) (at : ℕ) → Begins f (chain o n f) at
unfolding nodes_from
begins-chain o zero f at = begins-same f at
begins-chain o (suc n) f at = record { rest = _; same = refl }

pub part_same : (from n : ℕ) (l l' : List ℕ) → ((i : ℕ) → i < from + n → get_or l' i 0 ≡ get_or l i 0) → part from n l' ≡ part from n l
unfolding part
part_same from zero l l' h = refl
part_same from (suc n) l l' h = ap₂ (λ (x : List ℕ) (y : ℕ). x ++ (y ∷ [])) (part_same from n l l' (λ i j. h i (omega arith))) (h (from + n) (omega arith))
