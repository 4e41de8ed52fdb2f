-- Runs of stored words compose: the operands' nodes, then the operator's. Where the operands do not fit, the whole does not.
use Rattle.std.specs.Prelude.{ℕ, ◌+◌, ◌-◌, ◌<◌, ◌≤◌, ◌≡◌, List, [], ◌∷◌, ◌++◌, length, refl, Option, Some, None}
use Rattle.std.proofs.Common.{ap, ap₂, ◌∙◌, sym, subst, append_assoc, length-append, arith}
use Rattle.std.proofs.lemmas.List.Edits.{sets}
use Rattle.std.specs.Option.{unwrap_or}
use Rattle.std.proofs.Math.Decide.{dec_lt}
use Rattle.node.specs.Limits.{max_nodes}
use Rattle.node.specs.Ltl.{Unary, Binary, Formula, One, Two}
use Rattle.node.specs.Fields.{pack}
use Rattle.node.specs.Kinds.{unary_kind, binary_kind}
use Rattle.node.specs.Postorder.{size, nodes_from, SignalsBelow}
use Rattle.node.proofs.PostorderLaws.{size_pos, length-nodes}
use Rattle.writing.specs.Writing.{Stored, Puts, Wrote}
use Rattle.basics.specs.Lists.{sets-append}
use Rattle.storing.specs.Storing as Storing

-- one run of words after another
pub after : {us vs out between out' : List ℕ} {at m r : ℕ} → Puts us out between at m → Puts vs between out' m r → Puts (us ++ vs) out out' at r
after {us} {vs} {out} {between} {out'} {at} {m} {r} p q = record {
  stored = λ h.
      let s = q.stored h in
      let n = s.next in
      let t = p.stored (omega arith) in
      let l = length-append us vs in
      record {
        next = omega (arith, t.next);
        words = s.words ∙ ap₂ (λ (l : List ℕ) (k : ℕ). sets l k vs) t.words t.next ∙ sym (sets-append out at us vs);
      };
  many = λ h. let l = length-append us vs in go h l (dec_lt max_nodes m);
}
  where
    go : max_nodes < r → length (us ++ vs) ≡ length us + length vs → Dec (max_nodes < m) → max_nodes < at + length (us ++ vs)
    go h l (yes g) = omega (arith, p.many g)
    go h l (no g) = let t = p.stored (omega arith) in omega (arith, q.many h, t.next)

-- the same words by another name, where they are stored
pub puts_as : {us vs out out' : List ℕ} {at r : ℕ} → length us ≡ length vs → (r ≤ max_nodes → us ≡ vs) → Puts us out out' at r → Puts vs out out' at r
puts_as {us} {vs} {out} {out'} {at} {r} l e p = record {
  stored = λ h. subst (λ (ws : List ℕ). Stored ws out out' at r) (e h) (p.stored h);
  many = λ h. omega (arith, p.many h);
}

-- the count from the first node on that has no room
abbrev pub too_many : ℕ
too_many = 8_193

-- what crate storing has put into a table of 8,192
pub put_whole : (o : Option ℕ) {vs out out' : List ℕ} {at r : ℕ} → length out ≡ max_nodes → r ≡ unwrap_or o too_many → Storing.Puts o vs out out' at → Puts vs out out' at r
put_whole (Some n) e u p =
    let s = p.stored n refl in
    let k = s.room in
    rw u (record { stored = λ h. record { next = s.next; words = s.entries }; many = λ h. absurd (omega arith) })
put_whole None e u p = let k = p.short refl in record { stored = λ h. absurd (omega arith); many = λ h. omega arith }

-- where a formula's nodes end
pub ends : {f : Formula} {out out' : List ℕ} {at m : ℕ} → Wrote f out out' at m → m ≤ max_nodes → m ≡ at + size f
ends {f} {out} {out'} {at} {m} w h = (w.puts.stored h).next ∙ ap (λ (n : ℕ). at + n) (length-nodes at f)

pub past : {f : Formula} {out out' : List ℕ} {at m : ℕ} → Wrote f out out' at m → max_nodes < m → max_nodes < at + size f
past {f} {out} {out'} {at} {m} w h = let l = length-nodes at f in omega (arith, w.puts.many h)

-- an operator over the operand before it
pub wrote_one : (o : Unary) {a : Formula} {out between out' : List ℕ} {at m r : ℕ} → Wrote a out between at m → Puts (pack (unary_kind o) (m - 1) 0 ∷ []) between out' m r
    → Wrote (One o a) out out' at r
unfolding nodes_from SignalsBelow
wrote_one o {a} {out} {between} {out'} {at} {m} {r} w p = record {
  puts = puts_as
      (length-append (nodes_from at a) _ ∙ sym (length-append (nodes_from at a) _))
      (λ h. let n = (p.stored h).next in ap (λ (k : ℕ). nodes_from at a ++ (pack (unary_kind o) (k - 1) 0 ∷ [])) (ends w (omega arith)))
      (after w.puts p);
  signals = λ h. let n = (p.stored h).next in w.signals (omega arith);
}

-- an operator over the two operands before it
pub wrote-two : (o : Binary) {a b : Formula} {out middle between out' : List ℕ} {at m n r : ℕ} → Wrote a out middle at m → Wrote b middle between m n
    → Puts (pack (binary_kind o) (m - 1) (n - 1) ∷ []) between out' n r → Wrote (Two o a b) out out' at r
unfolding nodes_from SignalsBelow
wrote-two o {a} {b} {out} {middle} {between} {out'} {at} {m} {n} {r} v w p =
    let last : ℕ → ℕ → List ℕ = λ j k. pack (binary_kind o) (j - 1) (k - 1) ∷ [] in
    record {
      puts = puts_as
          (let j = length-nodes m b in let k = length-nodes (at + size a) b in simp length-append (omega arith))
          (λ h.
          let e = (p.stored h).next in
          let f : n ≡ m + size b = ends w (omega arith) in
          let g : m ≡ at + size a = ends v (omega arith) in
          append_assoc (nodes_from at a) (nodes_from m b) (last m n)
          ∙ ap₂ (λ (j k : ℕ). nodes_from at a ++ (nodes_from j b ++ last j k)) g (f ∙ ap (λ (j : ℕ). j + size b) g))
          (after (after v.puts w.puts) p);
      signals = λ h.
          let e = (p.stored h).next in
          let f : n ≡ m + size b = ends w (omega arith) in
          (v.signals (omega arith), w.signals (omega arith));
    }

-- a formula that does not fit, whatever became of the table
pub wrote_none : {f : Formula} {out out' : List ℕ} {at r : ℕ} → max_nodes < at + size f → max_nodes < r → Wrote f out out' at r
wrote_none {f} {out} {out'} {at} {r} g h = record {
  puts = record { stored = λ l. absurd (omega arith); many = λ l. let e = length-nodes at f in omega arith };
  signals = λ l. absurd (omega arith);
}

-- an operand that ends at no index below the last leaves no room for its operator
pub past_one : (o : Unary) {a : Formula} {out between : List ℕ} {at m : ℕ} → Wrote a out between at m → (0 < m → max_nodes ≤ m) → max_nodes < at + size (One o a)
unfolding size
past_one o {a} {out} {between} {at} {m} w g = go (dec_lt max_nodes m)
  where
    go : Dec (max_nodes < m) → max_nodes < at + (size a + 1)
    go (yes l) = omega (arith, past w l)
    go (no l) = let s = size_pos a in let n : m ≡ at + size a = ends w (omega arith) in omega (arith, g (omega arith))

pub past_two : (o : Binary) {a b : Formula} {out middle between : List ℕ} {at m n : ℕ} → Wrote a out middle at m → Wrote b middle between m n
    → (0 < m → m ≤ n → max_nodes ≤ n) → max_nodes < at + size (Two o a b)
unfolding size
past_two o {a} {b} {out} {middle} {between} {at} {m} {n} v w g = go (dec_lt max_nodes m) (dec_lt max_nodes n)
  where
    go : Dec (max_nodes < m) → Dec (max_nodes < n) → max_nodes < at + (size a + size b + 1)
    go (yes l) d = omega (arith, past v l)
    go (no l) (yes k) = let e : m ≡ at + size a = ends v (omega arith) in omega (arith, past w k)
    go (no l) (no k) =
        let s = size_pos a in
        let e : m ≡ at + size a = ends v (omega arith) in
        let f : n ≡ m + size b = ends w (omega arith) in
        omega (arith, g (omega arith) (omega arith))
