-- A formula is written once its operands are and its own node is put; where there is no room for a part of it, there is none for the whole.
use Rattle.std.specs.Prelude.{ℕ, zero, suc, ◌+◌, ◌-◌, ◌<◌, ◌≤◌, min, List, [], ◌∷◌, ◌≡◌, length}
use Rattle.std.proofs.Common.{ap, ap₂, ◌∙◌, sym, subst, length-append, arith}
use Rattle.std.proofs.Math.Decide.{dec_lt}
use Rattle.node.specs.Limits.{max_nodes, field_limit}
use Rattle.node.specs.Ltl.{Unary, Binary, Formula, One, Two}
use Rattle.node.specs.Fields.{pack}
use Rattle.node.specs.Kinds.{unary_kind, binary_kind}
use Rattle.node.specs.Postorder.{SignalsBelow}
use Rattle.sharing.specs.Sharing.{Placed, having, place, write}
use Rattle.sharing.proofs.PlaceLaws.{having_new}
use Rattle.sharing.proofs.WriteLaws.{write-one, write_two, write-grows, having-grows, grows-length}
use Rattle.shared_table.specs.Shared.{capacity, Shares, Puts}
use Rattle.shared_table.specs.RoomLaws.{capacity_of}
use Rattle.shared_writing.specs.Writing.{table_words, Stays, Held, Wrote}
use Rattle.shared_writing.specs.StayLaws.{stays_past, stays_then, stays_capped, puts_stays}

-- the array holds table t with the nodes of the formula's operands, and w is the formula's own node
pub record Over (f : Formula) (out t : List ℕ) (w : ℕ) : Type 0 where
  pub table : List ℕ
  pub shares : Shares out table
  pub placed : write t f ≡ place table w

-- it is put
pub wrote-node : {f : Formula} {before out out' : List ℕ} {at m w r : ℕ} → m ≤ max_nodes → SignalsBelow field_limit f → Stays before out at m → length out' ≡ length out
    → Puts out out' w r → ((t : List ℕ) → Shares before t → Over f out t w) → Wrote f before out' at r
wrote-node {f} {before} {out} {out'} {at} {m} {w} {r} h s b l p over = record {
  stays = stays_then b (puts_stays h l p);
  held = λ e t q.
      let o = over t q in
      let d = p.done e o.table o.shares in
      record {
        shares = subst (λ (x : Placed). Shares out' x.table) (sym o.placed) d.shares;
        number = subst (λ (x : Placed). r ≡ suc x.number) (sym o.placed) d.number;
      };
  many = λ e _ t q.
      let o = over t q in
      let d = p.refused e o.table o.shares in
      let a = d.absent in
      let c = d.full in
      let same : capacity (length before) ≡ capacity (length out) = ap capacity (sym b.long) in
      let new : length (having o.table w) ≡ length o.table + 1 = rw (having_new o.table w (omega arith)) (length-append o.table (w ∷ [])) in
      let whole : length (write t f).table ≡ length (having o.table w) = ap (λ (x : Placed). length x.table) o.placed in
      omega arith;
  signals = λ _. s;
}

-- over its operands
over-one : (o : Unary) {a : Formula} {out t : List ℕ} {m : ℕ} → Held a out t m → Over (One o a) out t (pack (unary_kind o) (m - 1) 0)
over-one o {a} {out} {t} {m} h =
    let n = h.number in
    let same : (write t a).number ≡ m - 1 = omega arith in
    record {
      table = (write t a).table;
      shares = h.shares;
      placed = write-one t o a ∙ ap (λ (k : ℕ). place (write t a).table (pack (unary_kind o) k 0)) same;
    }

over-two : (o : Binary) {a b : Formula} {between out t : List ℕ} {m n : ℕ} → Held a between t m → Held b out (write t a).table n
    → Over (Two o a b) out t (pack (binary_kind o) (m - 1) (n - 1))
over-two o {a} {b} {between} {out} {t} {m} {n} h g =
    let x = write t a in
    let y = write x.table b in
    let i = h.number in
    let j = g.number in
    let first : x.number ≡ m - 1 = omega arith in
    let second : y.number ≡ n - 1 = omega arith in
    record {
      table = y.table;
      shares = g.shares;
      placed = write_two t o a b ∙ ap₂ (λ (k l : ℕ). place y.table (pack (binary_kind o) k l)) first second;
    }

pub wrote_one : (o : Unary) {a : Formula} {before out out' : List ℕ} {at m r : ℕ} → m ≤ max_nodes → Wrote a before out at m → length out' ≡ length out
    → Puts out out' (pack (unary_kind o) (m - 1) 0) r → Wrote (One o a) before out' at r
unfolding SignalsBelow
wrote_one o h w l p = wrote-node h (w.signals h) w.stays l p (λ t q. over-one o (w.held h t q))

pub wrote-two : (o : Binary) {a b : Formula} {before between out out' : List ℕ} {at m n r : ℕ} → n ≤ max_nodes → Wrote a before between at m → Wrote b between out m n
    → length out' ≡ length out → Puts out out' (pack (binary_kind o) (m - 1) (n - 1)) r → Wrote (Two o a b) before out' at r
unfolding SignalsBelow
wrote-two o h v w l p =
    let g = w.stays.further h in
    wrote-node h (v.signals g, w.signals h) (stays_then v.stays w.stays) l p
    (λ t q. let x = v.held g t q in over-two o x (w.held h _ x.shares))

-- a formula for which there is no room
pub wrote_none : {f : Formula} {out out' : List ℕ} {at r : ℕ} → Stays out out' at r → max_nodes < r
    → (at ≤ max_nodes → (t : List ℕ) → Shares out t → capacity (length out) < length (write t f).table) → Wrote f out out' at r
wrote_none b h g = record {
  stays = b;
  held = λ l. absurd (omega arith);
  many = λ _. g;
  signals = λ l. absurd (omega arith);
}

-- behind the last node there is room for none
pub wrote-past : {f : Formula} {out out' : List ℕ} {at r : ℕ} → Stays out out' at r → max_nodes < at → max_nodes < r → Wrote f out out' at r
wrote-past b h l = wrote_none b l (λ k. absurd (omega arith))

-- a formula that needs as much room as one that has none
pub wrote_longer : {f g : Formula} {out out' : List ℕ} {at m r : ℕ} → ((t : List ℕ) → length (write t f).table ≤ length (write t g).table) → max_nodes < m → max_nodes < r
    → Wrote f out out' at m → Wrote g out out' at r
wrote_longer {out' = out'} more h l w = wrote_none (stays_then w.stays (stays_past out' l)) l (λ k t q. let a = w.many h k t q in let b = more t in omega arith)

-- what grows with each step, or stays, is larger nowhere before
pub rising : (f : ℕ → ℕ) → ((n : ℕ) → f n ≤ f (suc n)) → (i n : ℕ) → i ≤ n → f i ≤ f n
rising f s i zero h = let e : i ≡ 0 = omega arith in rw e (omega arith)
rising f s i (suc n) h = go (dec_lt n i) (λ l. rising f s i n l)
  where
    go : Dec (n < i) → (i ≤ n → f i ≤ f n) → f i ≤ f (suc n)
    go (yes l) r = let e : i ≡ suc n = omega arith in rw e (omega arith)
    go (no l) r = let x = r (omega arith) in let y = s n in omega arith

-- an operator's formula needs as much room as its operands
pub one_longer : (o : Unary) (a : Formula) (t : List ℕ) → length (write t a).table ≤ length (write t (One o a)).table
one_longer o a t =
    let e = write-one t o a in
    rw e (grows-length (having-grows (write t a).table (pack (unary_kind o) (write t a).number 0)))

pub two_longer : (o : Binary) (a b : Formula) (t : List ℕ) → length (write (write t a).table b).table ≤ length (write t (Two o a b)).table
two_longer o a b t =
    let y = write (write t a).table b in
    rw (write_two t o a b) (grows-length (having-grows y.table (pack (binary_kind o) (write t a).number y.number)))

-- an operand with no node, or with no room for it
pub none_one : (o : Unary) {a : Formula} {before out out' : List ℕ} {at m r : ℕ} → (0 < m → max_nodes < m) → max_nodes < r → Stays out out' m r → Wrote a before out at m
    → Wrote (One o a) before out' at r
none_one o {a} {before} {out} {out'} {at} {m} {r} g h b w = wrote_none (stays_then w.stays b) h (λ k t q. go k t q (dec_lt max_nodes m))
  where
    go : at ≤ max_nodes → (t : List ℕ) → Shares before t → Dec (max_nodes < m) → capacity (length before) < length (write t (One o a)).table
    go k t q (yes l) = let x = w.many l k t q in let y = one_longer o a t in omega arith
    go k t q (no l) = let x = (w.held (omega arith) t q).number in absurd (let z = g (omega arith) in omega arith)

pub none_two : (o : Binary) {a b : Formula} {before between out out' : List ℕ} {at m n r : ℕ} → (0 < m → 0 < n → m ≤ max_nodes → max_nodes < n) → max_nodes < r → Stays out out' n r
    → Wrote a before between at m → Wrote b between out m n → Wrote (Two o a b) before out' at r
none_two o {a} {b} {before} {between} {out} {out'} {at} {m} {n} {r} g h s v w =
    wrote_none (stays_then v.stays (stays_then w.stays s)) h (λ k t q. go k t q (dec_lt max_nodes m) (dec_lt max_nodes n))
  where
    go : at ≤ max_nodes → (t : List ℕ) → Shares before t → Dec (max_nodes < m) → Dec (max_nodes < n) → capacity (length before) < length (write t (Two o a b)).table
    go k t q (yes l) d =
        let x = v.many l k t q in
        let y = grows-length (write-grows (write t a).table b) in
        let z = two_longer o a b t in
        omega arith
    go k t q (no l) (yes d) =
        let x = w.many d (omega arith) (write t a).table (v.held (omega arith) t q).shares in
        let same : capacity (length between) ≡ capacity (length before) = ap capacity v.stays.long in
        let z = two_longer o a b t in
        omega arith
    go k t q (no l) (no d) =
        let x = v.held (omega arith) t q in
        let i = x.number in
        let j = (w.held (omega arith) (write t a).table x.shares).number in
        absurd (let z = g (omega arith) (omega arith) (omega arith) in omega arith)

-- every index past the last stands for all of them
pub wrote-capped : {f : Formula} {out out' : List ℕ} {at n r : ℕ} → r ≡ min n (suc max_nodes) → Wrote f out out' at n → Wrote f out out' at r
wrote-capped {f} {out} {out'} {at} {n} {r} e w = record {
  stays = stays_capped e w.stays;
  held = λ h t q. let same : n ≡ r = omega arith in subst (Held f out' t) same (w.held (omega arith) t q);
  many = λ h. w.many (omega arith);
  signals = λ h. w.signals (omega arith);
}

-- what does not fit the reader's array has more than 8,192 nodes with the table before it
pub wrote_many : {f : Formula} {out out' : List ℕ} {at r : ℕ} → length out ≡ table_words → Wrote f out out' at r → max_nodes < r → at ≤ max_nodes → (t : List ℕ) → Shares out t
    → max_nodes < length (write t f).table
wrote_many {f} {out} {out'} {at} {r} l w h k t q =
    let x = w.many h k t q in
    let c : capacity (length out) ≡ max_nodes = ap capacity l ∙ capacity_of {n = max_nodes} (omega arith) in
    omega arith
