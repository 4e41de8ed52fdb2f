-- What an array says of the table that it holds: one table, no two words of it equal; and an array that holds the empty one.
use Rattle.std.specs.Prelude.{ℕ, ◌+◌, ◌≤◌, ◌<◌, List, [], ◌≡◌, refl, length, get_or, replicate}
use Rattle.std.proofs.Common.{sym, ap, ◌∙◌, subst, arith, ext_get_or}
use Rattle.std.proofs.lemmas.List.{length-replicate, get_or-replicate}
use Rattle.node.specs.Limits.{max_nodes}
use Rattle.shared_table.specs.Shared.{nodes_start, slot, word_at, head_of, Link, Leads, here, further, Shares}
use Rattle.shared_table.specs.RoomLaws.{room_few, room-inside}

-- a search for the word of both of two nodes comes to one of them
leads_once : {out : List ℕ} {w u v l bits : ℕ} → word_at out u ≡ w → word_at out v ≡ w → Leads out w u l bits → Leads out w v l bits → u ≡ v
leads_once e f (here g) (here h) = sym g ∙ h
leads_once {out} e f (here g) (further _ other _) = absurd (other (ap (word_at out) g ∙ e))
leads_once {out} e f (further _ other _) (here h) = absurd (other (ap (word_at out) h ∙ f))
leads_once e f (further _ _ x) (further _ _ y) = leads_once e f x y

module _ {out t : List ℕ} (s : Shares out t) where
  pub shares_few : length t ≤ max_nodes
  shares_few = room_few s.long s.room

  pub shares_inside : slot (length t + 1) ≤ length out
  shares_inside = room-inside s.long s.room

  -- a node below the count
  module _ {k : ℕ} (h : k < get_or out 0 0) where
    pub node-few : k < max_nodes
    node-few = let f = shares_few in let c = s.count in omega arith

    pub node-inside : slot (k + 1) < length out
    node-inside = let i = shares_inside in let c = s.count in omega arith

    pub node-is : word_at out (k + 1) ≡ get_or t k 0
    node-is = s.words k (let c = s.count in omega arith)

  pub shares_distinct : (i k : ℕ) → i < length t → k < length t → get_or t i 0 ≡ get_or t k 0 → i ≡ k
  shares_distinct i k h m e =
      let x = s.index.found (i + 1) (omega arith) (omega arith) in
      let y = s.index.found (k + 1) (omega arith) (omega arith) in
      let same : word_at out (k + 1) ≡ word_at out (i + 1) = s.words k m ∙ sym e ∙ sym (s.words i h) in
      let one = leads_once refl same x (subst (λ w. Leads out w (k + 1) (head_of w) w) same y) in
      omega arith

  pub shares_one : {u : List ℕ} → Shares out u → t ≡ u
  shares_one {u} r = ext_get_or 0 t u (sym s.count ∙ r.count) (λ k h. sym (s.words k h) ∙ r.words k (let c = s.count in let d = r.count in omega arith))

-- an array holds the empty table if its count and heads are 0
pub shares_none : (out : List ℕ) → nodes_start ≤ length out → ((i : ℕ) → i < nodes_start → get_or out i 0 ≡ 0) → Shares out []
shares_none out long zeros =
    record {
      long = long;
      room = omega arith;
      count = zeros 0 (omega arith);
      words = λ k h. absurd (omega arith);
      index =
          record {
            inside = λ l k. let e = none l k in omega arith;
            rising = λ l k d. absurd (d (none l k));
            once = λ l m k j d e. absurd (d (none l k));
            found = λ v p h. absurd (omega arith);
            small = λ v p h. absurd (omega arith);
          };
    }
  where
    none : (l : ℕ) → Link 0 l → get_or out l 0 ≡ 0
    none l k = zeros l (let h = k.high in omega arith)

pub shares_zeros : (n : ℕ) → nodes_start ≤ n → Shares (replicate n 0) []
shares_zeros n h = shares_none (replicate n 0) (let e = length-replicate {A = ℕ} n 0 in omega arith) (λ i l. get_or-replicate n i 0 0 (omega arith))
