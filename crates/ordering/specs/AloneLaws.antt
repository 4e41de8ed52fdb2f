-- Into an empty table: the array then holds the formula's own nodes, the formula's node last, or there is no room for as many. Whatever limit the table passed, its signal
-- numbers fit a field.
use Rattle.std.specs.Prelude.{ℕ, ◌≤◌, ◌<◌, ◌≡◌, List, [], true, length, get_or, eqb, ltb}
use Rattle.std.proofs.Common.{arith, lt-ltb}
use Rattle.node.specs.Limits.{max_nodes, field_limit}
use Rattle.node.specs.Ltl.{Formula}
use Rattle.node.specs.Fields.{kind_of, first_of, second_of}
use Rattle.node.specs.Kinds.{Shape, Truth, Falsehood, Atom, UnaryOf, BinaryOf, Unused, shape_of}
use Rattle.node.specs.Tests.{and_right}
use Rattle.node.specs.Table.{tree_at, fits}
use Rattle.node.specs.Formed.{Formed}
use Rattle.node.proofs.PostorderLaws.{tree-signals}
use Rattle.sharing.specs.Sharing.{distinct_nodes, distinct_count}
use Rattle.sharing.proofs.LastLaws.{last-number}
use Rattle.shared_table.specs.Shared.{capacity, Shares}
use Rattle.shared_table.specs.SharedLaws.{shares_few}
use Rattle.ordering.specs.Ordering.{Orderable, Orders}

-- a table that passes with some limit passes with the largest
fits_largest : (limit n : ℕ) (s : Shape) (a b : ℕ) → a < field_limit → fits limit n s a b ≡ true → fits field_limit n s a b ≡ true
fits_largest limit n Truth a b h ok = ok
fits_largest limit n Falsehood a b h ok = ok
fits_largest limit n Atom a b h ok = rw (lt-ltb a field_limit h) (and_right (ltb a limit) (eqb b 0) ok)
fits_largest limit n (UnaryOf o) a b h ok = ok
fits_largest limit n (BinaryOf o) a b h ok = ok
fits_largest limit n Unused a b h ok = ok

pub formed_largest : {limit : ℕ} {ws : List ℕ} → Formed limit ws → Formed field_limit ws
formed_largest {limit} {ws} f =
    record {
      some = f.some;
      few = f.few;
      each =
          λ i h.
          let w : ℕ = get_or ws i 0 in
          fits_largest limit i (shape_of (kind_of w)) (first_of w) (second_of w) (omega arith) (f.each i h);
    }

-- what has become of an array that held the empty table
pub record Alone (f : Formula) (out out' : List ℕ) (r : ℕ) : Type 0 where
  pub done : r ≤ max_nodes → Shares out' (distinct_nodes f) × (r ≡ distinct_count f)
  pub refused : max_nodes < r → capacity (length out) < distinct_count f

pub orders_alone : {nodes : List ℕ} {root : ℕ} {out out' : List ℕ} {r : ℕ} → Orderable nodes root out → Shares out [] → Orders nodes root out out' r
    → Alone (tree_at nodes root) out out' r
unfolding distinct_nodes distinct_count
orders_alone {nodes} {root} o none orders =
    record {
      done =
          λ few.
          let w = orders.done few [] none in
          let room = shares_few w.shares in
          let number = w.number in
          let last = last-number (tree_at nodes root) (tree-signals (formed_largest o.formed) root o.inside) (omega arith) in
          (w.shares, omega arith);
      refused = λ m. orders.refused m [] none;
    }
