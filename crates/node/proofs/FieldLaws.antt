-- Fields come apart again as they were put together, whatever their width.
use Rattle.std.specs.Prelude.{ℕ, ◌^◌, ◌<◌, ◌≡◌}
use Rattle.std.proofs.Common.{ap, ◌∙◌}
use Rattle.std.proofs.Math.Arith.{digits_div, digits_mod}
use Rattle.node.specs.Limits.{field_bits, field_limit}
use Rattle.node.specs.Fields.{join, above, below, pack, kind_of, first_of, second_of}

pub above_join : (w hi : ℕ) {lo : ℕ} → lo < 2 ^ w → above w (join w hi lo) ≡ hi
above_join w hi h = digits_div hi h

pub below-join : (w hi : ℕ) {lo : ℕ} → lo < 2 ^ w → below w (join w hi lo) ≡ lo
below-join w hi h = digits_mod hi h

pub kind-pack : (k : ℕ) {a b : ℕ} → a < field_limit → b < field_limit → kind_of (pack k a b) ≡ k
kind-pack k ha hb = ap (above field_bits) (above_join field_bits _ hb) ∙ above_join field_bits k ha

pub first-pack : (k : ℕ) {a b : ℕ} → a < field_limit → b < field_limit → first_of (pack k a b) ≡ a
first-pack k ha hb = ap (below field_bits) (above_join field_bits _ hb) ∙ below-join field_bits k ha

pub second-pack : (k a : ℕ) {b : ℕ} → b < field_limit → second_of (pack k a b) ≡ b
second-pack k a hb = below-join field_bits (join field_bits k a) hb
