-- A signal list entry comes apart again as it was put together, for fields of any width, and has 32 bits.
use Rattle.std.specs.Prelude.{ℕ, zero, suc, ◌+◌, ◌*◌, ◌^◌, ◌<◌, ◌≡◌, Bool, true, false}
use Rattle.std.proofs.Common.{ap, ◌∙◌, sym, subst, arith, add-zero, mul-one, mul_assoc, pow-suc}
use Rattle.std.proofs.Math.Nat.{pow-zero}
use Rattle.std.proofs.Math.Arith.{digits_lt}
use Rattle.node.specs.BitFields.{join, above, below}
use Rattle.node.proofs.FieldLaws.{above_join, below-join}
use Rattle.language.specs.Limits.{offset_bits, index_bits, width_bits}
use Rattle.language.specs.Numbering.{fields, entry}
use Rattle.language.specs.Numbered.{width_of, index_of, offset_of, flag_of}
use Rattle.language.specs.Listed.{flag}

-- fields of any width
module _ (a b c top : ℕ) {x y z : ℕ} (hx : x < 2 ^ a) (hy : y < 2 ^ b) (hz : z < 2 ^ c) where
  fields-last : below c (fields a b c top x y z) ≡ z
  fields-last = below-join c _ hz

  fields-third : below b (above c (fields a b c top x y z)) ≡ y
  fields-third = ap (below b) (above_join c _ hz) ∙ below-join b _ hy

  fields-second : below a (above b (above c (fields a b c top x y z))) ≡ x
  fields-second = ap (λ n. below a (above b n)) (above_join c _ hz) ∙ ap (below a) (above_join b _ hy) ∙ below-join a top hx

  fields-top : above a (above b (above c (fields a b c top x y z))) ≡ top
  fields-top = ap (λ n. above a (above b n)) (above_join c _ hz) ∙ ap (above a) (above_join b _ hy) ∙ above_join a top hx

-- how many bits they have
pow-sum : (m w : ℕ) → 2 ^ (m + w) ≡ 2 ^ m * 2 ^ w
pow-sum m zero = ap (2 ^◌) (add-zero m) ∙ sym (ap (2 ^ m *◌) (pow-zero 2) ∙ mul-one (2 ^ m))
pow-sum m (suc w) =
    ap (2 ^◌) (omega arith) ∙ pow-suc 2 (m + w) ∙ ap (◌* 2) (pow-sum m w) ∙ mul_assoc (2 ^ m) (2 ^ w) 2 ∙ ap (2 ^ m *◌) (sym (pow-suc 2 w))

join-small : (m w : ℕ) {hi lo : ℕ} → hi < 2 ^ m → lo < 2 ^ w → join w hi lo < 2 ^ (m + w)
join-small m w {hi} {lo} h l = subst (λ n. join w hi lo < n) (sym (pow-sum m w)) (digits_lt h l)

fields-small : (n a b c : ℕ) {top x y z : ℕ} → top < 2 ^ n → x < 2 ^ a → y < 2 ^ b → z < 2 ^ c → fields a b c top x y z < 2 ^ (n + a + b + c)
fields-small n a b c ht hx hy hz = join-small (n + a + b) c (join-small (n + a) b (join-small n a ht hx) hy) hz

flag_small : (output : Bool) → flag output < 2 ^ 1
flag_small true = omega arith
flag_small false = omega arith

-- an entry whose fields fit
module _ (output : Bool) {offset index width : ℕ} (ho : offset < 2 ^ offset_bits) (hi : index < 2 ^ index_bits) (hw : width < 2 ^ width_bits) where
  pub entry-width : width_of (entry output offset index width) ≡ width
  entry-width = fields-last offset_bits index_bits width_bits (flag output) ho hi hw

  pub entry-index : index_of (entry output offset index width) ≡ index
  entry-index = fields-third offset_bits index_bits width_bits (flag output) ho hi hw

  pub entry_offset : offset_of (entry output offset index width) ≡ offset
  entry_offset = fields-second offset_bits index_bits width_bits (flag output) ho hi hw

  pub entry-flag : flag_of (entry output offset index width) ≡ flag output
  entry-flag = fields-top offset_bits index_bits width_bits (flag output) ho hi hw

  -- 'A signal list entry is 32 bits'
  pub entry-small : entry output offset index width < 2 ^ 32
  entry-small = fields-small 1 offset_bits index_bits width_bits (flag_small output) ho hi hw
