-- What a state gives to the functions that are called in it.
use Rattle.std.specs.Prelude.{ℕ, ◌+◌, ◌<◌, ◌^◌, List, Bool}
use Rattle.std.proofs.Common.{arith}
use Rattle.entries.specs.Kinds as Kind
use Rattle.entries.specs.Cursors.{Fits, number_at, next_of}
use Rattle.entries.specs.CursorLaws.{before-end}
use Rattle.expressions.specs.Stack.{class_bits}
use Rattle.expressions.specs.declared.stack.Machine.{Machine}
use Rattle.expressions.specs.Machines.{Pushes}
use Rattle.expressions.specs.States.{Standing}
use Rattle.expressions.specs.StateLaws.{facts}
use Rattle.expressions.specs.Starts.{Leafs}
use Rattle.language.specs.Limits.{max_tokens}

module _ {complete : Bool} {w : List ℕ} {m : Machine} (g : Standing complete w m) where
  pub asks_number : Fits w m.c
  asks_number = (facts g.state).fits

  -- there is a next token
  module _ (l : 0 < number_at w m.c) where
    pub asks-next : m.c.at < max_tokens
    asks-next = omega (arith, before-end w m.c l, asks_number.few)

    pub asks-second : Fits w (next_of m.c)
    asks-second = let f = asks_number in record { room = f.room; few = f.few; short = f.short; inside = omega (arith, before-end w m.c l) }

    pub asks-push : (k : ℕ) → k < 2 ^ class_bits → Pushes w m k m.c.at
    asks-push k h = let f = facts g.state in record { room = f.fits.room; deep = omega (arith, f.apart, f.few); class-fits = h; level_fits = f.level_fits; token-fits = asks-next }

    pub asks-leaf : (k : ℕ) → k < Kind.limit → Leafs w m k
    asks-leaf k h = let f = facts g.state in record { room = f.fits.room; at-fits = asks-next; out_fits = omega (arith, f.apart, f.few); kind_fits = h }

    -- and another one
    pub asks-third : 0 < number_at w (next_of m.c) → m.c.at + 1 < max_tokens
    asks-third k = omega (arith, before-end w (next_of m.c) k, asks_number.few)
