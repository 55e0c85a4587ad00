-- Counters of 64 bits, which stand still at their last value.
use Rattle.std.specs.Prelude.{ℕ, ◌+◌, ◌-◌, ◌^◌, ◌≤◌, min, max, List, [], ◌∷◌, Option, Some, None, ◌≡◌}
use Rattle.std.proofs.Common.{arith}
use Rattle.tcel_io.specs.Told.{StaysTold}

-- one more, up to the last value
abbrev pub one_more : ℕ → ℕ
one_more count = max count (min (count + 1) (2 ^ 64 - 1))

-- the count is above its earlier value, or at the last one
abbrev pub Rose : ℕ → ℕ → Type 0
Rose before now = one_more before ≤ now

-- a count that never falls rose in a call where it rose in a part of it
pub Rose-within : (before start end now : ℕ) → before ≤ start → Rose start end → end ≤ now → Rose before now
Rose-within before start end now earlier rose later = omega arith

-- the number of puts after one of this piece: an empty piece isn't counted
abbrev pub puts_after : List ℕ → ℕ → ℕ
puts_after [] puts = puts
puts_after (byte ∷ bytes) puts = one_more puts

-- a call made at most so many puts
abbrev pub PutsAtMost : ℕ → Option ℕ → Option ℕ → Type 0
PutsAtMost most = StaysTold (λ old new. new ≤ old + most)

puts_after-one : (piece : List ℕ) (puts : ℕ) → puts_after piece puts ≤ puts + 1
puts_after-one [] puts = omega arith
puts_after-one (byte ∷ bytes) puts = omega arith

-- a put is at most one
pub PutsAtMost-put : (piece : List ℕ) (old new : Option ℕ) → StaysTold (λ old new. new ≡ puts_after piece old) old new → PutsAtMost 1 old new
PutsAtMost-put piece None new counted = tt
PutsAtMost-put piece (Some x) None counted = absurd counted
PutsAtMost-put piece (Some x) (Some y) counted = omega (arith, counted, puts_after-one piece x)

-- no put at all
pub PutsAtMost-none : (puts : Option ℕ) → PutsAtMost 0 puts puts
PutsAtMost-none None = tt
PutsAtMost-none (Some puts) = omega arith

-- so many puts are at most more
pub PutsAtMost-more : (most more : ℕ) (old new : Option ℕ) → most ≤ more → PutsAtMost most old new → PutsAtMost more old new
PutsAtMost-more most more None new le h = tt
PutsAtMost-more most more (Some x) None le h = absurd h
PutsAtMost-more most more (Some x) (Some y) le h = omega (arith, h)

-- so many puts and then more
pub PutsAtMost-append : (first second : ℕ) (start middle end : Option ℕ) → PutsAtMost first start middle → PutsAtMost second middle end → PutsAtMost (first + second) start end
PutsAtMost-append first second None middle end before after = tt
PutsAtMost-append first second (Some x) None end before after = absurd before
PutsAtMost-append first second (Some x) (Some y) None before after = absurd after
PutsAtMost-append first second (Some x) (Some y) (Some z) before after = omega (arith, before, after)
