-- How many releases a period has before a time: the time by the period, rounded up.
use Rattle.std.proofs.Common.{ℕ, zero, suc, ◌+◌, ◌*◌, ◌<◌, ◌≤◌, arith, inl, inr}
use Rattle.std.proofs.Math.Nat.{lt-mul-div-succ, mul-le-mul_right, div-lt_iff_lt-mul}
use Rattle.std.proofs.lemmas.Bool.{cases_lt}
use Rattle.tcel_demand.specs.Workload.{releases}

-- a time is no further than its releases reach
pub releases_reach : (period time : ℕ) → 0 < period → time ≤ releases period time * period
releases_reach period zero some = omega arith
releases_reach period (suc time) some = omega (arith, lt-mul-div-succ time some)

-- and no fewer releases reach it
pub releases_least : (period time many : ℕ) → 0 < period → time ≤ many * period → releases period time ≤ many
releases_least period zero many some h = omega arith
releases_least period (suc time) many some h = let below = (div-lt_iff_lt-mul {k = period} {x = time} {y = many} some).1 (omega arith) in omega arith

pub releases_mono : (period early late : ℕ) → 0 < period → early ≤ late → releases period early ≤ releases period late
releases_mono period early late some h = let reach = releases_reach period late some in releases_least period early (releases period late) some (omega arith)

-- a window has no more releases than the time from 0 that is as long
pub releases_window : (period start long : ℕ) → 0 < period → releases period (start + long) ≤ releases period start + releases period long
releases_window period start long some =
    let first = releases_reach period start some in
    let second = releases_reach period long some in
    releases_least period (start + long) (releases period start + releases period long) some (omega arith)

-- the release at this multiple of the period comes before a later time
pub released_before : (period time many : ℕ) → 0 < period → many * period < time → many < releases period time
released_before period time many some h =
    elim (cases_lt many (releases period time)) [
      | inl less ↦ less
      | inr few ↦
          let reach = releases_reach period time some in
          let most : releases period time * period ≤ many * period = mul-le-mul_right period few in
          absurd (omega arith)
    ]
