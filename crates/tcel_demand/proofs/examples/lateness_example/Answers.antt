use Rattle.std.proofs.Common.{◌≡◌, ℕ, zero, suc, ◌<◌, ◌≤◌, true, false, refl, arith, lit<}
use Rattle.tcel_num.specs.Schedule.{served_counts}
use Rattle.tcel_num.specs.Lateness.{IsResponse, IsLate, Precedes}
use Rattle.tcel_demand.specs.Examples.{two_plans, quick_plan, slow_plan, end_within}
use Rattle.tcel_demand.proofs.Served.{AreWhole}
use Rattle.tcel_demand.proofs.Responses.{responds, always_within, all_below_at, is_within, within, never_late, no_more}
use Rattle.tcel_demand.proofs.examples.lateness_example.Goals as goal

whole : (bound : ℕ) → AreWhole (two_plans bound) 700 (served_counts (two_plans bound) 700)
whole bound = (refl, refl, lit< tt, (refl, refl, lit< tt, tt))

slow : (bound at less : ℕ) → is_within (two_plans bound) 1 (slow_plan bound) (end_within 62 bound) (suc less) at ≡ true → is_within (two_plans bound) 1 (slow_plan bound) (end_within 62 bound) less at ≡ false → IsResponse (two_plans bound) (record { task = 1; frame = at; point = 0 }) (slow_plan bound) (end_within 62 bound) (suc less)
slow bound at less above below = responds (two_plans bound) 1 at 0 (slow_plan bound) (end_within 62 bound) less refl refl above below

pub returns-clause-served : goal.returns-clause-served
returns-clause-served c = refl

pub returns-clause-responses : goal.returns-clause-responses
returns-clause-responses c =
    (slow 118 0 113 refl refl, (slow 118 1 101 refl refl, (slow 118 2 115 refl refl, (slow 118 3 103 refl refl, (slow 118 4 117 refl refl, (slow 118 5 105 refl refl, (slow 118 6 93 refl refl, tt)))))))

quick_in_time : (bound at point : ℕ) → IsLate (two_plans bound) (record { task = 0; frame = at; point = point }) → ⊥
quick_in_time bound at zero late =
    never_late (two_plans bound) (record { task = 0; frame = at; point = 0 }) quick_plan (end_within 26 70) refl refl
    (λ response r. always_within (two_plans bound) 700 0 at 0 quick_plan (end_within 26 70) response 70 (whole bound) (lit< tt) refl r) late
quick_in_time bound at (suc k) late = no_more (two_plans bound) (record { task = 0; frame = at; point = suc k }) quick_plan (end_within 26 70) k refl refl refl late

slow_within : (at response : ℕ) → IsResponse (two_plans 118) (record { task = 1; frame = at; point = 0 }) (slow_plan 118) (end_within 62 118) response → response ≤ 118
slow_within at response r = always_within (two_plans 118) 700 1 at 0 (slow_plan 118) (end_within 62 118) response 118 (whole 118) (lit< tt) refl r

slow_early : (bound at response : ℕ) → at < 4 → IsResponse (two_plans bound) (record { task = 1; frame = at; point = 0 }) (slow_plan bound) (end_within 62 bound) response → response ≤ 117
slow_early bound at response low r =
    within (two_plans bound) (record { task = 1; frame = at; point = 0 }) (slow_plan bound) (end_within 62 bound) response 117 r
    (all_below_at (is_within (two_plans bound) 1 (slow_plan bound) (end_within 62 bound) 117) 4 at refl low)

in_time : (task at point : ℕ) → IsLate (two_plans 118) (record { task = task; frame = at; point = point }) → ⊥
in_time zero at point late = quick_in_time 118 at point late
in_time (suc zero) at zero late =
    never_late (two_plans 118) (record { task = 1; frame = at; point = 0 }) (slow_plan 118) (end_within 62 118) refl refl (slow_within at) late
in_time (suc zero) at (suc k) late = no_more (two_plans 118) (record { task = 1; frame = at; point = suc k }) (slow_plan 118) (end_within 62 118) k refl refl refl late
in_time (suc (suc k)) at point late = let e = late.3.of_task in cc

-- before the fifth frame of the slow task no point is late
early : (task at point : ℕ) → Precedes (record { task = task; frame = at; point = point }) (record { task = 1; frame = 4; point = 0 }) → IsLate (two_plans 117) (record { task = task; frame = at; point = point }) → ⊥
early zero at point before late = quick_in_time 117 at point late
early (suc zero) at zero before late =
    let low : at < 4 = omega arith in
    never_late (two_plans 117) (record { task = 1; frame = at; point = 0 }) (slow_plan 117) (end_within 62 117) refl refl (λ response r. slow_early 117 at response low r) late
early (suc zero) at (suc k) before late = no_more (two_plans 117) (record { task = 1; frame = at; point = suc k }) (slow_plan 117) (end_within 62 117) k refl refl refl late
early (suc (suc k)) at point before late = let e = late.3.of_task in cc

pub returns-clause-worst : goal.returns-clause-worst
returns-clause-worst c = record {
  plan = slow_plan 118;
  what = end_within 62 118;
  reached = slow 118 4 117 refl refl;
  greatest = λ other r h. slow_within other r h;
  earliest = λ other r low h. omega (arith, slow_early 118 other r low h);
}

pub returns-clause-in_time : goal.returns-clause-in_time
returns-clause-in_time c = λ place late. in_time place.task place.frame place.point late

pub returns-clause-late : goal.returns-clause-late
returns-clause-late c = record {
  plan = slow_plan 117;
  point = end_within 62 117;
  responds = slow 117 4 117 refl refl;
  named = refl;
  bounded = refl;
  above = lit< tt;
  first = λ place before late. early place.task place.frame place.point before late;
}
