-- Small sets of plans that fit.
use Rattle.std.proofs.Common.{◌≡◌, ℕ, zero, suc, ◌*◌, ◌/◌, ◌^◌, ◌<◌, ◌≤◌, [], ◌∷◌, Some, replicate, refl, arith, lit<, lit≤}
use Rattle.std.specs.Prelude.{slice_get}
use Rattle.std.proofs.Math.Nat.{div_self}
use Rattle.std.proofs.lemmas.List.Elements.{All-nil, All-cons, All-replicate, All-head}
use Rattle.std.proofs.lemmas.Nat.Gcd.{IsGcd-from_zero, IsGcd-from_mod}
use Rattle.tcel_demand.specs.Examples.{end_within}
use Rattle.tcel_demand.specs.Sound.{IsSoundPoint, IsSoundPlan, Fit, HasPoint}
use Rattle.tcel_demand.proofs.Fits.{one_point, two_sound}
use Rattle.tcel_demand.proofs.Hyperperiods.{own_hyperperiod, own_demand}
use Rattle.tcel_num.specs.Plan.{Plan}
use Rattle.tcel_num.proofs.CommonMultiples.{two}

-- a plan with one point, behind all its cycles
abbrev pub plan_within : ℕ → ℕ → ℕ → Plan
plan_within period total bound = record { period = period; total = total; points = end_within total bound ∷ [] }

whole_sound : (period total bound : ℕ) → 0 < period → period ≤ 10 ^ 9 → 0 < total → total ≤ 10 ^ 9 → 0 < bound → bound ≤ 10 ^ 9 → IsSoundPlan (plan_within period total bound)
whole_sound period total bound a b c d e f = one_point period total (end_within total bound) a b c d (record { prefix_some = c; prefix_within = omega arith; bound_some = e; bound_most = f })

-- 2 cycles of 4 and 3 of 6: together 12 of 12
pub close_fit : (bound : ℕ) → 0 < bound → bound ≤ 10 ^ 9 → Fit (plan_within 4 2 4 ∷ plan_within 6 3 bound ∷ []) 12
close_fit bound some most = record {
  within = record {
    sound = two_sound (plan_within 4 2 4) (plan_within 6 3 bound) (whole_sound 4 2 4 (lit< tt) (lit≤ tt) (lit< tt) (lit≤ tt) (lit< tt) (lit≤ tt)) (whole_sound 6 3 bound (lit< tt) (lit≤ tt) (lit< tt) (lit≤ tt) some most);
    period = two 4 6 2 (lit< tt) (lit< tt) (IsGcd-from_mod 4 6 2 (IsGcd-from_mod 6 4 2 (IsGcd-from_mod 4 2 2 (IsGcd-from_zero 2 0 refl))));
    frames = lit≤ tt;
  };
  most = lit≤ tt;
  room = lit≤ tt;
}

-- a hyperperiod of 249,999,500,000 ticks
abbrev pub long_plan : ℕ → Plan
long_plan period = record { period = period; total = 2; points = end_within 1 period ∷ [] }

long_sound : (period : ℕ) → 0 < period → period ≤ 10 ^ 9 → IsSoundPlan (long_plan period)
long_sound period a b = one_point period 2 (end_within 1 period) a b (lit< tt) (lit≤ tt) (record { prefix_some = lit< tt; prefix_within = lit≤ tt; bound_some = a; bound_most = b })

pub long_fit : Fit (long_plan 499999 ∷ long_plan 500000 ∷ []) 249999500000
long_fit = record {
  within = record {
    sound = two_sound (long_plan 499999) (long_plan 500000) (long_sound 499999 (lit< tt) (lit≤ tt)) (long_sound 500000 (lit< tt) (lit≤ tt));
    period = two 499999 500000 1 (lit< tt) (lit< tt) (IsGcd-from_mod 499999 500000 1 (IsGcd-from_mod 500000 499999 1 (IsGcd-from_mod 499999 1 1 (IsGcd-from_zero 1 0 refl))));
    frames = lit≤ tt;
  };
  most = lit≤ tt;
  room = lit≤ tt;
}

-- one plan alone
pub alone_fit : (plan : Plan) → IsSoundPlan plan → plan.total ≤ plan.period → Fit (plan ∷ []) plan.period
alone_fit plan sound fits =
    let one : plan.period / plan.period ≡ 1 = div_self sound.period_some in
    let whole = own_demand plan sound.period_some in
    let most = sound.period_most in
    record {
      within = record {
        sound = record { some = lit< tt; most = lit≤ tt; each = All-cons IsSoundPlan plan [] sound (All-nil IsSoundPlan) };
        period = own_hyperperiod plan sound.period_some;
        frames = omega arith;
      };
      most = omega arith;
      room = omega arith;
    }

-- 16 plans of one cycle in 16 ticks each
pub sixteen_fit : Fit (replicate 16 (plan_within 16 1 16)) 16
sixteen_fit = record {
  within = record {
    sound = record { some = lit< tt; most = lit≤ tt; each = All-replicate IsSoundPlan 16 (plan_within 16 1 16) (whole_sound 16 1 16 (lit< tt) (lit≤ tt) (lit< tt) (lit≤ tt) (lit< tt) (lit≤ tt)) };
    period = record {
      positive = lit< tt;
      common = All-replicate (λ period. (k : ℕ) × (16 ≡ k * period)) 16 16 (1, refl);
      least = λ m some common. reaches m some (All-head (λ period. (k : ℕ) × (m ≡ k * period)) 16 (replicate 15 16) common);
    };
    frames = lit≤ tt;
  };
  most = lit≤ tt;
  room = lit≤ tt;
}
  where
    reaches : (m : ℕ) → 0 < m → (k : ℕ) × (m ≡ k * 16) → 16 ≤ m
    reaches m some (zero, e) = absurd (omega arith)
    reaches m some (suc k, e) = omega arith

pub sixteen_point : (task : ℕ) → task < 16 → slice_get (replicate 16 (plan_within 16 1 16)) task ≡ Some (plan_within 16 1 16) → HasPoint (replicate 16 (plan_within 16 1 16)) task 0
sixteen_point task less e = record { plan = plan_within 16 1 16; of_task = e; what = end_within 1 16; of_plan = refl }

-- points that don't stand in the order of their prefixes, two of them alike
abbrev pub three_points : Plan
three_points = record { period = 10; total = 6; points = end_within 6 5 ∷ end_within 2 1 ∷ end_within 6 5 ∷ [] }

last_point : IsSoundPoint 6 (end_within 6 5)
last_point = record { prefix_some = lit< tt; prefix_within = lit≤ tt; bound_some = lit< tt; bound_most = lit≤ tt }

pub three_points_fit : Fit (three_points ∷ []) 10
three_points_fit =
    alone_fit three_points (record {
      period_some = lit< tt;
      period_most = lit≤ tt;
      total_some = lit< tt;
      total_most = lit≤ tt;
      points = All-cons (IsSoundPoint 6) (end_within 6 5) (end_within 2 1 ∷ end_within 6 5 ∷ []) last_point
          (All-cons (IsSoundPoint 6) (end_within 2 1) (end_within 6 5 ∷ []) (record { prefix_some = lit< tt; prefix_within = lit≤ tt; bound_some = lit< tt; bound_most = lit≤ tt })
          (All-cons (IsSoundPoint 6) (end_within 6 5) [] last_point (All-nil (IsSoundPoint 6))));
    }) (lit≤ tt)
