-- Small sets of plans that fit.
use Rattle.std.proofs.Common.{ℕ, ◌^◌, ◌<◌, ◌≤◌, [], ◌∷◌, refl, lit<, lit≤}
use Rattle.std.proofs.lemmas.List.Elements.{All-nil, All-cons}
use Rattle.std.proofs.lemmas.Nat.Gcd.{IsGcd-from_zero, IsGcd-from_mod}
use Rattle.tcel_num.specs.Hyperperiod.{IsLeastCommonMultiple}
use Rattle.tcel_num.specs.Plan.{Plan, Point}
use Rattle.tcel_num.proofs.CommonMultiples.{two}
use Rattle.tcel_demand.specs.Examples.{two_plans, quick_plan, slow_plan, end_within}
use Rattle.tcel_demand.specs.Sound.{IsSoundPoint, IsSoundPlan, AreSound, Fit, HasPoint}

-- a plan with one point
pub one_point : (period total : ℕ) (point : Point) → 0 < period → period ≤ 10 ^ 9 → 0 < total → total ≤ 10 ^ 9 → IsSoundPoint total point → IsSoundPlan (record { period = period; total = total; points = point ∷ [] })
one_point period total point a b c d h = record { period_some = a; period_most = b; total_some = c; total_most = d; points = All-cons (IsSoundPoint total) point [] h (All-nil (IsSoundPoint total)) }

pub two_sound : (a b : Plan) → IsSoundPlan a → IsSoundPlan b → AreSound (a ∷ b ∷ [])
two_sound a b h g = record { some = lit< tt; most = lit≤ tt; each = All-cons IsSoundPlan a (b ∷ []) h (All-cons IsSoundPlan b [] g (All-nil IsSoundPlan)) }

hyperperiod : IsLeastCommonMultiple (70 ∷ 100 ∷ []) 700
hyperperiod = two 70 100 10 (lit< tt) (lit< tt) (IsGcd-from_mod 70 100 10 (IsGcd-from_mod 100 70 10 (IsGcd-from_mod 70 30 10 (IsGcd-from_mod 30 10 10 (IsGcd-from_zero 10 0 refl)))))

pub two_plans_fit : (bound : ℕ) → 0 < bound → bound ≤ 10 ^ 9 → Fit (two_plans bound) 700
two_plans_fit bound some most = record {
  within = record {
    sound = two_sound quick_plan (slow_plan bound)
        (one_point 70 26 (end_within 26 70) (lit< tt) (lit≤ tt) (lit< tt) (lit≤ tt) (record { prefix_some = lit< tt; prefix_within = lit≤ tt; bound_some = lit< tt; bound_most = lit≤ tt }))
        (one_point 100 62 (end_within 62 bound) (lit< tt) (lit≤ tt) (lit< tt) (lit≤ tt) (record { prefix_some = lit< tt; prefix_within = lit≤ tt; bound_some = some; bound_most = most }));
    period = hyperperiod;
    frames = lit≤ tt;
  };
  most = lit≤ tt;
  room = lit≤ tt;
}

pub two_plans_point : (bound : ℕ) → HasPoint (two_plans bound) 1 0
two_plans_point bound = record { plan = slow_plan bound; of_task = refl; what = end_within 62 bound; of_plan = refl }
