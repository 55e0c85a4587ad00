-- Sets of which no point is ever late, by the responses within a stretch after which all work is done.
use Rattle.std.proofs.Common.{◌≡◌, ℕ, zero, suc, ◌+◌, ◌*◌, ◌/◌, ◌<◌, Bool, true, ◌&&◌, List, [], ◌∷◌, subst, arith, Some}
use Rattle.std.specs.Prelude.{slice_get}
use Rattle.std.proofs.lemmas.Bool.{and_parts}
use Rattle.std.proofs.lemmas.Option.{same_Some, none-some}
use Rattle.tcel_num.specs.Lateness.{IsNeverLate}
use Rattle.tcel_num.specs.Plan.{Plan, Point}
use Rattle.tcel_num.specs.Schedule.{served_counts}
use Rattle.tcel_demand.proofs.Responses.{all_below, always_within, is_within, never_late}
use Rattle.tcel_demand.proofs.Served.{AreWhole, whole_at}

module _ (plans : List Plan) (stretch : ℕ) where
  -- the points of a plan respond within their bounds in each frame of the stretch
  abbrev points_in_time : ℕ → Plan → List Point → Bool
  points_in_time task plan [] = true
  points_in_time task plan (point ∷ points) = all_below (is_within plans task plan point point.bound) (stretch / plan.period) && points_in_time task plan points

  -- so do those of each of the plans, from a number on
  abbrev pub are_in_time : ℕ → List Plan → Bool
  are_in_time n [] = true
  are_in_time n (plan ∷ others) = points_in_time n plan plan.points && are_in_time (n + 1) others

  point_at : (task : ℕ) (plan : Plan) (points : List Point) (k : ℕ) (point : Point) → points_in_time task plan points ≡ true → slice_get points k ≡ Some point →
      all_below (is_within plans task plan point point.bound) (stretch / plan.period) ≡ true
  point_at task plan [] k point h e = absurd (none-some point e)
  point_at task plan (p ∷ points) zero point h e =
      subst (λ (q : Point). all_below (is_within plans task plan q q.bound) (stretch / plan.period) ≡ true) (same_Some p point e)
      (and_parts (all_below (is_within plans task plan p p.bound) (stretch / plan.period)) (points_in_time task plan points) h).0
  point_at task plan (p ∷ points) (suc k) point h e =
      point_at task plan points k point (and_parts (all_below (is_within plans task plan p p.bound) (stretch / plan.period)) (points_in_time task plan points) h).1 e

  plan_at : (n : ℕ) (others : List Plan) (k : ℕ) (plan : Plan) → are_in_time n others ≡ true → slice_get others k ≡ Some plan → points_in_time (n + k) plan plan.points ≡ true
  plan_at n [] k plan h e = absurd (none-some plan e)
  plan_at n (p ∷ others) zero plan h e =
      let here : n ≡ n + 0 = omega arith in
      subst (λ m. points_in_time m plan plan.points ≡ true) here
      (subst (λ (q : Plan). points_in_time n q q.points ≡ true) (same_Some p plan e) (and_parts (points_in_time n p p.points) (are_in_time (n + 1) others) h).0)
  plan_at n (p ∷ others) (suc k) plan h e =
      let there : n + 1 + k ≡ n + suc k = omega arith in
      subst (λ m. points_in_time m plan plan.points ≡ true) there (plan_at (n + 1) others k plan (and_parts (points_in_time n p p.points) (are_in_time (n + 1) others) h).1 e)

  -- then no point is ever late
  pub tested_in_time : AreWhole plans stretch (served_counts plans stretch) → 0 < stretch → are_in_time 0 plans ≡ true → IsNeverLate plans
  tested_in_time whole some tests place late =
      let plan = late.0 in
      let what = late.1 in
      let found = whole_at plans stretch (served_counts plans stretch) place.task plan whole late.3.of_task in
      let periods = found.periods in
      let frames : 0 < stretch / plan.period = positive (stretch / plan.period) plan.period (omega arith) in
      let here : 0 + place.task ≡ place.task = omega arith in
      let point = point_at place.task plan plan.points place.point what (subst (λ m. points_in_time m plan plan.points ≡ true) here (plan_at 0 plans place.task plan tests late.3.of_task)) late.3.of_plan in
      never_late plans place plan what late.3.of_task late.3.of_plan
      (λ response r. always_within plans stretch place.task place.frame place.point plan what response what.bound whole frames point r) late
    where
      positive : (n period : ℕ) → 0 < n * period → 0 < n
      positive zero period h = absurd (omega arith)
      positive (suc n) period h = omega arith
