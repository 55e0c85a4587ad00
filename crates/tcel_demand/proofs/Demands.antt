-- How large the demand of sound plans is.
use Rattle.std.proofs.Common.{◌≡◌, ℕ, ◌*◌, ◌+◌, ◌/◌, ◌^◌, ◌<◌, ◌≤◌, List, [], ◌∷◌, All, take, arith, ap, ◌∙◌, Some}
use Rattle.std.specs.Prelude.{slice_get}
use Rattle.std.proofs.lemmas.Option.{slice_get_within, get_or_from_slice_get}
use Rattle.std.proofs.Math.Nat.{mul-le-mul_right}
use Rattle.std.proofs.lemmas.List.Elements.{All-head, All-tail}
use Rattle.std.proofs.lemmas.List.Sums.{sum_by-cons, sum_by_more, sum_by-take-le}
use Rattle.tcel_num.specs.Hyperperiod.{demand}
use Rattle.tcel_num.specs.Plan.{Plan}
use Rattle.tcel_demand.specs.Sound.{IsSoundPlan, AreWithin, frames_in}

demand_bound : (plans : List Plan) (hyper : ℕ) → All IsSoundPlan plans → demand plans hyper ≤ 10 ^ 9 * frames_in plans hyper
demand_bound [] hyper sound = omega arith
demand_bound (p ∷ plans) hyper sound =
    let own : p.total * (hyper / p.period) ≤ 10 ^ 9 * (hyper / p.period) = mul-le-mul_right (hyper / p.period) (All-head IsSoundPlan p plans sound).total_most in
    omega (arith, sum_by-cons (λ (plan : Plan). plan.total * (hyper / plan.period)) p plans, sum_by-cons (λ (plan : Plan). hyper / plan.period) p plans, demand_bound plans hyper (All-tail IsSoundPlan p plans sound))

-- the cycles of some of the plans and those of the next one
pub demand_next : (plans : List Plan) (hyper i : ℕ) (plan : Plan) → slice_get plans i ≡ Some plan →
    demand (take (i + 1) plans) hyper ≡ demand (take i plans) hyper + plan.total * (hyper / plan.period)
demand_next plans hyper i plan e =
    let f : Plan → ℕ = λ p. p.total * (hyper / p.period) in
    sum_by_more f plans i plan (slice_get_within plans i plan e) ∙ ap (λ (p : Plan). demand (take i plans) hyper + f p) (get_or_from_slice_get plans i plan plan e)

-- they fit
pub next_fits : (plans : List Plan) (hyper i : ℕ) (plan : Plan) → AreWithin plans hyper → slice_get plans i ≡ Some plan →
    demand (take i plans) hyper + plan.total * (hyper / plan.period) < 2 ^ 64
next_fits plans hyper i plan within e =
    let f : Plan → ℕ = λ p. p.total * (hyper / p.period) in
    omega (arith, demand_next plans hyper i plan e, sum_by-take-le f plans (i + 1), demand_bound plans hyper within.sound.each, within.frames)
