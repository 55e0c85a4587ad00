-- Where the demand fits, all work of a hyperperiod is done at its end.
use Rattle.std.proofs.Common.{◌≡◌, ℕ, zero, suc, ◌+◌, ◌*◌, ◌/◌, ◌<◌, ◌≤◌, List, [], ◌∷◌, refl, sym, ap, subst, arith}
use Rattle.std.proofs.Math.Nat.{mul-le-mul_left, mul-le-mul_right, le_of_mul-le-mul_right}
use Rattle.std.proofs.lemmas.List.Sums.{sum_by-cons}
use Rattle.tcel_num.specs.Hyperperiod.{IsCommonMultiple, periods_of, demand}
use Rattle.tcel_num.specs.Plan.{Plan}
use Rattle.tcel_num.specs.Schedule.{released, served_counts}
use Rattle.tcel_demand.specs.Workload.{releases, asked}
use Rattle.tcel_demand.proofs.Levels.{all_done}
use Rattle.tcel_demand.proofs.Releases.{releases_reach, releases_least}
use Rattle.tcel_demand.proofs.Served.{AreWhole}
use Rattle.tcel_demand.proofs.ServedAtLast.{Repeat, repeat, positive_periods}
use Rattle.tcel_demand.proofs.Workloads.{sum, done, all_released, AreReleased, asked_after, asked-cons, level, serve_within, served_within, sum_within}

-- a hyperperiod has a whole number of releases
releases_whole : (period hyper : ℕ) → 0 < period → hyper ≡ hyper / period * period → releases period hyper ≡ hyper / period
releases_whole period hyper some whole =
    let most = releases_least period hyper (hyper / period) some (omega arith) in
    let reach = releases_reach period hyper some in
    let least = le_of_mul-le-mul_right {m = hyper / period} {n = releases period hyper} {k = period} (omega arith) some in
    omega arith

pub asked_whole : (plans : List Plan) (hyper : ℕ) → Repeat plans hyper → asked plans hyper ≡ demand plans hyper
asked_whole [] hyper repeats = refl
asked_whole (p ∷ plans) hyper repeats =
    let own : p.total * releases p.period hyper ≡ p.total * (hyper / p.period) = ap (λ n. p.total * n) (releases_whole p.period hyper repeats.1 repeats.0) in
    omega (arith, asked-cons p plans hyper, sum_by-cons (λ (plan : Plan). plan.total * (hyper / plan.period)) p plans, asked_whole plans hyper repeats.2)

-- what is asked before a time is at least the time's share of the demand
share : (plans : List Plan) (hyper time : ℕ) → Repeat plans hyper → time * demand plans hyper ≤ hyper * asked plans time
share [] hyper time repeats = omega arith
share (p ∷ plans) hyper time repeats =
    let frames : ℕ = hyper / p.period in
    let many : ℕ = releases p.period time in
    let reach : time * frames ≤ many * p.period * frames = mul-le-mul_right frames (releases_reach p.period time repeats.1) in
    let whole : many * hyper ≡ many * (frames * p.period) = ap (λ n. many * n) repeats.0 in
    let own : p.total * (time * frames) ≤ p.total * (many * hyper) = mul-le-mul_left p.total (omega arith) in
    let rest = share plans hyper time repeats.2 in
    let first : time * demand (p ∷ plans) hyper ≡ time * (p.total * frames + demand plans hyper) = ap (λ n. time * n) (sum_by-cons (λ (plan : Plan). plan.total * (hyper / plan.period)) p plans) in
    let second : hyper * asked (p ∷ plans) time ≡ hyper * (p.total * many + asked plans time) = ap (λ n. hyper * n) (asked-cons p plans time) in
    omega arith

-- where all that is released was served, each task was served its frames
each_whole : (plans : List Plan) (counts : List ℕ) (time : ℕ) → Repeat plans (suc time) → AreReleased plans counts time → all_released plans time ≤ sum counts → AreWhole plans (suc time) counts
each_whole [] [] time repeats h all = tt
each_whole [] (n ∷ counts) time repeats h all = absurd h
each_whole (p ∷ plans) [] time repeats h all = absurd h
each_whole (p ∷ plans) (n ∷ counts) time repeats h all =
    let within = sum_within plans counts time h.1 in
    let own = h.0 in
    let frames : releases p.period (suc time) ≡ suc time / p.period = releases_whole p.period (suc time) repeats.1 repeats.0 in
    let count : released p time ≡ p.total * (suc time / p.period) = ap (λ m. p.total * m) frames in
    let periods = repeats.0 in
    (omega arith, omega arith, repeats.1, each_whole plans counts time repeats.2 h.1 (omega arith))

pub whole_hyperperiod : (plans : List Plan) (hyper : ℕ) → 0 < hyper → IsCommonMultiple (periods_of plans) hyper → demand plans hyper ≤ hyper → AreWhole plans hyper (served_counts plans hyper)
whole_hyperperiod plans zero some common fits = absurd (omega arith)
whole_hyperperiod plans (suc time) some common fits =
    let repeats = repeat plans (suc time) some common in
    let positive = positive_periods plans (suc time) repeats in
    let all = asked_whole plans (suc time) repeats in
    let part : (t : ℕ) → t * asked plans (suc time) ≤ suc time * asked plans t = λ t. subst (λ n. t * n ≤ suc time * asked plans t) (sym all) (share plans (suc time) t repeats) in
    let enough = all_done (asked plans) (done plans) (level plans positive) (suc time) some (omega arith) part in
    each_whole plans (served_counts plans (suc time)) time repeats (serve_within plans (served_counts plans time) time (served_within plans positive time)) (omega (arith, asked_after plans time))
