-- What a set of plans has asked for and was served, in sums over its tasks.
use Rattle.std.proofs.Common.{◌≡◌, ℕ, zero, suc, ◌+◌, ◌*◌, ◌/◌, ◌<◌, ◌≤◌, List, [], ◌∷◌, map, refl, ap, ◌∙◌, arith}
use Rattle.std.proofs.Math.Nat.{mul-le-mul_left, div-mul-le_self}
use Rattle.std.proofs.lemmas.Nat.{le-div}
use Rattle.std.proofs.lemmas.Bool.{cond_both, ltb-true, ltb-false}
use Rattle.std.proofs.lemmas.List.Sums.{sum_by-cons}
use Rattle.tcel_num.specs.Plan.{Plan}
use Rattle.tcel_num.specs.Schedule.{released, is_pending, serve_highest, served_counts}
use Rattle.tcel_demand.specs.Workload.{releases, asked}
use Rattle.tcel_demand.proofs.Levels.{IsLevel}
use Rattle.tcel_demand.proofs.Releases.{releases_mono, releases_window}

-- how much all tasks were served
abbrev pub sum : List ℕ → ℕ
sum [] = 0
sum (n ∷ ns) = n + sum ns

-- how much of all tasks is released
abbrev pub all_released : List Plan → ℕ → ℕ
all_released [] time = 0
all_released (p ∷ plans) time = released p time + all_released plans time

-- no task was served more than is released of it
abbrev pub AreReleased : List Plan → List ℕ → ℕ → Type 0
AreReleased [] [] time = Unit {0}
AreReleased (p ∷ plans) (n ∷ counts) time = (n ≤ released p time) × AreReleased plans counts time
AreReleased _ _ time = ⊥

-- periods are not 0
abbrev pub Positive : List Plan → Type 0
Positive [] = Unit {0}
Positive (p ∷ plans) = (0 < p.period) × Positive plans

-- more is released as time goes on
pub released_rises : (plan : Plan) → 0 < plan.period → (early late : ℕ) → early ≤ late → released plan early ≤ released plan late
released_rises plan positive early late h =
    let few = div-mul-le_self early plan.period in
    let periods = le-div (early / plan.period) late plan.period positive (omega arith) in
    mul-le-mul_left plan.total (omega arith)

-- ---- what is served is released

pub serve_within : (plans : List Plan) (counts : List ℕ) (time : ℕ) → AreReleased plans counts time → AreReleased plans (serve_highest plans counts time) time
serve_within [] [] time h = tt
serve_within [] (n ∷ counts) time h = absurd h
serve_within (p ∷ plans) [] time h = absurd h
serve_within (p ∷ plans) (n ∷ counts) time h =
    cond_both (is_pending p n time) ((n + 1) ∷ counts) (n ∷ serve_highest plans counts time) (λ after. AreReleased (p ∷ plans) after time)
    (λ is. let less = ltb-true n (released p time) is in (omega arith, h.1)) (λ _. (h.0, serve_within plans counts time h.1))

within_later : (plans : List Plan) (counts : List ℕ) (time : ℕ) → Positive plans → AreReleased plans counts time → AreReleased plans counts (suc time)
within_later [] [] time positive h = tt
within_later [] (n ∷ counts) time positive h = absurd h
within_later (p ∷ plans) [] time positive h = absurd h
within_later (p ∷ plans) (n ∷ counts) time positive h =
    let more = released_rises p positive.0 time (suc time) (omega arith) in
    let now = h.0 in
    (omega arith, within_later plans counts time positive.1 h.1)

zeros_within : (plans : List Plan) (time : ℕ) → AreReleased plans (map (λ _. 0) plans) time
zeros_within [] time = tt
zeros_within (p ∷ plans) time = (omega arith, zeros_within plans time)

pub served_within : (plans : List Plan) → Positive plans → (time : ℕ) → AreReleased plans (served_counts plans time) time
served_within plans positive zero = zeros_within plans 0
served_within plans positive (suc time) =
    within_later plans (served_counts plans (suc time)) time positive (serve_within plans (served_counts plans time) time (served_within plans positive time))

-- so no more is served in all
pub sum_within : (plans : List Plan) (counts : List ℕ) (time : ℕ) → AreReleased plans counts time → sum counts ≤ all_released plans time
sum_within [] [] time h = omega arith
sum_within [] (n ∷ counts) time h = absurd h
sum_within (p ∷ plans) [] time h = absurd h
sum_within (p ∷ plans) (n ∷ counts) time h = let first = h.0 in let rest = sum_within plans counts time h.1 in omega arith

-- ---- a level of priority

-- what is asked before the end of a tick is what is released at its start
pub asked_after : (plans : List Plan) (time : ℕ) → asked plans (suc time) ≡ all_released plans time
asked_after [] time = refl
asked_after (p ∷ plans) time = sum_by-cons (λ (plan : Plan). plan.total * releases plan.period (suc time)) p plans ∙ ap (λ n. released p time + n) (asked_after plans time)

pub asked-cons : (p : Plan) (plans : List Plan) (time : ℕ) → asked (p ∷ plans) time ≡ p.total * releases p.period time + asked plans time
asked-cons p plans time = sum_by-cons (λ (plan : Plan). plan.total * releases plan.period time) p plans

asked-zero : (plans : List Plan) → asked plans 0 ≡ 0
asked-zero [] = refl
asked-zero (p ∷ plans) = asked-cons p plans 0 ∙ (let rest = asked-zero plans in omega arith)

pub asked_mono : (plans : List Plan) → Positive plans → (early late : ℕ) → early ≤ late → asked plans early ≤ asked plans late
asked_mono [] positive early late h = omega arith
asked_mono (p ∷ plans) positive early late h =
    let own = mul-le-mul_left p.total (releases_mono p.period early late positive.0 h) in
    omega (arith, asked-cons p plans early, asked-cons p plans late, asked_mono plans positive.1 early late h)

-- a window has no more asked than the time from 0 that is as long
pub asked_window : (plans : List Plan) → Positive plans → (start long : ℕ) → asked plans (start + long) ≤ asked plans start + asked plans long
asked_window [] positive start long = omega arith
asked_window (p ∷ plans) positive start long =
    let own : p.total * releases p.period (start + long) ≤ p.total * (releases p.period start + releases p.period long) = mul-le-mul_left p.total (releases_window p.period start long positive.0) in
    omega (arith, asked-cons p plans (start + long), asked-cons p plans start, asked-cons p plans long, asked_window plans positive.1 start long)

-- what was served in all before a time
abbrev pub done : List Plan → ℕ → ℕ
done plans time = sum (served_counts plans time)

-- a tick serves one cycle where some is left, and none where none is
record Serves (plans : List Plan) (counts : List ℕ) (time : ℕ) : Type 0 where
  works : sum counts < all_released plans time → sum (serve_highest plans counts time) ≡ sum counts + 1
  rests : all_released plans time ≤ sum counts → sum (serve_highest plans counts time) ≡ sum counts

serves : (plans : List Plan) (counts : List ℕ) (time : ℕ) → AreReleased plans counts time → Serves plans counts time
serves [] [] time h = record { works = λ less. absurd (omega arith); rests = λ _. refl }
serves [] (n ∷ counts) time h = absurd h
serves (p ∷ plans) [] time h = absurd h
serves (p ∷ plans) (n ∷ counts) time h =
    let rest = serves plans counts time h.1 in
    let within = sum_within plans counts time h.1 in
    let own = h.0 in
    record {
      works = λ less. cond_both (is_pending p n time) ((n + 1) ∷ counts) (n ∷ serve_highest plans counts time) (λ after. sum after ≡ sum (n ∷ counts) + 1)
          (λ _. omega arith) (λ is. let none = ltb-false n (released p time) is in let more = rest.works (omega arith) in omega arith);
      rests = λ most. cond_both (is_pending p n time) ((n + 1) ∷ counts) (n ∷ serve_highest plans counts time) (λ after. sum after ≡ sum (n ∷ counts))
          (λ is. let some = ltb-true n (released p time) is in absurd (omega arith)) (λ is. let none = ltb-false n (released p time) is in let same = rest.rests (omega arith) in omega arith);
    }

sum-zeros : (plans : List Plan) → sum (map (λ _. 0) plans) ≡ 0
sum-zeros [] = refl
sum-zeros (p ∷ plans) = let rest = sum-zeros plans in omega arith

done_within : (plans : List Plan) → Positive plans → (time : ℕ) → done plans time ≤ asked plans time
done_within plans positive zero = let none = sum-zeros plans in omega arith
done_within plans positive (suc time) =
    let counts = serve_within plans (served_counts plans time) time (served_within plans positive time) in
    omega (arith, sum_within plans (served_counts plans (suc time)) time counts, asked_after plans time)

pub level : (plans : List Plan) → Positive plans → IsLevel (asked plans) (done plans)
level plans positive = record {
  nothing = asked-zero plans;
  start = sum-zeros plans;
  rising = asked_mono plans positive;
  within = done_within plans positive;
  works = λ t less. (serves plans (served_counts plans t) t (served_within plans positive t)).works (omega (arith, asked_after plans t));
  rests = λ t most. (serves plans (served_counts plans t) t (served_within plans positive t)).rests (omega (arith, asked_after plans t));
}
